use Rattle.std.proofs.Common.{refl, inl, inr}
use Rattle.std.proofs.lemmas.Bool.{both_ways}
use Rattle.tce_cert.proofs.forms.has_form.Goals as goal
use Rattle.tce_cert.proofs.forms.has_form.Goals.{then-is_opening_line-via-then-is_opening_line, then-is_opening_line-via-else-is_opening_line+then-is_end_line, then-has_memory_form-via-then-has_memory_form, then-has_memory_form-via-else-has_memory_form+then-has_table_form}

pub returns-then-is_opening_line : goal.returns-then-is_opening_line
returns-then-is_opening_line c = (
  λ t. elim c.then-is_opening_line.branch [
    | then-is_opening_line-via-then-is_opening_line w ↦ inl (c.is_opening_line.ensures.0 w.if-is_opening_line.true)
    | then-is_opening_line-via-else-is_opening_line+then-is_end_line w ↦ inr (inr (inr (inr (w.is_end_line.ensures.0 w.if-is_end_line.true))))
  ],
  λ h. refl,
)

pub returns-then-has_memory_form : goal.returns-then-has_memory_form
returns-then-has_memory_form c = (
  λ t. elim c.then-has_memory_form.branch [
    | then-has_memory_form-via-then-has_memory_form w ↦ inr (inl (c.has_memory_form.ensures.0 w.if-has_memory_form.true))
    | then-has_memory_form-via-else-has_memory_form+then-has_table_form w ↦ inr (inr (inl (w.has_table_form.ensures.0 w.if-has_table_form.true)))
  ],
  λ h. refl,
)

pub returns : goal.returns
returns c = (
  λ t. inr (inr (inr (inl (c.has_row_form.ensures.0 t)))),
  λ h. elim h [
    | inl opening ↦ absurd (both_ways c.is_opening_line.result c.if-is_opening_line.false (c.is_opening_line.ensures.1 opening))
    | inr (inl memory) ↦ absurd (both_ways c.has_memory_form.result c.if-has_memory_form.false (c.has_memory_form.ensures.1 memory))
    | inr (inr (inl table)) ↦ absurd (both_ways c.has_table_form.result c.if-has_table_form.false (c.has_table_form.ensures.1 table))
    | inr (inr (inr (inl row))) ↦ c.has_row_form.ensures.1 row
    | inr (inr (inr (inr end))) ↦ absurd (both_ways c.is_end_line.result c.if-is_end_line.false (c.is_end_line.ensures.1 end))
  ],
)
