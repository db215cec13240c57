use Rattle.std.proofs.Common.{◌≡◌, false, true, refl, sym, ◌∙◌, inl, inr}
use Rattle.tce_cert.proofs.due.fault_of.Goals.{then-has_form, else-has_form}
use Rattle.tce_cert.proofs.due.fault_of.Goals as goal

pub returns-else-has_node_form : goal.returns-else-has_node_form
returns-else-has_node_form c = elim c.if-has_form.branch [
  | then-has_form w ↦ absurd (let e = w.value-is in let f = c.if-has_node_form.false in cc)
  | else-has_form w ↦ inr (
    (λ h. elim h [
      | inl other ↦ absurd (let e : false ≡ true = sym w.if-has_form.false ∙ c.has_form.ensures.1 other in cc)
      | inr of_node ↦ absurd (let e = w.has_node_form.ensures.1 of_node in let f = c.if-has_node_form.false in let g = w.value-is in cc)
    ]),
    refl,
  )
]
