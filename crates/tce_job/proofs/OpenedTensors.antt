-- Operands that are opened one after the other.
use Rattle.std.proofs.Common.{◌≡◌, ◌≢◌, ℕ, ◌+◌, ◌<◌, ◌≤◌, List, length, Option, set, ◌⊎◌, inl, inr, refl, sym, ap, ◌∙◌, subst, arith}
use Rattle.std.specs.Option.{ForSome, IsSomeAnd}
use Rattle.std.proofs.lemmas.Bool.{cases_lt, cases_order}
use Rattle.std.proofs.lemmas.Grind.{get_or-set_at}
use Rattle.std.proofs.lemmas.List.{get_or-set_other, length-set}
use Rattle.tce_outside.specs.Files.{Files, file}
use Rattle.tce_array.specs.declared.form.Form.{Form}
use Rattle.tce_array.specs.declared.form.Form.TheVariants.{One}
use Rattle.tce_array.specs.Forms.{form_of, IsArray}
use Rattle.tce_spec.specs.Specification.{Specification}
use Rattle.tce_spec.specs.Operands.{shape_of}
use Rattle.tce_job.specs.TensorFiles.{file_of}
use Rattle.tce_job.specs.Opened.{operand, form_at, IsOpened, AreOpened}

-- the first operands are opened, that many of them
pub record IsOpening (s : Specification) (start now : Option Files) (faults later_faults : ℕ) (forms : List Form) (count : ℕ) : Type 0 where
  pub same : now ≡ start
  pub counted : later_faults ≡ faults
  pub opened : ForSome start (λ files. AreOpened files s forms count)
  pub long : length forms ≡ 32

-- the file of this tensor has this form
abbrev pub HasForm : Files → Specification → ℕ → Form → Type 0
HasForm files s t form = IsSomeAnd (file files (file_of s t)) (λ bytes. (form_of bytes ≡ form) × IsArray (shape_of s t) bytes)

-- one more
next_opened : (files : Files) (s : Specification) (forms : List Form) (form : Form) (k t : ℕ) → t ≡ operand s k → t < length forms → AreOpened files s forms k → HasForm files s t form
    → AreOpened files s (set forms t form) (k + 1)
next_opened files s forms form k t is within before here d h = by_tensor (cases_order (operand s d) t)
  where
    at_other : operand s d ≢ t → IsOpened files s (set forms t form) (operand s d)
    at_other differs = by_number (cases_lt d k)
      where
        by_number : (d < k) ⊎ (k ≤ d) → IsOpened files s (set forms t form) (operand s d)
        by_number (inl first) = subst (HasForm files s (operand s d)) (sym (get_or-set_other forms t (operand s d) form One differs)) (before d first)
        by_number (inr last) = let e : d ≡ k = omega arith in absurd (differs (ap (operand s) e ∙ sym is))

    by_tensor : (operand s d ≡ t) ⊎ ((operand s d < t) ⊎ (t < operand s d)) → IsOpened files s (set forms t form) (operand s d)
    by_tensor (inl same) =
        let found : form ≡ form_at (set forms t form) (operand s d) = sym (get_or-set_at forms t (operand s d) form One same within) in
        subst (HasForm files s (operand s d)) found (subst (λ u. HasForm files s u form) (sym same) here)
    by_tensor (inr (inl below)) = at_other (λ e. absurd (omega arith))
    by_tensor (inr (inr above)) = at_other (λ e. absurd (omega arith))

pub begins : (s : Specification) (told : Option Files) (faults : ℕ) (forms : List Form) → length forms ≡ 32 → IsOpening s told told faults faults forms 0
begins s told faults forms long = record { same = refl; counted = refl; opened = λ files was d h. absurd (omega arith); long = long }

pub goes_on : (s : Specification) (start now then : Option Files) (a b c : ℕ) (forms : List Form) (form : Form) (k t : ℕ) → t ≡ operand s k → t < 32
    → IsOpening s start now a b forms k → then ≡ now → c ≡ b → ForSome now (λ files. HasForm files s t form) → IsOpening s start then a c (set forms t form) (k + 1)
goes_on s start now then a b c forms form k t is within before same counted here = record {
  same = same ∙ before.same;
  counted = counted ∙ before.counted;
  opened = λ files told. next_opened files s forms form k t is (omega (arith, before.long)) (before.opened files told) (here files (before.same ∙ told));
  long = length-set forms t form ∙ before.long;
}
