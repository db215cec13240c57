-- Faults of the text that an einsum and a path produce: what the program answers is one of them, and each has one line.
use Rattle.std.proofs.Common.{◌≡◌, sym, ap, ◌∙◌, ◌++◌, Option, if◌then◌else◌, codes}
use Rattle.tce_spec.specs.Faults as faults
use Rattle.tce_spec.specs.declared.fault.SpecFault.{SpecFault}
use Rattle.tce_command.specs.Report.{code_of, status_of, error_text}
use Rattle.tce_command.specs.Refusals.{SameRefusal}
use Rattle.tce_command.specs.declared.status.Status.TheVariants.{EinsumRefused, WantOfMemory}
use Rattle.tce_command.specs.declared.trouble.EinsumTrouble.TheVariants.{Spec}
use Rattle.tce_command.specs.declared.refusal.Refusal.TheVariants.{Einsum}
use Rattle.tce_command.proofs.Faults.{IsTold, place_in, text_in}

-- two answers to one fault are told alike
pub told_alike : (o : Option faults.Fault) (f g : SpecFault) → IsTold o f → IsTold o g → SameRefusal (Einsum (Spec f)) (Einsum (Spec g))
told_alike o f g a b = (code f a ∙ sym (code g b), line f a ∙ sym (line g b))
  where
    code : (f : SpecFault) → IsTold o f → code_of (status_of (Einsum (Spec f))) ≡ 14
    code f t = ap (λ w. code_of (if w then WantOfMemory else EinsumRefused (Spec f))) t.kept

    line : (f : SpecFault) → IsTold o f → error_text (status_of (Einsum (Spec f))) ≡ codes "error 14: " ++ (place_in o ++ text_in o) ++ codes "\n"
    line f t = ap (λ w. error_text (if w then WantOfMemory else EinsumRefused (Spec f))) t.kept ∙ (λ i. codes "error 14: " ++ (t.place i ++ t.text i) ++ codes "\n")
