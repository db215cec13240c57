-- Two refusals that tell one thing of an array are told alike.
use Rattle.std.proofs.Common.{◌≡◌, ℕ, List, ◌++◌, refl, sym, ap, ◌∙◌, codes}
use Rattle.tce_array.specs.declared.fault.ArrayFault.{ArrayFault}
use Rattle.tce_array.specs.declared.fault.ArrayFault.TheVariants as array_fault
use Rattle.tce_command.specs.Report.{status_of, code_of, error_text, array_text, fault_of}
use Rattle.tce_command.specs.Refusals.{SameRefusal, NamesFile}
use Rattle.tce_command.specs.declared.refusal.Refusal.{Refusal}
use Rattle.tce_command.specs.declared.refusal.Refusal.TheVariants.{Missing, Array}
use Rattle.tce_run.specs.Told.{NamesTensor, TellsArray}

files_alike : (name : List ℕ) (a b : Refusal) → NamesFile name a → NamesFile name b → SameRefusal a b
files_alike name (Missing x) (Missing y) p q = (refl, ap (λ n. codes "error 3: no file " ++ n ++ codes "\n") (p ∙ sym q))
files_alike name (Missing x) b p q = absurd q
files_alike name a b p q = absurd p

names_alike : (name : List ℕ) (u : ArrayFault) (a b : Refusal) → NamesTensor name u a → NamesTensor name u b → SameRefusal a b
names_alike name u (Array x f) (Array y g) p q = (
  refl,
  ap (λ n. codes "error 4: " ++ n ++ codes ".tca: " ++ array_text (fault_of f) ++ codes "\n") (p.0 ∙ sym q.0)
      ∙ ap (λ h. codes "error 4: " ++ y.bytes ++ codes ".tca: " ++ array_text h ++ codes "\n") (p.1 ∙ sym q.1),
)
names_alike name u (Array x f) b p q = absurd q
names_alike name u a b p q = absurd p

pub arrays_alike : (name : List ℕ) (u : ArrayFault) (a b : Refusal) → TellsArray name u a → TellsArray name u b → SameRefusal a b
arrays_alike name array_fault.NoFile a b p q = files_alike (name ++ codes ".tca") a b p q
arrays_alike name (array_fault.BadLength n) a b p q = names_alike name (array_fault.BadLength n) a b p q
arrays_alike name (array_fault.BadHeader n) a b p q = names_alike name (array_fault.BadHeader n) a b p q
arrays_alike name array_fault.Disk a b p q = names_alike name array_fault.Disk a b p q

pub same_alike : (a b : Refusal) → a ≡ b → SameRefusal a b
same_alike a b e = (ap (λ r. code_of (status_of r)) e, ap (λ r. error_text (status_of r)) e)
