-- The refusals of a file of stored elements exclude each other, and its being as needed.
use Rattle.std.proofs.Common.{◌≡◌, ◌≢◌, refl, ap, ◌⊎◌, inl, inr, ℕ, List, Option, None, Result, Ok, Err}
use Rattle.tce_outside.specs.Files.{Files, file}
use Rattle.tce_space.specs.Tiling.{Tiling}
use Rattle.tce_sym.specs.declared.symmetry.Symmetry.{Symmetry as Exchange}
use Rattle.tce_sym.specs.declared.fault.SymFault.{SymFault}
use Rattle.tce_sym.specs.declared.fault.SymFault.TheVariants as sym_fault
use Rattle.tce_sym.specs.Faults.{IsFault}
use Rattle.tce_sym.proofs.OneAnswer.{agree}
use Rattle.tce_command.specs.Report.{sym_text}
use Rattle.tce_command.specs.Refusals.{SameRefusal}
use Rattle.tce_command.specs.declared.trouble.SymTrouble.{SymTrouble}
use Rattle.tce_command.specs.declared.trouble.SymTrouble.TheVariants as trouble
use Rattle.tce_command.specs.declared.refusal.Refusal.{Refusal}
use Rattle.tce_command.specs.declared.refusal.Refusal.TheVariants.{Specification, Missing, Array, Budget, Intermediates, Flat, Tensor, Misfit, Einsum, Spill, Symmetry, Disk, Memory}
use Rattle.tce_command.proofs.Outcomes.{not_absent}
use Rattle.tce_flat.specs.Tensors.{sym_file}
use Rattle.tce_flat.specs.Refusals.{HasPairs, IsSymRefusal}
use Rattle.tce_flat.proofs.Lines.{Says, say_alike, say_same}
use Rattle.tce_flat.proofs.Inputs.{IsGone, missing_line}

-- what is wrong, as opening answers it
abbrev pub fault_of : SymTrouble → SymFault
fault_of (trouble.BadLength n) = sym_fault.BadLength n
fault_of (trouble.BadHeader p) = sym_fault.BadHeader p

-- a file of stored elements is damaged
pub record IsSymDamaged (shape : Tiling) (found : Option (List ℕ)) (refusal : Refusal) : Type 0 where
  pub wrong : SymTrouble
  pub is : IsFault shape.extents found (fault_of wrong)
  pub says : Says 16 (sym_text wrong) refusal

sym_cases : (files : Files) (tensor : List ℕ) (shape : Tiling) (a : Refusal) → IsSymRefusal files tensor shape a
    → IsGone (sym_file tensor) (file files (sym_file tensor)) a ⊎ IsSymDamaged shape (file files (sym_file tensor)) a
sym_cases files tensor shape (Missing name) p = inl (record { gone = p.1; says = record { code_is = refl; line_is = ap missing_line p.0 } })
sym_cases files tensor shape (Symmetry name (trouble.BadLength n)) p = inr (record { wrong = trouble.BadLength n; is = p.1; says = record { code_is = refl; line_is = refl } })
sym_cases files tensor shape (Symmetry name (trouble.BadHeader n)) p = inr (record { wrong = trouble.BadHeader n; is = p.1; says = record { code_is = refl; line_is = refl } })
sym_cases files tensor shape (Specification x) p = absurd p
sym_cases files tensor shape (Array x u) p = absurd p
sym_cases files tensor shape (Budget x) p = absurd p
sym_cases files tensor shape (Intermediates x) p = absurd p
sym_cases files tensor shape (Flat x) p = absurd p
sym_cases files tensor shape (Tensor x) p = absurd p
sym_cases files tensor shape (Misfit x) p = absurd p
sym_cases files tensor shape (Einsum x) p = absurd p
sym_cases files tensor shape (Spill x) p = absurd p
sym_cases files tensor shape Disk p = absurd p
sym_cases files tensor shape Memory p = absurd p

abbrev refused : SymFault → Result Exchange SymFault
refused fault = Err fault

abbrev granted : Exchange → Result Exchange SymFault
granted s = Ok s

-- no fault of the disk, and no right answer
not_disk : (x : SymTrouble) → refused (fault_of x) ≢ refused sym_fault.Disk
not_disk (trouble.BadLength n) e = absurd (cc)
not_disk (trouble.BadHeader n) e = absurd (cc)

not_granted : (s : Exchange) (fault : SymFault) → granted s ≢ refused fault
not_granted s fault e = absurd (cc)

same_trouble : (x y : SymTrouble) → refused (fault_of x) ≡ refused (fault_of y) → x ≡ y
same_trouble (trouble.BadLength m) (trouble.BadLength n) e = cc
same_trouble (trouble.BadHeader m) (trouble.BadHeader n) e = cc
same_trouble (trouble.BadLength m) (trouble.BadHeader n) e = absurd (cc)
same_trouble (trouble.BadHeader m) (trouble.BadLength n) e = absurd (cc)

-- one file has one fault, a file that is absent has another, and one of stored elements has none
one_trouble : (extents : List ℕ) (found : Option (List ℕ)) (x y : SymTrouble) → IsFault extents found (fault_of x) → IsFault extents found (fault_of y) → x ≡ y
one_trouble extents found x y p q = same_trouble x y (agree extents found (refused (fault_of x)) (refused (fault_of y)) p q (not_disk x) (not_disk y))

gone_not_wrong : (extents : List ℕ) (found : Option (List ℕ)) (x : SymTrouble) → found ≡ None → IsFault extents found (fault_of x) → ⊥
gone_not_wrong extents found (trouble.BadLength n) gone p = not_absent _ found p gone
gone_not_wrong extents found (trouble.BadHeader n) gone p = not_absent _ found p gone

pairs_not_wrong : (shape : Tiling) (found : Option (List ℕ)) (x : SymTrouble) → HasPairs shape found → IsFault shape.extents found (fault_of x) → ⊥
pairs_not_wrong shape found x there p =
    not_granted there.0 (fault_of x) (agree shape.extents found (granted there.0) (refused (fault_of x)) there.1 p (not_granted there.0 sym_fault.Disk) (not_disk x))

pub one_sym_refusal : (files : Files) (tensor : List ℕ) (shape : Tiling) (a b : Refusal) → IsSymRefusal files tensor shape a → IsSymRefusal files tensor shape b → SameRefusal a b
one_sym_refusal files tensor shape a b p q = by_cases (sym_cases files tensor shape a p) (sym_cases files tensor shape b q)
  where
    by_cases : IsGone (sym_file tensor) (file files (sym_file tensor)) a ⊎ IsSymDamaged shape (file files (sym_file tensor)) a
        → IsGone (sym_file tensor) (file files (sym_file tensor)) b ⊎ IsSymDamaged shape (file files (sym_file tensor)) b → SameRefusal a b
    by_cases (inl x) (inl y) = say_alike 3 _ a b x.says y.says
    by_cases (inl x) (inr y) = absurd (gone_not_wrong shape.extents _ y.wrong x.gone y.is)
    by_cases (inr x) (inl y) = absurd (gone_not_wrong shape.extents _ x.wrong y.gone x.is)
    by_cases (inr x) (inr y) = say_same 16 sym_text x.wrong y.wrong a b (one_trouble shape.extents _ x.wrong y.wrong x.is y.is) x.says y.says

pub sym_not_refused : (files : Files) (tensor : List ℕ) (shape : Tiling) (a : Refusal) → HasPairs shape (file files (sym_file tensor)) → IsSymRefusal files tensor shape a → ⊥
sym_not_refused files tensor shape a there p = by_cases (sym_cases files tensor shape a p)
  where
    by_cases : IsGone (sym_file tensor) (file files (sym_file tensor)) a ⊎ IsSymDamaged shape (file files (sym_file tensor)) a → ⊥
    by_cases (inl x) = not_absent _ (file files (sym_file tensor)) there.1 x.gone
    by_cases (inr x) = pairs_not_wrong shape _ x.wrong there x.is
