-- The first fault of several, and what the program answers.
use Rattle.std.proofs.Common.{◌≡◌, ℕ, Bool, false, not, Option, Some, None, Result, Ok, Err, refl, sym, ap, subst}
use Rattle.std.proofs.lemmas.Result.{IfErr-weaker, on_ok_weaker}
use Rattle.std.specs.Prelude.{OnOk, IfErr}
use Rattle.std.specs.Option.{option_or}
use Rattle.std.specs.Result.{IsErr, IsErrAnd}
use Rattle.tce_tree.specs.declared.fault.TreeFault.TheVariants as tree_faults
use Rattle.tce_spec.specs.Faults.{Fault, fault_if, bad_number}
use Rattle.tce_spec.specs.FaultCode.{Shows}
use Rattle.tce_spec.specs.declared.fault.SpecFault.{SpecFault}
use Rattle.tce_spec.specs.declared.fault.SpecFault.TheVariants.{TooLong, BadText, TooManyNodes, NameTwice, UnknownName, BadNumber, LimitPassed, RankDiffers, RangeDiffers, IndexTwice, ResultIsOperand, Tree, ResultIndices, Memory}

-- an error is handed on
pub ok_of_err : {T : Type 0} (r : Result T SpecFault) (P : Type 0) → IsErr r → OnOk r P
ok_of_err (Ok x) P is = cc
ok_of_err (Err fault) P is = tt

pub err_shows : {T : Type 0} (r : Result T SpecFault) (fault : SpecFault) (found : Option Fault) → IsErrAnd r (λ y. y ≡ fault) → Shows found fault → IfErr r (Shows found)
err_shows (Ok x) fault found is shown = absurd is
err_shows (Err y) fault found is shown = subst (Shows found) (sym is) shown

-- the fault of a column is the first where the columns before it have none
pub shown_1 : (a rest : Option Fault) (fault : SpecFault) → Shows a fault → Shows (option_or a rest) fault
shown_1 (Some x) rest fault shown = shown
shown_1 None rest TooLong shown = cc
shown_1 None rest (BadText line) shown = cc
shown_1 None rest (TooManyNodes line) shown = cc
shown_1 None rest (NameTwice line name) shown = cc
shown_1 None rest (UnknownName line name) shown = cc
shown_1 None rest (BadNumber line) shown = cc
shown_1 None rest (LimitPassed line limit) shown = cc
shown_1 None rest (RankDiffers line name) shown = cc
shown_1 None rest (RangeDiffers line name) shown = cc
shown_1 None rest (IndexTwice line name) shown = cc
shown_1 None rest (ResultIsOperand line name) shown = cc
shown_1 None rest (Tree line tree_faults.NoOperation) shown = cc
shown_1 None rest (Tree line (tree_faults.SumOverAbsent name)) shown = cc
shown_1 None rest (Tree line (tree_faults.TooManyLoops node)) shown = cc
shown_1 None rest (Tree line (tree_faults.VolumeTooLarge node)) shown = cc
shown_1 None rest (Tree line tree_faults.Memory) shown = absurd shown
shown_1 None rest (ResultIndices line) shown = cc
shown_1 None rest Memory shown = tt

pub shown_behind : (a rest : Option Fault) (fault : SpecFault) → a ≡ None → Shows rest fault → Shows (option_or a rest) fault
shown_behind a rest fault none shown = subst (λ (m : Option Fault). Shows (option_or m rest) fault) (sym none) shown

pub shown_3 : (a b c rest : Option Fault) (fault : SpecFault) → a ≡ None → b ≡ None → Shows c fault → Shows (option_or a (option_or b (option_or c rest))) fault
shown_3 a b c rest fault na nb shown = shown_behind a _ fault na (shown_behind b _ fault nb (shown_1 c rest fault shown))

pub shown_4 : (a b c d rest : Option Fault) (fault : SpecFault) → a ≡ None → b ≡ None → c ≡ None → Shows d fault
    → Shows (option_or a (option_or b (option_or c (option_or d rest)))) fault
shown_4 a b c d rest fault na nb nc shown = shown_behind a _ fault na (shown_3 b c d rest fault nb nc shown)

pub shown_5 : (a b c d e rest : Option Fault) (fault : SpecFault) → a ≡ None → b ≡ None → c ≡ None → d ≡ None → Shows e fault
    → Shows (option_or a (option_or b (option_or c (option_or d (option_or e rest))))) fault
shown_5 a b c d e rest fault na nb nc nd shown = shown_behind a _ fault na (shown_4 b c d e rest fault nb nc nd shown)

-- the last of six columns decides where those before it have none
pub all_kept : {T : Type 0} (r : Result T SpecFault) (a b c d e g : Option Fault) → a ≡ None → b ≡ None → c ≡ None → d ≡ None → e ≡ None → OnOk r (g ≡ None)
    → OnOk r (option_or a (option_or b (option_or c (option_or d (option_or e (option_or g None))))) ≡ None)
all_kept r a b c d e g na nb nc nd ne kept = rw (na, nb, nc, nd, ne) (on_ok_weaker r (λ none. ap (λ (o : Option Fault). option_or o None) none) kept)

pub last_shown : {T : Type 0} (r : Result T SpecFault) (a b c d e g : Option Fault) → a ≡ None → b ≡ None → c ≡ None → d ≡ None → e ≡ None → IfErr r (Shows g)
    → IfErr r (Shows (option_or a (option_or b (option_or c (option_or d (option_or e (option_or g None)))))))
last_shown r a b c d e g na nb nc nd ne shown =
    IfErr-weaker r (Shows g) _
    (λ fault is. shown_behind a _ fault na (shown_5 b c d e g None fault nb nc nd ne is)) shown

-- a number that is no constant, where the column before has none
pub number_shown : (a rest : Option Fault) (good : Bool) (line : ℕ) → a ≡ None → good ≡ false → option_or a (option_or (fault_if (not good) (bad_number line)) rest) ≡ Some (bad_number line)
number_shown a rest good line none bad = rw (none, bad) refl
