-- A fault is told by one line.
use Rattle.std.proofs.Common.{◌≡◌, ◌≢◌, refl, sym, ap, ◌∙◌, ℕ, false, if◌then◌else◌, List, [], ◌++◌, Option, Some, None, codes}
use Rattle.std.specs.Fmt.{decimal}
use Rattle.tce_tree.specs.Faults as tree_faults
use Rattle.tce_tree.specs.declared.fault.TreeFault.TheVariants as trees
use Rattle.tce_spec.specs.Faults as faults
use Rattle.tce_spec.specs.FaultCode.{Shows, limit}
use Rattle.tce_spec.specs.declared.fault.Limit.{Limit}
use Rattle.tce_spec.specs.declared.fault.Limit.TheVariants.{Ranges, Indexes, Tensors, Rank, TileWords, ArrayWords}
use Rattle.tce_spec.specs.declared.fault.SpecFault.{SpecFault}
use Rattle.tce_spec.specs.declared.fault.SpecFault.TheVariants.{TooLong, BadText, TooManyNodes, NameTwice, UnknownName, BadNumber, LimitPassed, RankDiffers, RangeDiffers, IndexTwice, ResultIsOperand, Tree, ResultIndices, Memory}
use Rattle.tce_command.specs.Report.{at_line, limit_text, place_text, fault_text, wants_memory, code_of, status_of, error_text}
use Rattle.tce_command.specs.Refusals.{SameRefusal}
use Rattle.tce_command.specs.declared.status.Status.TheVariants.{SpecRefused, WantOfMemory}
use Rattle.tce_command.specs.declared.refusal.Refusal.TheVariants.{Specification}

abbrev pub place_of : faults.Fault → List ℕ
place_of faults.too_long = []
place_of (faults.bad_text line) = at_line line
place_of (faults.too_many_nodes line) = at_line line
place_of (faults.name_twice line name) = at_line line
place_of (faults.unknown_name line name) = at_line line
place_of (faults.bad_number line) = at_line line
place_of (faults.limit_passed line l) = at_line line
place_of (faults.rank_differs line name) = at_line line
place_of (faults.range_differs line name) = at_line line
place_of (faults.index_twice line name) = at_line line
place_of (faults.result_is_operand line name) = at_line line
place_of (faults.tree line fault) = at_line line
place_of (faults.result_indices line) = at_line line

abbrev pub limit_of : faults.Limit → List ℕ
limit_of faults.range_count = codes "ranges"
limit_of faults.index_count = codes "indexes"
limit_of faults.tensor_count = codes "tensors"
limit_of faults.rank = codes "rank"
limit_of faults.words_of_tile = codes "tile words"
limit_of faults.words_of_array = codes "array words"

abbrev pub tree_of : tree_faults.Fault → List ℕ
tree_of tree_faults.no_operation = codes "no operation"
tree_of (tree_faults.sum_over_absent name) = codes "sum over absent " ++ name ++ []
tree_of (tree_faults.too_many_loops node) = codes "node " ++ decimal node ++ codes " has more than 10 loops"
tree_of (tree_faults.volume_too_large node) = codes "node " ++ decimal node ++ codes " has too many iterations"

abbrev pub text_of : faults.Fault → List ℕ
text_of faults.too_long = codes "too long"
text_of (faults.bad_text line) = codes "bad text"
text_of (faults.too_many_nodes line) = codes "more than 32 operations"
text_of (faults.name_twice line name) = [] ++ name ++ codes " declared twice"
text_of (faults.unknown_name line name) = codes "unknown name " ++ name ++ []
text_of (faults.bad_number line) = codes "bad number"
text_of (faults.limit_passed line l) = codes "limit of " ++ limit_of l ++ codes " passed"
text_of (faults.rank_differs line name) = codes "rank of " ++ name ++ codes " differs"
text_of (faults.range_differs line name) = codes "range of " ++ name ++ codes " differs"
text_of (faults.index_twice line name) = codes "index " ++ name ++ codes " twice"
text_of (faults.result_is_operand line name) = [] ++ name ++ codes " is result and operand"
text_of (faults.tree line fault) = tree_of fault
text_of (faults.result_indices line) = codes "result indexes differ"

-- the words of a fault; none, where there is none
abbrev pub place_in : Option faults.Fault → List ℕ
place_in None = []
place_in (Some fault) = place_of fault

abbrev pub text_in : Option faults.Fault → List ℕ
text_in None = []
text_in (Some fault) = text_of fault

limit_same : (l : Limit) → limit_of (limit l) ≡ limit_text l
limit_same Ranges = refl
limit_same Indexes = refl
limit_same Tensors = refl
limit_same Rank = refl
limit_same TileWords = refl
limit_same ArrayWords = refl

-- what the program answers is told by the words of the fault, and not as want of memory
pub record IsTold (o : Option faults.Fault) (f : SpecFault) : Type 0 where
  pub kept : wants_memory f ≡ false
  pub place : place_text f ≡ place_in o
  pub text : fault_text f ≡ text_in o

pub told : (o : Option faults.Fault) (f : SpecFault) → Shows o f → f ≢ Memory → IsTold o f
told o TooLong s n = record { kept = refl; place = sym (ap place_in s); text = sym (ap text_in s) }
told o (BadText line) s n = record { kept = refl; place = sym (ap place_in s); text = sym (ap text_in s) }
told o (TooManyNodes line) s n = record { kept = refl; place = sym (ap place_in s); text = sym (ap text_in s) }
told o (NameTwice line name) s n = record { kept = refl; place = sym (ap place_in s); text = sym (ap text_in s) }
told o (UnknownName line name) s n = record { kept = refl; place = sym (ap place_in s); text = sym (ap text_in s) }
told o (BadNumber line) s n = record { kept = refl; place = sym (ap place_in s); text = sym (ap text_in s) }
told o (LimitPassed line l) s n =
    record { kept = refl; place = sym (ap place_in s); text = ap (λ t. codes "limit of " ++ t ++ codes " passed") (sym (limit_same l)) ∙ sym (ap text_in s) }
told o (RankDiffers line name) s n = record { kept = refl; place = sym (ap place_in s); text = sym (ap text_in s) }
told o (RangeDiffers line name) s n = record { kept = refl; place = sym (ap place_in s); text = sym (ap text_in s) }
told o (IndexTwice line name) s n = record { kept = refl; place = sym (ap place_in s); text = sym (ap text_in s) }
told o (ResultIsOperand line name) s n = record { kept = refl; place = sym (ap place_in s); text = sym (ap text_in s) }
told o (Tree line trees.NoOperation) s n = record { kept = refl; place = sym (ap place_in s); text = sym (ap text_in s) }
told o (Tree line (trees.SumOverAbsent name)) s n = record { kept = refl; place = sym (ap place_in s); text = sym (ap text_in s) }
told o (Tree line (trees.TooManyLoops node)) s n = record { kept = refl; place = sym (ap place_in s); text = sym (ap text_in s) }
told o (Tree line (trees.VolumeTooLarge node)) s n = record { kept = refl; place = sym (ap place_in s); text = sym (ap text_in s) }
told o (Tree line trees.Memory) s n = absurd s
told o (ResultIndices line) s n = record { kept = refl; place = sym (ap place_in s); text = sym (ap text_in s) }
told o Memory s n = absurd (n refl)

-- so two answers to one fault are told alike
pub told_alike : (o : Option faults.Fault) (f g : SpecFault) → IsTold o f → IsTold o g → SameRefusal (Specification f) (Specification g)
told_alike o f g a b = (code f a ∙ sym (code g b), line f a ∙ sym (line g b))
  where
    code : (f : SpecFault) → IsTold o f → code_of (status_of (Specification f)) ≡ 2
    code f t = ap (λ w. code_of (if w then WantOfMemory else SpecRefused f)) t.kept

    line : (f : SpecFault) → IsTold o f → error_text (status_of (Specification f)) ≡ codes "error 2: " ++ place_in o ++ text_in o ++ codes "\n"
    line f t = ap (λ w. error_text (if w then WantOfMemory else SpecRefused f)) t.kept ∙ (λ i. codes "error 2: " ++ t.place i ++ t.text i ++ codes "\n")
