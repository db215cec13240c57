-- No file differs but those of the results.
use Rattle.std.proofs.Common.{◌≡◌, ◌⊎◌, inl, inr, refl, ap, ◌∙◌, ℕ, ◌+◌, List, [], ◌∷◌, take, All, Option, Some, None}
use Rattle.std.specs.Option.{option_map}
use Rattle.std.proofs.lemmas.List.Elements.{All-take}
use Rattle.tce_outside.specs.Files.{Files, file}
use Rattle.tce_outside.proofs.Files.{without_file-with_file}
use Rattle.tce_outside.proofs.Told.{other_files}
use Rattle.tce_spec.specs.Specification.{Specification}
use Rattle.tce_job.specs.TensorFiles.{file_of}
use Rattle.tce_job.specs.ResultBytes.{with_result, result_bytes}
use Rattle.tce_job.specs.declared.fault.JobFault.{JobFault}
use Rattle.tce_job.specs.declared.fault.JobFault.TheVariants.{BudgetTooSmall, IntermediatesTooLarge, Array, Disk, Memory}
use Rattle.tce_job.specs.Several.{files_after, OnlyResultsDiffer}
use Rattle.tce_job.proofs.Several.{found, IsApart, one_other}
use Rattle.tce_batch.specs.Left.{files_at, HasEndedAt, IsLeftAt}
use Rattle.tce_batch.proofs.Files.{all_first, all_rest}
use Rattle.tce_batch.proofs.Ended.{at_all}

after_others : (ss : List Specification) (files : Files) (name : List ℕ) → All (IsApart name) ss → file (files_after ss files) name ≡ file files name
after_others [] files name none = refl
after_others (s ∷ ss) files name none =
    after_others ss (with_result s files) name (all_rest (IsApart name) s ss none)
    ∙ other_files (file_of s s.result) name files (with_result s files) (ap Some (without_file-with_file files (file_of s s.result) (result_bytes s files))) (all_first (IsApart name) s ss none)

at_others : (batch : List Specification) (before : Option Files) (count : ℕ) (name : List ℕ) → All (IsApart name) batch → found name (files_at before batch count) ≡ found name before
at_others batch None count name none = refl
at_others batch (Some files) count name none = ap Some (after_others (take count batch) files name (All-take (IsApart name) count batch none))

pub told_others : (batch : List Specification) (before after : Option Files) → after ≡ option_map (files_after batch) before → OnlyResultsDiffer batch before after
told_others batch None after is = λ name none. ap (found name) is
told_others batch (Some files) after is = λ name none. ap (found name) is ∙ ap Some (after_others batch files name none)

pub same_others : (batch : List Specification) (before after : Option Files) → after ≡ before → OnlyResultsDiffer batch before after
same_others batch before after is = λ name none. ap (found name) is

-- what is left where a formula fails
pub left_others : (before after : Option Files) (taken taken_after : List (ℕ × ℕ)) (batch : List Specification) (budget formula : ℕ) (fault : JobFault) → IsLeftAt before after taken taken_after batch budget formula fault
    → OnlyResultsDiffer batch before after
left_others before after taken taken_after batch budget formula (BudgetTooSmall n) left = same_others batch before after left.0
left_others before after taken taken_after batch budget formula (IntermediatesTooLarge n) left = same_others batch before after left.0
left_others before after taken taken_after batch budget formula (Array t fault) left = same_others batch before after left.0
left_others before after taken taken_after batch budget formula Disk left = λ name none.
    let s = left.specification in
    one_other name (file_of s s.result) (files_at before batch left.number) after (at_all (IsApart name) batch left.number s none left.at) left.here.0.others_are ∙ at_others batch before left.number name none
left_others before after taken taken_after batch budget formula Memory left = λ name none. by_end name none left.here
  where
    by_end : (name : List ℕ) → All (IsApart name) batch → HasEndedAt before after taken taken_after batch budget left.number → found name after ≡ found name before
    by_end name none (inl is) = ap (found name) is.0 ∙ at_others batch before left.number name none
    by_end name none (inr is) = ap (found name) is.0 ∙ at_others batch before (left.number + 1) name none
