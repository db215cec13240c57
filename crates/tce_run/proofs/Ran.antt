-- What the command leaves, by what the run of its specification leaves.
use Rattle.std.proofs.Common.{◌≡◌, ◌⊎◌, ℕ, ◌/◌, ◌≤◌, List, Option, inr, ap, ◌∙◌, subst, arith}
use Rattle.std.proofs.Math.Nat.{mul-div-le, mul-le-mul_left}
use Rattle.std.specs.Option.{ForSome, option_map}
use Rattle.tce_outside.specs.Files.{Files, others}
use Rattle.tce_spec.specs.Specification.{Specification}
use Rattle.tce_spec.specs.Operands.{largest_tile}
use Rattle.tce_job.specs.TensorFiles.{file_of}
use Rattle.tce_job.specs.ResultBytes.{with_result}
use Rattle.tce_job.specs.Laws.{LeavesNoHalfResult}
use Rattle.tce_job.specs.Takings.{tile_take, frame_count}
use Rattle.tce_job.specs.Opened.{IsRefused}
use Rattle.tce_job.specs.Refusals.{MayBeRefused}
use Rattle.tce_command.specs.declared.refusal.Refusal.{Refusal}
use Rattle.tce_command.specs.declared.refusal.Refusal.TheVariants.{Disk}
use Rattle.tce_command.specs.Source.{HasSpecification}
use Rattle.tce_run.specs.Refusals.{IsRunRefusalIfTold}
use Rattle.tce_run.specs.Done.{IsRun, IsRoomLeft, OnlyResultDiffers}
use Rattle.tce_run.specs.OfSource.{IsRunFault, IsRunOf}
use Rattle.tce_run.proofs.Told.{told_cause, told_room, unchanged}
use Rattle.tce_run.proofs.May.{untold}
use Rattle.tce_run.proofs.Reasons.{cause_map}

-- the words for tiles are within the budget
pub within : (s : Specification) (budget : ℕ) → tile_take s budget ≤ budget
within s budget =
    let frames : frame_count s budget ≤ budget / largest_tile s = omega arith in
    let words = mul-le-mul_left (largest_tile s) frames in
    let all = mul-div-le budget (largest_tile s) in
    omega (arith, words, all)

pub ran : (before middle after : Option Files) (taken taken_after : List (ℕ × ℕ)) (spec : List ℕ) (budget : ℕ) (s : Specification) (text : List ℕ) → middle ≡ before
    → ForSome before (λ files. HasSpecification files spec s) → IsRunOf middle after taken taken_after s budget text → IsRun before after taken taken_after spec budget text
ran before middle after taken taken_after spec budget s text same specified done = record {
  specification = s;
  specified = specified;
  able = λ files told. done.able files (same ∙ told);
  written = done.written ∙ ap (option_map (with_result s)) same;
  plan = done.reported.plan;
  least = done.reported.least;
  taking = done.reported.taken;
  within = within s budget;
  reported = done.text_is ∙ done.reported.report_is.text;
}

pub refused : (before middle after : Option Files) (taken taken_after : List (ℕ × ℕ)) (spec : List ℕ) (budget : ℕ) (s : Specification) (a : Refusal) → middle ≡ before
    → ForSome before (λ files. HasSpecification files spec s) → IsRunFault middle after taken taken_after s budget a → IsRunRefusalIfTold before spec budget a
refused before middle after taken taken_after spec budget s a same specified left = (
  inr (s, record { fault = left.fault; told = left.told; cause = untold middle s budget left.fault left.cause }),
  λ files is.
      inr (s, specified files is, told_cause files s budget left.fault a left.told (cause_map (MayBeRefused middle s) (IsRefused files s) s budget left.fault (λ r h. h.1 files (same ∙ is)) left.cause)),
)

pub left_unchanged : (before middle after : Option Files) (taken taken_after : List (ℕ × ℕ)) (budget : ℕ) (s : Specification) (a : Refusal) → middle ≡ before
    → IsRunFault middle after taken taken_after s budget a → (a ≡ Disk) ⊎ (after ≡ before)
left_unchanged before middle after taken taken_after budget s a same left = unchanged before middle after s left.fault a same left.told left.unchanged

pub left_room : (before middle after : Option Files) (taken taken_after : List (ℕ × ℕ)) (spec : List ℕ) (budget : ℕ) (s : Specification) (a : Refusal) → middle ≡ before
    → ForSome before (λ files. HasSpecification files spec s) → IsRunFault middle after taken taken_after s budget a → IsRoomLeft a before taken taken_after spec budget
left_room before middle after taken taken_after spec budget s a same specified left =
    told_room before middle s spec budget left.fault a taken taken_after same specified left.told left.tested left.room

pub others_stay : (before middle after : Option Files) (spec : List ℕ) (s : Specification) → middle ≡ before → ForSome before (λ files. HasSpecification files spec s)
    → others (file_of s s.result) after ≡ others (file_of s s.result) middle → LeavesNoHalfResult s middle after → OnlyResultDiffers spec before after
others_stay before middle after spec s same specified stay half = inr (record {
  specification = s;
  specified = specified;
  others_are = stay ∙ ap (others (file_of s s.result)) same;
  no_half = subst (λ o. LeavesNoHalfResult s o after) same half;
})
