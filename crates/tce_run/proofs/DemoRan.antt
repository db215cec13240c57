-- What a run of a demonstration answers.
use Rattle.std.proofs.Common.{◌≡◌, ◌∙◌, ℕ, List, ◌⊎◌, inl, inr, Option, Some, None, Result, Ok, Err, IfOk, IfErr, ◌<◌, refl, sym, ap, subst, arith}
use Rattle.std.specs.Option.{ForSome, option_map}
use Rattle.tce_base.specs.Word.{wrapping_sum}
use Rattle.tce_outside.specs.Files.{Files, others}
use Rattle.tce_space.specs.Tiling.{Tiling}
use Rattle.tce_array.specs.declared.form.Form.TheVariants.{One}
use Rattle.tce_array.specs.Forms.{cell}
use Rattle.tce_tools.specs.Flat.{in_order, contents}
use Rattle.tce_command.specs.Refusals.{IsFree}
use Rattle.tce_command.specs.declared.refusal.Refusal.{Refusal}
use Rattle.tce_spec.specs.Specification.{Specification}
use Rattle.tce_spec.specs.Operands.{shape_of}
use Rattle.tce_job.specs.TensorFiles.{file_of}
use Rattle.tce_job.specs.declared.fault.JobFault.{JobFault}
use Rattle.tce_job.specs.declared.fault.JobFault.TheVariants.{BudgetTooSmall, IntermediatesTooLarge, Array, Disk, Memory}
use Rattle.tce_job.specs.Refusals.{IsFree as IsFreeFault}
use Rattle.tce_job.specs.Prepared.{HasTaken, IsRoomLeft}
use Rattle.tce_job.specs.ResultBytes.{with_result}
use Rattle.tce_job.specs.Run.{IsReported}
use Rattle.tce_job.specs.declared.report.RunReport.{RunReport}
use Rattle.tce_run.specs.DemoSpecification.{IsDemo, IsDemoOf, IsExtent, demo_specification}
use Rattle.tce_run.proofs.DemoSpecified.{specified}
use Rattle.tce_tools.specs.Demo.{demo_text}
use Rattle.tce_run.specs.DemoFiles.{DemoOthersStay, with_input, with_demo}
use Rattle.tce_run.proofs.OtherFiles.{tensor_stays, stay_twice}
use Rattle.tce_run.specs.DemoDone.{demo_budget, result_sum, report_text, IsRunOf, CanRunDemo, IsDemonstrated, IsDemoTaking}
use Rattle.tce_run.proofs.Affordable.{affordable, take_within}
use Rattle.tce_run.proofs.DemoOperands.{has_operands}

-- what a refused run leaves of the room, by the command's refusal
pub room_left : (f : JobFault) (r : Refusal) (s : Specification) (budget : ℕ) (before after : List (ℕ × ℕ)) → (IsFreeFault f → IsFree r) → IsRoomLeft f s budget before after
    → (IsFree r × HasTaken s budget before after) ⊎ (after ≡ before)
room_left (BudgetTooSmall n) r s budget before after free left = inr left
room_left (IntermediatesTooLarge n) r s budget before after free left = inr left
room_left (Array t f) r s budget before after free left = inr left
room_left Disk r s budget before after free (inl same) = inr same
room_left Disk r s budget before after free (inr taken) = inl (free tt, taken)
room_left Memory r s budget before after free (inl same) = inr same
room_left Memory r s budget before after free (inr taken) = inl (free tt, taken)

-- one change behind another
pub map_twice : {X Y Z : Type 0} (f : X → Y) (g : Y → Z) (o : Option X) → option_map g (option_map f o) ≡ option_map (λ x. g (f x)) o
map_twice f g None = refl
map_twice f g (Some x) = refl

-- the sum of the file of the result
pub summed : {E : Type 0} (answer : Result ℕ E) (told : Option Files) (s : Specification) (shape : Tiling) (name : List ℕ) → shape ≡ shape_of s s.result → name ≡ file_of s s.result
    → IfOk answer (λ n. ForSome told (λ files. n ≡ wrapping_sum (in_order shape (cell One shape (contents files name))))) → IfOk answer (λ n. ForSome told (λ files. n ≡ result_sum s files))
summed answer told s shape name shaped named sum =
    subst (λ (m : List ℕ). IfOk answer (λ n. ForSome told (λ files. n ≡ wrapping_sum (in_order (shape_of s s.result) (cell One (shape_of s s.result) (contents files m)))))) named
    (subst (λ (u : Tiling). IfOk answer (λ n. ForSome told (λ files. n ≡ wrapping_sum (in_order u (cell One u (contents files name)))))) shaped sum)

-- only the result's file changes in the run
pub result_stays : (s : Specification) → IsDemo s → (before after : Option Files) → others (file_of s s.result) after ≡ others (file_of s s.result) before → DemoOthersStay before after
result_stays s d before after same = tensor_stays s d s.result (below (ap (λ (x : Specification). x.result) d.is)) before after same
  where
    below : s.result ≡ 4 → s.result < 5
    below e = omega arith

-- the result is written behind the operands
pub all_written : (s : Specification) (seed : ℕ) (text : List ℕ) (before input ran after : Option Files) → input ≡ option_map (with_input s seed text) before → ran ≡ option_map (with_result s) input
    → after ≡ ran → after ≡ option_map (with_demo s seed text) before
all_written s seed text before input ran after first second same =
    same ∙ second ∙ ap (option_map (with_result s)) first ∙ map_twice (with_input s seed text) (with_result s) before

-- a run that is reported
pub demonstrated : (s : Specification) → IsDemo s → (seed : ℕ) (text : List ℕ) (before after : Option Files) (takings takings_after : List (ℕ × ℕ)) (run : RunReport) (sum : ℕ) (report : List ℕ)
    → after ≡ option_map (with_demo s seed text) before → IsReported s demo_budget takings takings_after run → ForSome after (λ files. sum ≡ result_sum s files)
    → report ≡ report_text run.memory run.tiles sum → IsRunOf s seed text before after takings takings_after report
demonstrated s d seed text before after takings takings_after run sum report written told summed is = record {
  written = written;
  plan = told.plan;
  least = told.least;
  taken = told.taken;
  within = take_within s d;
  sum = sum;
  summed = summed;
  reported = is ∙ ap (λ n. report_text n run.tiles sum) told.report_is.memory ∙ ap (λ n. report_text told.plan.memory n sum) told.report_is.tiles;
}

pub all_stay : (s : Specification) → IsDemo s → (before input ran after : Option Files) → DemoOthersStay before input → others (file_of s s.result) ran ≡ others (file_of s s.result) input → after ≡ ran
    → DemoOthersStay before after
all_stay s d before input ran after first second same =
    subst (λ (told : Option Files). DemoOthersStay before told) (sym same) (stay_twice before input ran first (result_stays s d input ran second))

pub sum_after : (s : Specification) (ran after : Option Files) (n : ℕ) → after ≡ ran → ForSome ran (λ files. n ≡ result_sum s files) → ForSome after (λ files. n ≡ result_sum s files)
sum_after s ran after n same sum = subst (λ (told : Option Files). ForSome told (λ files. n ≡ result_sum s files)) (sym same) sum

-- a demonstration can be run over what it writes
can_run : (s : Specification) (v o : ℕ) → s ≡ demo_specification v o → IsExtent v → IsExtent o → CanRunDemo v o s
can_run s v o is hv ho seed files =
    let d : IsDemo s = record { v = v; o = o; v_within = hv; o_within = ho; is = is } in
    record { affordable = affordable s d; operands = has_operands s d seed (demo_text v o) files }

-- what is run is what the text specifies
pub all_done : {A E : Type 0} (bytes : A → List ℕ) (answer : Result A E) (s : Specification) (text : List ℕ) (seed v o : ℕ) (before after : Option Files) (takings takings_after : List (ℕ × ℕ))
    → s ≡ demo_specification v o → text ≡ demo_text v o → IsExtent v → IsExtent o
    → IfOk answer (λ report. IsRunOf s seed text before after takings takings_after (bytes report)) → IfOk answer (λ report. IsDemonstrated before after takings takings_after seed v o (bytes report))
all_done bytes (Ok report) s text seed v o before after takings takings_after is text_is hv ho run = record {
  specification = s;
  specified = subst (λ (x : Specification). IsDemoOf v o x) (sym is) (specified v o hv ho);
  able = can_run s v o is hv ho;
  run = subst (λ (x : List ℕ). IsRunOf s seed x before after takings takings_after (bytes report)) text_is run;
}
all_done bytes (Err e) s text seed v o before after takings takings_after is text_is hv ho run = tt

demo_taking : (s : Specification) (v o : ℕ) (r : Refusal) (takings takings_after : List (ℕ × ℕ)) → s ≡ demo_specification v o → IsExtent v → IsExtent o
    → (IsFree r × HasTaken s demo_budget takings takings_after) ⊎ (takings_after ≡ takings) → (IsFree r × IsDemoTaking v o takings takings_after) ⊎ (takings_after ≡ takings)
demo_taking s v o r takings takings_after is hv ho (inl more) =
    inl (more.0, record { specification = s; specified = subst (λ (x : Specification). IsDemoOf v o x) (sym is) (specified v o hv ho); able = can_run s v o is hv ho; taking = more.1 })
demo_taking s v o r takings takings_after is hv ho (inr same) = inr same

pub demo_takings : {A : Type 0} (answer : Result A Refusal) (s : Specification) (v o : ℕ) (takings takings_after : List (ℕ × ℕ)) → s ≡ demo_specification v o → IsExtent v → IsExtent o
    → IfErr answer (λ r. (IsFree r × HasTaken s demo_budget takings takings_after) ⊎ (takings_after ≡ takings))
    → IfErr answer (λ r. (IsFree r × IsDemoTaking v o takings takings_after) ⊎ (takings_after ≡ takings))
demo_takings (Ok a) s v o takings takings_after is hv ho left = tt
demo_takings (Err r) s v o takings takings_after is hv ho left = demo_taking s v o r takings takings_after is hv ho left
