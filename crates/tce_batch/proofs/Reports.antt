-- The takings and the lines of one formula more.
use Rattle.std.proofs.Common.{◌≡◌, ℕ, ◌+◌, List, [], ◌∷◌, ◌++◌, length, take, codes, sym, subst, ◌∙◌, ap, arith}
use Rattle.std.specs.List.{AllZip}
use Rattle.std.specs.Prelude.{slice_get, Some}
use Rattle.std.proofs.lemmas.List.{append_assoc, append-nil, length-take-le}
use Rattle.std.proofs.lemmas.Option.{slice_get_within}
use Rattle.tce_nesting.specs.declared.plan.Plan.{Plan}
use Rattle.tce_spec.specs.Specification.{Specification}
use Rattle.tce_job.specs.declared.report.RunReport.{RunReport}
use Rattle.tce_job.specs.Prepared.{taking_of, HasTaken as HasTakenOne}
use Rattle.tce_job.specs.Run.{IsReported}
use Rattle.tce_batch.specs.Reports.{sections_of, section_of, text_of, HasRun}
use Rattle.tce_job.specs.Several.{takings_of, HasTakenEach}
use Rattle.tce_job.proofs.Several.{zip_more, takings_more}
use Rattle.tce_job.specs.Told.{IsLeastPlanOf}
use Rattle.tce_batch.proofs.Files.{take_one}

sections_more : (R : Specification → Plan → Type 0) (number last budget : ℕ) (ss : List Specification) (plans : List Plan) (s : Specification) (plan : Plan) → AllZip R ss plans → last ≡ number + length ss
    → sections_of number budget (ss ++ s ∷ []) (plans ++ plan ∷ []) ≡ sections_of number budget ss plans ++ section_of last (text_of s budget plan)
sections_more R number last budget [] [] s plan all is =
    let same : number ≡ last = omega (arith, is) in
    append-nil (section_of number (text_of s budget plan)) ∙ ap (λ n. section_of n (text_of s budget plan)) same
sections_more R number last budget [] (p ∷ plans) s plan all is = absurd all
sections_more R number last budget (t ∷ ss) [] s plan all is = absurd all
sections_more R number last budget (t ∷ ss) (p ∷ plans) s plan all is =
    ap (λ xs. section_of number (text_of t budget p) ++ xs) (sections_more R (number + 1) last budget ss plans s plan all.1 (omega (arith, is)))
    ∙ sym (append_assoc (section_of number (text_of t budget p)) (sections_of (number + 1) budget ss plans) (section_of last (text_of s budget plan)))

-- what is taken, and one formula more
more_taken : (budget : ℕ) (ss : List Specification) (plans : List Plan) (s : Specification) (plan : Plan) (before now after : List (ℕ × ℕ)) → AllZip IsLeastPlanOf ss plans
    → now ≡ before ++ takings_of budget ss plans → after ≡ now ++ taking_of s budget plan ∷ [] → after ≡ before ++ takings_of budget (ss ++ s ∷ []) (plans ++ plan ∷ [])
more_taken budget ss plans s plan before now after all is then =
    then ∙ ap (λ xs. xs ++ taking_of s budget plan ∷ []) is ∙ append_assoc before (takings_of budget ss plans) (taking_of s budget plan ∷ [])
    ∙ ap (λ xs. before ++ xs) (sym (takings_more IsLeastPlanOf budget ss plans s plan all))

pub taken_more : (budget : ℕ) (batch : List Specification) (number : ℕ) (s : Specification) (before now after : List (ℕ × ℕ)) → slice_get batch number ≡ Some s
    → HasTakenEach (take number batch) budget before now → HasTakenOne s budget now after → HasTakenEach (take (number + 1) batch) budget before after
taken_more budget batch number s before now after at front one = subst (λ ss. HasTakenEach ss budget before after) (sym (take_one batch number s at)) (record {
  plans = front.plans ++ one.plan ∷ [];
  least = zip_more IsLeastPlanOf (take number batch) front.plans s one.plan front.least one.least;
  taken = more_taken budget (take number batch) front.plans s one.plan before now after front.least front.taken one.taken;
})

-- what was run took its takings
pub run_taken : (ss : List Specification) (budget : ℕ) (before after : List (ℕ × ℕ)) (text : List ℕ) → HasRun ss budget before after text → HasTakenEach ss budget before after
run_taken ss budget before after text run = record { plans = run.plans; least = run.least; taken = run.taken }

pub none_taken : (batch : List Specification) (budget : ℕ) (before : List (ℕ × ℕ)) → HasTakenEach (take 0 batch) budget before before
none_taken batch budget before = record { plans = []; least = tt; taken = sym (append-nil before) }

pub none_run : (batch : List Specification) (budget : ℕ) (before : List (ℕ × ℕ)) (text : List ℕ) → text ≡ codes "tce batch 1\n" → HasRun (take 0 batch) budget before before text
none_run batch budget before text is = record { plans = []; least = tt; taken = sym (append-nil before); told = is ∙ sym (append-nil (codes "tce batch 1\n")) }

pub run_more : (budget : ℕ) (batch : List Specification) (number : ℕ) (s : Specification) (before now after : List (ℕ × ℕ)) (text new : List ℕ) (report : RunReport) → slice_get batch number ≡ Some s
    → HasRun (take number batch) budget before now text → IsReported s budget now after report → new ≡ text ++ section_of (number + 1) report.text → HasRun (take (number + 1) batch) budget before after new
run_more budget batch number s before now after text new report at front one then =
    let within = slice_get_within batch number s at in
    let long : length (take number batch) ≡ number = length-take-le number batch (omega (arith, within)) in
    let sections : List ℕ = sections_of 1 budget (take number batch) front.plans in
    let told : new ≡ codes "tce batch 1\n" ++ sections_of 1 budget (take number batch ++ s ∷ []) (front.plans ++ one.plan ∷ []) =
    then ∙ ap (λ xs. text ++ section_of (number + 1) xs) one.report_is.text ∙ ap (λ xs. xs ++ section_of (number + 1) (text_of s budget one.plan)) front.told
    ∙ append_assoc (codes "tce batch 1\n") sections (section_of (number + 1) (text_of s budget one.plan))
    ∙ ap (λ xs. codes "tce batch 1\n" ++ xs) (sym (sections_more IsLeastPlanOf 1 (number + 1) budget (take number batch) front.plans s one.plan front.least (omega (arith, long)))) in
    subst (λ ss. HasRun ss budget before after new) (sym (take_one batch number s at)) (record {
      plans = front.plans ++ one.plan ∷ [];
      least = zip_more IsLeastPlanOf (take number batch) front.plans s one.plan front.least one.least;
      taken = more_taken budget (take number batch) front.plans s one.plan before now after front.least front.taken one.taken;
      told = told;
    })
