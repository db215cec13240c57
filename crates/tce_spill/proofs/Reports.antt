-- The takings and the lines of one piece more, and that no piece is above the limit.
use Rattle.std.proofs.Common.{◌≡◌, ℕ, zero, suc, ◌+◌, ◌≤◌, true, false, cond, List, [], ◌∷◌, ◌++◌, map, codes, sym, ap, ◌∙◌, subst, inl, inr, arith}
use Rattle.std.specs.List.{AllByRecursion}
use Rattle.std.proofs.lemmas.Bool.{cases_Bool}
use Rattle.std.proofs.lemmas.List.{append_assoc, append-nil}
use Rattle.std.proofs.lemmas.List.Elements.{All-from_recursion}
use Rattle.tce_tree.specs.ContractionTree.{operations}
use Rattle.tce_nesting.specs.declared.plan.Plan.{Plan}
use Rattle.tce_spec.specs.Pieces.{Cuts, piece, is_root}
use Rattle.tce_spec.specs.Specification.{Specification}
use Rattle.tce_spec.specs.PieceSpecification.{piece_of, sources, place_in}
use Rattle.tce_spec.proofs.PieceSources.{each_append}
use Rattle.tce_job.specs.Takings.{tile_take}
use Rattle.tce_job.specs.declared.report.RunReport.{RunReport}
use Rattle.tce_job.specs.Prepared.{taking_of, HasTaken as HasTakenOne}
use Rattle.tce_job.specs.Run.{IsReported as IsRunReported}
use Rattle.tce_job.specs.Several.{takings_of, HasTakenEach}
use Rattle.tce_job.proofs.Several.{zip_more, takings_more}
use Rattle.tce_job.specs.Told.{IsLeastPlanOf}
use Rattle.tce_spill.specs.Parts.{FitsMemory}
use Rattle.tce_spill.specs.CutsFor.{MeetLimit}
use Rattle.tce_spill.proofs.Renumbered.{renumbered_is_alike}
use Rattle.tce_spill.specs.PieceRuns.{roots_below, pieces_below}
use Rattle.tce_spill.specs.Reports.{piece_line, lines_of, wrote_line, AreLeast, HasRun, HasRunAll, IsReported}
use Rattle.tce_spill.specs.Left.{HasTakenTo}
use Rattle.tce_spill.proofs.Roots.{roots_more, roots_same, pieces_more, pieces_same}

lines_more : (s : Specification) (cut : Cuts) (budget : ℕ) (vs : List ℕ) (plans : List Plan) (v : ℕ) (plan : Plan) → AreLeast (map (piece_of s cut) vs) plans
    → lines_of s cut budget (vs ++ v ∷ []) (plans ++ plan ∷ []) ≡ lines_of s cut budget vs plans ++ piece_line v plan.memory (tile_take (piece_of s cut v) budget)
lines_more s cut budget [] [] v plan all = append-nil (piece_line v plan.memory (tile_take (piece_of s cut v) budget))
lines_more s cut budget [] (q ∷ plans) v plan all = absurd all
lines_more s cut budget (u ∷ vs) [] v plan all = absurd all
lines_more s cut budget (u ∷ vs) (q ∷ plans) v plan all =
    let line : List ℕ = piece_line u q.memory (tile_take (piece_of s cut u) budget) in
    ap (λ xs. line ++ xs) (lines_more s cut budget vs plans v plan all.1)
    ∙ sym (append_assoc line (lines_of s cut budget vs plans) (piece_line v plan.memory (tile_take (piece_of s cut v) budget)))

-- ---- takings

module _ (s : Specification) (cut : Cuts) (n budget : ℕ) (before now after : List (ℕ × ℕ)) where
  abbrev p : Specification
  p = piece_of s cut n

  more_taken : (plans : List Plan) (plan : Plan) → is_root s.tree cut n ≡ true → AreLeast (pieces_below s cut n) plans → now ≡ before ++ takings_of budget (pieces_below s cut n) plans
      → after ≡ now ++ taking_of p budget plan ∷ [] → after ≡ before ++ takings_of budget (pieces_below s cut (n + 1)) (plans ++ plan ∷ [])
  more_taken plans plan root all is then =
      then ∙ ap (λ xs. xs ++ taking_of p budget plan ∷ []) is ∙ append_assoc before (takings_of budget (pieces_below s cut n) plans) (taking_of p budget plan ∷ [])
      ∙ ap (λ xs. before ++ xs) (sym (takings_more IsLeastPlanOf budget (pieces_below s cut n) plans p plan all))
      ∙ ap (λ ps. before ++ takings_of budget ps (plans ++ plan ∷ [])) (sym (pieces_more s cut n root))

  more_least : (plans : List Plan) (plan : Plan) → is_root s.tree cut n ≡ true → AreLeast (pieces_below s cut n) plans → IsLeastPlanOf p plan → AreLeast (pieces_below s cut (n + 1)) (plans ++ plan ∷ [])
  more_least plans plan root all one = subst (λ ps. AreLeast ps (plans ++ plan ∷ [])) (sym (pieces_more s cut n root)) (zip_more IsLeastPlanOf (pieces_below s cut n) plans p plan all one)

  pub taken_more : is_root s.tree cut n ≡ true → HasTakenEach (pieces_below s cut n) budget before now → HasTakenOne p budget now after → HasTakenEach (pieces_below s cut (n + 1)) budget before after
  taken_more root front one = record {
    plans = front.plans ++ one.plan ∷ [];
    least = more_least front.plans one.plan root front.least one.least;
    taken = more_taken front.plans one.plan root front.least front.taken one.taken;
  }

  pub run_more : (text new : List ℕ) (report : RunReport) → is_root s.tree cut n ≡ true → HasRun s cut n budget before now text → IsRunReported p budget now after report
      → new ≡ text ++ piece_line n report.memory report.tiles → HasRun s cut (n + 1) budget before after new
  run_more text new report root front one then =
      let lines : List ℕ = lines_of s cut budget (roots_below s.tree cut n) front.plans in
      let line : List ℕ = piece_line n one.plan.memory (tile_take p budget) in
      record {
        plans = front.plans ++ one.plan ∷ [];
        least = more_least front.plans one.plan root front.least one.least;
        taken = more_taken front.plans one.plan root front.least front.taken one.taken;
        told =
            then ∙ ap (λ m. text ++ piece_line n m report.tiles) one.report_is.memory ∙ ap (λ t. text ++ piece_line n one.plan.memory t) one.report_is.tiles
            ∙ ap (λ xs. xs ++ line) front.told ∙ append_assoc (codes "tce spill 1\n") lines line
            ∙ ap (λ xs. codes "tce spill 1\n" ++ xs) (sym (lines_more s cut budget (roots_below s.tree cut n) front.plans n one.plan front.least))
            ∙ ap (λ vs. codes "tce spill 1\n" ++ lines_of s cut budget vs (front.plans ++ one.plan ∷ [])) (sym (roots_more s.tree cut n root));
      }

pub run_same : (s : Specification) (cut : Cuts) (n budget : ℕ) (before now : List (ℕ × ℕ)) (text : List ℕ) → is_root s.tree cut n ≡ false → HasRun s cut n budget before now text
    → HasRun s cut (n + 1) budget before now text
run_same s cut n budget before now text root front = record {
  plans = front.plans;
  least = subst (λ ps. AreLeast ps front.plans) (sym (pieces_same s cut n root)) front.least;
  taken = front.taken ∙ ap (λ ps. before ++ takings_of budget ps front.plans) (sym (pieces_same s cut n root));
  told = front.told ∙ ap (λ vs. codes "tce spill 1\n" ++ lines_of s cut budget vs front.plans) (sym (roots_same s.tree cut n root));
}

-- what was run took its takings
pub run_taken : (s : Specification) (cut : Cuts) (n budget : ℕ) (before after : List (ℕ × ℕ)) (text : List ℕ) → HasRun s cut n budget before after text → HasTakenEach (pieces_below s cut n) budget before after
run_taken s cut n budget before after text run = record { plans = run.plans; least = run.least; taken = run.taken }

pub none_taken : (s : Specification) (cut : Cuts) (budget : ℕ) (before : List (ℕ × ℕ)) → HasTakenTo before before s cut budget 0
none_taken s cut budget before = inl (record { plans = []; least = tt; taken = sym (append-nil before) })

pub all_reported : (s : Specification) (cut : Cuts) (budget : ℕ) (before after : List (ℕ × ℕ)) (text new : List ℕ) → HasRun s cut (operations s.tree) budget before after text → new ≡ text ++ wrote_line s
    → HasRunAll s cut budget before after new
all_reported s cut budget before after text new run then = record {
  plans = run.plans;
  least = run.least;
  taken = run.taken;
  told =
      then ∙ ap (λ xs. xs ++ wrote_line s) run.told
      ∙ append_assoc (codes "tce spill 1\n") (lines_of s cut budget (roots_below s.tree cut (operations s.tree)) run.plans) (wrote_line s);
}

-- ---- the limit

pub within_limit : (s : Specification) (cut : Cuts) (v limit : ℕ) (plan : Plan) → FitsMemory s.declarations.space (piece s.tree cut v) limit → IsLeastPlanOf (piece_of s cut v) plan → plan.memory ≤ limit
within_limit s cut v limit plan fits least =
    let alike = renumbered_is_alike s.declarations.space (piece s.tree cut v) (place_in (sources s cut v)) in
    let below = least.least.least fits.fusion ((alike.fits fits.fusion).1 fits.fits) ((alike.legal fits.fusion).1 fits.legal) in
    let same = alike.memory_is fits.fusion in
    omega (arith, least.memory_is, below, same, fits.cheap)

abbrev Fits : Specification → Cuts → ℕ → ℕ → Type 0
Fits s cut limit v = FitsMemory s.declarations.space (piece s.tree cut v) limit

roots_fit : (s : Specification) (cut : Cuts) (limit n : ℕ) → n ≤ operations s.tree → MeetLimit s.declarations.space s.tree cut limit → AllByRecursion (Fits s cut limit) (roots_below s.tree cut n)
roots_fit s cut limit zero within meet = tt
roots_fit s cut limit (suc n) within meet =
    each_append (Fits s cut limit) (roots_below s.tree cut n) (cond (is_root s.tree cut n) (n ∷ []) []) (roots_fit s cut limit n (omega (arith, within)) meet)
    (elim (cases_Bool (is_root s.tree cut n)) [ inl t ↦ rw t (meet n (omega (arith, within)) t, tt) | inr f ↦ rw f tt ])

plans_within : (s : Specification) (cut : Cuts) (limit : ℕ) (vs : List ℕ) (plans : List Plan) → AllByRecursion (Fits s cut limit) vs → AreLeast (map (piece_of s cut) vs) plans
    → AllByRecursion (λ (plan : Plan). plan.memory ≤ limit) plans
plans_within s cut limit [] [] fits least = tt
plans_within s cut limit [] (q ∷ plans) fits least = absurd least
plans_within s cut limit (v ∷ vs) [] fits least = absurd least
plans_within s cut limit (v ∷ vs) (q ∷ plans) fits least = (within_limit s cut v limit q fits.0 least.0, plans_within s cut limit vs plans fits.1 least.1)

pub is_reported : (s : Specification) (cut : Cuts) (budget limit : ℕ) (before after : List (ℕ × ℕ)) (text : List ℕ) → MeetLimit s.declarations.space s.tree cut limit → HasRunAll s cut budget before after text
    → IsReported s cut budget limit before after text
is_reported s cut budget limit before after text meet run = record {
  plans = run.plans;
  least = run.least;
  within = All-from_recursion (λ (plan : Plan). plan.memory ≤ limit) run.plans
      (plans_within s cut limit (roots_below s.tree cut (operations s.tree)) run.plans (roots_fit s cut limit (operations s.tree) (omega arith) meet) run.least);
  taken = run.taken;
  told = run.told;
}
