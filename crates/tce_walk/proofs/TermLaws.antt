-- A band whose node gets its values block by block, before the body runs once.
use Rattle.std.proofs.Common.{◌≡◌, ℕ, ◌+◌, ◌-◌, true, false, List, [], ◌∷◌, map, bytes_eq, if◌then◌else◌, refl, sym, ap, ◌∙◌, subst, inl, inr, arith}
use mathlib.Core.Path.{fun_ext}
use Rattle.std.proofs.lemmas.Bool.{cases_Bool, cases_eq, and_parts, ne_eqb, eq-eqb, true≢false, false≢true}
use Rattle.std.proofs.lemmas.Slice.Eq.{bytes_eq-Decides}
use Rattle.std.specs.List.{fold}
use Rattle.tce_space.specs.IndexSet.{has}
use Rattle.tce_tree.proofs.Assignments.{with-same, all_positive}
use Rattle.tce_tree.proofs.Lists.{among-all, among_cases}
use Rattle.tce_tree.specs.Value.{Assignment, with_number}
use Rattle.tce_tree.specs.WellFormed.{among}
use Rattle.tce_code.proofs.Readings.{nest_word, repeated_related}
use Rattle.tce_code.specs.Execution.{Setting, State, coordinates, exec}
use Rattle.tce_code.specs.Program.{Program}
use Rattle.tce_walk.proofs.BandLaws.{put, put_outside, turn_of, exec_box, turn_follows, turn_keeps, turn_ends, StaysFree, EndsAs}
use Rattle.tce_walk.proofs.Boxes.{box, lasts, last_in_box}
use Rattle.tce_walk.proofs.Carried.{IsFree}
use Rattle.tce_walk.proofs.Closed.{Step, blocks_at, left_alone, set_last}
use Rattle.tce_walk.proofs.KnownTails.{round-keeps, misses, ended-same}
use Rattle.tce_walk.proofs.TailLaws.{ends-at-last}
use Rattle.tce_walk.specs.FoundTerms.{SetsAlone}
use Rattle.tce_walk.specs.PartRuns.{exec_part}
use Rattle.tce_walk.specs.Parts.{set_by_part, falls_on, last_on_place}
use Rattle.tce_walk.specs.TailLaws.{dims_at, EndsAtLast}
use Rattle.tce_walk.specs.Tails.{loops_round}
use Rattle.tce_walk.specs.TermRuns.{last_part, ValuesMakeBands}

-- the last part is the last turn
last_run : (s : Setting) (body : Program) (order : List ℕ) (state : State) (a : Assignment)
    → exec_part s body order (last_part s.elements.extent order) state a ≡ turn_of s order body a (lasts (map s.elements.extent order)) state
last_run s body [] state a = refl
last_run s body (i ∷ order) state a =
    let x : ℕ = s.elements.extent i - 1 in
    let same : x + 0 ≡ x = omega arith in
    last_run s body order state (with_number a i (x + 0)) ∙ ap (λ y. turn_of s order body (with_number a i y) (lasts (map s.elements.extent order)) state) same

-- each loop has its last number there
last_inside : (extent : ℕ → ℕ) (order : List ℕ) (a : Assignment) (i : ℕ) → among order i ≡ true → put order (lasts (map extent order)) a i ≡ extent i - 1
last_inside extent [] a i m = absurd (false≢true m)
last_inside extent (j ∷ order) a i m =
    elim (cases_Bool (among order i)) [
      | inl t ↦ last_inside extent order (with_number a j (extent j - 1)) i t
      | inr f ↦
          put_outside order (lasts (map extent order)) (with_number a j (extent j - 1)) i f
          ∙ elim (among_cases j order i m) [
            | inl e ↦ subst (λ k. with_number a j (extent j - 1) k ≡ extent k - 1) e (with-same a j (extent j - 1))
            | inr t ↦ absurd (false≢true (sym f ∙ t))
          ]
    ]

-- loops round a body that sets one place
set_word : (s : Setting) (t : ℕ) (f : Assignment → ℕ) (body : Program) → SetsAlone s t f body → (order : List ℕ) (state : State) (a : Assignment) (p : List ℕ)
    → exec s (loops_round order body) state a t p ≡ nest_word s.elements.extent (λ b. bytes_eq p (coordinates (dims_at s t) b)) (λ b w. f b) order a (state t p)
set_word s t f body sets [] state a p = sets state a p
set_word s t f body sets (i ∷ order) state a p =
    repeated_related {X = State} {Y = ℕ} (λ after w. after t p ≡ w) (s.elements.extent i) (λ x inside. exec s (loops_round order body) inside (with_number a i x))
    (λ x w. nest_word s.elements.extent (λ b. bytes_eq p (coordinates (dims_at s t) b)) (λ b y. f b) order (with_number a i x) w) state (state t p) refl
    (λ x after w l h.
    set_word s t f body sets order after (with_number a i x) p
    ∙ ap (nest_word s.elements.extent (λ b. bytes_eq p (coordinates (dims_at s t) b)) (λ b y. f b) order (with_number a i x)) h)

-- the word at the place of these numbers, and at another place
sets_here : (s : Setting) (t : ℕ) (f : Assignment → ℕ) (body : Program) → SetsAlone s t f body → (state : State) (b : Assignment) (p : List ℕ)
    → p ≡ coordinates (dims_at s t) b → exec s body state b t p ≡ f b
sets_here s t f body sets state b p e =
    sets state b p ∙ ap (λ hit. if hit then f b else state t p) ((bytes_eq-Decides p (coordinates (dims_at s t) b)).1 e)

sets_there : (s : Setting) (t : ℕ) (f : Assignment → ℕ) (body : Program) → SetsAlone s t f body → (state : State) (b : Assignment) (p : List ℕ)
    → bytes_eq p (coordinates (dims_at s t) b) ≡ false → exec s body state b t p ≡ state t p
sets_there s t f body sets state b p e = sets state b p ∙ ap (λ hit. if hit then f b else state t p) e

kept_by_fold : {X W : Type 0} (P : W → Type 0) (step : W → X → W) → ((w : W) (x : X) → P w → P (step w x)) → (w : W) (xs : List X) → P w → P (fold step w xs)
kept_by_fold P step keeps w [] h = h
kept_by_fold P step keeps w (x ∷ xs) h = kept_by_fold P step keeps (step w x) xs (keeps w x h)

pub values_make_bands : ValuesMakeBands
values_make_bands s order t outside body f a edge before loops edges turns band kept over sets =
    last_run s body order folded a
    ∙ fun_ext (λ v. fun_ext (λ p.
    elim (cases_eq v t) [
      | inl q ↦ ap (λ u. turn_of s order body a (lasts ns) folded u p) q ∙ carried p ∙ ap (λ u. whole u p) (sym q)
      | inr ne ↦
          turn_ends s t order outside body a before band turns (lasts ns) folded stays v ne p
          ∙ sym (ends_box v ne p) ∙ ap (λ g. g v p) (sym (exec_box s order body a before))
    ]))
  where
    ns : List ℕ
    ns = map s.elements.extent order

    step : Step
    step state part = set_by_part s t order f a part state

    folded : State
    folded = fold step before (blocks_at s order edge)

    whole : State
    whole = exec s (loops_round order body) before a

    last : Assignment
    last = put order (lasts ns) a

    -- a place that is free is set to the word that stands there
    free_word : (b : Assignment) (p : List ℕ) → IsFree s outside t p → p ≡ coordinates (dims_at s t) b → f b ≡ before t p
    free_word b p m e =
        sym (sets_here s t f body sets before b p e)
        ∙ (turn_follows s t order outside body b before before band turns (λ u q k. refl)).free t p m

    stays_carried : (p : List ℕ) → IsFree s outside t p → folded t p ≡ before t p
    stays_carried p m =
        kept_by_fold (λ state. state t p ≡ before t p) step (λ state part h.
        (rw (eq-eqb t t refl)
        (elim (cases_Bool (falls_on s t order a part p)) [
          | inl k ↦ rw k (free_word (last_on_place s t order a part p) p m
              ((bytes_eq-Decides p (coordinates (dims_at s t) (last_on_place s t order a part p))).0 (and_parts _ (bytes_eq p (coordinates (dims_at s t) (last_on_place s t order a part p))) k).1))
          | inr k ↦ rw k h
        ]))) before (blocks_at s order edge) refl

    stays : StaysFree s outside before folded
    stays v p m =
        elim (cases_eq v t) [
          | inl q ↦ subst (λ u. IsFree s outside u p → folded u p ≡ before u p) (sym q) (stays_carried p) m
          | inr ne ↦ left_alone v step before (blocks_at s order edge) (λ state part r. rw (ne_eqb v t ne) refl) p
        ]

    ends_box : EndsAs s t order body a before (lasts ns) (box (turn_of s order body a) ns before)
    ends_box =
        last_in_box (StaysFree s outside before) (EndsAs s t order body a before) (turn_of s order body a) ns (turn_keeps s t order outside body a before band turns)
        (λ xs state l h. turn_ends s t order outside body a before band turns xs state h) (all_positive s.elements.extent order loops.some) before (λ v p m. refl)

    law : (b : Assignment) → EndsAtLast s t order f a before whole b
    law b = ends-at-last s t order f a before whole b loops (set_word s t f body sets order before a (coordinates (dims_at s t) b))

    same_places : (p : List ℕ) → folded t p ≡ whole t p
    same_places p =
        ended-same s t order f a before folded whole p
        (set_last s t order f a edge before step loops edges (λ i m out. absurd (true≢false (sym (over i m) ∙ out))) (λ state part q. rw (eq-eqb t t refl) refl))
        law (λ none.
        round-keeps (λ state. state t p ≡ before t p) s body order before a refl (λ b turn other h.
        sets_there s t f body sets other b p (misses s t p b none (λ i m. turn.inside i (over i m))) ∙ h))

    last_met : whole t (coordinates (dims_at s t) last) ≡ f last
    last_met =
        (law last).met
        (λ i m k. let here = last_inside s.elements.extent order a i m in let some = loops.some i m in omega (arith, here, some))
        (λ i m out. sym (put_outside order (lasts ns) a i out))
        ∙ ap f (fun_ext (λ i. elim (cases_Bool (among order i)) [
          | inl m ↦ rw (m, among-all (has (dims_at s t)) order i kept m) refl
          | inr m ↦ rw m (sym (put_outside order (lasts ns) a i m))
        ]))

    carried : (p : List ℕ) → turn_of s order body a (lasts ns) folded t p ≡ whole t p
    carried p =
        elim (cases_Bool (bytes_eq p (coordinates (dims_at s t) last))) [
          | inl h ↦
              let at = (bytes_eq-Decides p (coordinates (dims_at s t) last)).0 h in
              sets_here s t f body sets folded last p at ∙ sym last_met ∙ ap (whole t) (sym at)
          | inr h ↦ sets_there s t f body sets folded last p h ∙ same_places p
        ]
