-- Terms, one after the other, leave the values of their combination's node.
use Rattle.std.proofs.Common.{◌≡◌, ℕ, zero, suc, ◌+◌, ◌*◌, ◌<◌, ◌≤◌, ◌^◌, ◌⊎◌, Bool, true, false, ◌==◌, if◌then◌else◌, List, [], ◌∷◌, ◌++◌, map, length, take, slice_get, Some, refl, sym, ap, ap₂, ◌∙◌, subst, inl, inr, arith}
use mathlib.Core.Path.{fun_ext}
use Rattle.std.specs.List.{fold}
use Rattle.std.proofs.lemmas.Bool.{cases_Bool, cases_eq, eq-eqb, ne_eqb, false≢true}
use Rattle.std.proofs.lemmas.List.{take_all}
use Rattle.std.proofs.lemmas.List.Sums.{fold_push}
use Rattle.tce_base.specs.Word.{wrapping_add, wrapping_mul}
use Rattle.tce_base.proofs.Words.{plus-lt}
use Rattle.tce_space.specs.IndexSet.{has}
use Rattle.tce_space.specs.Space.{IndexSpace, IsSpace, extent_at, edge_at}
use Rattle.tce_tree.specs.ContractionTree.{operations, node, node_dims}
use Rattle.tce_tree.specs.FlatTree.{IsTree}
use Rattle.tce_tree.specs.Fusion.{kept_dims}
use Rattle.tce_tree.specs.Value.{Assignment, sum_over, value}
use Rattle.tce_tree.specs.WellFormed.{among, is_distinct}
use Rattle.tce_block.specs.Parts.{Part, blocks}
use Rattle.tce_code.specs.Execution.{Setting, State}
use Rattle.tce_walk.specs.Parts.{set_by_part}
use Rattle.tce_walk.specs.Touches.{block_count}
use Rattle.tce_walk.specs.Terms.{with_term, touches_of_terms, IsTermIn, IsCombinationAt, operand_tree}
use Rattle.tce_walk.specs.declared.terms.Combination.{Combination}
use Rattle.tce_walk.specs.declared.terms.Term.{Term}
use Rattle.tce_walk.proofs.BandRuns.{mapped-same}
use Rattle.tce_walk.proofs.TermSums.{one_times}
use Rattle.tce_exec.specs.Workspace.{Workspace, setting_in, state_in}
use Rattle.tce_exec.specs.Prepared.{IsPrepared}
use Rattle.tce_exec.specs.Steps.{IsKept, IsChanged}
use Rattle.tce_exec.specs.Following.{kept_on, kept_own, continued_own}
use Rattle.tce_exec.specs.TermParts.{mapped_by_part}
use Rattle.tce_exec.specs.TermWindows.{AreOperandsOf, term_value}
use Rattle.tce_exec.specs.TermBlocks.{around, outer_part, IsTermRun}
use Rattle.tce_exec.specs.TermPlans.{after_term, touches_of_run}
use Rattle.tce_exec.specs.Combining.{so_far, reached, IsAlongTerms}
use Rattle.tce_exec.specs.declared.term_block.TermRun.{TermRun}
use Rattle.tce_exec.proofs.Following.{changed_as, changed_twice}
use Rattle.tce_exec.proofs.Operating.{kept_in_dims}
use Rattle.tce_exec.proofs.Workspaces.{kept_setting}
use Rattle.tce_exec.proofs.TermOperandsOf.{tensors_of, reach_of}
use Rattle.tce_exec.proofs.TermSteps.{mapped_twice, mapped_none}

-- ---- what a term is asked

kept_apart : (x : Workspace) (v i : ℕ) → has (node_dims x.places.tree v) i ≡ false → has (kept_dims x.places.tree x.places.fusion v) i ≡ false
unfolding node_dims
kept_apart x v i f =
    elim (cases_Bool (has (kept_dims x.places.tree x.places.fusion v) i)) [
      | inl t ↦ absurd (false≢true (sym f ∙ kept_in_dims x.places.tree x.places.fusion v i t))
      | inr n ↦ n
    ]

kept_inside : (x : Workspace) (c : Combination) (part : Part) (a : Assignment) → IsCombinationAt x.places.space (setting_in x) c part a → (i : ℕ) → has (kept_dims x.places.tree x.places.fusion c.node) i ≡ true
    → (among c.loops.now i ≡ true) ⊎ (a i < extent_at x.places.space i)
unfolding node_dims
kept_inside x c part a h i k = h.inside i (kept_in_dims x.places.tree x.places.fusion c.node i k)

pub run_is : (x : Workspace) (c : Combination) (term : Term) (r : TermRun) → IsSpace x.places.space → IsTree x.places.tree → IsCombinationAt x.places.space (setting_in x) c (outer_part r) (around r)
    → IsTermIn x.places.space (setting_in x) c.loops.now (around r) term → ((i : ℕ) → among term.loops.0.items i ≡ true → has (node_dims x.places.tree c.node) i ≡ false)
    → AreOperandsOf x.places.tree term.operand r.operands → r.operands.out ≡ c.node → r.order.now ≡ c.loops.now → r.inner.now ≡ term.loops.0.items → IsTermRun x.places r
run_is x c term r space tree h at apart are out order inner =
    let all : r.order.now ++ r.inner.now ≡ c.loops.now ++ term.loops.0.items = ap₂ (λ xs ys. xs ++ ys) order inner in
    let reach = reach_of x.places (r.order.now ++ r.inner.now) (around r) term.operand r.operands tree at.operand are
    (λ i m. subst (λ ls. (among ls i ≡ true) ⊎ (around r i < extent_at x.places.space i)) (sym all) (at.inside i m)) in
    record {
      space = space;
      known = subst (λ v. v < operations x.places.tree) (sym out) h.known;
      dims = λ i m. subst (λ v. has (kept_dims x.places.tree x.places.fusion v) i ≡ true) (sym out) (h.kept i (sym (ap (λ ls. among ls i) order) ∙ m));
      apart = λ i m. subst (λ v. has (kept_dims x.places.tree x.places.fusion v) i ≡ false) (sym out) (kept_apart x c.node i (apart i (sym (ap (λ is. among is i) inner) ∙ m)));
      inside = λ i k. subst (λ ls. (among ls i ≡ true) ⊎ (around r i < extent_at x.places.space i)) (sym order)
          (kept_inside x c (outer_part r) (around r) h i (subst (λ v. has (kept_dims x.places.tree x.places.fusion v) i ≡ true) out k));
      distinct = subst (λ ls. is_distinct ls ≡ true) (sym all) at.distinct;
      few = subst (λ ls. length ls ≤ 10) (sym all) at.few;
      declared = λ i m. at.declared i (sym (ap (λ ls. among ls i) all) ∙ m);
      block = (h.number, subst (λ ls. slice_get (blocks (map (extent_at x.places.space) ls) (map (edge_at x.places.space) ls)) h.number ≡ Some (outer_part r)) (sym order) h.block);
      tensors = tensors_of x.places term.operand r.operands tree at.operand are;
      left_in = reach.left_in;
      right_in = reach.right_in;
    }

-- ---- terms, one after the other

no_times : (k w : ℕ) → wrapping_mul 0 w ≡ wrapping_mul k 0
unfolding wrapping_mul
no_times k w = omega arith

-- a word after one term more
reached_more : (s : Setting) (c : Combination) (n : ℕ) (term : Term) (b : Assignment) (w : ℕ) → n < length c.terms.now → take (n + 1) c.terms.now ≡ take n c.terms.now ++ term ∷ []
    → wrapping_mul (if (n + 1) == length c.terms.now then c.scale else 1)
    (wrapping_add (wrapping_mul (if n == 0 then 0 else term.scale) (reached s c n b w)) (sum_over s.elements.extent term.loops.0.items (value s.elements (operand_tree s.tree term.operand)) b))
    ≡ reached s c (n + 1) b w
reached_more s c n term b w low more =
    ap (wrapping_mul (if (n + 1) == length c.terms.now then c.scale else 1)) inner
    ∙ last ((n + 1) == length c.terms.now)
    ∙ sym (ap (λ q. if q then w else (if (n + 1) == length c.terms.now then wrapping_mul c.scale (so_far s c (n + 1) b) else so_far s c (n + 1) b)) (ne_eqb (n + 1) 0 (λ e. omega (arith, e))))
  where
    next : with_term s.elements s.tree b (so_far s c n b) term ≡ so_far s c (n + 1) b
    next = sym (fold_push (with_term s.elements s.tree b) 0 (take n c.terms.now) term) ∙ ap (fold (with_term s.elements s.tree b) 0) (sym more)

    product : wrapping_mul (if n == 0 then 0 else term.scale) (reached s c n b w) ≡ wrapping_mul term.scale (so_far s c n b)
    product =
        elim (cases_eq n 0) [
          | inl e ↦
              ap (λ q. wrapping_mul (if q then 0 else term.scale) (reached s c n b w)) (eq-eqb n 0 e)
              ∙ no_times term.scale (reached s c n b w)
              ∙ ap (λ m. wrapping_mul term.scale (so_far s c m b)) (sym e)
          | inr ne ↦
              ap₂ (λ q x. wrapping_mul (if q then 0 else term.scale) x) (ne_eqb n 0 ne)
              (ap (λ q. if q then w else (if n == length c.terms.now then wrapping_mul c.scale (so_far s c n b) else so_far s c n b)) (ne_eqb n 0 ne)
              ∙ ap (λ q. if q then wrapping_mul c.scale (so_far s c n b) else so_far s c n b) (ne_eqb n (length c.terms.now) (λ e. omega (arith, e, low))))
        ]

    inner : wrapping_add (wrapping_mul (if n == 0 then 0 else term.scale) (reached s c n b w)) (sum_over s.elements.extent term.loops.0.items (value s.elements (operand_tree s.tree term.operand)) b) ≡ so_far s c (n + 1) b
    inner = ap (λ x. wrapping_add x (sum_over s.elements.extent term.loops.0.items (value s.elements (operand_tree s.tree term.operand)) b)) product ∙ next

    low_so_far : so_far s c (n + 1) b < 2 ^ 64
    low_so_far = subst (λ x. x < 2 ^ 64) next (plus-lt (wrapping_mul term.scale (so_far s c n b)) (sum_over s.elements.extent term.loops.0.items (value s.elements (operand_tree s.tree term.operand)) b))

    last : (q : Bool) → wrapping_mul (if q then c.scale else 1) (so_far s c (n + 1) b) ≡ (if q then wrapping_mul c.scale (so_far s c (n + 1) b) else so_far s c (n + 1) b)
    last true = refl
    last false = one_times (so_far s c (n + 1) b) low_so_far

pub terms_begun : (x : Workspace) (c : Combination) (a : Assignment) (part : Part) → IsPrepared x → IsAlongTerms x x c a part 0
terms_begun x c a part is = record {
  kept = kept_own x;
  changed = changed_as (λ state. state) (mapped_by_part (setting_in x) c.node c.loops.now (λ b w. w) a part) 0 x x
      (λ state told. sym (mapped_none (setting_in x) c.node c.loops.now a part state))
      (record { prepared = is; state = mapped-same (state_in x); few = omega arith; continued = continued_own x });
}

touches_more : (space : IndexSpace) (terms : List Term) (term : Term) → touches_of_terms space (terms ++ term ∷ []) ≡ touches_of_terms space terms + touches_of_terms space (term ∷ [])
touches_more space [] term = omega arith
touches_more space (t ∷ terms) term = omega (arith, touches_more space terms term)

-- the touches of the terms that are left
touches_within : (space : IndexSpace) (terms : List Term) (n : ℕ) → touches_of_terms space (take n terms) ≤ touches_of_terms space terms
touches_within space [] zero = omega arith
touches_within space [] (suc n) = omega arith
touches_within space (t ∷ terms) zero = omega arith
touches_within space (t ∷ terms) (suc n) = omega (arith, touches_within space terms n)

pub terms_few : (x y : Workspace) (c : Combination) (a : Assignment) (part : Part) (n : ℕ) (term : Term) (r : TermRun) → n < length c.terms.now → take (n + 1) c.terms.now ≡ take n c.terms.now ++ term ∷ []
    → r.inner.now ≡ term.loops.0.items → IsAlongTerms x y c a part n → x.cache.touches + touches_of_terms x.places.space c.terms.now ≤ 2 ^ 100 → y.cache.touches + touches_of_run x.places.space r ≤ 2 ^ 100
terms_few x y c a part n term r low more inner along few =
    let space = x.places.space in
    let here : touches_of_terms space (take (n + 1) c.terms.now) ≡ touches_of_terms space (take n c.terms.now) + touches_of_terms space (term ∷ []) = ap (touches_of_terms space) more ∙ touches_more space (take n c.terms.now) term in
    let run : touches_of_run space r ≡ 3 * block_count space term.loops.0.items = ap (λ is. 3 * block_count space is) inner in
    let one : touches_of_terms space (term ∷ []) ≡ 3 * block_count space term.loops.0.items = omega arith in
    omega (arith, along.changed.few, few, here, run, one, touches_within space c.terms.now (n + 1))

-- what a run of a term makes, in the words of the combination
abbrev term_maps : Setting → Combination → Assignment → Part → Term → ℕ → ℕ → State → State
term_maps s c a part term before after state =
    mapped_by_part s c.node c.loops.now
    (λ b w. wrapping_mul after (wrapping_add (wrapping_mul before w) (sum_over s.elements.extent term.loops.0.items (value s.elements (operand_tree s.tree term.operand)) b))) a part state

abbrev run_maps : Setting → ℕ → List ℕ → List ℕ → (Assignment → ℕ) → ℕ → ℕ → Assignment → Part → State → State
run_maps s v order inner f before after a part state =
    mapped_by_part s v order (λ b w. wrapping_mul after (wrapping_add (wrapping_mul before w) (sum_over s.elements.extent inner f b))) a part state

run_as : (s : Setting) (c : Combination) (term : Term) (r : TermRun) (before after : ℕ) (state : State) → r.operands.out ≡ c.node → r.order.now ≡ c.loops.now → r.inner.now ≡ term.loops.0.items
    → ((b : Assignment) → term_value s.elements r.operands b ≡ value s.elements (operand_tree s.tree term.operand) b) → r.factors.before ≡ before → r.factors.after ≡ after
    → after_term s r state ≡ term_maps s c (around r) (outer_part r) term before after state
run_as s c term r before after state out order inner values first last =
    ap (λ v. run_maps s v r.order.now r.inner.now (term_value s.elements r.operands) r.factors.before r.factors.after (around r) (outer_part r) state) out
    ∙ ap₂ (λ ls is. run_maps s c.node ls is (term_value s.elements r.operands) r.factors.before r.factors.after (around r) (outer_part r) state) order inner
    ∙ ap (λ f. run_maps s c.node c.loops.now term.loops.0.items f r.factors.before r.factors.after (around r) (outer_part r) state) (fun_ext values)
    ∙ ap₂ (λ m n. run_maps s c.node c.loops.now term.loops.0.items (value s.elements (operand_tree s.tree term.operand)) m n (around r) (outer_part r) state) first last

pub terms_stepped : (x y z : Workspace) (c : Combination) (n : ℕ) (term : Term) (r : TermRun) → IsPrepared x → n < length c.terms.now → take (n + 1) c.terms.now ≡ take n c.terms.now ++ term ∷ []
    → r.operands.out ≡ c.node → r.order.now ≡ c.loops.now → r.inner.now ≡ term.loops.0.items
    → ((b : Assignment) → term_value (setting_in x).elements r.operands b ≡ value (setting_in x).elements (operand_tree x.places.tree term.operand) b)
    → r.factors.before ≡ (if n == 0 then 0 else term.scale) → r.factors.after ≡ (if (n + 1) == length c.terms.now then c.scale else 1)
    → IsAlongTerms x y c (around r) (outer_part r) n → IsKept y z → IsChanged (after_term (setting_in y) r) (touches_of_run x.places.space r) y z → IsAlongTerms x z c (around r) (outer_part r) (n + 1)
terms_stepped x y z c n term r is low more out order inner values first last along kept changed =
    let s : Setting = setting_in x in
    let before : ℕ = if n == 0 then 0 else term.scale in
    let after : ℕ = if (n + 1) == length c.terms.now then c.scale else 1 in
    let space = x.places.space in
    let here : IsChanged (term_maps s c (around r) (outer_part r) term before after) (touches_of_run space r) y z =
    changed_as (after_term s r) (term_maps s c (around r) (outer_part r) term before after) (touches_of_run space r) y z
    (λ state told. run_as s c term r before after state out order inner values first last)
    (subst (λ t. IsChanged (after_term t r) (touches_of_run space r) y z) (kept_setting x y is.cache along.kept) changed) in
    let count : touches_of_terms space (take n c.terms.now) + touches_of_run space r ≤ touches_of_terms space (take (n + 1) c.terms.now) =
    counted space (take n c.terms.now) term (take (n + 1) c.terms.now) r.inner.now more inner in
    record {
      kept = kept_on x y z along.kept kept;
      changed =
          changed_as (λ state. term_maps s c (around r) (outer_part r) term before after (mapped_by_part s c.node c.loops.now (reached s c n) (around r) (outer_part r) state))
          (mapped_by_part s c.node c.loops.now (reached s c (n + 1)) (around r) (outer_part r)) (touches_of_terms space (take (n + 1) c.terms.now)) x z
          (λ state told.
          mapped_twice s c.node c.loops.now
          (λ b w. wrapping_mul after (wrapping_add (wrapping_mul before w) (sum_over s.elements.extent term.loops.0.items (value s.elements (operand_tree s.tree term.operand)) b))) (reached s c n) (around r) (outer_part r) state
          ∙ ap (λ f. mapped_by_part s c.node c.loops.now f (around r) (outer_part r) state) (fun_ext (λ b. fun_ext (λ w. reached_more s c n term b w low more))))
          (changed_twice (touches_of_terms space (take n c.terms.now)) (touches_of_run space r) (touches_of_terms space (take (n + 1) c.terms.now))
          (mapped_by_part s c.node c.loops.now (reached s c n) (around r) (outer_part r)) (term_maps s c (around r) (outer_part r) term before after) x y z count along.kept along.changed here);
    }
  where
    counted : (space : IndexSpace) (terms : List Term) (term : Term) (all : List Term) (is : List ℕ) → all ≡ terms ++ term ∷ [] → is ≡ term.loops.0.items → touches_of_terms space terms + 3 * block_count space is ≤ touches_of_terms space all
    counted space terms term all is e same =
        let here : touches_of_terms space all ≡ touches_of_terms space terms + touches_of_terms space (term ∷ []) = ap (touches_of_terms space) e ∙ touches_more space terms term in
        let run : 3 * block_count space is ≡ 3 * block_count space term.loops.0.items = ap (λ js. 3 * block_count space js) same in
        let one : touches_of_terms space (term ∷ []) ≡ 3 * block_count space term.loops.0.items = omega arith in
        omega (arith, here, run, one)

-- after the last term
pub terms_ended : (x y : Workspace) (c : Combination) (a : Assignment) (part : Part) (n : ℕ) → n ≡ length c.terms.now → IsCombinationAt x.places.space (setting_in x) c part a → IsAlongTerms x y c a part n
    → IsChanged (set_by_part (setting_in x) c.node c.loops.now (value (setting_in x).elements (node x.places.tree c.node)) a part) (touches_of_terms x.places.space c.terms.now) x y
terms_ended x y c a part n end h along =
    let s : Setting = setting_in x in
    let whole : take n c.terms.now ≡ c.terms.now = take_all n c.terms.now (omega (arith, end)) in
    subst (λ ts. IsChanged (set_by_part s c.node c.loops.now (value s.elements (node s.tree c.node)) a part) (touches_of_terms x.places.space ts) x y) whole
    (changed_as (mapped_by_part s c.node c.loops.now (reached s c n) a part) (set_by_part s c.node c.loops.now (value s.elements (node s.tree c.node)) a part) (touches_of_terms x.places.space (take n c.terms.now)) x y
    (λ state told. ap (λ f. mapped_by_part s c.node c.loops.now f a part state) (fun_ext (λ b. fun_ext (λ w.
    ap (λ q. if q then w else (if n == length c.terms.now then wrapping_mul c.scale (so_far s c n b) else so_far s c n b)) (ne_eqb n 0 (λ e. omega (arith, e, end, h.some)))
    ∙ ap (λ q. if q then wrapping_mul c.scale (so_far s c n b) else so_far s c n b) (eq-eqb n (length c.terms.now) end)
    ∙ ap (λ ts. wrapping_mul c.scale (fold (with_term s.elements s.tree b) 0 ts)) whole
    ∙ h.value b))))
    along.changed)
