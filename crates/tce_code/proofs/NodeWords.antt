-- The loops of a node leave its value in each of its places.
use Rattle.std.proofs.Common.{◌≡◌, ℕ, true, false, ◌&&◌, not, List, drop, take, filter, refl, sym, ap, ◌∙◌, inl, inr}
use Rattle.std.specs.Prelude.{bytes_eq}
use Rattle.std.proofs.lemmas.Bool.{and_from, and_parts, true≢false, false≢true, cases_Bool, not-true, not_from_false, false_from_ne_true}
use Rattle.tce_base.proofs.Words.{zero-plus}
use Rattle.tce_space.specs.IndexSet.{has, set_of}
use Rattle.tce_space.proofs.IndexSetLaws.{has-minus, has_below}
use Rattle.tce_tree.specs.ContractionTree.{ContractionTree, leaf, constant, binary, sum, is_leaf, dims, node, node_dims}
use Rattle.tce_tree.specs.Value.{Assignment, Elements, value, sum_over}
use Rattle.tce_code.specs.Execution.{coordinates}
use Rattle.tce_code.specs.Plan.{Plan}
use Rattle.tce_tree.specs.WellFormed.{among}
use Rattle.tce_code.proofs.Lists.{among-drop, among-parts, distinct-apart, distinct-drop}
use Rattle.tce_code.proofs.Words.{zero-is_word}
use Rattle.tce_tree.specs.WellFormed.{IsWellFormed}
use Rattle.tce_tree.proofs.Lists.{same_truth, among-filter, filter-among}
use Rattle.tce_tree.proofs.Members.{dims_lt}
use Rattle.tce_tree.proofs.NamedIndexes.{has-set_of_list, well_formed-operand, summed_below, summed_distinct, summed_present}
use Rattle.tce_tree.proofs.Permutations.{distinct-filter}
use Rattle.tce_tree.proofs.Values.{sum_over-lt, value-depends, value-lt}
use Rattle.tce_tree.specs.Fusion.{fused_at, order_at, kept_dims}
use Rattle.tce_tree.proofs.Sums.{sum_over_permuted}
use Rattle.tce_code.proofs.Readings.{InExtents, NodeFits, turned, nest_word}
use Rattle.tce_code.proofs.Sums.{nest_word-set, nest_word-sum}

-- the dims of a sum are those of its operand that are not summed
sum-dims : (indexes : List ℕ) (operand : ContractionTree) → IsWellFormed (sum indexes operand)
    → (i : ℕ) → has (dims (sum indexes operand)) i ≡ (has (dims operand) i && not (among indexes i))
sum-dims indexes operand w i =
    has-minus (dims operand) (set_of indexes) i
    ∙ ap (λ b. has (dims operand) i && not b) (has-set_of_list indexes i (summed_below indexes operand w))

-- the places of a node have its dimensions that are not fused
pub has-kept : (whole : ContractionTree) (plan : Plan) (c : ContractionTree) (v : ℕ) → node whole v ≡ c → (i : ℕ)
    → has (kept_dims whole plan.fusion v) i ≡ (has (dims c) i && not (has (fused_at plan.fusion v) i))
unfolding kept_dims node_dims
has-kept whole plan c v at i =
    has-minus (dims (node whole v)) (fused_at plan.fusion v) i ∙ ap (λ t. has (dims t) i && not (has (fused_at plan.fusion v) i)) at

-- a sum begins from 0
abbrev pub BeginsAt : ContractionTree → ℕ → Type 0
BeginsAt (leaf tensor indexes) old = Unit {0}
BeginsAt (constant number) old = Unit {0}
BeginsAt (binary op left right) old = Unit {0}
BeginsAt (sum indexes operand) old = old ≡ 0

-- the loops of node `v` from depth `joint` on, where the fused indexes are those of the loops above it
pub record Joins (plan : Plan) (c : ContractionTree) (v joint : ℕ) : Type 0 where
  pub within : (i : ℕ) → has (fused_at plan.fusion v) i ≡ true → has (dims c) i ≡ true
  pub members : (i : ℕ) → has (fused_at plan.fusion v) i ≡ among (take joint (order_at plan.orders v)) i

pub node-word : (whole : ContractionTree) (e : Elements) (plan : Plan) (c : ContractionTree) (v joint : ℕ)
    → IsWellFormed c → is_leaf c ≡ false → node whole v ≡ c → NodeFits plan c v → Joins plan c v joint
    → (a b : Assignment) → ((i : ℕ) → has (fused_at plan.fusion v) i ≡ true → b i ≡ a i) → InExtents e (has (dims c)) b
    → (old : ℕ) → BeginsAt c old
    → nest_word e.extent (λ z. bytes_eq (coordinates (kept_dims whole plan.fusion v) b) (coordinates (kept_dims whole plan.fusion v) z)) (turned e c)
    (drop joint (order_at plan.orders v)) a old
    ≡ value e c b
node-word whole e plan (leaf tensor indexes) v joint w n at nf joins a b agree inside old begins = absurd (true≢false n)
node-word whole e plan (constant number) v joint w n at nf joins a b agree inside old begins = absurd (true≢false n)
node-word whole e plan (binary op left right) v joint w n at nf joins a b agree inside old begins =
    nest_word-set e.extent (kept_dims whole plan.fusion v) (has (dims (binary op left right))) (value e (binary op left right)) b
    (λ i m. has_below (dims (binary op left right)) i (dims_lt (binary op left right)) (kept_in_dims i m)) kept_in_dims
    (λ y z h. value-depends e (binary op left right) y z w.indexed h) (drop joint (order_at plan.orders v)) (distinct-drop joint (order_at plan.orders v) nf.distinct) rest_kept
    (λ i m. inside i (kept_in_dims i (rest_kept i m))) a old
    (λ i t m. elim (among-parts joint (order_at plan.orders v) i (sym (nf.each i) ∙ t)) [
      | inl k ↦ sym (agree i (joins.members i ∙ k))
      | inr k ↦ absurd (false≢true (sym m ∙ k))
    ])
  where
    kept_in_dims : (i : ℕ) → has (kept_dims whole plan.fusion v) i ≡ true → has (dims (binary op left right)) i ≡ true
    kept_in_dims i m = (and_parts (has (dims (binary op left right)) i) (not (has (fused_at plan.fusion v) i)) (sym (has-kept whole plan (binary op left right) v at i) ∙ m)).0

    rest_kept : (i : ℕ) → among (drop joint (order_at plan.orders v)) i ≡ true → has (kept_dims whole plan.fusion v) i ≡ true
    rest_kept i m =
        has-kept whole plan (binary op left right) v at i
        ∙ and_from (has (dims (binary op left right)) i) (not (has (fused_at plan.fusion v) i)) (nf.each i ∙ among-drop joint (order_at plan.orders v) i m)
        (not_from_false (has (fused_at plan.fusion v) i) (false_from_ne_true (has (fused_at plan.fusion v) i)
        (λ q. distinct-apart joint (order_at plan.orders v) i nf.distinct (sym (joins.members i) ∙ q) m)))
node-word whole e plan (sum indexes operand) v joint w n at nf joins a b agree inside old begins =
    ap (nest_word e.extent (λ z. bytes_eq (coordinates (kept_dims whole plan.fusion v) b) (coordinates (kept_dims whole plan.fusion v) z)) (turned e (sum indexes operand))
    (drop joint (order_at plan.orders v)) a) begins
    ∙ nest_word-sum e.extent (kept_dims whole plan.fusion v) (has (dims operand)) (value e operand) b
    (λ i m. has_below (dims operand) i (dims_lt operand) (kept_operand i m)) kept_operand
    (λ y z h. value-depends e operand y z (well_formed-operand indexes operand w).indexed h) (drop joint (order_at plan.orders v)) (distinct-drop joint (order_at plan.orders v) nf.distinct)
    (λ i m k. inside i (kept_in_dims i k)) a b 0 zero-is_word
    (λ i t m. elim (among-parts joint (order_at plan.orders v) i (sym (nf.each i) ∙ t)) [
      | inl k ↦ sym (agree i (joins.members i ∙ k))
      | inr k ↦ absurd (false≢true (sym m ∙ k))
    ]) (λ i m. refl)
    ∙ zero-plus (sum_over e.extent (filter (λ i. not (has (kept_dims whole plan.fusion v) i)) (drop joint (order_at plan.orders v))) (value e operand) b)
    (sum_over-lt e.extent (filter (λ i. not (has (kept_dims whole plan.fusion v) i)) (drop joint (order_at plan.orders v))) (value e operand) b (λ z. value-lt e operand z))
    ∙ sum_over_permuted e.extent (filter (λ i. not (has (kept_dims whole plan.fusion v) i)) (drop joint (order_at plan.orders v))) indexes (value e operand) b
    (distinct-filter (λ i. not (has (kept_dims whole plan.fusion v) i)) (drop joint (order_at plan.orders v)) (distinct-drop joint (order_at plan.orders v) nf.distinct)) (summed_distinct indexes operand w)
    (λ i. same_truth (among (filter (λ j. not (has (kept_dims whole plan.fusion v) j)) (drop joint (order_at plan.orders v))) i) (among indexes i) (summed i) (left_over i))
  where
    kept_in_dims : (i : ℕ) → has (kept_dims whole plan.fusion v) i ≡ true → has (dims (sum indexes operand)) i ≡ true
    kept_in_dims i m = (and_parts (has (dims (sum indexes operand)) i) (not (has (fused_at plan.fusion v) i)) (sym (has-kept whole plan (sum indexes operand) v at i) ∙ m)).0

    dims_operand : (i : ℕ) → has (dims (sum indexes operand)) i ≡ true → (has (dims operand) i ≡ true) × (not (among indexes i) ≡ true)
    dims_operand i m = and_parts (has (dims operand) i) (not (among indexes i)) (sym (sum-dims indexes operand w i) ∙ m)

    kept_operand : (i : ℕ) → has (kept_dims whole plan.fusion v) i ≡ true → has (dims operand) i ≡ true
    kept_operand i m = (dims_operand i (kept_in_dims i m)).0

    summed : (i : ℕ) → among (filter (λ j. not (has (kept_dims whole plan.fusion v) j)) (drop joint (order_at plan.orders v))) i ≡ true → among indexes i ≡ true
    summed i m =
        let passes = among-filter (λ j. not (has (kept_dims whole plan.fusion v) j)) (drop joint (order_at plan.orders v)) i m in
        let stands = passes.1 in
        let passed : has (kept_dims whole plan.fusion v) i ≡ false =
        not-true (has (kept_dims whole plan.fusion v) i) passes.0 in
        elim (cases_Bool (among indexes i)) [
          | inl q ↦ q
          | inr q ↦ absurd (false≢true (sym passed ∙ has-kept whole plan (sum indexes operand) v at i
              ∙ and_from (has (dims (sum indexes operand)) i) (not (has (fused_at plan.fusion v) i))
              (sum-dims indexes operand w i ∙ and_from (has (dims operand) i) (not (among indexes i))
              (nf.each i ∙ among-drop joint (order_at plan.orders v) i stands) (not_from_false (among indexes i) q))
              (not_from_false (has (fused_at plan.fusion v) i) (false_from_ne_true (has (fused_at plan.fusion v) i)
              (λ r. distinct-apart joint (order_at plan.orders v) i nf.distinct (sym (joins.members i) ∙ r) stands)))))
        ]

    not_dims : (i : ℕ) → among indexes i ≡ true → has (dims (sum indexes operand)) i ≡ true → ⊥
    not_dims i m t = true≢false (sym m ∙ not-true (among indexes i) (dims_operand i t).1)

    left_over : (i : ℕ) → among indexes i ≡ true → among (filter (λ j. not (has (kept_dims whole plan.fusion v) j)) (drop joint (order_at plan.orders v))) i ≡ true
    left_over i m =
        filter-among (λ j. not (has (kept_dims whole plan.fusion v) j)) (drop joint (order_at plan.orders v)) i
        (not_from_false (has (kept_dims whole plan.fusion v) i) (false_from_ne_true (has (kept_dims whole plan.fusion v) i)
        (λ q. not_dims i m (kept_in_dims i q))))
        (elim (among-parts joint (order_at plan.orders v) i (sym (nf.each i) ∙ summed_present indexes operand i w m)) [
          | inl k ↦ absurd (not_dims i m (joins.within i (joins.members i ∙ k)))
          | inr k ↦ k
        ])
