-- The closed forms of tails.
use Rattle.std.proofs.Common.{◌≡◌, ℕ, ◌+◌, ◌-◌, ◌<◌, ◌≤◌, false, List, Some, None, refl, ap, ◌∙◌, subst, inl, inr, arith}
use Rattle.std.specs.Prelude.{bytes_eq}
use mathlib.Core.Path.{fun_ext}
use Rattle.std.proofs.lemmas.Bool.{true≢false}
use Rattle.tce_space.specs.IndexSet.{has}
use Rattle.tce_space.proofs.IndexSetLaws.{has_below, minus_lt}
use Rattle.tce_tree.specs.ContractionTree.{Arithmetic, ContractionTree, leaf, constant, binary, sum, is_leaf, operations, node, node_dims, left_tree, right_tree, parent}
use Rattle.tce_tree.specs.FlatTree.{operand_of, left_operand, right_operand, left_of, right_of, first_number_of}
use Rattle.tce_tree.specs.Fusion.{fused_at, kept_dims}
use Rattle.tce_tree.specs.Value.{Assignment}
use Rattle.tce_tree.specs.declared.node.Operand.TheVariants.{Node as NodeOperand}
use Rattle.tce_tree.proofs.Members.{node_dims_lt}
use Rattle.tce_tree.proofs.Nodes.{size_bounds, node-positive}
use Rattle.tce_tree.proofs.Operands.{parents_have_operands}
use Rattle.tce_block.specs.Last.{last_of_box}
use Rattle.tce_code.specs.Execution.{Setting, State, coordinates, left_word, right_word, operand_word}
use Rattle.tce_base.specs.Word.{wrapping_add}
use Rattle.tce_code.specs.Program.{step, stop, accumulate, compute}
use Rattle.tce_code.specs.Shape.{IsSum}
use Rattle.tce_code.proofs.Readings.{nest_word}
use Rattle.tce_code.proofs.Sums.{hits, IsBelowLimit, nest_word-miss}
use Rattle.tce_walk.specs.TailLaws.{dims_at, SameButTwo, GrowsBySum, EndsAtLast, AreLoops, state_after, computed_word, SumTailsAddUp, SingleTailsEndAtLast, JoinedLeaves, JoinedTailsAddUp}
use Rattle.tce_walk.proofs.Tails.{tail-word, computed-word, joined-word, nest_word-total, nest_word-last, last_hit, last_hit-at, left-elsewhere, right-elsewhere, sum-takes}
use Rattle.tce_walk.proofs.Searching.{sum-node}

-- a node with an operand that is a node has a number above 0
two-nodes-left : (c : ContractionTree) → is_leaf (left_tree c) ≡ false → 2 ≤ operations c
two-nodes-left (leaf t is) n = absurd (true≢false n)
two-nodes-left (constant k) n = absurd (true≢false n)
two-nodes-left (binary op l r) n = omega (arith, node-positive l n)
two-nodes-left (sum is e) n = omega (arith, node-positive e n)

two-nodes-right : (c : ContractionTree) → is_leaf (right_tree c) ≡ false → 2 ≤ operations c
two-nodes-right (leaf t is) n = absurd (true≢false n)
two-nodes-right (constant k) n = absurd (true≢false n)
two-nodes-right (binary op l r) n = omega (arith, node-positive r n)
two-nodes-right (sum is e) n = absurd (true≢false n)

left-positive : (tree : ContractionTree) (v : ℕ) → v < operations tree → is_leaf (left_tree (node tree v)) ≡ false → 0 < v
left-positive tree v h n = omega (arith, two-nodes-left (node tree v) n, (size_bounds tree v h).1)

right-positive : (tree : ContractionTree) (v : ℕ) → v < operations tree → is_leaf (right_tree (node tree v)) ≡ false → 0 < v
right-positive tree v h n = omega (arith, two-nodes-right (node tree v) n, (size_bounds tree v h).1)

kept-limit : (s : Setting) (v : ℕ) → IsBelowLimit (dims_at s v)
unfolding kept_dims
kept-limit s v i h = has_below (dims_at s v) i (minus_lt (node_dims s.tree v) (fused_at s.fusion v) (node_dims_lt s.tree v)) h

pub sum_tails_add_up : SumTailsAddUp
sum_tails_add_up s v order before a inside =
    let r = tail-word s v before (λ state same c. left-elsewhere s v (left-positive s.tree v inside) before state same c) order before a (λ u ne p. refl) in (
      r.0,
      (λ p word. r.1 p ∙ nest_word-total s.elements.extent (λ b. bytes_eq p (coordinates (dims_at s v) b)) (left_word s v before) order a (before v p) word),
    )

-- a word that is set by the loops' assignments, in the form of the law
pub ends-at-last : (s : Setting) (v : ℕ) (order : List ℕ) (f : Assignment → ℕ) (a : Assignment) (before after : State) (b : Assignment) → AreLoops s order
    → after v (coordinates (dims_at s v) b)
    ≡ nest_word s.elements.extent (hits (dims_at s v) b) (λ z w. f z) order a (before v (coordinates (dims_at s v) b))
    → EndsAtLast s v order f a before after b
ends-at-last s v order f a before after b loops e = record {
  met = λ inside agrees.
      e ∙ nest_word-last s.elements.extent (dims_at s v) f b (kept-limit s v) order loops.distinct loops.some inside a (before v (coordinates (dims_at s v) b)) agrees
      ∙ ap f last;
  missed = λ i h out ne.
      e ∙ nest_word-miss s.elements.extent (dims_at s v) (λ z w. f z) b i h (kept-limit s v i h) order out a (before v (coordinates (dims_at s v) b)) ne;
}
  where
    last : last_hit s.elements.extent (dims_at s v) b order a ≡ last_of_box s.elements.extent (has (dims_at s v)) b order a
    last = fun_ext (λ j. last_hit-at s.elements.extent (dims_at s v) b order a j loops.distinct)

pub single_tails_end_at_last : SingleTailsEndAtLast
single_tails_end_at_last s op v order before a inside loops =
    let r = computed-word s op v before
    (λ state same c. left-elsewhere s v (left-positive s.tree v inside) before state same c)
    (λ state same c. right-elsewhere s v (right-positive s.tree v inside) before state same c) order before a (λ u ne p. refl) in (
      r.0,
      (λ b. ends-at-last s v order (computed_word s op v before) a before (state_after s order (step (compute op v) stop) before a) b loops (r.1 (coordinates (dims_at s v) b))),
    )

child-number : (first : ℕ) (e : ContractionTree) (u : ℕ) → operand_of first e ≡ NodeOperand u → (is_leaf e ≡ false) × (u + 1 ≡ first + operations e)
child-number first (leaf t is) u e = absurd (let k : ⊥ = cc in k)
child-number first (constant n) u e = absurd (let k : ⊥ = cc in k)
child-number first (binary op l r) u e = let s : first + operations l + operations r ≡ u = cc in (refl, omega arith)
child-number first (sum is x) u e = let s : first + operations x ≡ u = cc in (refl, omega arith)

child-of : (tree : ContractionTree) (u v : ℕ) (is : List ℕ) (e : ContractionTree) → node tree v ≡ sum is e → u < operations tree → v < operations tree
    → parent tree u ≡ Some v → (is_leaf e ≡ false) × (u + 1 ≡ v)
unfolding left_of right_of first_number_of
child-of tree u v is e at u_in v_in up =
    elim ((parents_have_operands tree u v u_in v_in).0 up) [
      | inl l ↦
          let r = child-number (v + 1 - operations (sum is e)) e u (subst (λ c. left_operand (v + 1 - operations c) c ≡ NodeOperand u) at l) in
          (r.0, omega (arith, r.1, (size_bounds tree v v_in).1, ap operations at))
      | inr k ↦ absurd (none (subst (λ c. right_operand (v + 1 - operations c) c ≡ Some (NodeOperand u)) at k))
    ]
  where
    none : None ≡ Some (NodeOperand u) → ⊥
    none q = cc

-- an operand's word is in the places of its own node, which is neither of the two
operand-apart : (s : Setting) (c : ContractionTree) (w u v : ℕ) → (is_leaf c ≡ false → (w ≡ u → ⊥) × (w ≡ v → ⊥))
    → (before state : State) → SameButTwo u v before state → (a : Assignment) → operand_word s c w state a ≡ operand_word s c w before a
operand-apart s (leaf tensor indexes) w u v ne before state same a = refl
operand-apart s (constant number) w u v ne before state same a = refl
operand-apart s (binary op left right) w u v ne before state same a = same w (ne refl).0 (ne refl).1 (coordinates (dims_at s w) a)
operand-apart s (sum indexes operand) w u v ne before state same a = same w (ne refl).0 (ne refl).1 (coordinates (dims_at s w) a)

-- what the operation of a product and that of its sum leave, as words
joined-run : (s : Setting) (op : Arithmetic) (u : ℕ) (is : List ℕ) (e : ContractionTree) (order : List ℕ) (before : State) (a : Assignment)
    → u < operations s.tree → node s.tree (u + 1) ≡ sum is e → is_leaf e ≡ false
    → SameButTwo u (u + 1) before (state_after s order (step (compute op u) (step (accumulate (u + 1)) stop)) before a)
    × ((p : List ℕ) → state_after s order (step (compute op u) (step (accumulate (u + 1)) stop)) before a (u + 1) p
    ≡ nest_word s.elements.extent (λ b. bytes_eq p (coordinates (dims_at s (u + 1)) b)) (λ b w. wrapping_add w (computed_word s op u before b)) order a (before (u + 1) p))
    × ((p : List ℕ) → state_after s order (step (compute op u) (step (accumulate (u + 1)) stop)) before a u p
    ≡ nest_word s.elements.extent (λ b. bytes_eq p (coordinates (dims_at s u) b)) (λ b w. computed_word s op u before b) order a (before u p))
joined-run s op u is e order before a u_in at n =
    joined-word s op u (u + 1) before (λ q. omega arith) left_same right_same (λ state b. sum-takes s u is e at n state b) order before a (λ w nu nv p. refl)
  where
    left_same : (state : State) → SameButTwo u (u + 1) before state → (c : Assignment) → left_word s u state c ≡ left_word s u before c
    left_same state same c =
        operand-apart s (left_tree (node s.tree u)) (u - 1 - operations (right_tree (node s.tree u))) u (u + 1)
        (λ k. let some = left-positive s.tree u u_in k in ((λ q. omega arith), (λ q. omega arith))) before state same c

    right_same : (state : State) → SameButTwo u (u + 1) before state → (c : Assignment) → right_word s u state c ≡ right_word s u before c
    right_same state same c =
        operand-apart s (right_tree (node s.tree u)) (u - 1) u (u + 1)
        (λ k. let some = right-positive s.tree u u_in k in ((λ q. omega arith), (λ q. omega arith))) before state same c

-- the sum grows, and nothing changes but the two nodes
pub joined_sums : (s : Setting) (op : Arithmetic) (u v : ℕ) (order : List ℕ) (before : State) (a : Assignment) → u < operations s.tree → v < operations s.tree
    → parent s.tree u ≡ Some v → IsSum (node s.tree v)
    → SameButTwo u v before (state_after s order (step (compute op u) (step (accumulate v) stop)) before a)
    × GrowsBySum s v order (computed_word s op u before) a before (state_after s order (step (compute op u) (step (accumulate v) stop)) before a)
joined_sums s op u v order before a u_in v_in up is_sum =
    let parts = sum-node (node s.tree v) is_sum in
    let child = child-of s.tree u v parts.0 parts.1 parts.2 u_in v_in up in
    let r = joined-run s op u parts.0 parts.1 order before a u_in (ap (node s.tree) child.1 ∙ parts.2) child.0 in
    subst (λ w. SameButTwo u w before (state_after s order (step (compute op u) (step (accumulate w) stop)) before a)
    × GrowsBySum s w order (computed_word s op u before) a before (state_after s order (step (compute op u) (step (accumulate w) stop)) before a)) child.1 (
      r.0,
      (λ p word. r.1 p ∙ nest_word-total s.elements.extent (λ b. bytes_eq p (coordinates (dims_at s (u + 1)) b)) (computed_word s op u before) order a (before (u + 1) p) word),
    )

joined-next : (s : Setting) (op : Arithmetic) (u : ℕ) (is : List ℕ) (e : ContractionTree) (order : List ℕ) (before : State) (a : Assignment)
    → u < operations s.tree → node s.tree (u + 1) ≡ sum is e → is_leaf e ≡ false → AreLoops s order
    → JoinedLeaves s op u (u + 1) order before a (state_after s order (step (compute op u) (step (accumulate (u + 1)) stop)) before a)
joined-next s op u is e order before a u_in at n loops =
    let r = joined-run s op u is e order before a u_in at n in record {
      others = r.0;
      sums = λ p word. r.1 p
          ∙ nest_word-total s.elements.extent (λ b. bytes_eq p (coordinates (dims_at s (u + 1)) b)) (computed_word s op u before) order a (before (u + 1) p) word;
      last = λ b. ends-at-last s u order (computed_word s op u before) a before
          (state_after s order (step (compute op u) (step (accumulate (u + 1)) stop)) before a) b loops (r.2 (coordinates (dims_at s u) b));
    }

pub joined_tails_add_up : JoinedTailsAddUp
joined_tails_add_up s op u v order before a u_in v_in up is_sum loops =
    let parts = sum-node (node s.tree v) is_sum in
    let child = child-of s.tree u v parts.0 parts.1 parts.2 u_in v_in up in
    subst (λ w. JoinedLeaves s op u w order before a (state_after s order (step (compute op u) (step (accumulate w) stop)) before a)) child.1
    (joined-next s op u parts.0 parts.1 order before a u_in (ap (node s.tree) child.1 ∙ parts.2) child.0 loops)
