-- Values that a body leaves in the places of nodes.
use Rattle.std.proofs.Common.{◌≡◌, ℕ, ◌+◌, ◌-◌, ◌*◌, ◌^◌, ◌<◌, ◌≤◌, true, Option, Some, List, [], bytes_eq, if◌then◌else◌, refl, sym, ap, ap₂, ◌∙◌, subst, inl, inr, arith}
use mathlib.Core.Path.{fun_ext}
use Rattle.std.proofs.lemmas.Bool.{cases_Bool, cases_eq, ne_eqb, eq-eqb, false≢true}
use Rattle.std.proofs.lemmas.Slice.Eq.{bytes_eq-Decides}
use Rattle.std.specs.Prelude.{◌⊎◌}
use Rattle.tce_base.specs.Word.{wrapping_add}
use Rattle.tce_base.proofs.Words.{zero-plus}
use Rattle.tce_space.specs.Space.{IndexSpace}
use Rattle.tce_tree.proofs.Nodes.{size_bounds}
use Rattle.tce_tree.proofs.Operands.{Stands, stands-node, left_child, right_child, only_child}
use Rattle.tce_tree.proofs.Parents.{parent_is}
use Rattle.tce_tree.proofs.Values.{value-lt, sum_over-lt}
use Rattle.tce_tree.specs.ContractionTree.{Arithmetic, ContractionTree, leaf, constant, binary, sum, multiply, operations, node, left_tree, right_tree}
use Rattle.tce_tree.specs.FlatTree.{first_number_of}
use Rattle.tce_tree.specs.Value.{Assignment, Elements, arithmetic, sum_over, value}
use Rattle.tce_code.specs.Execution.{Setting, State, coordinates, operand_word, left_word, right_word, cleared, apply, exec}
use Rattle.tce_code.specs.Generation.{followed_by}
use Rattle.tce_code.specs.Program.{Program, stop, step, loop, clear, compute, accumulate}
use Rattle.tce_code.specs.Shape.{IsBinary}
use Rattle.tce_walk.proofs.Carried.{written_here, not_written, no_coordinates}
use Rattle.tce_walk.proofs.KnownTails.{child-is}
use Rattle.tce_walk.proofs.Parts.{computing-binary}
use Rattle.tce_walk.proofs.Searching.{sum-node}
use Rattle.tce_walk.proofs.TailLaws.{joined_sums}
use Rattle.tce_walk.proofs.TailParts.{tail-bound}
use Rattle.tce_walk.specs.Bands.{Known, is_ready}
use Rattle.tce_walk.specs.FoundTerms.{AreRight, AddsUp, IsOver, LeavesValues, IsCheckedNode, SetsAlone}
use Rattle.tce_walk.specs.Machine.{inside_tail, joined_sum, IsJoined, IsJoinedTo}
use Rattle.tce_walk.specs.Search.{IsTailOf}
use Rattle.tce_walk.specs.TailLaws.{dims_at, SameButTwo, GrowsBySum, computed_word}
use Rattle.tce_walk.specs.Tails.{loops_round}
use Rattle.tce_walk.specs.Terms.{IsTensor}
use Rattle.tce_walk.specs.Touches.{block_count}
use Rattle.tce_walk.specs.declared.machine.Tail.{Tail}

-- ---- operands

-- an operand that is a node has its own number, and is that node
abbrev pub StandsAs : ContractionTree → ContractionTree → ℕ → Type 0
StandsAs tree c u = 0 < operations c → (u < operations tree) × (node tree u ≡ c)

pub left_stands : (tree c : ContractionTree) (v : ℕ) → v < operations tree → node tree v ≡ c → StandsAs tree (left_tree c) (v - 1 - operations (right_tree c))
unfolding first_number_of
left_stands tree (leaf t is) v l e some = absurd (omega (arith, some))
left_stands tree (constant n) v l e some = absurd (omega (arith, some))
left_stands tree (binary op x y) v l e some =
    let size = ap operations e in
    let low = (size_bounds tree v l).1 in
    let st : Stands tree (v + 1 - operations (binary op x y)) (binary op x y) = subst (λ c. Stands tree (v + 1 - operations c) c) e (stands-node tree v l) in
    let child = left_child tree (v + 1 - operations (binary op x y)) op x y st some in
    let number : v + 1 - operations (binary op x y) + operations x - 1 ≡ v - 1 - operations y = omega (arith, some, size, low) in
    subst (λ u. (u < operations tree) × (node tree u ≡ x)) number (child.inside, child.at)
left_stands tree (sum is x) v l e some =
    let size = ap operations e in
    let low = (size_bounds tree v l).1 in
    let st : Stands tree (v + 1 - operations (sum is x)) (sum is x) = subst (λ c. Stands tree (v + 1 - operations c) c) e (stands-node tree v l) in
    let child = only_child tree (v + 1 - operations (sum is x)) is x st some in
    let number : v + 1 - operations (sum is x) + operations x - 1 ≡ v - 1 - 0 = omega (arith, some, size, low) in
    subst (λ u. (u < operations tree) × (node tree u ≡ x)) number (child.inside, child.at)

pub right_stands : (tree c : ContractionTree) (v : ℕ) → v < operations tree → node tree v ≡ c → StandsAs tree (right_tree c) (v - 1)
unfolding first_number_of
right_stands tree (leaf t is) v l e some = absurd (omega (arith, some))
right_stands tree (constant n) v l e some = absurd (omega (arith, some))
right_stands tree (binary op x y) v l e some =
    let size = ap operations e in
    let low = (size_bounds tree v l).1 in
    let st : Stands tree (v + 1 - operations (binary op x y)) (binary op x y) = subst (λ c. Stands tree (v + 1 - operations c) c) e (stands-node tree v l) in
    let child = right_child tree (v + 1 - operations (binary op x y)) op x y st some in
    let number : v + 1 - operations (binary op x y) + operations x + operations y - 1 ≡ v - 1 = omega (arith, some, size, low) in
    subst (λ u. (u < operations tree) × (node tree u ≡ y)) number (child.inside, child.at)
right_stands tree (sum is x) v l e some = absurd (omega (arith, some))

-- the word of an operand that is ready is its value
operand_value : (s : Setting) (right : Known) (c : ContractionTree) (u : ℕ) (state : State) (a : Assignment) → is_ready right c u ≡ true → StandsAs s.tree c u
    → AreRight s right state a → operand_word s c u state a ≡ value s.elements c a
operand_value s right (leaf t is) u state a m at h = refl
operand_value s right (constant n) u state a m at h = refl
operand_value s right (binary op x y) u state a m at h =
    let there = at (omega arith) in h u there.0 m ∙ ap (λ c. value s.elements c a) there.1
operand_value s right (sum is x) u state a m at h =
    let there = at (omega arith) in h u there.0 m ∙ ap (λ c. value s.elements c a) there.1

-- ---- operations

value_binary : (e : Elements) (op : Arithmetic) (c : ContractionTree) (a : Assignment) → IsBinary op c
    → arithmetic op (value e (left_tree c) a) (value e (right_tree c) a) ≡ value e c a
value_binary e op (leaf t is) a h = absurd h
value_binary e op (constant n) a h = absurd h
value_binary e op (binary other x y) a h = ap (λ o. arithmetic o (value e x a) (value e y a)) h
value_binary e op (sum is x) a h = absurd h

-- a node with two operands that are ready gets its value
compute_right : (s : Setting) (before after : Known) (op : Arithmetic) (v : ℕ) (state : State) (a : Assignment) → v < operations s.tree → IsBinary op (node s.tree v)
    → IsCheckedNode s.tree v before after → AreRight s before state a → AreRight s after (apply s (compute op v) state a) a
compute_right s before after op v state a l kind checked h w inside m =
    let word : ℕ = arithmetic op (left_word s v state a) (right_word s v state a) in
    let left = operand_value s before (left_tree (node s.tree v)) (v - 1 - operations (right_tree (node s.tree v))) state a checked.left (left_stands s.tree (node s.tree v) v l refl) h in
    let right = operand_value s before (right_tree (node s.tree v)) (v - 1) state a checked.right (right_stands s.tree (node s.tree v) v l refl) h in
    elim (cases_eq w v) [
      | inl q ↦
          written_here state v (coordinates (dims_at s v) a) word w (coordinates (dims_at s w) a) q (ap (λ u. coordinates (dims_at s u) a) q)
          ∙ ap₂ (arithmetic op) left right ∙ value_binary s.elements op (node s.tree v) a kind ∙ ap (λ u. value s.elements (node s.tree u) a) (sym q)
      | inr ne ↦
          not_written state v (coordinates (dims_at s v) a) word w (coordinates (dims_at s w) a) (λ q r. ne q)
          ∙ elim (checked.marked w m) [ inl q ↦ absurd (ne q) | inr k ↦ h w inside k ]
    ]

pub leaves_compute : (space : IndexSpace) (tree : ContractionTree) (fusion : List ℕ) (t : ℕ) (op : Arithmetic) (v : ℕ) (rest : Program) (before mid after : Known) (n m : ℕ)
    → v < operations tree → IsBinary op (node tree v) → IsCheckedNode tree v before mid → m ≤ n + 3
    → LeavesValues space tree fusion t rest mid after n → LeavesValues space tree fusion t (step (compute op v) rest) before after m
leaves_compute space tree fusion t op v rest before mid after n m l kind checked more h = record {
  right = λ s state a over k.
      h.right s (apply s (compute op v) state a) a over
      (compute_right s before mid op v state a (subst (λ c. v < operations c) (sym over.tree_is) l) (subst (λ c. IsBinary op (node c v)) (sym over.tree_is) kind)
      (subst (λ c. IsCheckedNode c v before mid) (sym over.tree_is) checked) k);
  others = λ s state a p over away.
      h.others s (apply s (compute op v) state a) a p over away
      ∙ not_written state v (coordinates (dims_at s v) a) (arithmetic op (left_word s v state a) (right_word s v state a)) t p
      (λ q r. away (r ∙ ap (λ u. coordinates (dims_at s u) a) (sym q)));
  touches = omega (arith, h.touches, more);
}

pub leaves_stop : (space : IndexSpace) (tree : ContractionTree) (fusion : List ℕ) (t : ℕ) (program : Program) (right : Known) → program ≡ stop
    → LeavesValues space tree fusion t program right right 0
leaves_stop space tree fusion t program right is =
    subst (λ p. LeavesValues space tree fusion t p right right 0) (sym is) (record {
      right = λ s state a over k. k;
      others = λ s state a p over away. refl;
      touches = omega arith;
    })

-- a sum and what comes behind it
pub leaves_joined : (space : IndexSpace) (tree : ContractionTree) (fusion : List ℕ) (t v i : ℕ) (body rest : Program) (before mid after : Known) (n k m : ℕ) → m ≤ k + n
    → LeavesValues space tree fusion t (step (clear v) (loop i body stop)) before mid n → LeavesValues space tree fusion t rest mid after k
    → LeavesValues space tree fusion t (step (clear v) (loop i body rest)) before after m
leaves_joined space tree fusion t v i body rest before mid after n k m more g h = record {
  right = λ s state a over r. h.right s (exec s (step (clear v) (loop i body stop)) state a) a over (g.right s state a over r);
  others = λ s state a p over away. h.others s (exec s (step (clear v) (loop i body stop)) state a) a p over away ∙ g.others s state a p over away;
  touches = omega (arith, g.touches, h.touches, more);
}

-- ---- sums

inside_sum : (tree : ContractionTree) (u v : ℕ) (joined : Option ℕ) → joined ≡ Some v → IsJoined tree u v
    → inside_tail tree u joined ≡ step (compute multiply u) (step (accumulate v) stop)
inside_sum tree u v joined e j = ap₂ (λ p o. followed_by p (joined_sum o)) (computing-binary multiply (node tree u) u j.product) e

joined_to : (tree : ContractionTree) (u v : ℕ) (joined : Option ℕ) → joined ≡ Some v → IsJoinedTo tree u joined → IsJoined tree u v
joined_to tree u v joined e h = subst (IsJoinedTo tree u) e h

-- the product of two tensors has its value in each state
tensors_value : (s : Setting) (u : ℕ) (state : State) (a : Assignment) → IsBinary multiply (node s.tree u) → IsTensor (left_tree (node s.tree u)) → IsTensor (right_tree (node s.tree u))
    → computed_word s multiply u state a ≡ value s.elements (node s.tree u) a
tensors_value s u state a kind left right =
    ap₂ (arithmetic multiply) (tensor_word (left_tree (node s.tree u)) (u - 1 - operations (right_tree (node s.tree u))) left) (tensor_word (right_tree (node s.tree u)) (u - 1) right)
    ∙ value_binary s.elements multiply (node s.tree u) a kind
  where
    tensor_word : (c : ContractionTree) (w : ℕ) → IsTensor c → operand_word s c w state a ≡ value s.elements c a
    tensor_word (leaf t is) w h = refl
    tensor_word (constant n) w h = absurd h
    tensor_word (binary op x y) w h = absurd h
    tensor_word (sum is x) w h = absurd h

-- what the loops of a sum leave behind its `Clear`
record IsSummed (s : Setting) (u v : ℕ) (state now : State) (a : Assignment) : Type 0 where
  others : (w : ℕ) → (w ≡ u → ⊥) → (w ≡ v → ⊥) → (p : List ℕ) → now w p ≡ state w p
  summed : now v (coordinates (dims_at s v) a) ≡ value s.elements (node s.tree v) a

sum_left : (s : Setting) (space : IndexSpace) (tail : Tail) (v : ℕ) (state : State) (a : Assignment) → tail.node < operations s.tree → IsJoined s.tree tail.node v
    → AddsUp space s.tree s.fusion tail v
    → IsSummed s tail.node v state (exec s (loops_round tail.loops.0.items (step (compute multiply tail.node) (step (accumulate v) stop))) (cleared state v) a) a
sum_left s space tail v state a u_in joined adds = record {
  others = λ w nu nv p. law.0 w nu nv p ∙ (rw (ne_eqb w v nv) refl);
  summed =
      ap (now v) empty
      ∙ law.1 [] (subst (λ n. n < 2 ^ 64) (sym zero) (omega arith))
      ∙ ap (λ n. wrapping_add n (sum_over s.elements.extent order (λ b. if bytes_eq [] (coordinates (dims_at s v) b) then computed_word s multiply u (cleared state v) b else 0) a)) zero
      ∙ ap (λ f. wrapping_add 0 (sum_over s.elements.extent order f a)) (fun_ext same)
      ∙ zero-plus (sum_over s.elements.extent order (value s.elements (node s.tree u)) a) (sum_over-lt s.elements.extent order (value s.elements (node s.tree u)) a (λ b. value-lt s.elements (node s.tree u) b))
      ∙ adds.summed parts.0 parts.1 s.elements.extent (value s.elements (node s.tree u)) a parts.2
      ∙ ap (λ c. sum_over s.elements.extent parts.0 (value s.elements c) a) (child-is s.tree u v parts.0 parts.1 parts.2 u_in v_in joined.above)
      ∙ ap (λ c. value s.elements c a) (sym parts.2);
}
  where
    u : ℕ
    u = tail.node

    order : List ℕ
    order = tail.loops.0.items

    now : State
    now = exec s (loops_round order (step (compute multiply u) (step (accumulate v) stop))) (cleared state v) a

    v_in : v < operations s.tree
    v_in = (parent_is s.tree u v joined.above).inside

    parts : (is : List ℕ) × (e : ContractionTree) × (node s.tree v ≡ sum is e)
    parts = sum-node (node s.tree v) joined.sum

    law : SameButTwo u v (cleared state v) now × GrowsBySum s v order (computed_word s multiply u (cleared state v)) a (cleared state v) now
    law = joined_sums s multiply u v order (cleared state v) a u_in v_in joined.above joined.sum

    zero : cleared state v v [] ≡ 0
    zero = rw (eq-eqb v v refl) refl

    empty : coordinates (dims_at s v) a ≡ []
    empty = no_coordinates (dims_at s v) a adds.single

    same : (b : Assignment) → (if bytes_eq [] (coordinates (dims_at s v) b) then computed_word s multiply u (cleared state v) b else 0) ≡ value s.elements (node s.tree u) b
    same b =
        ap (λ p. if bytes_eq [] p then computed_word s multiply u (cleared state v) b else 0) (no_coordinates (dims_at s v) b adds.single)
        ∙ tensors_value s u (cleared state v) b joined.product adds.tensors.left adds.tensors.right

pub leaves_sum : (space : IndexSpace) (tree : ContractionTree) (fusion : List ℕ) (t v i : ℕ) (body : Program) (tail : Tail) (before after : Known) (n : ℕ)
    → (tail.node ≡ t → ⊥) → (v ≡ t → ⊥) → IsTailOf tree i body tail → AddsUp space tree fusion tail v
    → ((w : ℕ) → after w ≡ true → (w ≡ v) ⊎ ((w ≡ tail.node → ⊥) × (before w ≡ true))) → n ≡ 3 * block_count space tail.loops.0.items
    → LeavesValues space tree fusion t (step (clear v) (loop i body stop)) before after n
leaves_sum space tree fusion t v i body tail before after n not_u not_v found adds marks touches = record {
  right = λ s state a over h w inside m.
      let here = at s state a over in
      elim (cases_eq w v) [
        | inl q ↦ subst (λ x. exec s (loop i body stop) (cleared state v) a x (coordinates (dims_at s x) a) ≡ value s.elements (node s.tree x) a) (sym q) here.summed
        | inr ne ↦
            elim (marks w m) [
              | inl q ↦ absurd (ne q)
              | inr k ↦ here.others w k.0 ne (coordinates (dims_at s w) a) ∙ h w inside k.1
            ]
      ];
  others = λ s state a p over away. (at s state a over).others t (λ q. not_u (sym q)) (λ q. not_v (sym q)) p;
  touches = omega (arith, tail-bound space tree i body tail found, touches);
}
  where
    joined : IsJoined tree tail.node v
    joined = joined_to tree tail.node v tail.sum adds.joined found.joins

    is : loop i body stop ≡ loops_round tail.loops.0.items (step (compute multiply tail.node) (step (accumulate v) stop))
    is = found.is ∙ ap (loops_round tail.loops.0.items) (inside_sum tree tail.node v tail.sum adds.joined joined)

    at : (s : Setting) (state : State) (a : Assignment) → IsOver tree fusion s → IsSummed s tail.node v state (exec s (loop i body stop) (cleared state v) a) a
    at s state a over =
        subst (λ p. IsSummed s tail.node v state (exec s p (cleared state v) a) a) (sym is)
        (sum_left s space tail v state a (subst (λ c. tail.node < operations c) (sym over.tree_is) found.known) (subst (λ c. IsJoined c tail.node v) (sym over.tree_is) joined)
        (subst (λ c. AddsUp space c s.fusion tail v) (sym over.tree_is) (subst (λ g. AddsUp space tree g tail v) (sym over.fusion_is) adds)))

-- ---- the whole body

pub sets_alone : (space : IndexSpace) (tree : ContractionTree) (fusion : List ℕ) (t : ℕ) (body : Program) (before after : Known) (n : ℕ) (s : Setting) → IsOver tree fusion s
    → t < operations tree → after t ≡ true → ((v : ℕ) → v < operations tree → before v ≡ true → ⊥) → LeavesValues space tree fusion t body before after n
    → SetsAlone s t (value s.elements (node tree t)) body
sets_alone space tree fusion t body before after n s over l m none h state a p =
    elim (cases_Bool (bytes_eq p (coordinates (dims_at s t) a))) [
      | inl e ↦
          let at = (bytes_eq-Decides p (coordinates (dims_at s t) a)).0 e in
          ap (exec s body state a t) at
          ∙ h.right s state a over (λ v inside k. absurd (none v (subst (λ c. v < operations c) over.tree_is inside) k)) t (subst (λ c. t < operations c) (sym over.tree_is) l) m
          ∙ ap (λ c. value s.elements (node c t) a) over.tree_is
          ∙ sym (ap (λ hit. if hit then value s.elements (node tree t) a else state t p) e)
      | inr e ↦
          h.others s state a p over (λ q. false≢true (sym e ∙ (bytes_eq-Decides p (coordinates (dims_at s t) a)).1 q))
          ∙ sym (ap (λ hit. if hit then value s.elements (node tree t) a else state t p) e)
    ]
