-- What a tail leaves is known by its closed forms.
use Rattle.std.proofs.Common.{◌≡◌, ℕ, ◌+◌, ◌-◌, ◌^◌, ◌<◌, ◌⊎◌, Bool, true, false, not, ◌||◌, eqb, Option, Some, None, List, [], ◌∷◌, bytes_eq, refl, sym, ap, ap₂, ◌∙◌, inl, inr, subst, arith}
use mathlib.Core.Path.{fun_ext}
use Rattle.std.proofs.lemmas.Bool.{cases_Bool, cases_eq, eq-eqb, ne_eqb, eqb-true, or_left, or_right, and_parts, or_parts, false≢true, true≢false}
use Rattle.std.proofs.lemmas.Slice.Eq.{bytes_eq-Decides}
use Rattle.tce_space.specs.IndexSet.{has, members}
use Rattle.tce_space.proofs.IndexSetLaws.{has-minus, minus_lt}
use Rattle.tce_tree.specs.ContractionTree.{ContractionTree, Arithmetic, multiply, leaf, constant, binary, sum, dims, loops, operations, node, node_dims, node_loops, parent}
use Rattle.tce_tree.specs.FlatTree.{left_operand, right_operand, left_of, right_of, first_number_of}
use Rattle.tce_tree.specs.Fusion.{kept_dims, fused_at}
use Rattle.tce_tree.specs.Value.{Assignment, with_number, IsInExtents}
use Rattle.tce_tree.specs.WellFormed.{among}
use Rattle.tce_tree.specs.declared.node.Operand.TheVariants.{Node as NodeOperand}
use Rattle.tce_tree.proofs.Members.{node_dims_lt}
use Rattle.tce_tree.proofs.Nodes.{size_bounds}
use Rattle.tce_tree.proofs.Operands.{Stands, stands-node, only_child, parents_have_operands, operand_number}
use Rattle.tce_tree.proofs.Parents.{dims_within_loops, parent_is}
use Rattle.tce_tree.proofs.Permutations.{among-members}
use Rattle.tce_tree.proofs.Assignments.{with-same, with-other}
use Rattle.tce_code.specs.Execution.{Setting, State, coordinates, exec, apply, with_word, left_word}
use Rattle.tce_code.specs.Generation.{followed_by}
use Rattle.tce_code.specs.Program.{Program, stop, step, compute, accumulate}
use Rattle.tce_code.specs.Shape.{IsBinary}
use Rattle.tce_code.proofs.Frames.{repeated_keeps}
use Rattle.tce_walk.specs.TailLaws.{dims_at, GrowsBySum, EndsAtLast, computed_word, state_after}
use Rattle.tce_walk.specs.Tails.{loops_round}
use Rattle.tce_walk.proofs.TailLaws.{sum_tails_add_up, single_tails_end_at_last, joined_tails_add_up}
use Rattle.tce_walk.specs.Laws.{IsPlaceAt, GrowsOnlyBySum, EndsOnlyAtLast, SumTailsAreKnown, SingleTailsAreKnown, JoinedTailsAreKnown}
use Rattle.tce_walk.specs.Machine.{operation_of_node, joined_sum, inside_tail, IsTailAt, IsJoined, IsJoinedTo}
use Rattle.tce_walk.specs.declared.machine.Tail.{Tail}
use Rattle.tce_walk.proofs.Parts.{computing-binary, computing-sum}
use Rattle.tce_walk.proofs.Searching.{sum-node}

-- an assignment that differs from another in some loops alone, whose numbers lie in their extents
pub record IsTurn (s : Setting) (order : List ℕ) (a b : Assignment) : Type 0 where
  pub inside : (i : ℕ) → among order i ≡ true → b i < s.elements.extent i
  pub same : (i : ℕ) → among order i ≡ false → b i ≡ a i

turn-further : (s : Setting) (i x : ℕ) (order : List ℕ) (a b : Assignment) → x < s.elements.extent i → IsTurn s order (with_number a i x) b → IsTurn s (i ∷ order) a b
turn-further s i x order a b l h = record {
  inside = λ j m.
      elim (cases_Bool (among order j)) [
        | inl t ↦ h.inside j t
        | inr f ↦ first j m f
      ];
  same = λ j f.
      elim (cases_eq i j) [
        | inl q ↦ absurd (false≢true (sym f ∙ or_left (eqb i j) (among order j) (eq-eqb i j q)))
        | inr q ↦ h.same j (rw (ne_eqb i j q) at f) ∙ with-other a i x j (λ r. q (sym r))
      ];
}
  where
    first : (j : ℕ) → among (i ∷ order) j ≡ true → among order j ≡ false → b j < s.elements.extent j
    first j m f =
        elim (cases_eq i j) [
          | inl q ↦ subst (λ k. b k < s.elements.extent k) q (let e : b i ≡ x = h.same i (ap (among order) q ∙ f) ∙ with-same a i x in omega (arith, e, l))
          | inr q ↦ absurd (false≢true (sym f ∙ (rw (ne_eqb i j q) at m)))
        ]

-- what each turn of the inside keeps, the loops keep
pub round-keeps : (P : State → Type 0) (s : Setting) (inside : Program) (order : List ℕ) (state : State) (a : Assignment) → P state
    → ((b : Assignment) → IsTurn s order a b → (other : State) → P other → P (exec s inside other b)) → P (exec s (loops_round order inside) state a)
round-keeps P s inside [] state a start keeps = keeps a (record { inside = λ i m. absurd (false≢true m); same = λ i f. refl }) state start
round-keeps P s inside (i ∷ order) state a start keeps =
    repeated_keeps P (s.elements.extent i) (λ x other. exec s (loops_round order inside) other (with_number a i x)) state start
    (λ x other l h. round-keeps P s inside order other (with_number a i x) h (λ b t. keeps b (turn-further s i x order a b l t)))

-- the kept dims of a node are among its loops
pub kept-loops : (s : Setting) (v i : ℕ) → v < operations s.tree → has (dims_at s v) i ≡ true → has (node_loops s.tree v) i ≡ true
unfolding kept_dims node_dims node_loops
kept-loops s v i l h =
    dims_within_loops (node s.tree v) i (size_bounds s.tree v l).0
    (and_parts (has (dims (node s.tree v)) i) (not (has (fused_at s.fusion v) i)) (sym (has-minus (dims (node s.tree v)) (fused_at s.fusion v) i) ∙ h)).0

-- at each turn of a tail the numbers of the node's loops lie in their extents
turn-inside : (s : Setting) (tail : Tail) (a b : Assignment) → IsTailAt s tail a → IsTurn s tail.loops.0.items a b → (i : ℕ) → has (node_loops s.tree tail.node) i ≡ true
    → b i < s.elements.extent i
turn-inside s tail a b at turn i m =
    elim (cases_Bool (among tail.loops.0.items i)) [
      | inl t ↦ turn.inside i t
      | inr f ↦ let e = turn.same i f in omega (arith, e, at.inside i m f)
    ]

-- no turn falls on what is no place
pub misses : (s : Setting) (v : ℕ) (p : List ℕ) (b : Assignment) → ((c : Assignment) → IsPlaceAt s v p c → ⊥) → IsInExtents s.elements (dims_at s v) b
    → bytes_eq p (coordinates (dims_at s v) b) ≡ false
misses s v p b outside inside =
    elim (cases_Bool (bytes_eq p (coordinates (dims_at s v) b))) [
      | inl t ↦ absurd (outside b (inside, sym ((bytes_eq-Decides p (coordinates (dims_at s v) b)).0 t)))
      | inr f ↦ f
    ]

with-outside : (state : State) (v u : ℕ) (q p : List ℕ) (w : ℕ) → bytes_eq p q ≡ false → with_word state v q w u p ≡ state u p
with-outside state v u q p w f =
    elim (cases_Bool (eqb u v)) [
      | inl t ↦ rw (t, f) refl
      | inr t ↦ rw t refl
    ]

-- places outside stay
tail-outside : (s : Setting) (tail : Tail) (w : ℕ) (a : Assignment) (before : State) (p : List ℕ) (inside : Program) → IsTailAt s tail a
    → ((i : ℕ) → has (dims_at s w) i ≡ true → has (node_loops s.tree tail.node) i ≡ true)
    → ((state : State) (b : Assignment) → bytes_eq p (coordinates (dims_at s w) b) ≡ false → exec s inside state b w p ≡ state w p)
    → ((c : Assignment) → IsPlaceAt s w p c → ⊥) → state_after s tail.loops.0.items inside before a w p ≡ before w p
tail-outside s tail w a before p inside at within keeps outside =
    round-keeps (λ state. state w p ≡ before w p) s inside tail.loops.0.items before a refl
    (λ b turn other h. keeps other b (misses s w p b outside (λ i m. turn-inside s tail a b at turn i (within i m))) ∙ h)

-- two states that both stay or both have the closed form are one
grown-same : (s : Setting) (v : ℕ) (order : List ℕ) (f : Assignment → ℕ) (a : Assignment) (before after left : State) (p : List ℕ) → before v p < 2 ^ 64
    → GrowsOnlyBySum s v order f a before after → GrowsBySum s v order f a before left
    → (((c : Assignment) → IsPlaceAt s v p c → ⊥) → left v p ≡ before v p) → after v p ≡ left v p
grown-same s v order f a before after left p word grows law outside =
    elim (grows p) [
      | inl e ↦ e ∙ sym (law p word)
      | inr h ↦ h.same ∙ sym (outside h.outside)
    ]

-- whether some kept dim outside the loops has another number
pub decide-all : (xs : List ℕ) (P : ℕ → Bool) → ((i : ℕ) → among xs i ≡ true → P i ≡ true) ⊎ ((i : ℕ) × (among xs i ≡ true) × (P i ≡ false))
decide-all [] P = inl (λ i m. absurd (false≢true m))
decide-all (x ∷ xs) P =
    elim (cases_Bool (P x)) [
      | inl t ↦
          elim (decide-all xs P) [
            | inl h ↦ inl (λ i m. elim (cases_eq x i) [
              | inl q ↦ sym (ap P q) ∙ t
              | inr q ↦ h i (rw (ne_eqb x i q) at m)
            ])
            | inr h ↦ inr (h.0, or_right (eqb x h.0) (among xs h.0) h.1, h.2)
          ]
      | inr f ↦ inr (x, or_left (eqb x x) (among xs x) (eq-eqb x x refl), f)
    ]

-- outside the loops the numbers agree
abbrev agrees : List ℕ → Assignment → Assignment → ℕ → Bool
agrees order a b i = among order i || eqb (a i) (b i)

last-same : (s : Setting) (v : ℕ) (order : List ℕ) (f : Assignment → ℕ) (a : Assignment) (before after left : State) (b : Assignment)
    → IsInExtents s.elements (dims_at s v) b → EndsAtLast s v order f a before after b → EndsAtLast s v order f a before left b
    → after v (coordinates (dims_at s v) b) ≡ left v (coordinates (dims_at s v) b)
unfolding kept_dims
last-same s v order f a before after left b inside h k =
    elim (decide-all (members (dims_at s v)) (agrees order a b)) [
      | inl all ↦
          let same : (i : ℕ) → has (dims_at s v) i ≡ true → among order i ≡ false → a i ≡ b i =
          λ i m out. eqb-true (a i) (b i) ((rw out at (all i (named i ∙ m)))) in
          h.met (λ i m. inside i) same ∙ sym (k.met (λ i m. inside i) same)
      | inr one ↦
          let parts = or_parts (among order one.0) (eqb (a one.0) (b one.0)) one.2 in
          let differ : a one.0 ≡ b one.0 → ⊥ = λ q. true≢false (sym (eq-eqb (a one.0) (b one.0) q) ∙ parts.1) in
          let there : has (dims_at s v) one.0 ≡ true = sym (named one.0) ∙ one.1 in
          h.missed one.0 there parts.0 differ ∙ sym (k.missed one.0 there parts.0 differ)
    ]
  where
    named : (i : ℕ) → among (members (dims_at s v)) i ≡ has (dims_at s v) i
    named i = among-members (dims_at s v) i (minus_lt (node_dims s.tree v) (fused_at s.fusion v) (node_dims_lt s.tree v))

pub ended-same : (s : Setting) (v : ℕ) (order : List ℕ) (f : Assignment → ℕ) (a : Assignment) (before after left : State) (p : List ℕ)
    → EndsOnlyAtLast s v order f a before after → ((b : Assignment) → EndsAtLast s v order f a before left b)
    → (((c : Assignment) → IsPlaceAt s v p c → ⊥) → left v p ≡ before v p) → after v p ≡ left v p
ended-same s v order f a before after left p ends law outside =
    elim (ends p) [
      | inl h ↦ subst (λ q. after v q ≡ left v q) h.1.1 (last-same s v order f a before after left h.0 h.1.0 h.2 (law h.0))
      | inr h ↦ h.same ∙ sym (outside h.outside)
    ]

-- two states that agree at each place of each node are one
states-same : (after left : State) → ((u : ℕ) (p : List ℕ) → after u p ≡ left u p) → after ≡ left
states-same after left h = fun_ext (λ u. fun_ext (λ p. h u p))

at-or-not : (v u : ℕ) (after left : State) (p : List ℕ) → after v p ≡ left v p → ((u ≡ v → ⊥) → after u p ≡ left u p) → after u p ≡ left u p
at-or-not v u after left p here there =
    elim (cases_eq u v) [
      | inl q ↦ subst (λ w. after w p ≡ left w p) (sym q) here
      | inr q ↦ there q
    ]

-- what stands inside a tail of one operation
alone-is : (tree : ContractionTree) (v : ℕ) (joined : Option ℕ) (action : Program → Program) → joined ≡ None → operation_of_node tree v ≡ action stop
    → ((rest : Program) → followed_by (action stop) rest ≡ action rest) → inside_tail tree v joined ≡ action stop
alone-is tree v joined action e h goes_on = ap₂ (λ p j. followed_by p (joined_sum j)) h e ∙ goes_on stop

pub sum_tails_are_known : SumTailsAreKnown
sum_tails_are_known s tail a before after at alone is_sum words same grows =
    let left : State = state_after s tail.loops.0.items (step (accumulate tail.node) stop) before a in
    let law = sum_tails_add_up s tail.node tail.loops.0.items before a at.known in
    states-same after left (λ u p.
    at-or-not tail.node u after left p
    (grown-same s tail.node tail.loops.0.items (left_word s tail.node before) a before after left p (words p) grows law.1
    (tail-outside s tail tail.node a before p (step (accumulate tail.node) stop) at (λ i m. kept-loops s tail.node i at.known m)
    (λ state b f. with-outside state tail.node tail.node (coordinates (dims_at s tail.node) b) p _ f)))
    (λ ne. same u ne p ∙ sym (law.0 u ne p)))
    ∙ sym (ap (λ inside. state_after s tail.loops.0.items inside before a)
    (alone-is s.tree tail.node tail.sum (step (accumulate tail.node)) alone (computing-sum (node s.tree tail.node) tail.node is_sum) (λ rest. refl)))

pub single_tails_are_known : SingleTailsAreKnown
single_tails_are_known s op tail a before after at alone is_op turns same ends =
    let left : State = state_after s tail.loops.0.items (step (compute op tail.node) stop) before a in
    let law = single_tails_end_at_last s op tail.node tail.loops.0.items before a at.known turns in
    states-same after left (λ u p.
    at-or-not tail.node u after left p
    (ended-same s tail.node tail.loops.0.items (computed_word s op tail.node before) a before after left p ends law.1
    (tail-outside s tail tail.node a before p (step (compute op tail.node) stop) at (λ i m. kept-loops s tail.node i at.known m)
    (λ state b f. with-outside state tail.node tail.node (coordinates (dims_at s tail.node) b) p _ f)))
    (λ ne. same u ne p ∙ sym (law.0 u ne p)))
    ∙ sym (ap (λ inside. state_after s tail.loops.0.items inside before a)
    (alone-is s.tree tail.node tail.sum (step (compute op tail.node)) alone (computing-binary op (node s.tree tail.node) tail.node is_op) (λ rest. refl)))

pub child-is : (tree : ContractionTree) (u v : ℕ) (is : List ℕ) (e : ContractionTree) → node tree v ≡ sum is e → u < operations tree → v < operations tree
    → parent tree u ≡ Some v → node tree u ≡ e
unfolding left_of right_of first_number_of
child-is tree u v is e at u_in v_in up =
    elim ((parents_have_operands tree u v u_in v_in).0 up) [
      | inl l ↦
          let r = operand_number (v + 1 - operations (sum is e)) e u (subst (λ c. left_operand (v + 1 - operations c) c ≡ NodeOperand u) at l) in
          let st : Stands tree (v + 1 - operations (sum is e)) (sum is e) = subst (λ c. Stands tree (v + 1 - operations c) c) at (stands-node tree v v_in) in
          ap (node tree) r.1 ∙ (only_child tree (v + 1 - operations (sum is e)) is e st r.0).at
      | inr k ↦ absurd (none (subst (λ c. right_operand (v + 1 - operations c) c ≡ Some (NodeOperand u)) at k))
    ]
  where
    none : None ≡ Some (NodeOperand u) → ⊥
    none q = cc

binary-loops : (op : Arithmetic) (c : ContractionTree) → IsBinary op c → dims c ≡ loops c
binary-loops op (leaf t is) h = absurd h
binary-loops op (constant k) h = absurd h
binary-loops op (binary other l r) h = refl
binary-loops op (sum is e) h = absurd h

-- the sum that takes a product has its loops
sum-loops : (tree : ContractionTree) (u v : ℕ) → u < operations tree → v < operations tree → IsJoined tree u v → node_loops tree v ≡ node_loops tree u
unfolding node_loops
sum-loops tree u v u_in v_in h =
    let parts = sum-node (node tree v) h.sum in
    ap loops parts.2 ∙ ap dims (sym (child-is tree u v parts.0 parts.1 parts.2 u_in v_in h.above)) ∙ binary-loops multiply (node tree u) h.product

with-elsewhere : (state : State) (v u : ℕ) (q p : List ℕ) (w : ℕ) → (u ≡ v → ⊥) → with_word state v q w u p ≡ state u p
with-elsewhere state v u q p w ne = rw (ne_eqb u v ne) refl

joined-is : (tree : ContractionTree) (u v : ℕ) (joined : Option ℕ) → joined ≡ Some v → IsBinary multiply (node tree u)
    → inside_tail tree u joined ≡ step (compute multiply u) (step (accumulate v) stop)
joined-is tree u v joined e h = ap₂ (λ p j. followed_by p (joined_sum j)) (computing-binary multiply (node tree u) u h) e

pub joined_tails_are_known : JoinedTailsAreKnown
joined_tails_are_known s tail v a before after at joined turns words same grows ends =
    let j : IsJoined s.tree tail.node v = subst (IsJoinedTo s.tree tail.node) joined at.joined in
    let up = parent_is s.tree tail.node v j.above in
    let apart : tail.node ≡ v → ⊥ = λ q. omega (arith, up.above) in
    let other : v ≡ tail.node → ⊥ = λ q. omega (arith, up.above) in
    let inside : Program = step (compute multiply tail.node) (step (accumulate v) stop) in
    let left : State = state_after s tail.loops.0.items inside before a in
    let law = joined_tails_add_up s multiply tail.node v tail.loops.0.items before a at.known up.inside j.above j.sum turns in
    states-same after left (λ u p.
    at-or-not tail.node u after left p
    (ended-same s tail.node tail.loops.0.items (computed_word s multiply tail.node before) a before after left p ends law.last
    (tail-outside s tail tail.node a before p inside at (λ i m. kept-loops s tail.node i at.known m)
    (λ state b f.
    with-elsewhere (apply s (compute multiply tail.node) state b) v tail.node (coordinates (dims_at s v) b) p _ apart
    ∙ with-outside state tail.node tail.node (coordinates (dims_at s tail.node) b) p (computed_word s multiply tail.node state b) f)))
    (λ ne.
    at-or-not v u after left p
    (grown-same s v tail.loops.0.items (computed_word s multiply tail.node before) a before after left p (words p) grows law.sums
    (tail-outside s tail v a before p inside at
    (λ i m. ap (λ set. has set i) (sym (sum-loops s.tree tail.node v at.known up.inside j)) ∙ kept-loops s v i up.inside m)
    (λ state b f.
    with-outside (apply s (compute multiply tail.node) state b) v v (coordinates (dims_at s v) b) p _ f
    ∙ with-elsewhere state tail.node v (coordinates (dims_at s tail.node) b) p (computed_word s multiply tail.node state b) other)))
    (λ nv. same u ne nv p ∙ sym (law.others u ne nv p))))
    ∙ sym (ap (λ q. state_after s tail.loops.0.items q before a) (joined-is s.tree tail.node v tail.sum joined j.product))
