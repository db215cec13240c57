-- The parent of a node, and what its loops have of the node's dims.
use Rattle.std.proofs.Common.{◌≡◌, ℕ, zero, suc, ◌+◌, ◌-◌, ◌<◌, ◌≤◌, Bool, true, false, not, None, Some, find, IsTrue, refl, sym, ap, ◌∙◌, subst, inl, inr, arith, leb, ltb, leb-true, ltb-true, lt-ltb, le-leb}
use Rattle.std.specs.List.{range_with_len}
use Rattle.std.proofs.lemmas.Bool.{cases_order, cases_lt, cases_eq, cases_Bool, and_parts, and_from, false≢true, or_left, or_right}
use Rattle.tce_space.specs.IndexSet.{has, IsWithin, set_of}
use Rattle.tce_space.proofs.IndexSetLaws.{has-union, has-minus}
use Rattle.tce_tree.specs.ContractionTree.{ContractionTree, leaf, constant, binary, sum, dims, loops, operations, node, in_subtree, parent}
use Rattle.tce_tree.proofs.Nodes.{size, size_bounds, size-left, size-right, size-operand, size-root, node-left, node-right_at, node-operand, node-root, in_left, in_right, at_root, part}

-- the first number that passes
pub find-range_some : (p : ℕ → Bool) (a n u : ℕ) → find p (range_with_len a n) ≡ Some u
    → (a ≤ u) × (u < a + n) × (p u ≡ true) × ((w : ℕ) → a ≤ w → w < u → p w ≡ false)
find-range_some p a zero u e = absurd cc
find-range_some p a (suc n) u e =
    elim (cases_Bool (p a)) [
      | inl t ↦
          let is : a ≡ u = first t in
          subst (λ x. (a ≤ x) × (x < a + suc n) × (p x ≡ true) × ((w : ℕ) → a ≤ w → w < x → p w ≡ false)) is (omega arith, omega arith, t, λ w g l. absurd (omega arith))
      | inr f ↦
          let r = find-range_some p (a + 1) n u (rw f at e) in
          (omega (arith, r.0), omega (arith, r.1), r.2, λ w g l. elim (cases_eq a w) [ inl s ↦ subst (λ x. p x ≡ false) s f | inr ne ↦ r.3 w (omega arith) l ])
    ]
  where
    first : p a ≡ true → a ≡ u
    first t = let s : Some a ≡ Some u = rw t at e in cc

pub find-range_finds : (p : ℕ → Bool) (a n u : ℕ) → a ≤ u → u < a + n → p u ≡ true → (w : ℕ) × (find p (range_with_len a n) ≡ Some w)
find-range_finds p a zero u g l t = absurd (omega arith)
find-range_finds p a (suc n) u g l t =
    elim (cases_Bool (p a)) [
      | inl s ↦ (a, rw s refl)
      | inr f ↦ elim (cases_eq a u) [
        | inl e ↦ absurd (false≢true (sym f ∙ ap p e ∙ t))
        | inr ne ↦ let r = find-range_finds p (a + 1) n u (omega arith) (omega arith) t in (r.0, rw f r.1)
      ]
    ]

-- a subtree as an interval of numbers
pub subtree_is : (tree : ContractionTree) (u v : ℕ) → in_subtree tree u v ≡ true → (v ≤ u) × (u < v + size tree u)
unfolding in_subtree
subtree_is tree u v h = let r = and_parts (leb v u) (ltb u (v + size tree u)) h in (leb-true _ _ r.0, ltb-true _ _ r.1)

pub subtree_from : (tree : ContractionTree) (u v : ℕ) → v ≤ u → u < v + size tree u → in_subtree tree u v ≡ true
unfolding in_subtree
subtree_from tree u v a b = and_from (leb v u) (ltb u (v + size tree u)) (le-leb _ _ a) (lt-ltb _ _ b)

-- node `u` is the least above `v`
pub record IsParent (tree : ContractionTree) (v u : ℕ) : Type 0 where
  pub above : v < u
  pub inside : u < operations tree
  pub holds : u < v + size tree u
  pub least : (w : ℕ) → v < w → w < u → w < v + size tree w → ⊥

pub parent_is : (tree : ContractionTree) (v u : ℕ) → parent tree v ≡ Some u → IsParent tree v u
unfolding parent
parent_is tree v u e =
    let r = find-range_some (λ u. in_subtree tree u v) (v + 1) (operations tree - (v + 1)) u e in
    record {
      above = omega (arith, r.0);
      inside = omega (arith, r.1, r.0);
      holds = (subtree_is tree u v r.2).1;
      least = λ w a b c. false≢true (sym (r.3 w (omega arith) b) ∙ subtree_from tree w v (omega arith) c);
    }

pub parent_exists : (tree : ContractionTree) (v : ℕ) → v + 1 < operations tree → (u : ℕ) × (parent tree v ≡ Some u)
unfolding parent
parent_exists tree v h =
    let top : ℕ = operations tree - 1 in
    find-range_finds (λ u. in_subtree tree u v) (v + 1) (operations tree - (v + 1)) (operations tree - 1) (omega arith) (omega arith)
    (subtree_from tree (operations tree - 1) v (omega arith) (omega (arith, size-root tree (operations tree - 1) (omega arith))))

-- the parent computes with each index on which the node depends
pub dims_within_parent : (tree : ContractionTree) (v u : ℕ) → IsParent tree v u → IsWithin (dims (node tree v)) (loops (node tree u))
dims_within_parent (leaf t is) v u p i h = absurd (omega (arith, p.inside))
dims_within_parent (constant n) v u p i h = absurd (omega (arith, p.inside))
dims_within_parent (binary op l r) v u p i h =
    elim (part l r u p.inside) [
      | in_left a ↦
          let e = node-left op l r v (omega (arith, p.above)) in
          let q : IsParent l v u = record {
            above = p.above;
            inside = a;
            holds = rw (← size-left op l r u a) p.holds;
            least = λ w x y z. p.least w x y (rw (size-left op l r w (omega arith)) z);
          } in
          rw (node-left op l r u a) (dims_within_parent l v u q i (rw e at h))
      | in_right a b ↦
          let s = size-right op l r u a b in
          let room = size_bounds r (u - operations l) (omega arith) in
          let g : operations l ≤ v = omega (arith, p.holds, s, room) in
          let m : v < operations l + operations r = omega (arith, p.above) in
          let e = node-right_at op l r v g m in
          let q : IsParent r (v - operations l) (u - operations l) = record {
            above = omega (arith, p.above);
            inside = omega arith;
            holds = omega (arith, p.holds, s);
            least = λ w x y z.
                let back : operations l + w - operations l ≡ w = omega arith in
                let t : size (binary op l r) (operations l + w) ≡ size r w =
                size-right op l r (operations l + w) (omega arith) (omega arith) ∙ ap (size r) back in
                p.least (operations l + w) (omega arith) (omega arith) (omega (arith, t));
          } in
          rw (node-right_at op l r u a b) (dims_within_parent r (v - operations l) (u - operations l) q i (rw e at h))
      | at_root e ↦
          rw (node-root (binary op l r) u (omega arith))
          (elim (cases_lt v (operations l)) [
            | inl a ↦
                let last : operations l ≤ v + 1 = last_left a e in
                rw has-union (or_left (has (dims l) i) (has (dims r) i) (rw (node-left op l r v a, node-root l v last) at h))
            | inr a ↦
                let b : v < operations l + operations r = omega (arith, p.above) in
                let last : operations r ≤ (v - operations l) + 1 = last_right a b e in
                rw has-union (or_right (has (dims l) i) (has (dims r) i) (rw (node-right_at op l r v a b, node-root r (v - operations l) last) at h))
          ])
    ]
  where
    last_left : v < operations l → u ≡ operations l + operations r → operations l ≤ v + 1
    last_left a e =
        elim (cases_lt (v + 1) (operations l)) [
          | inl b ↦
              let s : size (binary op l r) (operations l - 1) ≡ operations l =
              size-left op l r (operations l - 1) (omega arith) ∙ size-root l (operations l - 1) (omega arith) in
              absurd (p.least (operations l - 1) (omega arith) (omega arith) (omega (arith, s)))
          | inr b ↦ b
        ]

    last_right : operations l ≤ v → v < operations l + operations r → u ≡ operations l + operations r → operations r ≤ (v - operations l) + 1
    last_right a b e =
        elim (cases_lt (v + 1) (operations l + operations r)) [
          | inl c ↦
              let s : size (binary op l r) (operations l + operations r - 1) ≡ operations r =
              size-right op l r (operations l + operations r - 1) (omega arith) (omega arith) ∙ size-root r (operations l + operations r - 1 - operations l) (omega arith) in
              absurd (p.least (operations l + operations r - 1) (omega arith) (omega arith) (omega (arith, s)))
          | inr c ↦ omega arith
        ]
dims_within_parent (sum is e) v u p i h =
    elim (cases_lt u (operations e)) [
      | inl a ↦
          let f = node-operand is e v (omega (arith, p.above)) in
          let q : IsParent e v u = record {
            above = p.above;
            inside = a;
            holds = rw (← size-operand is e u a) p.holds;
            least = λ w x y z. p.least w x y (rw (size-operand is e w (omega arith)) z);
          } in
          rw (node-operand is e u a) (dims_within_parent e v u q i (rw f at h))
      | inr a ↦
          let b : v < operations e = omega (arith, p.above, p.inside) in
          rw (node-root (sum is e) u (omega arith)) (rw (node-operand is e v b, node-root e v (last b a)) at h)
    ]
  where
    last : v < operations e → operations e ≤ u → operations e ≤ v + 1
    last a b =
        elim (cases_lt (v + 1) (operations e)) [
          | inl c ↦
              let s : size (sum is e) (operations e - 1) ≡ operations e =
              size-operand is e (operations e - 1) (omega arith) ∙ size-root e (operations e - 1) (omega arith) in
              absurd (p.least (operations e - 1) (omega arith) (omega arith) (omega (arith, s)))
          | inr c ↦ c
        ]

-- a node computes with each index on which it depends
pub dims_within_loops : (tree : ContractionTree) (i : ℕ) → (0 < operations tree) → IsTrue (has (dims tree) i) → IsTrue (has (loops tree) i)
dims_within_loops (leaf t is) i o h = absurd (omega arith)
dims_within_loops (constant n) i o h = absurd (omega arith)
dims_within_loops (binary op l r) i o h = h
dims_within_loops (sum is e) i o h = (and_parts (has (dims e) i) (not (has (set_of is) i)) (sym (has-minus (dims e) (set_of is) i) ∙ h)).0

find-range_none : (p : ℕ → Bool) (a n : ℕ) → ((w : ℕ) → a ≤ w → w < a + n → p w ≡ false) → find p (range_with_len a n) ≡ None
find-range_none p a zero f = refl
find-range_none p a (suc n) f = rw (f a (omega arith) (omega arith)) (find-range_none p (a + 1) n (λ w g l. f w (omega arith) (omega arith)))

-- where no subtree below `u` holds `v`, and that of `u` does, `u` is the parent
pub parent_found : (tree : ContractionTree) (v u : ℕ) → v < u → u < operations tree → in_subtree tree u v ≡ true
    → ((w : ℕ) → v < w → w < u → in_subtree tree w v ≡ false) → Some u ≡ parent tree v
unfolding parent
parent_found tree v u above inside holds below =
    let r = find-range_finds (λ x. in_subtree tree x v) (v + 1) (operations tree - (v + 1)) u (omega arith) (omega arith) holds in
    let s = find-range_some (λ x. in_subtree tree x v) (v + 1) (operations tree - (v + 1)) r.0 r.1 in
    let same : u ≡ r.0 = elim (cases_order u r.0) [
      | inl e ↦ e
      | inr c ↦ elim c [
        | inl l ↦ absurd (false≢true (sym (s.3 u (omega arith) l) ∙ holds))
        | inr l ↦ absurd (false≢true (sym (below r.0 (omega (arith, s.0)) l) ∙ s.2))
      ]
    ] in
    ap Some same ∙ sym r.1

pub parent_none : (tree : ContractionTree) (v : ℕ) → ((w : ℕ) → v < w → w < operations tree → in_subtree tree w v ≡ false) → None ≡ parent tree v
unfolding parent
parent_none tree v none =
    sym (find-range_none (λ x. in_subtree tree x v) (v + 1) (operations tree - (v + 1)) (λ w g l. none w (omega arith) (omega arith)))
