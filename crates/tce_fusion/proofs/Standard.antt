-- The standard orders of a legal fusion carry it.
use Rattle.std.proofs.Common.{◌≡◌, ℕ, zero, suc, ◌+◌, ◌<◌, ◌≤◌, Bool, true, false, cond, List, [], ◌∷◌, length, take, get_or, filter, count_by, AllPairs, Some, refl, sym, ap, ◌∙◌, subst, inl, inr, arith}
use Rattle.std.specs.List.{range_with_len}
use Rattle.std.proofs.lemmas.Bool.{cases_eq, cases_Bool, false_from_ne_true, false≢true}
use Rattle.std.proofs.lemmas.List.Sums.{sum_by-cons}
use Rattle.tce_space.specs.IndexSet.{has, count}
use Rattle.tce_tree.specs.ContractionTree.{ContractionTree, operations, node_loops}
use Rattle.tce_tree.specs.Fusion.{fused_at, order_at, FusionFits, OrdersFit, LeadBoth, Carries}
use Rattle.tce_tree.proofs.Parents.{parent_is}
use Rattle.tce_tree.specs.WellFormed.{among}
use Rattle.tce_tree.proofs.Lists.{among-contains, contains-among, among-filter, filter-among, same_truth}
use Rattle.tce_tree.proofs.Conditions.{fused_low, count_in_order}
use Rattle.tce_fusion.specs.Scope.{scope, IsLegal, scope_size, Precedes, IsStandardAt}
use Rattle.tce_fusion.proofs.Leads.{count_yes, count_no, Ascends, Ascends-weaker, Ascends-filter, front_is_filter, same_sorted}
use Rattle.tce_fusion.proofs.ScopeLaws.{parent_of, parent-is, is_numbered, is_spanned}
use Rattle.tce_fusion.proofs.Carried.{loop_in_order, order_in_loops, fused_above}

-- counts over a range of numbers
pub count-range-same : (p q : ℕ → Bool) (a n : ℕ) → ((w : ℕ) → a ≤ w → w < a + n → p w ≡ q w) → count_by p (range_with_len a n) ≡ count_by q (range_with_len a n)
count-range-same p q a zero f = refl
count-range-same p q a (suc n) f =
    sum_by-cons (λ x. cond (p x) 1 0) a (range_with_len (a + 1) n)
    ∙ ap (λ c. c + count_by p (range_with_len (a + 1) n)) (ap (λ b. cond b 1 0) (f a (omega arith) (omega arith)))
    ∙ ap (λ c. cond (q a) 1 0 + c) (count-range-same p q (a + 1) n (λ w g l. f w (omega arith) (omega arith)))
    ∙ sym (sum_by-cons (λ x. cond (q x) 1 0) a (range_with_len (a + 1) n))

count-range-le : (p q : ℕ → Bool) (a n : ℕ) → ((w : ℕ) → a ≤ w → w < a + n → p w ≡ true → q w ≡ true) → count_by p (range_with_len a n) ≤ count_by q (range_with_len a n)
count-range-le p q a zero f = omega arith
count-range-le p q a (suc n) f =
    let r = count-range-le p q (a + 1) n (λ w g l. f w (omega arith) (omega arith)) in
    elim (cases_Bool (p a)) [
      | inl t ↦ omega (arith, r, count_yes p a (range_with_len (a + 1) n) t, count_yes q a (range_with_len (a + 1) n) (f a (omega arith) (omega arith) t))
      | inr e ↦ elim (cases_Bool (q a)) [
        | inl t ↦ omega (arith, r, count_no p a (range_with_len (a + 1) n) e, count_yes q a (range_with_len (a + 1) n) t)
        | inr d ↦ omega (arith, r, count_no p a (range_with_len (a + 1) n) e, count_no q a (range_with_len (a + 1) n) d)
      ]
    ]

-- a proper part has fewer members
count-range-lt : (p q : ℕ → Bool) (a n x : ℕ) → ((w : ℕ) → a ≤ w → w < a + n → p w ≡ true → q w ≡ true) → a ≤ x → x < a + n → p x ≡ false → q x ≡ true
    → count_by p (range_with_len a n) < count_by q (range_with_len a n)
count-range-lt p q a zero x f g l px qx = absurd (omega arith)
count-range-lt p q a (suc n) x f g l px qx =
    elim (cases_eq a x) [
      | inl e ↦
          let r = count-range-le p q (a + 1) n (λ w g l. f w (omega arith) (omega arith)) in
          omega (arith, r, count_no p a (range_with_len (a + 1) n) (ap p e ∙ px), count_yes q a (range_with_len (a + 1) n) (ap q e ∙ qx))
      | inr ne ↦
          let r = count-range-lt p q (a + 1) n x (λ w g l. f w (omega arith) (omega arith)) (omega arith) (omega arith) px qx in
          elim (cases_Bool (p a)) [
            | inl t ↦ omega (arith, r, count_yes p a (range_with_len (a + 1) n) t, count_yes q a (range_with_len (a + 1) n) (f a (omega arith) (omega arith) t))
            | inr e ↦ elim (cases_Bool (q a)) [
              | inl t ↦ omega (arith, r, count_no p a (range_with_len (a + 1) n) e, count_yes q a (range_with_len (a + 1) n) t)
              | inr d ↦ omega (arith, r, count_no p a (range_with_len (a + 1) n) e, count_no q a (range_with_len (a + 1) n) d)
            ]
          ]
    ]

-- pairs by places, and the same along the list
Ascends-from_pairs : (R : ℕ → ℕ → Type 0) (xs : List ℕ) → AllPairs R xs → Ascends R xs
Ascends-from_pairs R [] h = tt
Ascends-from_pairs R (x ∷ xs) h = (
  (λ y m. later (among-contains xs y m).0 y (among-contains xs y m).1 (among-contains xs y m).2),
  Ascends-from_pairs R xs (λ i j d l b. h (suc i) (suc j) d (omega arith) (omega arith)),
)
  where
    later : (k y : ℕ) → k < length xs → get_or xs k y ≡ y → R x y
    later k y l e = subst (λ z. R x z) e (h 0 (suc k) y (omega arith) (omega arith))

module _ (tree : ContractionTree) (fusion : List ℕ) (fits : FusionFits tree fusion) (legal : IsLegal tree fusion) where
  n : ℕ
  n = operations tree

  -- an index that is not fused on an edge has the smaller scope at both of its ends
  smaller : (v u y x j : ℕ) → v < operations tree → u < operations tree → y < operations tree
      → has (node_loops tree y) x ≡ true → has (node_loops tree y) j ≡ true
      → scope tree fusion j y v ≡ true → scope tree fusion j y u ≡ true
      → scope tree fusion x y v ≡ true → (scope tree fusion x y u ≡ true → ⊥)
      → scope_size tree fusion x y < scope_size tree fusion j y
  unfolding scope_size
  smaller v u y x j v_in u_in y_in hx hj jv ju xv xu =
      elim (legal y y x j y_in y_in hx hj) [
        | inl apart ↦ absurd (apart v v_in xv jv)
        | inr c ↦ elim c [
          | inl sub ↦ count-range-lt (scope tree fusion x y) (scope tree fusion j y) 0 (operations tree) u (λ w g l h. sub w (omega arith) h) (omega arith) (omega arith) (false_from_ne_true (scope tree fusion x y u) xu) ju
          | inr sub ↦ absurd (xu (sub u u_in ju))
        ]
      ]

Precedes_one_way : (tree : ContractionTree) (fusion : List ℕ) (v i j : ℕ) → Precedes tree fusion v i j → Precedes tree fusion v j i → ⊥
Precedes_one_way tree fusion v i j p q =
    elim p [
      | inl a ↦ elim q [ inl b ↦ omega arith | inr b ↦ omega (arith, b.0) ]
      | inr a ↦ elim q [ inl b ↦ omega (arith, a.0) | inr b ↦ omega (arith, a.1, b.1) ]
    ]

-- the scope of an index is as large at both ends of an edge that fuses it
scope_size_along : (tree : ContractionTree) (fusion : List ℕ) (v i : ℕ) → v + 1 < operations tree → has (fused_at fusion v) i ≡ true
    → scope_size tree fusion i v ≡ scope_size tree fusion i (parent_of tree v)
unfolding scope_size
scope_size_along tree fusion v i e f =
    let s = is_spanned tree fusion in
    count-range-same (scope tree fusion i v) (scope tree fusion i (parent_of tree v)) 0 (operations tree) (λ w g l.
    same_truth _ _
    (λ h. s.through i (parent_of tree v) v w (s.back i v (parent_of tree v) (s.edge i v e f)) h)
    (λ h. s.through i v (parent_of tree v) w (s.edge i v e f) h))

module _ (tree : ContractionTree) (fusion : List ℕ) (orders : List (List ℕ)) (fits : FusionFits tree fusion) (fit : OrdersFit tree orders)
    (legal : IsLegal tree fusion) (standard : (v : ℕ) → v < operations tree → IsStandardAt tree fusion v (order_at orders v)) where
  -- the fused indexes lead the lower order
  lower_front : (v : ℕ) → v + 1 < operations tree
      → take (count (fused_at fusion v)) (order_at orders v) ≡ filter (has (fused_at fusion v)) (order_at orders v)
  lower_front v e =
      ap (λ k. take k (order_at orders v)) (sym (count_in_order tree orders fit (fused_at fusion v) v (omega arith) (λ i f. fused_low tree fusion fits v i (omega arith) f)))
      ∙ front_is_filter (Precedes tree fusion v) (has (fused_at fusion v)) (order_at orders v) behind (Ascends-from_pairs (Precedes tree fusion v) (order_at orders v) (standard v (omega arith)))
    where
      behind : (x y : ℕ) → among (order_at orders v) x ≡ true → among (order_at orders v) y ≡ true
          → has (fused_at fusion v) x ≡ false → has (fused_at fusion v) y ≡ true → Precedes tree fusion v x y → ⊥
      behind x y hx hy fx fy p =
          let s = is_spanned tree fusion in
          let up = is_numbered tree in
          let less : scope_size tree fusion x v < scope_size tree fusion y v =
          smaller tree fusion fits legal v (parent_of tree v) v x y (omega arith) (up.inside v e) (omega arith)
          (order_in_loops tree orders fit v x (omega arith) hx) (order_in_loops tree orders fit v y (omega arith) hy)
          (s.itself y v) (s.edge y v e fy) (s.itself x v)
          (λ h. false≢true (sym fx ∙ s.lower x v (parent_of tree v) (up.above v e) (up.inside v e) h)) in
          elim p [ inl a ↦ omega arith | inr a ↦ omega (arith, a.0) ]

  -- and the upper one
  upper_front : (v : ℕ) → v + 1 < operations tree
      → take (count (fused_at fusion v)) (order_at orders (parent_of tree v)) ≡ filter (has (fused_at fusion v)) (order_at orders (parent_of tree v))
  upper_front v e =
      ap (λ k. take k (order_at orders (parent_of tree v)))
      (sym (count_in_order tree orders fit (fused_at fusion v) (parent_of tree v) ((is_numbered tree).inside v e) (λ i f. fused_above tree fusion fits v i e f)))
      ∙ front_is_filter (Precedes tree fusion (parent_of tree v)) (has (fused_at fusion v)) (order_at orders (parent_of tree v)) behind
      (Ascends-from_pairs (Precedes tree fusion (parent_of tree v)) (order_at orders (parent_of tree v)) (standard (parent_of tree v) ((is_numbered tree).inside v e)))
    where
      behind : (x y : ℕ) → among (order_at orders (parent_of tree v)) x ≡ true → among (order_at orders (parent_of tree v)) y ≡ true
          → has (fused_at fusion v) x ≡ false → has (fused_at fusion v) y ≡ true → Precedes tree fusion (parent_of tree v) x y → ⊥
      behind x y hx hy fx fy p =
          let s = is_spanned tree fusion in
          let up = is_numbered tree in
          let less : scope_size tree fusion x (parent_of tree v) < scope_size tree fusion y (parent_of tree v) =
          smaller tree fusion fits legal (parent_of tree v) v (parent_of tree v) x y (up.inside v e) (omega arith) (up.inside v e)
          (order_in_loops tree orders fit (parent_of tree v) x (up.inside v e) hx) (order_in_loops tree orders fit (parent_of tree v) y (up.inside v e) hy)
          (s.itself y (parent_of tree v)) (s.back y v (parent_of tree v) (s.edge y v e fy)) (s.itself x (parent_of tree v))
          (λ h. false≢true (sym fx ∙ s.lower x v (parent_of tree v) (up.above v e) (up.inside v e) (s.back x (parent_of tree v) v h))) in
          elim p [ inl a ↦ omega arith | inr a ↦ omega (arith, a.0) ]

  -- both fronts are sorted alike
  same_front : (v : ℕ) → v + 1 < operations tree
      → filter (has (fused_at fusion v)) (order_at orders v) ≡ filter (has (fused_at fusion v)) (order_at orders (parent_of tree v))
  same_front v e =
      let inside : parent_of tree v < operations tree = (is_numbered tree).inside v e in
      same_sorted (Precedes tree fusion v) (filter (has (fused_at fusion v)) (order_at orders v)) (filter (has (fused_at fusion v)) (order_at orders (parent_of tree v)))
      (Precedes_one_way tree fusion v)
      (Ascends-filter (Precedes tree fusion v) (has (fused_at fusion v)) (order_at orders v) (Ascends-from_pairs (Precedes tree fusion v) (order_at orders v) (standard v (omega arith))))
      (Ascends-weaker (Precedes tree fusion (parent_of tree v)) (Precedes tree fusion v) (filter (has (fused_at fusion v)) (order_at orders (parent_of tree v))) alike
      (Ascends-filter (Precedes tree fusion (parent_of tree v)) (has (fused_at fusion v)) (order_at orders (parent_of tree v))
      (Ascends-from_pairs (Precedes tree fusion (parent_of tree v)) (order_at orders (parent_of tree v)) (standard (parent_of tree v) inside))))
      (λ i h. let f = (among-filter (has (fused_at fusion v)) (order_at orders v) i h).0 in
      filter-among (has (fused_at fusion v)) (order_at orders (parent_of tree v)) i f (loop_in_order tree orders fit (parent_of tree v) i inside (fused_above tree fusion fits v i e f)))
      (λ i h. let f = (among-filter (has (fused_at fusion v)) (order_at orders (parent_of tree v)) i h).0 in
      filter-among (has (fused_at fusion v)) (order_at orders v) i f (loop_in_order tree orders fit v i (omega arith) (fused_low tree fusion fits v i (omega arith) f)))
    where
      alike : (x y : ℕ) → among (filter (has (fused_at fusion v)) (order_at orders (parent_of tree v))) x ≡ true
          → among (filter (has (fused_at fusion v)) (order_at orders (parent_of tree v))) y ≡ true
          → Precedes tree fusion (parent_of tree v) x y → Precedes tree fusion v x y
      alike x y hx hy p =
          let ex = scope_size_along tree fusion v x e (among-filter (has (fused_at fusion v)) (order_at orders (parent_of tree v)) x hx).0 in
          let ey = scope_size_along tree fusion v y e (among-filter (has (fused_at fusion v)) (order_at orders (parent_of tree v)) y hy).0 in
          elim p [ inl a ↦ inl (omega arith) | inr a ↦ inr (omega (arith, ex, ey, a.0), a.1) ]

  at_parent : (v : ℕ) → v + 1 < operations tree → LeadBoth (fused_at fusion v) (order_at orders v) (order_at orders (parent_of tree v))
  at_parent v e = record {
    same = lower_front v e ∙ same_front v e ∙ sym (upper_front v e);
    members = λ i. (
      (λ c. (among-filter (has (fused_at fusion v)) (order_at orders v) i
          (subst (λ t. among t i ≡ true) (lower_front v e) (contains-among (take (count (fused_at fusion v)) (order_at orders v)) i c))).0),
      (λ f. among-contains (take (count (fused_at fusion v)) (order_at orders v)) i
          (subst (λ t. among t i ≡ true) (sym (lower_front v e))
          (filter-among (has (fused_at fusion v)) (order_at orders v) i f (loop_in_order tree orders fit v i (omega arith) (fused_low tree fusion fits v i (omega arith) f))))),
    );
  }

  -- the standard orders of a legal fusion carry it
  pub carried_by_standard : Carries tree fusion orders
  carried_by_standard v p is =
      let up = parent_is tree v p is in
      let e : v + 1 < operations tree = omega (arith, up.above, up.inside) in
      let same : Some (parent_of tree v) ≡ Some p = sym (parent-is tree v e) ∙ is in
      let q : parent_of tree v ≡ p = cc in
      subst (λ u. LeadBoth (fused_at fusion v) (order_at orders v) (order_at orders u)) q (at_parent v e)
