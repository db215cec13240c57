-- Loop orders that carry a fusion exist exactly where it is legal.
use Rattle.std.proofs.Common.{◌≡◌, ℕ, zero, suc, ◌+◌, ◌-◌, ◌<◌, ◌≤◌, ◌⊎◌, Bool, true, ◌&&◌, eqb, List, [], ◌∷◌, length, take, sym, ap, ◌∙◌, subst, inl, inr, arith}
use Rattle.std.proofs.lemmas.Bool.{cases_eq, cases_order, cases_Bool, and_parts, and_from, false≢true}
use Rattle.tce_space.specs.IndexSet.{has, count}
use Rattle.tce_tree.specs.ContractionTree.{ContractionTree, operations, node_loops}
use Rattle.tce_tree.specs.Fusion.{fused_at, order_at, FusionFits, OrdersFit, Carries}
use Rattle.tce_tree.specs.WellFormed.{among}
use Rattle.tce_tree.proofs.Lists.{among-contains, contains-among}
use Rattle.tce_tree.proofs.Conditions.{order-has, fused_low, fused_high}
use Rattle.tce_fusion.specs.Scope.{scope, IsSubset, IsLegal}
use Rattle.tce_fusion.proofs.Walks.{IsLed, scope_within}
use Rattle.tce_fusion.proofs.Leads.{place, place_in_front, among_front, same_place}
use Rattle.tce_fusion.proofs.ScopeLaws.{parent_of, parent-is, is_numbered, is_spanned}

place_most : (xs : List ℕ) (i : ℕ) → place xs i ≤ length xs
place_most [] i = omega arith
place_most (x ∷ xs) i = elim (cases_Bool (eqb x i)) [ inl t ↦ rw t (omega arith) | inr f ↦ rw f (omega (arith, place_most xs i)) ]

-- what stands before a member of a common front is in the front too, and stands before it in both lists
lead_moves : (k : ℕ) (xs ys : List ℕ) (i j : ℕ) → take k xs ≡ take k ys → among (take k xs) j ≡ true → place xs i < place xs j
    → (among (take k xs) i ≡ true) × (place ys i < place ys j)
lead_moves k xs ys i j same h l =
    let pj = place_in_front k xs j h in
    let m : among (take k xs) i ≡ true = among_front k xs i (omega (arith, pj.1)) (omega (arith, place_most xs j)) in
    let pi = place_in_front k xs i m in
    let qj = place_in_front k ys j (subst (λ t. among t j ≡ true) same h) in
    let qi = place_in_front k ys i (subst (λ t. among t i ≡ true) same m) in
    let ei : place (take k xs) i ≡ place (take k ys) i = ap (λ t. place t i) same in
    let ej : place (take k xs) j ≡ place (take k ys) j = ap (λ t. place t j) same in
    (m, omega (arith, pj.0, pi.0, qj.0, qi.0, ei, ej))

-- what carried orders say along one edge
is_led : (tree : ContractionTree) (fusion : List ℕ) (orders : List (List ℕ)) → Carries tree fusion orders
    → IsLed (operations tree) (parent_of tree) (λ v i. has (fused_at fusion v) i) (λ v i j. place (order_at orders v) i < place (order_at orders v) j)
is_led tree fusion orders carried = record {
  up = λ v i j e f l.
      let c = carried v (parent_of tree v) (parent-is tree v e) in
      let r = lead_moves (count (fused_at fusion v)) (order_at orders v) (order_at orders (parent_of tree v)) i j c.same
      (contains-among (take (count (fused_at fusion v)) (order_at orders v)) j ((c.members j).1 f)) l in
      ((c.members i).0 (among-contains (take (count (fused_at fusion v)) (order_at orders v)) i r.0), r.1);
  down = λ v i j e f l.
      let c = carried v (parent_of tree v) (parent-is tree v e) in
      let r = lead_moves (count (fused_at fusion v)) (order_at orders (parent_of tree v)) (order_at orders v) i j (sym c.same)
      (subst (λ t. among t j ≡ true) c.same (contains-among (take (count (fused_at fusion v)) (order_at orders v)) j ((c.members j).1 f))) l in
      ((c.members i).0 (among-contains (take (count (fused_at fusion v)) (order_at orders v)) i (subst (λ t. among t i ≡ true) (sym c.same) r.0)), r.1);
}

-- a fused index is a loop of the parent
pub fused_above : (tree : ContractionTree) (fusion : List ℕ) → FusionFits tree fusion → (v i : ℕ) → v + 1 < operations tree
    → has (fused_at fusion v) i ≡ true → has (node_loops tree (parent_of tree v)) i ≡ true
fused_above tree fusion fits v i e f = fused_high tree fusion fits v (parent_of tree v) i (parent-is tree v e) f

-- the nodes of a scope all have its index as a loop
pub loop_along : (tree : ContractionTree) (fusion : List ℕ) → FusionFits tree fusion → (steps i v x : ℕ) → v < operations tree → x < operations tree → operations tree - v ≤ steps
    → scope tree fusion i v x ≡ true → has (node_loops tree v) i ≡ true → has (node_loops tree x) i ≡ true
loop_along tree fusion fits zero i v x a b few h t = absurd (omega arith)
loop_along tree fusion fits (suc n) i v x a b few h t =
    elim (cases_order v x) [
      | inl e ↦ subst (λ z. has (node_loops tree z) i ≡ true) e t
      | inr c ↦ elim c [
        | inl l ↦
            let e : v + 1 < operations tree = omega arith in
            let s = is_spanned tree fusion in
            let f : has (fused_at fusion v) i ≡ true = s.lower i v x l b h in
            let up : v < parent_of tree v = (is_numbered tree).above v e in
            loop_along tree fusion fits n i (parent_of tree v) x ((is_numbered tree).inside v e) b (omega arith)
            (s.through i (parent_of tree v) v x (s.back i v (parent_of tree v) (s.edge i v e f)) h) (fused_above tree fusion fits v i e f)
        | inr l ↦ fused_low tree fusion fits x i b ((is_spanned tree fusion).lower i x v l a ((is_spanned tree fusion).back i v x h))
      ]
    ]

-- a number below a bound that passes a test, or none
pub search_below : (p : ℕ → Bool) (n : ℕ) → ((x : ℕ) × (x < n) × (p x ≡ true)) ⊎ ((x : ℕ) → x < n → p x ≡ true → ⊥)
search_below p zero = inr (λ x l h. absurd (omega arith))
search_below p (suc n) =
    elim (search_below p n) [
      | inl r ↦ inl (r.0, omega (arith, r.1), r.2)
      | inr none ↦ elim (cases_Bool (p n)) [
        | inl t ↦ inl (n, omega arith, t)
        | inr f ↦ inr (λ x l h. elim (cases_eq x n) [ inl e ↦ false≢true (sym f ∙ ap p (sym e) ∙ h) | inr ne ↦ none x (omega arith) h ])
      ]
    ]

-- an order that fits has just the loops of its node
pub loop_in_order : (tree : ContractionTree) (orders : List (List ℕ)) → OrdersFit tree orders → (v i : ℕ) → v < operations tree
    → has (node_loops tree v) i ≡ true → among (order_at orders v) i ≡ true
loop_in_order tree orders fit v i inside h = order-has tree orders fit v i inside ∙ h

pub order_in_loops : (tree : ContractionTree) (orders : List (List ℕ)) → OrdersFit tree orders → (v i : ℕ) → v < operations tree
    → among (order_at orders v) i ≡ true → has (node_loops tree v) i ≡ true
order_in_loops tree orders fit v i inside h = sym (order-has tree orders fit v i inside) ∙ h

-- two scopes at one node are nested where orders carry the fusion
nested_at : (tree : ContractionTree) (fusion : List ℕ) (orders : List (List ℕ)) → OrdersFit tree orders → Carries tree fusion orders
    → (x i j : ℕ) → x < operations tree → has (node_loops tree x) i ≡ true → has (node_loops tree x) j ≡ true
    → IsSubset (operations tree) (scope tree fusion i x) (scope tree fusion j x) ⊎ IsSubset (operations tree) (scope tree fusion j x) (scope tree fusion i x)
nested_at tree fusion orders fit carried x i j inside hi hj =
    elim (cases_order (place (order_at orders x) i) (place (order_at orders x) j)) [
      | inl e ↦
          let s : i ≡ j = same_place (order_at orders x) i j (loop_in_order tree orders fit x i inside hi) e in
          inl (λ w l h. subst (λ z. scope tree fusion z x w ≡ true) s h)
      | inr c ↦ elim c [
        | inl l ↦ inr (λ w m h. scope_within (is_numbered tree) (is_spanned tree fusion) (is_led tree fusion orders carried) i j x inside l w m h)
        | inr l ↦ inl (λ w m h. scope_within (is_numbered tree) (is_spanned tree fusion) (is_led tree fusion orders carried) j i x inside l w m h)
      ]
    ]

-- a fusion that loop orders carry is legal
pub legal_of_carried : (tree : ContractionTree) (fusion : List ℕ) (orders : List (List ℕ)) → FusionFits tree fusion → OrdersFit tree orders
    → Carries tree fusion orders → IsLegal tree fusion
legal_of_carried tree fusion orders fits fit carried v w i j v_in w_in hi hj =
    elim (search_below (λ x. scope tree fusion i v x && scope tree fusion j w x) (operations tree)) [
      | inr none ↦ inl (λ x l a b. none x l (and_from (scope tree fusion i v x) (scope tree fusion j w x) a b))
      | inl r ↦ inr (meet r.0 r.1 (and_parts (scope tree fusion i v r.0) (scope tree fusion j w r.0) r.2).0 (and_parts (scope tree fusion i v r.0) (scope tree fusion j w r.0) r.2).1)
    ]
  where
    meet : (x : ℕ) → x < operations tree → scope tree fusion i v x ≡ true → scope tree fusion j w x ≡ true
        → IsSubset (operations tree) (scope tree fusion i v) (scope tree fusion j w) ⊎ IsSubset (operations tree) (scope tree fusion j w) (scope tree fusion i v)
    meet x x_in a b =
        let s = is_spanned tree fusion in
        elim (nested_at tree fusion orders fit carried x i j x_in
        (loop_along tree fusion fits (operations tree) i v x v_in x_in (omega arith) a hi)
        (loop_along tree fusion fits (operations tree) j w x w_in x_in (omega arith) b hj)) [
          | inl sub ↦ inl (λ y l h. s.through j w x y b (sub y l (s.through i x v y (s.back i v x a) h)))
          | inr sub ↦ inr (λ y l h. s.through i v x y a (sub y l (s.through j x w y (s.back j w x b) h)))
        ]
