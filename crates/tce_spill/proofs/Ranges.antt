-- The ranges of a node's dims, and whether the node may be stored.
use Rattle.std.proofs.Common.{◌≡◌, ℕ, zero, suc, ◌+◌, ◌-◌, ◌<◌, ◌≤◌, Bool, true, false, cond, List, [], ◌∷◌, ◌++◌, length, filter, map, length-append, leb, ltb, lt-ltb, le-leb, leb-true, ltb-true, refl, sym, ap, ◌∙◌, inl, inr, arith}
use Rattle.std.specs.List.{range_with_len}
use Rattle.std.proofs.lemmas.Bool.{cases_Bool}
use Rattle.std.proofs.lemmas.List.{map-append, length-map}
use Rattle.std.proofs.lemmas.List.Elements.{filter-append}
use Rattle.tce_space.specs.IndexSet.{has, count, members}
use Rattle.tce_space.specs.Space.{IndexSpace}
use Rattle.tce_space.proofs.IndexSetLaws.{range_more}
use Rattle.tce_space.proofs.Ranges.{filter_one}
use Rattle.tce_tree.specs.ContractionTree.{ContractionTree, operations, node_dims}
use Rattle.tce_spec.specs.Storable.{shape_of_node, has_room, storable}

-- the members below a number, with one number more
filter-more : (p : ℕ → Bool) (n : ℕ) → filter p (range_with_len 0 (n + 1)) ≡ filter p (range_with_len 0 n) ++ cond (p n) (n ∷ []) []
filter-more p n =
    let next : n + 1 ≡ suc n = omega arith in
    let at : 0 + n ≡ n = omega arith in
    ap (λ k. filter p (range_with_len 0 k)) next ∙ ap (filter p) (range_more 0 n) ∙ filter-append p (range_with_len 0 n) ((0 + n) ∷ [])
    ∙ ap (λ k. filter p (range_with_len 0 n) ++ cond (p k) (k ∷ []) []) at

-- one range more
pub ranges-yes : (f : ℕ → ℕ) (p : ℕ → Bool) (n r : ℕ) (before after : List ℕ) → p n ≡ true → before ≡ map f (filter p (range_with_len 0 n)) → r ≡ f n → after ≡ before ++ r ∷ []
    → after ≡ map f (filter p (range_with_len 0 (n + 1)))
ranges-yes f p n r before after t so_far here is =
    is ∙ ap (λ xs. xs ++ r ∷ []) so_far ∙ ap (λ x. map f (filter p (range_with_len 0 n)) ++ x ∷ []) here
    ∙ sym (map-append f (filter p (range_with_len 0 n)) (n ∷ [])) ∙ ap (map f) (sym (filter_one p n t))

grows : (p : ℕ → Bool) (n m : ℕ) → length (filter p (range_with_len 0 n)) ≤ length (filter p (range_with_len 0 (n + m)))
grows p n zero = let same : n ≡ n + 0 = omega arith in let is = ap (λ k. length (filter p (range_with_len 0 k))) same in omega (arith, is)
grows p n (suc m) =
    let number : n + suc m ≡ n + m + 1 = omega arith in
    let is = ap (λ k. length (filter p (range_with_len 0 k))) number in
    let more = ap length (filter-more p (n + m)) in
    let parts = length-append (filter p (range_with_len 0 (n + m))) (cond (p (n + m)) ((n + m) ∷ []) []) in
    omega (arith, is, more, parts, grows p n m)

-- before a member there are fewer than all
pub room_before : (f : ℕ → ℕ) (set n : ℕ) (xs : List ℕ) → n < 24 → has set n ≡ true → xs ≡ map f (filter (has set) (range_with_len 0 n)) → length xs < count set
unfolding count members
room_before f set n xs low t is =
    let counted = ap length is ∙ length-map (filter (has set) (range_with_len 0 n)) f in
    let next = ap length (filter_one (has set) n t) ∙ length-append (filter (has set) (range_with_len 0 n)) (n ∷ []) in
    let end : n + 1 + (24 - (n + 1)) ≡ 24 = omega (arith, low) in
    let all = ap (λ k. length (filter (has set) (range_with_len 0 k))) end in
    omega (arith, counted, next, all, grows (has set) (n + 1) (24 - (n + 1)))

pub all_ranges : (f : ℕ → ℕ) (set n : ℕ) (xs : List ℕ) → n ≡ 24 → xs ≡ map f (filter (has set) (range_with_len 0 n)) → xs ≡ map f (members set)
unfolding members
all_ranges f set n xs end is = is ∙ ap (λ k. map f (filter (has set) (range_with_len 0 k))) end

-- ---- storable nodes

pub storable_is : (space : IndexSpace) (tree : ContractionTree) (v : ℕ) (room : Bool) → v + 1 < operations tree → count (node_dims tree v) ≤ 8 → room ≡ has_room (shape_of_node space tree v)
    → room ≡ storable space tree v
unfolding count
storable_is space tree v room low few is =
    let inner = lt-ltb (v + 1) (operations tree) low in
    let rank = le-leb (length (members (node_dims tree v))) 8 few in
    rw inner (rw rank is)

pub root_not_storable : (space : IndexSpace) (tree : ContractionTree) (v : ℕ) → operations tree ≤ v + 1 → false ≡ storable space tree v
root_not_storable space tree v last =
    elim (cases_Bool (ltb (v + 1) (operations tree))) [
      | inl t ↦ absurd (omega (arith, ltb-true (v + 1) (operations tree) t, last))
      | inr f ↦ rw f refl
    ]

pub rank_not_storable : (space : IndexSpace) (tree : ContractionTree) (v : ℕ) → 8 < count (node_dims tree v) → false ≡ storable space tree v
unfolding count
rank_not_storable space tree v many =
    elim (cases_Bool (ltb (v + 1) (operations tree))) [
      | inl t ↦ elim (cases_Bool (leb (length (members (node_dims tree v))) 8)) [
        | inl few ↦ absurd (omega (arith, leb-true (length (members (node_dims tree v))) 8 few, many))
        | inr f ↦ rw t (rw f refl)
      ]
      | inr f ↦ rw f refl
    ]
