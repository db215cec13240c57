-- The places of stored elements.
use Rattle.std.proofs.Common.{◌≡◌, ◌∙◌, ℕ, ◌+◌, ◌*◌, ◌/◌, ◌%◌, ◌<◌, ◌≤◌, List, Bool, true, false, sym, ap, subst, arith}
use Rattle.std.proofs.Math.Nat.{mul-le-mul_left}
use Rattle.std.proofs.lemmas.Nat.{div_below, mod_below, div-add-mod', div-mul-add, mod-mul-add}
use Rattle.tce_space.specs.Box.{product, place, IsInside}
use Rattle.tce_space.proofs.Boxes.{row_lt, place-lt, place_injective, places_every, length_inside}
use Rattle.tce_array.proofs.Padding.{some_factor}
use Rattle.tce_sym.specs.declared.symmetry.Symmetry.{Symmetry}
use Rattle.tce_sym.specs.Storage.{AreRight, IsPair, at_first, at_second, at_others, pairs, stored_place, stored_count}
use Rattle.tce_sym.specs.Laws.{IsStoredAt, PlacesAreTheirs}
use Rattle.tce_sym.proofs.Triangles.{pair_below, pairs_apart, pairs_every, pairs_few}
use Rattle.tce_sym.proofs.Cuts.{are_inside, others_inside, product_others, parts_same, filled}

-- the place of the others and that of the pair
pub record IsPlaced (extents : List ℕ) (s : Symmetry) (xs : List ℕ) : Type 0 where
  pub others : IsInside (at_others s extents) (at_others s xs)
  pub outer : place (at_others s extents) (at_others s xs) < product (at_others s extents)
  pub first : at_first s xs < at_first s extents
  pub second : at_second s xs < at_first s extents
  pub pair : pairs s.negated (at_second s xs) + at_first s xs < pairs s.negated (at_first s extents)

pub placed : (extents : List ℕ) (s : Symmetry) (xs : List ℕ) → AreRight extents s → IsInside extents xs → IsPair s.negated (at_first s xs) (at_second s xs) → IsPlaced extents s xs
placed extents s xs r inside pair =
    let i = are_inside s extents xs r.ordered r.inside inside in
    let others = others_inside s extents xs i in
    let under : at_second s xs < at_first s extents = omega (arith, i.second, r.same) in
    record {
      others = others;
      outer = place-lt (at_others s extents) (at_others s xs) others;
      first = i.first;
      second = under;
      pair = pair_below s.negated (at_first s xs) (at_second s xs) (at_first s extents) pair under;
    }

pub within : (extents : List ℕ) (s : Symmetry) (xs : List ℕ) → IsPlaced extents s xs → stored_place extents s xs < stored_count extents s
within extents s xs p = row_lt _ _ (pairs s.negated (at_first s extents)) _ p.outer p.pair

-- the other extents, and what all extents give
pub elements_are : (extents : List ℕ) (s : Symmetry) → AreRight extents s → product extents ≡ product (at_others s extents) * (at_first s extents * at_first s extents)
elements_are extents s r =
    product_others s extents r.ordered r.inside ∙ ap (λ m. product (at_others s extents) * (at_first s extents * m)) (sym r.same)

pub few : (extents : List ℕ) (s : Symmetry) → AreRight extents s → stored_count extents s ≤ product extents
few extents s r = omega (arith, elements_are extents s r, mul-le-mul_left (product (at_others s extents)) (pairs_few s.negated (at_first s extents)))

apart : (extents : List ℕ) (s : Symmetry) (xs ys : List ℕ) → AreRight extents s → IsStoredAt extents s xs → IsStoredAt extents s ys → stored_place extents s xs ≡ stored_place extents s ys → xs ≡ ys
apart extents s xs ys r h k e =
    let q : ℕ = pairs s.negated (at_first s extents) in
    let x = placed extents s xs r h.inside h.pair in
    let y = placed extents s ys r k.inside k.pair in
    let o : place (at_others s extents) (at_others s xs) ≡ place (at_others s extents) (at_others s ys) =
    sym (div-mul-add (place (at_others s extents) (at_others s xs)) q _ x.pair) ∙ ap (λ n. n / q) e ∙ div-mul-add (place (at_others s extents) (at_others s ys)) q _ y.pair in
    let t : pairs s.negated (at_second s xs) + at_first s xs ≡ pairs s.negated (at_second s ys) + at_first s ys =
    sym (mod-mul-add (place (at_others s extents) (at_others s xs)) q _ x.pair) ∙ ap (λ n. n % q) e ∙ mod-mul-add (place (at_others s extents) (at_others s ys)) q _ y.pair in
    let two = pairs_apart s.negated (at_first s xs) (at_second s xs) (at_first s ys) (at_second s ys) h.pair k.pair t in
    parts_same s xs ys r.ordered (omega (arith, r.inside, length_inside extents xs h.inside)) (omega (arith, r.inside, length_inside extents ys k.inside))
    (place_injective (at_others s extents) (at_others s xs) (at_others s ys) x.others y.others o) two.0 two.1

every : (extents : List ℕ) (s : Symmetry) (k : ℕ) → AreRight extents s → k < stored_count extents s → (xs : List ℕ) × IsStoredAt extents s xs × (stored_place extents s xs ≡ k)
every extents s k r h =
    let q : ℕ = pairs s.negated (at_first s extents) in
    let positive : 0 < pairs s.negated (at_first s extents) = some_factor (product (at_others s extents)) q k h in
    let o = places_every (at_others s extents) (k / q) (div_below k q (product (at_others s extents)) positive h) in
    let t = pairs_every s.negated (at_first s extents) (k % q) (mod_below k q positive) in
    let lower : t.first < at_first s extents = lower_is s.negated t.first t.second (at_first s extents) t.pair t.below in
    let f = filled s extents _ t.first t.second r.ordered r.inside o.0 lower (omega (arith, t.below, r.same)) in (
      f.coords,
      (record { inside = f.inside; pair = subst (λ (a : ℕ). IsPair s.negated a (at_second s f.coords)) (sym f.first) (subst (IsPair s.negated t.first) (sym f.second) t.pair) }),
      ap (λ l. place (at_others s extents) l * q + (pairs s.negated (at_second s f.coords) + at_first s f.coords)) f.others
          ∙ ap (λ n. n * q + (pairs s.negated (at_second s f.coords) + at_first s f.coords)) o.1
          ∙ ap (λ b. k / q * q + (pairs s.negated b + at_first s f.coords)) f.second
          ∙ ap (λ a. k / q * q + (pairs s.negated t.second + a)) f.first
          ∙ ap (λ n. k / q * q + n) t.at
          ∙ div-add-mod' k q,
    )
  where
    lower_is : (negated : Bool) (a b m : ℕ) → IsPair negated a b → b < m → a < m
    lower_is true a b m h l = omega arith
    lower_is false a b m h l = omega arith

pub places_are_theirs : (extents : List ℕ) (s : Symmetry) → AreRight extents s → PlacesAreTheirs extents s
places_are_theirs extents s r = record {
  apart = λ xs ys h k e. apart extents s xs ys r h k e;
  within = λ xs h. within extents s xs (placed extents s xs r h.inside h.pair);
  every = λ k h. every extents s k r h;
  few = few extents s r;
}
