-- Arrays whose words stand in row-major order.
use Rattle.std.proofs.Common.{◌≡◌, ◌∙◌, ℕ, zero, suc, ◌+◌, ◌*◌, ◌/◌, ◌%◌, ◌<◌, List, [], ◌∷◌, length, refl, ap, arith}
use Rattle.std.proofs.lemmas.Nat.{div-add-mod', div-mul-add}
use Rattle.std.specs.Int.{div_ceil}
use Rattle.tce_space.specs.Box.{product, place, IsInside}
use Rattle.tce_space.specs.Tiling.{Tiling, IsTiling, counts_along, divided, remainders, tile_words, tile_number, place_in_tile}
use Rattle.tce_space.proofs.Tilings.{place_in_tile-lt}
use Rattle.tce_tools.specs.Runs.{IsRowMajor}

pub below_one : (x e : ℕ) → x < e → x / e ≡ 0
below_one x e h = let is : x ≡ 0 * e + x = omega arith in ap (λ y. y / e) is ∙ div-mul-add 0 e x h

-- tiles of one element
both_one : (a b : ℕ) → a * b ≡ 1 → (a ≡ 1) × (b ≡ 1)
both_one zero b e = absurd (let none : 0 * b ≡ 0 = omega arith in omega arith)
both_one (suc a) zero e = absurd (let none : suc a * 0 ≡ 0 = omega arith in omega arith)
both_one (suc zero) (suc b) e = (refl, omega arith)
both_one (suc (suc a)) (suc b) e = absurd (omega arith)

whole : (x : ℕ) → x / 1 ≡ x
whole x = let is : x ≡ x * 1 + 0 = omega arith in ap (λ y. y / 1) is ∙ div-mul-add x 1 0 (omega arith)

ceil_one : (n : ℕ) → div_ceil n 1 ≡ n
ceil_one n = omega arith

ones_place : (ns es : List ℕ) → length es ≡ length ns → product es ≡ 1 → (xs : List ℕ) → IsInside ns xs
    → (place (counts_along ns es) (divided es xs) ≡ place ns xs) × (product (counts_along ns es) ≡ product ns)
ones_place [] [] l p [] h = (refl, refl)
ones_place [] [] l p (x ∷ xs) h = absurd h
ones_place [] (e ∷ es) l p xs h = absurd (omega arith)
ones_place (n ∷ ns) [] l p xs h = absurd (omega arith)
ones_place (n ∷ ns) (e ∷ es) l p [] h = absurd h
ones_place (n ∷ ns) (e ∷ es) l p (x ∷ xs) h =
    let both = both_one e (product es) p in
    let rest = ones_place ns es (omega arith) both.1 xs h.1 in
    let quotient : x / e ≡ x = ap (λ d. x / d) both.0 ∙ whole x in
    let count : div_ceil n e ≡ n = ap (λ d. div_ceil n d) both.0 ∙ ceil_one n in (
      ap (λ q. q * product (counts_along ns es) + place (counts_along ns es) (divided es xs)) quotient
          ∙ ap (λ m. x * m + place (counts_along ns es) (divided es xs)) rest.1
          ∙ ap (λ m. x * product ns + m) rest.0,
      ap (λ c. c * product (counts_along ns es)) count ∙ ap (λ m. n * m) rest.1,
    )

pub ones_are_row_major : (s : Tiling) → IsTiling s → tile_words s ≡ 1 → IsRowMajor s
ones_are_row_major s t one xs h =
    let small : place_in_tile s xs < tile_words s = place_in_tile-lt s xs t.same_rank t.positive h in
    let zero_inside : place_in_tile s xs ≡ 0 = omega arith in
    let number : tile_number s xs ≡ place s.extents xs = (ones_place s.extents s.edges t.same_rank one xs h).0 in
    ap (λ m. m * tile_number s xs + place_in_tile s xs) one
    ∙ ap (λ m. 1 * m + place_in_tile s xs) number
    ∙ ap (λ r. 1 * place s.extents xs + r) zero_inside
    ∙ (let last : 1 * place s.extents xs + 0 ≡ place s.extents xs = omega arith in last)

-- one tile without padding
whole_place : (ns xs : List ℕ) → IsInside ns xs → (place (counts_along ns ns) (divided ns xs) ≡ 0) × (place ns (remainders ns xs) ≡ place ns xs)
whole_place [] [] h = (refl, refl)
whole_place [] (x ∷ xs) h = absurd h
whole_place (n ∷ ns) [] h = absurd h
whole_place (n ∷ ns) (x ∷ xs) h =
    let rest = whole_place ns xs h.1 in
    let quotient : x / n ≡ 0 = below_one x n h.0 in
    let parts : x / n * n + x % n ≡ x = div-add-mod' x n in
    let remainder : x % n ≡ x = omega (arith, ap (λ q. q * n) quotient) in (
      ap (λ q. q * product (counts_along ns ns) + place (counts_along ns ns) (divided ns xs)) quotient
          ∙ ap (λ m. 0 * product (counts_along ns ns) + m) rest.0 ∙ (let none : 0 * product (counts_along ns ns) + 0 ≡ 0 = omega arith in none),
      ap (λ r. r * product ns + place ns (remainders ns xs)) remainder ∙ ap (λ m. x * product ns + m) rest.1,
    )

pub whole_is_row_major : (s : Tiling) → s.edges ≡ s.extents → IsRowMajor s
whole_is_row_major s e xs h =
    let both = whole_place s.extents xs h in
    ap (λ (es : List ℕ). product es * place (counts_along s.extents es) (divided es xs) + place es (remainders es xs)) e
    ∙ ap (λ m. product s.extents * m + place s.extents (remainders s.extents xs)) both.0
    ∙ ap (λ m. product s.extents * 0 + m) both.1
    ∙ (let last : product s.extents * 0 + place s.extents xs ≡ place s.extents xs = omega arith in last)
