-- The elements of some steps along a dimension, and the tiles and the places in them where they stand.
use Rattle.std.proofs.Common.{◌≡◌, ◌∙◌, ℕ, zero, suc, ◌+◌, ◌-◌, ◌*◌, ◌/◌, ◌%◌, ◌<◌, ◌≤◌, List, [], ◌∷◌, length, take, drop, get_or, refl, sym, ap, arith, inl, inr, take-append-drop}
use Rattle.std.specs.Int.{div_ceil}
use Rattle.std.proofs.Math.Nat.{mul-le-mul_left, mul-add-mod_self_right}
use Rattle.std.proofs.lemmas.Bool.{cases_lt}
use Rattle.std.proofs.lemmas.Nat.{div_below, mod_below, div-add-mod', mod-mul-add}
use Rattle.std.proofs.lemmas.Grind.{div_ceil_times}
use Rattle.tce_space.specs.Box.{product, place, IsInside}
use Rattle.tce_space.specs.Tiling.{ArePositive, counts_along, divided, remainders}
use Rattle.tce_space.proofs.Boxes.{place-lt, row_lt}
use Rattle.tce_space.proofs.Products.{product-append}
use Rattle.tce_space.proofs.Tilings.{divided_inside, remainders_inside}
use Rattle.tce_tools.proofs.Rows.{quotient_same, remainder_moved}
use Rattle.tce_tools.proofs.RowMajor.{below_one}

-- a digit, by the number that it begins
between : (x y m r p : ℕ) → p < r → y * r ≤ x * r + p → x * r + p < y * r + m * r → (y ≤ x) × (x < y + m)
between x y m r p l low high = (
  elim (cases_lt x y) [ inl lt ↦ absurd (omega (arith, row_lt x y r p lt l, low)) | inr le ↦ le ],
  elim (cases_lt x (y + m)) [
    | inl lt ↦ lt
    | inr le ↦ absurd (let past : r * (y + m) ≤ r * x = mul-le-mul_left r le in omega (arith, past, high))
  ],
)

within : (x y m r p : ℕ) → p < r → y ≤ x → x < y + m → (y * r ≤ x * r + p) × (x * r + p < y * r + m * r)
within x y m r p l low high =
    let past : r * y ≤ r * x = mul-le-mul_left r low in
    (omega (arith, past), omega (arith, row_lt x (y + m) r p high l))

-- the tile and the place in it are among these
abbrev InTiles : List ℕ → List ℕ → ℕ → ℕ → ℕ → ℕ → List ℕ → Type 0
InTiles ns es tile tiles inner words xs =
    (tile ≤ place (counts_along ns es) (divided es xs))
    × (place (counts_along ns es) (divided es xs) < tile + tiles)
    × (inner ≤ place es (remainders es xs))
    × (place es (remainders es xs) < inner + words)

-- the elements from one on are those of some tiles with some places in them
pub record IsBounded (ns es : List ℕ) (start len tile tiles inner words : ℕ) : Type 0 where
  pub to : (xs : List ℕ) → IsInside ns xs → start ≤ place ns xs → place ns xs < start + len → InTiles ns es tile tiles inner words xs
  pub from : (xs : List ℕ) → IsInside ns xs → InTiles ns es tile tiles inner words xs → (start ≤ place ns xs) × (place ns xs < start + len)
  pub inside : start + len ≤ product ns
  pub tiles_in : tile + tiles ≤ product (counts_along ns es)
  pub words_in : inner + words ≤ product es

same_digits : (x y e : ℕ) → x / e ≡ y / e → y % e ≤ x % e → y ≤ x
same_digits x y e q r = omega (arith, div-add-mod' x e, div-add-mod' y e, ap (λ d. d * e) q)

below_digits : (x y m e : ℕ) → x / e ≡ y / e → x % e < y % e + m → x < y + m
below_digits x y m e q r = omega (arith, div-add-mod' x e, div-add-mod' y e, ap (λ d. d * e) q)

-- steps along the first dimension
first_steps : (n e : ℕ) (ns es : List ℕ) (y m start tile inner : ℕ) → length es ≡ length ns → ArePositive es → 0 < e → 0 < m → y + m ≤ n → y % e + m ≤ e
    → start ≡ y * product ns → tile ≡ y / e * product (counts_along ns es) → inner ≡ y % e * product es
    → IsBounded (n ∷ ns) (e ∷ es) start (m * product ns) tile (product (counts_along ns es)) inner (m * product es)
first_steps n e ns es y m start tile inner l p some more in_array in_tile start_is tile_is inner_is = record {
  to = to;
  from = from;
  inside = (let past : product ns * (y + m) ≤ product ns * n = mul-le-mul_left (product ns) in_array in omega (arith, past));
  tiles_in = (let past : product (counts_along ns es) * (y / e + 1) ≤ product (counts_along ns es) * div_ceil n e = mul-le-mul_left (product (counts_along ns es)) count in omega (arith, past));
  words_in = (let past : product es * (y % e + m) ≤ product es * e = mul-le-mul_left (product es) in_tile in omega (arith, past));
}
  where
    count : y / e + 1 ≤ div_ceil n e
    count =
        let all : y < div_ceil n e * e = omega (arith, (div_ceil_times n e some).0) in
        omega (arith, div_below y e (div_ceil n e) some all)

    tile_short : (xs : List ℕ) → IsInside ns xs → place (counts_along ns es) (divided es xs) < product (counts_along ns es)
    tile_short xs h = place-lt (counts_along ns es) (divided es xs) (divided_inside ns es xs l p h)

    inner_short : (xs : List ℕ) → IsInside ns xs → place es (remainders es xs) < product es
    inner_short xs h = place-lt es (remainders es xs) (remainders_inside ns es xs l p h)

    to : (xs : List ℕ) → IsInside (n ∷ ns) xs → start ≤ place (n ∷ ns) xs → place (n ∷ ns) xs < start + m * product ns → InTiles (n ∷ ns) (e ∷ es) tile (product (counts_along ns es)) inner (m * product es) xs
    to [] h low high = absurd h
    to (x ∷ xs) h low high =
        let d = between x y m (product ns) (place ns xs) (place-lt ns xs h.1) (omega (arith, low, start_is)) (omega (arith, high, start_is)) in
        let j : ℕ = x - y in
        let at : y + (x - y) ≡ x = omega (arith, d) in
        let short : y % e + (x - y) < e = omega (arith, d, in_tile) in
        let q : x / e ≡ y / e = ap (λ z. z / e) (sym at) ∙ quotient_same y (x - y) e short in
        let r : x % e ≡ y % e + (x - y) = ap (λ z. z % e) (sym at) ∙ remainder_moved y (x - y) e short in
        let t = within (x / e) (y / e) 1 (product (counts_along ns es)) (place (counts_along ns es) (divided es xs)) (tile_short xs h.1) (omega (arith, q)) (omega (arith, q)) in
        let i = within (x % e) (y % e) m (product es) (place es (remainders es xs)) (inner_short xs h.1) (omega (arith, r)) (omega (arith, r, d)) in
        (omega (arith, t.0, tile_is), omega (arith, t.1, tile_is), omega (arith, i.0, inner_is), omega (arith, i.1, inner_is))

    from : (xs : List ℕ) → IsInside (n ∷ ns) xs → InTiles (n ∷ ns) (e ∷ es) tile (product (counts_along ns es)) inner (m * product es) xs → (start ≤ place (n ∷ ns) xs) × (place (n ∷ ns) xs < start + m * product ns)
    from [] h b = absurd h
    from (x ∷ xs) h b =
        let t = between (x / e) (y / e) 1 (product (counts_along ns es)) (place (counts_along ns es) (divided es xs)) (tile_short xs h.1) (omega (arith, b.0, tile_is)) (omega (arith, b.1, tile_is)) in
        let i = between (x % e) (y % e) m (product es) (place es (remainders es xs)) (inner_short xs h.1) (omega (arith, b.2, inner_is)) (omega (arith, b.3, inner_is)) in
        let q : x / e ≡ y / e = omega (arith, t) in
        let w = within x y m (product ns) (place ns xs) (place-lt ns xs h.1) (same_digits x y e q i.0) (below_digits x y m e q i.1) in
        (omega (arith, w.0, start_is), omega (arith, w.1, start_is))

-- one dimension more in front
one_more : (n e : ℕ) (ns es : List ℕ) (y start len tile tiles inner words : ℕ) → length es ≡ length ns → ArePositive es → 0 < e → y < n → IsBounded ns es start len tile tiles inner words
    → IsBounded (n ∷ ns) (e ∷ es) (y * product ns + start) len (y / e * product (counts_along ns es) + tile) tiles (y % e * product es + inner) words
one_more n e ns es y start len tile tiles inner words l p some below rest = record {
  to = to;
  from = from;
  inside = (let past : product ns * (y + 1) ≤ product ns * n = mul-le-mul_left (product ns) (omega (arith, below)) in omega (arith, past, rest.inside));
  tiles_in = (let past : product (counts_along ns es) * (y / e + 1) ≤ product (counts_along ns es) * div_ceil n e = mul-le-mul_left (product (counts_along ns es)) count in omega (arith, past, rest.tiles_in));
  words_in = (let past : product es * (y % e + 1) ≤ product es * e = mul-le-mul_left (product es) (omega (arith, mod_below y e some)) in omega (arith, past, rest.words_in));
}
  where
    count : y / e + 1 ≤ div_ceil n e
    count =
        let all : y < div_ceil n e * e = omega (arith, below, (div_ceil_times n e some).0) in
        omega (arith, div_below y e (div_ceil n e) some all)

    tile_short : (xs : List ℕ) → IsInside ns xs → place (counts_along ns es) (divided es xs) < product (counts_along ns es)
    tile_short xs h = place-lt (counts_along ns es) (divided es xs) (divided_inside ns es xs l p h)

    inner_short : (xs : List ℕ) → IsInside ns xs → place es (remainders es xs) < product es
    inner_short xs h = place-lt es (remainders es xs) (remainders_inside ns es xs l p h)

    to : (xs : List ℕ) → IsInside (n ∷ ns) xs → y * product ns + start ≤ place (n ∷ ns) xs → place (n ∷ ns) xs < y * product ns + start + len
        → InTiles (n ∷ ns) (e ∷ es) (y / e * product (counts_along ns es) + tile) tiles (y % e * product es + inner) words xs
    to [] h low high = absurd h
    to (x ∷ xs) h low high =
        let d = between x y 1 (product ns) (place ns xs) (place-lt ns xs h.1) (omega (arith, low)) (omega (arith, high, rest.inside)) in
        let same : x ≡ y = omega (arith, d) in
        let front : x * product ns ≡ y * product ns = ap (λ z. z * product ns) same in
        let b = rest.to xs h.1 (omega (arith, low, front)) (omega (arith, high, front)) in
        let q : x / e * product (counts_along ns es) ≡ y / e * product (counts_along ns es) = ap (λ z. z / e * product (counts_along ns es)) same in
        let r : x % e * product es ≡ y % e * product es = ap (λ z. z % e * product es) same in
        (omega (arith, q, b.0), omega (arith, q, b.1), omega (arith, r, b.2), omega (arith, r, b.3))

    from : (xs : List ℕ) → IsInside (n ∷ ns) xs → InTiles (n ∷ ns) (e ∷ es) (y / e * product (counts_along ns es) + tile) tiles (y % e * product es + inner) words xs
        → (y * product ns + start ≤ place (n ∷ ns) xs) × (place (n ∷ ns) xs < y * product ns + start + len)
    from [] h b = absurd h
    from (x ∷ xs) h b =
        let t = between (x / e) (y / e) 1 (product (counts_along ns es)) (place (counts_along ns es) (divided es xs)) (tile_short xs h.1) (omega (arith, b.0)) (omega (arith, b.1, rest.tiles_in)) in
        let i = between (x % e) (y % e) 1 (product es) (place es (remainders es xs)) (inner_short xs h.1) (omega (arith, b.2)) (omega (arith, b.3, rest.words_in)) in
        let quotient : x / e ≡ y / e = omega (arith, t) in
        let remainder : x % e ≡ y % e = omega (arith, i) in
        let same : x ≡ y = sym (div-add-mod' x e) ∙ ap (λ z. z * e + x % e) quotient ∙ ap (λ z. y / e * e + z) remainder ∙ div-add-mod' y e in
        let front : x * product ns ≡ y * product ns = ap (λ z. z * product ns) same in
        let q : x / e * product (counts_along ns es) ≡ y / e * product (counts_along ns es) = ap (λ z. z * product (counts_along ns es)) quotient in
        let r : x % e * product es ≡ y % e * product es = ap (λ z. z * product es) remainder in
        let w = rest.from xs h.1 (omega (arith, q, b.0), omega (arith, q, b.1), omega (arith, r, b.2), omega (arith, r, b.3)) in
        (omega (arith, front, w.0), omega (arith, front, w.1))

-- the first element of a box is the first of the first tile
first_place : (ns es xs : List ℕ) → length es ≡ length ns → ArePositive es → IsInside ns xs → place ns xs ≡ 0 → (place (counts_along ns es) (divided es xs) ≡ 0) × (place es (remainders es xs) ≡ 0)
first_place [] [] xs l p h is = (refl, refl)
first_place [] (e ∷ es) xs l p h is = absurd (omega arith)
first_place (n ∷ ns) [] xs l p h is = absurd (omega arith)
first_place (n ∷ ns) (e ∷ es) [] l p h is = absurd h
first_place (n ∷ ns) (e ∷ es) (zero ∷ xs) l p h is =
    let rest = first_place ns es xs (omega arith) p.1 h.1 (omega (arith, is)) in
    let q : 0 / e ≡ 0 = below_one 0 e p.0 in
    let none : 0 ≡ 0 * e + 0 = omega arith in
    let r : 0 % e ≡ 0 = ap (λ z. z % e) none ∙ mod-mul-add 0 e 0 p.0 in (
      ap (λ z. z * product (counts_along ns es) + place (counts_along ns es) (divided es xs)) q ∙ omega (arith, rest.0),
      ap (λ z. z * product es + place es (remainders es xs)) r ∙ omega (arith, rest.1),
    )
first_place (n ∷ ns) (e ∷ es) (suc x ∷ xs) l p h is = absurd (omega (arith, place-lt ns xs h.1, is))

-- the steps from an element on that is the first behind its own coordinate
pub bounded : (ns es cs : List ℕ) (d m : ℕ) → length es ≡ length ns → ArePositive es → IsInside ns cs → d < length ns → place (drop (suc d) ns) (drop (suc d) cs) ≡ 0
    → 0 < m → get_or cs d 0 + m ≤ get_or ns d 0 → get_or cs d 0 % get_or es d 0 + m ≤ get_or es d 0
    → IsBounded ns es (place ns cs) (m * product (drop (suc d) ns)) (place (counts_along ns es) (divided es cs)) (product (drop (suc d) (counts_along ns es))) (place es (remainders es cs)) (m * product (drop (suc d) es))
bounded [] es cs d m l p h lt first some in_array in_tile = absurd (omega arith)
bounded (n ∷ ns) [] cs d m l p h lt first some in_array in_tile = absurd (omega arith)
bounded (n ∷ ns) (e ∷ es) [] d m l p h lt first some in_array in_tile = absurd h
bounded (n ∷ ns) (e ∷ es) (y ∷ cs) zero m l p h lt first some in_array in_tile =
    let none = first_place ns es cs (omega arith) p.1 h.1 first in
    first_steps n e ns es y m _ _ _ (omega arith) p.1 p.0 some in_array in_tile (omega (arith, first)) (omega (arith, none.0)) (omega (arith, none.1))
bounded (n ∷ ns) (e ∷ es) (y ∷ cs) (suc d) m l p h lt first some in_array in_tile =
    one_more n e ns es y _ _ _ _ _ _ (omega arith) p.1 p.0 h.0 (bounded ns es cs d m (omega arith) p.1 h.1 (omega arith) first some in_array in_tile)

-- the place behind a coordinate is what is left of the place
pub place_behind : (ns cs : List ℕ) (d : ℕ) → IsInside ns cs → place ns cs % product (drop d ns) ≡ place (drop d ns) (drop d cs)
place_behind ns cs zero h = let all : place ns cs ≡ 0 * product ns + place ns cs = omega arith in ap (λ z. z % product ns) all ∙ mod-mul-add 0 (product ns) (place ns cs) (place-lt ns cs h)
place_behind [] [] (suc d) h = refl
place_behind [] (c ∷ cs) (suc d) h = absurd h
place_behind (n ∷ ns) [] (suc d) h = absurd h
place_behind (n ∷ ns) (y ∷ cs) (suc d) h =
    let parts : product ns ≡ product (take d ns) * product (drop d ns) = ap product (sym (take-append-drop d ns)) ∙ product-append (take d ns) (drop d ns) in
    let front : y * product ns + place ns cs ≡ y * product (take d ns) * product (drop d ns) + place ns cs = omega (arith, ap (λ z. y * z) parts) in
    ap (λ z. z % product (drop d ns)) front ∙ mul-add-mod_self_right (y * product (take d ns)) (product (drop d ns)) (place ns cs) ∙ place_behind ns cs d h.1
