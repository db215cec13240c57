-- The places of a box in their order.
use Rattle.std.proofs.Common.{◌≡◌, refl, sym, ap, ◌∙◌, ℕ, zero, suc, ◌+◌, ◌*◌, ◌/◌, ◌%◌, ◌<◌, ◌≤◌, true, ◌&&◌, nat_lt, List, [], ◌∷◌, ◌++◌, length, drop, map, get_or, subst, arith, length-append, add-zero, zero-add}
use Rattle.std.specs.List.{flat_map, range_with_len}
use Rattle.std.proofs.Math.Nat.{mul-le-mul_left}
use Rattle.std.proofs.lemmas.List.{get_or_append_left, get_or-append-add, length-map, get_or-map, drop_more, drop_all, length-drop}
use Rattle.std.proofs.lemmas.Nat.{div_below, mod_below, div-add-mod'}
use Rattle.tce_space.specs.Box.{places, place, product, IsInside, is_inside}

-- the lengths add up
pub length_flat : {A : Type 0} (f : ℕ → List A) (m : ℕ) → ((i : ℕ) → length (f i) ≡ m) → (a n : ℕ) → length (flat_map f (range_with_len a n)) ≡ n * m
length_flat f m len a zero = omega arith
length_flat f m len a (suc n) =
    let rest = length_flat f m len (a + 1) n in
    let here = len a in
    let both = length-append (f a) (flat_map f (range_with_len (a + 1) n)) in
    omega arith

-- an element of lists of one length, joined
pub get_flat : {A : Type 0} (d : A) (f : ℕ → List A) (m : ℕ) → ((i : ℕ) → length (f i) ≡ m) → (a n i r : ℕ) → i < n → r < m
    → get_or (flat_map f (range_with_len a n)) (i * m + r) d ≡ get_or (f (a + i)) r d
get_flat d f m len a zero i r h l = absurd (omega arith)
get_flat d f m len a (suc n) zero r h l =
    let here : 0 * m + r ≡ r = omega arith in
    let inside : r < length (f a) = omega (arith, len a) in
    rw (here, add-zero) (get_or_append_left (f a) (flat_map f (range_with_len (a + 1) n)) d r inside)
get_flat d f m len a (suc n) (suc i) r h l =
    let there : suc i * m + r ≡ length (f a) + (i * m + r) = omega (arith, len a) in
    let next : a + 1 + i ≡ a + suc i = omega arith in
    ap (λ k. get_or (f a ++ flat_map f (range_with_len (a + 1) n)) k d) there
    ∙ get_or-append-add (f a) (flat_map f (range_with_len (a + 1) n)) (i * m + r) d
    ∙ get_flat d f m len (a + 1) n i r (omega arith) l
    ∙ ap (λ k. get_or (f k) r d) next

pub length-places : (ns : List ℕ) → length (places ns) ≡ product ns
length-places [] = refl
length-places (n ∷ ns) = length_flat (λ i. map (λ xs. i ∷ xs) (places ns)) (product ns) (λ i. length-map (places ns) (λ xs. i ∷ xs) ∙ length-places ns) 0 n

pub row_lt : (x n m p : ℕ) → x < n → p < m → x * m + p < n * m
row_lt x n m p h l =
    let next : suc x ≤ n = omega arith in
    omega (arith, mul-le-mul_left m next)

pub place-lt : (ns xs : List ℕ) → IsInside ns xs → place ns xs < product ns
place-lt [] [] h = omega arith
place-lt [] (x ∷ xs) h = absurd h
place-lt (n ∷ ns) [] h = absurd h
place-lt (n ∷ ns) (x ∷ xs) h =
    let here : x < n = h.0 in
    let rest : place ns xs < product ns = place-lt ns xs h.1 in
    row_lt x n (product ns) (place ns xs) here rest

-- the places stand in the order of their numbers
pub get-places : (ns xs : List ℕ) → IsInside ns xs → get_or (places ns) (place ns xs) [] ≡ xs
get-places [] [] h = refl
get-places [] (x ∷ xs) h = absurd h
get-places (n ∷ ns) [] h = absurd h
get-places (n ∷ ns) (x ∷ xs) h =
    let rest : place ns xs < product ns = place-lt ns xs h.1 in
    let short : place ns xs < length (places ns) = rw length-places rest in
    get_flat [] (λ i. map (λ ys. i ∷ ys) (places ns)) (product ns) (λ i. length-map (places ns) (λ ys. i ∷ ys) ∙ length-places ns) 0 n x (place ns xs) h.0 rest
    ∙ get_or-map (λ ys. (0 + x) ∷ ys) (places ns) (place ns xs) [] [] short
    ∙ ap (λ y. y ∷ get_or (places ns) (place ns xs) []) (zero-add x)
    ∙ ap (λ ys. x ∷ ys) (get-places ns xs h.1)

-- different places have different numbers
pub place_injective : (ns xs ys : List ℕ) → IsInside ns xs → IsInside ns ys → place ns xs ≡ place ns ys → xs ≡ ys
place_injective ns xs ys h k e = sym (get-places ns xs h) ∙ ap (λ p. get_or (places ns) p []) e ∙ get-places ns ys k

pub is_inside_true : (ns xs : List ℕ) → IsInside ns xs → is_inside ns xs ≡ true
is_inside_true [] xs h = refl
is_inside_true (n ∷ ns) [] h = refl
is_inside_true (n ∷ ns) (x ∷ xs) h =
    let here : nat_lt x n ≡ true = grind (arith, h.0) in
    ap (λ b. b && is_inside ns xs) here ∙ is_inside_true ns xs h.1

-- each number below the product is the place of one element
pub places_every : (ns : List ℕ) (p : ℕ) → p < product ns → IsInside ns (get_or (places ns) p []) × (place ns (get_or (places ns) p []) ≡ p)
places_every [] zero h = (tt, refl)
places_every [] (suc p) h = absurd (omega arith)
places_every (n ∷ ns) p h =
    let some : 0 < product ns = row_some n (product ns) p h in
    let x : ℕ = p / product ns in
    let r : ℕ = p % product ns in
    let first : p / product ns < n = div_below p (product ns) n some h in
    let second : p % product ns < product ns = mod_below p (product ns) some in
    let rest = places_every ns (p % product ns) second in
    let short : p % product ns < length (places ns) = rw length-places second in
    let is : get_or (places (n ∷ ns)) p [] ≡ p / product ns ∷ get_or (places ns) (p % product ns) [] =
    ap (λ q. get_or (places (n ∷ ns)) q []) (sym (div-add-mod' p (product ns)))
    ∙ get_flat [] (λ i. map (λ ys. i ∷ ys) (places ns)) (product ns) (λ i. length-map (places ns) (λ ys. i ∷ ys) ∙ length-places ns) 0 n (p / product ns) (p % product ns) first second
    ∙ get_or-map (λ ys. (0 + p / product ns) ∷ ys) (places ns) (p % product ns) [] [] short
    ∙ ap (λ y. y ∷ get_or (places ns) (p % product ns) []) (zero-add (p / product ns)) in (
      subst (IsInside (n ∷ ns)) (sym is) (first, rest.0),
      ap (place (n ∷ ns)) is ∙ ap (λ q. p / product ns * product ns + q) rest.1 ∙ div-add-mod' p (product ns),
    )
  where
    row_some : (n m p : ℕ) → p < n * m → 0 < m
    row_some n zero p h = absurd (omega arith)
    row_some n (suc m) p h = omega arith

pub length_inside : (ns xs : List ℕ) → IsInside ns xs → length xs ≡ length ns
length_inside [] [] h = refl
length_inside [] (x ∷ xs) h = absurd h
length_inside (n ∷ ns) [] h = absurd h
length_inside (n ∷ ns) (x ∷ xs) h = ap suc (length_inside ns xs h.1)

-- a running place: what was passed, and what is left
pub record IsPlaced (ns xs : List ℕ) (passed all : ℕ) : Type 0 where
  pub inside : IsInside ns xs
  pub sum : passed * product ns + place ns xs ≡ all

-- it is no larger than the place in the end
pub placed_le : (ns xs : List ℕ) (passed all : ℕ) → IsPlaced ns xs passed all → passed ≤ all
placed_le ns xs passed all p =
    let some : 1 ≤ product ns = omega (arith, place-lt ns xs p.inside) in
    omega (arith, mul-le-mul_left passed some, p.sum)

placed_next : (n x : ℕ) (ns xs : List ℕ) (passed all : ℕ) → IsPlaced (n ∷ ns) (x ∷ xs) passed all → IsPlaced ns xs (passed * n + x) all
placed_next n x ns xs passed all p = record { inside = p.inside.1; sum = spread passed n x (product ns) (place ns xs) ∙ p.sum }
  where
    spread : (a n x p q : ℕ) → (a * n + x) * p + q ≡ a * (n * p) + (x * p + q)
    spread a n x p q = omega arith

pub placed_step : (ns xs : List ℕ) (d passed all : ℕ) → d < length ns → IsPlaced (drop d ns) (drop d xs) passed all
    → IsPlaced (drop (d + 1) ns) (drop (d + 1) xs) (passed * get_or ns d 0 + get_or xs d 0) all
placed_step ns xs d passed all l p =
    let same : length (drop d xs) ≡ length (drop d ns) = length_inside (drop d ns) (drop d xs) p.inside in
    let m : d < length xs = omega (arith, same, length-drop d ns, length-drop d xs) in
    placed_next (get_or ns d 0) (get_or xs d 0) (drop (d + 1) ns) (drop (d + 1) xs) passed all
    (subst (λ (ys : List ℕ). IsPlaced ys (get_or xs d 0 ∷ drop (d + 1) xs) passed all) (drop_more ns d 0 l)
    (subst (λ (ys : List ℕ). IsPlaced (drop d ns) ys passed all) (drop_more xs d 0 m) p))

pub placed_end : (ns xs : List ℕ) (d passed all : ℕ) → length ns ≤ d → IsPlaced (drop d ns) (drop d xs) passed all → passed ≡ all
placed_end ns xs d passed all l p = done (drop d ns) (drop d xs) (drop_all d ns l) p
  where
    done : (ns xs : List ℕ) → ns ≡ [] → IsPlaced ns xs passed all → passed ≡ all
    done [] [] e p = omega (arith, p.sum)
    done [] (x ∷ xs) e p = absurd p.inside
    done (n ∷ ns) xs e p = absurd (cc)

pub inside_joined : (ns ms xs ys : List ℕ) → IsInside ns xs → IsInside ms ys → IsInside (ns ++ ms) (xs ++ ys)
inside_joined [] ms [] ys h k = k
inside_joined [] ms (x ∷ xs) ys h k = absurd h
inside_joined (n ∷ ns) ms [] ys h k = absurd h
inside_joined (n ∷ ns) ms (x ∷ xs) ys h k = (h.0, inside_joined ns ms xs ys h.1 k)
