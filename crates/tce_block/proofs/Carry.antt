-- How the numbers of one place become those of the next.
use Rattle.std.proofs.Common.{◌≡◌, ℕ, zero, suc, ◌+◌, ◌-◌, ◌*◌, ◌<◌, ◌≤◌, List, [], ◌∷◌, length, sym, refl, ap, subst, arith, get_or, slice_set}
use Rattle.tce_space.specs.Box.{product, place, IsInside}

-- from the d-th on the old numbers are the last ones and the new are the first ones, and before it they are the same
abbrev pub CarriedAt : ℕ → List ℕ → List ℕ → List ℕ → Type 0
CarriedAt zero cs xs ys = (place cs xs + 1 ≡ product cs) × (place cs ys ≡ 0)
CarriedAt (suc d) [] xs ys = ⊥
CarriedAt (suc d) (c ∷ cs) [] ys = ⊥
CarriedAt (suc d) (c ∷ cs) (x ∷ xs) [] = ⊥
CarriedAt (suc d) (c ∷ cs) (x ∷ xs) (y ∷ ys) = (y ≡ x) × CarriedAt d cs xs ys

pub record IsCarried (counts old now : List ℕ) (d : ℕ) : Type 0 where
  pub inside : IsInside counts now
  pub carried : CarriedAt d counts old now

pub get-inside : (ns xs : List ℕ) (i : ℕ) → IsInside ns xs → i < length xs → get_or xs i 0 < get_or ns i 0
get-inside [] [] i h l = absurd (omega arith)
get-inside [] (x ∷ xs) i h l = absurd h
get-inside (n ∷ ns) [] i h l = absurd h
get-inside (n ∷ ns) (x ∷ xs) zero h l = h.0
get-inside (n ∷ ns) (x ∷ xs) (suc i) h l = get-inside ns xs i h.1 (omega arith)

inside-set : (ns xs : List ℕ) (i v : ℕ) → IsInside ns xs → v < get_or ns i 0 → IsInside ns (slice_set xs i v)
inside-set [] [] i v h l = tt
inside-set [] (x ∷ xs) i v h l = absurd h
inside-set (n ∷ ns) [] i v h l = absurd h
inside-set (n ∷ ns) (x ∷ xs) zero v h l = (l, h.1)
inside-set (n ∷ ns) (x ∷ xs) (suc i) v h l = (h.0, inside-set ns xs i v h.1 l)

pub carried_first : (ns xs : List ℕ) → IsInside ns xs → CarriedAt (length xs) ns xs xs
carried_first [] [] h = (refl, refl)
carried_first [] (x ∷ xs) h = absurd h
carried_first (n ∷ ns) [] h = absurd h
carried_first (n ∷ ns) (x ∷ xs) h = (refl, carried_first ns xs h.1)

-- a number that is the last of its dimension becomes 0
carried_on : (i : ℕ) (cs xs ys : List ℕ) → CarriedAt (suc i) cs xs ys → IsInside cs ys → get_or cs i 0 ≤ get_or ys i 0 + 1 → CarriedAt i cs xs (slice_set ys i 0)
carried_on i [] xs ys h k l = absurd h
carried_on i (c ∷ cs) [] ys h k l = absurd h
carried_on i (c ∷ cs) (x ∷ xs) [] h k l = absurd h
carried_on zero (c ∷ cs) (x ∷ xs) (y ∷ ys) h k l =
    let last : c ≡ x + 1 = omega (arith, h.0, k.0) in
    let whole : (x + 1) * product cs ≡ c * product cs = ap (λ n. n * product cs) (sym last) in
    let rest : place cs xs + 1 ≡ product cs = h.1.0 in
    let first : place cs ys ≡ 0 = h.1.1 in
    (omega arith, omega arith)
carried_on (suc i) (c ∷ cs) (x ∷ xs) (y ∷ ys) h k l = (h.0, carried_on i cs xs ys h.1 k.1 l)

pub carry : (i : ℕ) (counts old now : List ℕ) → IsCarried counts old now (suc i) → i < length now → get_or counts i 0 ≤ get_or now i 0 + 1 → IsCarried counts old (slice_set now i 0) i
carry i counts old now h l m =
    let below = get-inside counts now i h.inside l in
    record {
      inside = inside-set counts now i 0 h.inside (omega arith);
      carried = carried_on i counts old now h.carried h.inside m;
    }

-- a number that is not the last grows by one, and so does the place
grown : (i : ℕ) (cs xs ys : List ℕ) → CarriedAt (suc i) cs xs ys → place cs (slice_set ys i (get_or ys i 0 + 1)) ≡ place cs xs + 1
grown i [] xs ys h = absurd h
grown i (c ∷ cs) [] ys h = absurd h
grown i (c ∷ cs) (x ∷ xs) [] h = absurd h
grown zero (c ∷ cs) (x ∷ xs) (y ∷ ys) h =
    let same : y * product cs ≡ x * product cs = ap (λ n. n * product cs) h.0 in
    let rest : place cs xs + 1 ≡ product cs = h.1.0 in
    let first : place cs ys ≡ 0 = h.1.1 in
    omega arith
grown (suc i) (c ∷ cs) (x ∷ xs) (y ∷ ys) h =
    let same : y * product cs ≡ x * product cs = ap (λ n. n * product cs) h.0 in
    let rest = grown i cs xs ys h.1 in
    omega arith

pub record IsGrown (counts old new : List ℕ) : Type 0 where
  pub inside : IsInside counts new
  pub next : place counts new ≡ place counts old + 1

pub grow : (i : ℕ) (counts old now : List ℕ) → IsCarried counts old now (suc i) → get_or now i 0 + 1 < get_or counts i 0 → IsGrown counts old (slice_set now i (get_or now i 0 + 1))
grow i counts old now h l = record {
  inside = inside-set counts now i (get_or now i 0 + 1) h.inside l;
  next = grown i counts old now h.carried;
}

-- the same at a number that is written otherwise
pub at_next : (counts old now : List ℕ) (d : ℕ) → 0 < d → IsCarried counts old now d → IsCarried counts old now (suc (d - 1))
at_next counts old now zero some h = absurd (omega arith)
at_next counts old now (suc d) some h = let same : suc d ≡ suc (suc d - 1) = omega arith in subst (λ n. IsCarried counts old now n) same h
