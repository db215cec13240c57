-- What is found by name where names differ.
use Rattle.std.proofs.Common.{◌≡◌, ℕ, zero, suc, ◌<◌, true, false, not, ◌==◌, List, [], ◌∷◌, ◌++◌, length, map, get_or, cond, Some, None, is_some, refl, sym, ap, subst, ◌∙◌, arith, append_assoc, nat_lt}
use Rattle.std.specs.Prelude.{position}
use Rattle.std.specs.List.{IsDistinct, AllByRecursion, list_any, prefix_len}
use Rattle.std.specs.Str.{bytes_eq}
use Rattle.std.proofs.lemmas.Slice.Eq.{bytes_eq-Decides}
use Rattle.std.proofs.lemmas.Cmp.{nat_list_eq_equiv}
use Rattle.tce_spec.specs.DeclarationLines.{twice_after}
use Rattle.tce_spec.proofs.DeclaredNames.{some_if_any}
use Rattle.std.proofs.lemmas.Bool.{lt-ltb, eq-eqb, false_from_ne_true}
use Rattle.std.proofs.lemmas.Option.{same_Some}
use Rattle.tce_space.proofs.Names.{bytes_same}

-- an element differs from a later one
apart_at : {A : Type 0} (name : A → List ℕ) (n : List ℕ) (xs : List A) (i : ℕ) (d : A) → AllByRecursion (λ y. bytes_eq n y ≡ false) (map name xs) → i < length xs
    → bytes_eq n (name (get_or xs i d)) ≡ false
apart_at name n [] i d apart below = absurd (omega arith)
apart_at name n (x ∷ xs) zero d apart below = apart.0
apart_at name n (x ∷ xs) (suc i) d apart below = apart_at name n xs i d apart.1 (omega arith)

place_of : {A : Type 0} (name : A → List ℕ) (xs : List A) (i : ℕ) (d : A) → IsDistinct bytes_eq (map name xs) → i < length xs
    → prefix_len (λ (x : A). not (bytes_eq (name x) (name (get_or xs i d)))) xs ≡ i
unfolding IsDistinct
place_of name [] i d distinct below = absurd (omega arith)
place_of name (x ∷ xs) zero d distinct below = rw (bytes_same (name x)) refl
place_of name (x ∷ xs) (suc i) d distinct below =
    let apart : bytes_eq (name x) (name (get_or xs i d)) ≡ false = apart_at name (name x) xs i d distinct.0 (omega arith) in
    rw apart (omega (arith, place_of name xs i d distinct.1 (omega arith)))

-- a name is found where it stands
pub found_at : {A : Type 0} (name : A → List ℕ) (xs : List A) (i : ℕ) (d : A) → IsDistinct bytes_eq (map name xs) → i < length xs
    → position (λ (x : A). bytes_eq (name x) (name (get_or xs i d))) xs ≡ Some i
found_at {A} name xs i d distinct below =
    let place : prefix_len (λ (x : A). not (bytes_eq (name x) (name (get_or xs i d)))) xs ≡ i = place_of name xs i d distinct below in
    ap (λ n. cond (nat_lt n (length xs)) (Some n) None) place ∙ ap (λ b. cond b (Some i) None) (lt-ltb i (length xs) below)

-- a name differs from those before it
apart_inside : (n : List ℕ) (xs : List (List ℕ)) (m : List ℕ) (later : List (List ℕ)) → AllByRecursion (λ y. bytes_eq n y ≡ false) (xs ++ m ∷ later) → bytes_eq n m ≡ false
apart_inside n [] m later apart = apart.0
apart_inside n (x ∷ xs) m later apart = apart_inside n xs m later apart.1

pub none_before : (earlier : List (List ℕ)) (m : List ℕ) (later : List (List ℕ)) → IsDistinct bytes_eq (earlier ++ m ∷ later) → list_any (bytes_eq m) earlier ≡ false
unfolding IsDistinct
none_before [] m later distinct = refl
none_before (x ∷ xs) m later distinct =
    let apart : bytes_eq m x ≡ false = nat_list_eq_equiv.symm m x ∙ apart_inside x xs m later distinct.0 in
    rw apart (none_before xs m later distinct.1)

-- different elements have different names
pub names_differ : {A : Type 0} (name : A → List ℕ) (xs : List A) (i j : ℕ) (d : A) → IsDistinct bytes_eq (map name xs) → i < length xs → j < length xs → (i == j) ≡ false
    → bytes_eq (name (get_or xs i d)) (name (get_or xs j d)) ≡ false
names_differ {A} name xs i j d distinct below_i below_j other =
    false_from_ne_true (bytes_eq (name (get_or xs i d)) (name (get_or xs j d))) (λ same.
    let equal : name (get_or xs i d) ≡ name (get_or xs j d) = (bytes_eq-Decides (name (get_or xs i d)) (name (get_or xs j d))).0 same in
    let found : Some i ≡ Some j =
    sym (found_at name xs i d distinct below_i) ∙ ap (λ n. position (λ (x : A). bytes_eq (name x) n) xs) equal ∙ found_at name xs j d distinct below_j in
    let clash : true ≡ false = sym (eq-eqb i j (same_Some i j found)) ∙ other in
    cc)

-- an element behind those that stand first has a name that they have not
pub new_name : {A : Type 0} (name : A → List ℕ) (earlier : List A) (x : A) (later : List A) → IsDistinct bytes_eq (map name (earlier ++ x ∷ later))
    → is_some (position (λ (y : A). bytes_eq (name y) (name x)) earlier) ≡ false
unfolding IsDistinct
new_name {A} name earlier x later distinct =
    some_if_any (λ (y : A). bytes_eq (name y) (name x)) earlier ∙ none earlier distinct
  where
    inside : (n : List ℕ) (ys : List A) → AllByRecursion (λ y. bytes_eq n y ≡ false) (map name (ys ++ x ∷ later)) → bytes_eq n (name x) ≡ false
    inside n [] apart = apart.0
    inside n (y ∷ ys) apart = inside n ys apart.1

    none : (ys : List A) → IsDistinct bytes_eq (map name (ys ++ x ∷ later)) → list_any (λ (y : A). bytes_eq (name y) (name x)) ys ≡ false
    none [] distinct = refl
    none (y ∷ ys) distinct =
        let apart : bytes_eq (name y) (name x) ≡ false = inside (name y) ys distinct.0 in
        rw apart (none ys distinct.1)

-- names that differ, and from those before them, stand not twice
pub once : (earlier names later : List (List ℕ)) → IsDistinct bytes_eq (earlier ++ (names ++ later)) → twice_after earlier names ≡ None
once earlier [] later distinct = refl
once earlier (n ∷ ns) later distinct =
    let new : list_any (bytes_eq n) earlier ≡ false = none_before earlier n (ns ++ later) distinct in
    let joined : (earlier ++ n ∷ []) ++ (ns ++ later) ≡ earlier ++ (n ∷ (ns ++ later)) = append_assoc earlier (n ∷ []) (ns ++ later) in
    ap (λ b. cond b (Some n) (twice_after (earlier ++ n ∷ []) ns)) new ∙ once (earlier ++ n ∷ []) ns later (subst (IsDistinct bytes_eq) (sym joined) distinct)
