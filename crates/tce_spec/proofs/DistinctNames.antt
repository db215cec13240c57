-- Declared indexes of which none stands twice have different numbers.
use Rattle.std.proofs.Common.{◌≡◌, ℕ, ◌<◌, List, [], ◌∷◌, ◌++◌, length, Bool, true, false, ◌||◌, ◌&&◌, ◌==◌, not, Some, None, refl, sym, ap, ◌∙◌, arith, subst, nat_lt, eqb}
use Rattle.std.specs.Prelude.{is_none, unwrap_or, bytes_eq}
use Rattle.std.specs.List.{list_any, list_all, IsDistinct, AllByRecursion}
use Rattle.std.proofs.lemmas.List.Folds.{list_any-append}
use Rattle.std.proofs.lemmas.Bool.{lt-ltb, false_from_ne_true}
use Rattle.tce_space.specs.Space.{index_number}
use Rattle.tce_space.proofs.Names.{same_bytes, bytes_same}
use Rattle.tce_tree.specs.WellFormed.{among, is_distinct}
use Rattle.tce_spec.specs.Declarations.{Declarations}
use Rattle.tce_spec.specs.DeclarationLines.{twice_after}
use Rattle.tce_spec.specs.PlaceFaults.{undeclared_index}
use Rattle.tce_spec.specs.Meaning.{indexes_of}
use Rattle.tce_spec.proofs.KnownNames.{index_below, one_index, known}
use Rattle.tce_spec.proofs.Nothing.{none_found}

abbrev stands : List (List ℕ) → List ℕ → Bool
stands names name = list_any (bytes_eq name) names

or_false : (a b : Bool) → a ≡ false → b ≡ false → a || b ≡ false
or_false true b h k = cc
or_false false b h k = k

stands_behind : (earlier : List (List ℕ)) (n m : List ℕ) → stands earlier m ≡ true → stands (earlier ++ n ∷ []) m ≡ true
stands_behind earlier n m h = list_any-append (bytes_eq m) earlier (n ∷ []) ∙ ap (λ b. b || list_any (bytes_eq m) (n ∷ [])) h

or_true : (b : Bool) → b || (true || false) ≡ true
or_true true = refl
or_true false = refl

stands_last : (earlier : List (List ℕ)) (n : List ℕ) → stands (earlier ++ n ∷ []) n ≡ true
stands_last earlier n =
    list_any-append (bytes_eq n) earlier (n ∷ []) ∙ ap (λ b. list_any (bytes_eq n) earlier || (b || false)) (bytes_same n) ∙ or_true (list_any (bytes_eq n) earlier)

-- a name that stood before stands not again
fresh : (earlier names : List (List ℕ)) (m : List ℕ) → stands earlier m ≡ true → twice_after earlier names ≡ None → stands names m ≡ false
fresh earlier [] m h none = refl
fresh earlier (n ∷ ns) m h none =
    let parts = none_found (list_any (bytes_eq n) earlier) n (twice_after (earlier ++ n ∷ []) ns) none in
    let other : bytes_eq m n ≡ false = false_from_ne_true (bytes_eq m n) (λ same.
    let e : m ≡ n = same_bytes m n same in
    let again : list_any (bytes_eq n) earlier ≡ true = subst (λ (x : List ℕ). list_any (bytes_eq x) earlier ≡ true) e h in
    let clash : true ≡ false = sym again ∙ parts.0 in cc) in
    or_false (bytes_eq m n) (stands ns m) other (fresh (earlier ++ n ∷ []) ns m (stands_behind earlier n m h) parts.1)

-- a name whose number stands among those of names is one of these names
among_known : (d : Declarations) (n : List ℕ) (i : ℕ) (ns : List (List ℕ)) → index_number d.space n ≡ Some i → undeclared_index d.space ns ≡ None
    → among (indexes_of d.space ns) i ≡ true → stands ns n ≡ true
among_known d n i [] e none h = cc
among_known d n i (m ∷ ms) e none h =
    let parts = none_found (is_none (index_number d.space m)) m (undeclared_index d.space ms) none in
    by_first d n i m ms e parts.0 (unwrap_or (index_number d.space m) 0 == i) refl h (λ later. among_known d n i ms e parts.1 later)
  where
    or_right : (a b : Bool) → b ≡ true → a || b ≡ true
    or_right true b h = refl
    or_right false b h = h

    by_first : (d : Declarations) (n : List ℕ) (i : ℕ) (m : List ℕ) (ms : List (List ℕ)) → index_number d.space n ≡ Some i → is_none (index_number d.space m) ≡ false
        → (b : Bool) → unwrap_or (index_number d.space m) 0 == i ≡ b → (unwrap_or (index_number d.space m) 0 == i) || among (indexes_of d.space ms) i ≡ true
        → (among (indexes_of d.space ms) i ≡ true → stands ms n ≡ true) → stands (m ∷ ms) n ≡ true
    by_first d n i m ms e k true same h later =
        let number : unwrap_or (index_number d.space m) 0 ≡ i = grind (arith, same) in
        let f : index_number d.space m ≡ Some i = known (index_number d.space m) k ∙ ap (λ (x : ℕ). Some x) number in
        let equal : n ≡ m = one_index d.space n m i e f in
        let first : bytes_eq n m ≡ true = subst (λ (x : List ℕ). bytes_eq n x ≡ true) equal (bytes_same n) in
        ap (λ b. b || stands ms n) first
    by_first d n i m ms e k false same h later =
        or_right (bytes_eq n m) (stands ms n) (later (sym (ap (λ b. b || among (indexes_of d.space ms) i) same) ∙ h))

pub distinct_numbers : (d : Declarations) (earlier names : List (List ℕ)) → undeclared_index d.space names ≡ None → twice_after earlier names ≡ None
    → is_distinct (indexes_of d.space names) ≡ true
distinct_numbers d earlier [] none once = refl
distinct_numbers d earlier (n ∷ ns) none once =
    let parts = none_found (is_none (index_number d.space n)) n (undeclared_index d.space ns) none in
    let later = none_found (list_any (bytes_eq n) earlier) n (twice_after (earlier ++ n ∷ []) ns) once in
    let apart : among (indexes_of d.space ns) (unwrap_or (index_number d.space n) 0) ≡ false =
    false_from_ne_true (among (indexes_of d.space ns) (unwrap_or (index_number d.space n) 0)) (λ h.
    let again : stands ns n ≡ true = among_known d n (unwrap_or (index_number d.space n) 0) ns (known (index_number d.space n) parts.0) parts.1 h in
    let never : stands ns n ≡ false = fresh (earlier ++ n ∷ []) ns n (stands_last earlier n) later.1 in
    let clash : true ≡ false = sym again ∙ never in cc) in
    rw apart (distinct_numbers d (earlier ++ n ∷ []) ns parts.1 later.1)

pub numbers_below : (d : Declarations) (names : List (List ℕ)) → undeclared_index d.space names ≡ None
    → list_all (λ i. nat_lt i (length d.space.indexes)) (indexes_of d.space names) ≡ true
numbers_below d [] none = refl
numbers_below d (n ∷ ns) none =
    let parts = none_found (is_none (index_number d.space n)) n (undeclared_index d.space ns) none in
    let below : unwrap_or (index_number d.space n) 0 < length d.space.indexes = index_below d.space n (unwrap_or (index_number d.space n) 0) (known (index_number d.space n) parts.0) in
    let test : nat_lt (unwrap_or (index_number d.space n) 0) (length d.space.indexes) ≡ true = lt-ltb _ _ below in
    rw test (numbers_below d ns parts.1)

-- `is_distinct` in the library's words
apart_from : (x : ℕ) (xs : List ℕ) → among xs x ≡ false → AllByRecursion (λ y. (x == y) ≡ false) xs
apart_from x [] h = tt
apart_from x (y ∷ ys) h =
    let parts : ((y == x) ≡ false) × (among ys x ≡ false) = both_false (y == x) (among ys x) h in
    (grind (arith, parts.0), apart_from x ys parts.1)
  where
    both_false : (a b : Bool) → a || b ≡ false → (a ≡ false) × (b ≡ false)
    both_false true b h = cc
    both_false false b h = (refl, h)

pub distinct_is : (xs : List ℕ) → is_distinct xs ≡ true → IsDistinct eqb xs
unfolding IsDistinct
distinct_is [] h = tt
distinct_is (x ∷ xs) h =
    let parts = of_and (among xs x) (is_distinct xs) h in
    (apart_from x xs parts.0, distinct_is xs parts.1)
  where
    of_and : (a b : Bool) → not a && b ≡ true → (a ≡ false) × (b ≡ true)
    of_and true b h = cc
    of_and false b h = (refl, h)
