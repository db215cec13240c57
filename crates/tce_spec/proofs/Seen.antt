-- Different numbers of tensors: there are at most as many as tensors.
use Rattle.std.proofs.Common.{◌≡◌, ℕ, ◌<◌, ◌≤◌, ◌&&◌, Bool, true, false, List, [], ◌∷◌, ◌++◌, length, get_or, eqb, eq-eqb, eqb-true, nat_lt, cond, refl, sym, ap, ◌∙◌, subst, arith}
use Rattle.std.proofs.lemmas.Bool.{false≢true}
use Rattle.std.specs.List.{fold, list_any, list_all, IsDistinct}
use Rattle.std.proofs.lemmas.Map.Keys.{IsDistinct-push}
use Rattle.std.proofs.lemmas.Map.Steps.{length-le_from_distinct_below}
use Rattle.std.specs.Cmp.{IsEquivalence}
use Rattle.std.proofs.lemmas.List.{length_push}
use Rattle.std.proofs.lemmas.List.Folds.{list_all-append}
use Rattle.tce_tree.specs.ContractionTree.{ContractionTree, leaf, constant, binary, sum}
use Rattle.tce_spec.specs.Declarations.{Declarations}
use Rattle.tce_spec.specs.Contraction.{LeavesFit}
use Rattle.tce_spec.proofs.Faultless.{member_below}
use Rattle.tce_tree.proofs.NamedIndexes.{all_below}
use Rattle.tce_spec.specs.Specification.{Specification}
use Rattle.tce_spec.specs.Operands.{AreSeen, with_new, references, operands}

pub eqb_laws : IsEquivalence eqb
eqb_laws = record {
  refl = λ x. eq-eqb x x refl;
  symm = λ x y. by_test x y (eqb x y) refl (eqb y x) refl;
  congr = λ x y z h. ap (λ n. eqb n z) (eqb-true x y h);
}
  where
    by_test : (x y : ℕ) (a : Bool) → eqb x y ≡ a → (b : Bool) → eqb y x ≡ b → eqb x y ≡ eqb y x
    by_test x y true e true f = e ∙ sym f
    by_test x y false e false f = e ∙ sym f
    by_test x y true e false f = absurd (false≢true (sym f ∙ eq-eqb y x (sym (eqb-true x y e))))
    by_test x y false e true f = absurd (false≢true (sym e ∙ eq-eqb x y (sym (eqb-true y x f))))

-- one more
pub all_push : (p : ℕ → Bool) (xs : List ℕ) (t : ℕ) → list_all p xs ≡ true → p t ≡ true → list_all p (xs ++ t ∷ []) ≡ true
all_push p xs t all one = list_all-append p xs (t ∷ []) ∙ rw (all, one) refl

less : (t n : ℕ) → t < n → nat_lt t n ≡ true
less t n h = grind (arith, h)

pub seen_more : (n : ℕ) (xs : List ℕ) (t : ℕ) → t < n → AreSeen n xs → list_any (eqb t) xs ≡ false → AreSeen n (xs ++ t ∷ [])
seen_more n xs t small seen new = record {
  once = IsDistinct-push eqb_laws xs t seen.once new;
  below = all_push (λ u. nat_lt u n) xs t seen.below (less t n small);
}

pub seen_few : (n : ℕ) (xs : List ℕ) (t : ℕ) → t < n → AreSeen n xs → list_any (eqb t) xs ≡ false → length xs < n
seen_few n xs t small seen new =
    let more = seen_more n xs t small seen new in
    let few : length (xs ++ t ∷ []) ≤ n = length-le_from_distinct_below (xs ++ t ∷ []) n more.once (λ q h. member_below n (xs ++ t ∷ []) q more.below h) in
    omega (arith, few, length_push xs t)

-- what holds of all members of two lists holds of the first with the second's new members
pub all_once : (p : ℕ → Bool) (xs seen : List ℕ) → list_all p xs ≡ true → list_all p seen ≡ true → list_all p (fold with_new seen xs) ≡ true
all_once p [] seen all before = before
all_once p (x ∷ xs) seen all before =
    let parts = of_and (p x) (list_all p xs) all in
    all_once p xs (with_new seen x) parts.1 (one (list_any (eqb x) seen) parts.0)
  where
    of_and : (a b : Bool) → a && b ≡ true → (a ≡ true) × (b ≡ true)
    of_and true b h = (refl, h)
    of_and false b h = cc

    one : (b : Bool) → p x ≡ true → list_all p (cond b seen (seen ++ x ∷ [])) ≡ true
    one true h = before
    one false h = all_push p seen x before h

-- the tensors of a tree whose references fit are declared
pub references_below : (d : Declarations) (tree : ContractionTree) → LeavesFit d tree → list_all (λ t. nat_lt t (length d.tensors)) (references tree) ≡ true
references_below d (leaf t is) fits = rw (less t (length d.tensors) fits.declared) refl
references_below d (constant n) fits = refl
references_below d (binary op l r) fits =
    list_all-append (λ t. nat_lt t (length d.tensors)) (references l) (references r) ∙ rw (references_below d l fits.0, references_below d r fits.1) refl
references_below d (sum is e) fits = references_below d e fits

-- numbers below a smaller bound
pub below_more : (n m : ℕ) (xs : List ℕ) → n ≤ m → list_all (λ t. nat_lt t n) xs ≡ true → list_all (λ t. nat_lt t m) xs ≡ true
below_more n m [] le all = refl
below_more n m (x ∷ xs) le all = by_test (nat_lt x n) refl all (λ h. below_more n m xs le h)
  where
    by_test : (b : Bool) → nat_lt x n ≡ b → b && list_all (λ t. nat_lt t n) xs ≡ true
        → (list_all (λ t. nat_lt t n) xs ≡ true → list_all (λ t. nat_lt t m) xs ≡ true) → nat_lt x m && list_all (λ t. nat_lt t m) xs ≡ true
    by_test true e h later = rw (less x m (grind (arith, e, le)), later h) refl
    by_test false e h later = cc

-- at the start
pub seen_none : (n : ℕ) (xs : List ℕ) → xs ≡ [] → AreSeen n xs
unfolding IsDistinct
seen_none n xs none = subst (AreSeen n) (sym none) (record { once = tt; below = refl })

-- an operand is a declared tensor
pub operand_declared : (s : Specification) → LeavesFit s.declarations s.tree → (k : ℕ) → k < length (operands s) → get_or (operands s) k 0 < length s.declarations.tensors
operand_declared s fits k within =
    all_below (length s.declarations.tensors) (operands s)
    (all_once (λ t. nat_lt t (length s.declarations.tensors)) (references s.tree) [] (references_below s.declarations s.tree fits) refl) k 0 within
