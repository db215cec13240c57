-- The operands are the tensors of the tree.
use Rattle.std.proofs.Common.{◌≡◌, ◌≢◌, ℕ, zero, suc, ◌<◌, Bool, true, false, List, [], ◌∷◌, ◌++◌, length, get_or, eqb, eq-eqb, eqb-true, cond, inl, inr, refl, sym, ap, ◌∙◌, arith}
use Rattle.std.specs.List.{fold, list_any, list_all}
use Rattle.std.proofs.lemmas.Bool.{or_cases, or_left, or_right, and_parts, true≢false}
use Rattle.std.proofs.lemmas.List.Folds.{list_all-append, list_any-append}
use Rattle.tce_tree.specs.ContractionTree.{ContractionTree, leaf, constant, binary, sum}
use Rattle.tce_spec.specs.Contraction.{has_tensor}
use Rattle.tce_spec.specs.Specification.{Specification, IsSpecification}
use Rattle.tce_spec.specs.Operands.{references, with_new, operands}
use Rattle.tce_spec.proofs.Seen.{all_once}
use Rattle.tce_spec.proofs.PieceSources.{stays_folded}
use Rattle.tce_job.specs.Opened.{operand_count, operand}
use Rattle.tce_job.specs.Laws.{IsOperand}

-- each reference is one of the tree
references_in : (p : ℕ → Bool) (tree : ContractionTree) → ((t : ℕ) → has_tensor t tree ≡ true → p t ≡ true) → list_all p (references tree) ≡ true
references_in p (leaf t is) h = rw (h t (eq-eqb t t refl)) refl
references_in p (constant n) h = refl
references_in p (binary op l r) h =
    list_all-append p (references l) (references r)
    ∙ rw (references_in p l (λ t k. h t (or_left (has_tensor t l) (has_tensor t r) k)), references_in p r (λ t k. h t (or_right (has_tensor t l) (has_tensor t r) k))) refl
references_in p (sum is x) h = references_in p x h

passes_at : (p : ℕ → Bool) (xs : List ℕ) (k : ℕ) → list_all p xs ≡ true → k < length xs → p (get_or xs k 0) ≡ true
passes_at p [] k all h = absurd (omega arith)
passes_at p (x ∷ xs) zero all h = (and_parts (p x) (list_all p xs) all).0
passes_at p (x ∷ xs) (suc k) all h = passes_at p xs k (and_parts (p x) (list_all p xs) all).1 (omega arith)

pub in_tree : (s : Specification) (d : ℕ) → d < operand_count s → has_tensor (operand s d) s.tree ≡ true
in_tree s d h = passes_at (λ t. has_tensor t s.tree) (operands s) d (all_once (λ t. has_tensor t s.tree) (references s.tree) [] (references_in (λ t. has_tensor t s.tree) s.tree (λ t k. k)) refl) h

-- and each tensor of the tree is a reference
referred : (t : ℕ) (tree : ContractionTree) → has_tensor t tree ≡ true → list_any (eqb t) (references tree) ≡ true
referred t (leaf u is) h = or_left (eqb t u) false (eq-eqb t u (sym (eqb-true u t h)))
referred t (constant n) h = h
referred t (binary op l r) h =
    list_any-append (eqb t) (references l) (references r)
    ∙ elim (or_cases (has_tensor t l) (has_tensor t r) h) [
      | inl left ↦ or_left _ _ (referred t l left)
      | inr right ↦ or_right _ _ (referred t r right)
    ]
referred t (sum is x) h = referred t x h

-- what is met is seen then
enters : (t x : ℕ) (seen : List ℕ) → eqb t x ≡ true → list_any (eqb t) (with_new seen x) ≡ true
enters t x seen same = by_test (list_any (eqb x) seen) refl
  where
    by_test : (b : Bool) → list_any (eqb x) seen ≡ b → list_any (eqb t) (cond b seen (seen ++ x ∷ [])) ≡ true
    by_test true e = ap (λ u. list_any (eqb u) seen) (eqb-true t x same) ∙ e
    by_test false e = list_any-append (eqb t) seen (x ∷ []) ∙ or_right _ _ (or_left (eqb t x) false same)

met : (t : ℕ) (xs seen : List ℕ) → list_any (eqb t) xs ≡ true → list_any (eqb t) (fold with_new seen xs) ≡ true
met t [] seen h = absurd (cc)
met t (x ∷ xs) seen h =
    elim (or_cases (eqb t x) (list_any (eqb t) xs) h) [
      | inl here ↦ stays_folded xs (with_new seen x) t (enters t x seen here)
      | inr later ↦ met t xs (with_new seen x) later
    ]

-- where a number stands in a list
pub record StandsAt (t : ℕ) (xs : List ℕ) : Type 0 where
  pub number : ℕ
  pub within : number < length xs
  pub is : get_or xs number 0 ≡ t

stands : (t : ℕ) (xs : List ℕ) → list_any (eqb t) xs ≡ true → StandsAt t xs
stands t [] h = absurd (cc)
stands t (x ∷ xs) h =
    elim (or_cases (eqb t x) (list_any (eqb t) xs) h) [
      | inl here ↦ record { number = 0; within = omega arith; is = sym (eqb-true t x here) }
      | inr later ↦ let at = stands t xs later in record { number = suc (at.number); within = omega (arith, at.within); is = at.is }
    ]

pub is_operand : (s : Specification) (t : ℕ) → has_tensor t s.tree ≡ true → IsOperand s t
is_operand s t h = let at = stands t (operands s) (met t (references s.tree) [] (referred t s.tree h)) in record { number = at.number; within = at.within; is = at.is }

-- the result is none of them
pub not_result : (s : Specification) (t : ℕ) → IsSpecification s → has_tensor t s.tree ≡ true → t ≢ s.result
not_result s t rules h same = true≢false (sym h ∙ ap (λ u. has_tensor u s.tree) same ∙ rules.contraction.no_operand)
