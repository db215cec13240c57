-- Products over the loops of a list, and touches of the terms of one.
use Rattle.std.proofs.Common.{◌≡◌, ℕ, ◌+◌, ◌-◌, ◌*◌, ◌≤◌, Option, Some, None, List, [], ◌∷◌, take, drop, length, map, get_or, ap, ◌∙◌, arith}
use Rattle.std.proofs.Math.Nat.{mul_comm}
use Rattle.std.proofs.lemmas.List.{take_all}
use Rattle.std.specs.Prelude.{IfSome}
use Rattle.tce_space.specs.Box.{product}
use Rattle.tce_space.specs.Space.{IndexSpace}
use Rattle.tce_walk.specs.Terms.{touches_of_terms}
use Rattle.tce_walk.specs.Touches.{block_count}
use Rattle.tce_walk.specs.declared.terms.Term.{Term}

-- what stands behind the first
rest_is : {X : Type 0} (x : X) (xs : List X) → take (length (x ∷ xs) - 1) (drop 1 (x ∷ xs)) ≡ xs
rest_is x xs = take_all (length (x ∷ xs) - 1) xs (omega arith)

pub product_first : (f : ℕ → ℕ) (loops : List ℕ) (d : ℕ) → 1 ≤ length loops → product (map f (take (length loops - 1) (drop 1 loops))) * f (get_or loops 0 d) ≡ product (map f loops)
product_first f [] d l = absurd (omega (arith, l))
product_first f (i ∷ loops) d l = ap (λ xs. product (map f xs) * f i) (rest_is i loops) ∙ mul_comm (product (map f loops)) (f i)

pub touches_first : (space : IndexSpace) (terms : List Term) (d : Term) → 1 ≤ length terms
    → 3 * block_count space (get_or terms 0 d).loops.0.items + touches_of_terms space (take (length terms - 1) (drop 1 terms)) ≡ touches_of_terms space terms
touches_first space [] d l = absurd (omega (arith, l))
touches_first space (t ∷ terms) d l = ap (λ ts. 3 * block_count space t.loops.0.items + touches_of_terms space ts) (rest_is t terms)

-- what holds of a value where there is one, and what follows
pub if_some_map : {X : Type 0} {P Q : X → Type 0} (o : Option X) → IfSome o P → ((x : X) → P x → Q x) → IfSome o Q
if_some_map None h f = tt
if_some_map (Some x) h f = f x h
