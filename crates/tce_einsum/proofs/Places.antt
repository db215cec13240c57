-- The place of a size in a list of sizes.
use Rattle.std.proofs.Common.{◌≡◌, ℕ, ◌+◌, ◌≤◌, ◌==◌, Bool, true, false, not, nat_lt, cond, List, [], ◌∷◌, map, length, position, Some, None, refl, sym, ap, arith}
use Rattle.std.specs.List.{position_or_len}
use Rattle.std.proofs.lemmas.Bool.{ltb-false}
use Rattle.std.proofs.lemmas.Option.{none-some, same_Some}
use Rattle.tce_einsum.specs.Text as text
use Rattle.tce_einsum.specs.Code.{size}
use Rattle.tce_einsum.specs.declared.size.Size.{Size}

pub mapped_place : (sizes : List Size) (label : ℕ) → position_or_len (λ (s : text.Size). s.label == label) (map size sizes) ≡ position_or_len (λ (s : Size). s.label == label) sizes
mapped_place [] label = refl
mapped_place (s ∷ ss) label = ap (λ n. cond (not (s.label == label)) (1 + n) 0) (mapped_place ss label)

pub place_within : {X : Type 0} (p : X → Bool) (xs : List X) → position_or_len p xs ≤ length xs
place_within p [] = omega arith
place_within p (x ∷ xs) = by_test (p x) (place_within p xs)
  where
    by_test : (d : Bool) → position_or_len p xs ≤ length xs → cond (not d) (1 + position_or_len p xs) 0 ≤ length (x ∷ xs)
    by_test true within = omega arith
    by_test false within = omega (arith, within)

pub place_some : {X : Type 0} (p : X → Bool) (xs : List X) (k : ℕ) → Some k ≡ position p xs → k ≡ position_or_len p xs
place_some p xs k is = by_place (nat_lt (position_or_len p xs) (length xs)) refl
  where
    by_place : (d : Bool) → nat_lt (position_or_len p xs) (length xs) ≡ d → k ≡ position_or_len p xs
    by_place true e = same_Some k (position_or_len p xs) (rw e at is)
    by_place false e = absurd (none-some k (sym (rw e at is)))

pub place_none : {X : Type 0} (p : X → Bool) (xs : List X) → None ≡ position p xs → length xs ≡ position_or_len p xs
place_none p xs is = by_place (nat_lt (position_or_len p xs) (length xs)) refl
  where
    by_place : (d : Bool) → nat_lt (position_or_len p xs) (length xs) ≡ d → length xs ≡ position_or_len p xs
    by_place true e = absurd (none-some (position_or_len p xs) (rw e at is))
    by_place false e = omega (arith, place_within p xs, ltb-false (position_or_len p xs) (length xs) e)
