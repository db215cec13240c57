-- One more element of a list that is gone through from its front.
use Rattle.std.proofs.Common.{◌≡◌, ℕ, ◌+◌, ◌-◌, ◌≤◌, List, [], ◌∷◌, ◌++◌, map, length, get_or, take, drop, sym, ap, ◌∙◌, append_assoc, arith}
use Rattle.std.proofs.lemmas.List.{take_all}
use Rattle.tce_einsum.specs.Entries.{numbered}

pub first_and_rest : {X : Type 0} (xs : List X) (d : X) → 1 ≤ length xs → xs ≡ get_or xs 0 d ∷ take (length xs - 1) (drop 1 xs)
first_and_rest [] d some = absurd (omega (arith, some))
first_and_rest {X} (x ∷ xs) d some = ap (λ (rest : List X). x ∷ rest) (sym (take_all (length (x ∷ xs) - 1) xs (omega arith)))

-- what was made of the elements in front, and of one more
pub mapped_next : {X Y : Type 0} (f : X → Y) (found now whole : List Y) (rest : List X) (d : X) (y : Y) → 1 ≤ length rest → now ≡ found ++ y ∷ [] → y ≡ f (get_or rest 0 d)
    → found ++ map f rest ≡ whole → now ++ map f (take (length rest - 1) (drop 1 rest)) ≡ whole
mapped_next {X} f found now whole rest d y some pushed is before =
    let behind : List X = take (length rest - 1) (drop 1 rest) in
    (λ i. pushed i ++ map f behind) ∙ (λ i. (found ++ is i ∷ []) ++ map f behind)
    ∙ append_assoc found (f (get_or rest 0 d) ∷ []) (map f behind)
    ∙ ap (λ (xs : List X). found ++ map f xs) (sym (first_and_rest rest d some)) ∙ before

-- and by their numbers
pub numbered_next : {W X Y Z : Type 0} (f : ℕ → X → Y) (g : W → X) (h : Z → W) (n : ℕ) (found now whole : List Y) (rest : List Z) (d : Z) (y : Y) → 1 ≤ length rest
    → now ≡ found ++ y ∷ [] → y ≡ f n (g (h (get_or rest 0 d))) → found ++ numbered f n (map g (map h rest)) ≡ whole
    → now ++ numbered f (n + 1) (map g (map h (take (length rest - 1) (drop 1 rest)))) ≡ whole
numbered_next {W} {X} {Y} {Z} f g h n found now whole rest d y some pushed is before =
    let behind : List Y = numbered f (n + 1) (map g (map h (take (length rest - 1) (drop 1 rest)))) in
    (λ i. pushed i ++ behind) ∙ (λ i. (found ++ is i ∷ []) ++ behind) ∙ append_assoc found (f n (g (h (get_or rest 0 d))) ∷ []) behind
    ∙ ap (λ (xs : List Z). found ++ numbered f n (map g (map h xs))) (sym (first_and_rest rest d some)) ∙ before

-- one fewer is left
pub counted_next : {X : Type 0} (n whole : ℕ) (rest : List X) → 1 ≤ length rest → n + length rest ≡ whole → (n + 1) + length (take (length rest - 1) (drop 1 rest)) ≡ whole
counted_next n whole [] some all = absurd (omega (arith, some))
counted_next n whole (x ∷ xs) some all = let one = ap length (first_and_rest (x ∷ xs) x some) in omega (arith, one, all)
