-- A text in front of its first separator, and behind it.
use Rattle.std.specs.Prelude.{◌≡◌, ℕ, ◌==◌, false, List, ◌∷◌, ◌++◌, MatchOption, Option}
use Rattle.std.specs.List.{All}
use Rattle.std.specs.Borrow.{Bor}

-- the separator does not stand in the text
abbrev pub Lacks : ℕ → List ℕ → Type 0
Lacks separator text = All (λ b. (b == separator) ≡ false) text

pub record IsCut (separator : ℕ) (text front rest : List ℕ) : Type 0 where
  pub text_is : text ≡ front ++ separator ∷ rest
  pub first : Lacks separator front

-- the text is cut at its first separator, where it has one
abbrev pub CutsAt : ℕ → List ℕ → Option (Bor (List ℕ) × Bor (List ℕ)) → Type 0
CutsAt separator text result = MatchOption result (Lacks separator text) (λ parts. IsCut separator text parts.0.now parts.1.now)
