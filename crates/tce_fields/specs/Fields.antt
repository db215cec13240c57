-- The texts of which a line is made: parts with a separator between them, lists of names, and numbers.
use Rattle.std.specs.Prelude.{◌≡◌, ◌≢◌, ℕ, ◌<◌, ◌≤◌, ◌==◌, not, Bool, IsTrue, List, [], ◌∷◌, length, codes}
use Rattle.std.specs.Fmt.{decimal}
use Rattle.std.specs.List.{list_all, join_with_byte}
use Rattle.tce_space.specs.Limits.{cost_limit}
use Rattle.tce_space.specs.Name.{is_name}

-- whether the separator does not stand in the text
abbrev pub lacks : ℕ → List ℕ → Bool
lacks separator text = list_all (λ b. not (b == separator)) text

-- the text is these parts with the separator between each two, at most so many, and the separator stands in none of them
pub record AreParts (separator limit : ℕ) (text : List ℕ) (parts : List (List ℕ)) : Type 0 where
  pub some : parts ≢ []
  pub few : length parts ≤ limit
  pub apart : IsTrue (list_all (lacks separator) parts)
  pub text_is : text ≡ join_with_byte separator parts

-- `-` where there are no names, else a comma between each two
abbrev pub listed : List (List ℕ) → List ℕ
listed [] = codes "-"
listed (name ∷ names) = join_with_byte 44 (name ∷ names)

-- the text lists these names, at most so many
pub record AreListed (limit : ℕ) (text : List ℕ) (names : List (List ℕ)) : Type 0 where
  pub few : length names ≤ limit
  pub named : IsTrue (list_all is_name names)
  pub text_is : text ≡ listed names

-- the text is this number in decimal, which is below the limit of all numbers in lines
pub record IsNumber (text : List ℕ) (number : ℕ) : Type 0 where
  pub limit : number < cost_limit
  pub text_is : text ≡ decimal number
