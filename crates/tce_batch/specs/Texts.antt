-- The texts of a batch: for each formula line the whole text with the content of every other formula line dropped. Line feeds stay, so each line keeps its number.
use Rattle.std.specs.Prelude.{ℕ, ◌==◌, Bool, true, false, if◌then◌else◌, List, [], ◌∷◌, map}
use Rattle.std.specs.List.{slice_split, join_with_byte}
use Rattle.tce_grammar.specs.Grammar.{Line, skipped, bad, says, range, index, declaration, formula}

-- whether a line has the form of a formula
abbrev pub is_formula : Line → Bool
is_formula skipped = false
is_formula bad = false
is_formula (says (range name extent edge)) = false
is_formula (says (index of_range names)) = false
is_formula (says (declaration name ranges)) = false
is_formula (says (formula result indexes f)) = true

-- what stands between line feeds, where each part that is a formula line is empty; what stands behind the last line feed need not be a line
abbrev pub emptied : List (List ℕ) → List Line → List (List ℕ)
emptied [] ls = []
emptied (part ∷ parts) [] = part ∷ parts
emptied (part ∷ parts) (l ∷ ls) = (if is_formula l then [] else part) ∷ emptied parts ls

-- for each formula line in turn, the parts with every other formula line empty
abbrev pub alone : List (List ℕ) → List Line → List (List (List ℕ))
alone [] ls = []
alone (part ∷ parts) [] = []
alone (part ∷ parts) (l ∷ ls) =
    if is_formula l then (part ∷ emptied parts ls) ∷ map (λ (others : List (List ℕ)). [] ∷ others) (alone parts ls)
    else map (λ (others : List (List ℕ)). part ∷ others) (alone parts ls)

-- without a formula line there is one text, the whole
abbrev pub or_whole : List ℕ → List (List ℕ) → List (List ℕ)
or_whole text [] = text ∷ []
or_whole text (first ∷ further) = first ∷ further

-- the texts of a batch, where its lines are these
abbrev pub texts : List ℕ → List Line → List (List ℕ)
texts text of_lines = or_whole text (map (join_with_byte 10) (alone (slice_split (λ b. b == 10) text) of_lines))
