-- Symmetric storage: of two elements that an exchange of two coordinates makes of each other, one is stored.
use Rattle.std.specs.Prelude.{◌≡◌, ℕ, ◌+◌, ◌-◌, ◌*◌, ◌/◌, ◌<◌, ◌≤◌, Bool, true, false, nat_lt, if◌then◌else◌, List, ◌++◌, length, take, drop, set, get_or, codes}
use Rattle.tce_base.specs.Word.{word_of_bytes, wrapping_sub}
use Rattle.tce_space.specs.Box.{product, place}
use Rattle.tce_sym.specs.declared.symmetry.Symmetry.{Symmetry}

-- the positions are those of two dimensions of one extent, the lower first
pub record AreRight (extents : List ℕ) (s : Symmetry) : Type 0 where
  pub ordered : s.first < s.second
  pub inside : s.second < length extents
  pub same : get_or extents s.first 0 ≡ get_or extents s.second 0

-- what a list has at the first position, at the second, and at the others
abbrev pub at_first : Symmetry → List ℕ → ℕ
at_first s xs = get_or xs s.first 0

abbrev pub at_second : Symmetry → List ℕ → ℕ
at_second s xs = get_or xs s.second 0

abbrev pub at_others : Symmetry → List ℕ → List ℕ
at_others s xs = take s.first xs ++ (take (s.second - (s.first + 1)) (drop (s.first + 1) xs) ++ drop (s.second + 1) xs)

-- the list with the two exchanged
abbrev pub exchanged : Symmetry → List ℕ → List ℕ
exchanged s xs = set (set xs s.first (at_second s xs)) s.second (at_first s xs)

-- a pair of coordinates is stored with its lower coordinate first; where the sign turns, none with equal coordinates is
abbrev pub IsPair : Bool → ℕ → ℕ → Type 0
IsPair true a b = a < b
IsPair false a b = a ≤ b

-- how many pairs there are whose coordinates are below a number
abbrev pub pairs : Bool → ℕ → ℕ
pairs negated n = (if negated then n * (n - 1) / 2 else n * (n + 1) / 2)

-- the place of a stored element: for each place of the other coordinates come all pairs, by the second coordinate and then by the first
abbrev pub stored_place : List ℕ → Symmetry → List ℕ → ℕ
stored_place extents s xs =
    place (at_others s extents) (at_others s xs) * pairs s.negated (at_first s extents) + (pairs s.negated (at_second s xs) + at_first s xs)

-- how many elements are stored
abbrev pub stored_count : List ℕ → Symmetry → ℕ
stored_count extents s = product (at_others s extents) * pairs s.negated (at_first s extents)

-- a file of stored elements: a head of 32 bytes, and eight bytes for each element
abbrev pub stored_len : List ℕ → Symmetry → ℕ
stored_len extents s = 32 + 8 * stored_count extents s

-- a number in the head
abbrev pub number_at : List ℕ → ℕ → ℕ
number_at bytes at = word_of_bytes 8 (drop at bytes)

-- the head has the mark, the positions, which are right, and the sign
pub record IsHead (extents : List ℕ) (s : Symmetry) (head : List ℕ) : Type 0 where
  pub begins : take 8 head ≡ codes "TCSYMM01"
  pub first : number_at head 8 ≡ s.first
  pub second : number_at head 16 ≡ s.second
  pub right : AreRight extents s
  pub sign : number_at head 24 ≡ (if s.negated then 1 else 0)

pub record IsStored (extents : List ℕ) (s : Symmetry) (bytes : List ℕ) : Type 0 where
  pub head : IsHead extents s (take 32 bytes)
  pub whole : length bytes ≡ stored_len extents s

-- a stored word, and the word at some coordinates
abbrev pub stored_word : List ℕ → ℕ → ℕ
stored_word bytes k = word_of_bytes 8 (drop (32 + 8 * k) bytes)

abbrev pub word_at : List ℕ → Symmetry → List ℕ → List ℕ → ℕ
word_at extents s bytes xs = stored_word bytes (stored_place extents s xs)

-- a word, with its sign turned where it turns
abbrev pub turned : Bool → ℕ → ℕ
turned negated word = if negated then wrapping_sub 0 word else word

-- an element of the whole array: with its lower coordinate first it is stored; with the higher one first it is that of the
-- exchanged coordinates, or 0 less that where the sign turns; between two equal coordinates it is then 0, and else stored
abbrev pub full_cell : List ℕ → Symmetry → List ℕ → List ℕ → ℕ
full_cell extents s bytes xs =
    if nat_lt (at_first s xs) (at_second s xs) then word_at extents s bytes xs
    else if nat_lt (at_second s xs) (at_first s xs) then turned s.negated (word_at extents s bytes (exchanged s xs))
    else (if s.negated then 0 else word_at extents s bytes xs)
