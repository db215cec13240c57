-- Lines of stored words that are held in memory, each in a slot: its mark in the first row, and its words in the rows below.
use Rattle.std.specs.Prelude.{◌≡◌, ◌≢◌, ◌⊎◌, ℕ, ◌+◌, ◌*◌, ◌/◌, ◌%◌, ◌<◌, ◌≤◌, true, if◌then◌else◌, List, length, slice_index, Option}
use Rattle.std.specs.Option.{ForSome}
use Rattle.tce_space.specs.Limits.{max_array_words}
use Rattle.tce_sym.specs.declared.lines.Grid.{Grid}
use Rattle.tce_sym.specs.declared.lines.Layout.{Layout}
use Rattle.tce_sym.specs.declared.lines.Layout.TheVariants.{Lines, Whole, Across}
use Rattle.tce_sym.specs.declared.lines.Wanted.{Wanted}
use Rattle.tce_sym.specs.declared.walks.Walk.{Walk}
use Rattle.tce_sym.specs.Storage.{stored_word, pairs}

-- the place of a word so many steps on
abbrev pub walk_place : Walk → ℕ → ℕ
walk_place walk k = walk.place + walk.step * k + (if walk.grows then pairs true k else 0)

-- there is room for the marks and the lines
pub record IsGrid (g : Grid) (room : ℕ) : Type 0 where
  pub apart : g.last < g.pitch
  pub fits : g.pitch * (g.line + 1) ≤ room
  pub some : 0 < g.line
  pub short : g.line ≤ 256

-- each slot whose mark is one more than a place has the words from there on
pub record AreLines (g : Grid) (bytes lines : List ℕ) : Type 0 where
  pub held : (slot start k : ℕ) → slot ≤ g.last → k < g.line → slice_index lines slot ≡ start + 1 → start + k < g.count
      → slice_index lines ((1 + k) * g.pitch + slot) ≡ stored_word bytes (start + k)

-- all words stand one after the other
pub record AreWhole (g : Grid) (bytes lines : List ℕ) : Type 0 where
  pub held : (k : ℕ) → k < g.count → slice_index lines k ≡ stored_word bytes k

-- the words of each pair below a number stand side by side
pub record ArePairs (g : Grid) (n : ℕ) (bytes lines : List ℕ) : Type 0 where
  pub held : (outer pair : ℕ) → outer < g.others → pair < n → slice_index lines (pair * g.pitch + outer) ≡ stored_word bytes (outer * g.pairs + pair)

-- the words stand in the column of a pair's other coordinates from one pair on, and those of other columns and earlier pairs stay
abbrev pub ArePut : Grid → ℕ → ℕ → List ℕ → List ℕ → Type 0
ArePut g outer from words lines = (k : ℕ) → k < length words → slice_index lines ((from + k) * g.pitch + outer) ≡ slice_index words k

abbrev pub KeepsOtherWords : Grid → ℕ → ℕ → List ℕ → List ℕ → Type 0
KeepsOtherWords g outer from old new =
    (other pair : ℕ) → other < g.pitch → (other ≢ outer) ⊎ (pair < from) → slice_index new (pair * g.pitch + other) ≡ slice_index old (pair * g.pitch + other)

-- the words from a place on are a whole line, or all that are behind it
abbrev pub HasLine : Grid → ℕ → List ℕ → Type 0
HasLine g start words = (k : ℕ) → k < g.line → start + k < g.count → k < length words

-- lines that had words of a file have them still, if the words that were put in are the file's from a place on
abbrev pub PutsWords : Grid → ℕ → List ℕ → List ℕ → List ℕ → Type 0
PutsWords g start words old new =
    (bytes : List ℕ) → AreLines g bytes old → ((k : ℕ) → k < length words → slice_index words k ≡ stored_word bytes (start + k)) → AreLines g bytes new

-- the first words, so many of them, are those of the file that a walk comes by
abbrev pub WalkedBelow : Walk → List ℕ → ℕ → List ℕ → Type 0
WalkedBelow walk bytes count words = (k : ℕ) → k < count → slice_index words k ≡ stored_word bytes (walk_place walk k)

-- the word of a place is the answer, if there is one
abbrev pub IsHeldWord : Grid → List ℕ → ℕ → Option ℕ → Type 0
IsHeldWord g lines place found = (bytes : List ℕ) → AreLines g bytes lines → ForSome found (λ word. word ≡ stored_word bytes place)

-- there is room for the words of all pairs
pub record IsAcross (g : Grid) (room : ℕ) : Type 0 where
  pub some : 0 < g.pairs
  pub count : g.count ≡ g.others * g.pairs
  pub apart : g.others ≤ g.pitch
  pub fits : g.pairs * g.pitch ≤ room

-- there is room for what is held, and it is held
abbrev pub HasRoom : Layout → Grid → ℕ → Type 0
HasRoom Lines g room = IsGrid g room
HasRoom Whole g room = g.count ≤ room
HasRoom Across g room = IsAcross g room

abbrev pub HasRoomAt : Grid → List ℕ → Type 0
HasRoomAt g lines = HasRoom g.layout g (length lines)

abbrev pub AreHeld : Layout → Grid → List ℕ → List ℕ → Type 0
AreHeld Lines g bytes lines = AreLines g bytes lines
AreHeld Whole g bytes lines = AreWhole g bytes lines
AreHeld Across g bytes lines = ArePairs g g.pairs bytes lines

-- the word that is wanted is among those that are read, and so is the first line
pub record IsWanted (g : Grid) (wanted : Wanted) : Type 0 where
  pub start : wanted.start ≤ wanted.place
  pub near : wanted.place < wanted.start + wanted.span
  pub place : wanted.place < g.count
  pub line : g.line ≤ wanted.span
  pub short : wanted.span ≤ 2048
  pub slot : wanted.slot ≤ g.last
  pub count : g.count ≤ max_array_words

-- where the word so many steps on stands among the words that are held pair by pair
abbrev pub walk_across : Grid → Walk → ℕ → ℕ
walk_across g walk k = let at = walk_place walk k in at % g.pairs * g.pitch + at / g.pairs
