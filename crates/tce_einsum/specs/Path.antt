-- A path: items, each of which takes one or two entries out of a list and appends one. Positions count from 0.
use Rattle.std.specs.Prelude.{◌≡◌, ◌≢◌, ℕ, ◌-◌, ◌<◌, ◌≤◌, ◌==◌, List, [], ◌∷◌, ◌++◌, length, take, slice_index_or}
use Rattle.std.specs.Fmt.{decimal}
use Rattle.std.specs.List.{slice_split}

-- the positions of the entries that are taken out
pub data Item : Type 0 where
  one : ℕ → Item
  two : ℕ → ℕ → Item

-- a number, or two numbers with a comma between them; a position in a list that a program can hold has at most 20 digits
abbrev pub item_text : Item → List ℕ
item_text (one p) = decimal p
item_text (two p q) = decimal p ++ 44 ∷ decimal q

-- the positions are different ones of a list of so many entries
abbrev pub Fits : ℕ → Item → Type 0
Fits n (one p) = p < n
Fits n (two p q) = (p < n) × (q < n) × (p ≢ q)

-- how many entries an item leaves
abbrev pub left_by : ℕ → Item → ℕ
left_by n (one p) = n
left_by n (two p q) = n - 1

-- the texts of items that, one after the other, take a list of `n` entries to one of `m`
abbrev pub AreItems : ℕ → List (List ℕ) → List Item → ℕ → Type 0
AreItems n [] [] m = n ≡ m
AreItems n [] (i ∷ is) m = ⊥
AreItems n (text ∷ texts) [] m = ⊥
AreItems n (text ∷ texts) (i ∷ is) m = (text ≡ item_text i) × Fits n i × AreItems (left_by n i) texts is m

-- items that, one after the other, fit a list of `n` entries and leave `m`
abbrev pub Leave : ℕ → List Item → ℕ → Type 0
Leave n [] m = n ≡ m
Leave n (i ∷ is) m = Fits n i × Leave (left_by n i) is m

-- the text of each item, with semicolons between them; the empty path has one, which is empty
abbrev pub item_texts : List ℕ → List (List ℕ)
item_texts path = slice_split (λ b. b == 59) path

-- items that leave one entry of `n`
abbrev pub IsPath : ℕ → List ℕ → List Item → Type 0
IsPath n path items = AreItems n (item_texts path) items 1

-- the items in front of the text at `k` take the list to one of `m` entries, and that text is none of an item that fits; or all
-- texts are of items, and more than one entry is left
pub record IsBadItem (n : ℕ) (texts : List (List ℕ)) (k : ℕ) : Type 0 where
  pub before : List Item
  pub left : ℕ
  pub are : AreItems n (take k texts) before left
  pub inside : k ≤ length texts
  pub within : k < length texts → (i : Item) → slice_index_or texts k [] ≡ item_text i → Fits left i → ⊥
  pub behind : k ≡ length texts → left ≢ 1
