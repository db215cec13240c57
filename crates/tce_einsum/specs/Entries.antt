-- The list of entries that a path works on. It begins with the operands; an item takes one or two out and appends what they make. Labels are numbers, in order of the sizes, and stand for the indexes of trees; an operand's number is that of its tensor.
use Rattle.std.specs.Prelude.{ℕ, ◌+◌, ◌&&◌, ◌||◌, not, Bool, false, IsTrue, nat_lt, if◌then◌else◌, List, [], ◌∷◌, ◌++◌, fold, slice_index_or}
use Rattle.std.specs.List.{filter, list_any, remove}
use Rattle.tce_tree.specs.ContractionTree.{ContractionTree, leaf, constant, binary, sum, multiply}
use Rattle.tce_tree.specs.WellFormed.{among, is_distinct}
use Rattle.tce_einsum.specs.Path.{Item, one, two}

-- a value of each element and its number; `k` is the number of the first
abbrev pub numbered : {X Y : Type 0} → (ℕ → X → Y) → ℕ → List X → List Y
numbered f k [] = []
numbered f k (x ∷ xs) = f k x ∷ numbered f (k + 1) xs

-- the operands with their labels
abbrev pub leaves : List (List ℕ) → List ContractionTree
leaves operands = numbered leaf 0 operands

-- whether a label stands in a tree and is not summed in it
abbrev pub is_free : ContractionTree → ℕ → Bool
is_free (leaf tensor labels) i = among labels i
is_free (constant number) i = false
is_free (binary op left right) i = is_free left i || is_free right i
is_free (sum labels operand) i = is_free operand i && not (among labels i)

-- the labels of an einsum and those of its output
pub record Labels : Type 0 where
  pub all : List ℕ
  pub output : List ℕ

-- no label is listed twice, and each stands in the output or in an operand
pub record AreUsed (ls : Labels) (operands : List (List ℕ)) : Type 0 where
  pub once : IsTrue (is_distinct ls.all)
  pub stand : (i : ℕ) → IsTrue (among ls.all i) → IsTrue (among ls.output i || list_any (λ labels. among labels i) operands)

-- the labels of a new entry that stand neither in the output nor in another entry
abbrev pub labels_to_sum : Labels → List ContractionTree → ContractionTree → List ℕ
labels_to_sum ls others entry =
    filter (λ i. is_free entry i && not (among ls.output i || list_any (λ other. is_free other i) others)) ls.all

-- one sum over these labels; where there are none, no sum
abbrev pub summed : List ℕ → ContractionTree → ContractionTree
summed [] entry = entry
summed (i ∷ is) entry = sum (i ∷ is) entry

abbrev pub entry_at : List ContractionTree → ℕ → ContractionTree
entry_at entries p = slice_index_or entries p (constant 0)

-- what an item makes: the entry itself, or the product of two, the one named first on the left
abbrev pub made : List ContractionTree → Item → ContractionTree
made entries (one p) = entry_at entries p
made entries (two p q) = binary multiply (entry_at entries p) (entry_at entries q)

-- the entries that an item leaves in the list
abbrev pub others : List ContractionTree → Item → List ContractionTree
others entries (one p) = remove entries p
others entries (two p q) = if nat_lt p q then remove (remove entries q) p else remove (remove entries p) q

-- the entry behind the others
abbrev pub with_entry : Labels → List ContractionTree → ContractionTree → List ContractionTree
with_entry ls others entry = others ++ summed (labels_to_sum ls others entry) entry ∷ []

abbrev pub contracted : Labels → List ContractionTree → Item → List ContractionTree
contracted ls entries item = with_entry ls (others entries item) (made entries item)

abbrev pub entries_after : Labels → List ContractionTree → List Item → List ContractionTree
entries_after ls entries items = fold (contracted ls) entries items

-- the first entry that the path leaves
abbrev pub contraction : Labels → List (List ℕ) → List Item → ContractionTree
contraction ls operands items = entry_at (entries_after ls (leaves operands) items) 0
