-- Laws of the entries that a path leaves.
use Rattle.std.specs.Prelude.{◌≡◌, ◌≤◌, ℕ, List, ◌∷◌, length}
use Rattle.std.specs.List.Sorted.{IsPermutation}
use Rattle.tce_tree.specs.Value.{Assignment, Elements, value}
use Rattle.tce_einsum.specs.Text.{Einsum}
use Rattle.tce_einsum.specs.Path.{Item, Leave}
use Rattle.tce_einsum.specs.Input.{IsInput}
use Rattle.tce_einsum.specs.Entries.{Labels, AreUsed, leaves, entries_after, contraction}
use Rattle.tce_einsum.specs.EinsumValue.{product, einsum_value}
use Rattle.tce_einsum.specs.Numbered.{contraction_of, value_of_einsum}

-- a product of words does not depend on their order
abbrev pub ProductsHaveNoOrder : Type 0
ProductsHaveNoOrder = (xs ys : List ℕ) → IsPermutation xs ys → product xs ≡ product ys

-- a path leaves as many entries as its items say
abbrev pub PathsLeaveTheirEntries : Type 0
PathsLeaveTheirEntries =
    (ls : Labels) (operands : List (List ℕ)) (items : List Item) (m : ℕ) → Leave (length operands) items m → length (entries_after ls (leaves operands) items) ≡ m

-- the tree that a path leaves has the value of the einsum, for all contents of the operands, whatever the path
abbrev pub EveryPathHasTheValue : Type 0
EveryPathHasTheValue =
    (e : Elements) (ls : Labels) (operands : List (List ℕ)) (i : Item) (items : List Item) (a : Assignment) → AreUsed ls operands
    → Leave (length operands) (i ∷ items) 1 → value e (contraction ls operands (i ∷ items)) a ≡ einsum_value e ls operands a

-- the same of every text and path that are read
abbrev pub EveryTextHasItsValue : Type 0
EveryTextHasItsValue =
    (text path : List ℕ) (x : Einsum) (items : List Item) (e : Elements) (a : Assignment) → IsInput text path x items
    → value e (contraction_of x items) a ≡ value_of_einsum e x a

-- what is read has no more sizes than there are letters
abbrev pub SizesAreFew : Type 0
SizesAreFew = (text path : List ℕ) (x : Einsum) (items : List Item) → IsInput text path x items → length x.sizes ≤ 26

-- the items that are read leave one entry of the operands
abbrev pub PathsLeaveOneEntry : Type 0
PathsLeaveOneEntry = (text path : List ℕ) (x : Einsum) (items : List Item) → IsInput text path x items → Leave (length x.operands) items 1
