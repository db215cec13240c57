-- The labels of an einsum by their numbers, which count its sizes from 0.
use Rattle.std.specs.Prelude.{ℕ, ◌==◌, List, length, map}
use Rattle.std.specs.List.{range_with_len, position_or_len}
use Rattle.tce_tree.specs.ContractionTree.{ContractionTree}
use Rattle.tce_tree.specs.Value.{Assignment, Elements}
use Rattle.tce_einsum.specs.Text.{Size, Einsum}
use Rattle.tce_einsum.specs.Path.{Item}
use Rattle.tce_einsum.specs.Entries.{Labels, contraction}
use Rattle.tce_einsum.specs.EinsumValue.{einsum_value}

-- the number of a label: the place of its size
abbrev pub number_of : List Size → ℕ → ℕ
number_of sizes label = position_or_len (λ (s : Size). s.label == label) sizes

abbrev pub numbers_of : List Size → List ℕ → List ℕ
numbers_of sizes labels = map (number_of sizes) labels

abbrev pub numbered_labels : Einsum → Labels
numbered_labels x = record { all = range_with_len 0 (length x.sizes); output = numbers_of x.sizes x.output }

abbrev pub numbered_operands : Einsum → List (List ℕ)
numbered_operands x = map (numbers_of x.sizes) x.operands

-- the tree that a path leaves
abbrev pub contraction_of : Einsum → List Item → ContractionTree
contraction_of x items = contraction (numbered_labels x) (numbered_operands x) items

-- the value of an einsum at numbers of its labels
abbrev pub value_of_einsum : Elements → Einsum → Assignment → ℕ
value_of_einsum e x a = einsum_value e (numbered_labels x) (numbered_operands x) a
