-- The value of an einsum, in which there is no path.
use Rattle.std.specs.Prelude.{ℕ, not, List, [], ◌∷◌, map}
use Rattle.std.specs.List.{filter}
use Rattle.tce_base.specs.Word.{word, wrapping_mul}
use Rattle.tce_tree.specs.WellFormed.{among}
use Rattle.tce_tree.specs.Value.{Assignment, Elements, sum_over}
use Rattle.tce_einsum.specs.Entries.{Labels, numbered}

-- the product of words
abbrev pub product : List ℕ → ℕ
product [] = 1
product (x ∷ xs) = wrapping_mul x (product xs)

-- the element of each operand at the numbers of its labels
abbrev pub elements : Elements → List (List ℕ) → Assignment → List ℕ
elements e operands a = numbered (λ k labels. word (e.cell k (map a labels))) 0 operands

-- the labels that do not stand in the output
abbrev pub other_labels : Labels → List ℕ
other_labels ls = filter (λ i. not (among ls.output i)) ls.all

-- at an assignment of the output's labels, the sum over all assignments of the other labels of the product of the operands
abbrev pub einsum_value : Elements → Labels → List (List ℕ) → Assignment → ℕ
einsum_value e ls operands a = sum_over e.extent (other_labels ls) (λ b. product (elements e operands b)) a
