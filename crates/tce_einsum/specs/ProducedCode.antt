-- What the values of the code that prints a produced text stand for.
use Rattle.std.specs.Prelude.{◌<◌, ⊤, ℕ, ◌+◌, ◌*◌, nat_le, List, [], ◌∷◌, ◌++◌, fold, length, map}
use Rattle.std.specs.List.{All}
use Rattle.tce_tree.specs.ContractionTree.{ContractionTree, operations}
use Rattle.tce_grammar.specs.Tokens.{Token, symbol}
use Rattle.tce_grammar.specs.Grammar.{Written, spelling, level}
use Rattle.tce_grammar.specs.Canonical.{written_of, grouped_if}
use Rattle.tce_einsum.specs.Text as text
use Rattle.tce_einsum.specs.Entries.{entry_at}
use Rattle.tce_einsum.specs.EntriesCode.{trees_of}
use Rattle.tce_einsum.specs.Produced as produced
use Rattle.tce_einsum.specs.Produced.{formula_of}
use Rattle.tce_einsum.specs.declared.entries.Node.{Node}
use Rattle.tce_einsum.specs.declared.ranges.Tiled.{Tiled}
use Rattle.tce_einsum.specs.declared.formula.Task.{Task}
use Rattle.tce_einsum.specs.declared.formula.Task.TheVariants.{Whole, RightOperand, Symbol}

abbrev pub tiled : Tiled → produced.Tiled
tiled t = record { extent = t.extent.now; edge = t.edge.now }

abbrev pub tileds : List Tiled → List produced.Tiled
tileds ts = map tiled ts

-- the tree of a node, and how it is written
abbrev pub tree_at : List Node → ℕ → ContractionTree
tree_at nodes place = entry_at (trees_of nodes) place

abbrev pub written_at : List text.Size → List Node → ℕ → Written
written_at sizes nodes place = written_of (formula_of sizes (tree_at nodes place))

-- what a task prints; on the right of a product stands a product in parentheses
abbrev pub task_tokens : List text.Size → List Node → Task → List Token
task_tokens sizes nodes (Whole place) = spelling (written_at sizes nodes place)
task_tokens sizes nodes (RightOperand place) =
    spelling (grouped_if (nat_le (level (written_at sizes nodes place)) 2) (written_at sizes nodes place))
task_tokens sizes nodes (Symbol byte) = symbol byte ∷ []

-- what the tasks of a stack print, the last one first
abbrev pub pending : List text.Size → List Node → List Task → List Token
pending sizes nodes stack = fold (λ behind task. task_tokens sizes nodes task ++ behind) [] stack

-- the node of a task is there
abbrev pub IsTask : List Node → Task → Type 0
IsTask nodes (Whole place) = place < length nodes
IsTask nodes (RightOperand place) = place < length nodes
IsTask nodes (Symbol byte) = ⊤

abbrev pub AreTasks : List Node → List Task → Type 0
AreTasks nodes stack = All (IsTask nodes) stack

-- falls with each task that is done
abbrev pub weight : List Node → Task → ℕ
weight nodes (Whole place) = 5 * operations (tree_at nodes place) + 1
weight nodes (RightOperand place) = 5 * operations (tree_at nodes place) + 3
weight nodes (Symbol byte) = 1

abbrev pub stack_weight : List Node → List Task → ℕ
stack_weight nodes stack = fold (λ all task. all + weight nodes task) 0 stack
