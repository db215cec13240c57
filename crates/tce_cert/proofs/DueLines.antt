-- Lines that are not due.
use Rattle.std.proofs.Common.{◌≡◌, ◌<◌, ℕ, List, Some, None, ap, sym, ◌∙◌}
use Rattle.std.proofs.lemmas.Option.{none-some, same_Some}
use Rattle.tce_space.specs.Space.{IndexSpace, IsSpace}
use Rattle.tce_tree.specs.ContractionTree.{ContractionTree, operations, node_dims}
use Rattle.tce_tree.specs.FlatTree.{IsTree}
use Rattle.tce_tree.specs.WellFormed.{IsDeclaredTree}
use Rattle.tce_fields.specs.Reading.{GivesExactly}
use Rattle.tce_report.specs.NodeForm as nodes
use Rattle.tce_report.specs.NodeLine.{Said, Says}
use Rattle.tce_report.specs.ReadLine.{form_saying}
use Rattle.tce_report.proofs.Reading.{saying_form, saying_text}
use Rattle.tce_cert.specs.Forms.{StatesMemory, StatesTable, StatesRow}
use Rattle.tce_cert.specs.Lines.{opening_line, end_line}
use Rattle.tce_cert.specs.Faults.{Due, opening, node, memory, table, row, ending, IsDue}

-- a line that says something of a node has the form of such a line
pub says_form : (space : IndexSpace) (tree : ContractionTree) (v : ℕ) (line : List ℕ) (s : Said) → IsSpace space → IsTree tree → IsDeclaredTree space tree → v < operations tree
    → Says space tree v line s → nodes.HasForm line
says_form space tree v line s is_space is_tree declared inside says =
    (form_saying space tree v s, saying_form space tree v s is_space is_tree declared inside says.allowed, says.text_is ∙ sym (saying_text space tree v s))

pub no_opening : (space : IndexSpace) (tree : ContractionTree) (line : List ℕ) → (line ≡ opening_line → ⊥) → (more : List Due) → IsDue space tree opening line more → ⊥
no_opening space tree line other more due = other due.0

pub no_end : (space : IndexSpace) (tree : ContractionTree) (line : List ℕ) → (line ≡ end_line → ⊥) → (more : List Due) → IsDue space tree ending line more → ⊥
no_end space tree line other more due = other due.0

pub no_node : (space : IndexSpace) (tree : ContractionTree) (v : ℕ) (line : List ℕ) → GivesExactly None (Says space tree v line) → (more : List Due) → IsDue space tree (node v) line more → ⊥
no_node space tree v line refused more due = none-some due.0.0 ((refused due.0.0).1 due.0.1)

pub no_memory : (space : IndexSpace) (tree : ContractionTree) (line : List ℕ) → GivesExactly None (StatesMemory line) → (more : List Due) → IsDue space tree memory line more → ⊥
no_memory space tree line refused more due = none-some due.0.0 ((refused due.0.0).1 due.0.1)

pub no_table : (space : IndexSpace) (tree : ContractionTree) (v : ℕ) (line : List ℕ) → GivesExactly None (λ (s : ℕ × ℕ). StatesTable line s.0 s.1)
    → (more : List Due) → IsDue space tree (table v) line more → ⊥
no_table space tree v line refused more due = none-some (v, due.0) ((refused (v, due.0)).1 due.1.0)

pub other_table : (space : IndexSpace) (tree : ContractionTree) (v of_node rows : ℕ) (line : List ℕ) → GivesExactly (Some (of_node, rows)) (λ (s : ℕ × ℕ). StatesTable line s.0 s.1)
    → (of_node ≡ v → ⊥) → (more : List Due) → IsDue space tree (table v) line more → ⊥
other_table space tree v of_node rows line given other more due =
    other (ap (λ (s : ℕ × ℕ). s.0) (same_Some (of_node, rows) (v, due.0) ((given (v, due.0)).1 due.1.0)))

pub no_row : (space : IndexSpace) (tree : ContractionTree) (v : ℕ) (line : List ℕ) → GivesExactly None (StatesRow space (node_dims tree v) line)
    → (more : List Due) → IsDue space tree (row v) line more → ⊥
no_row space tree v line refused more due = none-some due.0.0 ((refused due.0.0).1 due.0.1)
