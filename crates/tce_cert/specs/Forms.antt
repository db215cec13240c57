-- The forms of the lines of certificates but those of nodes. Any name and any number below the limit may stand in them.
use Rattle.std.specs.Prelude.{◌≡◌, ◌≢◌, ℕ, ◌<◌, ◌≤◌, ◌⊎◌, List, [], ◌++◌, map, length, codes}
use Rattle.std.specs.Fmt.{decimal}
use Rattle.std.specs.List.{All}
use Rattle.tce_space.specs.Limits.{cost_limit, max_loops}
use Rattle.tce_space.specs.IndexSet.{IsIndexSet, IsWithin}
use Rattle.tce_space.specs.Space.{IndexSpace}
use Rattle.tce_fields.specs.Fields.{AreParts, AreListed}
use Rattle.tce_fusion.specs.StateClasses.{IsNesting, IsInhabited}
use Rattle.tce_fusion.specs.Row.{Row}
use Rattle.tce_nesting.specs.Plan.{LiesWithin, RowFits}
use Rattle.tce_report.specs.NodeLine.{set_text}
use Rattle.tce_cert.specs.Lines.{opening_line, memory_line, table_line, cost_line, classes_text, row_line, end_line}

-- the numbers of certificates are below this
abbrev pub IsLimited : ℕ → Type 0
IsLimited n = n < cost_limit

pub record StatesMemory (line : List ℕ) (memory : ℕ) : Type 0 where
  pub limit : IsLimited memory
  pub text_is : line ≡ memory_line memory

pub record StatesTable (line : List ℕ) (v rows : ℕ) : Type 0 where
  pub node_limit : IsLimited v
  pub rows_limit : IsLimited rows
  pub text_is : line ≡ table_line v rows

-- two numbers with a blank between them
pub record StatesNumbers (text : List ℕ) (first second : ℕ) : Type 0 where
  pub first_limit : IsLimited first
  pub second_limit : IsLimited second
  pub text_is : text ≡ decimal first ++ (codes " " ++ decimal second)

pub record StatesCost (line : List ℕ) (cost : ℕ) (classes : List ℕ) : Type 0 where
  pub limit : IsLimited cost
  pub text_is : line ≡ cost_line cost classes

-- a number, a blank, and what stands behind them
pub record BeginsWithCost (text : List ℕ) (cost : ℕ) (classes : List ℕ) : Type 0 where
  pub limit : IsLimited cost
  pub text_is : text ≡ decimal cost ++ (codes " " ++ classes)

-- some names with commas between them
pub record IsClassText (text : List ℕ) : Type 0 where
  pub names : List (List ℕ)
  pub listed : AreListed 24 text names
  pub some : names ≢ []

-- at most ten classes with `/` between them, or none
abbrev pub IsClassesText : List ℕ → Type 0
IsClassesText text = (text ≡ codes "-") ⊎ ((parts : List (List ℕ)) × AreParts 47 10 text parts × All IsClassText parts)

abbrev pub HasMemoryForm : List ℕ → Type 0
HasMemoryForm line = (memory : ℕ) × StatesMemory line memory

abbrev pub HasTableForm : List ℕ → Type 0
HasTableForm line = (v : ℕ) × ((rows : ℕ) × StatesTable line v rows)

abbrev pub HasRowForm : List ℕ → Type 0
HasRowForm line = (cost : ℕ) × ((classes : List ℕ) × StatesCost line cost classes × IsClassesText classes)

-- the line has one of the five forms
abbrev pub HasForm : List ℕ → Type 0
HasForm line = (line ≡ opening_line) ⊎ (HasMemoryForm line ⊎ (HasTableForm line ⊎ (HasRowForm line ⊎ (line ≡ end_line))))

-- a set has members, all among the dims
pub record IsPart (class dims : ℕ) : Type 0 where
  pub inhabited : IsInhabited class
  pub within : IsWithin class dims

-- a class of these dims
pub record StatesClass (space : IndexSpace) (dims : ℕ) (text : List ℕ) (class : ℕ) : Type 0 where
  pub is_set : IsIndexSet class
  pub part : IsPart class dims
  pub text_is : text ≡ set_text space class

-- disjoint classes of these dims, each with its text
pub record AreClasses (space : IndexSpace) (dims : ℕ) (texts : List (List ℕ)) (classes : List ℕ) : Type 0 where
  pub nesting : IsNesting classes
  pub within : All (LiesWithin dims) classes
  pub texts_are : texts ≡ map (set_text space) classes

-- disjoint classes of these dims
pub record StatesClasses (space : IndexSpace) (dims : ℕ) (text : List ℕ) (classes : List ℕ) : Type 0 where
  pub few : length classes ≤ max_loops
  pub nesting : IsNesting classes
  pub within : All (LiesWithin dims) classes
  pub text_is : text ≡ classes_text space classes

-- a row of a node with these dims
pub record StatesRow (space : IndexSpace) (dims : ℕ) (line : List ℕ) (row : Row) : Type 0 where
  pub fits : RowFits dims row
  pub few : length row.classes ≤ max_loops
  pub nesting : IsNesting row.classes
  pub text_is : line ≡ row_line space row
