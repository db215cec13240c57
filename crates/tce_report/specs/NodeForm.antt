-- A node line as it is written, whatever tree it is about.
use Rattle.std.specs.Prelude.{◌≡◌, ℕ, ◌<◌, ◌≤◌, ⊤, IsTrue, List, ◌++◌, codes, Option, length}
use Rattle.std.specs.declared.option.Option.TheVariants.{Some, None}
use Rattle.std.specs.Fmt.{decimal}
use Rattle.std.specs.List.{list_all}
use Rattle.tce_space.specs.Limits.{cost_limit, max_indexes}
use Rattle.tce_space.specs.Name.{is_name}
use Rattle.tce_tree.specs.declared.node.Kind.{Kind}
use Rattle.tce_report.specs.Names.{listed}
use Rattle.tce_report.specs.NodeLine.{loops_written}

-- the names of fused indexes and a size
pub record ArrayForm : Type 0 where
  pub fused : List (List ℕ)
  pub size : ℕ

-- the number of a node, what it computes, the names of its loops, and what stands of its array, or None where it is the result
pub record Form : Type 0 where
  pub node : ℕ
  pub kind : Kind
  pub order : List (List ℕ)
  pub array : Option ArrayForm

-- at most so many names
pub record AreNames (limit : ℕ) (names : List (List ℕ)) : Type 0 where
  pub few : length names ≤ limit
  pub named : IsTrue (list_all is_name names)

abbrev pub IsArrayForm : Option ArrayForm → Type 0
IsArrayForm None = ⊤
IsArrayForm (Some array) = AreNames max_indexes array.fused × (array.size < cost_limit)

-- at most ten loops, at most 24 fused indexes, and numbers below their limit
pub record IsForm (form : Form) : Type 0 where
  pub node : form.node < cost_limit
  pub order : AreNames 10 form.order
  pub array : IsArrayForm form.array

abbrev pub array_text : Option ArrayForm → List ℕ
array_text None = codes " result"
array_text (Some array) = codes " fused " ++ (listed array.fused ++ (codes " size " ++ decimal array.size))

abbrev pub form_text : Form → List ℕ
form_text form = loops_written form.node form.kind form.order ++ array_text form.array

-- the line has one of the two forms of a node line
abbrev pub HasForm : List ℕ → Type 0
HasForm line = (form : Form) × IsForm form × (line ≡ form_text form)

-- the line has this form
abbrev pub IsFormOf : List ℕ → Form → Type 0
IsFormOf line form = IsForm form × (line ≡ form_text form)
