-- Rows of a body: the turns of its last loop, over windows that begin where the row does.
use Rattle.std.specs.Prelude.{◌≡◌, ℕ, ◌+◌, ◌-◌, ◌*◌, ◌<◌, ◌≤◌, List, length, slice_index, slice_set}
use Rattle.std.specs.List.{fold}
use Rattle.tce_code.specs.Execution.{repeated}
use Rattle.tce_words.specs.Runs.{IsBeside}
use Rattle.tce_exec.specs.Links.{word_along, IsAlongWithin}
use Rattle.tce_exec.specs.Operands.{combined}
use Rattle.tce_exec.specs.declared.links.Source.{Source}
use Rattle.tce_exec.specs.declared.links.Source.TheVariants.{Number, Words}
use Rattle.tce_exec.specs.declared.links.Link.{Link}
use Rattle.tce_exec.specs.declared.window.Window.{Window}

-- the words after a link at the turn whose number of an index is so far from the row's first
abbrev pub put_along : ℕ → ℕ → List ℕ → Link → List ℕ
put_along index by words l =
    slice_set words (l.out.first + by * slice_index l.out.steps index) (combined l.kind (word_along words index by l.left) (word_along words index by l.right))

-- after all links, one after the other
abbrev pub after_turn : List Link → ℕ → ℕ → List ℕ → List ℕ
after_turn links index by words = fold (put_along index by) words links

-- after so many turns
abbrev pub after_row : List Link → ℕ → ℕ → List ℕ → List ℕ
after_row links index count words = repeated count (after_turn links index) words

-- where a link's words stand
pub record IsLinkAlong (count index by : ℕ) (l : Link) : Type 0 where
  pub left : IsAlongWithin count index by l.left
  pub right : IsAlongWithin count index by l.right
  pub out : l.out.first + by * slice_index l.out.steps index < count

-- along a row of so many turns the words of two windows follow one another, and those of one stand before or behind all of the other
pub record IsFlat (index count : ℕ) (out w : Window) : Type 0 where
  pub out_step : slice_index out.steps index ≡ 1
  pub step : slice_index w.steps index ≡ 1
  pub some : 0 < count
  pub beside : IsBeside out.first count w.first count

-- ---- links that begin where an index is further

abbrev pub window_along : ℕ → ℕ → Window → Window
window_along index by w = record { first = w.first + by * slice_index w.steps index; steps = w.steps }

abbrev pub source_along : ℕ → ℕ → Source → Source
source_along index by (Number k) = Number k
source_along index by (Words w) = Words (window_along index by w)

abbrev pub link_along : ℕ → ℕ → Link → Link
link_along index by l = record { kind = l.kind; left = source_along index by l.left; right = source_along index by l.right; out = window_along index by l.out }

-- ---- and where it is less far

abbrev pub window_before : ℕ → ℕ → Window → Window
window_before index by w = record { first = w.first - by * slice_index w.steps index; steps = w.steps }

abbrev pub source_before : ℕ → ℕ → Source → Source
source_before index by (Number k) = Number k
source_before index by (Words w) = Words (window_before index by w)

abbrev pub link_before : ℕ → ℕ → Link → Link
link_before index by l = record { kind = l.kind; left = source_before index by l.left; right = source_before index by l.right; out = window_before index by l.out }

abbrev pub IsSourceFar : ℕ → ℕ → Source → Type 0
IsSourceFar index by (Number k) = Unit {0}
IsSourceFar index by (Words w) = by * slice_index w.steps index ≤ w.first

-- the windows begin at least so far
pub record IsLinkFar (index by : ℕ) (l : Link) : Type 0 where
  pub left : IsSourceFar index by l.left
  pub right : IsSourceFar index by l.right
  pub out : by * slice_index l.out.steps index ≤ l.out.first
