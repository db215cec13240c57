-- Loops of a block that run as one row: in each window a loop steps as far as all numbers of the next one.
use Rattle.std.specs.Prelude.{◌≡◌, ℕ, ◌+◌, ◌*◌, ◌<◌, ◌≤◌, List, drop, length, slice_index}
use Rattle.std.specs.List.{All}
use Rattle.tce_space.specs.Box.{product}
use Rattle.tce_exec.specs.declared.body.BodyBlock.{BodyBlock}
use Rattle.tce_exec.specs.declared.chain.RowBlock.{RowBlock}
use Rattle.tce_exec.specs.declared.links.Source.{Source}
use Rattle.tce_exec.specs.declared.links.Source.TheVariants.{Number, Words}
use Rattle.tce_exec.specs.declared.links.Link.{Link}

abbrev pub IsSourceAlike : ℕ → ℕ → ℕ → Source → Type 0
IsSourceAlike outer inner count (Number k) = Unit {0}
IsSourceAlike outer inner count (Words w) = slice_index w.steps outer ≡ count * slice_index w.steps inner

pub record IsLinkAlike (outer inner count : ℕ) (l : Link) : Type 0 where
  pub left : IsSourceAlike outer inner count l.left
  pub right : IsSourceAlike outer inner count l.right
  pub out : slice_index l.out.steps outer ≡ count * slice_index l.out.steps inner

-- from one loop on
abbrev pub AreAlike : BodyBlock → ℕ → List Link → Type 0
AreAlike b depth links =
    (d : ℕ) → depth ≤ d → d + 1 < length b.loops.now
    → All (IsLinkAlike (slice_index b.loops.now d) (slice_index b.loops.now (d + 1)) (slice_index b.len.now (d + 1))) links

-- the loops from the row's depth on are one row of so many turns
pub record IsRow (rows : RowBlock) (links : List Link) : Type 0 where
  pub inside : rows.row.depth < length rows.at.loops.now
  pub many : length rows.at.len.now ≡ length rows.at.loops.now
  pub alike : AreAlike rows.at rows.row.depth links
  pub count_is : rows.row.count ≡ product (drop rows.row.depth rows.at.len.now)
