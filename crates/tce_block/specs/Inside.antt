-- What the program keeps of the blocks that are still to come.
use Rattle.std.specs.Prelude.{◌≡◌, if◌then◌else◌, List, [], drop}
use Rattle.tce_space.specs.Box.{place, IsInside}
use Rattle.tce_space.specs.Tiling.{counts_along}
use Rattle.tce_block.specs.Parts.{Part, blocks}
use Rattle.tce_block.specs.Numbers.{AreWithin}
use Rattle.tce_block.specs.declared.blocks.Blocks.TheInside.{Inside}

-- the blocks from the one with the next numbers on, or none after the last
abbrev pub blocks_left : Inside → List Part
blocks_left b = if b.finished then [] else drop (place (counts_along b.extents.items b.edges.items) b.numbers.items) (blocks b.extents.items b.edges.items)

-- the numbers are those of a block, and extents and edges are within their limits
pub record IsRight (b : Inside) : Type 0 where
  pub counts : b.counts.items ≡ counts_along b.extents.items b.edges.items
  pub inside : IsInside b.counts.items b.numbers.items
  pub within : AreWithin b.extents.items b.edges.items
