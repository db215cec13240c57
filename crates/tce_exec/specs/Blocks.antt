-- Blocks of the loops of a tail.
use Rattle.std.specs.Prelude.{◌≡◌, ℕ, false, List, map, slice_get, Some}
use Rattle.tce_space.specs.Space.{IndexSpace, extent_at, edge_at}
use Rattle.tce_block.specs.Parts.{Part, blocks}
use Rattle.tce_tree.specs.Value.{Assignment}
use Rattle.tce_tree.specs.WellFormed.{among}
use Rattle.tce_block.specs.Places.{AreWithin, AreApart}
use Rattle.tce_walk.specs.declared.machine.Tail.{Tail}
use Rattle.tce_exec.specs.Loops.{numbers_along, place_along}
use Rattle.tce_exec.specs.declared.window.Window.{Window}

abbrev pub loops_of : Tail → List ℕ
loops_of tail = tail.loops.0.items

-- the blocks into which the edges of their indexes cut the loops
abbrev pub blocks_of : IndexSpace → Tail → List Part
blocks_of space tail = blocks (map (extent_at space) (loops_of tail)) (map (edge_at space) (loops_of tail))

-- the part is one of them
abbrev pub IsBlockOf : IndexSpace → Tail → Part → Type 0
IsBlockOf space tail part = (k : ℕ) × (slice_get (blocks_of space tail) k ≡ Some part)

-- the numbers of all other indexes are those of the loops round the tail
abbrev pub AreOutside : List ℕ → Assignment → Assignment → Type 0
AreOutside loops a first = (i : ℕ) → among loops i ≡ false → first i ≡ a i

-- the words of a window are among `count` words in all turns of a block
abbrev pub IsWithin : ℕ → Tail → Part → Window → Type 0
IsWithin count tail part w = AreWithin count (numbers_along (loops_of tail) part.len (loops_of tail)) (place_along w (loops_of tail))

-- two windows have no word in common in the turns of a block
abbrev pub HaveNone : Tail → Part → Window → Window → Type 0
HaveNone tail part w other = AreApart (numbers_along (loops_of tail) part.len (loops_of tail)) (place_along w (loops_of tail)) (place_along other (loops_of tail))
