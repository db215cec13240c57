-- The blocks of a box, group by group: the box of their numbers is cut into parts, and the blocks of each part follow one another.
use Rattle.std.specs.Prelude.{◌≡◌, ℕ, ◌+◌, List, [], ◌∷◌, ◌++◌, length, map}
use Rattle.std.specs.List.{All, flat_map}
use Rattle.tce_space.specs.Box.{IsInside}
use Rattle.tce_space.specs.Tiling.{counts_along}
use Rattle.tce_block.specs.Parts.{Part, block, blocks}
use Rattle.tce_block.specs.Numbers.{AreWithin}
use Rattle.tce_block.specs.Cuts.{part_of}
use Rattle.tce_block.specs.declared.groups.GroupedBlocks.TheInside.{Inside}

-- coordinates that are counted from others on
abbrev pub shifted : List ℕ → List ℕ → List ℕ
shifted [] xs = xs
shifted (f ∷ from) [] = []
shifted (f ∷ from) (x ∷ xs) = (f + x) ∷ shifted from xs

abbrev pub ones : List ℕ → List ℕ
ones ns = map (λ n. 1) ns

-- the numbers of a group, counted from its first
abbrev pub numbers_of : Part → List Part
numbers_of group = blocks group.len (ones group.len)

abbrev pub paired : Part → List Part → List (Part × Part)
paired group numbers = map (λ n. (group, n)) numbers

-- each group with each of its numbers
abbrev pub pairs_of : List Part → List (Part × Part)
pairs_of groups = flat_map (λ g. paired g (numbers_of g)) groups

abbrev pub pairs_left : Part → List Part → List Part → List (Part × Part)
pairs_left group numbers groups = paired group numbers ++ pairs_of groups

-- the number of a pair's block
abbrev pub number_at : Part × Part → List ℕ
number_at pair = shifted pair.0.from pair.1.from

abbrev pub block_at : List ℕ → List ℕ → Part × Part → Part
block_at extents edges pair = block extents edges (number_at pair)

-- the blocks of a box, where the box of their numbers is cut at the multiples of the sizes
abbrev pub grouped_blocks : List ℕ → List ℕ → List ℕ → List Part
grouped_blocks extents edges sizes = map (block_at extents edges) (pairs_of (blocks (counts_along extents edges) sizes))

-- what the program keeps of the blocks that are still to come
abbrev pub grouped_left : Inside → List Part
grouped_left b = map (block_at b.extents.items b.edges.items) (pairs_left (part_of b.group) b.numbers b.groups)

-- the lengths of a group are within the limits
abbrev pub HasLengths : Part → Type 0
HasLengths group = AreWithin group.len (ones group.len)

-- a pair's number is that of a block
pub record IsPair (counts : List ℕ) (pair : Part × Part) : Type 0 where
  pub long : length pair.0.from ≡ length pair.1.from
  pub inside : IsInside counts (number_at pair)

pub record IsGrouped (b : Inside) : Type 0 where
  pub within : AreWithin b.extents.items b.edges.items
  pub groups : All HasLengths b.groups
  pub pairs : All (IsPair (counts_along b.extents.items b.edges.items)) (pairs_left (part_of b.group) b.numbers b.groups)
