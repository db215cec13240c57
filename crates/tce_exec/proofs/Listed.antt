-- Blocks in a list, of which some have run.
use Rattle.std.proofs.Common.{◌≡◌, ◌≤◌, ℕ, zero, suc, List, [], ◌∷◌, map, length, drop, slice_get, Option, Some, None, ap, ◌∙◌}
use Rattle.std.specs.Option.{option_map}
use Rattle.std.proofs.lemmas.Option.{slice_get-map, slice_get_past}
use Rattle.tce_block.specs.Cuts.{part_of}
use Rattle.tce_block.specs.Parts.{Part}
use Rattle.tce_block.specs.declared.cut.Block.{Block}

first_left : (parts : List Part) (k : ℕ) (o : Option Part) → slice_get parts k ≡ o → slice_get (drop k parts) 0 ≡ o
first_left parts zero o is = is
first_left [] (suc k) o is = is
first_left (p ∷ parts) (suc k) o is = first_left parts k o is

-- the block with this number is the first that is left
pub block_left : (list : List Block) (k : ℕ) (block : Block) → slice_get list k ≡ Some block → slice_get (drop k (map part_of list)) 0 ≡ Some (part_of block)
block_left list k block is = first_left (map part_of list) k (Some (part_of block)) (slice_get-map part_of list k ∙ ap (option_map part_of) is)

-- none is left behind the last
pub none_left : (list : List Block) (k : ℕ) → length list ≤ k → slice_get (drop k (map part_of list)) 0 ≡ None
none_left list k past = first_left (map part_of list) k None (slice_get-map part_of list k ∙ ap (option_map part_of) (slice_get_past list k past))
