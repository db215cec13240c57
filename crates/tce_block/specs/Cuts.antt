-- Lists of cuts, and the blocks that the program gives.
use Rattle.std.specs.Prelude.{ℕ, ◌<◌, ◌≤◌, ◌^◌, List, map}
use Rattle.tce_block.specs.Parts.{Part}
use Rattle.tce_block.specs.declared.cut.Cut.{Cut}
use Rattle.tce_block.specs.declared.cut.Block.{Block}

-- the limits of extents and edges
pub record IsCut (c : Cut) : Type 0 where
  pub limit : c.extent < 2 ^ 32
  pub edge_some : 0 < c.edge
  pub edge_limit : c.edge ≤ c.extent

abbrev pub extents_of : List Cut → List ℕ
extents_of cuts = map (λ (c : Cut). c.extent) cuts

abbrev pub edges_of : List Cut → List ℕ
edges_of cuts = map (λ (c : Cut). c.edge) cuts

-- the part of the box that a block stands for
abbrev pub part_of : Block → Part
part_of b = record { from = b.from.items; len = b.len.items }
