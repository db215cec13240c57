-- What the blocks of a band leave.
use Rattle.std.specs.Prelude.{◌≡◌, ℕ, ◌+◌, ◌*◌, ◌<◌, ◌≤◌, Option, List, drop, length, map, slice_get, slice_index}
use Rattle.std.specs.declared.option.Option.TheVariants.{Some}
use Rattle.std.specs.Option.{option_map}
use Rattle.tce_space.specs.Box.{product}
use Rattle.tce_space.specs.Space.{IndexSpace, extent_at, edge_at}
use Rattle.tce_tree.specs.ContractionTree.{ContractionTree}
use Rattle.tce_tree.specs.Value.{Assignment}
use Rattle.tce_block.specs.Parts.{Part, blocks}
use Rattle.tce_code.specs.Execution.{Setting, State}
use Rattle.tce_code.specs.Program.{Program}
use Rattle.tce_code.specs.declared.op.Op.{Op}
use Rattle.tce_walk.specs.BandSearch.{band_program}
use Rattle.tce_walk.specs.Machine.{after}
use Rattle.tce_walk.specs.PartRuns.{exec_part}
use Rattle.tce_walk.specs.Positions.{program_at}
use Rattle.tce_walk.specs.Touches.{touch_bound}
use Rattle.tce_walk.specs.declared.band_search.Band.{Band}

-- a part has as many dimensions as there are loops, and lies inside their extents
pub record FitsLoops (space : IndexSpace) (loops : List ℕ) (part : Part) : Type 0 where
  pub from : length part.from ≡ length loops
  pub len : length part.len ≡ length loops
  pub inside : (d : ℕ) → d < length loops → slice_index part.from d + slice_index part.len d ≤ extent_at space (slice_index loops d)

-- one of the blocks into which the edges cut the loops
pub record IsBlockOf (space : IndexSpace) (loops : List ℕ) (part : Part) : Type 0 where
  pub number : ℕ
  pub block : slice_get (blocks (map (extent_at space) loops) (map (edge_at space) loops)) number ≡ Some part

-- the dimensions of a part from the d-th on
abbrev pub part_from : Part → ℕ → Part
part_from part d = record { from = drop d part.from; len = drop d part.len }

-- the touches of a body that runs once for each place of a box
abbrev pub touches_in : IndexSpace → ContractionTree → Program → List ℕ → ℕ
touches_in space tree body len = product len * touch_bound space tree body

-- a run of a body at each assignment of a part
pub record IsPartRun (space : IndexSpace) (tree : ContractionTree) (s : Setting) (body : Program) (loops : List ℕ) (part : Part) (a : Assignment)
    (before now : Option State) (t u : ℕ) : Type 0 where
  pub state : now ≡ option_map (λ state. exec_part s body loops part state a) before
  pub touches : u ≤ t + touches_in space tree body part.len

-- the touches of a band
abbrev pub touches_of_band : IndexSpace → ContractionTree → List Op → Band → ℕ
touches_of_band space tree ops band = touches_in space tree (program_at ops band.at) (map (extent_at space) band.loops.0.items)

-- a run of a band
pub record IsBandRun (space : IndexSpace) (tree : ContractionTree) (s : Setting) (ops : List Op) (band : Band) (a : Assignment) (before now : Option State) (t u : ℕ) : Type 0 where
  pub state : now ≡ after s (band_program ops band) a before
  pub touches : u ≤ t + touches_of_band space tree ops band
