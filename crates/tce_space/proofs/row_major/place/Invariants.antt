use Rattle.std.proofs.Common.{drop}
use Rattle.tce_space.specs.Box.{place}
use Rattle.tce_space.proofs.Boxes.{IsPlaced}
use Rattle.tce_space.proofs.row_major.place.Given as goal

abbrev pub invariant-loop-d : goal.invariant-loop-d
invariant-loop-d l = IsPlaced (drop l.d l.extents) (drop l.d l.coords) l.place (place l.extents l.coords)
