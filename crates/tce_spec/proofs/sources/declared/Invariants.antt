use Rattle.std.proofs.Common.{◌≡◌, map, take}
use Rattle.tce_spec.specs.PieceSpecification.{source}
use Rattle.tce_spec.proofs.sources.declared.Given as goal

abbrev pub invariant-loop-t : goal.invariant-loop-t
invariant-loop-t l = l.declarations ≡ record { space = l.spec.declarations.space; tensors = map (source l.spec) (take l.t-index l.numbers) }
