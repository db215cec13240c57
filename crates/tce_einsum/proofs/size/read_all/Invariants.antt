use Rattle.std.proofs.Common.{◌≡◌, ◌++◌, length}
use Rattle.std.specs.Prelude.{option_map}
use Rattle.tce_fields.specs.Reading.{texts}
use Rattle.tce_einsum.specs.Code.{sizes}
use Rattle.tce_einsum.specs.Reading.{sizes_in}
use Rattle.tce_einsum.proofs.size.read_all.Given as goal

abbrev pub invariant-loop-rest : goal.invariant-loop-rest
invariant-loop-rest l = sizes_in (texts l.parts) ≡ option_map (λ behind. sizes l.found.items ++ behind) (sizes_in (texts l.rest))

abbrev pub decreases-loop-rest : goal.decreases-loop-rest
decreases-loop-rest l = length l.rest
