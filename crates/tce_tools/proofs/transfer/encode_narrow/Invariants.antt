use Rattle.std.proofs.Common.{◌≡◌, ◌*◌, take}
use Rattle.std.specs.List.{flat_map}
use Rattle.tce_tools.proofs.Pieces.{low_bytes}
use Rattle.tce_tools.proofs.transfer.encode_narrow.Given as goal

abbrev pub invariant-loop-k : goal.invariant-loop-k
invariant-loop-k l = take (4 * l.k) l.bytes ≡ flat_map low_bytes (take l.k l.words)
