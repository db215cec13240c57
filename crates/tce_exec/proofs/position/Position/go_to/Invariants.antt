use Rattle.std.proofs.Common.{◌≡◌, ℕ, ◌<◌, length, slice_index}
use Rattle.tce_exec.specs.Positions.{IsPosition}
use Rattle.tce_exec.proofs.position.Position.go_to.Given as goal

abbrev pub invariant-loop-i : goal.invariant-loop-i
invariant-loop-i l = record {
  each : length l.self.numbers ≡ 24;
  told : length l.numbers ≡ 24;
  position : IsPosition l.space l.self;
  there : (j : ℕ) → j < l.i → slice_index l.self.numbers j ≡ slice_index l.numbers j;
}
