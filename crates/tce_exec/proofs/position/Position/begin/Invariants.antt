use Rattle.std.proofs.Common.{drop}
use Rattle.tce_exec.specs.Positions.{IsPosition}
use Rattle.tce_exec.proofs.FirstTurn.{AreFirst}
use Rattle.tce_exec.proofs.position.Position.begin.Given as goal

abbrev pub invariant-loop-d : goal.invariant-loop-d
invariant-loop-d l = record {
  first : AreFirst l.fn.self.numbers (drop l.d l.loops) (drop l.d l.from) l.self.numbers;
  position : IsPosition l.space l.self;
}
