use Rattle.std.proofs.Common.{arith, sym, subst, ◌∙◌}
use Rattle.std.proofs.lemmas.Result.{IfOk-from_err}
use Rattle.std.proofs.lemmas.Bool.{false≢true}
use Rattle.tce_outside.proofs.Causes.{failed_after, no_cause}
use Rattle.tce_sym.specs.Lines.{IsAcross}
use Rattle.tce_sym.proofs.whole.read_across.Goals as goal

pub overflow_add-from : goal.overflow_add-from
overflow_add-from g c = omega (arith, c.in_ok-from.ensures.some.1, c.requires.count, c.requires.room.count, c.requires.room.fits)

pub read_strip-requires-clause-room : goal.read_strip-requires-clause-room
read_strip-requires-clause-room g c = subst (IsAcross c.args.grid.now) (sym c.loop-from.auto.lines) c.requires.room

pub read_strip-requires-clause-count : goal.read_strip-requires-clause-count
read_strip-requires-clause-count g c = c.requires.count

pub read_strip-requires-clause-from : goal.read_strip-requires-clause-from
read_strip-requires-clause-from g c = omega (arith, c.loop-from-test.true)

pub read_strip-requires-clause-file : goal.read_strip-requires-clause-file
read_strip-requires-clause-file g c = λ x told. c.requires.file x (sym c.loop-from.invariant.files ∙ told)

pub returns-in_err-from-clause-read : goal.returns-in_err-from-clause-read
returns-in_err-from-clause-read g c = IfOk-from_err c.from_residual.result _ c.from_residual.ensures.0

pub returns-in_err-from-clause-same : goal.returns-in_err-from-clause-same
returns-in_err-from-clause-same g c = c.read_strip.ensures.same ∙ c.loop-from.invariant.files

pub returns-in_err-from-clause-fault_reported : goal.returns-in_err-from-clause-fault_reported
returns-in_err-from-clause-fault_reported g c = record {
  cause = failed_after (g.D.Disk.faults c.args.disk.now) (g.D.Disk.faults c.loop-from.disk) (g.D.Disk.faults c.read_strip.new.disk) c.loop-from.invariant.counted c.in_err-from.ensures.fault_reported.cause;
  quiet = λ fine. absurd (fine c.from_residual.ensures.0);
}

pub loop-from-smaller : goal.loop-from-smaller
loop-from-smaller g c = omega (arith, c.in_ok-from.ensures.some.0, c.loop-from-test.true)

pub loop-from-preserved : goal.loop-from-preserved
loop-from-preserved g c = record {
  from = c.in_ok-from.ensures.some.1;
  read = λ x told. c.in_ok-from.ensures.read x (c.loop-from.invariant.files ∙ told) (c.loop-from.invariant.read x told);
  files = c.in_ok-from.ensures.same ∙ c.loop-from.invariant.files;
  later = omega (arith, c.in_ok-from.ensures.fault_reported.cause.later, c.loop-from.invariant.later);
  counted = c.in_ok-from.ensures.fault_reported.quiet false≢true ∙ c.loop-from.invariant.counted;
}

pub returns-clause-same : goal.returns-clause-same
returns-clause-same g c = c.loop-from.invariant.files

pub returns-clause-fault_reported : goal.returns-clause-fault_reported
returns-clause-fault_reported g c = record {
  cause = no_cause (g.D.Disk.faults c.args.disk.now) (g.D.Disk.faults c.loop-from.disk) c.loop-from.invariant.counted false≢true;
  quiet = λ _. c.loop-from.invariant.counted;
}
