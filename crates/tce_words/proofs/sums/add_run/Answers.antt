use Rattle.std.proofs.Common.{arith}
use Rattle.tce_base.specs.Word.{wrapping_add}
use Rattle.tce_words.proofs.RunSteps.{one_before_other, run_joined}
use Rattle.tce_words.proofs.sums.add_run.Goals as goal

pub add_contiguous-requires-clause-apart : goal.add_contiguous-requires-clause-apart
add_contiguous-requires-clause-apart c = one_before_other c.args.out.first c.args.out.step c.args.a.first c.args.a.step c.args.n c.in-1-eq1.is-0 c.in-1-eq1.is-1 (omega arith) c.requires.apart

pub returns-in-1-eq1 : goal.returns-in-1-eq1
returns-in-1-eq1 c =
    run_joined wrapping_add c.args.out.first c.args.out.step c.args.out.first c.args.out.step c.args.a.first c.args.a.step c.args.n c.args.words.now c.add_contiguous.new.words c.add_contiguous.ensures
    c.in-1-eq1.is-0 c.in-1-eq1.is-0 c.in-1-eq1.is-1 (omega arith) c.requires.out c.requires.out c.requires.a
