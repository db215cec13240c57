use Rattle.std.proofs.Common.{arith, get_or, subst, sym}
use Rattle.tce_space.specs.Space.{IsDeclared}
use Rattle.tce_report.proofs.Lists.{longer_by_one}
use Rattle.tce_cert.proofs.Sets.{class_pushed, holds_of_tail}
use Rattle.tce_command.proofs.trouble_line.push_classes.Goals as goal

pub push_set-requires-in-loop-class-clause-declared : goal.push_set-requires-in-loop-class-clause-declared
push_set-requires-in-loop-class-clause-declared c =
    subst (IsDeclared c.args.space.now) (sym c.class-item.is)
    (holds_of_tail (IsDeclared c.args.space.now) c.args.classes.now c.in-Some.first.now c.in-Some.rest.now c.in-Some.ensures.cases.0 c.requires.declared c.loop-class.class-index c.class-item.result
    c.loop-class-test.true)

pub loop-class-preserved : goal.loop-class-preserved
loop-class-preserved c = record {
  text =
      class_pushed c.args.space.now (get_or c.args.classes.now 0 0) c.in-Some.rest.now c.loop-class.class-index c.class-item.result c.args.line.now.bytes _ _ _ c.loop-class-test.true c.class-item.is
      c.loop-class.invariant.text (c.push-in-loop-class.ensures.ascii (omega arith)) c.push_set-in-loop-class.ensures.text;
  length = omega (arith, c.loop-class.invariant.length, c.push_set-in-loop-class.ensures.length, longer_by_one _ _ _ (c.push-in-loop-class.ensures.ascii (omega arith)));
}
