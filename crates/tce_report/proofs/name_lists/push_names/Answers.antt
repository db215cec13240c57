use Rattle.std.proofs.Common.{arith, get_or}
use Rattle.tce_tree.proofs.Lists.{below_tail}
use Rattle.tce_report.proofs.Lists.{name_pushed, longer_by_one}
use Rattle.tce_report.proofs.name_lists.push_names.Goals as goal

pub push_name-requires-in-loop-index-clause-declared : goal.push_name-requires-in-loop-index-clause-declared
push_name-requires-in-loop-index-clause-declared c =
    below_tail _ c.args.indexes.now c.in-Some.first.now c.in-Some.rest.now c.in-Some.ensures.cases.0 c.requires.declared _ _ c.loop-index-test.true

pub loop-index-preserved : goal.loop-index-preserved
loop-index-preserved c = record {
  names =
      name_pushed c.args.space.now (get_or c.args.indexes.now 0 0) c.in-Some.rest.now c.loop-index.index-index 0 c.args.line.now.bytes _ _ _ c.loop-index-test.true c.loop-index.invariant.names
      (c.push-in-loop-index.ensures.ascii (omega arith)) c.push_name-in-loop-index.ensures.name;
  length = omega (arith, c.loop-index.invariant.length, c.push_name-in-loop-index.ensures.length, longer_by_one _ _ _ (c.push-in-loop-index.ensures.ascii (omega arith)));
}
