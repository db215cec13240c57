use Rattle.std.proofs.Common.{◌+◌, ◌*◌, ap, ◌∙◌, arith}
use Rattle.std.proofs.lemmas.List.{get_or_default}
use Rattle.tce_walk.proofs.CheckedValues.{marks_after, sum_shaped}
use Rattle.tce_walk.proofs.LeftValues.{leaves_sum}
use Rattle.tce_walk.specs.Positions.{program_at}
use Rattle.tce_walk.specs.Touches.{block_count}
use Rattle.tce_walk.proofs.values.check_sum.Goals as goal

pub find_tail-requires-clause-shaped : goal.find_tail-requires-clause-shaped
find_tail-requires-clause-shaped c =
    sum_shaped c.args.walk.now.tree.now c.args.walk.now.ops.now c.args.at c.args.v c.in-Open.i _ c.if-at-walk.false c.in-Open.is c.requires.code

pub returns : goal.returns
returns c = record {
  loop_over = c.in-Open.i;
  opens = λ d. get_or_default c.args.walk.now.ops.now c.args.at d _ c.if-at-walk.false ∙ c.in-Open.is;
  within = c.if-at-walk.false;
  leaves = leaves_sum c.args.walk.now.space.now c.args.walk.now.tree.now c.args.walk.now.fusion.now.0.items c.args.carrier c.args.v c.in-Open.i (program_at c.args.walk.now.ops.now (c.args.at + 1))
      c.in_ok-found.found.tail _ _ _ c.if-u-carrier.false c.if-v-carrier.false (c.in_ok-found.ensures).0 (c.adds_up.ensures c.if-not-adds_up.false)
      (marks_after c.args.right.now c.in_ok-found.found.tail.node c.args.v (omega (arith, c.told-right, c.count-nodes.ensures.value, c.count-nodes.ensures.limit, (c.in_ok-found.ensures).0.known))
      (omega (arith, c.told-right, c.count-nodes.ensures.value, c.count-nodes.ensures.limit, c.requires.code.shape.0.0)))
      (ap (λ n. 3 * n) ((c.in_ok-blocks.ensures).0 ∙ ap (block_count c.args.walk.now.space.now) c.as_slice.ensures.value));
  ends = (c.in_ok-found.ensures).1;
}
