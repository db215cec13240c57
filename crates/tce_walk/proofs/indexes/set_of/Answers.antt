use Rattle.std.proofs.Common.{All, arith, ap, ◌∙◌, ◌<◌}
use Rattle.tce_space.specs.IndexSet.{has}
use Rattle.tce_walk.proofs.SummedLoops.{all_at, among_set}
use Rattle.tce_walk.proofs.indexes.set_of.Goals as goal

pub of_list-requires : goal.of_list-requires
of_list-requires c = all_at 24 c.args.loops.now (λ k l. c.loop-d.invariant k (omega (arith, l, c.loop-d-test.false)))

pub returns : goal.returns
returns c =
    let small : All (λ x. x < 24) c.args.loops.now = all_at 24 c.args.loops.now (λ k l. c.loop-d.invariant k (omega (arith, l, c.loop-d-test.false))) in
    record { same = c.of_list.ensures.value; inside = λ i. ap (λ n. has n i) c.of_list.ensures.value ∙ among_set c.args.loops.now i small }
