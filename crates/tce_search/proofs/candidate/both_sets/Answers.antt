use Rattle.std.proofs.Common.{◌∙◌, [], sym, append-nil}
use Rattle.tce_search.proofs.SetLists.{taken_further, all_taken}
use Rattle.tce_search.proofs.candidate.both_sets.Goals as goal

pub loop-set-init : goal.loop-set-init
loop-set-init c = c.new-sets.ensures

pub loop-set-preserved : goal.loop-set-preserved
loop-set-preserved c =
    taken_further [] c.args.left.now c.loop-set.sets.items c.push.new.self.items c.loop-set.set-index c.set-item.result c.loop-set-test.true c.set-item.is c.loop-set.invariant c.push.ensures.items

pub loop-set-2-init : goal.loop-set-2-init
loop-set-2-init c =
    all_taken [] c.args.left.now c.loop-set.sets.items c.loop-set.set-index c.loop-set-test.false c.loop-set.invariant ∙ sym (append-nil c.args.left.now)

pub loop-set-2-preserved : goal.loop-set-2-preserved
loop-set-2-preserved c =
    taken_further c.args.left.now c.args.right.now c.loop-set-2.sets.items c.push-in-loop-set-2.new.self.items c.loop-set-2.set-index c.set-item-in-loop-set-2.result c.loop-set-2-test.true c.set-item-in-loop-set-2.is c.loop-set-2.invariant
    c.push-in-loop-set-2.ensures.items

pub returns : goal.returns
returns c = all_taken c.args.left.now c.args.right.now c.loop-set-2.sets.items c.loop-set-2.set-index c.loop-set-2-test.false c.loop-set-2.invariant
