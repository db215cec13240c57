use Rattle.std.proofs.Common.{◌∷◌, [], ◌++◌, ◌∙◌, ap}
use Rattle.tce_search.proofs.SetLists.{taken_further, all_taken}
use Rattle.tce_search.proofs.candidate.with_set.Goals as goal

pub loop-set-init : goal.loop-set-init
loop-set-init c = c.new-all.ensures

pub loop-set-preserved : goal.loop-set-preserved
loop-set-preserved c =
    taken_further [] c.args.sets.now c.loop-set.all.items c.push.new.self.items c.loop-set.set-index c.set-item.result c.loop-set-test.true c.set-item.is c.loop-set.invariant c.push.ensures.items

pub returns : goal.returns
returns c =
    c.push-2.ensures.items ∙ ap (λ xs. xs ++ c.args.own ∷ []) (all_taken [] c.args.sets.now c.loop-set.all.items c.loop-set.set-index c.loop-set-test.false c.loop-set.invariant)
