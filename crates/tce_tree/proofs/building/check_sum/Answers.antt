use Rattle.std.proofs.Common.{arith, sym, ap, ◌∙◌, Some}
use Rattle.tce_tree.specs.Faults.{sum_over_absent}
use Rattle.tce_tree.proofs.FaultLaws.{sum_fault_at, sum_fault_none}
use Rattle.tce_tree.proofs.building.check_sum.Goals as goal

pub returns-then-not-has-clause-fault : goal.returns-then-not-has-clause-fault
returns-then-not-has-clause-fault c =
    sum_fault_at c.args.space.now c.args.indexes.now c.args.dims c.loop-index.index-index c.loop-index-test.true c.loop-index.invariant (sym c.has.ensures ∙ c.if-not-has.true)
    ∙ ap (λ name. Some (sum_over_absent name)) (sym c.index_name.ensures.name)

pub returns-clause-ok : goal.returns-clause-ok
returns-clause-ok c = sum_fault_none _ _ _ (λ j m. c.loop-index.invariant j (omega arith))
