use Rattle.std.proofs.Common.{◌≡◌, sym, ◌∙◌, ap, subst, arith}
use Rattle.tce_nesting.specs.Subsets.{AreSubsets}
use Rattle.tce_nesting.proofs.SubsetLists.{subsets_below, room_to_widen, are_subsets}
use Rattle.tce_nesting.proofs.subset_list.subsets.Goals as goal

pub widen-requires-clause-room : goal.widen-requires-clause-room
widen-requires-clause-room c = rw c.loop-index.invariant (room_to_widen c.args.set c.loop-index.index c.loop-index-test.true (sym c.has.ensures ∙ c.if-has.true) c.requires)

pub returns : goal.returns
returns c =
    let all : c.loop-index.index ≡ 24 = omega arith in
    subst (AreSubsets c.args.set) (sym (c.loop-index.invariant ∙ ap (subsets_below c.args.set) all)) (are_subsets c.args.set c.bits-number.ensures.bounded)
