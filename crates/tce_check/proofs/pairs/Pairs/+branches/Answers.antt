use Rattle.std.proofs.Common.{length, sym, ◌∙◌, arith}
use Rattle.std.proofs.lemmas.Bool.{both_ways, not-true}
use Rattle.tce_space.specs.IndexSet.{has}
use Rattle.tce_space.proofs.IndexSetLaws.{has_below}
use Rattle.tce_check.proofs.Settling.{some_there}
use Rattle.tce_check.proofs.Settled.{by_index}
use Rattle.tce_check.proofs.Gathered.{SettlesBy, rows_more, settles_after, settles_all}
use Rattle.tce_check.proofs.pairs.Pairs.+branches.Goals as goal
use Rattle.tce_check.proofs.pairs.Pairs.+branches.Goals.{settles_branches-then-has+in-Some+else-not-settles_branch, settles_branches-else-has}

pub settles_branch-loop-at-preserved : goal.settles_branch-loop-at-preserved
settles_branch-loop-at-preserved t c =
    rows_more c.args.self.now c.args.branch.now c.gather-few.new.places c.gather-few.result.0 c.loop-at.at c.gather-few.result.1 c.requires c.loop-at.invariant
    c.gather-few.ensures.gathered (c.settles_with.ensures.settled c.if-not-settles_with.false)

pub settles_branches-loop-index-preserved : goal.settles_branches-loop-index-preserved
settles_branches-loop-index-preserved t c =
    let pairs = c.args.self.now in
    let branch = c.args.branch.now in
    let index = c.loop-index.index in
    by_index (SettlesBy pairs branch) index c.loop-index.invariant
    (elim c.if-has.branch [
      | settles_branches-then-has+in-Some+else-not-settles_branch w ↦ settles_after pairs branch w.in-Some.next index w.in-Some.ensures (w.settles_branch.ensures w.if-not-settles_branch.false)
      | settles_branches-else-has w ↦ λ k l x y left right px py h. absurd (both_ways (has branch.rest index) (sym c.has.ensures ∙ w.if-has.false) h.inside)
    ])

pub settles_branches-returns : goal.settles_branches-returns
settles_branches-returns t c out =
    let branch = c.args.branch.now in
    settles_all c.args.self.now branch (length c.args.self.now.lefts.now)
    (some_there branch.rest c.empty.result c.within.result c.empty.ensures.members c.within.ensures (not-true c.within.result out))
    (λ i low. c.loop-index.invariant i (omega (arith, low, c.loop-index-test.false)))
    (λ i x h. has_below branch.rest i c.bits-bits.ensures.bounded h.inside)
