use Rattle.std.proofs.Common.{◌≡◌, ◌<◌, sym, ◌∙◌, subst, arith}
use Rattle.std.proofs.lemmas.Bool.{not-true, both_ways}
use Rattle.tce_space.specs.IndexSet.{has, count, with_index}
use Rattle.tce_space.proofs.IndexSetLaws.{has_below}
use Rattle.tce_check.specs.Kept.{StayKept}
use Rattle.tce_check.proofs.Settling.{one_fewer, within_minus, some_there, stay_after}
use Rattle.tce_check.proofs.Settled.{SettledBy, IsSifted, settled_under, settled_whole, settled_by_all, by_index}
use Rattle.tce_check.proofs.pairs.Pairs.+settles.Goals as goal
use Rattle.tce_check.proofs.pairs.Pairs.+settles.Goals.{then-has+else-not-settles+else-some-left_count, else-has}

pub settles-requires : goal.settles-requires
settles-requires t c =
    let alone : c.with.result ≡ with_index 0 c.loop-index.index = subst (λ s. c.with.result ≡ with_index s c.loop-index.index) c.empty.ensures.value c.with.ensures.value in
    let less : count c.minus-later.result < count c.args.rest =
    one_fewer c.args.rest c.loop-index.index c.with.result c.minus-later.result c.loop-index-test.true (sym c.has.ensures ∙ c.if-has.true) alone c.minus-later.ensures.members in
    (omega (arith, less, c.decreases), (omega (arith, c.sift-some.ensures.fewer, c.requires.lefts, c.loop-index.auto.lefts, c.sift-some.auto.places), omega (arith, c.sift-others.ensures.fewer, c.requires.rights, c.loop-index.auto.rights, c.sift-others.auto.places)))

pub returns-then-others-right_count-clause-settled : goal.returns-then-others-right_count-clause-settled
returns-then-others-right_count-clause-settled t c _ =
    settled_whole c.args.self.now c.args.rest c.minus-later.result c.loop-index.index c.args.lefts.now c.loop-index.lefts c.sift-some.new.places c.args.rights.now c.loop-index.rights c.sift-others.new.places
    c.args.left_count c.sift-some.result c.args.right_count c.sift-others.result
    (record { old_room = c.requires.lefts; now_room = omega (arith, c.requires.lefts, c.loop-index.auto.lefts); before = c.loop-index.invariant.left; stays = c.sift-some.ensures.stays; front = c.sift-some.ensures.front })
    (record { old_room = c.requires.rights; now_room = omega (arith, c.requires.rights, c.loop-index.auto.rights); before = c.loop-index.invariant.right; stays = c.sift-others.ensures.stays; front = c.sift-others.ensures.front })
    (within_minus c.args.rest c.with.result c.minus-later.result c.minus-later.ensures.members)
    c.if-some-left_count.true c.if-others-right_count.true (c.settles.ensures.settled c.if-not-settles.false)

pub loop-index-preserved : goal.loop-index-preserved
loop-index-preserved t c =
    let lefts = c.args.lefts.now in
    let rights = c.args.rights.now in
    let rest = c.args.rest in
    let index = c.loop-index.index in
    elim c.if-has.branch [
      | then-has+else-not-settles+else-some-left_count w ↦
          let left : IsSifted c.args.self.now.lefts.now rest index lefts c.loop-index.lefts w.sift-some.new.places c.args.left_count w.sift-some.result =
          record { old_room = c.requires.lefts; now_room = omega (arith, c.requires.lefts, c.loop-index.auto.lefts); before = c.loop-index.invariant.left; stays = w.sift-some.ensures.stays; front = w.sift-some.ensures.front } in
          let right : IsSifted c.args.self.now.rights.now rest index rights c.loop-index.rights w.sift-others.new.places c.args.right_count w.sift-others.result =
          record { old_room = c.requires.rights; now_room = omega (arith, c.requires.rights, c.loop-index.auto.rights); before = c.loop-index.invariant.right; stays = w.sift-others.ensures.stays; front = w.sift-others.ensures.front } in
          record {
            left = subst (StayKept c.args.left_count lefts) (sym w.lefts-is)
                (stay_after c.args.left_count w.sift-some.result lefts c.loop-index.lefts w.sift-some.new.places w.settles.new.lefts w.sift-some.ensures.fewer
                c.loop-index.auto.lefts w.sift-some.auto.places c.loop-index.invariant.left w.sift-some.ensures.stays w.settles.ensures.left);
            right = subst (StayKept c.args.right_count rights) (sym w.rights-is)
                (stay_after c.args.right_count w.sift-others.result rights c.loop-index.rights w.sift-others.new.places w.settles.new.rights w.sift-others.ensures.fewer
                c.loop-index.auto.rights w.sift-others.auto.places c.loop-index.invariant.right w.sift-others.ensures.stays w.settles.ensures.right);
            done = by_index (λ i. SettledBy c.args.self.now rest i lefts c.args.left_count rights c.args.right_count) index c.loop-index.invariant.done
                (settled_under c.args.self.now rest w.minus-later.result index lefts c.loop-index.lefts w.sift-some.new.places rights c.loop-index.rights w.sift-others.new.places
                c.args.left_count w.sift-some.result c.args.right_count w.sift-others.result left right
                (within_minus rest w.with.result w.minus-later.result w.minus-later.ensures.members) (w.settles.ensures.settled w.if-not-settles.false));
          }
      | else-has w ↦ record {
        left = subst (StayKept c.args.left_count lefts) (sym w.lefts-is) c.loop-index.invariant.left;
        right = subst (StayKept c.args.right_count rights) (sym w.rights-is) c.loop-index.invariant.right;
        done = by_index (λ i. SettledBy c.args.self.now rest i lefts c.args.left_count rights c.args.right_count) index c.loop-index.invariant.done
            (λ x y h. absurd (both_ways (has rest index) (sym c.has.ensures ∙ w.if-has.false) h.inside));
      }
    ]

pub returns-clause-settled : goal.returns-clause-settled
returns-clause-settled t c out =
    settled_by_all c.args.self.now c.args.rest c.args.lefts.now c.args.rights.now c.args.left_count c.args.right_count
    (some_there c.args.rest c.empty-2.result c.within.result c.empty-2.ensures.members c.within.ensures (not-true c.within.result out))
    (λ i low. c.loop-index.invariant.done i (omega (arith, low, c.loop-index-test.false)))
    (λ i x h. has_below c.args.rest i c.bits-bits.ensures.bounded h.inside)
