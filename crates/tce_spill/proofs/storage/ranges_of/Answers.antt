use Rattle.std.proofs.Common.{◌<◌, All, length, map, sym, ap, ◌∙◌, subst, arith}
use Rattle.std.proofs.lemmas.List.Elements.{All-push}
use Rattle.tce_space.specs.IndexSet.{has}
use Rattle.tce_space.specs.Space.{index_at}
use Rattle.tce_space.proofs.Ranges.{filter_same}
use Rattle.tce_spill.proofs.Ranges.{ranges-yes, room_before, all_ranges}
use Rattle.tce_spill.proofs.storage.ranges_of.Goals as goal
use Rattle.tce_spill.proofs.storage.ranges_of.Goals.{then-has, else-has}

pub push-requires : goal.push-requires
push-requires c =
    let room = room_before (λ i. (index_at c.args.space.now i).of_range) c.args.dims c.loop-index.index c.loop-index.ranges.items c.loop-index-test.true (sym c.has.ensures ∙ c.if-has.true) c.loop-index.invariant.items in
    omega (arith, room, c.requires.few)

pub loop-index-preserved : goal.loop-index-preserved
loop-index-preserved c =
    elim c.if-has.branch [
      | then-has w ↦ record {
        items =
            ap (λ r. r.items) w.ranges-is
            ∙ ranges-yes (λ i. (index_at c.args.space.now i).of_range) (has c.args.dims) c.loop-index.index w.range_of.result c.loop-index.ranges.items w.push.new.self.items
            (sym c.has.ensures ∙ w.if-has.true) c.loop-index.invariant.items w.range_of.ensures.range w.push.ensures.items;
        declared =
            subst (λ r. All (λ x. x < length c.args.space.now.ranges) r.items) (sym w.ranges-is)
            (subst (All (λ x. x < length c.args.space.now.ranges)) (sym w.push.ensures.items)
            (All-push (λ x. x < length c.args.space.now.ranges) c.loop-index.ranges.items w.range_of.result c.loop-index.invariant.declared w.range_of.ensures.declared));
      }
      | else-has w ↦ record {
        items =
            ap (λ r. r.items) w.ranges-is ∙ c.loop-index.invariant.items
            ∙ ap (map (λ i. (index_at c.args.space.now i).of_range)) (sym (filter_same (has c.args.dims) c.loop-index.index (sym c.has.ensures ∙ w.if-has.false)));
        declared = subst (λ r. All (λ x. x < length c.args.space.now.ranges) r.items) (sym w.ranges-is) c.loop-index.invariant.declared;
      }
    ]

pub returns-clause-ranges : goal.returns-clause-ranges
returns-clause-ranges c =
    all_ranges (λ i. (index_at c.args.space.now i).of_range) c.args.dims c.loop-index.index c.loop-index.ranges.items (omega (arith, c.loop-index-test.false)) c.loop-index.invariant.items
