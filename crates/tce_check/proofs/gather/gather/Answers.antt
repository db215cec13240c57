use Rattle.std.proofs.Common.{length, inl, inr, sym, ap, ◌∙◌, subst, arith}
use Rattle.std.proofs.lemmas.Bool.{both_ways}
use Rattle.tce_fusion.specs.Row.{Row}
use Rattle.tce_check.specs.Branch.{Passes}
use Rattle.tce_check.proofs.Gathered.{one_row, gathered_more}
use Rattle.tce_check.proofs.gather.gather.Goals as goal
use Rattle.tce_check.proofs.gather.gather.Goals.{then-row-limit+then-passes+else-places-count+else-at, else-row-limit, else-row-limit-via-then-row-limit+else-passes, else-row-limit-via-else-row-limit}

pub loop-at-preserved : goal.loop-at-preserved
loop-at-preserved c =
    let branch = c.args.branch.now in
    let rows = c.args.rows.now in
    let at = c.loop-at.at in
    let places = c.loop-at.places in
    let count = c.loop-at.count in
    elim c.if-row-limit.branch [
      | then-row-limit+then-passes+else-places-count+else-at w ↦ record {
        room = omega (arith, w.keep-count.ensures.more, w.if-places-count.false, w.count-is, ap length w.places-is, w.keep-count.auto.places);
        gathered = gathered_more branch c.args.limit rows c.args.from at places w.keep-count.new.places c.if-row-limit.places count w.keep-count.result c.if-row-limit.count
            c.loop-at.invariant.gathered w.keep-count.ensures.others w.places-is w.count-is (λ row stands _. inr (w.keep-count.ensures.row row stands));
      }
      | else-row-limit w ↦ record {
        room = omega (arith, c.loop-at.invariant.room, w.count-is, ap length w.places-is);
        gathered = gathered_more branch c.args.limit rows c.args.from at places places c.if-row-limit.places count count c.if-row-limit.count
            c.loop-at.invariant.gathered (λ row h. h) w.places-is w.count-is
            (λ row stands passes.
            let same = one_row rows at c.index-rows-at.result row c.index-rows-at.is stands in
            elim w.else-row-limit.branch [
              | else-row-limit-via-then-row-limit+else-passes v ↦
                  absurd (both_ways v.passes.result v.if-passes.false
                  (v.passes.ensures (subst (λ turns. Passes turns c.index-rows-at.result) (sym v.as_slice.ensures.value) (subst (Passes branch.turns.items) (sym same) passes))))
              | else-row-limit-via-else-row-limit v ↦ inl (omega (arith, v.if-row-limit.false, ap (λ (r : Row). r.cost) (c.row.view_is ∙ same)))
            ]);
      }
    ]
