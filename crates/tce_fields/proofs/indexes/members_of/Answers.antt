use Rattle.std.proofs.Common.{◌≡◌, length, ◌∷◌, [], ◌++◌, ◌∙◌, sym, ap, arith}
use Rattle.std.specs.List.{filter, range_with_len}
use Rattle.tce_space.specs.IndexSet.{has, members}
use Rattle.tce_space.proofs.Ranges.{filter_one, filter_same}
use Rattle.tce_fields.proofs.indexes.members_of.Goals as goal
use Rattle.tce_fields.proofs.indexes.members_of.Goals.{then-has, else-has}

pub loop-index-preserved : goal.loop-index-preserved
loop-index-preserved c =
    elim c.if-has.branch [
      | then-has w ↦ record {
        items =
            ap (λ v. v.items) w.all-is
            ∙ w.push.ensures.items
            ∙ ap (λ xs. xs ++ c.loop-index.index ∷ []) c.loop-index.invariant.items
            ∙ sym (filter_one (has c.args.set) c.loop-index.index (sym c.has.ensures ∙ w.if-has.true));
        room = omega (arith, c.loop-index.invariant.room, w.push.ensures.len, ap (λ v. length v.items) w.all-is);
      }
      | else-has w ↦ record {
        items =
            ap (λ v. v.items) w.all-is
            ∙ c.loop-index.invariant.items
            ∙ sym (filter_same (has c.args.set) c.loop-index.index (sym c.has.ensures ∙ w.if-has.false));
        room = omega (arith, c.loop-index.invariant.room, ap (λ v. length v.items) w.all-is);
      }
    ]

pub returns : goal.returns
unfolding members
returns c =
    let all : c.loop-index.index ≡ 24 = omega arith in
    c.loop-index.invariant.items ∙ ap (λ n. filter (has c.args.set) (range_with_len 0 n)) all
