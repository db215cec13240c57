use Rattle.std.proofs.Common.{◌≡◌, eqb, false, ap, sym, ◌∙◌, arith}
use Rattle.std.specs.List.{list_any}
use Rattle.tce_spec.proofs.Seen.{seen_few, seen_more}
use Rattle.tce_spec.proofs.operands.add.Goals as goal

pub push-requires : goal.push-requires
push-requires g c =
    let new : list_any (eqb c.args.t) c.args.seen.now.items ≡ false =
    ap (list_any (eqb c.args.t)) (sym c.as_slice.ensures.value) ∙ sym c.is_among.ensures ∙ c.if-not-is_among.true in
    (omega arith, seen_few g.row.N c.args.seen.now.items c.args.t c.requires.below c.requires.seen new)

pub returns-then-not-is_among-clause-seen : goal.returns-then-not-is_among-clause-seen
returns-then-not-is_among-clause-seen g c =
    let new : list_any (eqb c.args.t) c.args.seen.now.items ≡ false =
    ap (list_any (eqb c.args.t)) (sym c.as_slice.ensures.value) ∙ sym c.is_among.ensures ∙ c.if-not-is_among.true in
    rw c.push.ensures.items (seen_more g.row.N c.args.seen.now.items c.args.t c.requires.below c.requires.seen new)
