use Rattle.std.proofs.Common.{◌∙◌, sym, ap, Some}
use Rattle.tce_spec.proofs.DeclaredNames.{named_at}
use Rattle.tce_spec.proofs.Twice.{found_twice, not_yet_twice}
use Rattle.tce_spec.proofs.names.listed_twice.Goals as goal

pub name_of-requires : goal.name_of-requires
name_of-requires c = named_at c.args.indexes.now c.loop-place.place _ c.requires c.loop-place-test.true

pub returns-then-stands_in : goal.returns-then-stands_in
returns-then-stands_in c =
    ap (λ n. Some n) c.name_of.ensures
    ∙ sym (found_twice c.args.indexes.now c.loop-place.place _ c.loop-place-test.true c.loop-place.invariant (sym c.stands_in.ensures ∙ c.if-stands_in.true))

pub loop-place-preserved : goal.loop-place-preserved
loop-place-preserved c =
    not_yet_twice c.args.indexes.now c.loop-place.place _ c.loop-place-test.true c.loop-place.invariant (sym c.stands_in.ensures ∙ c.if-stands_in.false)
