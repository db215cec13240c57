use Rattle.std.proofs.Common.{◌-◌, ◌<◌, ap, arith, get_or, length}
use Rattle.std.proofs.lemmas.List.Elements.{at_read}
use Rattle.tce_search.specs.declared.groups.Entry.{Entry}
use Rattle.tce_search.proofs.groups.place_for.Goals as goal

pub returns-then-entries-place-clause-before : goal.returns-then-entries-place-clause-before
returns-then-entries-place-clause-before c k e low =
    let entries = c.args.entries.now in
    let last = c.loop-place.place - 1 in
    let here : last < length entries = omega (arith, c.loop-place-test.true, c.loop-place.invariant.inside) in
    let cheap = at_read entries (λ (x : Entry). x.cost < c.args.cost) last (get_or entries last c.index-entries-place.result) here
    (ap (get_or entries last) c.index-entries-place.is) c.if-entries-place.true e in
    omega (arith, c.requires k last e (omega (arith, low)) here, cheap)
