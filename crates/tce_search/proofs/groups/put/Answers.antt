use Rattle.std.proofs.Common.{List, insert, sym, subst}
use Rattle.tce_search.specs.declared.groups.Entry.{Entry}
use Rattle.tce_search.specs.Groups.{AreByCost, ArePut}
use Rattle.tce_search.proofs.Grouping.{entries_put}
use Rattle.tce_search.proofs.groups.put.Goals as goal

pub returns-clause-put : goal.returns-clause-put
returns-clause-put c =
    let old = c.args.entries.now.items in
    let place = c.place_for-place.result in
    let entry = c.args.entry in
    let told = c.place_for-place.ensures in
    subst (ArePut old entry) (sym c.in_ok-insert.ensures.items)
    (subst (λ (xs : List Entry). ArePut xs entry (insert xs place entry)) c.as_slice.ensures.value
    (entries_put c.as_slice.result.now place entry (subst AreByCost (sym c.as_slice.ensures.value) c.requires) told.inside told.before told.behind))
