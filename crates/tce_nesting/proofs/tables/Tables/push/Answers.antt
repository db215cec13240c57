use Rattle.std.proofs.Common.{◌∙◌, ◌∷◌, [], rules}
use Rattle.std.proofs.lemmas.List.{length-map}
use Rattle.tce_nesting.proofs.RowLists.{unchanged_at, appended_at}
use Rattle.tce_nesting.proofs.tables.Tables.push.Goals as goal

pub returns-in_err-push-clause-unchanged : goal.returns-in_err-push-clause-unchanged
returns-in_err-push-clause-unchanged c =
    let lists = c.self.inside.lists.items in
    let same = unchanged_at lists (λ list. list.items) c.args.v c.index_mut.result.now c.push.new.self c.index_mut.ensures.value c.in_err-push.ensures.items ∙ c.self.view_is in
    search (rules, same)

pub returns-clause-added : goal.returns-clause-added
returns-clause-added c =
    let lists = c.self.inside.lists.items in
    let low = rw (← c.self.view_is, length-map) at c.requires in
    rw (← c.self.view_is)
    (appended_at lists (λ list. list.items) c.args.v c.index_mut.result.now c.push.new.self (c.args.row ∷ []) low c.index_mut.ensures.value c.in_ok-push.ensures.items)
