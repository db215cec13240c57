use Rattle.std.proofs.Common.{◌∙◌, sym, ap, length, map}
use Rattle.std.proofs.lemmas.List.{length-map, length-replicate}
use Rattle.std.proofs.lemmas.Result.{err_from_is_err_and}
use Rattle.tce_search.proofs.Grouping.{leasts_of_none}
use Rattle.tce_search.proofs.groups.Groups.new.Goals as goal

pub returns-in_err-lists : goal.returns-in_err-lists
returns-in_err-lists c =
    let p = err_from_is_err_and c.from_residual.result c.from_residual.ensures.1 in
    rw p.1 tt

pub returns-in_err-leasts : goal.returns-in_err-leasts
returns-in_err-leasts c =
    let p = err_from_is_err_and c.from_residual-in_err-leasts.result c.from_residual-in_err-leasts.ensures.1 in
    rw p.1 tt

pub invariant_of-result : goal.invariant_of-result
invariant_of-result c =
    let lists = c.in_ok-lists.lists.items in
    leasts_of_none (map (λ list. list.items) lists) c.in_ok-leasts.leasts.items c.args.count c.requires c.in_ok-lists.ensures.empty
    (ap length (c.in_ok-leasts.ensures.items_if_clones_equal (λ y same. same)) ∙ length-replicate c.args.count _ ∙ sym c.in_ok-lists.ensures.count ∙ sym (length-map lists (λ list. list.items)))

pub returns : goal.returns
returns c = c.in_ok-lists.ensures.empty
