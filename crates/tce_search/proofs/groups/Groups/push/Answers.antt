use Rattle.std.proofs.Common.{subst, arith}
use Rattle.tce_search.specs.Groups.{HaveLeasts}
use Rattle.tce_search.proofs.Grouping.{list_ordered, groups_added, groups_kept, groups_unchanged, leasts_kept, leasts_unchanged, number_named}
use Rattle.tce_search.proofs.groups.Groups.push.Goals as goal

pub returns-in_err-put-clause-kept : goal.returns-in_err-put-clause-kept
returns-in_err-put-clause-kept c k e inn =
    groups_unchanged c.self.inside.lists.items (λ list. list.items) c.args.self.now c.number_of-number.result c.args.key c.index_mut.result.now c.put.new.entries c.self.view_is (number_named c.self.inside.lists.items c.len.result c.number_of-number.result c.args.key c.number_of-number.ensures.value (omega (arith, c.len.ensures, c.self.inside.lists.ok.0))) (omega (arith, c.number_of-number.ensures.inside, c.len.ensures, c.self.inside.lists.ok.0)) c.index_mut.ensures.value
    c.in_err-put.ensures.unchanged k e inn

pub returns-clause-added : goal.returns-clause-added
returns-clause-added c =
    groups_added c.self.inside.lists.items (λ list. list.items) c.args.self.now c.number_of-number.result c.args.key c.index_mut.result.now c.put.new.entries c.self.view_is (number_named c.self.inside.lists.items c.len.result c.number_of-number.result c.args.key c.number_of-number.ensures.value (omega (arith, c.len.ensures, c.self.inside.lists.ok.0))) (omega (arith, c.number_of-number.ensures.inside, c.len.ensures, c.self.inside.lists.ok.0)) c.index_mut.ensures.value
    c.args.entry c.in_ok-put.ensures.put

pub returns-clause-kept : goal.returns-clause-kept
returns-clause-kept c k e inn =
    groups_kept c.self.inside.lists.items (λ list. list.items) c.args.self.now c.number_of-number.result c.args.key c.index_mut.result.now c.put.new.entries c.self.view_is (number_named c.self.inside.lists.items c.len.result c.number_of-number.result c.args.key c.number_of-number.ensures.value (omega (arith, c.len.ensures, c.self.inside.lists.ok.0))) (omega (arith, c.number_of-number.ensures.inside, c.len.ensures, c.self.inside.lists.ok.0)) c.index_mut.ensures.value
    c.args.entry c.in_ok-put.ensures.put k e inn

pub invariant_of-self : goal.invariant_of-self
invariant_of-self c =
    leasts_unchanged c.self.inside.lists.items (λ list. list.items) c.args.self.now c.number_of-number.result c.args.key c.index_mut.result.now c.put.new.entries c.self.view_is (number_named c.self.inside.lists.items c.len.result c.number_of-number.result c.args.key c.number_of-number.ensures.value (omega (arith, c.len.ensures, c.self.inside.lists.ok.0))) (omega (arith, c.number_of-number.ensures.inside, c.len.ensures, c.self.inside.lists.ok.0)) c.index_mut.ensures.value
    c.self.inside.leasts.items c.lower.new.leasts.items c.in_err-put.ensures.unchanged
    (subst (λ gs. HaveLeasts gs c.self.inside.leasts.items) c.self.view_is c.self.invariant) c.lower.ensures.count c.lower.ensures.none_raised

pub invariant_of-self-2 : goal.invariant_of-self-2
invariant_of-self-2 c =
    leasts_kept c.self.inside.lists.items (λ list. list.items) c.args.self.now c.number_of-number.result c.args.key c.index_mut.result.now c.put.new.entries c.self.view_is (number_named c.self.inside.lists.items c.len.result c.number_of-number.result c.args.key c.number_of-number.ensures.value (omega (arith, c.len.ensures, c.self.inside.lists.ok.0))) (omega (arith, c.number_of-number.ensures.inside, c.len.ensures, c.self.inside.lists.ok.0)) c.index_mut.ensures.value
    c.args.entry c.self.inside.leasts.items c.lower.new.leasts.items c.in_ok-put.ensures.put
    (subst (λ gs. HaveLeasts gs c.self.inside.leasts.items) c.self.view_is c.self.invariant) c.lower.ensures.count c.lower.ensures.none_raised c.lower.ensures.at

pub put-requires : goal.put-requires
put-requires c =
    list_ordered c.self.inside.lists.items (λ list. list.items) c.self.inside.leasts.items c.number_of-number.result c.index_mut.result.now c.self.invariant (omega (arith, c.number_of-number.ensures.inside, c.len.ensures, c.self.inside.lists.ok.0)) c.index_mut.ensures.value
