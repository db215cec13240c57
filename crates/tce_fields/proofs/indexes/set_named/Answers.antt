use Rattle.std.proofs.Common.{sym, subst, ◌∙◌, arith, ap, ◌<◌, length, refl, get_or}
use Rattle.tce_space.specs.IndexSet.{members, set_of}
use Rattle.tce_space.proofs.Names.{same_bytes}
use Rattle.tce_fields.proofs.Listing.{other_bytes}
use Rattle.tce_fields.proofs.Named.{set_found, out_of_order}
use Rattle.tce_fields.specs.Reading.{texts}
use Rattle.tce_fields.proofs.indexes.set_named.Goals as goal

pub of_list-set-requires : goal.of_list-set-requires
of_list-set-requires c = λ k d l.
    let named = (c.in-Some.ensures c.in-Some.indexes.items).0 refl in
    let small = named.declared k d (subst (λ xs. k < length xs) c.as_slice.ensures.value l) in
    omega (arith, small, c.index_count-declared.ensures.limits.index_limit, ap (λ xs. get_or xs k d) c.as_slice.ensures.value)

pub returns-then-are_same : goal.returns-then-are_same
returns-then-are_same c =
    set_found c.args.space.now (texts c.args.names.now) c.in-Some.indexes.items c.of_list-set.result (c.of_list-set.ensures.value ∙ ap set_of c.as_slice.ensures.value)
    (sym (c.as_slice-2.ensures.value ∙ c.members_of.ensures) ∙ same_bytes _ _ (sym c.if-are_same.ensures) ∙ c.as_slice-3.ensures.value)
    c.in-Some.ensures

pub returns-else-are_same : goal.returns-else-are_same
returns-else-are_same c =
    out_of_order c.args.space.now (texts c.args.names.now) c.in-Some.indexes.items
    (λ same. other_bytes _ _ (sym c.if-are_same.ensures)
    (c.as_slice-2.ensures.value ∙ c.members_of.ensures ∙ ap members (c.of_list-set.ensures.value ∙ ap set_of c.as_slice.ensures.value) ∙ same ∙ sym c.as_slice-3.ensures.value))
    c.in-Some.ensures
