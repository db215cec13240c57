use Rattle.std.proofs.Common.{not, sym, ap, ◌∙◌}
use Rattle.std.specs.Prelude.{find, is_none}
use Rattle.tce_space.specs.Space.{range_number}
use Rattle.tce_spec.proofs.DeclaredNames.{named_at, names_from, find_here, find_further, none_behind}
use Rattle.tce_spec.proofs.tensors.unknown_range.Goals as goal

pub range_named-requires : goal.range_named-requires
range_named-requires c = named_at c.args.names.now c.loop-name.name-index _ c.requires c.loop-name-test.true

pub returns-then-is_none-clause-first : goal.returns-then-is_none-clause-first
returns-then-is_none-clause-first c =
    sym (find_here (λ name. is_none (range_number c.args.space.now name)) _ _ _ (names_from c.args.names.now c.loop-name.name-index _ c.loop-name-test.true)
    (ap is_none (sym c.range_named.ensures) ∙ ap not (c.is_none.ensures ∙ ap not c.if-is_none.true))) ∙ c.loop-name.invariant

pub loop-name-preserved : goal.loop-name-preserved
loop-name-preserved c =
    sym (find_further (λ name. is_none (range_number c.args.space.now name)) _ _ _ (names_from c.args.names.now c.loop-name.name-index _ c.loop-name-test.true)
    (ap is_none (sym c.range_named.ensures) ∙ ap not (c.is_none.ensures ∙ ap not c.if-is_none.false))) ∙ c.loop-name.invariant

pub returns-clause-first : goal.returns-clause-first
returns-clause-first c = ap (find (λ name. is_none (range_number c.args.space.now name))) (sym (none_behind c.args.names.now c.loop-name.name-index c.loop-name-test.false)) ∙ c.loop-name.invariant

pub returns-then-is_none-clause-named : goal.returns-then-is_none-clause-named
returns-then-is_none-clause-named c = named_at c.args.names.now c.loop-name.name-index _ c.requires c.loop-name-test.true
