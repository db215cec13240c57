use Rattle.std.proofs.Common.{Some, refl, sym, ap, ◌∙◌}
use Rattle.tce_grammar.specs.Code.{names}
use Rattle.tce_spec.specs.PlaceFaults.{undeclared_index}
use Rattle.tce_spec.proofs.FirstNames.{first_is_name, behind_are, undeclared_here, undeclared_behind, all_declared}
use Rattle.tce_spec.proofs.names.undeclared_index.Goals as goal

pub loop-rest-init : goal.loop-rest-init
loop-rest-init c = (c.requires, refl)

pub index_named-requires : goal.index_named-requires
index_named-requires c = first_is_name c.loop-rest.rest.now _ c.in-len1-up.len_at_least c.loop-rest.invariant.0

pub name_of-requires : goal.name_of-requires
name_of-requires c = first_is_name c.loop-rest.rest.now _ c.in-len1-up.len_at_least c.loop-rest.invariant.0

pub returns-then-is_none : goal.returns-then-is_none
returns-then-is_none c =
    ap Some c.name_of.ensures
    ∙ sym (undeclared_here c.args.space.now c.loop-rest.rest.now _ (undeclared_index c.args.space.now (names c.args.indexes.now)) c.index_named.result c.is_none.result
    c.in-len1-up.len_at_least c.loop-rest.invariant.1 c.index_named.ensures c.is_none.ensures c.if-is_none.true)

pub loop-rest-preserved : goal.loop-rest-preserved
loop-rest-preserved c = (
  behind_are c.loop-rest.rest.now c.in-len1-up.len_at_least c.loop-rest.invariant.0,
  undeclared_behind c.args.space.now c.loop-rest.rest.now _ (undeclared_index c.args.space.now (names c.args.indexes.now)) c.index_named.result c.is_none.result
      c.in-len1-up.len_at_least c.loop-rest.invariant.1 c.index_named.ensures c.is_none.ensures c.if-is_none.false,
)

pub returns : goal.returns
returns c = all_declared c.args.space.now c.loop-rest.rest.now (undeclared_index c.args.space.now (names c.args.indexes.now)) c.in_default.len_below c.loop-rest.invariant.1
