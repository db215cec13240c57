use Rattle.std.proofs.Common.{◌++◌, ◌∷◌, [], ℕ, List, sym, ap, ◌∙◌}
use Rattle.tce_spec.specs.DeclarationLines.{with_numbered_indexes}
use Rattle.tce_spec.proofs.DeclaredNames.{named_at, names_to, index_entered, all_before, nothing_entered}
use Rattle.tce_spec.proofs.indexes.add_indexes.Goals as goal

pub name_of-requires : goal.name_of-requires
name_of-requires c = named_at c.args.names.now c.loop-name.name-index _ c.requires.names c.loop-name-test.true

pub add_index-requires-clause-name : goal.add_index-requires-clause-name
add_index-requires-clause-name c = rw c.name_of.ensures (named_at c.args.names.now c.loop-name.name-index _ c.requires.names c.loop-name-test.true)

pub loop-name-init : goal.loop-name-init
loop-name-init c = record { declared = nothing_entered c.args.space.now c.args.range; limits = c.requires.limits }

pub loop-name-preserved : goal.loop-name-preserved
loop-name-preserved c = record {
  declared =
      index_entered c.args.space.now c.args.range _ _ c.loop-name.space c.add_index.new.self c.loop-name.invariant.declared c.in-Ok.ensures.added.ranges
      (c.in-Ok.ensures.added.indexes ∙ ap (λ (name : List ℕ). c.loop-name.space.indexes ++ record { name = name; of_range = c.args.range } ∷ []) c.name_of.ensures)
      ∙ ap (with_numbered_indexes c.args.space.now c.args.range) (sym (names_to c.args.names.now c.loop-name.name-index _ c.loop-name-test.true));
  limits = c.add_index.ensures.limits;
}

pub returns-clause-declared : goal.returns-clause-declared
returns-clause-declared c = c.loop-name.invariant.declared ∙ ap (with_numbered_indexes c.args.space.now c.args.range) (all_before c.args.names.now c.loop-name.name-index c.loop-name-test.false)
