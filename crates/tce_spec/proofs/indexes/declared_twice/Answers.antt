use Rattle.std.proofs.Common.{◌≡◌, ◌||◌, [], true, get_or, take, sym, ◌∙◌, ap}
use Rattle.std.specs.List.{list_any}
use Rattle.std.specs.Str.{bytes_eq}
use Rattle.std.proofs.lemmas.Bool.{or_from, or_left, or_right}
use Rattle.tce_grammar.specs.Code.{names}
use Rattle.tce_spec.specs.DeclarationLines.{twice_after, index_names}
use Rattle.tce_spec.proofs.DeclaredNames.{named_at, twice_here, twice_further, none_behind}
use Rattle.tce_spec.proofs.indexes.declared_twice.Goals as goal
use Rattle.tce_spec.proofs.indexes.declared_twice.Goals.{then-is_index-via-then-is_index, then-is_index-via-else-is_index+then-is_among}

pub is_index-requires : goal.is_index-requires
is_index-requires c = named_at c.args.names.now c.loop-place.place _ c.requires c.loop-place-test.true

pub returns-then-is_index-clause-first : goal.returns-then-is_index-clause-first
returns-then-is_index-clause-first c =
    let among : (list_any (bytes_eq (get_or c.args.names.now c.loop-place.place (record { ref_ptr = (0, 0); now = [] })).now) (index_names c.args.space.now)
    || list_any (bytes_eq (get_or c.args.names.now c.loop-place.place (record { ref_ptr = (0, 0); now = [] })).now) (names (take c.loop-place.place c.args.names.now))) ≡ true =
    elim c.then-is_index.branch [
      | then-is_index-via-then-is_index w ↦ or_left _ _ (sym c.is_index.ensures ∙ w.if-is_index.true)
      | then-is_index-via-else-is_index+then-is_among w ↦ or_right _ _ (sym w.is_among.ensures ∙ w.if-is_among.true)
    ] in
    sym (twice_here (index_names c.args.space.now) c.args.names.now c.loop-place.place _ c.loop-place-test.true among) ∙ c.loop-place.invariant

pub loop-place-preserved : goal.loop-place-preserved
loop-place-preserved c =
    sym (twice_further (index_names c.args.space.now) c.args.names.now c.loop-place.place _ c.loop-place-test.true
    (or_from _ _ (sym c.is_index.ensures ∙ c.if-is_index.false) (sym c.is_among.ensures ∙ c.if-is_among.false)))
    ∙ c.loop-place.invariant

pub returns-clause-first : goal.returns-clause-first
returns-clause-first c = ap (twice_after _) (sym (none_behind c.args.names.now c.loop-place.place c.loop-place-test.false)) ∙ c.loop-place.invariant

pub returns-then-is_index-clause-named : goal.returns-then-is_index-clause-named
returns-then-is_index-clause-named c = named_at c.args.names.now c.loop-place.place _ c.requires c.loop-place-test.true
