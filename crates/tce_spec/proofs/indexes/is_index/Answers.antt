use Rattle.std.proofs.Common.{◌≡◌, ap, ◌∙◌}
use Rattle.std.specs.Prelude.{is_some}
use Rattle.tce_space.specs.Space.{index_number}
use Rattle.tce_spec.proofs.DeclaredNames.{index_known}
use Rattle.tce_spec.proofs.indexes.is_index.Goals as goal

pub returns : goal.returns
returns c =
    let same : index_number c.args.space.now c.as_str.result.now ≡ index_number c.args.space.now c.args.name.now =
    ap (index_number c.args.space.now) (c.as_str.ensures.value ∙ c.name_of-name.ensures) in
    c.is_some.ensures ∙ ap is_some (c.index_named.ensures.number ∙ same) ∙ index_known c.args.space.now c.args.name.now
