use Rattle.std.proofs.Common.{ap, refl, ◌∙◌, ◌∷◌, ◌++◌, []}
use Rattle.std.proofs.lemmas.Result.{IfOk-weaker}
use Rattle.tce_spec.specs.Declarations.{Tensor, tensor_number}
use Rattle.tce_spec.specs.PieceSpecification.{source}
use Rattle.tce_spec.proofs.PieceCalls.{tensor_is, tensor_fits}
use Rattle.tce_spec.proofs.sources.declare_source.Goals as goal

pub with_tensor_over-requires-clause-unnamed : goal.with_tensor_over-requires-clause-unnamed
with_tensor_over-requires-clause-unnamed c = ap (tensor_number c.args.declarations.tensors) c.source_name.ensures ∙ c.requires.unnamed

pub with_tensor_over-requires-clause-fits : goal.with_tensor_over-requires-clause-fits
with_tensor_over-requires-clause-fits c =
    tensor_fits c.args.declarations.space c.args.declarations.space _ (source c.args.spec.now c.args.t) refl
    (tensor_is (source c.args.spec.now c.args.t) c.source_name.result.bytes c.in-Ok.ranges.items c.source_name.ensures c.in-Ok.ensures) c.requires.fits

pub returns-in-Ok : goal.returns-in-Ok
returns-in-Ok c =
    IfOk-weaker c.with_tensor_over.result _ _
    (λ d is. is ∙ ap (λ (x : Tensor). record { space = c.args.declarations.space; tensors = c.args.declarations.tensors ++ x ∷ [] })
    (tensor_is (source c.args.spec.now c.args.t) c.source_name.result.bytes c.in-Ok.ranges.items c.source_name.ensures c.in-Ok.ensures)) c.with_tensor_over.ensures
