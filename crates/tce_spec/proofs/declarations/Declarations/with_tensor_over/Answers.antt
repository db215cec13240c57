use Rattle.std.proofs.Common.{◌≡◌, ◌<◌, length, sym, subst, ◌∙◌, arith}
use Rattle.std.proofs.lemmas.List.{length-map}
use Rattle.std.specs.Prelude.{None}
use Rattle.tce_spec.specs.Declarations.{Declarations, IsTensor, tensor_number}
use Rattle.tce_spec.specs.DeclarationsCode.{tensor_of, declarations_of}
use Rattle.tce_spec.proofs.Keeping.{kept_with_tensor}
use Rattle.tce_spec.proofs.KeptDeclarations.{tensor_number_is}
use Rattle.tce_spec.proofs.declarations.Declarations.with_tensor_over.Goals as goal

pub keep-requires : goal.keep-requires
keep-requires c =
    sym (tensor_number_is c.self.inside.tensors.entries c.args.name.bytes)
    ∙ subst (λ (d : Declarations). tensor_number d.tensors c.args.name.bytes ≡ None) (sym c.self.view_is) c.requires.unnamed

pub invariant_of-result : goal.invariant_of-result
invariant_of-result c =
    let few : length (declarations_of c.self.inside.space c.self.inside.tensors.entries).tensors < 32 =
    subst (λ (d : Declarations). length d.tensors < 32) (sym c.self.view_is) c.requires.room in
    let fits : IsTensor c.self.inside.space (record { name = c.args.name.bytes; ranges = c.args.ranges.items }) =
    subst (λ (d : Declarations). IsTensor d.space (record { name = c.args.name.bytes; ranges = c.args.ranges.items })) (sym c.self.view_is) c.requires.fits in
    kept_with_tensor c.self.inside.space c.self.inside.tensors.entries c.keep.new.tensors.entries
    (record { name = c.args.name; ranges = c.args.ranges; shape = c.in-Ok.shape }) c.self.invariant c.in-Ok-keep.ensures.kept c.in-Ok-keep.ensures.apart
    (omega (arith, few, length-map c.self.inside.tensors.entries tensor_of)) fits c.in-Ok.ensures.made
