use Rattle.std.proofs.Common.{sym, ap, ◌∙◌}
use Rattle.tce_space.specs.Space.{tiling_of}
use Rattle.tce_spec.specs.Declarations as model
use Rattle.tce_spec.specs.Declarations.{no_tensor}
use Rattle.tce_spec.specs.declared.declarations.Tensor.{Tensor}
use Rattle.tce_spec.proofs.KeptDeclarations.{Holds, holds, kept_rules}
use Rattle.tce_spec.proofs.declarations.Declarations.tensor.Goals as goal

held : (c : goal.After-index) → Holds c.self.inside.tensors.entries c.args.tensor c.index.result.now
held c = holds c.self.inside.tensors.entries c.args.tensor c.index.result.now c.index.ensures

pub returns-clause-name : goal.returns-clause-name
returns-clause-name c =
    let h = held c in
    rw (← c.self.view_is)
    (ap (λ (t : Tensor). t.name.bytes) (sym h.is_value) ∙ (kept_rules _ _ _ _ c.self.invariant h).named ∙ ap (λ (t : model.Tensor). t.name) (sym (h.shown no_tensor)))

pub returns-clause-ranges : goal.returns-clause-ranges
returns-clause-ranges c =
    let h = held c in
    rw (← c.self.view_is)
    (ap (λ (t : Tensor). t.ranges.items) (sym h.is_value) ∙ ap (λ (t : model.Tensor). t.ranges) (sym (h.shown no_tensor)))

pub returns-clause-shape : goal.returns-clause-shape
returns-clause-shape c =
    let h = held c in
    rw (← c.self.view_is)
    (ap (λ (t : Tensor). t.shape) (sym h.is_value) ∙ (kept_rules _ _ _ _ c.self.invariant h).shaped
    ∙ ap (λ (t : model.Tensor). tiling_of c.self.inside.space t.ranges) (sym (h.shown no_tensor)))
