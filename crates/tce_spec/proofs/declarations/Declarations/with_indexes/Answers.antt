use Rattle.std.proofs.Common.{[], ap, sym, ◌∙◌, append-nil}
use Rattle.tce_space.specs.Space.{IndexSpace}
use Rattle.tce_spec.proofs.Keeping.{kept_in_space}
use Rattle.tce_spec.proofs.declarations.Declarations.with_indexes.Goals as goal

pub invariant_of-result : goal.invariant_of-result
invariant_of-result c =
    kept_in_space c.self.inside.space c.declare_indexes.new.space [] c.self.inside.tensors.entries
    (ap (λ (s : IndexSpace). s.ranges) c.in-Ok.ensures.declared ∙ sym (append-nil c.self.inside.space.ranges))
    c.in-Ok.ensures.limits c.self.invariant
