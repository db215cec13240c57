use Rattle.std.proofs.Common.{List, take, ap, ◌∙◌}
use Rattle.std.specs.List.{list_any}
use Rattle.std.specs.Prelude.{eqb, ◌==◌}
use Rattle.tce_spec.specs.declared.formula.Contraction.{Contraction}
use Rattle.tce_spec.specs.Specification.{Specification}
use Rattle.tce_batch.specs.BatchCode.{results_before}
use Rattle.tce_batch.proofs.Lines.{computed_before}
use Rattle.tce_batch.proofs.batch.Batch.is_result_before.Goals as goal

pub returns : goal.returns
returns c =
    c.is_computed.ensures
    ∙ ap (λ (cs : List Contraction). list_any (λ (e : Contraction). c.args.t == e.result.tensor) (take c.args.number cs)) c.deref.ensures.value
    ∙ computed_before c.self.inside.declarations c.self.inside.contractions.items c.args.number c.args.t
    ∙ ap (λ (ss : List Specification). list_any (eqb c.args.t) (results_before ss c.args.number)) c.self.view_is
