use Rattle.std.proofs.Common.{ℕ, List, Ok, sym, subst, ◌∙◌}
use Rattle.tce_spec.specs.Outcome.{IsOutcome}
use Rattle.tce_spec.proofs.Outcomes.{canonical_outcome}
use Rattle.tce_spec.proofs.ReadBack.{answers_same, answers_memory}
use Rattle.tce_spec.proofs.canonical_texts.read_back.Goals as goal

pub returns-clause-same : goal.returns-clause-same
returns-clause-same c =
    answers_same c.args.spec.now c.read_spec.result
    (c.read_spec.ensures.answers (Ok c.args.spec.now)
    (subst (λ (text : List ℕ). IsOutcome text (Ok c.args.spec.now)) (sym (c.as_slice.ensures.value ∙ c.in_ok-text.ensures)) (canonical_outcome c.args.spec.now (record { rules = c.expr-expr.ensures.rules; names = c.requires }))))

pub returns-clause-memory : goal.returns-clause-memory
returns-clause-memory c =
    answers_memory c.args.spec.now c.read_spec.result
    (c.read_spec.ensures.answers (Ok c.args.spec.now)
    (subst (λ (text : List ℕ). IsOutcome text (Ok c.args.spec.now)) (sym (c.as_slice.ensures.value ∙ c.in_ok-text.ensures)) (canonical_outcome c.args.spec.now (record { rules = c.expr-expr.ensures.rules; names = c.requires }))))
