use Rattle.std.proofs.Common.{sym, subst}
use Rattle.tce_spec.specs.Declarations.{Declarations}
use Rattle.tce_run.specs.Told.{IsToldOver, NamesOneOf}
use Rattle.tce_run.proofs.Told.{declared_over}
use Rattle.tce_run.proofs.refusals.refusal_of.Goals as goal

pub refusal_over-requires-clause-declared : goal.refusal_over-requires-clause-declared
refusal_over-requires-clause-declared c =
    subst (λ (d : Declarations). NamesOneOf d c.args.fault) (sym c.declarations.ensures.declarations) (declared_over c.args.spec.now c.args.fault c.requires.declared)

pub returns : goal.returns
returns c = subst (λ (d : Declarations). IsToldOver d c.args.fault c.refusal_over.result) c.declarations.ensures.declarations c.refusal_over.ensures
