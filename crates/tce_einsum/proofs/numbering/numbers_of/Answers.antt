use Rattle.std.proofs.Common.{◌<◌, All, sym, subst}
use Rattle.std.proofs.lemmas.List.Elements.{All-push}
use Rattle.tce_einsum.specs.Code as code
use Rattle.tce_einsum.specs.Numbered as model
use Rattle.tce_einsum.proofs.Loops.{mapped_next}
use Rattle.std.proofs.lemmas.Result.{IfOk-from_err}
use Rattle.tce_einsum.proofs.numbering.numbers_of.Goals as goal

pub loop-rest-preserved : goal.loop-rest-preserved
loop-rest-preserved c = record {
  numbers = mapped_next (model.number_of (code.sizes c.args.sizes.now)) c.loop-rest.found.items c.push.new.self.items _ c.loop-rest.rest.now _ c.number_of.result
      c.in-len1-up.len_at_least c.in_ok-push.ensures.items c.number_of.ensures.number c.loop-rest.invariant.numbers;
  below = subst (All (λ i. i < 32)) (sym c.in_ok-push.ensures.items)
      (All-push (λ i. i < 32) c.loop-rest.found.items c.number_of.result c.loop-rest.invariant.below c.number_of.ensures.below);
}

pub returns-in_err-push-clause-numbers : goal.returns-in_err-push-clause-numbers
returns-in_err-push-clause-numbers c = IfOk-from_err c.from_residual.result _ c.from_residual.ensures.0

pub returns-in_err-push-clause-below : goal.returns-in_err-push-clause-below
returns-in_err-push-clause-below c = IfOk-from_err c.from_residual.result _ c.from_residual.ensures.0
