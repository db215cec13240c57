use Rattle.tce_einsum.specs.Code as code
use Rattle.tce_einsum.specs.Produced as produced
use Rattle.tce_einsum.proofs.Loops.{mapped_next}
use Rattle.std.proofs.lemmas.Result.{IfOk-from_err}
use Rattle.tce_einsum.proofs.formula.letters_of.Goals as goal

pub loop-rest-preserved : goal.loop-rest-preserved
loop-rest-preserved c =
    mapped_next (produced.label_at (code.sizes c.args.sizes.now)) c.loop-rest.found.items c.push.new.self.items _ c.loop-rest.rest.now _ c.label_at.result
    c.in-len1-up.len_at_least c.in_ok-push.ensures.items c.label_at.ensures c.loop-rest.invariant

pub returns-in_err-push : goal.returns-in_err-push
returns-in_err-push c = IfOk-from_err c.from_residual.result _ c.from_residual.ensures.0
