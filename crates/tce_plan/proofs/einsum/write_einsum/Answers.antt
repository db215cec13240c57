use Rattle.std.proofs.Common.{◌≡◌, subst, List, ℕ, Ok, Err, arith, rules}
use Rattle.std.proofs.lemmas.Result.{IfOk-weaker, IfErr-weaker}
use Rattle.tce_einsum.specs.Answer.{AnswersEinsum}
use Rattle.tce_einsum.specs.HasValue.{HasValueOfEinsum}
use Rattle.tce_command.specs.declared.refusal.Refusal.TheVariants.{Disk}
use Rattle.tce_plan.proofs.EinsumFiles.{written_einsum}
use Rattle.tce_plan.proofs.Free.{free_of_einsum}
use Rattle.tce_plan.proofs.einsum.write_einsum.Goals as goal

pub returns-in-Err-clause-refused : goal.returns-in-Err-clause-refused
returns-in-Err-clause-refused g c =
    c.refusal_of.ensures.told c.args.text.now c.args.path.now
    (subst (λ (t : List ℕ). AnswersEinsum t c.args.path.now (Err c.in-Err.fault)) c.as_bytes.ensures.value
    (subst (λ (p : List ℕ). AnswersEinsum c.as_bytes.result.now p (Err c.in-Err.fault)) c.as_bytes-2.ensures.value c.in-Err.ensures.answers))

pub returns-in-Err-clause-fault_reported : goal.returns-in-Err-clause-fault_reported
returns-in-Err-clause-fault_reported g c = record {
  cause = record {
    later = omega arith;
    rose = λ e. let same : c.refusal_of.result ≡ Disk = cc in absurd (c.refusal_of.ensures.no_disk same);
  };
  quiet = search rules;
}

pub returns-clause-done : goal.returns-clause-done
returns-clause-done g c =
    IfOk-weaker c.write_produced-done.result _ _
    (λ report written. written_einsum _ _ _ _ _ _ c.in-Ok.produced
    (subst (λ (t : List ℕ). AnswersEinsum t c.args.path.now (Ok c.in-Ok.produced)) c.as_bytes.ensures.value
    (subst (λ (p : List ℕ). AnswersEinsum c.as_bytes.result.now p (Ok c.in-Ok.produced)) c.as_bytes-2.ensures.value c.in-Ok.ensures.answers))
    (subst (λ (t : List ℕ). HasValueOfEinsum t c.args.path.now c.in-Ok.produced) c.as_bytes.ensures.value
    (subst (λ (p : List ℕ). HasValueOfEinsum c.as_bytes.result.now p c.in-Ok.produced) c.as_bytes-2.ensures.value c.in-Ok.ensures.value))
    written)
    c.write_produced-done.ensures.done

pub returns-clause-refused : goal.returns-clause-refused
returns-clause-refused g c = IfErr-weaker c.write_produced-done.result _ _ (free_of_einsum c.args.text.now c.args.path.now) c.write_produced-done.ensures.free
