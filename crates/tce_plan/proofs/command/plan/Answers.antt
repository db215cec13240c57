use Rattle.std.proofs.Common.{refl}
use Rattle.std.proofs.lemmas.Result.{IfOk-weaker, IfErr-weaker}
use Rattle.tce_command.proofs.Outcomes.{ok_no_disk}
use Rattle.tce_plan.proofs.Planned.{memory_refused, no_failure}
use Rattle.tce_plan.proofs.command.plan.Goals as goal

pub returns-clause-done : goal.returns-clause-done
returns-clause-done g c =
    IfOk-weaker c.plan_source-made.result _ _
    (λ report planned. record { specification = c.in_ok-source.source; specified = c.in_ok-source.ensures.read; planned = planned }) c.plan_source-made.ensures.done

pub returns-clause-refused : goal.returns-clause-refused
returns-clause-refused g c = IfErr-weaker c.plan_source-made.result _ _ (memory_refused (g.D.Disk.files c.args.disk.now) c.args.spec.now) c.plan_source-made.ensures.refused

pub returns-clause-fault_reported : goal.returns-clause-fault_reported
returns-clause-fault_reported g c = record {
  cause = record { later = c.in_ok-source.ensures.fault_reported.cause.later; rose = λ failed. absurd (no_failure c.plan_source-made.result c.plan_source-made.ensures.refused failed) };
  quiet = λ none. c.in_ok-source.ensures.fault_reported.quiet (ok_no_disk c.in_ok-source.source _ refl);
}
