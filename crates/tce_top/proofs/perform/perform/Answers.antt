use Rattle.std.proofs.Common.{◌≡◌, ◌≢◌, refl, ap, subst}
use Rattle.std.specs.Prelude.{string_bytes, vec_items}
use Rattle.tce_command.specs.Command.{KeepsRules}
use Rattle.tce_command.specs.CommandCode.{command_of}
use Rattle.tce_command.specs.declared.refusal.Refusal.TheVariants.{Disk}
use Rattle.tce_top.proofs.Carried.{if_err}
use Rattle.tce_top.proofs.Calls.{calls, verifies, quiet_plan, quiet_cert, quiet_pack, quiet_unpack, quiet_convert, quiet_expand, quiet_einsum}
use Rattle.tce_top.proofs.Runs.{runs, batches, spills, demonstrates}
use Rattle.tce_top.proofs.perform.perform.Goals as goal

pub returns-in-Run-clause-done : goal.returns-in-Run-clause-done
returns-in-Run-clause-done g c = (runs vec_items vec_items _ _ _ c.run.result c.of_report.result _ _ (ap command_of c.in-Run.is) c.of_report.ensures c.run.ensures.done c.run.ensures.refused c.run.ensures.unchanged c.run.ensures.takings c.run.ensures.others (record { cause = c.run.ensures.fault_reported.cause; told = c.run.ensures.fault_reported.quiet })).done

pub returns-in-Run-clause-refused : goal.returns-in-Run-clause-refused
returns-in-Run-clause-refused g c = (runs vec_items vec_items _ _ _ c.run.result c.of_report.result _ _ (ap command_of c.in-Run.is) c.of_report.ensures c.run.ensures.done c.run.ensures.refused c.run.ensures.unchanged c.run.ensures.takings c.run.ensures.others (record { cause = c.run.ensures.fault_reported.cause; told = c.run.ensures.fault_reported.quiet })).refused

pub returns-in-Batch-clause-done : goal.returns-in-Batch-clause-done
returns-in-Batch-clause-done g c = (batches vec_items vec_items _ _ _ c.run_all.result c.of_report-in-Batch.result _ _ (ap command_of c.in-Batch.is) c.of_report-in-Batch.ensures c.run_all.ensures.done c.run_all.ensures.refused c.run_all.ensures.left c.run_all.ensures.takings c.run_all.ensures.others (record { cause = c.run_all.ensures.fault_reported.cause; told = c.run_all.ensures.fault_reported.quiet })).done

pub returns-in-Batch-clause-refused : goal.returns-in-Batch-clause-refused
returns-in-Batch-clause-refused g c = (batches vec_items vec_items _ _ _ c.run_all.result c.of_report-in-Batch.result _ _ (ap command_of c.in-Batch.is) c.of_report-in-Batch.ensures c.run_all.ensures.done c.run_all.ensures.refused c.run_all.ensures.left c.run_all.ensures.takings c.run_all.ensures.others (record { cause = c.run_all.ensures.fault_reported.cause; told = c.run_all.ensures.fault_reported.quiet })).refused

pub returns-in-Spill-clause-done : goal.returns-in-Spill-clause-done
returns-in-Spill-clause-done g c = (spills vec_items vec_items _ _ _ c.spill.result c.of_report-in-Spill.result _ _ _ (ap command_of c.in-Spill.is) c.of_report-in-Spill.ensures c.spill.ensures.done c.spill.ensures.refused c.spill.ensures.left c.spill.ensures.takings c.spill.ensures.others (record { cause = c.spill.ensures.fault_reported.cause; told = c.spill.ensures.fault_reported.quiet })).done

pub returns-in-Spill-clause-refused : goal.returns-in-Spill-clause-refused
returns-in-Spill-clause-refused g c = (spills vec_items vec_items _ _ _ c.spill.result c.of_report-in-Spill.result _ _ _ (ap command_of c.in-Spill.is) c.of_report-in-Spill.ensures c.spill.ensures.done c.spill.ensures.refused c.spill.ensures.left c.spill.ensures.takings c.spill.ensures.others (record { cause = c.spill.ensures.fault_reported.cause; told = c.spill.ensures.fault_reported.quiet })).refused

pub returns-in-Plan-clause-done : goal.returns-in-Plan-clause-done
returns-in-Plan-clause-done g c = (calls vec_items vec_items _ _ _ _ c.plan.result c.of_report-in-Plan.result _ _ (ap command_of c.in-Plan.is) (quiet_plan _) c.of_report-in-Plan.ensures c.plan.ensures.done c.plan.ensures.refused
    (record { done = λ report it. (it, c.plan.ensures.unchanged, refl); possible = λ r why. why.0; refused = λ r why. why.1; unchanged = if_err (λ r. r ≢ Disk → g.D.Disk.files c.plan.new.disk ≡ g.D.Disk.files c.args.disk.now) c.plan.result (λ r other. c.plan.ensures.unchanged); untaken = refl; no_half = tt; others = c.plan.ensures.unchanged; cause = c.plan.ensures.fault_reported.cause; told = c.plan.ensures.fault_reported.quiet })).done

pub returns-in-Plan-clause-refused : goal.returns-in-Plan-clause-refused
returns-in-Plan-clause-refused g c = (calls vec_items vec_items _ _ _ _ c.plan.result c.of_report-in-Plan.result _ _ (ap command_of c.in-Plan.is) (quiet_plan _) c.of_report-in-Plan.ensures c.plan.ensures.done c.plan.ensures.refused
    (record { done = λ report it. (it, c.plan.ensures.unchanged, refl); possible = λ r why. why.0; refused = λ r why. why.1; unchanged = if_err (λ r. r ≢ Disk → g.D.Disk.files c.plan.new.disk ≡ g.D.Disk.files c.args.disk.now) c.plan.result (λ r other. c.plan.ensures.unchanged); untaken = refl; no_half = tt; others = c.plan.ensures.unchanged; cause = c.plan.ensures.fault_reported.cause; told = c.plan.ensures.fault_reported.quiet })).refused

pub returns-in-Cert-clause-done : goal.returns-in-Cert-clause-done
returns-in-Cert-clause-done g c = (calls string_bytes vec_items _ _ _ _ c.certify.result c.of_text.result _ _ (ap command_of c.in-Cert.is) (quiet_cert _ _) c.of_text.ensures c.certify.ensures.done c.certify.ensures.refused
    (record { done = λ report it. (it, refl); possible = λ r why. why.0; refused = λ r why. why.1; unchanged = c.certify.ensures.unchanged; untaken = refl; no_half = tt; others = c.certify.ensures.others; cause = c.certify.ensures.fault_reported.cause; told = c.certify.ensures.fault_reported.quiet })).done

pub returns-in-Cert-clause-refused : goal.returns-in-Cert-clause-refused
returns-in-Cert-clause-refused g c = (calls string_bytes vec_items _ _ _ _ c.certify.result c.of_text.result _ _ (ap command_of c.in-Cert.is) (quiet_cert _ _) c.of_text.ensures c.certify.ensures.done c.certify.ensures.refused
    (record { done = λ report it. (it, refl); possible = λ r why. why.0; refused = λ r why. why.1; unchanged = c.certify.ensures.unchanged; untaken = refl; no_half = tt; others = c.certify.ensures.others; cause = c.certify.ensures.fault_reported.cause; told = c.certify.ensures.fault_reported.quiet })).refused

pub returns-in-Check-clause-done : goal.returns-in-Check-clause-done
returns-in-Check-clause-done g c = (verifies string_bytes vec_items _ _ _ c.verify.result c.of_verdict.result _ _ (ap command_of c.in-Check.is) c.of_verdict.ensures c.verify.ensures.done c.verify.ensures.refused c.verify.ensures.line c.verify.ensures.unchanged refl c.verify.ensures.fault_reported.cause c.verify.ensures.fault_reported.quiet).done

pub returns-in-Check-clause-refused : goal.returns-in-Check-clause-refused
returns-in-Check-clause-refused g c = (verifies string_bytes vec_items _ _ _ c.verify.result c.of_verdict.result _ _ (ap command_of c.in-Check.is) c.of_verdict.ensures c.verify.ensures.done c.verify.ensures.refused c.verify.ensures.line c.verify.ensures.unchanged refl c.verify.ensures.fault_reported.cause c.verify.ensures.fault_reported.quiet).refused

pub returns-in-Pack-clause-done : goal.returns-in-Pack-clause-done
returns-in-Pack-clause-done g c = (calls string_bytes vec_items _ _ _ _ c.pack.result c.of_text-in-Pack.result _ _ (ap command_of c.in-Pack.is) (quiet_pack _ _ _) c.of_text-in-Pack.ensures c.pack.ensures.done c.pack.ensures.refused
    (record { done = λ report it. (it, refl); possible = λ r why. why.0; refused = λ r why. why.1; unchanged = c.pack.ensures.unchanged; untaken = refl; no_half = c.pack.ensures.no_half; others = c.pack.ensures.others; cause = c.pack.ensures.fault_reported.cause; told = c.pack.ensures.fault_reported.quiet })).done

pub returns-in-Pack-clause-refused : goal.returns-in-Pack-clause-refused
returns-in-Pack-clause-refused g c = (calls string_bytes vec_items _ _ _ _ c.pack.result c.of_text-in-Pack.result _ _ (ap command_of c.in-Pack.is) (quiet_pack _ _ _) c.of_text-in-Pack.ensures c.pack.ensures.done c.pack.ensures.refused
    (record { done = λ report it. (it, refl); possible = λ r why. why.0; refused = λ r why. why.1; unchanged = c.pack.ensures.unchanged; untaken = refl; no_half = c.pack.ensures.no_half; others = c.pack.ensures.others; cause = c.pack.ensures.fault_reported.cause; told = c.pack.ensures.fault_reported.quiet })).refused

pub returns-in-Unpack-clause-done : goal.returns-in-Unpack-clause-done
returns-in-Unpack-clause-done g c = (calls string_bytes vec_items _ _ _ _ c.unpack.result c.of_text-in-Unpack.result _ _ (ap command_of c.in-Unpack.is) (quiet_unpack _ _ _) c.of_text-in-Unpack.ensures c.unpack.ensures.done c.unpack.ensures.refused
    (record { done = λ report it. (it, refl); possible = λ r why. why.0; refused = λ r why. why.1; unchanged = c.unpack.ensures.unchanged; untaken = refl; no_half = c.unpack.ensures.no_half; others = c.unpack.ensures.others; cause = c.unpack.ensures.fault_reported.cause; told = c.unpack.ensures.fault_reported.quiet })).done

pub returns-in-Unpack-clause-refused : goal.returns-in-Unpack-clause-refused
returns-in-Unpack-clause-refused g c = (calls string_bytes vec_items _ _ _ _ c.unpack.result c.of_text-in-Unpack.result _ _ (ap command_of c.in-Unpack.is) (quiet_unpack _ _ _) c.of_text-in-Unpack.ensures c.unpack.ensures.done c.unpack.ensures.refused
    (record { done = λ report it. (it, refl); possible = λ r why. why.0; refused = λ r why. why.1; unchanged = c.unpack.ensures.unchanged; untaken = refl; no_half = c.unpack.ensures.no_half; others = c.unpack.ensures.others; cause = c.unpack.ensures.fault_reported.cause; told = c.unpack.ensures.fault_reported.quiet })).refused

pub returns-in-Convert-clause-done : goal.returns-in-Convert-clause-done
returns-in-Convert-clause-done g c = (calls string_bytes vec_items _ _ _ _ c.convert.result c.of_text-in-Convert.result _ _ (ap command_of c.in-Convert.is) (quiet_convert _ _ _) c.of_text-in-Convert.ensures c.convert.ensures.done c.convert.ensures.refused
    (record { done = λ report it. (it, refl); possible = λ r why. why.0; refused = λ r why. why.1; unchanged = c.convert.ensures.unchanged; untaken = refl; no_half = c.convert.ensures.no_half; others = c.convert.ensures.others; cause = c.convert.ensures.fault_reported.cause; told = c.convert.ensures.fault_reported.quiet })).done

pub returns-in-Convert-clause-refused : goal.returns-in-Convert-clause-refused
returns-in-Convert-clause-refused g c = (calls string_bytes vec_items _ _ _ _ c.convert.result c.of_text-in-Convert.result _ _ (ap command_of c.in-Convert.is) (quiet_convert _ _ _) c.of_text-in-Convert.ensures c.convert.ensures.done c.convert.ensures.refused
    (record { done = λ report it. (it, refl); possible = λ r why. why.0; refused = λ r why. why.1; unchanged = c.convert.ensures.unchanged; untaken = refl; no_half = c.convert.ensures.no_half; others = c.convert.ensures.others; cause = c.convert.ensures.fault_reported.cause; told = c.convert.ensures.fault_reported.quiet })).refused

pub returns-in-Expand-clause-done : goal.returns-in-Expand-clause-done
returns-in-Expand-clause-done g c = (calls string_bytes vec_items _ _ _ _ c.expand.result c.of_text-in-Expand.result _ _ (ap command_of c.in-Expand.is) (quiet_expand _ _) c.of_text-in-Expand.ensures c.expand.ensures.done c.expand.ensures.refused
    (record { done = λ report it. (it, refl); possible = λ r why. why.0; refused = λ r why. why.1; unchanged = c.expand.ensures.unchanged; untaken = refl; no_half = c.expand.ensures.no_half; others = c.expand.ensures.others; cause = c.expand.ensures.fault_reported.cause; told = c.expand.ensures.fault_reported.quiet })).done

pub returns-in-Expand-clause-refused : goal.returns-in-Expand-clause-refused
returns-in-Expand-clause-refused g c = (calls string_bytes vec_items _ _ _ _ c.expand.result c.of_text-in-Expand.result _ _ (ap command_of c.in-Expand.is) (quiet_expand _ _) c.of_text-in-Expand.ensures c.expand.ensures.done c.expand.ensures.refused
    (record { done = λ report it. (it, refl); possible = λ r why. why.0; refused = λ r why. why.1; unchanged = c.expand.ensures.unchanged; untaken = refl; no_half = c.expand.ensures.no_half; others = c.expand.ensures.others; cause = c.expand.ensures.fault_reported.cause; told = c.expand.ensures.fault_reported.quiet })).refused

pub returns-in-Einsum-clause-done : goal.returns-in-Einsum-clause-done
returns-in-Einsum-clause-done g c = (calls string_bytes vec_items _ _ _ _ c.write_einsum.result c.of_text-in-Einsum.result _ _ (ap command_of c.in-Einsum.is) (quiet_einsum _ _ _) c.of_text-in-Einsum.ensures c.write_einsum.ensures.done c.write_einsum.ensures.refused
    (record { done = λ report it. (it, refl); possible = λ r why. why; refused = λ r why files told. why; unchanged = c.write_einsum.ensures.unchanged; untaken = refl; no_half = tt; others = c.write_einsum.ensures.others; cause = c.write_einsum.ensures.fault_reported.cause; told = c.write_einsum.ensures.fault_reported.quiet })).done

pub returns-in-Einsum-clause-refused : goal.returns-in-Einsum-clause-refused
returns-in-Einsum-clause-refused g c = (calls string_bytes vec_items _ _ _ _ c.write_einsum.result c.of_text-in-Einsum.result _ _ (ap command_of c.in-Einsum.is) (quiet_einsum _ _ _) c.of_text-in-Einsum.ensures c.write_einsum.ensures.done c.write_einsum.ensures.refused
    (record { done = λ report it. (it, refl); possible = λ r why. why; refused = λ r why files told. why; unchanged = c.write_einsum.ensures.unchanged; untaken = refl; no_half = tt; others = c.write_einsum.ensures.others; cause = c.write_einsum.ensures.fault_reported.cause; told = c.write_einsum.ensures.fault_reported.quiet })).refused

pub returns-in-Demo-clause-done : goal.returns-in-Demo-clause-done
returns-in-Demo-clause-done g c = (demonstrates string_bytes vec_items _ _ _ c.demo.result c.of_text-in-Demo.result _ _ _ (ap command_of c.in-Demo.is) c.of_text-in-Demo.ensures c.demo.ensures.done c.demo.ensures.refused c.demo.ensures.as_run c.demo.ensures.takings c.demo.ensures.no_half c.demo.ensures.others (record { cause = c.demo.ensures.fault_reported.cause; told = c.demo.ensures.fault_reported.quiet })).done

pub returns-in-Demo-clause-refused : goal.returns-in-Demo-clause-refused
returns-in-Demo-clause-refused g c = (demonstrates string_bytes vec_items _ _ _ c.demo.result c.of_text-in-Demo.result _ _ _ (ap command_of c.in-Demo.is) c.of_text-in-Demo.ensures c.demo.ensures.done c.demo.ensures.refused c.demo.ensures.as_run c.demo.ensures.takings c.demo.ensures.no_half c.demo.ensures.others (record { cause = c.demo.ensures.fault_reported.cause; told = c.demo.ensures.fault_reported.quiet })).refused

pub run-requires-clause-spec : goal.run-requires-clause-spec
run-requires-clause-spec g c = (subst KeepsRules (ap command_of c.in-Run.is) c.requires).0

pub run-requires-clause-budget : goal.run-requires-clause-budget
run-requires-clause-budget g c = (subst KeepsRules (ap command_of c.in-Run.is) c.requires).1

pub run_all-requires-clause-spec : goal.run_all-requires-clause-spec
run_all-requires-clause-spec g c = (subst KeepsRules (ap command_of c.in-Batch.is) c.requires).0

pub run_all-requires-clause-budget : goal.run_all-requires-clause-budget
run_all-requires-clause-budget g c = (subst KeepsRules (ap command_of c.in-Batch.is) c.requires).1

pub spill-requires-clause-spec : goal.spill-requires-clause-spec
spill-requires-clause-spec g c = (subst KeepsRules (ap command_of c.in-Spill.is) c.requires).0

pub spill-requires-clause-budget : goal.spill-requires-clause-budget
spill-requires-clause-budget g c = (subst KeepsRules (ap command_of c.in-Spill.is) c.requires).1

pub spill-requires-clause-limit : goal.spill-requires-clause-limit
spill-requires-clause-limit g c = (subst KeepsRules (ap command_of c.in-Spill.is) c.requires).2

pub certify-requires-clause-spec : goal.certify-requires-clause-spec
certify-requires-clause-spec g c = (subst KeepsRules (ap command_of c.in-Cert.is) c.requires).0

pub certify-requires-clause-cert : goal.certify-requires-clause-cert
certify-requires-clause-cert g c = (subst KeepsRules (ap command_of c.in-Cert.is) c.requires).1

pub verify-requires-clause-spec : goal.verify-requires-clause-spec
verify-requires-clause-spec g c = (subst KeepsRules (ap command_of c.in-Check.is) c.requires).0

pub verify-requires-clause-cert : goal.verify-requires-clause-cert
verify-requires-clause-cert g c = (subst KeepsRules (ap command_of c.in-Check.is) c.requires).1

pub demo-requires-clause-seed : goal.demo-requires-clause-seed
demo-requires-clause-seed g c = (subst KeepsRules (ap command_of c.in-Demo.is) c.requires).0

pub demo-requires-clause-v : goal.demo-requires-clause-v
demo-requires-clause-v g c = (subst KeepsRules (ap command_of c.in-Demo.is) c.requires).1

pub demo-requires-clause-o : goal.demo-requires-clause-o
demo-requires-clause-o g c = (subst KeepsRules (ap command_of c.in-Demo.is) c.requires).2

pub plan-requires : goal.plan-requires
plan-requires g c = subst KeepsRules (ap command_of c.in-Plan.is) c.requires

pub pack-requires : goal.pack-requires
pack-requires g c = subst KeepsRules (ap command_of c.in-Pack.is) c.requires

pub unpack-requires : goal.unpack-requires
unpack-requires g c = subst KeepsRules (ap command_of c.in-Unpack.is) c.requires

pub convert-requires : goal.convert-requires
convert-requires g c = subst KeepsRules (ap command_of c.in-Convert.is) c.requires

pub expand-requires : goal.expand-requires
expand-requires g c = subst KeepsRules (ap command_of c.in-Expand.is) c.requires
