use Rattle.std.proofs.Common.{subst, sym}
use Rattle.tce_array.specs.declared.form.Form.{Form}
use Rattle.tce_tools.specs.Told.{AllFit, IsFirstMisfitIn}
use Rattle.tce_tools.proofs.conversion.misfit_for.Goals as goal

pub returns-in-Narrow-clause-none : goal.returns-in-Narrow-clause-none
returns-in-Narrow-clause-none g c = λ none narrow. subst (λ (w : Form). AllFit w (g.D.Disk.files c.args.disk.now) c.args.name.now c.args.form c.args.shape.now) (sym narrow) (c.find_misfit.ensures.none none)

pub returns-in-Narrow-clause-some : goal.returns-in-Narrow-clause-some
returns-in-Narrow-clause-some g c = λ k some. (c.in-Narrow.is, subst (λ (w : Form). IsFirstMisfitIn w (g.D.Disk.files c.args.disk.now) c.args.name.now c.args.form c.args.shape.now k) (sym c.in-Narrow.is) (c.find_misfit.ensures.some k some))

pub returns-in-Narrow-clause-same : goal.returns-in-Narrow-clause-same
returns-in-Narrow-clause-same g c = c.find_misfit.ensures.same

pub returns-in-Narrow-clause-fault_reported : goal.returns-in-Narrow-clause-fault_reported
returns-in-Narrow-clause-fault_reported g c = c.find_misfit.ensures.fault_reported
