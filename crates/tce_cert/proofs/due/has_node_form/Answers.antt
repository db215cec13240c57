use Rattle.std.proofs.Common.{◌<◌, arith, refl}
use Rattle.tce_tree.specs.ContractionTree.{operations}
use Rattle.tce_report.specs.ReadLine.{said}
use Rattle.tce_cert.proofs.DueLines.{says_form}
use Rattle.tce_cert.proofs.due.has_node_form.Goals as goal

pub returns-in-Ok : goal.returns-in-Ok
returns-in-Ok c = let inside : 0 < operations c.args.tree.now = omega (arith, c.count-count.ensures.positive, c.count-count.ensures.value) in (
  (λ t. says_form c.args.space.now c.args.tree.now 0 c.args.line.now (said c.in-Ok.field-0) c.index_count-declared.ensures.limits c.count-count.ensures.kept c.requires inside
      ((c.in-Ok.ensures.read (said c.in-Ok.field-0)).0 refl)),
  (λ h. refl),
)
