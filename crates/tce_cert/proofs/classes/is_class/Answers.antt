use Rattle.tce_cert.proofs.Stated.{class_told}
use Rattle.tce_cert.proofs.classes.is_class.Goals as goal

pub returns-in-Some : goal.returns-in-Some
returns-in-Some c = class_told c.args.text.now c.in-Some.names.items c.is_empty.result c.in-Some.ensures c.is_empty.ensures
