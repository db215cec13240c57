use Rattle.tce_cert.proofs.Stated.{some_told}
use Rattle.tce_cert.proofs.forms.has_memory_form.Goals as goal

pub returns : goal.returns
returns c = some_told c.read_memory_line.result c.is_some.result c.is_some.ensures c.read_memory_line.ensures
