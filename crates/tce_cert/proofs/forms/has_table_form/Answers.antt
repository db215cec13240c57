use Rattle.tce_cert.proofs.Stated.{some_told}
use Rattle.tce_cert.proofs.forms.has_table_form.Goals as goal

pub returns : goal.returns
returns c =
    let told = some_told c.read_table_line.result c.is_some.result c.is_some.ensures c.read_table_line.ensures in
    ((λ t. let h = told.0 t in (h.0.0, (h.0.1, h.1))), (λ h. told.1 ((h.0, h.1.0), h.1.1)))
