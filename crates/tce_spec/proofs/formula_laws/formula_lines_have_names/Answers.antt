use Rattle.tce_spec.proofs.LineNames.{line_names}
use Rattle.tce_spec.proofs.formula_laws.formula_lines_have_names.Goals as goal

pub returns : goal.returns
returns c = line_names
