use Rattle.tce_spec.proofs.LineNames.{line_names}
use Rattle.tests_language.proofs.canonical.printed.Goals as goal

pub read_formula-found-requires-clause-written : goal.read_formula-found-requires-clause-written
read_formula-found-requires-clause-written c = (line_names _ _ _ _ c.in-Ok.ensures.said).2
