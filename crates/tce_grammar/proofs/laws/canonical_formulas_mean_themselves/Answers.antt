use Rattle.tce_grammar.proofs.WrittenForms.{written_is, written_meaning, written_depth}
use Rattle.tce_grammar.proofs.laws.canonical_formulas_mean_themselves.Goals as goal

pub returns : goal.returns
returns c = λ f is. (written_is f is, written_meaning f, written_depth f)
