use Rattle.tce_grammar.proofs.CanonicalLines.{canonical_text_says}
use Rattle.tce_grammar.proofs.laws.canonical_texts_say_their_statements.Goals as goal

pub returns : goal.returns
returns c = canonical_text_says
