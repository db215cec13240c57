-- Each example computes.
use Rattle.std.proofs.Common.{◌≡◌, List, [], ◌∷◌, refl}
use Rattle.std.specs.List.{AllByRecursion}
use Rattle.tce_space.specs.Name.{is_name}
use Rattle.tce_grammar.specs.Lines.{lines, without_comment}
use Rattle.tce_grammar.specs.Tokens.{tokens}
use Rattle.tce_grammar.specs.Grammar.{says}
use Rattle.tce_grammar.specs.Reading.{line_of, statement_of, enclosed_within, chain_at}
use Rattle.tce_grammar.specs.Canonical.{canonical_line}
use Rattle.tce_grammar.specs.Examples.{Example, examples, TextExample, text_examples, CanonicalExample, canonical_examples}

pub examples_read : AllByRecursion (λ (e : Example). line_of e.text ≡ e.of_line) examples
unfolding line_of without_comment tokens statement_of enclosed_within chain_at is_name
examples_read = (refl, (refl, (refl, (refl, (refl, (refl, (refl, (refl, (refl, (refl, (refl, (refl, (refl, (refl, (refl, (refl, (refl, (refl, (refl, (refl, (refl, (refl, (refl, (refl, (refl, (refl, (refl, (refl, (refl, (refl, (refl, (refl, (refl, (refl, (refl, (refl, (refl, (refl, (refl, (refl, (refl, (refl, (refl, (refl, (refl, (refl, (refl, (refl, (refl, (refl, (refl, (refl, (refl, (refl, (refl, (refl, (refl, (refl, tt))))))))))))))))))))))))))))))))))))))))))))))))))))))))))

pub text_examples_cut : AllByRecursion (λ (e : TextExample). lines e.text ≡ e.of_lines) text_examples
unfolding lines
text_examples_cut = (refl, (refl, (refl, (refl, (refl, (refl, (refl, (refl, tt))))))))

pub canonical_examples_read : AllByRecursion (λ (e : CanonicalExample). (line_of e.text ≡ says e.of_line) × (canonical_line e.of_line ≡ e.canonical)) canonical_examples
unfolding line_of without_comment tokens statement_of enclosed_within chain_at is_name
canonical_examples_read = ((refl, refl), ((refl, refl), ((refl, refl), ((refl, refl), ((refl, refl), ((refl, refl), ((refl, refl), tt)))))))

pub all_weaker : {A : Type 0} (P Q : A → Type 0) → ((x : A) → P x → Q x) → (xs : List A) → AllByRecursion P xs → AllByRecursion Q xs
all_weaker P Q weaker [] are = tt
all_weaker P Q weaker (x ∷ xs) are = (weaker x are.0, all_weaker P Q weaker xs are.1)
