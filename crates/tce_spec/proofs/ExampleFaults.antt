-- Each example computes.
use Rattle.std.proofs.Common.{◌≡◌, List, [], ◌∷◌, Some, refl}
use Rattle.std.specs.List.{AllByRecursion}
use Rattle.tce_space.specs.Name.{is_name}
use Rattle.tce_space.specs.IndexSet.{has, union, minus, with_index, members, count, volume}
use Rattle.tce_grammar.specs.Lines.{without_comment}
use Rattle.tce_grammar.specs.Tokens.{tokens}
use Rattle.tce_grammar.specs.Grammar.{Line, IsLine}
use Rattle.tce_grammar.specs.Reading.{line_of, statement_of, enclosed_within, chain_at}
use Rattle.tce_grammar.proofs.OneReading.{line_is}
use Rattle.tce_tree.specs.Faults.{fault_of, sum_fault, loops_fault}
use Rattle.tce_spec.specs.FormulaExamples.{Example, examples, line_fault, MeaningExample, meaning_examples, line_meaning}

faults_computed : AllByRecursion (λ (e : Example). line_fault (line_of e.text) ≡ e.fault) examples
unfolding line_of without_comment tokens statement_of enclosed_within chain_at is_name fault_of sum_fault loops_fault has union minus with_index members count volume
faults_computed = (refl, (refl, (refl, (refl, (refl, (refl, (refl, (refl, (refl, (refl, (refl, (refl, (refl, (refl, (refl, (refl, (refl, (refl, (refl, (refl, (refl, (refl, (refl, (refl, (refl, (refl, (refl, (refl, (refl, (refl, (refl, (refl, (refl, (refl, (refl, (refl, (refl, tt)))))))))))))))))))))))))))))))))))))

meanings_computed : AllByRecursion (λ (e : MeaningExample). line_meaning (line_of e.text) ≡ Some e.of_tree) meaning_examples
unfolding line_of without_comment tokens statement_of enclosed_within chain_at is_name
meanings_computed = (refl, (refl, (refl, (refl, tt))))

faults_read : (es : List Example) → AllByRecursion (λ (e : Example). line_fault (line_of e.text) ≡ e.fault) es
    → AllByRecursion (λ (e : Example). (l : Line) × IsLine e.text l × (line_fault l ≡ e.fault)) es
faults_read [] are = tt
faults_read (e ∷ es) are = ((line_of e.text, line_is e.text, are.0), faults_read es are.1)

meanings_read : (es : List MeaningExample) → AllByRecursion (λ (e : MeaningExample). line_meaning (line_of e.text) ≡ Some e.of_tree) es
    → AllByRecursion (λ (e : MeaningExample). (l : Line) × IsLine e.text l × (line_meaning l ≡ Some e.of_tree)) es
meanings_read [] are = tt
meanings_read (e ∷ es) are = ((line_of e.text, line_is e.text, are.0), meanings_read es are.1)

pub examples_faulty : AllByRecursion (λ (e : Example). (l : Line) × IsLine e.text l × (line_fault l ≡ e.fault)) examples
examples_faulty = faults_read examples faults_computed

pub examples_meant : AllByRecursion (λ (e : MeaningExample). (l : Line) × IsLine e.text l × (line_meaning l ≡ Some e.of_tree)) meaning_examples
examples_meant = meanings_read meaning_examples meanings_computed
