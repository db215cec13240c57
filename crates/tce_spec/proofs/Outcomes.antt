-- What the canonical text of a specification specifies.
use Rattle.std.proofs.Common.{Result, ◌≡◌, ℕ, zero, suc, ◌+◌, ◌<◌, ◌≤◌, ◌^◌, false, IsTrue, List, [], ◌∷◌, ◌++◌, length, map, drop, cond, Ok, Err, refl, sym, ap, subst, ◌∙◌, arith, nat_lt, length-append}
use Rattle.std.specs.List.{IsDistinct}
use Rattle.std.specs.Str.{bytes_eq}
use Rattle.std.proofs.lemmas.List.{length-map, map-append}
use Rattle.std.proofs.lemmas.List.Elements.{recursion_from_All}
use Rattle.tce_space.specs.Name.{is_name}
use Rattle.tce_space.specs.Space.{Index, IndexSpace, IsRange}
use Rattle.tce_grammar.specs.Grammar.{says, Statement}
use Rattle.tce_grammar.proofs.CanonicalLines.{canonical_text_says}
use Rattle.tce_spec.specs.Declarations.{Declarations, IsDeclarations, IsTensor, nothing_declared, tensor_at}
use Rattle.tce_spec.specs.Faults.{Fault, too_long}
use Rattle.tce_spec.specs.Text.{Head, head_of, unless, closing_fault}
use Rattle.tce_spec.specs.Statements.{groups, range_statement, index_statement, tensor_statement, formula_statement, formula_of, index_names, statements}
use Rattle.tce_spec.specs.Specification.{Specification}
use Rattle.tce_spec.specs.Outcome.{IsOutcome, outcome, outcome_in, specified}
use Rattle.tce_spec.proofs.Reading.{computed, computed_only}
use Rattle.tce_spec.specs.Canonical.{canonical_of}
use Rattle.tce_spec.specs.RoundTrip.{IsWritable}
use Rattle.tce_spec.proofs.NumbersBack.{indexes_back, tensor_back}
use Rattle.tce_spec.proofs.WrittenStatements.{statements_written, groups_are, fit_indexes}
use Rattle.tce_spec.proofs.Meanings.{meaning_back, formula_fine, not_above}
use Rattle.tce_spec.proofs.TextLengths.{canonical_short}
use Rattle.tce_spec.proofs.Heads.{without_tensors, with_tensors, all_of, groups_of, read_ranges, read_groups, read_tensors}

abbrev statements_of : Specification → List Statement
statements_of s = statements s.declarations s.result s.indexes s.tree

-- how many lines stand in front of the formula, and one more
abbrev line_of_formula : Specification → ℕ
line_of_formula s = 1 + length s.declarations.space.ranges + length (groups s.declarations.space.indexes) + length s.declarations.tensors

abbrev head : Specification → Head
head s = record {
  declarations = s.declarations;
  line = line_of_formula s;
  result = (tensor_at s.declarations s.result).name;
  indexes = index_names s.declarations.space s.indexes;
  written = formula_of s.declarations s.tree;
}

lines_apart : (a b c e : List Statement) → map says (a ++ (b ++ (c ++ e))) ≡ map says a ++ (map says b ++ (map says c ++ map says e))
lines_apart a b c e =
    map-append says a (b ++ (c ++ e))
    ∙ ap (λ ls. map says a ++ ls) (map-append says b (c ++ e) ∙ ap (λ ls. map says b ++ ls) (map-append says c e))

head_is : (s : Specification) → IsDeclarations s.declarations → head_of 1 nothing_declared (map says (statements_of s)) ≡ Ok (head s)
head_is s rules =
    let d : Declarations = s.declarations in
    let space : IndexSpace = d.space in
    let ranges = map range_statement space.ranges in
    let indexes = map (index_statement space) (groups space.indexes) in
    let tensors = map (tensor_statement space) d.tensors in
    let last : List Statement = formula_statement d s.result s.indexes s.tree ∷ [] in
    let after_ranges : ℕ = 1 + length space.ranges in
    let after_indexes : ℕ = after_ranges + length (groups space.indexes) in
    let are_groups = groups_are space space.indexes (recursion_from_All (λ (i : Index). IsTrue (is_name i.name) × (i.of_range < length space.ranges)) space.indexes rules.space.indexes) in
    let all_indexes : all_of (groups space.indexes) ≡ space.indexes = groups_of space.indexes in
    let index_distinct = subst (λ (is : List Index). IsDistinct bytes_eq (map (λ (x : Index). x.name) is)) (sym all_indexes) rules.space.index_names in
    let index_count : length (all_of (groups space.indexes)) ≡ length space.indexes = ap length all_indexes in
    let first_step = read_ranges 1 [] space.ranges (map says indexes ++ (map says tensors ++ map says last))
    (recursion_from_All IsRange space.ranges rules.space.ranges) rules.space.range_names (omega (arith, rules.space.range_limit)) in
    let second_step = read_groups space rules.space after_ranges [] (groups space.indexes) (map says tensors ++ map says last) are_groups index_distinct
    (omega (arith, rules.space.index_limit, index_count)) in
    let indexes_are : head_of after_indexes (without_tensors space.ranges (all_of (groups space.indexes))) (map says tensors ++ map says last)
    ≡ head_of after_indexes (with_tensors space []) (map says tensors ++ map says last) =
    ap (λ is. head_of after_indexes (without_tensors space.ranges is) (map says tensors ++ map says last)) all_indexes in
    let third_step = read_tensors space rules.space after_indexes [] d.tensors (map says last) (recursion_from_All (IsTensor space) d.tensors rules.tensors) rules.tensor_names
    (omega (arith, rules.tensor_limit)) in
    ap (head_of 1 nothing_declared) (lines_apart ranges indexes tensors last) ∙ first_step ∙ second_step ∙ indexes_are ∙ third_step

-- no line stands behind the formula
drop_all : {A : Type 0} (n : ℕ) (xs : List A) → length xs ≤ n → drop n xs ≡ []
drop_all zero [] h = refl
drop_all (suc n) [] h = refl
drop_all zero (x ∷ xs) h = absurd (omega arith)
drop_all (suc n) (x ∷ xs) h = drop_all n xs (omega arith)

line_count : (s : Specification) → length (map says (statements_of s)) ≡ line_of_formula s
line_count s =
    let ranges = map range_statement s.declarations.space.ranges in
    let indexes = map (index_statement s.declarations.space) (groups s.declarations.space.indexes) in
    let tensors = map (tensor_statement s.declarations.space) s.declarations.tensors in
    let last : List Statement = formula_statement s.declarations s.result s.indexes s.tree ∷ [] in
    let a = length-append ranges (indexes ++ (tensors ++ last)) in
    let b = length-append indexes (tensors ++ last) in
    let c = length-append tensors last in
    let x = length-map s.declarations.space.ranges range_statement in
    let y = length-map (groups s.declarations.space.indexes) (index_statement s.declarations.space) in
    let z = length-map s.declarations.tensors (tensor_statement s.declarations.space) in
    length-map (statements_of s) says ∙ omega (arith, a, b, c, x, y, z)

specified_is : (s : Specification) → IsWritable s → specified (head s) ≡ s
specified_is s is =
    let d : Declarations = s.declarations in
    let rules : IsDeclarations d = is.rules.declarations in
    let result = tensor_back d rules s.result is.rules.contraction.result_fits.declared in
    let indexes = indexes_back d.space rules.space s.indexes (fit_indexes d rules s.result s.indexes is.rules.contraction.result_fits) in
    let tree = meaning_back d rules s.tree is.rules.contraction.leaves_fit is.rules.contraction.declared is.rules.constants in
    λ i. record { declarations = d; result = result i; indexes = indexes i; tree = tree i }

outcome_is : (s : Specification) → IsWritable s → outcome (map says (statements_of s)) ≡ Ok s
outcome_is s is =
    let of_lines = map says (statements_of s) in
    let line = line_of_formula s in
    let fine = formula_fine line s.declarations s.result s.indexes s.tree is.rules.declarations is.rules.contraction is.rules.constants is.rules.few is.rules.distinct is.rules.faultless in
    let nothing : drop line of_lines ≡ [] = drop_all line of_lines (omega (arith, line_count s)) in
    ap (outcome_in of_lines) (head_is s is.rules.declarations)
    ∙ ap (λ o. unless o (unless (closing_fault (line + 1) (drop line of_lines)) (Ok (specified (head s))))) fine
    ∙ ap (λ ls. unless (closing_fault (line + 1) ls) (Ok (specified (head s)))) nothing
    ∙ ap Ok (specified_is s is)

pub outcome_of_canonical : (s : Specification) → IsWritable s → length (canonical_of s) ≤ 2 ^ 16 → IsOutcome (canonical_of s) (Ok s)
outcome_of_canonical s is short =
    let of_lines = map says (statements_of s) in
    let written = statements_written s.declarations s.result s.indexes s.tree is.rules.declarations is.names is.rules.contraction is.rules.constants is.rules.few in
    let looked : nat_lt (2 ^ 16) (length (canonical_of s)) ≡ false = not_above (2 ^ 16) (length (canonical_of s)) short in
    let found : cond (nat_lt (2 ^ 16) (length (canonical_of s))) (Err too_long) (outcome of_lines) ≡ Ok s =
    ap (λ b. cond b (Err too_long) (outcome of_lines)) looked ∙ outcome_is s is in
    record { of_lines = of_lines; are_lines = canonical_text_says (statements_of s) written; same = sym found }

pub canonical_outcome : (s : Specification) → IsWritable s → IsOutcome (canonical_of s) (Ok s)
canonical_outcome s is = outcome_of_canonical s is (canonical_short s is)

-- a text specifies one thing
pub specifications_told : (a b : Specification) → IsWritable a → IsWritable b → canonical_of a ≡ canonical_of b → a ≡ b
specifications_told a b is_a is_b same =
    told (computed (canonical_of a)) (computed (canonical_of b))
    (sym (computed_only (canonical_of a) (Ok a) (canonical_outcome a is_a))) (ap computed same) (sym (computed_only (canonical_of b) (Ok b) (canonical_outcome b is_b)))
  where
    told : (found other : Result Specification Fault) → found ≡ Ok a → found ≡ other → other ≡ Ok b → a ≡ b
    told found other e f g = cc
