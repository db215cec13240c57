-- What the specification of an einsum has of it.
use Rattle.std.proofs.Common.{◌≡◌, ℕ, ◌+◌, ◌<◌, ◌≤◌, ◌^◌, Bool, true, false, nat_lt, cond, drop, List, [], ◌∷◌, ◌++◌, map, length, Option, Some, None, Result, Ok, Err, IfOk, refl, sym, ap, subst, ◌∙◌, arith, append_assoc}
use Rattle.std.specs.List.{AllByRecursion}
use Rattle.std.proofs.lemmas.Bool.{ltb-true, ltb-false}
use Rattle.std.proofs.lemmas.Option.{none-some}
use Rattle.std.proofs.lemmas.List.{length-map, map-append}
use Rattle.tce_space.specs.Space.{Range, IndexSpace, IsSpace, no_range, range_at}
use Rattle.tce_tree.specs.ContractionTree.{ContractionTree, operations}
use Rattle.tce_tree.specs.Value.{value}
use Rattle.tce_grammar.specs.Grammar.{Line, Statement, says}
use Rattle.tce_grammar.specs.Canonical.{IsStatement, AreStatements, canonical_text}
use Rattle.tce_spec.specs.Declarations.{Declarations, IsDeclarations, Tensor, nothing_declared}
use Rattle.tce_spec.specs.DeclarationLines.{number_of_range}
use Rattle.tce_spec.specs.Faults.{Fault, too_long}
use Rattle.tce_spec.specs.Text.{Head, head_of, unless, closing_fault}
use Rattle.tce_spec.proofs.Readings.{lines_of}
use Rattle.tce_spec.specs.FormulaFaults.{formula_fault}
use Rattle.tce_spec.specs.Meaning.{indexes_of}
use Rattle.tce_spec.specs.Statements.{Group, groups}
use Rattle.tce_spec.specs.Specification.{Specification}
use Rattle.tce_spec.specs.Outcome.{IsOutcome, outcome_in, specified}
use Rattle.tce_spec.proofs.Reading.{computed_only}
use Rattle.tce_spec.proofs.Heads.{only_ranges, without_tensors, with_tensors, groups_of}
use Rattle.tce_spec.proofs.PrintedDeclarations.{nothing_is}
use Rattle.tce_spec.proofs.NumbersBack.{range_back}
use Rattle.tce_spec.proofs.WrittenStatements.{IsGroup}
use Rattle.tce_einsum.specs.Text.{Size, Einsum}
use Rattle.tce_einsum.specs.Path.{Item, Leave}
use Rattle.tce_einsum.specs.Input.{IsInput}
use Rattle.tce_einsum.specs.Numbered.{numbers_of, numbered_operands, contraction_of}
use Rattle.tce_einsum.specs.Produced.{ranges, range_name, indexes, letter_names, result_name, formula_of, range_statements, index_statements, tensor_statements, formula_statement, statements, produced_text}
use Rattle.tce_einsum.specs.Answer.{AnswersEinsum}
use Rattle.tce_einsum.specs.HasValue.{AreLabels, HasValueOfEinsum, SpecificationsHaveTheValue}
use Rattle.tce_einsum.specs.declared.fault.EinsumFault.{EinsumFault}
use Rattle.tce_einsum.proofs.Numbers.{every_text_has_its_value}
use Rattle.tce_einsum.proofs.FewSizes.{sizes_are_few, paths_leave_one_entry}
use Rattle.tce_einsum.proofs.LongTexts.{many_are_too_long}
use Rattle.tce_einsum.proofs.PathTrees.{IsOver, contraction_over, contraction_work}
use Rattle.tce_einsum.proofs.ProducedStatements.{range_from, declared_ranges, indexed_space, numbered_first, numbered_long, index_groups, front_statements, ranges_written_of, indexes_written_of, tensors_written_of, front_written, formula_written}
use Rattle.tce_einsum.proofs.FrontLines.{says_front, says_all}
use Rattle.tce_einsum.proofs.Declared.{Declared, IsKnown, read_declaring, ranges_declare, indexes_declare, tensors_declare, ranges_declared, groups_declared, tensors_declared}
use Rattle.tce_einsum.proofs.LabelNumbers.{operands_below, output_below, output_back}
use Rattle.tce_einsum.proofs.Specified.{declarations_of, labels_of, indexes_back, tensors_long, result_back, names_of_tensors, meaning_back}

-- the formula of a text that specifies something, with its declarations
record HasHead (of_lines : List Line) (s : Specification) : Type 0 where
  head : Head
  found : head_of 1 nothing_declared of_lines ≡ Ok head
  same : specified head ≡ s

head_in : (text : List ℕ) (s : Specification) → IsOutcome text (Ok s) → HasHead (lines_of text) s
head_in text s is = by_length (nat_lt (2 ^ 16) (length text)) (head_of 1 nothing_declared (lines_of text)) refl (sym (computed_only text (Ok s) is))
  where
    by_faults : (h : Head) (a : Option Fault) (b : Option Fault) → unless a (unless b (Ok (specified h))) ≡ Ok s → specified h ≡ s
    by_faults h None None e = cc
    by_faults h None (Some f) e = cc
    by_faults h (Some f) b e = cc

    by_length : (long : Bool) (found : Result Head Fault) → head_of 1 nothing_declared (lines_of text) ≡ found
        → cond long (Err too_long) (outcome_in (lines_of text) found) ≡ Ok s → HasHead (lines_of text) s
    by_length true found here e = cc
    by_length false (Err f) here e = cc
    by_length false (Ok h) here e = record {
      head = h;
      found = here;
      same = by_faults h (formula_fault h.line h.declarations h.result h.indexes h.written) (closing_fault (h.line + 1) (drop h.line (lines_of text))) e;
    }

-- three kinds of lines in front of others
kinds_apart : (a b c : List Statement) (rest : List Line) → map says (a ++ (b ++ c)) ++ rest ≡ map says a ++ (map says b ++ (map says c ++ rest))
kinds_apart a b c rest =
    ap (λ (ls : List Line). ls ++ rest) (map-append says a (b ++ c) ∙ ap (λ (ls : List Line). map says a ++ ls) (map-append says b c))
    ∙ append_assoc (map says a) (map says b ++ map says c) rest
    ∙ ap (λ (ls : List Line). map says a ++ ls) (append_assoc (map says b) (map says c) rest)

-- the ranges of the groups are found by their names
groups_known : (ss : List Size) → IsSpace (only_ranges (declared_ranges ss)).space → (gs : List Group) → AllByRecursion (IsGroup (indexed_space ss)) gs → AllByRecursion (IsKnown (declared_ranges ss)) gs
groups_known ss rules [] are = tt
groups_known ss rules (g ∷ gs) are =
    let space : IndexSpace = (only_ranges (declared_ranges ss)).space in
    let r : ℕ = g.of_range in
    let inside : r < length (ranges ss) = omega (arith, are.0.declared, numbered_long range_from 0 (ranges ss)) in
    let name : (range_at space r).name ≡ range_name r = ap (λ (q : Range). q.name) (numbered_first range_from (ranges ss) r (record { extent = []; edge = [] }) no_range inside) in
    (ap (number_of_range space) (sym name) ∙ range_back space rules r are.0.declared, groups_known ss rules gs are.1)

-- all lines in front of the formula declare what stands in the text
front_declared : (x : Einsum) (rest : List Line) (h : Head) → AreStatements (range_statements x.sizes) → AreStatements (index_statements x.sizes) → AreStatements (tensor_statements x)
    → AllByRecursion (IsGroup (indexed_space x.sizes)) (groups (indexes x.sizes))
    → head_of 1 nothing_declared (map says (front_statements x) ++ rest) ≡ Ok h → (line : ℕ) × Declared line (declarations_of x) rest h
front_declared x rest h ranges_written indexes_written tensors_written are_groups is =
    let ss : List Size = x.sizes in
    let rs : List Range = declared_ranges ss in
    let space : IndexSpace = indexed_space ss in
    let tensors : List Line = map says (tensor_statements x) ++ rest in
    let behind_ranges : List Line = map says (index_statements ss) ++ tensors in
    let start = sym (ap (head_of 1 nothing_declared) (kinds_apart (range_statements ss) (index_statements ss) (tensor_statements x) rest)) ∙ is in
    let one : Declared 1 (only_ranges rs) behind_ranges h =
    subst (λ (d : Declarations). Declared 1 d behind_ranges h) (ranges_declared 0 [] (ranges ss))
    (read_declaring 1 nothing_declared (range_statements ss) behind_ranges h (ranges_declare 0 (ranges ss) ranges_written) nothing_is start) in
    let known = groups_known ss one.rules.space (groups (indexes ss)) are_groups in
    let two : Declared one.behind (without_tensors rs (indexes ss)) tensors h =
    subst (λ (d : Declarations). Declared one.behind d tensors h) (groups_declared rs [] (groups (indexes ss)) known ∙ ap (without_tensors rs) (groups_of (indexes ss)))
    (read_declaring one.behind (only_ranges rs) (index_statements ss) tensors h (indexes_declare (groups (indexes ss)) indexes_written) one.rules one.found) in
    let three : Declared two.behind (declarations_of x) rest h =
    subst (λ (d : Declarations). Declared two.behind d rest h) (tensors_declared space x 0 [] x.operands)
    (read_declaring two.behind (with_tensors space []) (tensor_statements x) rest h (tensors_declare x 0 x.operands tensors_written) two.rules two.found) in
    (two.behind, three)

-- the tree of a path
tree_over : (text path : List ℕ) (x : Einsum) (items : List Item) → IsInput text path x items → IsOver (length x.operands) (length x.sizes) (contraction_of x items)
tree_over text path x items input =
    subst (λ (n : ℕ). IsOver n (length x.sizes) (contraction_of x items)) (length-map x.operands (numbers_of x.sizes))
    (contraction_over (length x.sizes) (numbers_of x.sizes x.output) (numbered_operands x) items (operands_below text x input.of_text input.sized))

tree_work : (text path : List ℕ) (x : Einsum) (items : List Item) → IsInput text path x items → operations (contraction_of x items) + 1 ≤ length x.operands + length x.sizes
tree_work text path x items input =
    let long : length (numbered_operands x) ≡ length x.operands = length-map x.operands (numbers_of x.sizes) in
    let leave : Leave (length (numbered_operands x)) items 1 = subst (λ (n : ℕ). Leave n items 1) (sym long) (paths_leave_one_entry text path x items input) in
    omega (arith, long, contraction_work (length x.sizes) (numbers_of x.sizes x.output) (numbered_operands x) items leave)

-- what stands behind the declarations is the formula
formula_found : (x : Einsum) (tree : ContractionTree) (line : ℕ) (h : Head) → IsStatement (formula_statement x tree)
    → head_of line (declarations_of x) (lines_of (canonical_text (formula_statement x tree ∷ []))) ≡ Ok h
    → record { declarations = declarations_of x; line = line; result = result_name; indexes = letter_names x.output; written = formula_of x.sizes tree } ≡ h
formula_found x tree line h written is =
    same (sym (ap (head_of line (declarations_of x)) (says_all (formula_statement x tree ∷ []) (written, tt))) ∙ is)
  where
    same : {A : Type 0} {a b : A} → ◌≡◌ {A = Result A Fault} (Ok a) (Ok b) → a ≡ b
    same e = cc

-- few operands, where a text is not too long
few_operands : (x : Einsum) (items : List Item) (s : Specification) → IsOutcome (produced_text x items) (Ok s) → length x.operands ≤ 5460
few_operands x items s is = by_test (nat_lt 5460 (length x.operands)) refl
  where
    by_test : (d : Bool) → nat_lt 5460 (length x.operands) ≡ d → length x.operands ≤ 5460
    by_test true e = absurd (none-some too_long (many_are_too_long x items (Ok s) (ltb-true 5460 (length x.operands) e) is))
    by_test false e = ltb-false 5460 (length x.operands) e

-- the declarations and the tree of what is specified
record IsOfEinsum (x : Einsum) (left : ContractionTree) (s : Specification) : Type 0 where
  declarations : s.declarations ≡ declarations_of x
  result : s.result ≡ length x.operands
  output : s.indexes ≡ numbers_of x.sizes x.output
  tree : s.tree ≡ left

specified_is : (text path : List ℕ) (x : Einsum) (items : List Item) (s : Specification) → IsInput text path x items → IsOutcome (produced_text x items) (Ok s)
    → IsOfEinsum x (contraction_of x items) s
specified_is text path x items s input is =
    let ss : List Size = x.sizes in
    let tree : ContractionTree = contraction_of x items in
    let f : Statement = formula_statement x tree in
    let last : List Line = lines_of (canonical_text (f ∷ [])) in
    let all = input.of_text.sizes in
    let few : length ss ≤ 26 = sizes_are_few text path x items input in
    let some : length x.operands < 2 ^ 32 = omega (arith, few_operands x items s is) in
    let whole : front_statements x ++ f ∷ [] ≡ statements x tree =
    append_assoc (range_statements ss) (index_statements ss ++ tensor_statements x) (f ∷ [])
    ∙ ap (λ (rest : List Statement). range_statements ss ++ rest) (append_assoc (index_statements ss) (tensor_statements x) (f ∷ [])) in
    let has : HasHead (lines_of (produced_text x items)) s = head_in (produced_text x items) s is in
    let lines_are : lines_of (produced_text x items) ≡ map says (front_statements x) ++ last =
    ap (λ (all : List Statement). lines_of (canonical_text all)) (sym whole) ∙ says_front (front_statements x) (f ∷ []) (front_written x all few some) in
    let at = front_declared x last has.head (ranges_written_of ss all few) (indexes_written_of ss all few) (tensors_written_of x few some) (index_groups ss all)
    (sym (ap (head_of 1 nothing_declared) lines_are) ∙ has.found) in
    let rules : IsDeclarations (declarations_of x) = at.1.rules in
    let over : IsOver (length x.operands) (length ss) tree = tree_over text path x items input in
    let few_nodes : operations tree ≤ 64 = omega (arith, tree_work text path x items input, few, rules.tensor_limit, tensors_long x) in
    let written : IsStatement f = formula_written x tree all input.of_text.output some over few_nodes in
    let head_is = formula_found x tree at.1.behind has.head written at.1.found in
    let same : specified (record { declarations = declarations_of x; line = at.1.behind; result = result_name; indexes = letter_names x.output; written = formula_of ss tree }) ≡ s =
    ap specified head_is ∙ has.same in
    record {
      declarations = sym (ap (λ (t : Specification). t.declarations) same);
      result = sym (ap (λ (t : Specification). t.result) same) ∙ result_back x rules;
      output =
          sym (ap (λ (t : Specification). t.indexes) same)
          ∙ ap (indexes_of (indexed_space ss)) (sym (output_back text x input.of_text input.sized))
          ∙ indexes_back x rules (numbers_of ss x.output) (output_below text x input.of_text input.sized);
      tree = sym (ap (λ (t : Specification). t.tree) same) ∙ meaning_back x rules tree over;
    }

pub specifications_have_the_value : SpecificationsHaveTheValue
specifications_have_the_value text path s p =
    let x : Einsum = p.einsum in
    let is : IsOfEinsum x (contraction_of x p.items) s = specified_is text path x p.items s p.input p.outcome in
    record {
      einsum = x;
      items = p.items;
      input = p.input;
      labels = subst (λ (d : Declarations). AreLabels d.space x.sizes) (sym is.declarations) (labels_of x.sizes);
      tensors = ap (λ (d : Declarations). map (λ (t : Tensor). t.name) d.tensors) is.declarations ∙ names_of_tensors x;
      result = is.result;
      output = is.output;
      value = λ e a. ap (λ (t : ContractionTree). value e t a) is.tree ∙ every_text_has_its_value text path x p.items e a p.input;
    }

-- what the program answers has it
pub answer_has_the_value : (text path : List ℕ) (result : Result Specification EinsumFault) → AnswersEinsum text path result
    → IfOk result (λ s. HasValueOfEinsum text path s)
answer_has_the_value text path (Ok s) told = specifications_have_the_value text path s told
answer_has_the_value text path (Err fault) told = tt
