-- What a text specifies can be written.
use Rattle.std.proofs.Common.{◌≡◌, ℕ, ◌+◌, ◌^◌, ◌==◌, Bool, true, false, List, [], ◌∷◌, length, map, drop, cond, Option, Some, None, Result, Ok, Err, refl, sym, subst, arith, nat_lt}
use Rattle.std.specs.Prelude.{⊤}
use Rattle.std.specs.List.{AllByRecursion}
use Rattle.tce_space.specs.Space.{IndexSpace}
use Rattle.tce_tree.specs.ContractionTree.{ContractionTree, operations}
use Rattle.tce_tree.specs.Faults.{fault_of, nodes_fault, no_operation}
use Rattle.tce_tree.proofs.FaultLaws.{is_measured}
use Rattle.tce_grammar.specs.Lines.{lines}
use Rattle.tce_grammar.specs.Formula as formulas
use Rattle.tce_grammar.specs.Grammar.{Line, IsLine, skipped, bad, says, range, index, declaration, formula}
use Rattle.tce_grammar.specs.Reading.{line_of}
use Rattle.tce_grammar.proofs.OneReading.{line_is}
use Rattle.tce_spec.specs.Declarations.{Declarations, IsDeclarations, HaveNames, nothing_declared}
use Rattle.tce_spec.specs.DeclarationLines.{statement_fault, with_statement}
use Rattle.tce_spec.specs.Faults.{Fault, fault_if, too_many_nodes, too_long}
use Rattle.tce_spec.specs.Text.{Head, head_of, unless, closing_fault}
use Rattle.tce_spec.proofs.Readings.{lines_of, LinesHaveNames, lines_have_names, head_has_names}
use Rattle.tce_spec.specs.Places.{IsNamed}
use Rattle.tce_spec.specs.Meaning.{meaning}
use Rattle.tce_spec.specs.FormulaFaults.{formula_fault}
use Rattle.tce_spec.specs.Rules.{places_fault, tree_fault}
use Rattle.tce_spec.proofs.Nothing.{none_or}
use Rattle.tce_spec.proofs.LineNames.{line_names}
use Rattle.tce_spec.proofs.FormulaParts.{IsReady, is_ready, is_contraction, fault_parts}
use Rattle.tce_spec.specs.Specification.{Specification}
use Rattle.tce_spec.specs.Outcome.{IsOutcome, outcome_in, specified}
use Rattle.tce_spec.proofs.Reading.{computed_only}
use Rattle.tce_spec.proofs.Kept.{LineKeeps, line_keeps}
use Rattle.tce_spec.specs.RoundTrip.{IsWritable}
use Rattle.tce_spec.proofs.PrintedDeclarations.{statement_keeps, nothing_is}

-- a formula that a line says has names where names stand
abbrev HasNamedFormula : Line → Type 0
HasNamedFormula skipped = ⊤
HasNamedFormula bad = ⊤
HasNamedFormula (says (range name extent edge)) = ⊤
HasNamedFormula (says (index of_range names)) = ⊤
HasNamedFormula (says (declaration name ranges)) = ⊤
HasNamedFormula (says (formula result indexes f)) = IsNamed f

named_formula : (text : List ℕ) (l : Line) → IsLine text l → HasNamedFormula l
named_formula text skipped is = tt
named_formula text bad is = tt
named_formula text (says (range name extent edge)) is = tt
named_formula text (says (index of_range names)) is = tt
named_formula text (says (declaration name ranges)) is = tt
named_formula text (says (formula result indexes f)) is = (line_names text result indexes f is).2

named_formulas : (texts : List (List ℕ)) → AllByRecursion HasNamedFormula (map line_of texts)
named_formulas [] = tt
named_formulas (text ∷ texts) = (named_formula text (line_of text) (line_is text), named_formulas texts)

-- the head of lines has declarations with their rules, and a formula with names

record HasRules (h : Head) : Type 0 where
  pub declarations : IsDeclarations h.declarations
  pub named : IsNamed h.written

pub no_fault : {A : Type 0} (fault : Option Fault) (next : Result A Fault) (x : A) → unless fault next ≡ Ok x → (fault ≡ None) × (next ≡ Ok x)
no_fault None next x is = (refl, is)
no_fault (Some f) next x is = cc

head_rules : (line : ℕ) (d : Declarations) (ls : List Line) (h : Head) → LinesHaveNames ls → AllByRecursion HasNamedFormula ls → IsDeclarations d → head_of line d ls ≡ Ok h → HasRules h
head_rules line d [] h names formulas rules is = cc
head_rules line d (skipped ∷ rest) h names formulas rules is = head_rules (line + 1) d rest h names.1 formulas.1 rules is
head_rules line d (bad ∷ rest) h names formulas rules is = cc
head_rules line d (says (range name extent edge) ∷ rest) h names formulas rules is =
    let parts = no_fault (statement_fault line d (range name extent edge)) _ h is in
    head_rules (line + 1) (with_statement d (range name extent edge)) rest h names.1 formulas.1 (statement_keeps line d (range name extent edge) rules names.0 parts.0) parts.1
head_rules line d (says (index of_range indexes) ∷ rest) h names formulas rules is =
    let parts = no_fault (statement_fault line d (index of_range indexes)) _ h is in
    head_rules (line + 1) (with_statement d (index of_range indexes)) rest h names.1 formulas.1 (statement_keeps line d (index of_range indexes) rules names.0 parts.0) parts.1
head_rules line d (says (declaration name ranges) ∷ rest) h names formulas rules is =
    let parts = no_fault (statement_fault line d (declaration name ranges)) _ h is in
    head_rules (line + 1) (with_statement d (declaration name ranges)) rest h names.1 formulas.1 (statement_keeps line d (declaration name ranges) rules names.0 parts.0) parts.1
head_rules line d (says (formula result indexes f) ∷ rest) h names formulas rules is =
    let same : record { declarations = d; line = line; result = result; indexes = indexes; written = f } ≡ h = cc in
    subst HasRules same (record { declarations = rules; named = formulas.0 })

-- a tree without a fault has nodes without one
nodes_fine : (space : IndexSpace) (tree : ContractionTree) → fault_of space tree ≡ None → nodes_fault space 0 tree ≡ None
unfolding fault_of
nodes_fine space tree none = by_test (operations tree == 0) none
  where
    by_test : (b : Bool) → cond b (Some no_operation) (nodes_fault space 0 tree) ≡ None → nodes_fault space 0 tree ≡ None
    by_test true e = cc
    by_test false e = e

-- a formula line without a fault specifies what can be written
specified_writable : (h : Head) → HasRules h → HaveNames h.declarations.tensors → formula_fault h.line h.declarations h.result h.indexes h.written ≡ None → IsWritable (specified h)
specified_writable h has names none =
    let d : Declarations = h.declarations in
    let parts = none_or (fault_if (nat_lt 32 (formulas.operations h.written)) (too_many_nodes h.line)) _
    (subst (λ (o : Option Fault). o ≡ None) (fault_parts h.line d h.result h.indexes h.written) none) in
    let later = none_or (places_fault h.line d h.result h.indexes h.written) (tree_fault h.line d h.indexes h.written) parts.1 in
    let ready : IsReady d h.indexes h.written = is_ready h.line d h.result h.indexes h.written has.declarations later.0 in
    let keeps : LineKeeps d h.written = line_keeps h.line d h.result h.indexes h.written has.declarations none in
    record {
      rules = record {
        declarations = has.declarations;
        contraction = is_contraction h.line d h.result h.indexes h.written has.named later.0 later.1;
        few = keeps.few;
        distinct = keeps.distinct;
        faultless = keeps.faultless;
        measured = is_measured d.space (meaning d h.written) ready.declared (nodes_fine d.space (meaning d h.written) keeps.faultless);
        constants = keeps.constants;
      };
      names = names;
    }

pub outcome_writable : (text : List ℕ) (s : Specification) → IsOutcome text (Ok s) → IsWritable s
outcome_writable text s is = by_length (nat_lt (2 ^ 16) (length text)) (head_of 1 nothing_declared (lines_of text)) refl (sym (computed_only text (Ok s) is))
  where
    by_length : (long : Bool) (found : Result Head Fault) → head_of 1 nothing_declared (lines_of text) ≡ found → cond long (Err too_long) (outcome_in (lines_of text) found) ≡ Ok s → IsWritable s
    by_length true found here e = cc
    by_length false (Err f) here e = cc
    by_length false (Ok h) here e =
        let names = lines_have_names (lines text) in
        let one = no_fault (formula_fault h.line h.declarations h.result h.indexes h.written) _ s e in
        let two = no_fault (closing_fault (h.line + 1) (drop h.line (lines_of text))) (Ok (specified h)) s one.1 in
        let same : specified h ≡ s = cc in
        subst IsWritable same
        (specified_writable h (head_rules 1 nothing_declared (lines_of text) h names (named_formulas (lines text)) nothing_is here)
        (head_has_names 1 nothing_declared (lines_of text) h names (λ k d less. absurd (omega arith)) here) one.0)
