-- What the lines of a produced text declare.
use Rattle.std.proofs.Common.{◌≡◌, ℕ, ◌+◌, IsTrue, List, [], ◌∷◌, ◌++◌, map, fold, Ok, refl, sym, ap, ◌∙◌, append_assoc, append-nil}
use Rattle.std.specs.List.{AllByRecursion}
use Rattle.tce_space.specs.Name.{is_name}
use Rattle.tce_space.specs.Space.{Range, Index, IndexSpace}
use Rattle.tce_grammar.specs.Grammar.{AreNames, Line, Statement, range, index, declaration, formula, says}
use Rattle.tce_grammar.specs.Canonical.{AreStatements}
use Rattle.tce_spec.specs.Declarations.{Declarations, IsDeclarations, Tensor}
use Rattle.tce_spec.specs.DeclarationLines.{statement_fault, with_statement, number_of_range, numbers_of_ranges}
use Rattle.tce_spec.specs.Text.{Head, head_of}
use Rattle.tce_spec.specs.Statements.{Group}
use Rattle.tce_spec.proofs.Heads.{only_ranges, without_tensors, with_tensors, of_group, all_of}
use Rattle.tce_spec.proofs.PrintedDeclarations.{statement_keeps}
use Rattle.tce_spec.proofs.Written.{no_fault}
use Rattle.tce_einsum.specs.Text.{Size, Einsum}
use Rattle.tce_einsum.specs.Entries.{numbered}
use Rattle.tce_einsum.specs.Produced.{Tiled, range_name, operand_name, result_name, range_names, range_statement, index_statement, operand_statement, result_statement}
use Rattle.tce_einsum.proofs.ProducedStatements.{range_from}

-- a line that declares, with names where names stand
abbrev pub Declares : Statement → Type 0
Declares (range name extent edge) = IsTrue (is_name name)
Declares (index of_range names) = IsTrue (is_name of_range) × AreNames names
Declares (declaration name ranges) = IsTrue (is_name name) × AreNames ranges
Declares (formula result indexes f) = ⊥

abbrev pub declared : Declarations → List Statement → Declarations
declared d ss = fold with_statement d ss

-- lines that declare, in front of others among which a formula is found
pub record Declared (line : ℕ) (d : Declarations) (rest : List Line) (h : Head) : Type 0 where
  pub rules : IsDeclarations d
  pub behind : ℕ
  pub found : head_of behind d rest ≡ Ok h

pub read_declaring : (line : ℕ) (d : Declarations) (ss : List Statement) (rest : List Line) (h : Head) → AllByRecursion Declares ss → IsDeclarations d
    → head_of line d (map says ss ++ rest) ≡ Ok h → Declared line (declared d ss) rest h
read_declaring line d [] rest h are rules is = record { rules = rules; behind = line; found = is }
read_declaring line d (range name extent edge ∷ ss) rest h are rules is =
    let s : Statement = range name extent edge in
    let parts = no_fault (statement_fault line d s) (head_of (line + 1) (with_statement d s) (map says ss ++ rest)) h is in
    let more = read_declaring (line + 1) (with_statement d s) ss rest h are.1 (statement_keeps line d s rules are.0 parts.0) parts.1 in
    record { rules = more.rules; behind = more.behind; found = more.found }
read_declaring line d (index of_range names ∷ ss) rest h are rules is =
    let s : Statement = index of_range names in
    let parts = no_fault (statement_fault line d s) (head_of (line + 1) (with_statement d s) (map says ss ++ rest)) h is in
    let more = read_declaring (line + 1) (with_statement d s) ss rest h are.1 (statement_keeps line d s rules are.0 parts.0) parts.1 in
    record { rules = more.rules; behind = more.behind; found = more.found }
read_declaring line d (declaration name ranges ∷ ss) rest h are rules is =
    let s : Statement = declaration name ranges in
    let parts = no_fault (statement_fault line d s) (head_of (line + 1) (with_statement d s) (map says ss ++ rest)) h is in
    let more = read_declaring (line + 1) (with_statement d s) ss rest h are.1 (statement_keeps line d s rules are.0 parts.0) parts.1 in
    record { rules = more.rules; behind = more.behind; found = more.found }
read_declaring line d (formula result indexes f ∷ ss) rest h are rules is = absurd are.0

-- statements of these kinds

pub ranges_declare : (k : ℕ) (ts : List Tiled) → AreStatements (numbered range_statement k ts) → AllByRecursion Declares (numbered range_statement k ts)
ranges_declare k [] are = tt
ranges_declare k (t ∷ ts) are = (are.0.0, ranges_declare (k + 1) ts are.1)

pub indexes_declare : (gs : List Group) → AreStatements (map index_statement gs) → AllByRecursion Declares (map index_statement gs)
indexes_declare [] are = tt
indexes_declare (g ∷ gs) are = ((are.0.0, are.0.2), indexes_declare gs are.1)

pub tensors_declare : (x : Einsum) (k : ℕ) (os : List (List ℕ)) → AreStatements (numbered (operand_statement x.sizes) k os ++ result_statement x ∷ [])
    → AllByRecursion Declares (numbered (operand_statement x.sizes) k os ++ result_statement x ∷ [])
tensors_declare x k [] are = ((are.0.0, are.0.1), tt)
tensors_declare x k (o ∷ os) are = ((are.0.0, are.0.1), tensors_declare x (k + 1) os are.1)

-- what they declare

pub ranges_declared : (k : ℕ) (earlier : List Range) (ts : List Tiled) → declared (only_ranges earlier) (numbered range_statement k ts) ≡ only_ranges (earlier ++ numbered range_from k ts)
ranges_declared k earlier [] = ap only_ranges (sym (append-nil earlier))
ranges_declared k earlier (t ∷ ts) =
    ranges_declared (k + 1) (earlier ++ range_from k t ∷ []) ts ∙ ap only_ranges (append_assoc earlier (range_from k t ∷ []) (numbered range_from (k + 1) ts))

-- the name of the range of a group has its number
abbrev pub IsKnown : List Range → Group → Type 0
IsKnown rs g = number_of_range (record { ranges = rs; indexes = [] }) (range_name g.of_range) ≡ g.of_range

pub groups_declared : (rs : List Range) (earlier : List Index) (gs : List Group) → AllByRecursion (IsKnown rs) gs
    → declared (without_tensors rs earlier) (map index_statement gs) ≡ without_tensors rs (earlier ++ all_of gs)
groups_declared rs earlier [] known = ap (without_tensors rs) (sym (append-nil earlier))
groups_declared rs earlier (g ∷ gs) known =
    let one : with_statement (without_tensors rs earlier) (index_statement g) ≡ without_tensors rs (earlier ++ of_group g) =
    ap (λ (n : ℕ). without_tensors rs (earlier ++ map (λ name. record { name = name; of_range = n }) g.names)) known.0 in
    ap (λ (d : Declarations). declared d (map index_statement gs)) one
    ∙ groups_declared rs (earlier ++ of_group g) gs known.1
    ∙ ap (without_tensors rs) (append_assoc earlier (of_group g) (all_of gs))

-- the tensor of an operand
abbrev pub operand_from : IndexSpace → List Size → ℕ → List ℕ → Tensor
operand_from space ss k labels = record { name = operand_name k; ranges = numbers_of_ranges space (range_names ss labels) }

abbrev pub result_from : IndexSpace → Einsum → Tensor
result_from space x = record { name = result_name; ranges = numbers_of_ranges space (range_names x.sizes x.output) }

abbrev pub declared_tensors : IndexSpace → Einsum → List Tensor
declared_tensors space x = numbered (operand_from space x.sizes) 0 x.operands ++ result_from space x ∷ []

pub tensors_declared : (space : IndexSpace) (x : Einsum) (k : ℕ) (earlier : List Tensor) (os : List (List ℕ))
    → declared (with_tensors space earlier) (numbered (operand_statement x.sizes) k os ++ result_statement x ∷ [])
    ≡ with_tensors space (earlier ++ (numbered (operand_from space x.sizes) k os ++ result_from space x ∷ []))
tensors_declared space x k earlier [] = refl
tensors_declared space x k earlier (o ∷ os) =
    let t : Tensor = operand_from space x.sizes k o in
    tensors_declared space x (k + 1) (earlier ++ t ∷ []) os
    ∙ ap (with_tensors space) (append_assoc earlier (t ∷ []) (numbered (operand_from space x.sizes) (k + 1) os ++ result_from space x ∷ []))
