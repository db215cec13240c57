-- A text has at most one first fault.
use Rattle.std.proofs.Common.{◌≡◌, ℕ, ◌+◌, List, [], ◌∷◌, ◌++◌, replicate, ap, sym, ◌∙◌, subst, arith, inl, inr}
use Rattle.std.specs.Fmt.{decimal}
use Rattle.tce_space.specs.Space.{IndexSpace}
use Rattle.tce_tree.specs.ContractionTree.{ContractionTree}
use Rattle.tce_cert.specs.Forms.{StatesTable}
use Rattle.tce_cert.proofs.Cuts.{cut_once}
use Rattle.tce_cert.proofs.Stated.{decimal_lacks}
use Rattle.tce_cert.proofs.StatedRows.{decimal_once}
use Rattle.tce_cert.specs.declared.fault.CertFault.{CertFault}
use Rattle.tce_cert.specs.Faults.{Due, opening, node, memory, table, row, ending, IsDue, IsFaultOf, IsFirstFault}
use Rattle.tce_cert.specs.Laws.{FirstFaultsAreAlone}
use Rattle.tce_cert.proofs.Faulty.{parts}

pub rows_once : (line : List ℕ) (v a b : ℕ) → StatesTable line v a → StatesTable line v b → a ≡ b
rows_once line v a b s t =
    let behind : decimal v ++ 32 ∷ decimal a ≡ decimal v ++ 32 ∷ decimal b = (let e = sym s.text_is ∙ t.text_is in cc) in
    decimal_once a b s.rows_limit t.rows_limit
    (cut_once 32 (decimal v) (decimal a) (decimal v) (decimal b) (decimal_lacks 32 v (omega arith) s.node_limit) (decimal_lacks 32 v (omega arith) s.node_limit) behind).1

-- a line that is due states in one way what is due behind it
pub due_once : (space : IndexSpace) (tree : ContractionTree) (d : Due) (line : List ℕ) (a b : List Due) → IsDue space tree d line a → IsDue space tree d line b → a ≡ b
due_once space tree opening line a b x y = x.1 ∙ sym y.1
due_once space tree (node v) line a b x y = x.1 ∙ sym y.1
due_once space tree memory line a b x y = x.1 ∙ sym y.1
due_once space tree (table v) line a b x y = x.1.1 ∙ ap (λ n. replicate n (row v)) (rows_once line v x.0 y.0 x.1.0 y.1.0) ∙ sym y.1.1
due_once space tree (row v) line a b x y = x.1 ∙ sym y.1
due_once space tree ending line a b x y = x.1 ∙ sym y.1

fault_once : (line : List ℕ) (n : ℕ) (f g : CertFault) → IsFaultOf line n f → IsFaultOf line n g → f ≡ g
fault_once line n f g x y = elim x [
  | inl form ↦ elim y [
    | inl other ↦ form.1 ∙ sym other.1
    | inr other ↦ absurd (other.0 form.0)
  ]
  | inr none ↦ elim y [
    | inl other ↦ absurd (none.0 other.0)
    | inr other ↦ none.1 ∙ sym other.1
  ]
]

first_once : (space : IndexSpace) (tree : ContractionTree) (due : List Due) (n : ℕ) (lines : List (List ℕ)) (f g : CertFault)
    → IsFirstFault space tree due n lines f → IsFirstFault space tree due n lines g → f ≡ g
first_once space tree [] n [] f g x y = absurd x
first_once space tree (d ∷ ds) n [] f g x y = absurd x
first_once space tree [] n (last ∷ []) f g x y = x.1 ∙ sym y.1
first_once space tree (d ∷ ds) n (last ∷ []) f g x y = x ∙ sym y
first_once space tree [] n (line ∷ next ∷ lines) f g x y = fault_once line n f g x y
first_once space tree (d ∷ ds) n (line ∷ next ∷ lines) f g x y = elim x [
  | inl due ↦ elim y [
    | inl other ↦
        first_once space tree (due.0 ++ ds) (n + 1) (next ∷ lines) f g due.1.1
        (subst (λ more. IsFirstFault space tree (more ++ ds) (n + 1) (next ∷ lines) g) (due_once space tree d line other.0 due.0 other.1.0 due.1.0) other.1.1)
    | inr other ↦ absurd (other.0 due.0 due.1.0)
  ]
  | inr refused ↦ elim y [
    | inl other ↦ absurd (refused.0 other.0 other.1.0)
    | inr other ↦ fault_once line n f g refused.1 other.1
  ]
]

pub first_faults_are_alone : FirstFaultsAreAlone
first_faults_are_alone space tree text f g x y = first_once space tree _ 1 (parts text) f g x y
