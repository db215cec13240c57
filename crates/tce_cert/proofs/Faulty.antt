-- The first fault of a text, from its first line.
use Rattle.std.proofs.Common.{Bool, false, ◌≡◌, ◌≢◌, ℕ, ◌+◌, ◌==◌, List, [], ◌∷◌, ◌++◌, length, refl, ap, sym, ◌∙◌, subst, arith, inl, inr}
use Rattle.std.specs.List.{slice_split}
use Rattle.std.proofs.lemmas.Bool.{eq-eqb}
use Rattle.std.proofs.lemmas.List.Splits.{slice_split_at, slice_split_none, length-slice_split}
use Rattle.tce_space.specs.Space.{IndexSpace}
use Rattle.tce_tree.specs.ContractionTree.{ContractionTree}
use Rattle.tce_cert.specs.Cut.{Lacks, IsCut}
use Rattle.tce_cert.specs.declared.fault.CertFault.{CertFault}
use Rattle.tce_cert.specs.declared.fault.CertFault.TheVariants.{BadText}
use Rattle.tce_cert.specs.Faults.{Due, IsDue, IsFaultOf, IsFirstFault, IsFaultIn}
use Rattle.tce_cert.specs.Reading.{ReadsLine}

abbrev pub parts : List ℕ → List (List ℕ)
parts text = slice_split (λ b. b == 10) text

pub line_parts : (text line rest : List ℕ) → IsCut 10 text line rest → parts text ≡ line ∷ parts rest
line_parts text line rest cut = ap parts cut.text_is ∙ slice_split_at (λ b. b == 10) line 10 rest cut.first refl

last_part : (text : List ℕ) → Lacks 10 text → parts text ≡ text ∷ []
last_part text lacking = slice_split_none (λ b. b == 10) text lacking

pub some_parts : (text : List ℕ) → parts text ≢ []
some_parts text e = absurd (omega (arith, length-slice_split (λ b. b == 10) text, ap length e))

-- a line that is due is missing, or has no line feed
pub missing : (space : IndexSpace) (tree : ContractionTree) (d : Due) (ds : List Due) (n : ℕ) (text : List ℕ) (fault : CertFault) → Lacks 10 text → fault ≡ BadText n
    → IsFaultIn space tree (d ∷ ds) n text fault
missing space tree d ds n text fault lacking is = subst (λ ps. IsFirstFault space tree (d ∷ ds) n ps fault) (sym (last_part text lacking)) is

-- a line stands where another is due
pub not_due : (space : IndexSpace) (tree : ContractionTree) (d : Due) (ds : List Due) (n next : ℕ) (text line rest : List ℕ) (fault : CertFault) → ReadsLine text n line rest next
    → ((more : List Due) → IsDue space tree d line more → ⊥) → IsFaultOf line n fault → IsFaultIn space tree (d ∷ ds) n text fault
not_due space tree d ds n next text line rest fault reads refused is =
    subst (λ ps. IsFirstFault space tree (d ∷ ds) n ps fault) (sym (line_parts text line rest reads.cut)) (by_rest (parts rest) (some_parts rest))
  where
    by_rest : (ps : List (List ℕ)) → ps ≢ [] → IsFirstFault space tree (d ∷ ds) n (line ∷ ps) fault
    by_rest [] some = absurd (some refl)
    by_rest (p ∷ ps) some = inr (refused, is)

-- the line is the one due, and the fault is behind it
pub passed : (space : IndexSpace) (tree : ContractionTree) (d : Due) (ds more : List Due) (n next : ℕ) (text line rest : List ℕ) (fault : CertFault) → ReadsLine text n line rest next
    → IsDue space tree d line more → IsFaultIn space tree (more ++ ds) next rest fault → IsFaultIn space tree (d ∷ ds) n text fault
passed space tree d ds more n next text line rest fault reads due is =
    subst (λ ps. IsFirstFault space tree (d ∷ ds) n ps fault) (sym (line_parts text line rest reads.cut))
    (by_rest (parts rest) (some_parts rest) (subst (λ m. IsFirstFault space tree (more ++ ds) m (parts rest) fault) reads.number_is is))
  where
    by_rest : (ps : List (List ℕ)) → ps ≢ [] → IsFirstFault space tree (more ++ ds) (n + 1) ps fault → IsFirstFault space tree (d ∷ ds) n (line ∷ ps) fault
    by_rest [] some is = absurd (some refl)
    by_rest (p ∷ ps) some is = inl (more, (due, is))

-- a line stands behind the last
pub behind_end : (space : IndexSpace) (tree : ContractionTree) (n next : ℕ) (text line rest : List ℕ) (fault : CertFault) → ReadsLine text n line rest next
    → IsFaultOf line n fault → IsFaultIn space tree [] n text fault
behind_end space tree n next text line rest fault reads is =
    subst (λ ps. IsFirstFault space tree [] n ps fault) (sym (line_parts text line rest reads.cut)) (by_rest (parts rest) (some_parts rest))
  where
    by_rest : (ps : List (List ℕ)) → ps ≢ [] → IsFirstFault space tree [] n (line ∷ ps) fault
    by_rest [] some = absurd (some refl)
    by_rest (p ∷ ps) some = is

pub tail_behind_end : (space : IndexSpace) (tree : ContractionTree) (n : ℕ) (text : List ℕ) (fault : CertFault) → Lacks 10 text → text ≢ [] → fault ≡ BadText n
    → IsFaultIn space tree [] n text fault
tail_behind_end space tree n text fault lacking some is = subst (λ ps. IsFirstFault space tree [] n ps fault) (sym (last_part text lacking)) (some, is)

pub some_left : (text : List ℕ) (b : Bool) → b ≡ (length text == 0) → b ≡ false → text ≢ []
some_left text b is none e = let empty = eq-eqb (length text) 0 (ap length e) in absurd (cc)
