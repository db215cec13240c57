-- Rows as they are read into a table.
use Rattle.std.proofs.Common.{◌≡◌, ℕ, zero, suc, ◌+◌, ◌-◌, ◌<◌, List, [], ◌∷◌, ◌++◌, length, length-append, map, refl, ap, sym, ◌∙◌, subst, arith, append_assoc, append-nil, replicate}
use Rattle.std.specs.Prelude.{slice_set}
use Rattle.std.specs.List.{All}
use Rattle.std.proofs.lemmas.List.{map-append, set-set, get_or-set_same}
use Rattle.std.proofs.lemmas.List.Elements.{All-append}
use Rattle.tce_space.specs.Space.{IndexSpace}
use Rattle.tce_tree.specs.ContractionTree.{ContractionTree, node_dims}
use Rattle.tce_fusion.specs.Row.{Row, rows_at}
use Rattle.tce_nesting.specs.Plan.{RowFits}
use Rattle.tce_cert.specs.Forms.{StatesRow}
use Rattle.tce_cert.specs.Lines.{row_line}
use Rattle.tce_cert.specs.declared.fault.CertFault.{CertFault}
use Rattle.tce_cert.specs.Certificate.{text_of}
use Rattle.tce_cert.specs.Faults.{Due, row, IsDue, IsFaultIn}
use Rattle.tce_cert.specs.Laws.{IsNestingRow}
use Rattle.tce_cert.specs.Reading.{ReadsThat, ReadsRows, KeepsFaults}
use Rattle.tce_cert.proofs.Faulty.{passed}
use Rattle.tce_cert.proofs.Texts.{text_of-append}

alone : {A : Type 0} (P : A → Type 0) (x : A) → P x → All P (x ∷ [])
alone P x is zero d l = is
alone P x is (suc k) d l = absurd (omega arith)

-- a line and its line feed behind the lines that were read
behind : (text at rest line : List ℕ) (lines : List (List ℕ)) → text ≡ text_of lines ++ at → at ≡ line ++ 10 ∷ rest → text ≡ text_of (lines ++ line ∷ []) ++ rest
behind text at rest line lines is_text is_at =
    is_text
    ∙ ap (λ t. text_of lines ++ t) (is_at ∙ sym (append_assoc line (10 ∷ []) rest))
    ∙ sym (append_assoc (text_of lines) (line ++ 10 ∷ []) rest)
    ∙ ap (λ t. t ++ rest) (ap (λ t. text_of lines ++ t) (sym (append-nil (line ++ 10 ∷ []))) ∙ sym (text_of-append lines (line ∷ [])))

pub one_row : (space : IndexSpace) (tree : ContractionTree) (v i m next : ℕ) (old tables new : List (List Row)) (text at rest : List ℕ) (r : Row) → v < length old
    → ReadsRows space tree v i old tables text at → ReadsThat at m rest next (λ line. StatesRow space (node_dims tree v) line r)
    → new ≡ slice_set tables v (rows_at tables v ++ r ∷ []) → ReadsRows space tree v (i + 1) old new text rest
one_row space tree v i m next old tables new text at rest r inside read that is_new = record {
  rows = read.rows ++ r ∷ [];
  count_is = length-append read.rows (r ∷ []) ∙ ap (λ n. n + 1) read.count_is;
  tables_are =
      let rows = rows_at old v ++ read.rows in
      is_new
      ∙ ap (λ ts. slice_set ts v (rows_at ts v ++ r ∷ [])) read.tables_are
      ∙ ap (λ rs. slice_set (slice_set old v rows) v (rs ++ r ∷ [])) (get_or-set_same old v rows [] inside)
      ∙ set-set old v rows (rows ++ r ∷ [])
      ∙ ap (slice_set old v) (append_assoc (rows_at old v) read.rows (r ∷ []));
  fit = All-append (RowFits (node_dims tree v)) read.rows (r ∷ []) read.fit (alone (RowFits (node_dims tree v)) r that.holds.fits);
  nestings = All-append IsNestingRow read.rows (r ∷ []) read.nestings (alone IsNestingRow r (record { nesting = that.holds.nesting; few = that.holds.few }));
  text_is =
      behind text at rest (row_line space r) (map (row_line space) read.rows) read.text_is (that.reads.cut.text_is ∙ ap (λ l. l ++ 10 ∷ rest) that.holds.text_is)
      ∙ ap (λ ls. text_of ls ++ rest) (sym (map-append (row_line space) read.rows (r ∷ [])));
}

pub row_due : (space : IndexSpace) (tree : ContractionTree) (v m next : ℕ) (at rest : List ℕ) (r : Row) → (that : ReadsThat at m rest next (λ line. StatesRow space (node_dims tree v) line r))
    → IsDue space tree (row v) that.line []
row_due space tree v m next at rest r that = ((r, that.holds), refl)

one_less : (rows i : ℕ) → i < rows → suc (rows - (i + 1)) ≡ rows - i
one_less rows i l = omega arith

pub keeps_more : (space : IndexSpace) (tree : ContractionTree) (v rows i n m next : ℕ) (text at rest : List ℕ) (r : Row) → i < rows
    → KeepsFaults space tree (replicate rows (row v)) n text (replicate (rows - i) (row v)) m at → ReadsThat at m rest next (λ line. StatesRow space (node_dims tree v) line r)
    → KeepsFaults space tree (replicate rows (row v)) n text (replicate (rows - (i + 1)) (row v)) next rest
keeps_more space tree v rows i n m next text at rest r l keeps that ds fault is =
    keeps ds fault (subst (λ k. IsFaultIn space tree (replicate k (row v) ++ ds) m at fault) (one_less rows i l)
    (passed space tree (row v) (replicate (rows - (i + 1)) (row v) ++ ds) [] m next at that.line rest fault that.reads (row_due space tree v m next at rest r that) is))

pub row_fault : (space : IndexSpace) (tree : ContractionTree) (v rows i n m : ℕ) (text at : List ℕ) (fault : CertFault) → i < rows
    → KeepsFaults space tree (replicate rows (row v)) n text (replicate (rows - i) (row v)) m at → ((ds : List Due) → IsFaultIn space tree (row v ∷ ds) m at fault)
    → (ds : List Due) → IsFaultIn space tree (replicate rows (row v) ++ ds) n text fault
row_fault space tree v rows i n m text at fault l keeps is ds =
    keeps ds fault (subst (λ k. IsFaultIn space tree (replicate k (row v) ++ ds) m at fault) (one_less rows i l) (is (replicate (rows - (i + 1)) (row v) ++ ds)))
