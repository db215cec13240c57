-- Lines of nodes and tables as they are read, one after the other.
use Rattle.std.proofs.Common.{◌≡◌, ℕ, zero, suc, ◌+◌, ◌-◌, ◌<◌, ◌≤◌, ◌^◌, List, [], ◌∷◌, ◌++◌, length, map, refl, ap, ap₂, sym, ◌∙◌, subst, arith, append_assoc, replicate, add-one, inl, inr}
use Rattle.std.specs.Prelude.{slice_set}
use Rattle.std.specs.List.{All, flat_map, range_with_len}
use Rattle.std.proofs.lemmas.List.{get_or-set_other, get_or-set_same, flat_map_more}
use Rattle.std.proofs.Math.Nat.{eq-or-lt_of_le}
use Rattle.tce_space.specs.Space.{IndexSpace}
use Rattle.tce_space.proofs.Ranges.{range_next}
use Rattle.tce_tree.specs.ContractionTree.{ContractionTree, node_dims}
use Rattle.tce_fusion.specs.Row.{Row, rows_at}
use Rattle.tce_nesting.specs.Plan.{RowFits}
use Rattle.tce_cert.specs.Forms.{StatesTable}
use Rattle.tce_cert.specs.Lines.{row_line, table_line}
use Rattle.tce_cert.specs.declared.fault.CertFault.{CertFault}
use Rattle.tce_cert.specs.Certificate.{text_of, table_lines, tables_lines}
use Rattle.tce_cert.specs.Faults.{Due, table, row, IsDue, IsFaultIn}
use Rattle.tce_cert.specs.Laws.{AreNestingRows}
use Rattle.tce_cert.specs.Reading.{ReadsThat, ReadsRows, ReadsTables, KeepsFaults}
use Rattle.tce_cert.proofs.Faulty.{passed}
use Rattle.tce_cert.proofs.Texts.{text_of-append, range_lines_more}

-- the next line of those that are due
pub next_due : (d : ℕ → Due) (v n : ℕ) → v < n → map d (range_with_len v (n - v)) ≡ d v ∷ map d (range_with_len (v + 1) (n - (v + 1)))
next_due d v n l = ap (λ k. map d (range_with_len v k)) left
  where
    left : n - v ≡ suc (n - (v + 1))
    left = omega (arith, l)

-- none is due behind the last
pub none_due : (d : ℕ → Due) (v n : ℕ) → v ≡ n → map d (range_with_len v (n - v)) ≡ []
none_due d v n e = ap (λ k. map d (range_with_len v k)) left
  where
    left : n - v ≡ 0
    left = omega (arith, e)

pub opened : (space : IndexSpace) (tree : ContractionTree) (d : ℕ → Due) (v count : ℕ) (before : List Due) (n m : ℕ) (text at : List ℕ) → v < count
    → KeepsFaults space tree before n text (map d (range_with_len v (count - v))) m at
    → KeepsFaults space tree before n text (d v ∷ map d (range_with_len (v + 1) (count - (v + 1)))) m at
opened space tree d v count before n m text at l keeps = subst (λ behind. KeepsFaults space tree before n text behind m at) (next_due d v count l) keeps

pub closed : (space : IndexSpace) (tree : ContractionTree) (d : ℕ → Due) (v count : ℕ) (before : List Due) (n m : ℕ) (text at : List ℕ) → v ≡ count
    → KeepsFaults space tree before n text (map d (range_with_len v (count - v))) m at → KeepsFaults space tree before n text [] m at
closed space tree d v count before n m text at e keeps = subst (λ behind. KeepsFaults space tree before n text behind m at) (none_due d v count e) keeps

-- a line that is due, which makes no more due
pub keeps_line : (space : IndexSpace) (tree : ContractionTree) (d : Due) (before behind : List Due) (n m next : ℕ) (text at rest : List ℕ) (Holds : List ℕ → Type 0)
    → KeepsFaults space tree before n text (d ∷ behind) m at → (that : ReadsThat at m rest next Holds) → IsDue space tree d that.line []
    → KeepsFaults space tree before n text behind next rest
keeps_line space tree d before behind n m next text at rest Holds keeps that due ds fault is =
    keeps ds fault (passed space tree d (behind ++ ds) [] m next at that.line rest fault that.reads due is)

-- a fault on the next line that is due
pub line_fault : (space : IndexSpace) (tree : ContractionTree) (d : Due) (before behind : List Due) (n m : ℕ) (text at : List ℕ) (fault : CertFault)
    → KeepsFaults space tree before n text (d ∷ behind) m at → ((ds : List Due) → IsFaultIn space tree (d ∷ ds) m at fault)
    → (ds : List Due) → IsFaultIn space tree (before ++ ds) n text fault
line_fault space tree d before behind n m text at fault keeps is ds = keeps ds fault (is (behind ++ ds))

-- the head of a table that is due makes its rows due
pub rows_fault : (space : IndexSpace) (tree : ContractionTree) (v rows : ℕ) (before behind : List Due) (n m next : ℕ) (text at rest : List ℕ) (fault : CertFault)
    → KeepsFaults space tree before n text (table v ∷ behind) m at → ReadsThat at m rest next (λ line. StatesTable line v rows)
    → ((ds : List Due) → IsFaultIn space tree (replicate rows (row v) ++ ds) next rest fault)
    → (ds : List Due) → IsFaultIn space tree (before ++ ds) n text fault
rows_fault space tree v rows before behind n m next text at rest fault keeps that is ds =
    keeps ds fault (passed space tree (table v) (behind ++ ds) (replicate rows (row v)) m next at that.line rest fault that.reads (rows, (that.holds, refl)) (is (behind ++ ds)))

pub keeps_table : (space : IndexSpace) (tree : ContractionTree) (v rows : ℕ) (before behind : List Due) (n m next last : ℕ) (text at rest to : List ℕ)
    → KeepsFaults space tree before n text (table v ∷ behind) m at → ReadsThat at m rest next (λ line. StatesTable line v rows)
    → KeepsFaults space tree (replicate rows (row v)) next rest [] last to
    → KeepsFaults space tree before n text behind last to
keeps_table space tree v rows before behind n m next last text at rest to keeps that of_rows ds fault is =
    keeps ds fault (passed space tree (table v) (behind ++ ds) (replicate rows (row v)) m next at that.line rest fault that.reads (rows, (that.holds, refl)) (of_rows (behind ++ ds) fault is))

-- lists that agree below a number
pub lines_same : (f g : ℕ → List ℕ) (v : ℕ) → ((w : ℕ) → w < v → f w ≡ g w) → map f (range_with_len 0 v) ≡ map g (range_with_len 0 v)
lines_same f g zero same = refl
lines_same f g (suc v) same =
    ap (λ k. map f (range_with_len 0 k)) (sym (add-one v)) ∙ sym (range_lines_more f v)
    ∙ ap₂ (λ xs y. xs ++ y ∷ []) (lines_same f g v (λ w l. same w (omega (arith, l)))) (same v (omega arith))
    ∙ range_lines_more g v ∙ ap (λ k. map g (range_with_len 0 k)) (add-one v)

flat_next : (f : ℕ → List (List ℕ)) (v : ℕ) → flat_map f (range_with_len 0 v) ++ f v ≡ flat_map f (range_with_len 0 (v + 1))
flat_next f v = flat_map_more f [] (range_with_len 0 v) v ∙ ap (flat_map f) (sym (range_next v))

flat_same : (f g : ℕ → List (List ℕ)) (v : ℕ) → ((w : ℕ) → w < v → f w ≡ g w) → flat_map f (range_with_len 0 v) ≡ flat_map g (range_with_len 0 v)
flat_same f g zero same = refl
flat_same f g (suc v) same =
    ap (λ k. flat_map f (range_with_len 0 k)) (sym (add-one v)) ∙ sym (flat_next f v)
    ∙ ap₂ (λ xs ys. xs ++ ys) (flat_same f g v (λ w l. same w (omega (arith, l)))) (same v (omega arith))
    ∙ flat_next g v ∙ ap (λ k. flat_map g (range_with_len 0 k)) (add-one v)

-- the text of more lines behind those that were read
pub text_more : (lines more : List (List ℕ)) (text at rest : List ℕ) → text ≡ text_of lines ++ at → at ≡ text_of more ++ rest → text ≡ text_of (lines ++ more) ++ rest
text_more lines more text at rest is_text is_at =
    is_text ∙ ap (λ t. text_of lines ++ t) is_at ∙ sym (append_assoc (text_of lines) (text_of more) rest) ∙ ap (λ t. t ++ rest) (sym (text_of-append lines more))

pub text_line : (line : List ℕ) (more : List (List ℕ)) (text at rest : List ℕ) → text ≡ line ++ 10 ∷ at → at ≡ text_of more ++ rest → text ≡ text_of (line ∷ more) ++ rest
text_line line more text at rest is_text is_at =
    is_text ∙ ap (λ t. line ++ 10 ∷ t) is_at ∙ sym (append_assoc line (10 ∷ []) (text_of more ++ rest)) ∙ sym (append_assoc (line ++ 10 ∷ []) (text_of more) rest)

-- the lists of the nodes from `v` on are empty
abbrev pub EmptyFrom : ℕ → List (List Row) → Type 0
EmptyFrom v tables = (w : ℕ) → v ≤ w → rows_at tables w ≡ []

pub set_elsewhere : (tables : List (List Row)) (v w : ℕ) (rows : List Row) (new : List (List Row)) → new ≡ slice_set tables v rows → (w ≡ v → ⊥) → rows_at new w ≡ rows_at tables w
set_elsewhere tables v w rows new e other = ap (λ ts. rows_at ts w) e ∙ get_or-set_other tables v w rows [] other

pub empty_more : (v : ℕ) (tables new : List (List Row)) (rows : List Row) → new ≡ slice_set tables v rows → EmptyFrom v tables → EmptyFrom (v + 1) new
empty_more v tables new rows e empty w l = set_elsewhere tables v w rows new e (λ same. absurd (omega (arith, l, same))) ∙ empty w (omega (arith, l))

pub one_table : (space : IndexSpace) (tree : ContractionTree) (v count m next : ℕ) (tables new : List (List Row)) (text at rest to : List ℕ) → v < length tables
    → EmptyFrom v tables → ReadsTables space tree v tables text at → ReadsThat at m rest next (λ line. StatesTable line v count)
    → ReadsRows space tree v count tables new rest to → ReadsTables space tree (v + 1) new text to
one_table space tree v count m next tables new text at rest to inside empty read that of_rows =
    let here : rows_at new v ≡ of_rows.rows = ap (λ ts. rows_at ts v) of_rows.tables_are ∙ get_or-set_same tables v (rows_at tables v ++ of_rows.rows) [] inside ∙ ap (λ rs. rs ++ of_rows.rows) (empty v (omega arith)) in
    let there : (w : ℕ) → w < v → rows_at new w ≡ rows_at tables w = λ w l. set_elsewhere tables v w (rows_at tables v ++ of_rows.rows) new of_rows.tables_are (λ same. absurd (omega (arith, l, same))) in
    record {
      fit = by_place here there;
      nestings = nestings_by_place here there;
      text_is =
          text_more (tables_lines space tables v) (table_line v count ∷ map (row_line space) of_rows.rows) text at to read.text_is
          (text_line (table_line v count) (map (row_line space) of_rows.rows) at rest to (that.reads.cut.text_is ∙ ap (λ l. l ++ 10 ∷ rest) that.holds.text_is) of_rows.text_is)
          ∙ ap (λ ls. text_of ls ++ to)
          (ap₂ (λ xs ys. xs ++ ys)
          (flat_same (table_lines space tables) (table_lines space new) v (λ w l. ap (λ rs. table_line w (length rs) ∷ map (row_line space) rs) (sym (there w l))))
          (ap (λ n. table_line v n ∷ map (row_line space) of_rows.rows) (sym of_rows.count_is) ∙ ap (λ rs. table_line v (length rs) ∷ map (row_line space) rs) (sym here))
          ∙ flat_next (table_lines space new) v);
    }
  where
    by_place : rows_at new v ≡ of_rows.rows → ((w : ℕ) → w < v → rows_at new w ≡ rows_at tables w) → (w : ℕ) → w < v + 1 → All (RowFits (node_dims tree w)) (rows_at new w)
    by_place here there w l = elim (eq-or-lt_of_le {n = w} {m = v} (omega (arith, l))) [
      | inl same ↦ subst (λ u. All (RowFits (node_dims tree u)) (rows_at new u)) (sym same) (subst (All (RowFits (node_dims tree v))) (sym here) of_rows.fit)
      | inr below ↦ subst (All (RowFits (node_dims tree w))) (sym (there w below)) (read.fit w below)
    ]

    of_this : AreNestingRows of_rows.rows
    of_this = record { each = of_rows.nestings; few = subst (λ n. n < 2 ^ 96) (sym of_rows.count_is) that.holds.rows_limit }

    nestings_by_place : rows_at new v ≡ of_rows.rows → ((w : ℕ) → w < v → rows_at new w ≡ rows_at tables w) → (w : ℕ) → w < v + 1 → AreNestingRows (rows_at new w)
    nestings_by_place here there w l = elim (eq-or-lt_of_le {n = w} {m = v} (omega (arith, l))) [
      | inl same ↦ subst (λ u. AreNestingRows (rows_at new u)) (sym same) (subst AreNestingRows (sym here) of_this)
      | inr below ↦ subst AreNestingRows (sym (there w below)) (read.nestings w below)
    ]
