-- A certificate has no fault.
use Rattle.std.proofs.Common.{◌≡◌, ◌≢◌, ℕ, zero, suc, ◌+◌, ◌-◌, ◌<◌, ◌≤◌, ◌^◌, ◌==◌, not, true, List, [], ◌∷◌, ◌++◌, codes, length, map, replicate, Option, Some, None, refl, ap, sym, ◌∙◌, subst, arith, append-nil, inl, inr}
use Rattle.std.specs.Fmt.{decimal}
use Rattle.std.specs.Prelude.{slice_index, ◌⊎◌, Result, IfErr}
use Rattle.std.specs.declared.result.Result.TheVariants.{Ok, Err}
use Rattle.std.specs.List.{All, list_all, flat_map, range_with_len}
use Rattle.std.proofs.lemmas.Bool.{and_parts, not-true, and_from}
use Rattle.std.proofs.lemmas.List.{get_or_past}
use Rattle.std.proofs.lemmas.List.Folds.{list_all-append}
use Rattle.std.proofs.Math.Nat.{eq-or-lt_of_le}
use Rattle.tce_space.specs.IndexSet.{members}
use Rattle.tce_space.specs.Name.{is_name}
use Rattle.tce_space.specs.Space.{IndexSpace, IsSpace, IsDeclared}
use Rattle.tce_fields.specs.Fields.{lacks, listed}
use Rattle.tce_fields.specs.Names.{names_of}
use Rattle.tce_fields.proofs.Listing.{names_lack, joined_lacks}
use Rattle.tce_tree.specs.ContractionTree.{ContractionTree, operations, node_dims}
use Rattle.tce_tree.specs.FlatTree.{IsTree}
use Rattle.tce_tree.specs.Fusion.{fused_at}
use Rattle.tce_tree.specs.WellFormed.{IsDeclaredTree}
use Rattle.tce_tree.specs.declared.node.Kind.{Kind}
use Rattle.tce_tree.specs.declared.node.Kind.TheVariants.{Product, Sum, Add, Sub}
use Rattle.tce_tree.proofs.NamedIndexes.{node_dims_declared}
use Rattle.tce_fusion.specs.Row.{Row, rows_at}
use Rattle.tce_nesting.specs.Plan.{PlanFits, RowFits, LiesWithin}
use Rattle.tce_nesting.specs.declared.plan.Plan.{Plan}
use Rattle.tce_report.specs.NodeForm.{Form, IsForm, IsArrayForm, ArrayForm, form_text, array_text}
use Rattle.tce_report.specs.NodeLine.{MaySay, Said, said_of, stated, node_line, line_saying, set_text, loops_written, kind_word}
use Rattle.tce_report.specs.ReadLine.{form_saying}
use Rattle.tce_report.proofs.Reading.{saying_form, saying_text, names_named}
use Rattle.tce_cert.specs.Cut.{Lacks}
use Rattle.tce_cert.specs.Lines.{opening_line, memory_line, table_line, row_line, classes_text, end_line}
use Rattle.tce_cert.proofs.Stated.{decimal_lacks}
use Rattle.tce_cert.proofs.StatedClass.{set_declared}
use Rattle.tce_cert.specs.declared.fault.CertFault.{CertFault}
use Rattle.tce_cert.specs.declared.fault.CertFault.TheVariants.{BadText, WrongTree, Memory}
use Rattle.tce_cert.specs.Certificate.{text_of, table_lines, certificate, certificate_lines, nodes_lines, tables_lines}
use Rattle.tce_cert.specs.Faults.{Due, opening, node, memory, table, row, ending, tables_due, all_due, IsDue, IsFirstFault, IsFaultIn, IsFault}
use Rattle.tce_cert.specs.Laws.{IsNestingRow, AreNestingRows, RowsAreNestings, CertificatesHaveNoFault}
use Rattle.tce_cert.proofs.Faulty.{parts, line_parts, some_parts}
use Rattle.tce_cert.proofs.OneFault.{due_once}
use Rattle.tce_cert.proofs.TableRuns.{text_more, text_line}
use Rattle.tce_cert.proofs.Sets.{members_declared}

pub to_lacks : (text : List ℕ) → lacks 10 text ≡ true → Lacks 10 text
to_lacks [] e k d l = absurd (omega arith)
to_lacks (b ∷ bs) e zero d l = not-true (b == 10) (and_parts (not (b == 10)) (lacks 10 bs) e).0
to_lacks (b ∷ bs) e (suc k) d l = to_lacks bs (and_parts (not (b == 10)) (lacks 10 bs) e).1 k d (omega arith)

from_lacks : (text : List ℕ) → Lacks 10 text → lacks 10 text ≡ true
from_lacks [] all = refl
from_lacks (b ∷ bs) all = and_from (not (b == 10)) (lacks 10 bs) (ap not (all 0 0 (omega arith))) (from_lacks bs (λ k d l. all (suc k) d (omega arith)))

pub in_both : (xs ys : List ℕ) → lacks 10 xs ≡ true → lacks 10 ys ≡ true → lacks 10 (xs ++ ys) ≡ true
in_both xs ys e f = list_all-append (λ b. not (b == 10)) xs ys ∙ and_from (lacks 10 xs) (lacks 10 ys) e f

pub number_lacks : (n : ℕ) → n < 2 ^ 96 → lacks 10 (decimal n) ≡ true
number_lacks n l = from_lacks (decimal n) (decimal_lacks 10 n (omega arith) l)

names_lack_feeds : (names : List (List ℕ)) → list_all is_name names ≡ true → lacks 10 (listed names) ≡ true
names_lack_feeds [] all = refl
names_lack_feeds (name ∷ names) all = joined_lacks 10 44 (name ∷ names) refl (names_lack 10 (name ∷ names) refl all)

word_lacks_feeds : (kind : Kind) → lacks 10 (kind_word kind) ≡ true
word_lacks_feeds Product = refl
word_lacks_feeds Sum = refl
word_lacks_feeds Add = refl
word_lacks_feeds Sub = refl

array_lacks : (array : Option ArrayForm) → IsArrayForm array → lacks 10 (array_text array) ≡ true
array_lacks None is = refl
array_lacks (Some array) is =
    in_both (codes " fused ") (listed array.fused ++ (codes " size " ++ decimal array.size)) refl
    (in_both (listed array.fused) (codes " size " ++ decimal array.size) (names_lack_feeds array.fused is.0.named)
    (in_both (codes " size ") (decimal array.size) refl (number_lacks array.size is.1)))

form_lacks : (form : Form) → IsForm form → lacks 10 (form_text form) ≡ true
unfolding loops_written
form_lacks form is =
    let word = kind_word form.kind in
    let loops = codes " loops " ++ listed form.order in
    in_both (loops_written form.node form.kind form.order) (array_text form.array)
    (in_both (codes "node ") (decimal form.node ++ (codes " " ++ (word ++ loops))) refl
    (in_both (decimal form.node) (codes " " ++ (word ++ loops)) (number_lacks form.node is.node)
    (in_both (codes " ") (word ++ loops) refl
    (in_both word loops (word_lacks_feeds form.kind)
    (in_both (codes " loops ") (listed form.order) refl (names_lack_feeds form.order is.order.named))))))
    (array_lacks form.array is.array)

-- the line of a node that may say this has none
pub saying_lacks : (space : IndexSpace) (tree : ContractionTree) (v : ℕ) (s : Said) → IsSpace space → IsTree tree → IsDeclaredTree space tree → v < operations tree → MaySay tree v s
    → lacks 10 (line_saying space tree v s) ≡ true
saying_lacks space tree v s is_space is_tree declared inside may =
    subst (λ l. lacks 10 l ≡ true) (saying_text space tree v s) (form_lacks (form_saying space tree v s) (saying_form space tree v s is_space is_tree declared inside may))

sets_lack : (space : IndexSpace) (dims : ℕ) (classes : List ℕ) → IsSpace space → IsDeclared space dims → All (LiesWithin dims) classes → list_all (lacks 10) (map (set_text space) classes) ≡ true
unfolding set_text
sets_lack space dims [] is declared within = refl
sets_lack space dims (c ∷ cs) is declared within =
    and_from (lacks 10 (set_text space c)) (list_all (lacks 10) (map (set_text space) cs))
    (names_lack_feeds (names_of space (members c)) (names_named space (members c) is (members_declared space c (set_declared space dims c declared (within 0 0 (omega arith))))))
    (sets_lack space dims cs is declared (λ k d l. within (suc k) d (omega arith)))

classes_lack : (space : IndexSpace) (dims : ℕ) (classes : List ℕ) → IsSpace space → IsDeclared space dims → All (LiesWithin dims) classes → lacks 10 (classes_text space classes) ≡ true
classes_lack space dims [] is declared within = refl
classes_lack space dims (c ∷ cs) is declared within = joined_lacks 10 47 (map (set_text space) (c ∷ cs)) refl (sets_lack space dims (c ∷ cs) is declared within)

pub row_lacks : (space : IndexSpace) (dims : ℕ) (r : Row) → IsSpace space → IsDeclared space dims → RowFits dims r → lacks 10 (row_line space r) ≡ true
row_lacks space dims r is declared fits =
    in_both (codes "row ") (decimal r.cost ++ (codes " " ++ classes_text space r.classes)) refl
    (in_both (decimal r.cost) (codes " " ++ classes_text space r.classes) (number_lacks r.cost fits.cost)
    (in_both (codes " ") (classes_text space r.classes) refl (classes_lack space dims r.classes is declared fits.classes)))

-- no line of the text is at fault where these are due
abbrev Clean : IndexSpace → ContractionTree → List Due → List ℕ → Type 0
Clean space tree due text = (n : ℕ) (fault : CertFault) → IsFaultIn space tree due n text fault → ⊥

clean_line : (space : IndexSpace) (tree : ContractionTree) (d : Due) (ds more : List Due) (line rest : List ℕ) → lacks 10 line ≡ true → IsDue space tree d line more
    → Clean space tree (more ++ ds) rest → Clean space tree (d ∷ ds) (line ++ 10 ∷ rest)
clean_line space tree d ds more line rest lacking due clean n fault is =
    by_rest (parts rest) (some_parts rest) refl
    (subst (λ ps. IsFirstFault space tree (d ∷ ds) n ps fault) (line_parts (line ++ 10 ∷ rest) line rest (record { text_is = refl; first = to_lacks line lacking })) is)
  where
    by_rest : (ps : List (List ℕ)) → ps ≢ [] → parts rest ≡ ps → IsFirstFault space tree (d ∷ ds) n (line ∷ ps) fault → ⊥
    by_rest [] some e is = some refl
    by_rest (p ∷ ps) some e is = elim is [
      | inl passed ↦
          clean (n + 1) fault (subst (λ qs. IsFirstFault space tree (more ++ ds) (n + 1) qs fault) (sym e)
          (subst (λ m. IsFirstFault space tree (m ++ ds) (n + 1) (p ∷ ps) fault) (due_once space tree d line passed.0 more passed.1.0 due) passed.1.1))
      | inr refused ↦ refused.0 more due
    ]

clean_next : (space : IndexSpace) (tree : ContractionTree) (d : Due) (ds more : List Due) (line : List ℕ) (lines : List (List ℕ)) (rest : List ℕ) → lacks 10 line ≡ true → IsDue space tree d line more
    → Clean space tree (more ++ ds) (text_of lines ++ rest) → Clean space tree (d ∷ ds) (text_of (line ∷ lines) ++ rest)
clean_next space tree d ds more line lines rest lacking due clean =
    subst (Clean space tree (d ∷ ds)) (text_line line lines (line ++ 10 ∷ (text_of lines ++ rest)) (text_of lines ++ rest) rest refl refl)
    (clean_line space tree d ds more line (text_of lines ++ rest) lacking due clean)

clean_more : (space : IndexSpace) (tree : ContractionTree) (due : List Due) (lines more : List (List ℕ)) (rest : List ℕ)
    → Clean space tree due (text_of lines ++ (text_of more ++ rest)) → Clean space tree due (text_of (lines ++ more) ++ rest)
clean_more space tree due lines more rest clean =
    subst (Clean space tree due) (text_more lines more (text_of lines ++ (text_of more ++ rest)) (text_of more ++ rest) rest refl refl) clean

pub may_say : (tree : ContractionTree) (plan : Plan) (v : ℕ) → v < operations tree → PlanFits tree plan → MaySay tree v (said_of (stated plan) v)
may_say tree plan v l fits = record {
  order = fits.orders.permute v l;
  fused = fits.fusion.within v l;
  size = by_place (eq-or-lt_of_le {n = v} {m = length plan.sizes.items} (omega (arith, l, fits.sizes)));
  root = λ last. (
    ap (fused_at plan.fusion.0.items) (before last) ∙ fits.fusion.root,
    get_or_past plan.sizes.items v 0 (omega (arith, last, fits.sizes)),
  );
}
  where
    before : v + 1 ≡ operations tree → v ≡ operations tree - 1
    before last = omega (arith, last)

    by_place : (v ≡ length plan.sizes.items) ⊎ (v < length plan.sizes.items) → slice_index plan.sizes.items v < 2 ^ 96
    by_place place = elim place [
      | inl same ↦ subst (λ n. n < 2 ^ 96) (sym (get_or_past plan.sizes.items v 0 (omega (arith, same)))) (omega arith)
      | inr below ↦ fits.size_limit v 0 below
    ]

-- what the lines of a plan rest on
pub record Fit (space : IndexSpace) (tree : ContractionTree) (plan : Plan) : Type 0 where
  pub is_space : IsSpace space
  pub is_tree : IsTree tree
  pub declared : IsDeclaredTree space tree
  pub fits : PlanFits tree plan
  pub nestings : RowsAreNestings plan.tables

nodes_clean : (space : IndexSpace) (tree : ContractionTree) (plan : Plan) (behind : List Due) (rest : List ℕ) (v k : ℕ) → Fit space tree plan → v + k ≤ operations tree → Clean space tree behind rest
    → Clean space tree (map node (range_with_len v k) ++ behind) (text_of (map (node_line space tree (stated plan)) (range_with_len v k)) ++ rest)
unfolding node_line
nodes_clean space tree plan behind rest v zero fit l clean = clean
nodes_clean space tree plan behind rest v (suc k) fit l clean =
    let s = said_of (stated plan) v in
    let inside : v < operations tree = omega (arith, l) in
    let may = may_say tree plan v inside fit.fits in
    clean_next space tree (node v) (map node (range_with_len (v + 1) k) ++ behind) [] (line_saying space tree v s) (map (node_line space tree (stated plan)) (range_with_len (v + 1) k)) rest
    (ap (lacks 10) (sym (saying_text space tree v s)) ∙ form_lacks (form_saying space tree v s) (saying_form space tree v s fit.is_space fit.is_tree fit.declared inside may))
    ((s, record { allowed = may; text_is = refl }), refl)
    (nodes_clean space tree plan behind rest (v + 1) k fit (omega (arith, l)) clean)

rows_clean : (space : IndexSpace) (tree : ContractionTree) (v : ℕ) (behind : List Due) (rest : List ℕ) (rows : List Row) → IsSpace space → IsDeclared space (node_dims tree v)
    → All (RowFits (node_dims tree v)) rows → All IsNestingRow rows → Clean space tree behind rest
    → Clean space tree (replicate (length rows) (row v) ++ behind) (text_of (map (row_line space) rows) ++ rest)
rows_clean space tree v behind rest [] is declared fits nestings clean = clean
rows_clean space tree v behind rest (r ∷ rows) is declared fits nestings clean =
    let fit : RowFits (node_dims tree v) r = fits 0 r (omega arith) in
    let nesting : IsNestingRow r = nestings 0 r (omega arith) in
    clean_next space tree (row v) (replicate (length rows) (row v) ++ behind) [] (row_line space r) (map (row_line space) rows) rest (row_lacks space (node_dims tree v) r is declared fit)
    ((r, record { fits = fit; few = nesting.few; nesting = nesting.nesting; text_is = refl }), refl)
    (rows_clean space tree v behind rest rows is declared (λ k d l. fits (suc k) d (omega arith)) (λ k d l. nestings (suc k) d (omega arith)) clean)

pub head_lacks : (v rows : ℕ) → v < 2 ^ 96 → rows < 2 ^ 96 → lacks 10 (table_line v rows) ≡ true
head_lacks v rows l m =
    in_both (codes "table ") (decimal v ++ (codes " " ++ decimal rows)) refl
    (in_both (decimal v) (codes " " ++ decimal rows) (number_lacks v l) (in_both (codes " ") (decimal rows) refl (number_lacks rows m)))

tables_clean : (space : IndexSpace) (tree : ContractionTree) (plan : Plan) (behind : List Due) (rest : List ℕ) (v k : ℕ) → Fit space tree plan → v + k ≤ length plan.tables → Clean space tree behind rest
    → Clean space tree (map table (range_with_len v k) ++ behind) (text_of (flat_map (table_lines space plan.tables) (range_with_len v k)) ++ rest)
tables_clean space tree plan behind rest v zero fit l clean = clean
tables_clean space tree plan behind rest v (suc k) fit l clean =
    let rows = rows_at plan.tables v in
    let inside : v < operations tree = omega (arith, l, fit.fits.tables) in
    let listed : v < length plan.tables = omega (arith, l) in
    let small : v < 2 ^ 96 = omega (arith, inside, fit.is_tree.limit) in
    let nestings : AreNestingRows (rows_at plan.tables v) = fit.nestings v listed in
    let more = flat_map (table_lines space plan.tables) (range_with_len (v + 1) k) in
    clean_next space tree (table v) (map table (range_with_len (v + 1) k) ++ behind) (replicate (length rows) (row v)) (table_line v (length rows)) (map (row_line space) rows ++ more) rest
    (head_lacks v (length rows) small nestings.few)
    (length rows, (record { node_limit = small; rows_limit = nestings.few; text_is = refl }, refl))
    (clean_more space tree (replicate (length rows) (row v) ++ (map table (range_with_len (v + 1) k) ++ behind)) (map (row_line space) rows) more rest
    (rows_clean space tree v (map table (range_with_len (v + 1) k) ++ behind) (text_of more ++ rest) rows fit.is_space
    (node_dims_declared space tree v inside fit.is_space.index_limit fit.declared) (fit.fits.rows v listed) nestings.each
    (tables_clean space tree plan behind rest (v + 1) k fit (omega (arith, l)) clean)))

nothing_clean : (space : IndexSpace) (tree : ContractionTree) → Clean space tree [] []
nothing_clean space tree n fault is = is.0 refl

end_clean : (space : IndexSpace) (tree : ContractionTree) → Clean space tree (ending ∷ []) (text_of (end_line ∷ []) ++ [])
end_clean space tree = clean_next space tree ending [] [] end_line [] [] refl (refl, refl) (nothing_clean space tree)

all_clean : (space : IndexSpace) (tree : ContractionTree) (plan : Plan) → Fit space tree plan → Clean space tree (all_due tree) (certificate space tree plan)
unfolding certificate certificate_lines
all_clean space tree plan fit =
    let nodes = nodes_lines space tree plan (operations tree) in
    let tables = tables_lines space plan.tables (length plan.tables) in
    let total = memory_line plan.memory in
    let count : length plan.tables ≡ operations tree - 1 = omega (arith, fit.fits.tables) in
    let c3 : Clean space tree (tables_due tree) (text_of (tables ++ end_line ∷ []) ++ []) =
    clean_more space tree (tables_due tree) tables (end_line ∷ []) []
    (subst (λ k. Clean space tree (map table (range_with_len 0 k) ++ ending ∷ []) (text_of tables ++ (text_of (end_line ∷ []) ++ []))) count
    (tables_clean space tree plan (ending ∷ []) (text_of (end_line ∷ []) ++ []) 0 (length plan.tables) fit (omega arith) (end_clean space tree))) in
    let c2 : Clean space tree (memory ∷ tables_due tree) (text_of (total ∷ (tables ++ end_line ∷ [])) ++ []) =
    clean_next space tree memory (tables_due tree) [] total (tables ++ end_line ∷ []) []
    (in_both (codes "memory ") (decimal plan.memory) refl (number_lacks plan.memory fit.fits.memory_limit))
    ((plan.memory, record { limit = fit.fits.memory_limit; text_is = refl }), refl) c3 in
    let c1 : Clean space tree (map node (range_with_len 0 (operations tree)) ++ (memory ∷ tables_due tree)) (text_of (nodes ++ (total ∷ (tables ++ end_line ∷ []))) ++ []) =
    clean_more space tree (map node (range_with_len 0 (operations tree)) ++ (memory ∷ tables_due tree)) nodes (total ∷ (tables ++ end_line ∷ [])) []
    (nodes_clean space tree plan (memory ∷ tables_due tree) (text_of (total ∷ (tables ++ end_line ∷ [])) ++ []) 0 (operations tree) fit (omega arith) c2) in
    subst (Clean space tree (all_due tree)) (append-nil (text_of (opening_line ∷ (nodes ++ (total ∷ (tables ++ end_line ∷ []))))))
    (clean_next space tree opening (map node (range_with_len 0 (operations tree)) ++ (memory ∷ tables_due tree)) [] opening_line (nodes ++ (total ∷ (tables ++ end_line ∷ []))) [] refl (refl, refl) c1)

pub certificates_have_no_fault : CertificatesHaveNoFault
certificates_have_no_fault space tree plan fault is_space is_tree declared fits nestings is =
    all_clean space tree plan (record { is_space = is_space; is_tree = is_tree; declared = declared; fits = fits; nestings = nestings }) 1 fault is

not_at_fault : (space : IndexSpace) (tree : ContractionTree) (plan : Plan) (bytes : List ℕ) (fault : CertFault) → Fit space tree plan → bytes ≡ certificate space tree plan
    → (fault ≢ Memory → IsFault space tree bytes fault) → fault ≡ Memory
not_at_fault space tree plan bytes (BadText n) fit whole is = absurd (all_clean space tree plan fit 1 (BadText n) (subst (λ text. IsFault space tree text (BadText n)) whole (is (λ e. cc))))
not_at_fault space tree plan bytes (WrongTree n) fit whole is = absurd (all_clean space tree plan fit 1 (WrongTree n) (subst (λ text. IsFault space tree text (WrongTree n)) whole (is (λ e. cc))))
not_at_fault space tree plan bytes Memory fit whole is = refl

-- a reader whose faults are those of the text is in want of memory where it refuses a certificate
pub refused : {A : Type 0} (result : Result A CertFault) (space : IndexSpace) (tree : ContractionTree) (bytes : List ℕ) (plan : Plan) → IsSpace space → IsTree tree → IsDeclaredTree space tree
    → PlanFits tree plan → RowsAreNestings plan.tables → bytes ≡ certificate space tree plan
    → IfErr result (λ fault. fault ≢ Memory → IsFault space tree bytes fault) → IfErr result (λ fault. fault ≡ Memory)
refused (Ok x) space tree bytes plan is_space is_tree declared fits nestings whole is = tt
refused (Err fault) space tree bytes plan is_space is_tree declared fits nestings whole is =
    not_at_fault space tree plan bytes fault (record { is_space = is_space; is_tree = is_tree; declared = declared; fits = fits; nestings = nestings }) whole is
