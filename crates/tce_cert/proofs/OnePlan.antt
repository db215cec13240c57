-- Plans with one certificate are equal.
use Rattle.std.proofs.Common.{◌≡◌, ℕ, zero, suc, ◌+◌, ◌<◌, ◌≤◌, ◌^◌, true, List, [], ◌∷◌, ◌++◌, codes, length, map, refl, ap, ap₂, sym, ◌∙◌, subst, arith, append-nil, inl, inr}
use Rattle.std.proofs.Math.Nat.{eq-or-lt_of_le}
use Rattle.std.specs.Fmt.{decimal}
use Rattle.std.specs.List.{All, list_all, flat_map, range_with_len}
use Rattle.std.proofs.lemmas.Bool.{and_parts, and_from as both}
use Rattle.std.proofs.lemmas.List.{length-map, ext_get_or}
use Rattle.std.proofs.lemmas.Option.{same_Some}
use Rattle.tce_space.specs.Space.{IndexSpace, IsSpace, IsDeclared}
use Rattle.tce_space.specs.declared.loop_order.LoopOrder.{LoopOrder}
use Rattle.tce_fields.specs.Fields.{lacks}
use Rattle.tce_tree.specs.ContractionTree.{ContractionTree, operations, node_dims}
use Rattle.tce_tree.specs.Orders.{lists_of}
use Rattle.tce_tree.proofs.NamedIndexes.{node_dims_declared}
use Rattle.tce_fusion.specs.StateClasses.{IsNesting}
use Rattle.tce_fusion.specs.Row.{Row, rows_at}
use Rattle.tce_nesting.specs.Plan.{RowFits, LiesWithin}
use Rattle.tce_nesting.specs.declared.plan.Plan.{Plan}
use Rattle.tce_report.specs.NodeLine.{Said, stated, said_of, node_line, line_saying, set_text}
use Rattle.tce_cert.specs.Forms.{StatesClasses}
use Rattle.tce_cert.specs.Lines.{opening_line, memory_line, table_line, row_line, classes_text, end_line}
use Rattle.tce_cert.proofs.Cuts.{cut_once}
use Rattle.tce_cert.proofs.Stated.{cost_once}
use Rattle.tce_cert.proofs.StatedClass.{set_declared}
use Rattle.tce_cert.proofs.StatedRows.{none_stated, classes_parts, decimal_once}
use Rattle.tce_cert.specs.Certificate.{text_of, table_lines, certificate, certificate_lines, nodes_lines, tables_lines}
use Rattle.tce_cert.specs.Laws.{IsNestingRow, AreNestingRows, PlansAreTheirCertificates}
use Rattle.tce_cert.proofs.NoFault.{Fit, to_lacks, saying_lacks, row_lacks, head_lacks, number_lacks, in_both, may_say}
use Rattle.tce_cert.proofs.OneFault.{rows_once}
use Rattle.tce_cert.proofs.OneSaid.{set_once, said_once, parts_once}
use Rattle.tce_cert.proofs.TableRuns.{text_more, text_line}

-- Rows.

-- the sets of a nesting by their texts
sets_once : (space : IndexSpace) (dims : ℕ) (xs bs : List ℕ) → IsSpace space → IsDeclared space dims → IsNesting xs → IsNesting bs → All (LiesWithin dims) xs → All (LiesWithin dims) bs
    → map (set_text space) xs ≡ map (set_text space) bs → xs ≡ bs
sets_once space dims [] [] is declared n m v w e = refl
sets_once space dims [] (b ∷ bs) is declared n m v w e = absurd (cc)
sets_once space dims (a ∷ xs) [] is declared n m v w e = absurd (cc)
sets_once space dims (a ∷ xs) (b ∷ bs) is declared n m v w e =
    let here : set_text space a ≡ set_text space b = cc in
    let rest : map (set_text space) xs ≡ map (set_text space) bs = cc in
    ap₂ (λ y ys. y ∷ ys)
    (set_once space a b is (set_declared space dims a declared (v 0 0 (omega arith))) (set_declared space dims b declared (w 0 0 (omega arith))) n.0 m.0 here)
    (sets_once space dims xs bs is declared n.3 m.3 (λ k d l. v (suc k) d (omega arith)) (λ k d l. w (suc k) d (omega arith)) rest)

classes_once : (space : IndexSpace) (dims : ℕ) (text : List ℕ) (xs bs : List ℕ) → IsSpace space → IsDeclared space dims → StatesClasses space dims text xs → StatesClasses space dims text bs → xs ≡ bs
classes_once space dims text [] bs is declared s t = same_Some [] bs ((none_stated space dims text is declared s.text_is bs).1 t)
classes_once space dims text (a ∷ xs) [] is declared s t = sym (same_Some [] (a ∷ xs) ((none_stated space dims text is declared t.text_is (a ∷ xs)).1 s))
classes_once space dims text (a ∷ xs) (b ∷ bs) is declared s t =
    sets_once space dims (a ∷ xs) (b ∷ bs) is declared s.nesting t.nesting s.within t.within
    (parts_once 47 10 text _ _ (classes_parts space dims text a xs is declared s) (classes_parts space dims text b bs is declared t))

row_same : (r q : Row) → r.classes ≡ q.classes → r.cost ≡ q.cost → r ≡ q
row_same r q a b = λ i. record { classes = a i; cost = b i }

row_once : (space : IndexSpace) (dims : ℕ) (r q : Row) → IsSpace space → IsDeclared space dims → RowFits dims r → RowFits dims q → IsNestingRow r → IsNestingRow q → row_line space r ≡ row_line space q → r ≡ q
row_once space dims r q is declared f g n m e =
    let both = cost_once (row_line space r) r.cost q.cost (classes_text space r.classes) (classes_text space q.classes) (record { limit = f.cost; text_is = refl }) (record { limit = g.cost; text_is = e }) in
    row_same r q
    (classes_once space dims (classes_text space r.classes) r.classes q.classes is declared
    (record { few = n.few; nesting = n.nesting; within = f.classes; text_is = refl }) (record { few = m.few; nesting = m.nesting; within = g.classes; text_is = both.1 }))
    (decimal_once r.cost q.cost f.cost g.cost both.0)

-- rows of a node
record Rows (space : IndexSpace) (dims : ℕ) (rows : List Row) : Type 0 where
  fits : All (RowFits dims) rows
  nestings : All IsNestingRow rows

rows_are_once : (space : IndexSpace) (dims : ℕ) (rs qs : List Row) → IsSpace space → IsDeclared space dims → Rows space dims rs → Rows space dims qs → map (row_line space) rs ≡ map (row_line space) qs → rs ≡ qs
rows_are_once space dims [] [] is declared f g e = refl
rows_are_once space dims [] (q ∷ qs) is declared f g e = absurd (cc)
rows_are_once space dims (r ∷ rs) [] is declared f g e = absurd (cc)
rows_are_once space dims (r ∷ rs) (q ∷ qs) is declared f g e =
    let here : row_line space r ≡ row_line space q = cc in
    let rest : map (row_line space) rs ≡ map (row_line space) qs = cc in
    ap₂ (λ y ys. y ∷ ys)
    (row_once space dims r q is declared (f.fits 0 r (omega arith)) (g.fits 0 q (omega arith)) (f.nestings 0 r (omega arith)) (g.nestings 0 q (omega arith)) here)
    (rows_are_once space dims rs qs is declared
    (record { fits = λ k d l. f.fits (suc k) d (omega arith); nestings = λ k d l. f.nestings (suc k) d (omega arith) })
    (record { fits = λ k d l. g.fits (suc k) d (omega arith); nestings = λ k d l. g.nestings (suc k) d (omega arith) }) rest)

-- Lines of texts.

first_line : (x y : List ℕ) (xs ys : List (List ℕ)) (r t : List ℕ) → lacks 10 x ≡ true → lacks 10 y ≡ true → text_of (x ∷ xs) ++ r ≡ text_of (y ∷ ys) ++ t
    → (x ≡ y) × (text_of xs ++ r ≡ text_of ys ++ t)
first_line x y xs ys r t lx ly e =
    cut_once 10 x (text_of xs ++ r) y (text_of ys ++ t) (to_lacks x lx) (to_lacks y ly)
    (text_line x xs (x ++ 10 ∷ (text_of xs ++ r)) (text_of xs ++ r) r refl refl ∙ e ∙ sym (text_line y ys (y ++ 10 ∷ (text_of ys ++ t)) (text_of ys ++ t) t refl refl))

-- xs many lines on both sides
same_lines : (xs ys : List (List ℕ)) (r t : List ℕ) → length xs ≡ length ys → list_all (lacks 10) xs ≡ true → list_all (lacks 10) ys ≡ true → text_of xs ++ r ≡ text_of ys ++ t → (xs ≡ ys) × (r ≡ t)
same_lines [] [] r t count lx ly e = (refl, e)
same_lines [] (y ∷ ys) r t count lx ly e = absurd (omega (arith, count))
same_lines (x ∷ xs) [] r t count lx ly e = absurd (omega (arith, count))
same_lines (x ∷ xs) (y ∷ ys) r t count lx ly e =
    let a = and_parts (lacks 10 x) (list_all (lacks 10) xs) lx in
    let b = and_parts (lacks 10 y) (list_all (lacks 10) ys) ly in
    let here = first_line x y xs ys r t a.0 b.0 e in
    let rest = same_lines xs ys r t (omega (arith, count)) a.1 b.1 here.1 in
    (ap₂ (λ l ls. l ∷ ls) here.0 rest.0, rest.1)

split_lines : (xs ys : List (List ℕ)) (r : List ℕ) → text_of (xs ++ ys) ++ r ≡ text_of xs ++ (text_of ys ++ r)
split_lines xs ys r = sym (text_more xs ys (text_of xs ++ (text_of ys ++ r)) (text_of ys ++ r) r refl refl)

-- Lines of nodes.

nodes_lack : (space : IndexSpace) (tree : ContractionTree) (plan : Plan) (v k : ℕ) → Fit space tree plan → v + k ≤ operations tree
    → list_all (lacks 10) (map (node_line space tree (stated plan)) (range_with_len v k)) ≡ true
unfolding node_line
nodes_lack space tree plan v zero fit l = refl
nodes_lack space tree plan v (suc k) fit l =
    let inside : v < operations tree = omega (arith, l) in
    both (lacks 10 (line_saying space tree v (said_of (stated plan) v))) (list_all (lacks 10) (map (node_line space tree (stated plan)) (range_with_len (v + 1) k)))
    (saying_lacks space tree v (said_of (stated plan) v) fit.is_space fit.is_tree fit.declared inside (may_say tree plan v inside fit.fits))
    (nodes_lack space tree plan (v + 1) k fit (omega (arith, l)))

nodes_said : (space : IndexSpace) (tree : ContractionTree) (p q : Plan) (v k w : ℕ) → Fit space tree p → Fit space tree q → v + k ≤ operations tree
    → map (node_line space tree (stated p)) (range_with_len v k) ≡ map (node_line space tree (stated q)) (range_with_len v k) → v ≤ w → w < v + k → said_of (stated p) w ≡ said_of (stated q) w
unfolding node_line
nodes_said space tree p q v zero w f g l e from below = absurd (omega (arith, from, below))
nodes_said space tree p q v (suc k) w f g l e from below =
    let inside : v < operations tree = omega (arith, l) in
    let here : line_saying space tree v (said_of (stated p) v) ≡ line_saying space tree v (said_of (stated q) v) = cc in
    let rest : map (node_line space tree (stated p)) (range_with_len (v + 1) k) ≡ map (node_line space tree (stated q)) (range_with_len (v + 1) k) = cc in
    elim (eq-or-lt_of_le {n = v} {m = w} from) [
      | inl same ↦
          subst (λ u. said_of (stated p) u ≡ said_of (stated q) u) same
          (said_once space tree v (said_of (stated p) v) (said_of (stated q) v) f.is_space f.is_tree f.declared inside (may_say tree p v inside f.fits) (may_say tree q v inside g.fits) here)
      | inr later ↦ nodes_said space tree p q (v + 1) k w f g (omega (arith, l)) rest (omega (arith, later)) (omega (arith, below))
    ]

-- Tables.

rows_lack : (space : IndexSpace) (dims : ℕ) (rows : List Row) → IsSpace space → IsDeclared space dims → All (RowFits dims) rows → list_all (lacks 10) (map (row_line space) rows) ≡ true
rows_lack space dims [] is declared fits = refl
rows_lack space dims (r ∷ rows) is declared fits =
    both (lacks 10 (row_line space r)) (list_all (lacks 10) (map (row_line space) rows)) (row_lacks space dims r is declared (fits 0 r (omega arith)))
    (rows_lack space dims rows is declared (λ k d l. fits (suc k) d (omega arith)))

tables_once : (space : IndexSpace) (tree : ContractionTree) (p q : Plan) (r t : List ℕ) (v k w : ℕ) → Fit space tree p → Fit space tree q → v + k ≤ length p.tables → v + k ≤ length q.tables
    → text_of (flat_map (table_lines space p.tables) (range_with_len v k)) ++ r ≡ text_of (flat_map (table_lines space q.tables) (range_with_len v k)) ++ t → v ≤ w → w < v + k
    → rows_at p.tables w ≡ rows_at q.tables w
tables_once space tree p q r t v zero w f g l m e from below = absurd (omega (arith, from, below))
tables_once space tree p q r t v (suc k) w f g l m e from below =
    let rs = rows_at p.tables v in
    let qs = rows_at q.tables v in
    let more = flat_map (table_lines space p.tables) (range_with_len (v + 1) k) in
    let others = flat_map (table_lines space q.tables) (range_with_len (v + 1) k) in
    let inside : v < operations tree = omega (arith, l, f.fits.tables) in
    let small : v < 2 ^ 96 = omega (arith, inside, f.is_tree.limit) in
    let listed : v < length p.tables = omega (arith, l) in
    let listed_too : v < length q.tables = omega (arith, m) in
    let here : AreNestingRows rs = f.nestings v listed in
    let there : AreNestingRows qs = g.nestings v listed_too in
    let dims = node_dims_declared space tree v inside f.is_space.index_limit f.declared in
    let head = first_line (table_line v (length rs)) (table_line v (length qs)) (map (row_line space) rs ++ more) (map (row_line space) qs ++ others) r t (head_lacks v (length rs) small here.few) (head_lacks v (length qs) small there.few) e in
    let count : length rs ≡ length qs = rows_once (table_line v (length rs)) v (length rs) (length qs)
    (record { node_limit = small; rows_limit = here.few; text_is = refl }) (record { node_limit = small; rows_limit = there.few; text_is = head.0 }) in
    let lines = same_lines (map (row_line space) rs) (map (row_line space) qs) (text_of more ++ r) (text_of others ++ t)
    (length-map rs (row_line space) ∙ count ∙ sym (length-map qs (row_line space)))
    (rows_lack space (node_dims tree v) rs f.is_space dims (f.fits.rows v listed)) (rows_lack space (node_dims tree v) qs f.is_space dims (g.fits.rows v listed_too))
    (sym (split_lines (map (row_line space) rs) more r) ∙ head.1 ∙ split_lines (map (row_line space) qs) others t) in
    elim (eq-or-lt_of_le {n = v} {m = w} from) [
      | inl same ↦
          subst (λ u. rows_at p.tables u ≡ rows_at q.tables u) same
          (rows_are_once space (node_dims tree v) rs qs f.is_space dims (record { fits = f.fits.rows v listed; nestings = here.each }) (record { fits = g.fits.rows v listed_too; nestings = there.each }) lines.0)
      | inr later ↦ tables_once space tree p q r t (v + 1) k w f g (omega (arith, l)) (omega (arith, m)) lines.1 (omega (arith, later)) (omega (arith, below))
    ]

-- Plans.

orders_same : (xs bs : List LoopOrder) → lists_of xs ≡ lists_of bs → xs ≡ bs
orders_same [] [] e = refl
orders_same [] (b ∷ bs) e = absurd (cc)
orders_same (a ∷ xs) [] e = absurd (cc)
orders_same (a ∷ xs) (b ∷ bs) e =
    let here : a.0.items ≡ b.0.items = cc in
    let rest : lists_of xs ≡ lists_of bs = cc in
    let order : a ≡ b = (λ i. record { 0 = record { items = here i } }) in
    ap₂ (λ o os. o ∷ os) order (orders_same xs bs rest)

plan_same : (p q : Plan) → p.fusion.0.items ≡ q.fusion.0.items → p.orders.0.items ≡ q.orders.0.items → p.sizes.items ≡ q.sizes.items → p.memory ≡ q.memory → p.tables ≡ q.tables → p ≡ q
plan_same p q a b c d e = λ i. record {
  fusion = record { 0 = record { items = a i } };
  orders = record { 0 = record { items = b i } };
  sizes = record { items = c i };
  memory = d i;
  tables = e i;
}

pub one_plan : (space : IndexSpace) (tree : ContractionTree) (p q : Plan) → Fit space tree p → Fit space tree q → certificate space tree p ≡ certificate space tree q → p ≡ q
unfolding certificate certificate_lines
one_plan space tree p q f g e =
    let nodes = nodes_lines space tree p (operations tree) in
    let nodes_too = nodes_lines space tree q (operations tree) in
    let tables = tables_lines space p.tables (length p.tables) in
    let tables_too = tables_lines space q.tables (length q.tables) in
    let lines = opening_line ∷ (nodes ++ (memory_line p.memory ∷ (tables ++ end_line ∷ []))) in
    let lines_too = opening_line ∷ (nodes_too ++ (memory_line q.memory ∷ (tables_too ++ end_line ∷ []))) in
    let count : length p.tables ≡ length q.tables = omega (arith, f.fits.tables, g.fits.tables) in
    let first = first_line opening_line opening_line (nodes ++ (memory_line p.memory ∷ (tables ++ end_line ∷ []))) (nodes_too ++ (memory_line q.memory ∷ (tables_too ++ end_line ∷ []))) [] [] refl refl
    (append-nil (text_of lines) ∙ e ∙ sym (append-nil (text_of lines_too))) in
    let range = range_with_len 0 (operations tree) in
    let of_nodes = same_lines nodes nodes_too (text_of (memory_line p.memory ∷ (tables ++ end_line ∷ [])) ++ []) (text_of (memory_line q.memory ∷ (tables_too ++ end_line ∷ [])) ++ [])
    (length-map range (node_line space tree (stated p)) ∙ sym (length-map range (node_line space tree (stated q))))
    (nodes_lack space tree p 0 (operations tree) f (omega arith)) (nodes_lack space tree q 0 (operations tree) g (omega arith))
    (sym (split_lines nodes (memory_line p.memory ∷ (tables ++ end_line ∷ [])) []) ∙ first.1 ∙ split_lines nodes_too (memory_line q.memory ∷ (tables_too ++ end_line ∷ [])) []) in
    let total = first_line (memory_line p.memory) (memory_line q.memory) (tables ++ end_line ∷ []) (tables_too ++ end_line ∷ []) [] []
    (in_both (codes "memory ") (decimal p.memory) refl (number_lacks p.memory f.fits.memory_limit)) (in_both (codes "memory ") (decimal q.memory) refl (number_lacks q.memory g.fits.memory_limit)) of_nodes.1 in
    let memories : decimal p.memory ≡ decimal q.memory = (let m = total.0 in cc) in
    let said = λ (w : ℕ) (l : w < operations tree). nodes_said space tree p q 0 (operations tree) w f g (omega arith) of_nodes.0 (omega arith) (omega (arith, l)) in
    let of_tables = λ (w : ℕ) (l : w < length p.tables).
    tables_once space tree p q (text_of (end_line ∷ []) ++ []) (text_of (end_line ∷ []) ++ []) 0 (length p.tables) w f g (omega arith) (omega (arith, count))
    (sym (split_lines tables (end_line ∷ []) []) ∙ total.1 ∙ split_lines tables_too (end_line ∷ []) []
    ∙ ap (λ n. text_of (tables_lines space q.tables n) ++ (text_of (end_line ∷ []) ++ [])) (sym count)) (omega arith) (omega (arith, l)) in
    plan_same p q
    (ext_get_or 0 p.fusion.0.items q.fusion.0.items (f.fits.fusion.each ∙ sym g.fits.fusion.each) (λ w l. ap (λ (s : Said). s.fused) (said w (omega (arith, l, f.fits.fusion.each)))))
    (orders_same p.orders.0.items q.orders.0.items
    (ext_get_or [] (lists_of p.orders.0.items) (lists_of q.orders.0.items) (f.fits.orders.each ∙ sym g.fits.orders.each) (λ w l. ap (λ (s : Said). s.order) (said w (omega (arith, l, f.fits.orders.each))))))
    (ext_get_or 0 p.sizes.items q.sizes.items (omega (arith, f.fits.sizes, g.fits.sizes)) (λ w l. ap (λ (s : Said). s.size) (said w (omega (arith, l, f.fits.sizes)))))
    (decimal_once p.memory q.memory f.fits.memory_limit g.fits.memory_limit memories)
    (ext_get_or [] p.tables q.tables count of_tables)

pub plans_are_their_certificates : PlansAreTheirCertificates
plans_are_their_certificates space tree p q is_space is_tree declared f n g m e =
    one_plan space tree p q (record { is_space = is_space; is_tree = is_tree; declared = declared; fits = f; nestings = n }) (record { is_space = is_space; is_tree = is_tree; declared = declared; fits = g; nestings = m }) e
