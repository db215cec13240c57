-- Lines of nodes as they are read, and the plan that they state.
use Rattle.std.proofs.Common.{◌≡◌, ℕ, ◌+◌, ◌-◌, ◌<◌, ◌^◌, List, [], ◌∷◌, ◌++◌, length, length-append, map, refl, ap, ap₂, sym, ◌∙◌, subst, arith, inl, inr}
use Rattle.std.specs.Prelude.{slice_index}
use Rattle.std.specs.List.{All, range_with_len}
use Rattle.std.proofs.lemmas.List.{get_or_append_left, get_or_past, map-append}
use Rattle.std.proofs.lemmas.List.Elements.{All-from_get_or}
use Rattle.std.proofs.Math.Seq.{get_or-append_seam}
use Rattle.std.proofs.Math.Nat.{eq-or-lt_of_le}
use Rattle.tce_space.specs.Space.{IndexSpace}
use Rattle.tce_tree.specs.ContractionTree.{ContractionTree, operations}
use Rattle.tce_tree.specs.Fusion.{fused_at, order_at, FusionFits, OrdersFit}
use Rattle.tce_tree.specs.Orders.{lists_of}
use Rattle.tce_space.specs.declared.loop_order.LoopOrder.{LoopOrder}
use Rattle.tce_report.specs.ReadLine.{said}
use Rattle.tce_report.specs.declared.node_reader.NodeLine.{NodeLine}
use Rattle.tce_cert.specs.declared.fault.CertFault.{CertFault}
use Rattle.tce_cert.specs.Faults.{Due, node, IsFaultIn}
use Rattle.tce_report.specs.NodeLine.{Stated, Said, MaySay, Says, said_of, node_line, line_saying}
use Rattle.tce_cert.specs.Certificate.{text_of}
use Rattle.tce_cert.specs.Reading.{ReadsThat, ReadsNodes, saying, KeepsFaults}
use Rattle.tce_cert.proofs.Texts.{range_lines_more}
use Rattle.tce_cert.proofs.TableRuns.{lines_same, text_more, text_line, opened, closed, keeps_line, line_fault}

abbrev saying_so : List ℕ → ℕ → ℕ → Said
saying_so order fused size = record { order = order; fused = fused; size = size }

said_same : (s t : Stated) (w v : ℕ) → fused_at s.fusion w ≡ fused_at t.fusion v → order_at s.orders w ≡ order_at t.orders v → slice_index s.sizes w ≡ slice_index t.sizes v → said_of s w ≡ said_of t v
said_same s t w v of_fused of_order of_size = made of_order of_fused of_size
  where
    made : {o p : List ℕ} {f g x y : ℕ} → o ≡ p → f ≡ g → x ≡ y → saying_so o f x ≡ saying_so p g y
    made {o} {p} {f} {g} {x} {y} e1 e2 e3 = ap (λ o. saying_so o f x) e1 ∙ ap (λ f. saying_so p f x) e2 ∙ ap (λ x. saying_so p g x) e3

line_said : (space : IndexSpace) (tree : ContractionTree) (s : Stated) (v : ℕ) (said : Said) → said_of s v ≡ said → node_line space tree s v ≡ line_saying space tree v said
unfolding node_line
line_said space tree s v said e = ap (line_saying space tree v) e

pub one_node : (space : IndexSpace) (tree : ContractionTree) (v m next : ℕ) (s t : Stated) (said : Said) (text at rest : List ℕ)
    → ReadsNodes space tree v s text at → ReadsThat at m rest next (λ line. Says space tree v line said)
    → t.fusion ≡ s.fusion ++ said.fused ∷ [] → t.orders ≡ s.orders ++ said.order ∷ []
    → ((w : ℕ) → w < v → slice_index t.sizes w ≡ slice_index s.sizes w) → slice_index t.sizes v ≡ said.size
    → ReadsNodes space tree (v + 1) t text rest
one_node space tree v m next s t said text at rest read that fusion_is orders_is sizes_same size_is =
    let here : said_of t v ≡ said = said_here in
    let there : (w : ℕ) → w < v → said_of t w ≡ said_of s w = said_there in
    record {
      fusion_count = ap length fusion_is ∙ length-append s.fusion (said.fused ∷ []) ∙ ap (λ n. n + 1) read.fusion_count;
      orders_count = ap length orders_is ∙ length-append s.orders (said.order ∷ []) ∙ ap (λ n. n + 1) read.orders_count;
      says = by_place here there;
      text_is =
          text_more (map (node_line space tree s) (range_with_len 0 v)) (line_saying space tree v said ∷ []) text at rest read.text_is
          (text_line (line_saying space tree v said) [] at rest rest (that.reads.cut.text_is ∙ ap (λ l. l ++ 10 ∷ rest) that.holds.text_is) refl)
          ∙ ap (λ ls. text_of ls ++ rest)
          (ap₂ (λ xs y. xs ++ y ∷ [])
          (lines_same (node_line space tree s) (node_line space tree t) v (λ w l. line_said space tree s w (said_of s w) refl ∙ sym (line_said space tree t w (said_of s w) (there w l))))
          (sym (line_said space tree t v said here))
          ∙ range_lines_more (node_line space tree t) v);
    }
  where
    said_here : said_of t v ≡ said
    said_here = said_same t (record { fusion = said.fused ∷ []; orders = said.order ∷ []; sizes = said.size ∷ []; memory = 0 }) v 0
        (ap₂ fused_at fusion_is (sym read.fusion_count) ∙ get_or-append_seam s.fusion said.fused [] 0)
        (ap₂ order_at orders_is (sym read.orders_count) ∙ get_or-append_seam s.orders said.order [] [])
        size_is

    said_there : (w : ℕ) → w < v → said_of t w ≡ said_of s w
    said_there w l = said_same t s w w
        (ap (λ xs. fused_at xs w) fusion_is ∙ get_or_append_left s.fusion (said.fused ∷ []) 0 w (omega (arith, l, read.fusion_count)))
        (ap (λ xs. order_at xs w) orders_is ∙ get_or_append_left s.orders (said.order ∷ []) [] w (omega (arith, l, read.orders_count)))
        (sizes_same w l)

    by_place : said_of t v ≡ said → ((w : ℕ) → w < v → said_of t w ≡ said_of s w) → (w : ℕ) → w < v + 1 → MaySay tree w (said_of t w)
    by_place here there w l = elim (eq-or-lt_of_le {n = w} {m = v} (omega (arith, l))) [
      | inl same ↦ subst (λ u. MaySay tree u (said_of t u)) (sym same) (subst (MaySay tree v) (sym here) that.holds.allowed)
      | inr below ↦ subst (MaySay tree w) (sym (there w below)) (read.says w below)
    ]

size_below : (sizes : List ℕ) (size v w : ℕ) (new : List ℕ) → length sizes ≡ v → new ≡ sizes ++ size ∷ [] → w < v → slice_index new w ≡ slice_index sizes w
size_below sizes size v w new count e l = ap (λ xs. slice_index xs w) e ∙ get_or_append_left sizes (size ∷ []) 0 w (omega (arith, count, l))

size_here : (sizes : List ℕ) (size v : ℕ) (new : List ℕ) → length sizes ≡ v → new ≡ sizes ++ size ∷ [] → slice_index new v ≡ size
size_here sizes size v new count e = ap₂ (λ xs k. slice_index xs k) e (sym count) ∙ get_or-append_seam sizes size [] 0

-- no size stands behind the last
size_past : (sizes : List ℕ) (v : ℕ) → length sizes ≡ v → slice_index sizes v ≡ 0
size_past sizes v count = get_or_past sizes v 0 (omega (arith, count))

order_more : (orders new : List LoopOrder) (o : LoopOrder) → new ≡ orders ++ o ∷ [] → lists_of new ≡ lists_of orders ++ o.0.items ∷ []
order_more orders new o e = ap lists_of e ∙ map-append (λ (x : LoopOrder). x.0.items) orders (o ∷ [])

-- the line of a node with a size
pub inner_node : (space : IndexSpace) (tree : ContractionTree) (v m next : ℕ) (fusion new_fusion : List ℕ) (orders new_orders : List LoopOrder) (sizes new_sizes : List ℕ) (line : NodeLine) (text at rest : List ℕ)
    → ReadsNodes space tree v (saying fusion (lists_of orders) sizes) text at → ReadsThat at m rest next (λ l. Says space tree v l (said line))
    → length sizes ≡ v → new_fusion ≡ fusion ++ line.fused ∷ [] → new_orders ≡ orders ++ line.order ∷ [] → new_sizes ≡ sizes ++ line.size ∷ []
    → ReadsNodes space tree (v + 1) (saying new_fusion (lists_of new_orders) new_sizes) text rest
inner_node space tree v m next fusion new_fusion orders new_orders sizes new_sizes line text at rest read that count fusion_is orders_is sizes_is =
    one_node space tree v m next (saying fusion (lists_of orders) sizes) (saying new_fusion (lists_of new_orders) new_sizes) (said line) text at rest read that
    fusion_is (order_more orders new_orders line.order orders_is)
    (λ w l. size_below sizes line.size v w new_sizes count sizes_is l) (size_here sizes line.size v new_sizes count sizes_is)

-- the line of the root, which has no size
pub root_node : (space : IndexSpace) (tree : ContractionTree) (v root m next : ℕ) (fusion new_fusion : List ℕ) (orders new_orders : List LoopOrder) (sizes : List ℕ) (line : NodeLine) (text at rest : List ℕ) → v ≡ root → root + 1 ≡ operations tree
    → ReadsNodes space tree v (saying fusion (lists_of orders) sizes) text at → ReadsThat at m rest next (λ l. Says space tree root l (said line))
    → length sizes ≡ v → new_fusion ≡ fusion ++ line.fused ∷ [] → new_orders ≡ orders ++ line.order ∷ []
    → ReadsNodes space tree (operations tree) (saying new_fusion (lists_of new_orders) sizes) text rest
root_node space tree v root m next fusion new_fusion orders new_orders sizes line text at rest same last read that count fusion_is orders_is =
    subst (λ n. ReadsNodes space tree n (saying new_fusion (lists_of new_orders) sizes) text rest) last
    (one_node space tree root m next (saying fusion (lists_of orders) sizes) (saying new_fusion (lists_of new_orders) sizes) (said line) text at rest
    (subst (λ k. ReadsNodes space tree k (saying fusion (lists_of orders) sizes) text at) same read) that
    fusion_is (order_more orders new_orders line.order orders_is)
    (λ w l. refl) (size_past sizes root (count ∙ same) ∙ sym (that.holds.allowed.root last).1))

pub keeps_node : (space : IndexSpace) (tree : ContractionTree) (v n m next : ℕ) (text at rest : List ℕ) (s : Said) → v < operations tree
    → KeepsFaults space tree (map node (range_with_len 0 (operations tree))) n text (map node (range_with_len v (operations tree - v))) m at
    → ReadsThat at m rest next (λ line. Says space tree v line s)
    → KeepsFaults space tree (map node (range_with_len 0 (operations tree))) n text (map node (range_with_len (v + 1) (operations tree - (v + 1)))) next rest
keeps_node space tree v n m next text at rest s l keeps that =
    keeps_line space tree (node v) (map node (range_with_len 0 (operations tree))) (map node (range_with_len (v + 1) (operations tree - (v + 1)))) n m next text at rest (λ line. Says space tree v line s)
    (opened space tree node v (operations tree) (map node (range_with_len 0 (operations tree))) n m text at l keeps) that ((s, that.holds), refl)

pub keeps_root : (space : IndexSpace) (tree : ContractionTree) (v root n m next : ℕ) (text at rest : List ℕ) (s : Said) → v ≡ root → root + 1 ≡ operations tree
    → KeepsFaults space tree (map node (range_with_len 0 (operations tree))) n text (map node (range_with_len v (operations tree - v))) m at
    → ReadsThat at m rest next (λ line. Says space tree root line s)
    → KeepsFaults space tree (map node (range_with_len 0 (operations tree))) n text [] next rest
keeps_root space tree v root n m next text at rest s same last keeps that =
    closed space tree node (root + 1) (operations tree) (map node (range_with_len 0 (operations tree))) n next text rest last
    (keeps_node space tree root n m next text at rest s (omega (arith, last))
    (subst (λ k. KeepsFaults space tree (map node (range_with_len 0 (operations tree))) n text (map node (range_with_len k (operations tree - k))) m at) same keeps) that)

pub node_fault : (space : IndexSpace) (tree : ContractionTree) (v n m : ℕ) (text at : List ℕ) (fault : CertFault) → v < operations tree
    → KeepsFaults space tree (map node (range_with_len 0 (operations tree))) n text (map node (range_with_len v (operations tree - v))) m at
    → ((ds : List Due) → IsFaultIn space tree (node v ∷ ds) m at fault)
    → (ds : List Due) → IsFaultIn space tree (map node (range_with_len 0 (operations tree)) ++ ds) n text fault
node_fault space tree v n m text at fault l keeps is =
    line_fault space tree (node v) (map node (range_with_len 0 (operations tree))) (map node (range_with_len (v + 1) (operations tree - (v + 1)))) n m text at fault
    (opened space tree node v (operations tree) (map node (range_with_len 0 (operations tree))) n m text at l keeps) is

pub root_fault : (space : IndexSpace) (tree : ContractionTree) (v root n m : ℕ) (text at : List ℕ) (fault : CertFault) → v ≡ root → root + 1 ≡ operations tree
    → KeepsFaults space tree (map node (range_with_len 0 (operations tree))) n text (map node (range_with_len v (operations tree - v))) m at
    → ((ds : List Due) → IsFaultIn space tree (node root ∷ ds) m at fault)
    → (ds : List Due) → IsFaultIn space tree (map node (range_with_len 0 (operations tree)) ++ ds) n text fault
root_fault space tree v root n m text at fault same last keeps is =
    node_fault space tree v n m text at fault (omega (arith, same, last)) keeps (subst (λ k. (ds : List Due) → IsFaultIn space tree (node k ∷ ds) m at fault) (sym same) is)

pub fusion_fits : (space : IndexSpace) (tree : ContractionTree) (s : Stated) (text rest : List ℕ) → 0 < operations tree → ReadsNodes space tree (operations tree) s text rest → FusionFits tree s.fusion
fusion_fits space tree s text rest some read = record {
  each = read.fusion_count;
  within = λ v l. (read.says v l).fused;
  root = ((read.says (operations tree - 1) (omega (arith, some))).root (omega (arith, some))).0;
}

pub orders_fit : (space : IndexSpace) (tree : ContractionTree) (s : Stated) (text rest : List ℕ) → ReadsNodes space tree (operations tree) s text rest → OrdersFit tree s.orders
orders_fit space tree s text rest read = record {
  each = read.orders_count;
  permute = λ v l. (read.says v l).order;
}

pub sizes_limited : (space : IndexSpace) (tree : ContractionTree) (s : Stated) (text rest : List ℕ) → ReadsNodes space tree (operations tree) s text rest → length s.sizes + 1 ≡ operations tree
    → All (λ n. n < 2 ^ 96) s.sizes
sizes_limited space tree s text rest read count = All-from_get_or (λ n. n < 2 ^ 96) s.sizes 0 (λ v l. (read.says v (omega (arith, l, count))).size)
