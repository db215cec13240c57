-- A whole certificate, from the parts that were read.
use Rattle.std.proofs.Common.{◌≡◌, ℕ, ◌+◌, ◌<◌, List, [], ◌∷◌, ◌++◌, length, map, refl, ap, sym, ◌∙◌, subst, append-nil}
use Rattle.std.specs.List.{range_with_len}
use Rattle.tce_space.specs.Space.{IndexSpace}
use Rattle.tce_tree.specs.ContractionTree.{ContractionTree, operations}
use Rattle.tce_tree.specs.Orders.{lists_of}
use Rattle.tce_nesting.specs.declared.plan.Plan.{Plan}
use Rattle.tce_nesting.specs.Plan.{PlanFits}
use Rattle.tce_report.specs.NodeLine.{Stated, node_line}
use Rattle.tce_cert.specs.Forms.{StatesMemory}
use Rattle.tce_cert.specs.Lines.{opening_line, memory_line, end_line}
use Rattle.tce_cert.specs.declared.fault.CertFault.{CertFault}
use Rattle.tce_cert.specs.Certificate.{text_of, certificate, certificate_lines, nodes_lines, tables_lines}
use Rattle.tce_cert.specs.Faults.{opening, node, memory, all_due, tables_due, IsFaultIn, IsFault}
use Rattle.tce_cert.specs.Laws.{RowsAreNestings}
use Rattle.tce_cert.specs.Reading.{ReadsThat, ReadsNodes, ReadsTables, saying}
use Rattle.tce_cert.proofs.Faulty.{passed}
use Rattle.tce_cert.proofs.NodeRuns.{fusion_fits, orders_fit, sizes_limited}
use Rattle.tce_cert.proofs.TableRuns.{text_more, text_line}

parts_joined : (text t1 t2 t3 t4 first total last : List ℕ) (nodes tables : List (List ℕ))
    → text ≡ first ++ 10 ∷ t1 → t1 ≡ text_of nodes ++ t2 → t2 ≡ total ++ 10 ∷ t3 → t3 ≡ text_of tables ++ t4 → t4 ≡ last ++ 10 ∷ []
    → text ≡ text_of (first ∷ (nodes ++ (total ∷ (tables ++ last ∷ []))))
parts_joined text t1 t2 t3 t4 first total last nodes tables e1 e2 e3 e4 e5 =
    let l4 = text_line last [] t4 [] [] e5 refl in
    let l3 = text_more tables (last ∷ []) t3 t4 [] e4 l4 in
    let l2 = text_line total (tables ++ last ∷ []) t2 t3 [] e3 l3 in
    let l1 = text_more nodes (total ∷ (tables ++ last ∷ [])) t1 t2 [] e2 l2 in
    text_line first (nodes ++ (total ∷ (tables ++ last ∷ []))) text t1 [] e1 l1
    ∙ append-nil (text_of (first ∷ (nodes ++ (total ∷ (tables ++ last ∷ [])))))

-- the memory does not stand in the lines of nodes
memory_aside : (space : IndexSpace) (tree : ContractionTree) (plan : Plan) (v : ℕ)
    → map (node_line space tree (saying plan.fusion.0.items (lists_of plan.orders.0.items) plan.sizes.items)) (range_with_len 0 v) ≡ nodes_lines space tree plan v
unfolding node_line
memory_aside space tree plan v = refl

pub plan_read : (space : IndexSpace) (tree : ContractionTree) (plan : Plan) (n1 n2 n3 : ℕ) (bytes text t1 t2 t3 t4 : List ℕ) (n : ℕ) → text ≡ bytes
    → 0 < operations tree → length plan.sizes.items + 1 ≡ operations tree → length plan.tables + 1 ≡ operations tree
    → ReadsThat text n t1 n1 (λ line. line ≡ opening_line)
    → ReadsNodes space tree (operations tree) (saying plan.fusion.0.items (lists_of plan.orders.0.items) plan.sizes.items) t1 t2
    → ReadsThat t2 n2 t3 n3 (λ line. StatesMemory line plan.memory)
    → ReadsTables space tree (length plan.tables) plan.tables t3 t4
    → t4 ≡ end_line ++ 10 ∷ []
    → PlanFits tree plan × (bytes ≡ certificate space tree plan) × RowsAreNestings plan.tables
unfolding certificate certificate_lines
plan_read space tree plan n1 n2 n3 bytes text t1 t2 t3 t4 n whole some sizes tables opened nodes total heads ended = (
  record {
    fusion = fusion_fits space tree s t1 t2 some nodes;
    orders = orders_fit space tree s t1 t2 nodes;
    sizes = sizes;
    size_limit = sizes_limited space tree s t1 t2 nodes sizes;
    memory_limit = total.holds.limit;
    tables = tables;
    rows = heads.fit;
  },
  sym whole
      ∙ parts_joined text t1 t2 t3 t4 opening_line (memory_line plan.memory) end_line (nodes_lines space tree plan (operations tree)) (tables_lines space plan.tables (length plan.tables))
      (opened.reads.cut.text_is ∙ ap (λ l. l ++ 10 ∷ t1) opened.holds)
      (nodes.text_is ∙ ap (λ ls. text_of ls ++ t2) (memory_aside space tree plan (operations tree)))
      (total.reads.cut.text_is ∙ ap (λ l. l ++ 10 ∷ t3) total.holds.text_is)
      heads.text_is
      ended,
  heads.nestings,
)
  where
    s : Stated
    s = saying plan.fusion.0.items (lists_of plan.orders.0.items) plan.sizes.items

pub of_whole : (space : IndexSpace) (tree : ContractionTree) (n : ℕ) (text bytes : List ℕ) (fault : CertFault) → n ≡ 1 → text ≡ bytes → IsFaultIn space tree (all_due tree) n text fault → IsFault space tree bytes fault
of_whole space tree n text bytes fault first whole is = subst (λ t. IsFaultIn space tree (all_due tree) 1 t fault) whole (subst (λ k. IsFaultIn space tree (all_due tree) k text fault) first is)

pub past_opening : (space : IndexSpace) (tree : ContractionTree) (n next : ℕ) (text rest : List ℕ) (fault : CertFault) → ReadsThat text n rest next (λ line. line ≡ opening_line)
    → IsFaultIn space tree (map node (range_with_len 0 (operations tree)) ++ (memory ∷ tables_due tree)) next rest fault
    → IsFaultIn space tree (all_due tree) n text fault
past_opening space tree n next text rest fault that is =
    passed space tree opening (map node (range_with_len 0 (operations tree)) ++ (memory ∷ tables_due tree)) [] n next text that.line rest fault that.reads (that.holds, refl) is

pub past_memory : (space : IndexSpace) (tree : ContractionTree) (total n next : ℕ) (text rest : List ℕ) (fault : CertFault) → ReadsThat text n rest next (λ line. StatesMemory line total)
    → IsFaultIn space tree (tables_due tree) next rest fault
    → IsFaultIn space tree (memory ∷ tables_due tree) n text fault
past_memory space tree total n next text rest fault that is =
    passed space tree memory (tables_due tree) [] n next text that.line rest fault that.reads ((total, that.holds), refl) is
