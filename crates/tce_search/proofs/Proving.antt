-- The plan that is found is that of a least fusion.
use Rattle.std.proofs.Common.{◌≡◌, ℕ, ◌+◌, ◌<◌, List, length, sym, ap, ◌∙◌, subst}
use Rattle.std.specs.List.{All}
use Rattle.std.proofs.lemmas.List.{length-map}
use Rattle.std.proofs.lemmas.List.Elements.{All-map}
use Rattle.tce_space.specs.Space.{IndexSpace}
use Rattle.tce_tree.specs.ContractionTree.{ContractionTree, operations, node_dims}
use Rattle.tce_tree.specs.Fusion.{FusionFits}
use Rattle.tce_tree.specs.Memory.{memory}
use Rattle.tce_fusion.specs.Scope.{IsLegal}
use Rattle.tce_fusion.specs.Row.{Row}
use Rattle.tce_fusion.specs.Cover.{Covers, ArePruned, NodesCovered, RootBelow}
use Rattle.tce_fusion.specs.Reached.{IsLegalWith}
use Rattle.tce_fusion.proofs.Covers.{least_by_cover}
use Rattle.tce_nesting.specs.declared.plan.Plan.{Plan}
use Rattle.tce_nesting.specs.Plan.{RowFits, RowsFit}
use Rattle.tce_search.specs.declared.candidate.Candidate.{Candidate}
use Rattle.tce_search.specs.Laws.{rows_of}
use Rattle.tce_search.specs.CandidateLists.{candidates_at, tables_of, Searched, AreCandidates, AreFound}
use Rattle.tce_search.specs.LeastPlan.{IsLeastPlan, IsPlanOf}
use Rattle.tce_search.proofs.Operands.{tables-at}

-- the rows of a node fit it
rows_fit_node : (space : IndexSpace) (tree : ContractionTree) (least : ℕ) (found : List (List Candidate)) (v : ℕ) → AreCandidates space tree least found v
    → All (RowFits (node_dims tree v)) (rows_of (candidates_at found v))
rows_fit_node space tree least found v are =
    All-map (RowFits (node_dims tree v)) (λ (c : Candidate). c.row) (candidates_at found v)
    (λ k d low. record { classes = are.classes k d low; cost = (are.kept k d low).limited })

rows_fit : (space : IndexSpace) (tree : ContractionTree) (found : Searched) → AreFound space tree found → RowsFit tree (tables_of found.lists)
rows_fit space tree found all v low =
    let inside : v < length found.lists = rw length-map at low in
    rw (tables-at found.lists v) (rows_fit_node space tree found.least found.lists v (all v inside))

-- the plan of a legal fusion has its memory
pub plan_memory : (space : IndexSpace) (tree : ContractionTree) (fusion : List ℕ) (total : ℕ) (tables : List (List Row)) (plan : Plan)
    → IsLegalWith space tree fusion total → IsPlanOf space tree fusion tables plan → plan.memory ≡ total
plan_memory space tree fusion total tables plan legal made = made.memory_is ∙ ap (memory space tree) made.fusion_is ∙ legal.memory_is

pub least_plan : (space : IndexSpace) (tree : ContractionTree) (found : Searched) (fusion : List ℕ) (total : ℕ) (plan : Plan)
    → length found.lists + 1 ≡ operations tree → AreFound space tree found → NodesCovered space tree (tables_of found.lists) → ArePruned tree (tables_of found.lists) → RootBelow tree (tables_of found.lists) total
    → IsLegalWith space tree fusion total → IsPlanOf space tree fusion (tables_of found.lists) plan → IsLeastPlan space tree plan
least_plan space tree found fusion total plan count all covered pruned below legal made = record {
  fits = record {
    fusion = fits;
    orders = made.orders_fit;
    sizes = made.count;
    size_limit = made.size_limit;
    memory_limit = made.memory_limit;
    tables = rw made.tables_are (rw length-map count);
    rows = rw made.tables_are (rows_fit space tree found all);
  };
  least = least_by_cover space tree plan.fusion.0.items plan.tables fits is_legal (subst (Covers space tree plan.tables) made.memory_is covers);
  carried = made.carried;
  standard = made.standard;
  sizes = made.sizes;
  memory_is = made.memory_is;
  covers = covers;
  pruned = rw made.tables_are pruned;
}
  where
    fits : FusionFits tree plan.fusion.0.items
    fits = subst (FusionFits tree) (sym made.fusion_is) legal.fits

    is_legal : IsLegal tree plan.fusion.0.items
    is_legal = subst (IsLegal tree) (sym made.fusion_is) legal.legal

    total_is : total ≡ plan.memory
    total_is = sym (plan_memory space tree fusion total (tables_of found.lists) plan legal made)

    covers : Covers space tree plan.tables plan.memory
    covers = rw (made.tables_are, ← total_is) (record { nodes = covered; root = below })
