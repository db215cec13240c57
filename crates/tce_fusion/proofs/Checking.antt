-- The test that two orders begin with the fused indexes.
use Rattle.std.proofs.Common.{◌≡◌, ℕ, ◌<◌, List, take, All, Some, None, sym, ap, ◌∙◌, subst, arith}
use Rattle.std.proofs.lemmas.List.Elements.{All-take}
use Rattle.tce_space.specs.IndexSet.{has, count, set_of, IsIndexSet}
use Rattle.tce_space.proofs.IndexSetLaws.{has-set_of, same_set, set_of_lt}
use Rattle.tce_tree.specs.ContractionTree.{ContractionTree, operations, parent}
use Rattle.tce_tree.specs.Fusion.{LeadBoth, Carries, fused_at, order_at}
use Rattle.tce_tree.specs.Orders.{LeadsUp}
use Rattle.tce_tree.proofs.Lists.{same_truth}
use Rattle.tce_tree.proofs.Parents.{parent_is}

pub lead_yes : (fused : ℕ) (lower upper : List ℕ) → All (λ x. x < 24) lower → take (count fused) lower ≡ take (count fused) upper
    → set_of (take (count fused) lower) ≡ fused → LeadBoth fused lower upper
lead_yes fused lower upper f same is = record {
  same = same;
  members = λ i.
      let r = has-set_of (take (count fused) lower) i (All-take (λ x. x < 24) (count fused) lower f) in (
        (λ c. ap (λ s. has s i) (sym is) ∙ r.1 c),
        (λ h. r.0 (ap (λ s. has s i) is ∙ h)),
      );
}

pub lead_set : (fused : ℕ) (lower upper : List ℕ) → IsIndexSet fused → All (λ x. x < 24) lower → LeadBoth fused lower upper → set_of (take (count fused) lower) ≡ fused
lead_set fused lower upper small f lead =
    same_set (set_of (take (count fused) lower)) fused (set_of_lt (take (count fused) lower)) small (λ i l.
    let r = has-set_of (take (count fused) lower) i (All-take (λ x. x < 24) (count fused) lower f) in
    same_truth _ _ (λ h. (lead.members i).0 (r.0 h)) (λ h. r.1 ((lead.members i).1 h)))

-- every edge, or those above the nodes below the bound
pub carries_from : (tree : ContractionTree) (fusion : List ℕ) (orders : List (List ℕ)) → ((v : ℕ) → v < operations tree → LeadsUp tree fusion orders v) → Carries tree fusion orders
carries_from tree fusion orders f v p is = let up = parent_is tree v p is in f v (omega (arith, up.above, up.inside)) p is

pub step_leads : (tree : ContractionTree) (fusion : List ℕ) (orders : List (List ℕ)) (v p fused : ℕ) (lower upper : List ℕ)
    → fused ≡ fused_at fusion v → lower ≡ order_at orders v → upper ≡ order_at orders p → parent tree v ≡ Some p → LeadBoth fused lower upper → LeadsUp tree fusion orders v
step_leads tree fusion orders v p fused lower upper ef el eu is lead q at =
    let same : Some p ≡ Some q = sym is ∙ at in
    let s : p ≡ q = cc in
    subst (λ u. LeadBoth (fused_at fusion v) (order_at orders v) (order_at orders u)) s
    (subst (λ x. LeadBoth x (order_at orders v) (order_at orders p)) ef
    (subst (λ x. LeadBoth fused x (order_at orders p)) el
    (subst (λ x. LeadBoth fused lower x) eu lead)))

pub root_leads : (tree : ContractionTree) (fusion : List ℕ) (orders : List (List ℕ)) (v : ℕ) → parent tree v ≡ None → LeadsUp tree fusion orders v
root_leads tree fusion orders v is p at = absurd (differs (sym is ∙ at))
  where
    differs : None ≡ Some p → ⊥
    differs s = cc
