-- The topmost nodes of scopes tell the scopes.
use Rattle.std.proofs.Common.{◌≡◌, ℕ, ◌+◌, ◌-◌, ◌<◌, Bool, true, false, IfSome, IsNone, eq-eqb, eqb-true, List, length, get_or, All, AllPairs, Option, Some, None, sym, ap, ◌∙◌, subst, inl, inr, arith}
use Rattle.std.proofs.lemmas.Bool.{cases_lt, cases_order, false_from_ne_true, false≢true}
use Rattle.std.proofs.lemmas.List.{get_or_default}
use Rattle.tce_space.specs.IndexSet.{has}
use Rattle.tce_space.proofs.IndexSetLaws.{has-empty, has_below}
use Rattle.tce_tree.specs.ContractionTree.{ContractionTree, operations, parent, node_loops}
use Rattle.tce_tree.specs.Fusion.{fused_at, FusionFits}
use Rattle.tce_tree.proofs.Lists.{same_truth}
use Rattle.tce_tree.proofs.Members.{node_loops_lt}
use Rattle.tce_tree.proofs.Parents.{parent_is}
use Rattle.tce_fusion.specs.Scope.{scope, scope_size, IsSubset, IsIllegalAt, StandsBefore, Precedes}
use Rattle.tce_fusion.specs.Tops.{IsFusedParent, IsTop, joined, row, TellsScopes, TellsAllScopes, AreNested, size_in}
use Rattle.tce_fusion.proofs.ScopeLaws.{parent_of, parent-is, is_spanned}
use Rattle.tce_fusion.proofs.Standard.{count-range-same}

parent_same : (tree : ContractionTree) (v p : ℕ) → parent tree v ≡ Some p → (v + 1 < operations tree) × (parent_of tree v ≡ p)
parent_same tree v p is =
    let up = parent_is tree v p is in
    let e : v + 1 < operations tree = omega (arith, up.above, up.inside) in
    let same : Some (parent_of tree v) ≡ Some p = sym (parent-is tree v e) ∙ is in
    let q : parent_of tree v ≡ p = cc in
    (e, q)

edge_to : (tree : ContractionTree) (fusion : List ℕ) (i v p : ℕ) → parent tree v ≡ Some p → has (fused_at fusion v) i ≡ true → scope tree fusion i v p ≡ true
edge_to tree fusion i v p is f =
    let r = parent_same tree v p is in
    subst (λ x. scope tree fusion i v x ≡ true) r.1 ((is_spanned tree fusion).edge i v r.0 f)

-- the top of a node is that of its parent where the edge fuses the index, and else the node itself
pub top_above : (tree : ContractionTree) (fusion : List ℕ) (i v p top : ℕ) → IsFusedParent tree fusion i v p → IsTop tree fusion i p top → IsTop tree fusion i v top
top_above tree fusion i v p top edge t = record {
  inside = t.inside;
  reached = (is_spanned tree fusion).through i v p top (edge_to tree fusion i v p edge.is edge.fused) t.reached;
  topmost = t.topmost;
}

pub top_itself : (tree : ContractionTree) (fusion : List ℕ) (i v : ℕ) → v < operations tree → has (fused_at fusion v) i ≡ false → IsTop tree fusion i v v
top_itself tree fusion i v inside f = record {
  inside = inside;
  reached = (is_spanned tree fusion).itself i v;
  topmost = λ w l m. false_from_ne_true (scope tree fusion i v w) (λ h. false≢true (sym f ∙ (is_spanned tree fusion).lower i v w l m h));
}

-- two nodes are in one scope exactly where they have one top
pub tops_tell : (tree : ContractionTree) (fusion : List ℕ) (i : ℕ) (tops : List ℕ)
    → ((v : ℕ) → v < operations tree → IsTop tree fusion i v (get_or tops v 0)) → TellsScopes tree fusion i tops
tops_tell tree fusion i tops f v w v_in w_in =
    let s = is_spanned tree fusion in
    same_truth (joined tops v w) (scope tree fusion i v w)
    (λ h. s.through i v (get_or tops v 0) w (f v v_in).reached
    (s.back i w (get_or tops v 0) (subst (λ x. scope tree fusion i w x ≡ true) (sym (eqb-true (get_or tops v 0) (get_or tops w 0) h)) (f w w_in).reached)))
    (λ h. eq-eqb (get_or tops v 0) (get_or tops w 0) (same h))
  where
    both : scope tree fusion i v w ≡ true → scope tree fusion i (get_or tops v 0) (get_or tops w 0) ≡ true
    both h =
        let s = is_spanned tree fusion in
        s.through i (get_or tops v 0) v (get_or tops w 0) (s.back i v (get_or tops v 0) (f v v_in).reached)
        (s.through i v w (get_or tops w 0) h (f w w_in).reached)

    same : scope tree fusion i v w ≡ true → get_or tops v 0 ≡ get_or tops w 0
    same h =
        elim (cases_order (get_or tops v 0) (get_or tops w 0)) [
          | inl e ↦ e
          | inr c ↦ elim c [
            | inl l ↦ absurd (false≢true (sym ((f v v_in).topmost (get_or tops w 0) l (f w w_in).inside) ∙ both h))
            | inr l ↦ absurd (false≢true (sym ((f w w_in).topmost (get_or tops v 0) l (f v v_in).inside) ∙ (is_spanned tree fusion).back i (get_or tops v 0) (get_or tops w 0) (both h)))
          ]
        ]

fused_none : (tree : ContractionTree) (fusion : List ℕ) → FusionFits tree fusion → (i v : ℕ) → v < operations tree → parent tree v ≡ None → has (fused_at fusion v) i ≡ false
fused_none tree fusion fits i v inside is =
    elim (cases_lt (v + 1) (operations tree)) [
      | inl l ↦ let s : Some (parent_of tree v) ≡ None = sym (parent-is tree v l) ∙ is in absurd (let k : ⊥ = cc in k)
      | inr g ↦
          let e : operations tree - 1 ≡ v = omega arith in
          ap (λ s. has s i) (ap (fused_at fusion) (sym e) ∙ fits.root) ∙ has-empty i
    ]

pub some_fused : (tree : ContractionTree) (fusion : List ℕ) (i v : ℕ) (o : Option ℕ) → o ≡ parent tree v → has (fused_at fusion v) i ≡ true → IfSome o (IsFusedParent tree fusion i v)
some_fused tree fusion i v None e f = tt
some_fused tree fusion i v (Some p) e f =
    let up = parent_is tree v p (sym e) in
    record { is = sym e; fused = f; above = up.above; inside = up.inside }

pub none_fused : (tree : ContractionTree) (fusion : List ℕ) → FusionFits tree fusion → (i v : ℕ) → v < operations tree → (o : Option ℕ) → o ≡ parent tree v → IsNone o → has (fused_at fusion v) i ≡ false
none_fused tree fusion fits i v inside None e n = fused_none tree fusion fits i v inside (sym e)
none_fused tree fusion fits i v inside (Some p) e n = absurd (false≢true (sym n))

-- what the program reads of a fusion
pub read_fused : (fusion : List ℕ) (v x : ℕ) → v < length fusion → x ≡ get_or fusion v x → x ≡ fused_at fusion v
read_fused fusion v x l e = e ∙ get_or_default fusion v x 0 l

-- sets of nodes that agree
subset_agree : (n : ℕ) (s t u w : ℕ → Bool) → ((x : ℕ) → x < n → s x ≡ u x) → ((x : ℕ) → x < n → t x ≡ w x) → IsSubset n s t → IsSubset n u w
subset_agree n s t u w f g sub x l h = sym (g x l) ∙ sub x l (f x l ∙ h)

pub nested_agree : (n : ℕ) (s t u w : ℕ → Bool) → ((x : ℕ) → x < n → s x ≡ u x) → ((x : ℕ) → x < n → t x ≡ w x) → AreNested n s t → AreNested n u w
nested_agree n s t u w f g c = elim c [
  | inl a ↦ inl (subset_agree n s t u w f g a)
  | inr a ↦ inr (subset_agree n t s w u g f a)
]

-- a node is illegal exactly where the rows of two of its loops cross there
pub illegal_from : (tree : ContractionTree) (fusion : List ℕ) (tops : List (List ℕ)) (v i j : ℕ) → TellsAllScopes tree fusion tops → v < operations tree
    → has (node_loops tree v) i ≡ true → has (node_loops tree v) j ≡ true
    → (AreNested (operations tree) (joined (row tops i) v) (joined (row tops j) v) → ⊥) → IsIllegalAt tree fusion v
illegal_from tree fusion tops v i j tell inside hi hj crossed = record {
  first = i;
  second = j;
  first_is = hi;
  second_is = hj;
  not_within = λ sub. crossed (inl (subset_agree (operations tree) (scope tree fusion i v) (scope tree fusion j v) (joined (row tops i) v) (joined (row tops j) v) (back i i_in) (back j j_in) sub));
  not_around = λ sub. crossed (inr (subset_agree (operations tree) (scope tree fusion j v) (scope tree fusion i v) (joined (row tops j) v) (joined (row tops i) v) (back j j_in) (back i i_in) sub));
}
  where
    i_in : i < 24
    i_in = has_below (node_loops tree v) i (node_loops_lt tree v) hi

    j_in : j < 24
    j_in = has_below (node_loops tree v) j (node_loops_lt tree v) hj

    back : (k : ℕ) → k < 24 → (x : ℕ) → x < operations tree → scope tree fusion k v x ≡ joined (row tops k) v x
    back k l x m = sym (tell k l v x inside m)

pub not_illegal : (tree : ContractionTree) (fusion : List ℕ) (tops : List (List ℕ)) (v : ℕ) → TellsAllScopes tree fusion tops → v < operations tree
    → ((i j : ℕ) → i < 24 → j < 24 → has (node_loops tree v) i ≡ true → has (node_loops tree v) j ≡ true → AreNested (operations tree) (joined (row tops i) v) (joined (row tops j) v))
    → IsIllegalAt tree fusion v → ⊥
not_illegal tree fusion tops v tell inside nested bad =
    let a = has_below (node_loops tree v) bad.first (node_loops_lt tree v) bad.first_is in
    let b = has_below (node_loops tree v) bad.second (node_loops_lt tree v) bad.second_is in
    elim (nested_agree (operations tree) (joined (row tops bad.first) v) (joined (row tops bad.second) v) (scope tree fusion bad.first v) (scope tree fusion bad.second v)
    (λ x l. tell bad.first a v x inside l) (λ x l. tell bad.second b v x inside l) (nested bad.first bad.second a b bad.first_is bad.second_is)) [
      | inl x ↦ bad.not_within x
      | inr x ↦ bad.not_around x
    ]

-- sizes by rows
size_told : (tree : ContractionTree) (fusion : List ℕ) (tops : List (List ℕ)) (v i : ℕ) → TellsAllScopes tree fusion tops → v < operations tree → i < 24
    → size_in (operations tree) (row tops i) v ≡ scope_size tree fusion i v
unfolding size_in scope_size
size_told tree fusion tops v i tell inside l =
    count-range-same (joined (row tops i) v) (scope tree fusion i v) 0 (operations tree) (λ w g m. tell i l v w inside (omega arith))

pub standard_told : (tree : ContractionTree) (fusion : List ℕ) (tops : List (List ℕ)) (v : ℕ) (order : List ℕ) → TellsAllScopes tree fusion tops → v < operations tree
    → All (λ i. i < 24) order → AllPairs (StandsBefore (λ i. size_in (operations tree) (row tops i) v)) order → AllPairs (Precedes tree fusion v) order
standard_told tree fusion tops v order tell inside small pairs i j d l m =
    let a = size_told tree fusion tops v (get_or order i d) tell inside (small i d (omega arith)) in
    let b = size_told tree fusion tops v (get_or order j d) tell inside (small j d m) in
    elim (pairs i j d l m) [
      | inl c ↦ inl (omega arith)
      | inr c ↦ inr (omega (arith, a, b, c.0), c.1)
    ]
