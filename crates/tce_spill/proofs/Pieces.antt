-- Where more nodes are cut, a piece is a part of the piece that there was.
use Rattle.std.proofs.Common.{◌≡◌, ℕ, ◌+◌, ◌-◌, ◌<◌, ◌≤◌, true, false, not, ◌&&◌, eqb, eqb-true, refl, sym, ap, ◌∙◌, subst, inl, inr, arith}
use Rattle.std.specs.Prelude.{IsTrue}
use Rattle.std.proofs.lemmas.Bool.{cases_Bool, cases_eq, cases_lt, eq-eqb, or_left, or_right, or_cases, and_parts, and_from, false≢true, true≢false, both_ways}
use Rattle.tce_space.specs.IndexSet.{set_of, members}
use Rattle.tce_space.specs.Space.{IndexSpace}
use Rattle.tce_space.proofs.Members.{set_of_members}
use Rattle.tce_tree.specs.ContractionTree.{ContractionTree, leaf, constant, binary, sum, dims, operations, node, in_subtree}
use Rattle.tce_tree.specs.FlatTree.{first_number_of}
use Rattle.tce_tree.proofs.Members.{dims_lt}
use Rattle.tce_tree.proofs.Nodes.{size, size_bounds, size_nested, node-root}
use Rattle.tce_tree.proofs.Operands.{Stands, stands-node, stands-left, stands-right, stands-operand}
use Rattle.tce_tree.proofs.Parents.{subtree_is, subtree_from, find-range_some, find-range_finds}
use Rattle.tce_spec.specs.Pieces.{Cuts, unless_cut, rest_of, except, piece, is_root, IsRootOver}
use Rattle.tce_spec.proofs.CutRest.{dims_rest}
use Rattle.tce_spill.specs.Parts.{IsRest, IsPart, FitsMemory}
use Rattle.tce_spill.specs.Laws.{AreAmong}
use Rattle.tce_spill.proofs.Parts.{parts_take_no_more}

-- ---- what is left where more nodes are cut

unless_rest : (more : Cuts) (v : ℕ) (c rest tree : ContractionTree) → set_of (members (dims c)) ≡ dims tree → (more v ≡ false → IsRest rest tree) → IsRest (unless_cut more v c rest) tree
unless_rest more v c rest tree at_cut else_rest = elim (cases_Bool (more v)) [ inl t ↦ rw t at_cut | inr f ↦ rw f (else_rest f) ]

kept_rest : (cut : Cuts) (v : ℕ) (c part rest : ContractionTree) → cut v ≡ false → IsRest part rest → IsRest part (unless_cut cut v c rest)
kept_rest cut v c part rest apart h = rw apart h

kept_part : (cut : Cuts) (v : ℕ) (c part rest : ContractionTree) → cut v ≡ false → IsPart part rest → IsPart part (unless_cut cut v c rest)
kept_part cut v c part rest apart h = rw apart h

apart_too : (cut more : Cuts) (v : ℕ) → (IsTrue (cut v) → IsTrue (more v)) → more v ≡ false → cut v ≡ false
apart_too cut more v h apart = elim (cases_Bool (cut v)) [ inl t ↦ absurd (both_ways (more v) apart (h t)) | inr f ↦ f ]

-- the cuts of the one set from `first` on are among those of the other
abbrev AreAmongFrom : Cuts → Cuts → ℕ → ℕ → Type 0
AreAmongFrom cut more first count = (u : ℕ) → first ≤ u → u < first + count → IsTrue (cut u) → IsTrue (more u)

more_rest : (cut more : Cuts) (c : ContractionTree) (first : ℕ) → AreAmongFrom cut more first (operations c) → IsRest (rest_of more first c) (rest_of cut first c)
more_rest cut more (leaf tensor indexes) first h = refl
more_rest cut more (constant number) first h = refl
more_rest cut more (binary op l r) first h =
    let c : ContractionTree = binary op l r in
    let v : ℕ = first + operations l + operations r in
    unless_rest more v c (binary op (rest_of more first l) (rest_of more (first + operations l) r)) (rest_of cut first c)
    (set_of_members (dims c) (dims_lt c) ∙ sym (dims_rest cut c first))
    (λ apart. kept_rest cut v c (binary op (rest_of more first l) (rest_of more (first + operations l) r)) (binary op (rest_of cut first l) (rest_of cut (first + operations l) r))
    (apart_too cut more v (h v (omega arith) (omega arith)) apart)
    (refl, (more_rest cut more l first (λ u low high. h u low (omega arith)), more_rest cut more r (first + operations l) (λ u low high. h u (omega arith) (omega arith)))))
more_rest cut more (sum is e) first h =
    let c : ContractionTree = sum is e in
    let v : ℕ = first + operations e in
    unless_rest more v c (sum is (rest_of more first e)) (rest_of cut first c)
    (set_of_members (dims c) (dims_lt c) ∙ sym (dims_rest cut c first))
    (λ apart. kept_rest cut v c (sum is (rest_of more first e)) (sum is (rest_of cut first e))
    (apart_too cut more v (h v (omega arith) (omega arith)) apart)
    (refl, more_rest cut more e first (λ u low high. h u low (omega arith))))

rest_is_part : (part tree : ContractionTree) → IsRest part tree → IsPart part tree
rest_is_part part (leaf tensor indexes) h = h
rest_is_part part (constant number) h = h
rest_is_part part (binary op l r) h = inl h
rest_is_part part (sum is e) h = inl h

-- ---- the rest of a node that no cut hides

root_at : (tree : ContractionTree) (first : ℕ) (c : ContractionTree) → Stands tree first c → (q : ℕ) → q + 1 ≡ first + operations c → 0 < operations c
    → (node tree q ≡ c) × (first_number_of tree q ≡ first)
unfolding first_number_of
root_at tree first c st q is some =
    let split : q ≡ first + (operations c - 1) = omega arith in
    let at : node tree q ≡ c = ap (node tree) split ∙ st.same (operations c - 1) (omega arith) ∙ node-root c (operations c - 1) (omega arith) in
    let count = ap operations at in
    (at, omega (arith, count))

-- no node between `q` and the last one is cut
abbrev IsSeen : ContractionTree → Cuts → ℕ → ℕ → Type 0
IsSeen tree cut end q = (u : ℕ) → u < end → in_subtree tree u q ≡ true → cut u ≡ false

module _ (tree : ContractionTree) (cut more : Cuts) (q : ℕ) where
  abbrev part_at : ContractionTree
  part_at = rest_of more (first_number_of tree q) (node tree q)

  -- the node itself
  at_node : (c : ContractionTree) (first : ℕ) → Stands tree first c → 0 < operations c → q + 1 ≡ first + operations c → AreAmongFrom cut more first (operations c)
      → IsPart part_at (rest_of cut first c)
  at_node c first st some is h =
      let at = root_at tree first c st q is some in
      subst (λ t. IsPart (rest_of more (first_number_of tree q) t) (rest_of cut first c)) (sym at.0)
      (subst (λ k. IsPart (rest_of more k c) (rest_of cut first c)) (sym at.1) (rest_is_part (rest_of more first c) (rest_of cut first c) (more_rest cut more c first h)))

  root_seen : (c : ContractionTree) (first v : ℕ) → Stands tree first c → v + 1 ≡ first + operations c → 0 < operations c → first ≤ q → q ≤ v → IsSeen tree cut (first + operations c) q → cut v ≡ false
  root_seen c first v st is some low high seen =
      let at = root_at tree first c st v is some in
      let count : size tree v ≡ operations c = ap operations at.0 in
      seen v (omega arith) (subtree_from tree v q high (omega (arith, count)))

  part_below : (c : ContractionTree) (first : ℕ) → Stands tree first c → first ≤ q → q < first + operations c → IsSeen tree cut (first + operations c) q
      → AreAmongFrom cut more first (operations c) → IsPart part_at (rest_of cut first c)
  part_below (leaf tensor indexes) first st low high seen h = absurd (omega arith)
  part_below (constant number) first st low high seen h = absurd (omega arith)
  part_below (binary op l r) first st low high seen h =
      let v : ℕ = first + operations l + operations r in
      let apart : cut v ≡ false = root_seen (binary op l r) first v st (omega arith) (omega arith) low (omega arith) seen in
      let rest : ContractionTree = binary op (rest_of cut first l) (rest_of cut (first + operations l) r) in
      elim (cases_lt q (first + operations l)) [
        | inl x ↦
            kept_part cut v (binary op l r) part_at rest apart
            (inr (inl (part_below l first (stands-left tree first op l r st) low x (λ u k. seen u (omega arith)) (λ u a b. h u a (omega arith)))))
        | inr x ↦ elim (cases_lt q v) [
          | inl y ↦
              kept_part cut v (binary op l r) part_at rest apart
              (inr (inr (part_below r (first + operations l) (stands-right tree first op l r st) x y (λ u k. seen u (omega arith)) (λ u a b. h u (omega arith) (omega arith)))))
          | inr y ↦ at_node (binary op l r) first st (omega arith) (omega arith) h
        ]
      ]
  part_below (sum is e) first st low high seen h =
      let v : ℕ = first + operations e in
      let apart : cut v ≡ false = root_seen (sum is e) first v st (omega arith) (omega arith) low (omega arith) seen in
      elim (cases_lt q v) [
        | inl x ↦
            kept_part cut v (sum is e) part_at (sum is (rest_of cut first e)) apart
            (inr (part_below e first (stands-operand tree first is e st) low x (λ u k. seen u (omega arith)) (λ u a b. h u a (omega arith))))
        | inr x ↦ at_node (sum is e) first st (omega arith) (omega arith) h
      ]

-- a node that is not cut is left
some_left : (cut : Cuts) (c : ContractionTree) (first v : ℕ) → 0 < operations c → v + 1 ≡ first + operations c → cut v ≡ false → 0 < operations (rest_of cut first c)
some_left cut (leaf tensor indexes) first v some is apart = absurd (omega arith)
some_left cut (constant number) first v some is apart = absurd (omega arith)
some_left cut (binary op l r) first v some is apart =
    let at : v ≡ first + operations l + operations r = omega arith in
    let here : cut (first + operations l + operations r) ≡ false = ap cut (sym at) ∙ apart in
    rw here (omega arith)
some_left cut (sum indexes e) first v some is apart =
    let at : v ≡ first + operations e = omega arith in
    let here : cut (first + operations e) ≡ false = ap cut (sym at) ∙ apart in
    rw here (omega arith)

except_same : (cut : Cuts) (v : ℕ) → except cut v v ≡ false
except_same cut v = elim (cases_Bool (cut v)) [ inl t ↦ rw t (ap not (eq-eqb v v refl)) | inr f ↦ rw f refl ]

pub except_is : (cut : Cuts) (v u : ℕ) → except cut v u ≡ true → (cut u ≡ true) × (u ≡ v → ⊥)
except_is cut v u h =
    let both = and_parts (cut u) (not (eqb u v)) h in
    (both.0, λ q. false≢true (sym (ap not (eq-eqb u v q)) ∙ both.1))

pub except_from : (cut : Cuts) (v u : ℕ) → cut u ≡ true → (u ≡ v → ⊥) → except cut v u ≡ true
except_from cut v u h ne = and_from (cut u) (not (eqb u v)) h (elim (cases_Bool (eqb u v)) [ inl t ↦ absurd (ne (eqb-true u v t)) | inr f ↦ ap not f ])

pub piece_some : (tree : ContractionTree) (cut : Cuts) (r : ℕ) → r < operations tree → 0 < operations (piece tree cut r)
unfolding piece first_number_of
piece_some tree cut r r_in =
    let room = size_bounds tree r r_in in
    some_left (except cut r) (node tree r) (first_number_of tree r) r room.0 (omega (arith, room)) (except_same cut r)

-- ---- roots of pieces

pub root_some : (tree : ContractionTree) (fewer more : Cuts) → AreAmong tree fewer more → (r : ℕ) → r < operations tree → is_root tree fewer r ≡ true → is_root tree more r ≡ true
root_some tree fewer more h r r_in root =
    elim (or_cases (fewer r) (eqb (r + 1) (operations tree)) root) [
      | inl x ↦ or_left (more r) (eqb (r + 1) (operations tree)) (h r r_in x)
      | inr x ↦ or_right (more r) (eqb (r + 1) (operations tree)) x
    ]

not_cut : (tree : ContractionTree) (cut : Cuts) (u : ℕ) → is_root tree cut u ≡ false → cut u ≡ false
not_cut tree cut u h = elim (cases_Bool (cut u)) [ inl t ↦ absurd (true≢false (sym (or_left (cut u) (eqb (u + 1) (operations tree)) t) ∙ h)) | inr f ↦ f ]

module _ (tree : ContractionTree) (fewer more : Cuts) (v r q : ℕ) (h : AreAmong tree fewer more) (below : IsRootOver tree fewer v r) (above : IsRootOver tree more v q) where
  lower : q ≤ r
  lower = elim (cases_lt r q) [
    | inl x ↦ absurd (true≢false (sym (root_some tree fewer more h r below.inside below.root) ∙ above.least r x below.over))
    | inr x ↦ x
  ]

  -- a node over `q` is over `v`
  over : (u : ℕ) → u < operations tree → in_subtree tree u q ≡ true → in_subtree tree u v ≡ true
  over u u_in t =
      let a = subtree_is tree u q t in
      let b = subtree_is tree q v above.over in
      let nested = size_nested tree q u a.0 u_in a.1 in
      subtree_from tree u v (omega (arith, a, b)) (omega (arith, a, b, nested))

  seen : IsSeen tree (except fewer r) (r + 1) q
  seen u high t = elim (cases_eq u r) [
    | inl e ↦ ap (except fewer r) e ∙ except_same fewer r
    | inr ne ↦
        let apart = not_cut tree fewer u (below.least u (omega arith) (over u (omega (arith, below.inside)) t)) in
        elim (cases_Bool (except fewer r u)) [ inl x ↦ absurd (both_ways (fewer u) apart (except_is fewer r u x).0) | inr x ↦ x ]
  ]

  among_too : (u : ℕ) → u < r + 1 → except fewer r u ≡ true → except more q u ≡ true
  among_too u high t =
      let is = except_is fewer r u t in
      except_from more q u (h u (omega (arith, below.inside)) is.0) (λ e.
      let here : q < r = elim (cases_eq q r) [ inl x ↦ absurd (is.1 (e ∙ x)) | inr x ↦ omega (arith, lower) ] in
      both_ways (fewer q) (not_cut tree fewer q (below.least q here above.over)) (ap fewer (sym e) ∙ is.0))

  pub more_is_part : IsPart (piece tree more q) (piece tree fewer r)
  unfolding piece first_number_of
  more_is_part =
      let room = size_bounds tree r below.inside in
      let a = subtree_is tree r v below.over in
      let b = subtree_is tree q v above.over in
      let end : r + 1 ≡ first_number_of tree r + operations (node tree r) = omega (arith, room) in
      part_below tree (except fewer r) (except more q) q (node tree r) (first_number_of tree r) (stands-node tree r below.inside)
      (omega (arith, a, b)) (omega (arith, lower, room))
      (subst (λ k. IsSeen tree (except fewer r) k q) end seen)
      (λ u low high t. among_too u (omega (arith, end, high)) t)

pub more_cuts_take_no_more : (space : IndexSpace) (tree : ContractionTree) (fewer more : Cuts) (v r q limit : ℕ) → AreAmong tree fewer more → IsRootOver tree fewer v r → IsRootOver tree more v q
    → FitsMemory space (piece tree fewer r) limit → FitsMemory space (piece tree more q) limit
more_cuts_take_no_more space tree fewer more v r q limit h below above fits =
    parts_take_no_more space (piece tree more q) (piece tree fewer r) limit (piece_some tree more q above.inside) (more_is_part tree fewer more v r q h below above) fits

-- each node has a root over it
pub root_exists : (tree : ContractionTree) (cut : Cuts) (v : ℕ) → v < operations tree → (r : ℕ) × IsRootOver tree cut v r
root_exists tree cut v v_in =
    let last : ℕ = operations tree - 1 in
    let whole = ap operations (node-root tree (operations tree - 1) (omega arith)) in
    let is_last : operations tree - 1 + 1 ≡ operations tree = omega arith in
    let test = and_from (in_subtree tree last v) (is_root tree cut last) (subtree_from tree last v (omega arith) (omega (arith, whole)))
    (or_right (cut last) (eqb (last + 1) (operations tree)) (eq-eqb (last + 1) (operations tree) is_last)) in
    let found = find-range_finds (λ u. in_subtree tree u v && is_root tree cut u) v (operations tree - v) last (omega arith) (omega arith) test in
    let is = find-range_some (λ u. in_subtree tree u v && is_root tree cut u) v (operations tree - v) found.0 found.1 in
    let both = and_parts (in_subtree tree found.0 v) (is_root tree cut found.0) is.2 in (
      found.0,
      record {
        inside = omega (arith, is.1);
        over = both.0;
        root = both.1;
        least = λ u low t.
            let at = subtree_is tree u v t in
            elim (cases_Bool (is_root tree cut u)) [
              | inl x ↦ absurd (both_ways (in_subtree tree u v && is_root tree cut u) (is.3 u at.0 low) (and_from (in_subtree tree u v) (is_root tree cut u) t x))
              | inr x ↦ x
            ];
      },
    )

-- a root is the root over itself
pub root_itself : (tree : ContractionTree) (cut : Cuts) (r : ℕ) → r < operations tree → is_root tree cut r ≡ true → IsRootOver tree cut r r
root_itself tree cut r r_in root =
    let room = size_bounds tree r r_in in
    record {
      inside = r_in;
      over = subtree_from tree r r (omega arith) (omega (arith, room));
      root = root;
      least = λ u low t. let at = subtree_is tree u r t in absurd (omega (arith, at, low));
    }
