-- The cuts for a limit meet it where any cuts do, and none of them alone can be taken back.
use Rattle.std.proofs.Common.{◌≡◌, ℕ, zero, suc, ◌+◌, ◌-◌, ◌<◌, ◌≤◌, true, false, not, ◌&&◌, eqb, ltb, ltb-true, lt-ltb, eqb-true, refl, sym, ap, ap₂, ◌∙◌, subst, inl, inr, arith}
use Rattle.std.specs.Prelude.{IsTrue}
use mathlib.Core.Path.{fun_ext}
use Rattle.std.proofs.lemmas.Bool.{cases_Bool, cases_eq, cases_lt, or_cases, true≢false, both_ways}
use Rattle.tce_space.specs.Space.{IndexSpace}
use Rattle.tce_tree.specs.ContractionTree.{ContractionTree, leaf, constant, binary, sum, operations, node, in_subtree}
use Rattle.tce_tree.specs.FlatTree.{first_number_of}
use Rattle.tce_tree.proofs.Lists.{same_truth}
use Rattle.tce_tree.proofs.Nodes.{size_bounds}
use Rattle.tce_tree.proofs.Operands.{Stands, stands-node, stands-left, stands-right, stands-operand}
use Rattle.tce_tree.proofs.Parents.{subtree_is, subtree_from}
use Rattle.tce_spec.specs.Pieces.{Cuts, unless_cut, rest_of, except, piece, is_root, IsRootOver}
use Rattle.tce_spec.specs.Storable.{storable}
use Rattle.tce_spill.specs.Parts.{FitsMemory}
use Rattle.tce_spill.specs.CutsFor.{AreStorable, MeetLimit, JoinMeetsLimit, in_turn, AreCutsFor}
use Rattle.tce_spill.specs.Laws.{AreAmong}
use Rattle.tce_spill.proofs.Pieces.{except_is, except_from, root_some, root_exists, root_itself, more_cuts_take_no_more}

-- ---- a piece in which a node does not stand

unless_same : (a b : Cuts) (v : ℕ) (c x y : ContractionTree) → a v ≡ b v → (a v ≡ false → x ≡ y) → unless_cut a v c x ≡ unless_cut b v c y
unless_same a b v c x y same rest =
    elim (cases_Bool (a v)) [
      | inl t ↦ let u : b v ≡ true = sym same ∙ t in rw t (rw u refl)
      | inr f ↦ let u : b v ≡ false = sym same ∙ f in rw f (rw u (rest f))
    ]

-- a node above `n` is cut in both
pub record IsHidden (tree : ContractionTree) (a b : Cuts) (n end : ℕ) : Type 0 where
  pub at : ℕ
  pub inside : at < end
  pub over : in_subtree tree at n ≡ true
  pub in_first : a at ≡ true
  pub in_second : b at ≡ true

module _ (tree : ContractionTree) (a b : Cuts) (n : ℕ) (agree : (u : ℕ) → (u ≡ n → ⊥) → a u ≡ b u) where
  abbrev Hides : ℕ → ℕ → Type 0
  Hides first end = first ≤ n → n < end → IsHidden tree a b n end

  same_at : (first v : ℕ) → first ≤ v → Hides first (v + 1) → a v ≡ b v
  same_at first v low hides = elim (cases_eq v n) [
    | inl e ↦
        let h = hides (omega (arith, e, low)) (omega (arith, e)) in
        let over = subtree_is tree h.at n h.over in
        let is : h.at ≡ v = omega (arith, over, e, h.inside) in
        ap a (sym is) ∙ h.in_first ∙ sym (ap b (sym is) ∙ h.in_second)
    | inr ne ↦ agree v ne
  ]

  below_root : (first v end : ℕ) → a v ≡ false → Hides first (v + 1) → first ≤ n → n < v → IsHidden tree a b n v
  below_root first v end apart hides low high =
      let h = hides low (omega (arith, high)) in
      record {
        at = h.at;
        inside = elim (cases_eq h.at v) [ inl e ↦ absurd (both_ways (a v) apart (ap a (sym e) ∙ h.in_first)) | inr ne ↦ omega (arith, h.inside) ];
        over = h.over;
        in_first = h.in_first;
        in_second = h.in_second;
      }

  same_rest : (c : ContractionTree) (first : ℕ) → Stands tree first c → Hides first (first + operations c) → rest_of a first c ≡ rest_of b first c
  same_rest (leaf tensor indexes) first st hides = refl
  same_rest (constant number) first st hides = refl
  same_rest (binary op l r) first st hides =
      let v : ℕ = first + operations l + operations r in
      let end : first + operations (binary op l r) ≡ v + 1 = omega arith in
      let whole : Hides first (v + 1) = subst (λ k. Hides first k) end hides in
      unless_same a b v (binary op l r) (binary op (rest_of a first l) (rest_of a (first + operations l) r)) (binary op (rest_of b first l) (rest_of b (first + operations l) r))
      (same_at first v (omega arith) whole)
      (λ apart. ap₂ (binary op)
      (same_rest l first (stands-left tree first op l r st) (λ low high.
      let h = below_root first v v apart whole low (omega (arith, high)) in
      record {
        at = h.at;
        inside = elim (cases_lt h.at (first + operations l)) [
          | inl x ↦ x
          | inr x ↦
              let right = stands-right tree first op l r st in
              let back : first + operations l + (h.at - (first + operations l)) ≡ h.at = omega (arith, x) in
              let same = ap operations (ap (node tree) (sym back) ∙ right.same (h.at - (first + operations l)) (omega (arith, x, h.inside))) in
              let room = size_bounds r (h.at - (first + operations l)) (omega (arith, x, h.inside)) in
              let over = subtree_is tree h.at n h.over in
              absurd (omega (arith, high, same, room, over, x))
        ];
        over = h.over;
        in_first = h.in_first;
        in_second = h.in_second;
      }))
      (same_rest r (first + operations l) (stands-right tree first op l r st) (λ low high. below_root first v v apart whole (omega (arith, low)) high)))
  same_rest (sum is e) first st hides =
      let v : ℕ = first + operations e in
      let end : first + operations (sum is e) ≡ v + 1 = omega arith in
      let whole : Hides first (v + 1) = subst (λ k. Hides first k) end hides in
      unless_same a b v (sum is e) (sum is (rest_of a first e)) (sum is (rest_of b first e))
      (same_at first v (omega arith) whole)
      (λ apart. ap (sum is) (same_rest e first (stands-operand tree first is e st) (λ low high. below_root first v v apart whole low high)))

-- ---- a cut that is taken back

pub except_other : (cut : Cuts) (n u : ℕ) → (u ≡ n → ⊥) → except cut n u ≡ cut u
except_other cut n u ne = elim (cases_Bool (cut u)) [
  | inl t ↦ except_from cut n u t ne ∙ sym t
  | inr f ↦ elim (cases_Bool (except cut n u)) [ inl x ↦ absurd (both_ways (cut u) f (except_is cut n u x).0) | inr x ↦ x ∙ sym f ]
]

-- without the cut of `n` all pieces are the same but the one in which `n` stands
pub other_piece : (tree : ContractionTree) (cut : Cuts) (n r r0 : ℕ) → IsRootOver tree (except cut n) n r0 → r < operations tree → is_root tree (except cut n) r ≡ true → (r ≡ r0 → ⊥)
    → piece tree (except cut n) r ≡ piece tree cut r
unfolding piece first_number_of
other_piece tree cut n r r0 top r_in root ne =
    let room = size_bounds tree r r_in in
    let end : first_number_of tree r + operations (node tree r) ≡ r + 1 = omega (arith, room) in
    same_rest tree (except (except cut n) r) (except cut r) n
    (λ u apart. ap (λ x. x && not (eqb u r)) (except_other cut n u apart))
    (node tree r) (first_number_of tree r) (stands-node tree r r_in)
    (λ low high. subst (λ k. IsHidden tree (except (except cut n) r) (except cut r) n k) (sym end) (hidden (omega (arith, end, high)) (omega (arith, low, room))))
  where
    hidden : n ≤ r → r < n + operations (node tree r) → IsHidden tree (except (except cut n) r) (except cut r) n (r + 1)
    hidden low high =
        let over = subtree_from tree r n low high in
        let under : r0 < r = elim (cases_lt r r0) [
          | inl x ↦ absurd (true≢false (sym root ∙ top.least r x over))
          | inr x ↦ omega (arith, x, ne)
        ] in
        let is_cut : except cut n r0 ≡ true = elim (or_cases (except cut n r0) (eqb (r0 + 1) (operations tree)) top.root) [
          | inl x ↦ x
          | inr x ↦ absurd (omega (arith, eqb-true (r0 + 1) (operations tree) x, under, r_in))
        ] in
        record {
          at = r0;
          inside = omega (arith, under);
          over = top.over;
          in_first = except_from (except cut n) r r0 is_cut (λ e. omega (arith, e, under));
          in_second = except_from cut r r0 (except_is cut n r0 is_cut).0 (λ e. omega (arith, e, under));
        }

pub take_back : (space : IndexSpace) (tree : ContractionTree) (cut : Cuts) (n limit : ℕ) → n < operations tree → MeetLimit space tree cut limit → JoinMeetsLimit space tree cut n limit
    → MeetLimit space tree (except cut n) limit
take_back space tree cut n limit n_in meets join r r_in root =
    let top = root_exists tree (except cut n) n n_in in
    elim (cases_eq r top.0) [
      | inl e ↦ subst (λ k. FitsMemory space (piece tree (except cut n) k) limit) (sym e) (join top.0 top.1)
      | inr ne ↦
          subst (λ t. FitsMemory space t limit) (sym (other_piece tree cut n r top.0 top.1 r_in root ne))
          (meets r r_in (root_some tree (except cut n) cut (λ u u_in t. (except_is cut n u t).0) r r_in root))
    ]

-- more cuts meet the limit too
pub more_meet : (space : IndexSpace) (tree : ContractionTree) (fewer more : Cuts) (limit : ℕ) → AreAmong tree fewer more → MeetLimit space tree fewer limit → MeetLimit space tree more limit
more_meet space tree fewer more limit h meets r r_in root =
    let top = root_exists tree fewer r r_in in
    more_cuts_take_no_more space tree fewer more r top.0 r limit h top.1 (root_itself tree more r r_in root) (meets top.0 top.1.inside top.1.root)

-- ---- the cuts in turn

module _ (space : IndexSpace) (tree : ContractionTree) (limit : ℕ) (kept : Cuts) (cuts : AreCutsFor space tree limit kept) where
  abbrev turn : ℕ → Cuts
  turn n = in_turn space tree kept n

  before : (n u : ℕ) → u < n → turn n u ≡ kept u
  before n u low = let here = lt-ltb u n low in rw here refl

  behind : (n u : ℕ) → n ≤ u → turn n u ≡ storable space tree u
  behind n u low = elim (cases_Bool (ltb u n)) [ inl t ↦ absurd (omega (arith, ltb-true u n t, low)) | inr f ↦ rw f refl ]

  later : (n u : ℕ) → (u ≡ n → ⊥) → turn (n + 1) u ≡ turn n u
  later n u ne = elim (cases_lt u n) [
    | inl x ↦ before (n + 1) u (omega (arith, x)) ∙ sym (before n u x)
    | inr x ↦ behind (n + 1) u (omega (arith, x, ne)) ∙ sym (behind n u x)
  ]

  stays_so : (n : ℕ) → kept n ≡ storable space tree n → turn (n + 1) ≡ turn n
  stays_so n same = fun_ext (λ u. elim (cases_eq u n) [
    | inl e ↦ ap (turn (n + 1)) e ∙ before (n + 1) n (omega arith) ∙ same ∙ sym (behind n n (omega arith)) ∙ ap (turn n) (sym e)
    | inr ne ↦ later n u ne
  ])

  goes : (n : ℕ) → kept n ≡ false → turn (n + 1) ≡ except (turn n) n
  goes n gone = fun_ext (λ u. elim (cases_eq u n) [
    | inl e ↦
        ap (turn (n + 1)) e ∙ before (n + 1) n (omega arith) ∙ gone
        ∙ elim (cases_Bool (except (turn n) n u)) [ inl x ↦ absurd ((except_is (turn n) n u x).1 e) | inr x ↦ sym x ]
    | inr ne ↦ later n u ne ∙ sym (except_other (turn n) n u ne)
  ])

  next : (n : ℕ) → n < operations tree → MeetLimit space tree (turn n) limit → MeetLimit space tree (turn (n + 1)) limit
  next n n_in meets =
      elim (cases_Bool (kept n)) [
        | inl t ↦ subst (λ c. MeetLimit space tree c limit) (sym (stays_so n (t ∙ sym (cuts.only_storable n n_in t)))) meets
        | inr f ↦ elim (cases_Bool (storable space tree n)) [
          | inl s ↦
              subst (λ c. MeetLimit space tree c limit) (sym (goes n f))
              (take_back space tree (turn n) n limit n_in meets (cuts.taken_back n n_in s f))
          | inr s ↦ subst (λ c. MeetLimit space tree c limit) (sym (stays_so n (f ∙ sym s))) meets
        ]
      ]

  all_turns : (n : ℕ) → n ≤ operations tree → MeetLimit space tree (turn 0) limit → MeetLimit space tree (turn n) limit
  all_turns zero low meets = meets
  all_turns (suc n) low meets =
      let number : n + 1 ≡ suc n = omega arith in
      subst (λ k. MeetLimit space tree (turn k) limit) number (next n (omega arith) (all_turns n (omega arith) meets))

  pub kept_meet : (other : Cuts) → AreStorable space tree other → MeetLimit space tree other limit → MeetLimit space tree kept limit
  kept_meet other allowed meets =
      more_meet space tree (turn (operations tree)) kept limit (λ u u_in t. sym (before (operations tree) u u_in) ∙ t)
      (all_turns (operations tree) (omega arith)
      (more_meet space tree other (turn 0) limit (λ u u_in t. behind 0 u (omega arith) ∙ allowed u u_in t) meets))

  pub none_idle : (v : ℕ) → v < operations tree → IsTrue (kept v) → JoinMeetsLimit space tree kept v limit → ⊥
  none_idle v v_in t join =
      cuts.stays v v_in t (λ q top.
      let lower = root_exists tree (except kept v) v v_in in
      more_cuts_take_no_more space tree (except kept v) (except (turn v) v) v lower.0 q limit
      (λ u u_in x.
      let is = except_is kept v u x in
      except_from (turn v) v u (elim (cases_lt u v) [ inl y ↦ before v u y ∙ is.0 | inr y ↦ behind v u y ∙ cuts.only_storable u u_in is.0 ]) is.1)
      lower.1 top (join lower.0 lower.1))

pub cuts_meet_limits : (space : IndexSpace) (tree : ContractionTree) (kept other : Cuts) (limit : ℕ) → AreCutsFor space tree limit kept
    → AreStorable space tree other → MeetLimit space tree other limit → MeetLimit space tree kept limit
cuts_meet_limits space tree kept other limit cuts = kept_meet space tree limit kept cuts other

pub no_cut_is_idle : (space : IndexSpace) (tree : ContractionTree) (kept : Cuts) (limit v : ℕ) → AreCutsFor space tree limit kept → v < operations tree → IsTrue (kept v)
    → JoinMeetsLimit space tree kept v limit → ⊥
no_cut_is_idle space tree kept limit v cuts = none_idle space tree limit kept cuts v

-- ---- one set of cuts

-- the cuts in turn go by what was kept before
pub same_turn : (space : IndexSpace) (tree : ContractionTree) (kept other : Cuts) (n : ℕ) → ((u : ℕ) → u < n → kept u ≡ other u) → in_turn space tree kept n ≡ in_turn space tree other n
same_turn space tree kept other n same = fun_ext (λ u. elim (cases_Bool (ltb u n)) [
  | inl t ↦ rw t (same u (ltb-true u n t))
  | inr f ↦ rw f refl
])

module _ (space : IndexSpace) (tree : ContractionTree) (limit : ℕ) where
  -- what stays in the one set is not taken back in the other
  stays_too : (kept other : Cuts) → AreCutsFor space tree limit kept → AreCutsFor space tree limit other → (n : ℕ) → n < operations tree
      → ((u : ℕ) → u < n → kept u ≡ other u) → kept n ≡ true → other n ≡ true
  stays_too kept other cuts others n n_in same t =
      elim (cases_Bool (other n)) [
        | inl s ↦ s
        | inr f ↦
            absurd (cuts.stays n n_in t
            (subst (λ c. JoinMeetsLimit space tree c n limit) (sym (same_turn space tree kept other n same)) (others.taken_back n n_in (cuts.only_storable n n_in t) f)))
      ]

  agree_before : (kept other : Cuts) → AreCutsFor space tree limit kept → AreCutsFor space tree limit other → (n u : ℕ) → u < n → u < operations tree → kept u ≡ other u
  agree_before kept other cuts others zero u low u_in = absurd (omega arith)
  agree_before kept other cuts others (suc n) u low u_in =
      let earlier : (w : ℕ) → w < u → kept w ≡ other w = λ w below. agree_before kept other cuts others n w (omega arith) (omega arith) in
      same_truth (kept u) (other u) (stays_too kept other cuts others u u_in earlier) (stays_too other kept others cuts u u_in (λ w below. sym (earlier w below)))

pub cuts_are_one : (space : IndexSpace) (tree : ContractionTree) (limit : ℕ) (kept other : Cuts) → AreCutsFor space tree limit kept → AreCutsFor space tree limit other
    → (v : ℕ) → v < operations tree → kept v ≡ other v
cuts_are_one space tree limit kept other cuts others v v_in = agree_before space tree limit kept other cuts others (suc v) v (omega arith) v_in
