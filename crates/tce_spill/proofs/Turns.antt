-- One turn of the cuts after the other.
use Rattle.std.proofs.Common.{◌≡◌, ℕ, ◌+◌, ◌<◌, ◌≤◌, true, false, ◌||◌, eqb, length, ltb, lt-ltb, Some, refl, sym, ap, ap₂, ◌∙◌, subst, inl, inr, arith}
use Rattle.std.specs.Prelude.{◌⊎◌, IsTrue}
use mathlib.Core.Path.{fun_ext}
use Rattle.std.proofs.lemmas.Bool.{cases_Bool, cases_eq, cases_lt, both_ways, false≢true, eq-eqb, ne_eqb, or_right}
use Rattle.tce_space.specs.Space.{IndexSpace}
use Rattle.tce_tree.specs.ContractionTree.{ContractionTree, operations, parent}
use Rattle.tce_tree.proofs.Nodes.{size_nested}
use Rattle.tce_tree.proofs.Parents.{parent_is, subtree_is, subtree_from}
use Rattle.tce_spec.specs.Pieces.{Cuts, except, piece, is_root, IsRootOver}
use Rattle.tce_spec.specs.Storable.{storable}
use Rattle.tce_spec.specs.Specification.{Specification}
use Rattle.tce_spill.specs.Parts.{FitsMemory}
use Rattle.tce_spill.specs.CutsFor.{MeetLimit, JoinMeetsLimit, in_turn, AreCutsFor}
use Rattle.tce_spill.specs.InTurn.{AllAreCut, AreDecided, FitBefore}
use Rattle.tce_spill.specs.Planned.{IsAbove}
use Rattle.tce_spec.specs.PieceSpecification.{CanCut}
use Rattle.tce_spill.specs.CutRefusals.{HasLeastMemory, IsTooLarge, IsCutFault, IsFree}
use Rattle.tce_spill.specs.declared.fault.SpillFault.{SpillFault}
use Rattle.tce_spill.specs.declared.fault.SpillFault.TheVariants.{TooManyTensors, LimitTooSmall, BudgetTooSmall, Array, Disk, Memory}
use Rattle.tce_spill.proofs.Pieces.{except_is}
use Rattle.tce_spill.proofs.Ranges.{root_not_storable}
use Rattle.tce_spill.proofs.Limits.{except_other, take_back, more_meet, same_turn}

-- ---- the root over a node

-- a node has one root over it
pub root_same : (tree : ContractionTree) (cut : Cuts) (v r q : ℕ) → IsRootOver tree cut v r → IsRootOver tree cut v q → r ≡ q
root_same tree cut v r q one other =
    elim (cases_lt r q) [
      | inl x ↦ absurd (false≢true (sym (other.least r x one.over) ∙ one.root))
      | inr x ↦ elim (cases_lt q r) [
        | inl y ↦ absurd (false≢true (sym (one.least q y other.over) ∙ other.root))
        | inr y ↦ omega arith
      ]
    ]

-- that of a node which is no root is the one over its parent
pub root_above : (tree : ContractionTree) (cut : Cuts) (v p r : ℕ) → parent tree v ≡ Some p → is_root tree cut v ≡ false → IsRootOver tree cut p r → IsRootOver tree cut v r
root_above tree cut v p r par apart top =
    let is = parent_is tree v p par in
    let at = subtree_is tree r p top.over in
    let nested = size_nested tree p r at.0 top.inside at.1 in
    record {
      inside = top.inside;
      over = subtree_from tree r v (omega (arith, is.above, at)) (omega (arith, nested, is.holds, at));
      root = top.root;
      least = λ u low t.
          let a = subtree_is tree u v t in
          elim (cases_eq u v) [
            | inl e ↦ ap (is_root tree cut) e ∙ apart
            | inr ne ↦ elim (cases_lt u p) [
              | inl x ↦ absurd (is.least u (omega (arith, a, ne)) x a.1)
              | inr x ↦ top.least u low (subtree_from tree u p x (omega (arith, a, is.above)))
            ]
          ];
    }

-- ---- what the least memory says of a limit

pub least_fits : (space : IndexSpace) (tree : ContractionTree) (n limit : ℕ) → HasLeastMemory space tree n → n ≤ limit → FitsMemory space tree limit
least_fits space tree n limit h low = record {
  fusion = h.fusion;
  fits = h.is_least.fits;
  legal = h.is_least.legal;
  cheap = omega (arith, h.memory_is, low);
}

pub least_above : (space : IndexSpace) (tree : ContractionTree) (n limit : ℕ) → HasLeastMemory space tree n → limit < n → FitsMemory space tree limit → ⊥
least_above space tree n limit h above f =
    let low = h.is_least.least f.fusion f.fits f.legal in
    omega (arith, low, h.memory_is, f.cheap, above)

-- a tree has one least memory
least_is_one : (space : IndexSpace) (tree : ContractionTree) (n m : ℕ) → HasLeastMemory space tree n → HasLeastMemory space tree m → n ≡ m
least_is_one space tree n m h k =
    let one = h.is_least.least k.fusion k.is_least.fits k.is_least.legal in
    let other = k.is_least.least h.fusion h.is_least.fits h.is_least.legal in
    omega (arith, one, other, h.memory_is, k.memory_is)

module _ (space : IndexSpace) (tree : ContractionTree) (cut : Cuts) (v r n limit : ℕ) (top : IsRootOver tree (except cut v) v r) (least : HasLeastMemory space (piece tree (except cut v) r) n) where
  pub join_meets : n ≤ limit → JoinMeetsLimit space tree cut v limit
  join_meets low q over =
      subst (λ k. FitsMemory space (piece tree (except cut v) k) limit) (root_same tree (except cut v) v r q top over)
      (least_fits space (piece tree (except cut v) r) n limit least low)

-- ---- from one turn to the next

pub at_first : (space : IndexSpace) (tree : ContractionTree) (limit : ℕ) (cut : Cuts) → AllAreCut space tree cut → MeetLimit space tree cut limit → AreDecided space tree limit cut 0
at_first space tree limit cut all meet = record {
  rest = λ u low. all u;
  only_storable = λ u t. sym (all u) ∙ t;
  stays = λ v low t j. omega (arith, low);
  taken_back = λ v low s t. absurd (omega (arith, low));
  meet = meet;
}

module _ (space : IndexSpace) (tree : ContractionTree) (limit : ℕ) (cut : Cuts) (n : ℕ) (decided : AreDecided space tree limit cut n) where
  turn_is : in_turn space tree cut n ≡ cut
  turn_is = fun_ext (λ u. elim (cases_Bool (ltb u n)) [
    | inl t ↦ rw t refl
    | inr f ↦ rw f (sym (decided.rest u (elim (cases_lt u n) [ inl x ↦ absurd (both_ways (ltb u n) f (lt-ltb u n x)) | inr x ↦ x ])))
  ])

  -- a node that is not cut
  pub goes_on : cut n ≡ false → AreDecided space tree limit cut (n + 1)
  goes_on apart = record {
    rest = λ u low. decided.rest u (omega (arith, low));
    only_storable = decided.only_storable;
    stays = λ v low t. elim (cases_lt v n) [
      | inl x ↦ decided.stays v x t
      | inr x ↦ let is : v ≡ n = omega (arith, low, x) in absurd (both_ways (cut v) (ap cut is ∙ apart) t)
    ];
    taken_back = λ v low s t. elim (cases_lt v n) [
      | inl x ↦ decided.taken_back v x s t
      | inr x ↦ absurd (both_ways (storable space tree v) (sym (decided.rest v x) ∙ t) s)
    ];
    meet = decided.meet;
  }

  -- a cut that stays
  pub stays_cut : (JoinMeetsLimit space tree cut n limit → ⊥) → AreDecided space tree limit cut (n + 1)
  stays_cut above = record {
    rest = λ u low. decided.rest u (omega (arith, low));
    only_storable = decided.only_storable;
    stays = λ v low t j. elim (cases_lt v n) [
      | inl x ↦ decided.stays v x t j
      | inr x ↦
          let is : v ≡ n = omega (arith, low, x) in
          above (subst (λ c. JoinMeetsLimit space tree c n limit) turn_is (subst (λ k. JoinMeetsLimit space tree (in_turn space tree cut k) k limit) is j))
    ];
    taken_back = λ v low s t. elim (cases_lt v n) [
      | inl x ↦ decided.taken_back v x s t
      | inr x ↦ absurd (both_ways (storable space tree v) (sym (decided.rest v x) ∙ t) s)
    ];
    meet = decided.meet;
  }

  -- and one that is taken back
  pub is_taken_back : n < operations tree → JoinMeetsLimit space tree cut n limit → AreDecided space tree limit (except cut n) (n + 1)
  is_taken_back n_in join = record {
    rest = λ u low. except_other cut n u (λ e. omega (arith, e, low)) ∙ decided.rest u (omega (arith, low));
    only_storable = λ u t. decided.only_storable u (except_is cut n u t).0;
    stays = λ v low t j.
        let is = except_is cut n v t in
        let earlier : v < n = elim (cases_lt v n) [ inl x ↦ x | inr x ↦ absurd (is.1 (omega (arith, low, x))) ] in
        decided.stays v earlier is.0 (subst (λ c. JoinMeetsLimit space tree c v limit) (same_before v (omega (arith, earlier))) j);
    taken_back = λ v low s t. elim (cases_eq v n) [
      | inl e ↦
          subst (λ k. JoinMeetsLimit space tree (in_turn space tree (except cut n) k) k limit) (sym e)
          (subst (λ c. JoinMeetsLimit space tree c n limit) (sym (same_before n (omega arith) ∙ turn_is)) join)
      | inr ne ↦
          subst (λ c. JoinMeetsLimit space tree c v limit) (sym (same_before v (omega (arith, low, ne))))
          (decided.taken_back v (omega (arith, low, ne)) s (sym (except_other cut n v ne) ∙ t))
    ];
    meet = take_back space tree cut n limit n_in decided.meet join;
  }
    where
      same_before : (v : ℕ) → v ≤ n → in_turn space tree (except cut n) v ≡ in_turn space tree cut v
      same_before v low = same_turn space tree (except cut n) cut v (λ u x. except_other cut n u (λ e. omega (arith, e, x, low)))

pub are_cuts : (space : IndexSpace) (tree : ContractionTree) (limit : ℕ) (cut : Cuts) → AreDecided space tree limit cut (operations tree) → AreCutsFor space tree limit cut
are_cuts space tree limit cut decided = record {
  only_storable = λ v v_in t. decided.only_storable v t;
  stays = decided.stays;
  taken_back = decided.taken_back;
}

-- ---- a piece that is above the limit

pub is_too_large : (space : IndexSpace) (tree : ContractionTree) (cut : Cuts) (limit v n : ℕ) → AllAreCut space tree cut → v < operations tree → IsTrue (is_root tree cut v)
    → HasLeastMemory space (piece tree cut v) n → limit < n → FitBefore space tree cut limit v → IsTooLarge space tree limit v n
is_too_large space tree cut limit v n all v_in root takes above earlier =
    let same : cut ≡ storable space tree = fun_ext all in
    record {
      inside = v_in;
      root = subst (λ c. IsTrue (is_root tree c v)) same root;
      takes = subst (λ c. HasLeastMemory space (piece tree c v) n) same takes;
      above = above;
      earlier = subst (λ c. FitBefore space tree c limit v) same earlier;
    }

-- no cuts of storable nodes meet the limit then
pub never_met : (space : IndexSpace) (tree : ContractionTree) (cut : Cuts) (limit v n : ℕ) → IsTooLarge space tree limit v n
    → ((u : ℕ) → IsTrue (cut u) → IsTrue (storable space tree u)) → MeetLimit space tree cut limit → ⊥
never_met space tree cut limit v n large allowed meet =
    let all = more_meet space tree cut (storable space tree) limit (λ u u_in t. allowed u t) meet in
    least_above space (piece tree (storable space tree) v) n limit large.takes large.above (all v large.inside large.root)

-- the first such piece, and its least memory, are one
pub large_is_one : (space : IndexSpace) (tree : ContractionTree) (limit v n w m : ℕ) → IsTooLarge space tree limit v n → IsTooLarge space tree limit w m → (v ≡ w) × (n ≡ m)
large_is_one space tree limit v n w m one other =
    let same : v ≡ w = elim (cases_lt v w) [
      | inl x ↦ absurd (least_above space (piece tree (storable space tree) v) n limit one.takes one.above (other.earlier v x one.root))
      | inr x ↦ elim (cases_lt w v) [
        | inl y ↦ absurd (least_above space (piece tree (storable space tree) w) m limit other.takes other.above (one.earlier w y other.root))
        | inr y ↦ omega arith
      ]
    ] in
    (same, least_is_one space (piece tree (storable space tree) w) n m (subst (λ k. HasLeastMemory space (piece tree (storable space tree) k) n) same one.takes) other.takes)

-- ---- the pieces one after the other

pub fit_more : (space : IndexSpace) (tree : ContractionTree) (cut : Cuts) (limit n m : ℕ) → FitBefore space tree cut limit n → HasLeastMemory space (piece tree cut n) m → m ≤ limit
    → FitBefore space tree cut limit (n + 1)
fit_more space tree cut limit n m so_far least small r low root =
    elim (cases_lt r n) [
      | inl x ↦ so_far r x root
      | inr x ↦
          let is : n ≡ r = omega (arith, low, x) in
          subst (λ k. FitsMemory space (piece tree cut k) limit) is (least_fits space (piece tree cut n) m limit least small)
    ]

-- ---- the turn of a node that is cut, where `fewer` are the cuts without it

module _ (s : Specification) (limit : ℕ) (cut fewer : Cuts) (v r : ℕ) (decided : AreDecided s.declarations.space s.tree limit cut v)
    (same : (u : ℕ) → fewer u ≡ except cut v u) (top : IsRootOver s.tree fewer v r) where
  pub may_cut : CanCut s fewer r
  may_cut = record {
    inside = top.inside;
    root = top.root;
    allowed = λ u t. decided.only_storable u (except_is cut v u (sym (same u) ∙ t)).0;
  }

  own_top : IsRootOver s.tree (except cut v) v r
  own_top = subst (λ c. IsRootOver s.tree c v r) (fun_ext same) top

  pub stays_at : IsAbove s fewer r limit → AreDecided s.declarations.space s.tree limit cut (v + 1)
  stays_at above =
      stays_cut s.declarations.space s.tree limit cut v decided
      (λ meets. above (subst (λ c. FitsMemory s.declarations.space (piece s.tree c r) limit) (sym (fun_ext same)) (meets r own_top)))

  module _ (n : ℕ) (least : HasLeastMemory s.declarations.space (piece s.tree fewer r) n) where
    own_least : HasLeastMemory s.declarations.space (piece s.tree (except cut v) r) n
    own_least = subst (λ c. HasLeastMemory s.declarations.space (piece s.tree c r) n) (fun_ext same) least

    pub goes_at : v < operations s.tree → n ≤ limit → AreDecided s.declarations.space s.tree limit fewer (v + 1)
    goes_at v_in low =
        subst (λ c. AreDecided s.declarations.space s.tree limit c (v + 1)) (sym (fun_ext same))
        (is_taken_back s.declarations.space s.tree limit cut v decided v_in (join_meets s.declarations.space s.tree cut v r n limit own_top own_least low))

-- ---- the set of all storable nodes

module _ (space : IndexSpace) (tree : ContractionTree) (nodes : Cuts) (v : ℕ) (before : (u : ℕ) → u < v → nodes u ≡ storable space tree u) where
  pub node_kept : storable space tree v ≡ false → ((u : ℕ) → v ≤ u → nodes u ≡ false) → (u : ℕ) → u < v + 1 → nodes u ≡ storable space tree u
  node_kept apart behind u low =
      elim (cases_lt u v) [
        | inl x ↦ before u x
        | inr x ↦ let is : v ≡ u = omega (arith, low, x) in behind u x ∙ sym (ap (storable space tree) (sym is) ∙ apart)
      ]

  module _ (after : Cuts) (more : (u : ℕ) → after u ≡ (nodes u || eqb v u)) where
    other_node : (u : ℕ) → (v ≡ u → ⊥) → (nodes u || eqb v u) ≡ nodes u
    other_node u ne = elim (cases_Bool (nodes u)) [ inl t ↦ rw t refl | inr f ↦ rw f (ne_eqb v u ne) ]

    pub node_more : storable space tree v ≡ true → (u : ℕ) → u < v + 1 → after u ≡ storable space tree u
    node_more here u low =
        elim (cases_lt u v) [
          | inl x ↦ more u ∙ other_node u (λ e. omega (arith, e, x)) ∙ before u x
          | inr x ↦
              let is : v ≡ u = omega (arith, low, x) in
              more u ∙ or_right (nodes u) (eqb v u) (eq-eqb v u is) ∙ sym (ap (storable space tree) (sym is) ∙ here)
        ]

    pub none_behind : ((u : ℕ) → v ≤ u → nodes u ≡ false) → (u : ℕ) → v + 1 ≤ u → after u ≡ false
    none_behind behind u low = more u ∙ other_node u (λ e. omega (arith, e, low)) ∙ behind u (omega (arith, low))

pub all_cut : (space : IndexSpace) (tree : ContractionTree) (nodes : Cuts) (v : ℕ) → operations tree ≤ v → ((u : ℕ) → u < v → nodes u ≡ storable space tree u)
    → ((u : ℕ) → v ≤ u → nodes u ≡ false) → AllAreCut space tree nodes
all_cut space tree nodes v last before behind u =
    elim (cases_lt u v) [
      | inl x ↦ before u x
      | inr x ↦ behind u x ∙ root_not_storable space tree u (omega (arith, last, x))
    ]

pub all_cut_of : (s : Specification) (space : IndexSpace) (tree : ContractionTree) (nodes : Cuts) → space ≡ s.declarations.space → tree ≡ s.tree → AllAreCut space tree nodes
    → AllAreCut s.declarations.space s.tree nodes
all_cut_of s space tree nodes same_space same_tree all u = all u ∙ ap₂ (λ k t. storable k t u) same_space same_tree

-- no cut stands for a number past the nodes
pub no_more : (space : IndexSpace) (tree : ContractionTree) (limit : ℕ) (cut : Cuts) (v : ℕ) → AreDecided space tree limit cut (operations tree) → operations tree ≤ v → cut v ≡ false
no_more space tree limit cut v decided past = decided.rest v past ∙ sym (root_not_storable space tree v (omega (arith, past)))

-- ---- the faults

-- two causes are one, but for those that may come anywhere
pub one_fault : (s : Specification) (limit : ℕ) (fault due : SpillFault) → IsCutFault s limit fault → IsCutFault s limit due → (IsFree due → ⊥) → (fault ≡ due) ⊎ IsFree fault
one_fault s limit TooManyTensors TooManyTensors f d free = inl refl
one_fault s limit TooManyTensors (LimitTooSmall w m) f d free = absurd (omega (arith, f, d.0))
one_fault s limit TooManyTensors (BudgetTooSmall m) f d free = absurd d
one_fault s limit TooManyTensors (Array name fault) f d free = absurd d
one_fault s limit TooManyTensors Disk f d free = absurd d
one_fault s limit TooManyTensors Memory f d free = absurd (free tt)
one_fault s limit (LimitTooSmall v n) TooManyTensors f d free = absurd (omega (arith, f.0, d))
one_fault s limit (LimitTooSmall v n) (LimitTooSmall w m) f d free =
    let same = large_is_one s.declarations.space s.tree limit v n w m f.1 d.1 in
    inl (ap₂ LimitTooSmall same.0 same.1)
one_fault s limit (LimitTooSmall v n) (BudgetTooSmall m) f d free = absurd d
one_fault s limit (LimitTooSmall v n) (Array name fault) f d free = absurd d
one_fault s limit (LimitTooSmall v n) Disk f d free = absurd d
one_fault s limit (LimitTooSmall v n) Memory f d free = absurd (free tt)
one_fault s limit (BudgetTooSmall n) due f d free = absurd f
one_fault s limit (Array name fault) due f d free = absurd f
one_fault s limit Disk due f d free = absurd f
one_fault s limit Memory due f d free = inr tt

-- and there is none where cuts are found
pub no_fault : (s : Specification) (limit n : ℕ) (cut : Cuts) (due : SpillFault) → length s.declarations.tensors ≤ 31 → AreDecided s.declarations.space s.tree limit cut n
    → (IsFree due → ⊥) → IsCutFault s limit due → ⊥
no_fault s limit n cut TooManyTensors few decided free d = omega (arith, few, d)
no_fault s limit n cut (LimitTooSmall v m) few decided free d = never_met s.declarations.space s.tree cut limit v m d.1 decided.only_storable decided.meet
no_fault s limit n cut (BudgetTooSmall m) few decided free d = d
no_fault s limit n cut (Array name fault) few decided free d = d
no_fault s limit n cut Disk few decided free d = d
no_fault s limit n cut Memory few decided free d = free tt
