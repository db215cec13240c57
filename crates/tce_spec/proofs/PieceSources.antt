-- What a piece reads: tensors that the whole reads, and arrays of cut nodes.
use Rattle.std.proofs.Common.{◌≡◌, ◌⊎◌, ℕ, suc, ◌+◌, ◌-◌, ◌<◌, ◌≤◌, Bool, true, false, not, cond, List, [], ◌∷◌, ◌++◌, length, map, get_or, eqb, eq-eqb, ne_eqb, eqb-true, ltb, lt-ltb, refl, sym, ap, ◌∙◌, subst, inl, inr, arith}
use Rattle.std.specs.Prelude.{⊤}
use Rattle.std.specs.List.{fold, list_any, AllByRecursion}
use Rattle.std.proofs.lemmas.Bool.{cases_Bool, cases_eq, cases_lt, and_parts, or_cases, or_left, or_right, false≢true, or_parts, or_from}
use Rattle.std.proofs.lemmas.List.{length_push, length-map, get_or-map, get_or_append_left, get_or-append_right}
use Rattle.std.proofs.lemmas.Bool.Decides.{nat_tests}
use Rattle.std.proofs.lemmas.List.Folds.{list_any-append}
use Rattle.tce_space.specs.IndexSet.{members}
use Rattle.tce_space.specs.Space.{index_at}
use Rattle.tce_tree.specs.ContractionTree.{ContractionTree, leaf, constant, binary, sum, dims, operations, node, node_dims}
use Rattle.tce_tree.proofs.Nodes.{node-left, node-right_at, node-operand, node-root}
use Rattle.tce_tree.proofs.Operands.{Stands, stands-left, stands-right, stands-operand}
use Rattle.tce_spec.specs.Declarations.{Declarations, Tensor, tensor_at, no_tensor}
use Rattle.tce_spec.specs.Contraction.{FitsTensor, LeavesFit, has_tensor}
use Rattle.tce_spec.specs.Pieces.{Cuts, stored, unless_cut, rest_of, except}
use Rattle.tce_spec.specs.Specification.{Specification}
use Rattle.tce_spec.specs.Operands.{references, with_new, each_once}
use Rattle.tce_spec.specs.PieceSpecification.{array_of, source, place_in, renumbered}

-- ---- lists of numbers by a fact of each

pub each_append : (p : ℕ → Type 0) (xs ys : List ℕ) → AllByRecursion p xs → AllByRecursion p ys → AllByRecursion p (xs ++ ys)
each_append p [] ys a b = b
each_append p (x ∷ xs) ys a b = (a.0, each_append p xs ys a.1 b)

each_new : (p : ℕ → Type 0) (seen : List ℕ) (t : ℕ) → AllByRecursion p seen → p t → AllByRecursion p (with_new seen t)
each_new p seen t a one = by_test (list_any (eqb t) seen)
  where
    by_test : (b : Bool) → AllByRecursion p (cond b seen (seen ++ t ∷ []))
    by_test true = a
    by_test false = each_append p seen (t ∷ []) a (one, tt)

each_folded : (p : ℕ → Type 0) (xs seen : List ℕ) → AllByRecursion p xs → AllByRecursion p seen → AllByRecursion p (fold with_new seen xs)
each_folded p [] seen a b = b
each_folded p (x ∷ xs) seen a b = each_folded p xs (with_new seen x) a.1 (each_new p seen x b a.0)

pub each_of_once : (p : ℕ → Type 0) (xs : List ℕ) → AllByRecursion p xs → AllByRecursion p (each_once xs)
each_of_once p xs a = each_folded p xs [] a tt

-- ---- members

stays_new : (seen : List ℕ) (t u : ℕ) → list_any (eqb t) seen ≡ true → list_any (eqb t) (with_new seen u) ≡ true
stays_new seen t u h = by_test (list_any (eqb u) seen)
  where
    by_test : (b : Bool) → list_any (eqb t) (cond b seen (seen ++ u ∷ [])) ≡ true
    by_test true = h
    by_test false = list_any-append (eqb t) seen (u ∷ []) ∙ or_left (list_any (eqb t) seen) (list_any (eqb t) (u ∷ [])) h

comes_new : (seen : List ℕ) (t : ℕ) → list_any (eqb t) (with_new seen t) ≡ true
comes_new seen t = by_test (list_any (eqb t) seen) refl
  where
    by_test : (b : Bool) → list_any (eqb t) seen ≡ b → list_any (eqb t) (cond b seen (seen ++ t ∷ [])) ≡ true
    by_test true e = e
    by_test false e =
        list_any-append (eqb t) seen (t ∷ []) ∙ or_right (list_any (eqb t) seen) (list_any (eqb t) (t ∷ [])) (or_left (eqb t t) false (eq-eqb t t refl))

pub stays_folded : (xs seen : List ℕ) (t : ℕ) → list_any (eqb t) seen ≡ true → list_any (eqb t) (fold with_new seen xs) ≡ true
stays_folded [] seen t h = h
stays_folded (x ∷ xs) seen t h = stays_folded xs (with_new seen x) t (stays_new seen t x h)

abbrev IsAmong : List ℕ → ℕ → Type 0
IsAmong us t = list_any (eqb t) us ≡ true

folded_has : (xs seen : List ℕ) → AllByRecursion (IsAmong (fold with_new seen xs)) xs
folded_has [] seen = tt
folded_has (x ∷ xs) seen = (stays_folded xs (with_new seen x) x (comes_new seen x), folded_has xs (with_new seen x))

pub once_has : (xs : List ℕ) → AllByRecursion (λ t. list_any (eqb t) (each_once xs) ≡ true) xs
once_has xs = folded_has xs []

-- ---- places

pub record IsPlace (us : List ℕ) (t : ℕ) : Type 0 where
  pub inside : place_in us t < length us
  pub holds : (d : ℕ) → get_or us (place_in us t) d ≡ t

pub place_is : (us : List ℕ) (t : ℕ) → list_any (eqb t) us ≡ true → IsPlace us t
place_is [] t h = absurd (false≢true h)
place_is (u ∷ us) t h =
    elim (cases_eq u t) [
      | inl q ↦
          let at : place_in (u ∷ us) t ≡ 0 = ap (λ b. cond b 0 (place_in us t + 1)) (eq-eqb u t q) in
          record { inside = omega (arith, at); holds = λ d. ap (λ k. get_or (u ∷ us) k d) at ∙ q }
      | inr q ↦
          let rest = place_is us t (elim (or_cases (eqb t u) (list_any (eqb t) us) h) [ inl e ↦ absurd (q (sym (eqb-true t u e))) | inr e ↦ e ]) in
          let at : place_in (u ∷ us) t ≡ suc (place_in us t) = ap (λ b. cond b 0 (place_in us t + 1)) (ne_eqb u t q) ∙ omega arith in
          record { inside = omega (arith, at, rest.inside); holds = λ d. ap (λ k. get_or (u ∷ us) k d) at ∙ rest.holds d }
    ]

-- ---- leaves by a fact of each

abbrev pub LeavesAre : (ℕ → List ℕ → Type 0) → ContractionTree → Type 0
LeavesAre p (leaf tensor indexes) = p tensor indexes
LeavesAre p (constant number) = ⊤
LeavesAre p (binary op left right) = LeavesAre p left × LeavesAre p right
LeavesAre p (sum indexes operand) = LeavesAre p operand

pub references_are : (p : ℕ → List ℕ → Type 0) (q : ℕ → Type 0) → ((t : ℕ) (is : List ℕ) → p t is → q t) → (c : ContractionTree) → LeavesAre p c → AllByRecursion q (references c)
references_are p q h (leaf t is) a = (h t is a, tt)
references_are p q h (constant k) a = tt
references_are p q h (binary op l r) a = each_append q (references l) (references r) (references_are p q h l a.0) (references_are p q h r a.1)
references_are p q h (sum is x) a = references_are p q h x a

-- a tensor that the piece of root `v` reads
abbrev pub IsRead : Specification → Cuts → ℕ → ℕ → Type 0
IsRead s cut v t =
    ((t < length s.declarations.tensors) × (t ≡ s.result → ⊥)) ⊎ ((32 ≤ t) × ((t - 32 < operations s.tree) × ((cut (t - 32) ≡ true) × (t - 32 ≡ v → ⊥))))

pub record LeafIsRead (s : Specification) (cut : Cuts) (v t : ℕ) (is : List ℕ) : Type 0 where
  pub read : IsRead s cut v t
  pub ranges : map (λ i. (index_at s.declarations.space i).of_range) is ≡ (source s t).ranges

pub source_declared : (s : Specification) (t : ℕ) → t < 32 → source s t ≡ tensor_at s.declarations t
source_declared s t low = ap (λ b. cond b (tensor_at s.declarations t) (array_of s (t - 32))) (lt-ltb t 32 low)

pub source_stored : (s : Specification) (v : ℕ) → source s (stored v) ≡ array_of s v
source_stored s v =
    let high : ltb (stored v) 32 ≡ false = grind (arith, nat_tests) in
    let number : stored v - 32 ≡ v = omega arith in
    ap (λ b. cond b (tensor_at s.declarations (stored v)) (array_of s (stored v - 32))) high ∙ ap (array_of s) number

-- the array of a node where it is cut
cut_is_read : (s : Specification) (cut : Cuts) (v u : ℕ) (c : ContractionTree) → u < operations s.tree → node s.tree u ≡ c → except cut v u ≡ true → LeafIsRead s cut v (stored u) (members (dims c))
unfolding node_dims
cut_is_read s cut v u c inside is is_cut =
    let both = and_parts (cut u) (not (eqb u v)) is_cut in
    let number : stored u - 32 ≡ u = omega arith in
    let other : u ≡ v → ⊥ = λ q. false≢true (sym (ap not (eq-eqb u v q)) ∙ both.1) in
    record {
      read = inr (omega arith, (omega arith, (ap cut number ∙ both.0, λ q. other (sym number ∙ q))));
      ranges =
          ap (λ t. map (λ i. (index_at s.declarations.space i).of_range) (members (dims t))) (sym is)
          ∙ sym (ap (λ (t : Tensor). t.ranges) (source_stored s u));
    }

unless_leaves : (p : ℕ → List ℕ → Type 0) (cut : Cuts) (u : ℕ) (c rest : ContractionTree) → (cut u ≡ true → p (stored u) (members (dims c))) → LeavesAre p rest
    → LeavesAre p (unless_cut cut u c rest)
unless_leaves p cut u c rest one more = elim (cases_Bool (cut u)) [ inl t ↦ rw t (one t) | inr f ↦ rw f more ]

-- the last node of a part
part_at : (tree : ContractionTree) (first u : ℕ) (c : ContractionTree) → Stands tree first c → u + 1 ≡ first + operations c → 0 < operations c → (u < operations tree) × (node tree u ≡ c)
part_at tree first u c st number some =
    let split : u ≡ first + (operations c - 1) = omega arith in
    (omega (arith, st.inside), ap (node tree) split ∙ st.same (operations c - 1) (omega arith) ∙ node-root c (operations c - 1) (omega arith))

unless_read : (s : Specification) (cut : Cuts) (v first u : ℕ) (c rest : ContractionTree) → Stands s.tree first c → u + 1 ≡ first + operations c → 0 < operations c
    → LeavesAre (LeafIsRead s cut v) rest → LeavesAre (LeafIsRead s cut v) (unless_cut (except cut v) u c rest)
unless_read s cut v first u c rest st number some more =
    let at = part_at s.tree first u c st number some in
    unless_leaves (LeafIsRead s cut v) (except cut v) u c rest (λ t. cut_is_read s cut v u c at.0 at.1 t) more

pub leaves_read : (s : Specification) (cut : Cuts) (v first : ℕ) (c : ContractionTree) → length s.declarations.tensors ≤ 32 → Stands s.tree first c → LeavesFit s.declarations c → has_tensor s.result c ≡ false
    → LeavesAre (LeafIsRead s cut v) (rest_of (except cut v) first c)
leaves_read s cut v first (leaf t is) few st fits none =
    record {
      read = inl (fits.declared, λ q. false≢true (sym none ∙ eq-eqb t s.result q));
      ranges = fits.ranges ∙ sym (ap (λ (x : Tensor). x.ranges) (source_declared s t (omega (arith, fits.declared, few))));
    }
leaves_read s cut v first (constant k) few st fits none = tt
leaves_read s cut v first (binary op l r) few st fits none =
    let parts = or_parts (has_tensor s.result l) (has_tensor s.result r) none in
    let a = leaves_read s cut v first l few (stands-left s.tree first op l r st) fits.0 parts.0 in
    let b = leaves_read s cut v (first + operations l) r few (stands-right s.tree first op l r st) fits.1 parts.1 in
    unless_read s cut v first (first + operations l + operations r) (binary op l r)
    (binary op (rest_of (except cut v) first l) (rest_of (except cut v) (first + operations l) r)) st (omega arith) (omega arith) (a, b)
leaves_read s cut v first (sum is x) few st fits none =
    unless_read s cut v first (first + operations x) (sum is x) (sum is (rest_of (except cut v) first x)) st (omega arith) (omega arith)
    (leaves_read s cut v first x few (stands-operand s.tree first is x st) fits none)

-- ---- over the piece's own declarations

pub each_left : (p : ℕ → Type 0) (xs ys : List ℕ) → AllByRecursion p (xs ++ ys) → AllByRecursion p xs
each_left p [] ys a = tt
each_left p (x ∷ xs) ys a = (a.0, each_left p xs ys a.1)

pub each_right : (p : ℕ → Type 0) (xs ys : List ℕ) → AllByRecursion p (xs ++ ys) → AllByRecursion p ys
each_right p [] ys a = a
each_right p (x ∷ xs) ys a = each_right p xs ys a.1

abbrev pub own : Specification → List ℕ → Tensor → Declarations
own s us target = record { space = s.declarations.space; tensors = map (source s) us ++ target ∷ [] }

pub own_count : (s : Specification) (us : List ℕ) (target : Tensor) → length (own s us target).tensors ≡ length us + 1
own_count s us target = length_push (map (source s) us) target ∙ ap (λ n. n + 1) (length-map us (source s))

pub own_source : (s : Specification) (us : List ℕ) (target : Tensor) (k : ℕ) → k < length us → tensor_at (own s us target) k ≡ source s (get_or us k 0)
own_source s us target k h =
    let low : k < length (map (source s) us) = omega (arith, h, length-map us (source s)) in
    get_or_append_left (map (source s) us) (target ∷ []) no_tensor k low ∙ get_or-map (source s) us k 0 no_tensor h

pub own_last : (s : Specification) (us : List ℕ) (target : Tensor) → tensor_at (own s us target) (length us) ≡ target
own_last s us target =
    let zero_left : length us - length us ≡ 0 = omega arith in
    get_or-append_right (map (source s) us) (target ∷ []) (length us) (length us) no_tensor (length-map us (source s)) (omega arith)
    ∙ ap (λ k. get_or (target ∷ []) k no_tensor) zero_left

fits_own : (s : Specification) (us : List ℕ) (target : Tensor) (t : ℕ) (is : List ℕ) → list_any (eqb t) us ≡ true → map (λ i. (index_at s.declarations.space i).of_range) is ≡ (source s t).ranges
    → FitsTensor (own s us target) (place_in us t) is
fits_own s us target t is among same =
    let place = place_is us t among in
    record {
      declared = omega (arith, place.inside, own_count s us target);
      ranges = same ∙ sym (ap (λ (x : Tensor). x.ranges) (own_source s us target (place_in us t) place.inside ∙ ap (source s) (place.holds 0)));
    }

pub leaves_fit_own : (s : Specification) (cut : Cuts) (v : ℕ) (us : List ℕ) (target : Tensor) (c : ContractionTree) → LeavesAre (LeafIsRead s cut v) c → AllByRecursion (λ t. list_any (eqb t) us ≡ true) (references c)
    → LeavesFit (own s us target) (renumbered (place_in us) c)
leaves_fit_own s cut v us target (leaf t is) read among = fits_own s us target t is among.0 read.ranges
leaves_fit_own s cut v us target (constant k) read among = tt
leaves_fit_own s cut v us target (binary op l r) read among =
    (leaves_fit_own s cut v us target l read.0 (each_left _ (references l) (references r) among), leaves_fit_own s cut v us target r read.1 (each_right _ (references l) (references r) among))
leaves_fit_own s cut v us target (sum is x) read among = leaves_fit_own s cut v us target x read among

pub result_apart : (us : List ℕ) (c : ContractionTree) → AllByRecursion (λ t. list_any (eqb t) us ≡ true) (references c) → has_tensor (length us) (renumbered (place_in us) c) ≡ false
result_apart us (leaf t is) among = let inside = (place_is us t among.0).inside in ne_eqb (place_in us t) (length us) (λ q. absurd (omega (arith, inside, q)))
result_apart us (constant k) among = refl
result_apart us (binary op l r) among =
    or_from (has_tensor (length us) (renumbered (place_in us) l)) (has_tensor (length us) (renumbered (place_in us) r))
    (result_apart us l (each_left _ (references l) (references r) among)) (result_apart us r (each_right _ (references l) (references r) among))
result_apart us (sum is x) among = result_apart us x among

-- ---- parts of the whole

pub fits_node : (d : Declarations) (c : ContractionTree) (v : ℕ) → v < operations c → LeavesFit d c → LeavesFit d (node c v)
fits_node d (leaf t is) v inside h = absurd (omega arith)
fits_node d (constant k) v inside h = absurd (omega arith)
fits_node d (binary op l r) v inside h =
    elim (cases_lt v (operations l)) [
      | inl x ↦ subst (LeavesFit d) (sym (node-left op l r v x)) (fits_node d l v x h.0)
      | inr x ↦ elim (cases_lt v (operations l + operations r)) [
        | inl y ↦ subst (LeavesFit d) (sym (node-right_at op l r v x y)) (fits_node d r (v - operations l) (omega arith) h.1)
        | inr y ↦ subst (LeavesFit d) (sym (node-root (binary op l r) v (omega arith))) h
      ]
    ]
fits_node d (sum is x) v inside h =
    elim (cases_lt v (operations x)) [
      | inl y ↦ subst (LeavesFit d) (sym (node-operand is x v y)) (fits_node d x v y h)
      | inr y ↦ subst (LeavesFit d) (sym (node-root (sum is x) v (omega arith))) h
    ]

pub absent_node : (r : ℕ) (c : ContractionTree) (v : ℕ) → v < operations c → has_tensor r c ≡ false → has_tensor r (node c v) ≡ false
absent_node r (leaf t is) v inside h = absurd (omega arith)
absent_node r (constant k) v inside h = absurd (omega arith)
absent_node r (binary op a b) v inside h =
    let parts = or_parts (has_tensor r a) (has_tensor r b) h in
    elim (cases_lt v (operations a)) [
      | inl x ↦ ap (has_tensor r) (node-left op a b v x) ∙ absent_node r a v x parts.0
      | inr x ↦ elim (cases_lt v (operations a + operations b)) [
        | inl y ↦ ap (has_tensor r) (node-right_at op a b v x y) ∙ absent_node r b (v - operations a) (omega arith) parts.1
        | inr y ↦ ap (has_tensor r) (node-root (binary op a b) v (omega arith)) ∙ h
      ]
    ]
absent_node r (sum is x) v inside h =
    elim (cases_lt v (operations x)) [
      | inl y ↦ ap (has_tensor r) (node-operand is x v y) ∙ absent_node r x v y h
      | inr y ↦ ap (has_tensor r) (node-root (sum is x) v (omega arith)) ∙ h
    ]

pub each_declared : (d : Declarations) (c : ContractionTree) → LeavesFit d c → AllByRecursion (λ t. t < length d.tensors) (references c)
each_declared d (leaf t is) h = (h.declared, tt)
each_declared d (constant k) h = tt
each_declared d (binary op l r) h = each_append (λ t. t < length d.tensors) (references l) (references r) (each_declared d l h.0) (each_declared d r h.1)
each_declared d (sum is x) h = each_declared d x h
