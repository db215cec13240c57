-- What the first classes of a nesting put above all else.
use Rattle.std.proofs.Common.{◌≡◌, ℕ, suc, zero, ◌<◌, length, get_or, Bool, true, false, not, ◌&&◌, ◌||◌, inl, inr, arith, ◌∙◌, sym, ap, map, eqb, List, [], ◌∷◌}
use Rattle.std.specs.List.{All}
use Rattle.std.proofs.lemmas.Bool.{both_ways, and_parts, or_cases, or_parts}
use Rattle.std.proofs.lemmas.List.Elements.{All-filter, All-map}
use Rattle.tce_space.specs.IndexSet.{IsWithin, has, meet, empty}
use Rattle.tce_space.proofs.IndexSetLaws.{has-meet}
use Rattle.tce_fusion.specs.Relation.{above, IsCoarser}
use Rattle.tce_fusion.specs.StateClasses.{IsNesting, IsInhabited}
use Rattle.tce_nesting.specs.Classes.{restricted}
use Rattle.tce_nesting.specs.Plan.{LiesWithin}

-- the indexes that are reached are above all others, and those stand to each other as the rest of the classes tells; they lie within each set that has all classes
pub record IsPrefix (classes rest : List ℕ) (reached : ℕ) : Type 0 where
  pub upper : (i j : ℕ) → has reached j ≡ false → above classes i j ≡ (has reached i || above rest i j)
  pub within : (dims : ℕ) → All (LiesWithin dims) classes → IsWithin reached dims

pub prefix_none : (classes : List ℕ) (reached : ℕ) → ((i : ℕ) → has reached i ≡ false) → IsPrefix classes classes reached
prefix_none classes reached none = record {
  upper = λ i j low. ap (λ b. b || above classes i j) (sym (none i));
  within = λ dims all i h. absurd (both_ways (has reached i) (none i) h);
}

one_class : (reached_i c_i c_j rest : Bool) → c_j ≡ false → (reached_i || (not c_j && (c_i || rest))) ≡ ((reached_i || c_i) || rest)
one_class reached_i c_i c_j rest p = grind arith

-- one more class
pub prefix_further : (classes rest : List ℕ) (c reached wider : ℕ) → ((i : ℕ) → has wider i ≡ (has reached i || has c i))
    → ((dims : ℕ) → All (LiesWithin dims) classes → IsWithin c dims) → IsPrefix classes (c ∷ rest) reached → IsPrefix classes rest wider
prefix_further classes rest c reached wider members class is = record {
  upper = λ i j low.
      let parts = or_parts (has reached j) (has c j) (sym (members j) ∙ low) in
      is.upper i j parts.0 ∙ one_class (has reached i) (has c i) (has c j) (above rest i j) parts.1 ∙ ap (λ b. b || above rest i j) (sym (members i));
  within = λ dims all i h. elim (or_cases (has reached i) (has c i) (sym (members i) ∙ h)) [ inl p ↦ is.within dims all i p | inr q ↦ class dims all i q ];
}

above_one : (w_i w_j : Bool) → (not w_j && (w_i || false)) ≡ true → (w_j ≡ false) × (w_i ≡ true)
above_one w_i w_j h = grind arith

-- the one class of them is coarser than all classes
pub prefix_coarser : (outer : ℕ) (classes rest : List ℕ) (reached : ℕ) → IsPrefix classes rest reached → IsCoarser outer (above (reached ∷ [])) (above classes)
prefix_coarser outer classes rest reached is i j p q h =
    let parts = above_one (has reached i) (has reached j) h in
    is.upper i j parts.0 ∙ ap (λ b. b || above rest i j) parts.1

class_inhabited : (classes : List ℕ) (k c : ℕ) → k < length classes → c ≡ get_or classes k c → IsNesting classes → IsInhabited c
class_inhabited [] k c low is nesting none = absurd (omega arith)
class_inhabited (x ∷ xs) zero c low is nesting none = nesting.1 (λ i. ap (λ s. has s i) (sym is) ∙ none i)
class_inhabited (x ∷ xs) (suc k) c low is nesting none = class_inhabited xs k c (omega arith) is nesting.3 none

-- what has one of the classes has a member
pub prefix_inhabited : (classes : List ℕ) (k c reached wider : ℕ) → k < length classes → c ≡ get_or classes k c → IsNesting classes
    → ((i : ℕ) → has wider i ≡ (has reached i || has c i)) → IsInhabited wider
prefix_inhabited classes k c reached wider low is nesting members none =
    class_inhabited classes k c low is nesting (λ i. (or_parts (has reached i) (has c i) (sym (members i) ∙ none i)).1)

-- each class of what is left lies within the fused set
pub restricted_within : (dims fused : ℕ) (classes : List ℕ) → IsWithin fused dims → All (LiesWithin dims) (restricted classes fused)
restricted_within dims fused classes within =
    All-filter (λ (c : ℕ). not (eqb c empty)) (LiesWithin dims) (map (λ (c : ℕ). meet c fused) classes)
    (All-map (LiesWithin dims) (λ (c : ℕ). meet c fused) classes
    (λ k d low i inn. within i (and_parts (has (get_or classes k d) i) (has fused i) (sym (has-meet (get_or classes k d) fused i) ∙ inn)).1))
