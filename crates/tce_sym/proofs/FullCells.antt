-- Elements of the whole array, case by case.
use Rattle.std.proofs.Common.{◌≡◌, ◌∙◌, ℕ, ◌+◌, ◌*◌, ◌^◌, ◌<◌, ◌≤◌, Bool, true, false, nat_lt, if◌then◌else◌, List, sym, ap, arith}
use Rattle.tce_space.specs.Box.{place, IsInside}
use Rattle.tce_space.proofs.Boxes.{row_lt, place-lt}
use Rattle.tce_sym.specs.declared.symmetry.Symmetry.{Symmetry}
use Rattle.tce_sym.specs.declared.cells.Triangles.{Triangles}
use Rattle.tce_sym.specs.declared.cells.Pair.{Pair}
use Rattle.tce_sym.specs.Storage.{AreRight, IsPair, at_first, at_others, exchanged, pairs, stored_place, stored_word, turned, full_cell}
use Rattle.tce_sym.specs.Cells.{AreTriangles, AreOf, IsAmong, IsPairOf, pair_place, mirror, cell_by, cell_of}
use Rattle.tce_sym.proofs.Triangles.{pair_below}
use Rattle.tce_sym.proofs.Cuts.{are_inside, others_inside, are_exchanged}

pub pair_of_less : (negated : Bool) (a b : ℕ) → a < b → IsPair negated a b
pair_of_less true a b h = h
pair_of_less false a b h = omega arith

pub cell_below : (negated : Bool) (a b word mirrored : ℕ) → a < b → word ≡ cell_by negated a b word mirrored
cell_below negated a b word mirrored h =
    let below : nat_lt a b ≡ true = grind (arith, h) in
    sym (ap (λ c. if c then word else if nat_lt b a then turned negated mirrored else (if negated then 0 else word)) below)

not_below : (negated : Bool) (a b word mirrored : ℕ) → b ≤ a → cell_by negated a b word mirrored ≡ (if nat_lt b a then turned negated mirrored else (if negated then 0 else word))
not_below negated a b word mirrored h =
    let below : nat_lt a b ≡ false = grind (arith, h) in
    ap (λ c. if c then word else if nat_lt b a then turned negated mirrored else (if negated then 0 else word)) below

pub cell_above : (negated : Bool) (a b word mirrored : ℕ) → b < a → turned negated mirrored ≡ cell_by negated a b word mirrored
cell_above negated a b word mirrored h =
    let above : nat_lt b a ≡ true = grind (arith, h) in
    sym (not_below negated a b word mirrored (omega arith) ∙ ap (λ c. if c then turned negated mirrored else (if negated then 0 else word)) above)

diagonal : (negated : Bool) (a b word mirrored : ℕ) → a ≤ b → b ≤ a → cell_by negated a b word mirrored ≡ (if negated then 0 else word)
diagonal negated a b word mirrored h k =
    let above : nat_lt b a ≡ false = grind (arith, h) in
    not_below negated a b word mirrored k ∙ ap (λ c. if c then turned negated mirrored else (if negated then 0 else word)) above

pub cell_between : (negated : Bool) (a b word mirrored : ℕ) → a ≤ b → b ≤ a → negated ≡ true → 0 ≡ cell_by negated a b word mirrored
cell_between negated a b word mirrored h k e = sym (diagonal negated a b word mirrored h k ∙ ap (λ c. if c then 0 else word) e)

pub cell_diagonal : (negated : Bool) (a b word mirrored : ℕ) → a ≤ b → b ≤ a → negated ≡ false → word ≡ cell_by negated a b word mirrored
cell_diagonal negated a b word mirrored h k e = sym (diagonal negated a b word mirrored h k ∙ ap (λ c. if c then 0 else word) e)

-- a stored pair is one of the words
pub record IsPlacedPair (t : Triangles) (pair : Pair) : Type 0 where
  pub within : pair_place t pair < t.count
  pub second : pair.second < 2 ^ 32
  pub before : pair.outer * t.pairs ≤ t.count

pub pair_placed : (t : Triangles) (pair : Pair) → AreTriangles t → IsAmong t pair → IsPair t.negated pair.first pair.second → IsPlacedPair t pair
pair_placed t pair a i p =
    let below : pairs t.negated pair.second + pair.first < pairs t.negated t.extent = pair_below t.negated pair.first pair.second t.extent p i.second in
    let row : pair_place t pair < t.others * t.pairs = row_lt pair.outer t.others t.pairs (pairs t.negated pair.second + pair.first) i.outer (omega (arith, below, a.pairs)) in
    record {
      within = omega (arith, row, a.count);
      second = omega (arith, i.second, a.extent);
      before = omega (arith, row, a.count);
    }

-- the element of some coordinates
pub among : (ns : List ℕ) (s : Symmetry) (xs : List ℕ) (t : Triangles) (pair : Pair) → AreRight ns s → IsInside ns xs → AreOf ns s t → IsPairOf ns s xs pair → IsAmong t pair
among ns s xs t pair r inside of is =
    let i = are_inside s ns xs r.ordered r.inside inside in
    record {
      outer = omega (arith, is.outer, of.others, place-lt (at_others s ns) (at_others s xs) (others_inside s ns xs i));
      first = omega (arith, is.first, of.extent, i.first);
      second = omega (arith, is.second, of.extent, i.second, r.same);
    }

same_cell : (n n' : Bool) (a a' b b' w w' v v' : ℕ) → n ≡ n' → a ≡ a' → b ≡ b' → w ≡ w' → v ≡ v' → cell_by n a b w v ≡ cell_by n' a' b' w' v'
same_cell n n' a a' b b' w w' v v' e f g h i =
    ap (λ x. cell_by x a b w v) e ∙ ap (λ x. cell_by n' x b w v) f ∙ ap (λ x. cell_by n' a' x w v) g ∙ ap (λ x. cell_by n' a' b' x v) h ∙ ap (λ x. cell_by n' a' b' w' x) i

same_place : (o o' q q' a a' b b' : ℕ) (n n' : Bool) → o ≡ o' → q ≡ q' → n ≡ n' → b ≡ b' → a ≡ a' → o * q + (pairs n b + a) ≡ o' * q' + (pairs n' b' + a')
same_place o o' q q' a a' b b' n n' e f g h i =
    ap (λ x. x * q + (pairs n b + a)) e ∙ ap (λ x. o' * x + (pairs n b + a)) f ∙ ap (λ x. o' * q' + (pairs x b + a)) g ∙ ap (λ x. o' * q' + (pairs n' x + a)) h ∙ ap (λ x. o' * q' + (pairs n' b' + x)) i

pub cell_is : (ns : List ℕ) (s : Symmetry) (bytes xs : List ℕ) (t : Triangles) (pair : Pair) → AreRight ns s → IsInside ns xs → AreTriangles t → AreOf ns s t → IsPairOf ns s xs pair
    → cell_of t bytes pair ≡ full_cell ns s bytes xs
cell_is ns s bytes xs t pair r inside a of is =
    let e = are_exchanged s ns xs r.ordered r.inside r.same inside in
    let q : t.pairs ≡ pairs s.negated (at_first s ns) = a.pairs ∙ ap (λ n. pairs n t.extent) of.negated ∙ ap (pairs s.negated) of.extent in
    let here : pair_place t pair ≡ stored_place ns s xs = same_place _ _ _ _ _ _ _ _ _ _ is.outer q of.negated is.second is.first in
    let there : pair_place t (mirror pair) ≡ stored_place ns s (exchanged s xs) =
    same_place _ _ _ _ _ _ _ _ _ _ (is.outer ∙ ap (place (at_others s ns)) (sym e.others)) q of.negated (is.first ∙ sym e.second) (is.second ∙ sym e.first) in
    same_cell _ _ _ _ _ _ _ _ _ _ of.negated is.first is.second (ap (stored_word bytes) here) (ap (stored_word bytes) there)
