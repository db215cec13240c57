-- The turns of a block that crosses no edge.
use Rattle.std.proofs.Common.{◌≡◌, ℕ, ◌+◌, ◌-◌, ◌*◌, ◌/◌, ◌%◌, ◌<◌, ◌≤◌, List, [], ◌∷◌, map, length, refl, sym, ap, ap₂, ◌∙◌, subst, inl, inr, arith}
use Rattle.std.proofs.lemmas.Bool.{cases_Bool}
use Rattle.std.proofs.lemmas.Nat.{mod_below, div-add-mod', div-mul-add, mod-mul-add}
use Rattle.tce_space.specs.Box.{product, place}
use Rattle.tce_space.specs.Tiling.{ArePositive, divided, remainders, tile_counts, place_in_tile}
use Rattle.tce_tree.specs.Value.{Assignment}
use Rattle.tce_tree.specs.WellFormed.{among}
use Rattle.tce_layout.specs.Places.{steps_to}
use Rattle.tce_exec.specs.Slots.{slot_word}
use Rattle.tce_exec.proofs.States.{length-mapped}
use Rattle.tce_layout.specs.declared.slot.Slot.{Slot}
use Rattle.tce_exec.specs.Turns.{Turns, IsTurn}
use Rattle.tce_exec.specs.LoopWindows.{stands_at}
use Rattle.tce_exec.specs.declared.window.Window.{Window}
use Rattle.tce_exec.specs.OperandWindows.{IsSlotWindow}
use Rattle.tce_exec.specs.TilesOfBlocks.{StayBetweenEdges, TurnsStayInOneTile}
use Rattle.tce_exec.proofs.WindowSteps.{steps_further, tile_steps_place, steps_of_tile}

-- no number of a turn is below that of the first one
pub first_low : (t : Turns) (b : Assignment) → IsTurn t b → (i : ℕ) → t.first i ≤ b i
first_low t b turn i =
    elim (cases_Bool (among t.order i)) [
      | inl m ↦ (turn.loops i m).0
      | inr o ↦ omega (arith, turn.others i o)
    ]

-- the word of a turn in a slot
pub slot_stands : (slot : Slot) (t : Turns) (w : Window) (b : Assignment) → IsSlotWindow slot t.first w → IsTurn t b → stands_at w t.first b ≡ slot_word slot b
slot_stands slot t w b is turn =
    let far : ℕ → ℕ = λ i. b i - t.first i in
    let further : steps_to slot.steps t.first + steps_to slot.steps far ≡ steps_to slot.steps b = steps_further slot.steps t.first b (first_low t b turn) in
    let steps : steps_to w.steps far ≡ steps_to slot.steps far = ap (λ s. steps_to s far) is.steps_are in
    omega (arith, is.first_is, further, steps)

-- a number no further from another than the next multiple of the edge
near : (x y e : ℕ) → x ≤ y → x % e + (y - x) < e → (y % e ≡ x % e + (y - x)) × (y / e ≡ x / e)
near x y e low h =
    let whole : x / e * e + x % e ≡ x = div-add-mod' x e in
    let is : x / e * e + (x % e + (y - x)) ≡ y = omega (arith, whole) in
    (sym (ap (λ z. z % e) is) ∙ mod-mul-add (x / e) e (x % e + (y - x)) h, sym (ap (λ z. z / e) is) ∙ div-mul-add (x / e) e (x % e + (y - x)) h)

-- of a loop or of another index
near_turn : (t : Turns) (edge : ℕ → ℕ) (b : Assignment) (i : ℕ) → 0 < edge i → StayBetweenEdges t edge → IsTurn t b → t.first i % edge i + (b i - t.first i) < edge i
near_turn t edge b i some stay turn =
    elim (cases_Bool (among t.order i)) [
      | inl m ↦ (let range = turn.loops i m in let upper : b i < t.first i + t.count i = range.1 in let lower : t.first i ≤ b i = range.0 in omega (arith, stay i m))
      | inr o ↦ omega (arith, turn.others i o, mod_below (t.first i) (edge i) some)
    ]

same_tile : (t : Turns) (edge : ℕ → ℕ) (b : Assignment) (xs : List ℕ) → ArePositive (map edge xs) → StayBetweenEdges t edge → IsTurn t b
    → divided (map edge xs) (map b xs) ≡ divided (map edge xs) (map t.first xs)
same_tile t edge b [] p stay turn = refl
same_tile t edge b (x ∷ xs) p stay turn =
    ap₂ (λ y ys. y ∷ ys) (near (t.first x) (b x) (edge x) (first_low t b turn x) (near_turn t edge b x p.0 stay turn)).1 (same_tile t edge b xs p.1 stay turn)

place_further : (t : Turns) (edge : ℕ → ℕ) (b : Assignment) (xs : List ℕ) → ArePositive (map edge xs) → StayBetweenEdges t edge → IsTurn t b
    → place (map edge xs) (remainders (map edge xs) (map b xs))
    ≡ place (map edge xs) (remainders (map edge xs) (map t.first xs)) + place (map edge xs) (map (λ i. b i - t.first i) xs)
place_further t edge b [] p stay turn = refl
place_further t edge b (x ∷ xs) p stay turn =
    let here : b x % edge x ≡ t.first x % edge x + (b x - t.first x) = (near (t.first x) (b x) (edge x) (first_low t b turn x) (near_turn t edge b x p.0 stay turn)).0 in
    joined (b x % edge x) (t.first x % edge x) (b x - t.first x) (product (map edge xs)) _ _ _ here (place_further t edge b xs p.1 stay turn)
  where
    joined : (y f d n q r s : ℕ) → y ≡ f + d → q ≡ r + s → y * n + q ≡ f * n + r + (d * n + s)
    joined y f d n q r s e g = ap₂ (λ u v. u * n + v) e g ∙ omega arith

pub turns_stay_in_one_tile : TurnsStayInOneTile
turns_stay_in_one_tile t edge shape indexes at w has stay is b turn = record {
  tile = ap (place (tile_counts shape)) same;
  stands = omega (arith, is.first_is, steps, leads, further);
}
  where
    far : ℕ → ℕ
    far = λ i. b i - t.first i

    positive : ArePositive (map edge indexes)
    positive = subst ArePositive has.edges has.positive

    same : divided shape.edges (map b indexes) ≡ divided shape.edges (map t.first indexes)
    same = subst (λ es. divided es (map b indexes) ≡ divided es (map t.first indexes)) (sym has.edges) (same_tile t edge b indexes positive stay turn)

    further : place_in_tile shape (map b indexes) ≡ place_in_tile shape (map t.first indexes) + place shape.edges (map far indexes)
    further =
        subst (λ es. place es (remainders es (map b indexes)) ≡ place es (remainders es (map t.first indexes)) + place es (map far indexes)) (sym has.edges)
        (place_further t edge b indexes positive stay turn)

    leads : place shape.edges (map far indexes) ≡ steps_to w.steps far
    leads =
        tile_steps_place shape.edges indexes far (ap length has.edges ∙ length-mapped edge indexes) has.known
        ∙ sym (steps_of_tile shape.edges indexes w.steps far is.steps_are)

    steps : stands_at w t.first b ≡ w.first + steps_to w.steps far
    steps = refl
