-- A part of a band's loops, turn by turn.
use Rattle.std.proofs.Common.{◌≡◌, ℕ, ◌+◌, ◌*◌, ◌^◌, ◌<◌, ◌≤◌, Option, Some, None, List, ◌∷◌, length, get_or, set, drop, refl, sym, ap, ◌∙◌, subst, arith, set-set, add-one}
use mathlib.Core.Path.{fun_ext}
use Rattle.std.proofs.Math.Nat.{mul_assoc}
use Rattle.std.proofs.lemmas.List.{drop_more, drop_all, set-get_or}
use Rattle.std.specs.Option.{option_map}
use Rattle.tce_space.specs.Box.{product}
use Rattle.tce_space.specs.Space.{IndexSpace}
use Rattle.tce_tree.specs.ContractionTree.{ContractionTree}
use Rattle.tce_tree.specs.Value.{Assignment, with_number}
use Rattle.tce_block.specs.Parts.{Part}
use Rattle.tce_code.specs.Execution.{Setting, State, repeated}
use Rattle.tce_code.specs.Program.{Program, stop, loop}
use Rattle.tce_walk.proofs.Turns.{assignment-set, scaled}
use Rattle.tce_walk.specs.BandRuns.{FitsLoops, IsPartRun, part_from, touches_in}
use Rattle.tce_walk.specs.Machine.{assignment_of}
use Rattle.tce_walk.specs.PartRuns.{exec_along, exec_part}
use Rattle.tce_walk.specs.Run.{IsPart, IsRun}
use Rattle.tce_walk.specs.Tails.{loops_round}
use Rattle.tce_walk.specs.Touches.{touch_bound}

-- what so many turns of the d-th loop leave
pub record ArePartTurns (space : IndexSpace) (tree : ContractionTree) (s : Setting) (body : Program) (loops : List ℕ) (part : Part) (d : ℕ) (a : Assignment) (n : ℕ)
    (before now : Option State) (t u : ℕ) : Type 0 where
  pub state : now ≡ option_map (repeated n (λ y inside. exec_part s body (drop (d + 1) loops) (part_from part (d + 1)) inside (with_number a (get_or loops d 0) (get_or part.from d 0 + y)))) before
  pub touches : u ≤ t + n * touches_in space tree body (drop (d + 1) part.len)

pub part_turns-none : (space : IndexSpace) (tree : ContractionTree) (s : Setting) (body : Program) (loops : List ℕ) (part : Part) (d : ℕ) (a : Assignment) (before : Option State) (t : ℕ)
    → ArePartTurns space tree s body loops part d a 0 before before t t
part_turns-none space tree s body loops part d a None t = record { state = refl; touches = omega arith }
part_turns-none space tree s body loops part d a (Some state) t = record { state = refl; touches = omega arith }

next-state : (turn : ℕ → State → State) (n : ℕ) (before : Option State) → option_map (turn n) (option_map (repeated n turn) before) ≡ option_map (repeated (n + 1) turn) before
next-state turn n None = refl
next-state turn n (Some state) = ap (λ k. Some (repeated k turn state)) (sym (add-one n))

pub part_turns-next : (space : IndexSpace) (tree : ContractionTree) (s other : Setting) (body : Program) (loops : List ℕ) (part : Part) (d : ℕ) (a b : Assignment) (n : ℕ)
    (before mid now : Option State) (t m u : ℕ) → other ≡ s → b ≡ with_number a (get_or loops d 0) (get_or part.from d 0 + n)
    → ArePartTurns space tree s body loops part d a n before mid t m
    → IsPartRun space tree other body (drop (d + 1) loops) (part_from part (d + 1)) b mid now m u → ArePartTurns space tree s body loops part d a (n + 1) before now t u
part_turns-next space tree s other body loops part d a b n before mid now t m u same at h run =
    let turn : ℕ → State → State = λ y inside. exec_part s body (drop (d + 1) loops) (part_from part (d + 1)) inside (with_number a (get_or loops d 0) (get_or part.from d 0 + y)) in
    record {
      state = run.state ∙ ap (λ o. option_map (λ state. exec_part o body (drop (d + 1) loops) (part_from part (d + 1)) state b) mid) same
          ∙ ap (λ c. option_map (λ state. exec_part s body (drop (d + 1) loops) (part_from part (d + 1)) state c) mid) at
          ∙ ap (option_map (turn n)) h.state ∙ next-state turn n before;
      touches = omega (arith, h.touches, run.touches);
    }

along-more : (s : Setting) (body : Program) (loops from len ls fs ns : List ℕ) (i f n : ℕ) (state : State) (a : Assignment) → loops ≡ i ∷ ls → from ≡ f ∷ fs → len ≡ n ∷ ns
    → exec_along s body loops from len state a ≡ repeated n (λ y inside. exec_along s body ls fs ns inside (with_number a i (f + y))) state
along-more s body loops from len ls fs ns i f n state a e g h =
    ap (λ o. exec_along s body o from len state a) e ∙ ap (λ o. exec_along s body (i ∷ ls) o len state a) g ∙ ap (λ o. exec_along s body (i ∷ ls) (f ∷ fs) o state a) h

touches-more : (space : IndexSpace) (tree : ContractionTree) (body : Program) (len : List ℕ) (d : ℕ) → d < length len
    → touches_in space tree body (drop d len) ≡ get_or len d 0 * touches_in space tree body (drop (d + 1) len)
touches-more space tree body len d l =
    ap (λ k. k * touch_bound space tree body) (ap product (drop_more len d 0 l)) ∙ mul_assoc (get_or len d 0) (product (drop (d + 1) len)) (touch_bound space tree body)

pub part_turns-all : (space : IndexSpace) (tree : ContractionTree) (s : Setting) (body : Program) (loops : List ℕ) (part : Part) (d : ℕ) (a : Assignment)
    (before now : Option State) (t u : ℕ) → d < length loops → FitsLoops space loops part
    → ArePartTurns space tree s body loops part d a (get_or part.len d 0) before now t u → IsPartRun space tree s body (drop d loops) (part_from part d) a before now t u
part_turns-all space tree s body loops part d a before now t u l fits h = record {
  state = h.state ∙ ap (λ f. option_map f before) (fun_ext (λ state.
      sym (along-more s body (drop d loops) (drop d part.from) (drop d part.len) (drop (d + 1) loops) (drop (d + 1) part.from) (drop (d + 1) part.len)
      (get_or loops d 0) (get_or part.from d 0) (get_or part.len d 0) state a (drop_more loops d 0 l) (drop_more part.from d 0 (omega (arith, l, fits.from)))
      (drop_more part.len d 0 (omega (arith, l, fits.len))))));
  touches = omega (arith, h.touches, touches-more space tree body part.len d (omega (arith, l, fits.len)));
}

pub part_turn-few : (space : IndexSpace) (tree : ContractionTree) (s : Setting) (body : Program) (loops : List ℕ) (part : Part) (d : ℕ) (a : Assignment) (n : ℕ)
    (before mid : Option State) (t m : ℕ) → d < length loops → FitsLoops space loops part → n < get_or part.len d 0
    → ArePartTurns space tree s body loops part d a n before mid t m → t + touches_in space tree body (drop d part.len) ≤ 2 ^ 100
    → m + touches_in space tree body (drop (d + 1) part.len) ≤ 2 ^ 100
part_turn-few space tree s body loops part d a n before mid t m l fits k h few =
    let more = scaled (n + 1) (get_or part.len d 0) (touches_in space tree body (drop (d + 1) part.len)) (omega (arith, k)) in
    omega (arith, h.touches, few, more, touches-more space tree body part.len d (omega (arith, l, fits.len)))

-- the body, where no loop is left
pub body-part : (space : IndexSpace) (tree : ContractionTree) (body : Program) (loops : List ℕ) (d : ℕ) (a : Assignment) → length loops ≤ d
    → IsPart space tree (loops_round (drop d loops) body) a → IsPart space tree body a
body-part space tree body loops d a l h = subst (λ o. IsPart space tree (loops_round o body) a) (drop_all d loops l) h

pub body-few : (space : IndexSpace) (tree : ContractionTree) (body : Program) (loops : List ℕ) (part : Part) (d t : ℕ) → length loops ≤ d → FitsLoops space loops part
    → t + touches_in space tree body (drop d part.len) ≤ 2 ^ 100 → t + touch_bound space tree body ≤ 2 ^ 100
body-few space tree body loops part d t l fits few =
    let one : product (drop d part.len) ≡ 1 = ap product (drop_all d part.len (omega (arith, l, fits.len))) in
    omega (arith, few, ap (λ k. k * touch_bound space tree body) one)

pub body-run : (space : IndexSpace) (tree : ContractionTree) (s : Setting) (body : Program) (loops : List ℕ) (part : Part) (d : ℕ) (a : Assignment) (before now : Option State) (t u : ℕ)
    → length loops ≤ d → FitsLoops space loops part → IsRun space tree s body a before now t u → IsPartRun space tree s body (drop d loops) (part_from part d) a before now t u
body-run space tree s body loops part d a before now t u l fits h =
    let one : product (drop d part.len) ≡ 1 = ap product (drop_all d part.len (omega (arith, l, fits.len))) in
    record {
      state = h.state ∙ ap (λ o. option_map (λ state. exec_along s body o (drop d part.from) (drop d part.len) state a) before) (sym (drop_all d loops l));
      touches = omega (arith, h.touches, ap (λ k. k * touch_bound space tree body) one);
    }

-- the loop that goes on
pub loop-part : (space : IndexSpace) (tree : ContractionTree) (body : Program) (loops : List ℕ) (d : ℕ) (a : Assignment) → d < length loops
    → IsPart space tree (loops_round (drop d loops) body) a → IsPart space tree (loop (get_or loops d 0) (loops_round (drop (d + 1) loops) body) stop) a
loop-part space tree body loops d a l h = subst (λ o. IsPart space tree (loops_round o body) a) (drop_more loops d 0 l) h

pub set_over : (numbers mid : List ℕ) (i x : ℕ) → set mid i 0 ≡ set numbers i 0 → set mid i x ≡ set numbers i x
set_over numbers mid i x e = sym (set-set mid i 0 x) ∙ ap (λ ns. set ns i x) e ∙ set-set numbers i 0 x

pub set_restored : (numbers mid : List ℕ) (i : ℕ) → set mid i 0 ≡ set numbers i 0 → set mid i (get_or numbers i 0) ≡ numbers
set_restored numbers mid i e = set_over numbers mid i (get_or numbers i 0) e ∙ set-get_or numbers i 0

pub turn-numbers : (numbers mid : List ℕ) (i x : ℕ) → i < length numbers → set mid i 0 ≡ set numbers i 0 → assignment_of (set mid i x) ≡ with_number (assignment_of numbers) i x
turn-numbers numbers mid i x l e = ap assignment_of (set_over numbers mid i x e) ∙ assignment-set numbers i x l
