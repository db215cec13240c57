-- A loop turn by turn.
use Rattle.std.proofs.Common.{◌≡◌, ℕ, ◌+◌, ◌*◌, ◌^◌, ◌<◌, ◌≤◌, true, Option, Some, None, List, [], ◌∷◌, ◌++◌, length, set, refl, sym, ap, ◌∙◌, inl, inr, subst, arith, get_or-set_same, get_or-set_other, set-set, add-one, length-append}
use mathlib.Core.Path.{fun_ext}
use Rattle.std.proofs.Math.Nat.{mul-le-mul_left}
use Rattle.std.proofs.lemmas.Bool.{cases_eq, cases_Bool, ne_eqb, eq-eqb, false≢true}
use Rattle.std.specs.Option.{option_map}
use Rattle.tce_space.specs.Space.{IndexSpace, extent_at}
use Rattle.tce_space.proofs.IndexSetLaws.{has_below}
use Rattle.tce_space.proofs.Spaces.{index_limits}
use Rattle.tce_tree.specs.ContractionTree.{ContractionTree, node_loops}
use Rattle.tce_tree.specs.Measure.{IsMeasured}
use Rattle.tce_tree.specs.Value.{Assignment, with_number}
use Rattle.tce_tree.specs.WellFormed.{among}
use Rattle.tce_tree.proofs.Members.{node_loops_lt}
use Rattle.tce_tree.proofs.NamedIndexes.{node_loops_declared}
use Rattle.tce_code.specs.Execution.{Setting, State, exec, repeated}
use Rattle.tce_code.specs.Program.{Program, stop, loop}
use Rattle.tce_walk.specs.Tails.{reads_constant}
use Rattle.tce_walk.specs.Touches.{touch_bound, tail_touches}
use Rattle.tce_walk.specs.Machine.{after, assignment_of}
use Rattle.tce_walk.specs.Run.{AreKept, IsPart, IsRun}
use Rattle.tce_walk.specs.Search.{HasNoTail}

-- what so many turns of a loop leave
pub record AreTurns (space : IndexSpace) (tree : ContractionTree) (s : Setting) (i : ℕ) (body : Program) (a : Assignment) (n : ℕ) (before now : Option State) (t u : ℕ) : Type 0 where
  pub state : now ≡ option_map (repeated n (λ x inside. exec s body inside (with_number a i x))) before
  pub touches : u ≤ t + n * touch_bound space tree body

pub turns-none : (space : IndexSpace) (tree : ContractionTree) (s : Setting) (i : ℕ) (body : Program) (a : Assignment) (before : Option State) (t : ℕ)
    → AreTurns space tree s i body a 0 before before t t
turns-none space tree s i body a None t = record { state = refl; touches = omega arith }
turns-none space tree s i body a (Some state) t = record { state = refl; touches = omega arith }

after-turn : (s : Setting) (i : ℕ) (body : Program) (a : Assignment) (n : ℕ) (before : Option State)
    → after s body (with_number a i n) (option_map (repeated n (λ x inside. exec s body inside (with_number a i x))) before)
    ≡ option_map (repeated (n + 1) (λ x inside. exec s body inside (with_number a i x))) before
after-turn s i body a n None = refl
after-turn s i body a n (Some state) = ap (λ k. Some (repeated k (λ x inside. exec s body inside (with_number a i x)) state)) (sym (add-one n))

pub turns-next : (space : IndexSpace) (tree : ContractionTree) (s other : Setting) (i : ℕ) (body : Program) (a b : Assignment) (n : ℕ) (before mid now : Option State) (t m u : ℕ)
    → other ≡ s → b ≡ with_number a i n → AreTurns space tree s i body a n before mid t m → IsRun space tree other body b mid now m u
    → AreTurns space tree s i body a (n + 1) before now t u
turns-next space tree s other i body a b n before mid now t m u same at h run = record {
  state = run.state ∙ ap (λ o. after o body b mid) same ∙ ap (λ c. after s body c mid) at ∙ ap (after s body (with_number a i n)) h.state ∙ after-turn s i body a n before;
  touches = omega (arith, h.touches, run.touches);
}

-- a loop that begins no tail has the touches of its turns
pub turn-bound : (space : IndexSpace) (tree : ContractionTree) (i : ℕ) (body : Program) → HasNoTail tree i body
    → touch_bound space tree (loop i body stop) ≡ extent_at space i * touch_bound space tree body
turn-bound space tree i body (inl t) = rw t (omega arith)
turn-bound space tree i body (inr e) =
    elim (cases_Bool (reads_constant tree body)) [
      | inl t ↦ rw t (omega arith)
      | inr f ↦ rw f (omega (arith, ap (λ found. tail_touches space found (extent_at space i * touch_bound space tree body)) e))
    ]

pub turns-all : (space : IndexSpace) (tree : ContractionTree) (s : Setting) (i : ℕ) (body : Program) (a : Assignment) (before now : Option State) (t u : ℕ)
    → s.elements.extent ≡ extent_at space → HasNoTail tree i body → AreTurns space tree s i body a (extent_at space i) before now t u
    → IsRun space tree s (loop i body stop) a before now t u
turns-all space tree s i body a before now t u e no_tail h = record {
  state = h.state ∙ ap (λ n. option_map (repeated n (λ x inside. exec s body inside (with_number a i x))) before) (sym (ap (λ f. f i) e)) ∙ whole before;
  touches = omega (arith, h.touches, turn-bound space tree i body no_tail);
}
  where
    whole : (state : Option State) → option_map (repeated (s.elements.extent i) (λ x inside. exec s body inside (with_number a i x))) state ≡ after s (loop i body stop) a state
    whole None = refl
    whole (Some state) = refl

pub scaled : (m n b : ℕ) → m ≤ n → m * b ≤ n * b
scaled m n b l = let k = mul-le-mul_left b l in omega arith

pub turn-few : (space : IndexSpace) (tree : ContractionTree) (s : Setting) (i : ℕ) (body : Program) (a : Assignment) (n : ℕ) (before mid : Option State) (t m : ℕ)
    → HasNoTail tree i body → n < extent_at space i → AreTurns space tree s i body a n before mid t m
    → t + touch_bound space tree (loop i body stop) ≤ 2 ^ 100 → m + touch_bound space tree body ≤ 2 ^ 100
turn-few space tree s i body a n before mid t m no_tail l h few =
    let more = scaled (n + 1) (extent_at space i) (touch_bound space tree body) (omega arith) in
    omega (arith, h.touches, turn-bound space tree i body no_tail, more)

-- the loop's index
pub record IsIndex (space : IndexSpace) (i : ℕ) : Type 0 where
  pub small : i < 24
  pub declared : i < length space.indexes
  pub some : 0 < extent_at space i

pub loop-index : {space : IndexSpace} {tree : ContractionTree} {i : ℕ} {body : Program} {a : Assignment} → AreKept space tree → IsMeasured space tree
    → IsPart space tree (loop i body stop) a → IsIndex space i
unfolding node_loops
loop-index {space} {tree} {i} limits m h =
    let is_loop = h.shape.0 in
    let declared = node_loops_declared space tree is_loop.0 is_loop.1 limits.is_space.index_limit m.declared i is_loop.2 in
    record {
      small = has_below (node_loops tree is_loop.0) i (node_loops_lt tree is_loop.0) is_loop.2;
      declared = declared;
      some = (index_limits space i limits.is_space declared).some;
    }

-- setting a number
pub assignment-set : (numbers : List ℕ) (i x : ℕ) → i < length numbers → assignment_of (set numbers i x) ≡ with_number (assignment_of numbers) i x
assignment-set numbers i x l = fun_ext (λ j.
    elim (cases_eq j i) [
      | inl q ↦ rw (q, eq-eqb i i refl) (get_or-set_same numbers i x 0 l)
      | inr q ↦ rw (ne_eqb j i q) (get_or-set_other numbers i j x 0 q)
    ])

among-last : (opened : List ℕ) (i j : ℕ) → (j ≡ i → ⊥) → among (opened ++ i ∷ []) j ≡ true → among opened j ≡ true
among-last [] i j ne h = absurd (false≢true ((rw (ne_eqb i j (λ q. ne (sym q))) at h)))
among-last (k ∷ opened) i j ne h =
    elim (cases_eq k j) [
      | inl q ↦ rw (eq-eqb k j q) refl
      | inr q ↦ rw (ne_eqb k j q) (among-last opened i j ne (rw (ne_eqb k j q) at h))
    ]

pub turn-part : (space : IndexSpace) (tree : ContractionTree) (i : ℕ) (body : Program) (a b : Assignment) (x : ℕ) → b ≡ with_number a i x → x < extent_at space i
    → IsPart space tree (loop i body stop) a → IsPart space tree body b
turn-part space tree i body a b x e l h = subst (IsPart space tree body) (sym e) (record {
  plan = h.plan;
  fit = h.fit;
  opened = h.opened ++ i ∷ [];
  shape = h.shape.1;
  few = omega (arith, h.few, length-append h.opened (i ∷ []));
  inside = λ j m.
      elim (cases_eq j i) [
        | inl q ↦ let same : with_number a i x j ≡ x = rw (eq-eqb j i q) refl in omega (arith, l, ap (extent_at space) q)
        | inr q ↦ let same : with_number a i x j ≡ a j = rw (ne_eqb j i q) refl in omega (arith, h.inside j (among-last h.opened i j q m))
      ];
})

pub set-again : (numbers mid : List ℕ) (i x y : ℕ) → i < length numbers → mid ≡ set numbers i y → assignment_of (set mid i x) ≡ with_number (assignment_of numbers) i x
set-again numbers mid i x y l e = ap (λ ns. assignment_of (set ns i x)) e ∙ ap assignment_of (set-set numbers i y x) ∙ assignment-set numbers i x l
