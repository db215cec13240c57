-- The turns of an outer loop.
use Rattle.std.proofs.Common.{◌≡◌, ◌≢◌, ◌∙◌, sym, ap, ℕ, ◌+◌, ◌*◌, ◌<◌, eqb, if◌then◌else◌, List, [], ◌∷◌, ◌++◌, map, length, slice_index, arith, add-one}
use Rattle.std.proofs.lemmas.List.Sums.{fold-append}
use Rattle.tce_space.specs.Box.{places, IsInside}
use Rattle.tce_space.specs.Tiling.{ArePositive}
use Rattle.tce_block.specs.Places.{word_place, AreWithin, AreApart}
use Rattle.tce_block.specs.Turns.{IsMade, word_after}
use Rattle.tce_block.proofs.Folds.{Each, each_inside, each_before, turns_before, flat_more, fold_same, fold_under, fold_idle}

pub shift : (base step x : ℕ) (steps xs : List ℕ) → word_place (base + x * step) steps xs ≡ word_place base (step ∷ steps) (x ∷ xs)
shift base step x steps xs = omega arith

pub rest_within : (count now n base step x : ℕ) (ns steps : List ℕ) → AreWithin count (n ∷ ns) (word_place base (step ∷ steps)) → now ≡ count → x < n
    → AreWithin now ns (word_place (base + x * step) steps)
rest_within count now n base step x ns steps h same lt = λ xs inside. omega (arith, h (x ∷ xs) (lt, inside), shift base step x steps xs)

pub rest_apart : (n base step other other_step x : ℕ) (ns steps other_steps : List ℕ) → AreApart (n ∷ ns) (word_place base (step ∷ steps)) (word_place other (other_step ∷ other_steps)) → x < n
    → AreApart ns (word_place (base + x * step) steps) (word_place (other + x * other_step) other_steps)
rest_apart n base step other other_step x ns steps other_steps h lt = λ xs ys inside also same.
    h (x ∷ xs) (x ∷ ys) (lt, inside) (lt, also) (sym (shift base step x steps xs) ∙ same ∙ shift other other_step x other_steps ys)

-- a box with some turns has a place
first_place : (ns : List ℕ) → ArePositive ns → (xs : List ℕ) × IsInside ns xs
first_place [] h = ([], tt)
first_place (n ∷ ns) h = let rest = first_place ns h.1 in (0 ∷ rest.0, (h.0, rest.1))

pub base_within : (count n base step x : ℕ) (ns steps : List ℕ) → ArePositive ns → AreWithin count (n ∷ ns) (word_place base (step ∷ steps)) → x < n → base + x * step < count
base_within count n base step x ns steps some h lt =
    let first = first_place ns some in
    omega (arith, h (x ∷ first.0) (lt, first.1))

-- the operand's words are still as they were
pub kept : (word : ℕ → List ℕ → ℕ) (place other : List ℕ → ℕ) (n : ℕ) (ns : List ℕ) (x : ℕ) (old now xs : List ℕ) → IsMade word place (turns_before ns x) old now → x < n
    → AreApart (n ∷ ns) place other → AreWithin (length old) (n ∷ ns) other → IsInside ns xs → slice_index now (other (x ∷ xs)) ≡ slice_index old (other (x ∷ xs))
kept word place other n ns x old now xs made lt apart within inside =
    made.made (other (x ∷ xs)) (within (x ∷ xs) (lt, inside))
    ∙ fold_idle word place (other (x ∷ xs)) (slice_index old (other (x ∷ xs))) (turns_before ns x)
    (each_weaker (IsInside (n ∷ ns)) (λ ys. place ys ≢ other (x ∷ xs)) (turns_before ns x) (λ ys also. apart ys (x ∷ xs) also (lt, inside)) (each_before n ns x (omega arith)))
  where
    each_weaker : (P Q : List ℕ → Type 0) (turns : List (List ℕ)) → ((ys : List ℕ) → P ys → Q ys) → Each P turns → Each Q turns
    each_weaker P Q [] h k = tt
    each_weaker P Q (ys ∷ turns) h k = (h ys k.0, each_weaker P Q turns h k.1)

pub kept_at : (word : ℕ → List ℕ → ℕ) (place : List ℕ → ℕ) (other step : ℕ) (steps : List ℕ) (n : ℕ) (ns : List ℕ) (x : ℕ) (old now xs : List ℕ) → IsMade word place (turns_before ns x) old now → x < n
    → AreApart (n ∷ ns) place (word_place other (step ∷ steps)) → AreWithin (length old) (n ∷ ns) (word_place other (step ∷ steps)) → IsInside ns xs
    → slice_index now (word_place (other + x * step) steps xs) ≡ slice_index old (word_place other (step ∷ steps) (x ∷ xs))
kept_at word place other step steps n ns x old now xs made lt apart within inside =
    ap (slice_index now) (shift other step x steps xs) ∙ kept word place (word_place other (step ∷ steps)) n ns x old now xs made lt apart within inside

-- the turns of one number more
pub turns_more : (word inner : ℕ → List ℕ → ℕ) (place inside_place : List ℕ → ℕ) (ns : List ℕ) (x : ℕ) (old now next : List ℕ)
    → IsMade word place (turns_before ns x) old now → IsMade inner inside_place (places ns) now next
    → ((xs : List ℕ) → inside_place xs ≡ place (x ∷ xs)) → ((w : ℕ) (xs : List ℕ) → IsInside ns xs → inner w xs ≡ word w (x ∷ xs))
    → IsMade word place (turns_before ns (x + 1)) old next
turns_more word inner place inside_place ns x old now next made more same_place same_word = record {
  same_length = more.same_length ∙ made.same_length;
  made = λ k lt.
      let step = λ (w : ℕ) (xs : List ℕ). if eqb (place xs) k then word w xs else w in
      let here : 0 + x ≡ x = omega arith in
      let is : turns_before ns x ++ map (λ xs. x ∷ xs) (places ns) ≡ turns_before ns (x + 1) =
      ap (λ y. turns_before ns x ++ map (λ xs. y ∷ xs) (places ns)) (sym here) ∙ sym (flat_more (λ y. map (λ xs. y ∷ xs) (places ns)) 0 x) ∙ ap (turns_before ns) (sym (add-one x)) in
      more.made k (omega (arith, made.same_length))
      ∙ ap (λ w. word_after inner inside_place k w (places ns)) (made.made k lt)
      ∙ fold_same (IsInside ns) (λ w xs. if eqb (inside_place xs) k then inner w xs else w) (λ w xs. step w (x ∷ xs)) (word_after word place k (slice_index old k) (turns_before ns x)) (places ns) (each_inside ns)
      (λ w xs inside. ap (λ j. if eqb j k then inner w xs else w) (same_place xs) ∙ ap (λ v. if eqb (place (x ∷ xs)) k then v else w) (same_word w xs inside))
      ∙ sym (fold_under step x (word_after word place k (slice_index old k) (turns_before ns x)) (places ns))
      ∙ sym (fold-append step (slice_index old k) (turns_before ns x) (map (λ xs. x ∷ xs) (places ns)))
      ∙ ap (word_after word place k (slice_index old k)) is;
}
