-- Loops in which the place of the result stays: only their last turn counts.
use Rattle.std.proofs.Common.{◌≡◌, ◌∙◌, refl, sym, ap, ap₂, ℕ, zero, suc, ◌+◌, ◌-◌, ◌*◌, ◌<◌, eqb, if◌then◌else◌, List, [], ◌∷◌, ◌++◌, map, length, slice_index, inl, inr, arith, subst, zero-add, add-zero, add_assoc}
use Rattle.std.specs.List.{flat_map, range_with_len, fold}
use Rattle.std.proofs.lemmas.Bool.{cases_Bool}
use Rattle.std.proofs.lemmas.List.Sums.{fold-append}
use Rattle.tce_space.specs.Box.{places, IsInside}
use Rattle.tce_space.specs.Tiling.{ArePositive}
use Rattle.tce_space.proofs.Boxes.{length_inside, inside_joined}
use Rattle.tce_block.specs.Places.{offset, word_place, AreWithin, AreApart}
use Rattle.tce_block.specs.Turns.{IsMade, operate, computed}
use Rattle.tce_space.specs.declared.arithmetic.Arithmetic.{Arithmetic}
use Rattle.tce_block.proofs.Folds.{each_inside, fold_same, fold_under, range_last}

-- a fold over lists one after the other
fold_flat : (step : ℕ → List ℕ → ℕ) (g : ℕ → List (List ℕ)) (w a n : ℕ) → fold step w (flat_map g (range_with_len a n)) ≡ fold (λ v x. fold step v (g x)) w (range_with_len a n)
fold_flat step g w a zero = refl
fold_flat step g w a (suc n) =
    fold-append step w (g a) (flat_map g (range_with_len (a + 1) n)) ∙ fold_flat step g (fold step w (g a)) (a + 1) n

-- two folds over numbers whose steps are the same
range_same : (f g : ℕ → ℕ → ℕ) (w a n : ℕ) → ((v x : ℕ) → f v x ≡ g v x) → fold f w (range_with_len a n) ≡ fold g w (range_with_len a n)
range_same f g w a zero same = refl
range_same f g w a (suc n) same = ap (λ v. fold f v (range_with_len (a + 1) n)) (same w a) ∙ range_same f g (g w a) (a + 1) n same

-- the turns of some loops round those of others
fold_within : (step : ℕ → List ℕ → ℕ) (ns ms : List ℕ) (w : ℕ) → fold step w (places (ns ++ ms)) ≡ fold (λ v xs. fold (λ u ys. step u (xs ++ ys)) v (places ms)) w (places ns)
fold_within step [] ms w = refl
fold_within step (n ∷ ns) ms w =
    let inner : ℕ → List ℕ → ℕ = λ v xs. fold (λ u ys. step u (xs ++ ys)) v (places ms) in
    fold_flat step (λ x. map (λ xs. x ∷ xs) (places (ns ++ ms))) w 0 n
    ∙ range_same (λ v x. fold step v (map (λ xs. x ∷ xs) (places (ns ++ ms)))) (λ v x. fold inner v (map (λ xs. x ∷ xs) (places ns))) w 0 n (λ v x.
    fold_under step x v (places (ns ++ ms))
    ∙ fold_within (λ u xs. step u (x ∷ xs)) ns ms v
    ∙ sym (fold_under inner x v (places ns)))
    ∙ sym (fold_flat inner (λ x. map (λ xs. x ∷ xs) (places ns)) w 0 n)

-- the last coordinates
abbrev pub lasts : List ℕ → List ℕ
lasts ms = map (λ m. m - 1) ms

fold_last : (g : List ℕ → ℕ) (ms : List ℕ) (w : ℕ) → ArePositive ms → fold (λ u ys. g ys) w (places ms) ≡ g (lasts ms)
fold_last g [] w some = refl
fold_last g (m ∷ ms) w some =
    fold_flat (λ u ys. g ys) (λ x. map (λ ys. x ∷ ys) (places ms)) w 0 m
    ∙ range_same (λ v x. fold (λ u ys. g ys) v (map (λ ys. x ∷ ys) (places ms))) (λ v x. g (x ∷ lasts ms)) w 0 m (λ v x.
    fold_under (λ u ys. g ys) x v (places ms) ∙ fold_last (λ ys. g (x ∷ ys)) ms v some.1)
    ∙ range_last (λ x. g (x ∷ lasts ms)) w 0 m some.0
    ∙ ap (λ x. g (x ∷ lasts ms)) (zero-add (m - 1))

fold_kept : (w : ℕ) (turns : List (List ℕ)) → fold (λ u ys. u) w turns ≡ w
fold_kept w [] = refl
fold_kept w (ys ∷ turns) = fold_kept w turns

-- turns in which the place stays leave the last one's word
one_place : (g : List ℕ → ℕ) (k p : ℕ) (ms : List ℕ) (w : ℕ) → ArePositive ms → fold (λ u ys. if eqb p k then g ys else u) w (places ms) ≡ (if eqb p k then g (lasts ms) else w)
one_place g k p ms w some =
    elim (cases_Bool (eqb p k)) [
      | inl e ↦ rw e (fold_last g ms w some)
      | inr e ↦ rw e (fold_kept w (places ms))
    ]

-- results that are put, where the place stays in the inner loops, are those of the outer loops with the inner ones at their last turns
pub last_turns_are_enough : (word : List ℕ → ℕ) (place : List ℕ → ℕ) (outer_word : List ℕ → ℕ) (outer_place : List ℕ → ℕ) (ns ms : List ℕ) (old new : List ℕ) → ArePositive ms
    → ((xs ys : List ℕ) → IsInside ns xs → IsInside ms ys → place (xs ++ ys) ≡ outer_place xs) → ((xs : List ℕ) → IsInside ns xs → word (xs ++ lasts ms) ≡ outer_word xs)
    → IsMade (λ w xs. outer_word xs) outer_place (places ns) old new → IsMade (λ w xs. word xs) place (places (ns ++ ms)) old new
last_turns_are_enough word place outer_word outer_place ns ms old new some stays same made = record {
  same_length = made.same_length;
  made = λ k low.
      made.made k low
      ∙ sym (fold_within (λ w xs. if eqb (place xs) k then word xs else w) ns ms (slice_index old k)
      ∙ fold_same (IsInside ns) (λ v xs. fold (λ u ys. if eqb (place (xs ++ ys)) k then word (xs ++ ys) else u) v (places ms)) (λ v xs. if eqb (outer_place xs) k then outer_word xs else v)
      (slice_index old k) (places ns) (each_inside ns)
      (λ v xs inside.
      fold_same (IsInside ms) (λ u ys. if eqb (place (xs ++ ys)) k then word (xs ++ ys) else u) (λ u ys. if eqb (outer_place xs) k then word (xs ++ ys) else u) v (places ms) (each_inside ms)
      (λ u ys here. ap (λ p. if eqb p k then word (xs ++ ys) else u) (stays xs ys inside here))
      ∙ one_place (λ ys. word (xs ++ ys)) k (outer_place xs) ms v some
      ∙ ap (λ z. if eqb (outer_place xs) k then z else v) (same xs inside)));
}

-- ---- places in both

pub offset-append : (ss ts xs ys : List ℕ) → length xs ≡ length ss → offset (ss ++ ts) (xs ++ ys) ≡ offset ss xs + offset ts ys
offset-append [] ts [] ys l = sym (zero-add (offset ts ys))
offset-append [] ts (x ∷ xs) ys l = absurd (omega arith)
offset-append (s ∷ ss) ts [] ys l = absurd (omega arith)
offset-append (s ∷ ss) ts (x ∷ xs) ys l =
    ap (λ n. x * s + n) (offset-append ss ts xs ys (omega arith)) ∙ sym (add_assoc (x * s) (offset ss xs) (offset ts ys))

lasts_inside : (ms : List ℕ) → ArePositive ms → IsInside ms (lasts ms)
lasts_inside [] some = tt
lasts_inside (m ∷ ms) some = (let low : 0 < m = some.0 in omega arith, lasts_inside ms some.1)

-- the place of the outer loops, where the inner ones have their last numbers
place_split : (f : ℕ) (ns ss ts xs ys : List ℕ) → length ss ≡ length ns → IsInside ns xs → word_place f (ss ++ ts) (xs ++ ys) ≡ word_place (f + offset ts ys) ss xs
place_split f ns ss ts xs ys l inside =
    let same : length xs ≡ length ss = length_inside ns xs inside ∙ sym l in
    ap (λ n. f + n) (offset-append ss ts xs ys same) ∙ (let moved : f + (offset ss xs + offset ts ys) ≡ f + offset ts ys + offset ss xs = omega arith in moved)

pub within_split : (n f : ℕ) (ns ms ss ts : List ℕ) → length ss ≡ length ns → ArePositive ms → AreWithin n (ns ++ ms) (word_place f (ss ++ ts)) → AreWithin n ns (word_place (f + offset ts (lasts ms)) ss)
within_split n f ns ms ss ts l some h = λ xs inside.
    subst (λ k. k < n) (place_split f ns ss ts xs (lasts ms) l inside) (h (xs ++ lasts ms) (inside_joined ns ms xs (lasts ms) inside (lasts_inside ms some)))

pub apart_split : (f g : ℕ) (ns ms ss ts us vs : List ℕ) → length ss ≡ length ns → length us ≡ length ns → ArePositive ms → AreApart (ns ++ ms) (word_place f (ss ++ ts)) (word_place g (us ++ vs))
    → AreApart ns (word_place (f + offset ts (lasts ms)) ss) (word_place (g + offset vs (lasts ms)) us)
apart_split f g ns ms ss ts us vs l m some h = λ xs ys here there e.
    h (xs ++ lasts ms) (ys ++ lasts ms) (inside_joined ns ms xs (lasts ms) here (lasts_inside ms some)) (inside_joined ns ms ys (lasts ms) there (lasts_inside ms some))
    (place_split f ns ss ts xs (lasts ms) l here ∙ e ∙ sym (place_split g ns us vs ys (lasts ms) m there))

-- how far the last numbers lead
pub farthest_below : (n f : ℕ) (ns ms ss ts : List ℕ) → length ss ≡ length ns → ArePositive ns → ArePositive ms → AreWithin n (ns ++ ms) (word_place f (ss ++ ts)) → f + offset ts (lasts ms) < n
farthest_below n f ns ms ss ts l some others h =
    let last : word_place (f + offset ts (lasts ms)) ss (lasts ns) < n = within_split n f ns ms ss ts l others h (lasts ns) (lasts_inside ns some) in
    omega arith

pub computed_split : (operation : Arithmetic) (f g h : ℕ) (ns ms ss ts us vs ws xs : List ℕ) (old new : List ℕ) → length ss ≡ length ns → length us ≡ length ns → length ws ≡ length ns → ArePositive ms
    → ((ys : List ℕ) → offset ts ys ≡ 0)
    → IsMade (computed operation old (word_place (g + offset vs (lasts ms)) us) (word_place (h + offset xs (lasts ms)) ws)) (word_place f ss) (places ns) old new
    → IsMade (computed operation old (word_place g (us ++ vs)) (word_place h (ws ++ xs))) (word_place f (ss ++ ts)) (places (ns ++ ms)) old new
computed_split operation f g h ns ms ss ts us vs ws xs old new l m n some still made =
    last_turns_are_enough
    (λ zs. operate operation (slice_index old (word_place g (us ++ vs) zs)) (slice_index old (word_place h (ws ++ xs) zs))) (word_place f (ss ++ ts))
    (λ zs. operate operation (slice_index old (word_place (g + offset vs (lasts ms)) us zs)) (slice_index old (word_place (h + offset xs (lasts ms)) ws zs))) (word_place f ss)
    ns ms old new some
    (λ zs ys inside here. place_split f ns ss ts zs ys l inside ∙ ap (λ k. word_place k ss zs) (ap (λ k. f + k) (still ys) ∙ add-zero f))
    (λ zs inside. ap₂ (λ x y. operate operation (slice_index old x) (slice_index old y)) (place_split g ns us vs zs (lasts ms) m inside) (place_split h ns ws xs zs (lasts ms) n inside))
    made
