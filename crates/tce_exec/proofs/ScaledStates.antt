-- What turns leave that multiply the words of a node's places by a factor.
use Rattle.std.proofs.Common.{◌≡◌, ◌≢◌, ℕ, zero, suc, ◌+◌, ◌<◌, ◌≤◌, true, ◌&&◌, eqb, if◌then◌else◌, List, [], ◌∷◌, ◌++◌, map, slice_index, refl, sym, ap, ◌∙◌, inl, inr, arith}
use mathlib.Core.Path.{fun_ext}
use Rattle.std.specs.List.{flat_map, range_with_len}
use Rattle.std.specs.List.Sorted.{IsPermutation}
use Rattle.std.proofs.lemmas.Bool.{cases_Bool, cases_eq, and_parts, eqb-true, eq-eqb, ne_eqb}
use Rattle.std.proofs.lemmas.List.{length-map}
use Rattle.tce_base.specs.Word.{wrapping_mul}
use Rattle.tce_space.specs.Box.{places, IsInside}
use Rattle.tce_space.specs.IndexSet.{members}
use Rattle.tce_space.proofs.Boxes.{length_inside}
use Rattle.tce_tree.specs.Value.{Assignment, assignment}
use Rattle.tce_tree.specs.WellFormed.{among}
use Rattle.tce_tree.proofs.Values.{map-same}
use Rattle.tce_block.specs.Parts.{Part}
use Rattle.tce_block.specs.Turns.{IsMade, word_after}
use Rattle.tce_block.proofs.Folds.{Each, each_inside, each_append, each_map, fold_idle}
use Rattle.tce_code.specs.Execution.{Setting, State, coordinates}
use Rattle.tce_walk.specs.Parts.{set_by_part, falls_on, last_on_place}
use Rattle.tce_walk.specs.TailLaws.{dims_at}
use Rattle.tce_exec.specs.Leaving.{ShowsPart}
use Rattle.tce_exec.specs.Loops.{place_along}
use Rattle.tce_exec.specs.LoopLaws.{lens_along}
use Rattle.tce_exec.specs.Scaling.{HasScaled}
use Rattle.tce_exec.specs.TermParts.{scaled_by_part}
use Rattle.tce_exec.specs.Turns.{turns_of, turn_at}
use Rattle.tce_exec.specs.declared.window.Window.{Window}
use Rattle.tce_exec.proofs.Assignments.{map-assignment}
use Rattle.tce_exec.proofs.Falling.{falls_yes, place_numbers}
use Rattle.tce_exec.proofs.LoopPlaces.{coordinates_are_turns, among_inner, distinct_inner}
use Rattle.tce_exec.proofs.Making.{each_weaker, sequence_of, turns_set}
use Rattle.tce_exec.proofs.TermSums.{AreDimsOf}

-- ---- turns at places of their own

Apart : (List ℕ → ℕ) → List (List ℕ) → Type 0
Apart place [] = Unit {0}
Apart place (xs ∷ turns) = Each (λ ys. place ys ≢ place xs) turns × Apart place turns

apart_append : (place : List ℕ → ℕ) (turns others : List (List ℕ)) → Apart place turns → Apart place others → Each (λ xs. Each (λ ys. place ys ≢ place xs) others) turns → Apart place (turns ++ others)
unfolding Apart
apart_append place [] others h k c = k
apart_append place (xs ∷ turns) others h k c = (each_append (λ ys. place ys ≢ place xs) turns others h.0 c.0, apart_append place turns others h.1 k c.1)

apart_map : (place : List ℕ → ℕ) (x : ℕ) (turns : List (List ℕ)) → Apart (λ xs. place (x ∷ xs)) turns → Apart place (map (λ xs. x ∷ xs) turns)
unfolding Apart
apart_map place x [] h = tt
apart_map place x (xs ∷ turns) h = (each_map (λ ys. place (x ∷ ys) ≢ place (x ∷ xs)) (λ ys. place ys ≢ place (x ∷ xs)) x turns (λ ys e. e) h.0, apart_map place x turns h.1)

-- different coordinates have different places
abbrev IsOneToOne : List ℕ → (List ℕ → ℕ) → Type 0
IsOneToOne ns place = (xs ys : List ℕ) → IsInside ns xs → IsInside ns ys → place xs ≡ place ys → xs ≡ ys

head_of : List ℕ → ℕ
head_of [] = 0
head_of (x ∷ xs) = x

-- a row of coordinates
abbrev IsInRow : List ℕ → ℕ → List ℕ → Type 0
IsInRow ns x ys = IsInside ns ys × (head_of ys ≡ x)

abbrev IsBehind : List ℕ → ℕ → List ℕ → Type 0
IsBehind ns x ys = IsInside ns ys × (x < head_of ys)

abbrev row : List ℕ → ℕ → List (List ℕ)
row ns x = map (λ xs. x ∷ xs) (places ns)

rows_apart : (n : ℕ) (ns : List ℕ) (place : List ℕ → ℕ) (a m : ℕ) → a + m ≤ n → IsOneToOne (n ∷ ns) place → ((x : ℕ) → x < n → Apart (λ xs. place (x ∷ xs)) (places ns))
    → Apart place (flat_map (row ns) (range_with_len a m))
unfolding Apart head_of
rows_apart n ns place a zero le one h = tt
rows_apart n ns place a (suc m) le one h =
    apart_append place (row ns a) (flat_map (row ns) (range_with_len (a + 1) m)) (apart_map place a (places ns) (h a (omega arith)))
    (rows_apart n ns place (a + 1) m (omega arith) one h)
    (each_map (IsInside ns) (λ xs. Each (λ ys. place ys ≢ place xs) (flat_map (row ns) (range_with_len (a + 1) m))) a (places ns)
    (λ xs inside. each_weaker (IsBehind (n ∷ ns) a) (λ ys. place ys ≢ place (a ∷ xs)) (flat_map (row ns) (range_with_len (a + 1) m))
    (λ ys behind same. later_differs (a ∷ xs) ys (one ys (a ∷ xs) behind.0 (omega arith, inside) same) behind.1)
    (later_rows (a + 1) m (omega arith) (omega arith)))
    (each_inside ns))
  where
    later_differs : (xs ys : List ℕ) → ys ≡ xs → head_of xs < head_of ys → ⊥
    later_differs xs ys e low = let same : head_of ys ≡ head_of xs = ap head_of e in omega (arith, same, low)

    later_rows : (b k : ℕ) → b + k ≤ n → a < b → Each (IsBehind (n ∷ ns) a) (flat_map (row ns) (range_with_len b k))
    later_rows b zero le low = tt
    later_rows b (suc k) le low =
        each_append (IsBehind (n ∷ ns) a) (row ns b) (flat_map (row ns) (range_with_len (b + 1) k))
        (each_map (IsInside ns) (IsBehind (n ∷ ns) a) b (places ns) (λ xs inside. ((omega arith, inside), low)) (each_inside ns))
        (later_rows (b + 1) k (omega arith) (omega arith))

places_apart : (ns : List ℕ) (place : List ℕ → ℕ) → IsOneToOne ns place → Apart place (places ns)
unfolding Apart
places_apart [] place one = (tt, tt)
places_apart (n ∷ ns) place one =
    rows_apart n ns place 0 n (omega arith) one (λ x low. places_apart ns (λ xs. place (x ∷ xs)) (λ xs ys inside also same. tails (one (x ∷ xs) (x ∷ ys) (low, inside) (low, also) same)))
  where
    tail_of : List ℕ → List ℕ
    tail_of [] = []
    tail_of (y ∷ ys) = ys

    tails : {x y : ℕ} {xs ys : List ℕ} → (x ∷ xs) ≡ (y ∷ ys) → xs ≡ ys
    tails e = cc

-- a word that one turn changes at most is changed as it was before
once : (g : ℕ → ℕ) (place : List ℕ → ℕ) (k w : ℕ) (turns : List (List ℕ)) → Apart place turns → word_after (λ v xs. g v) place k w turns ≡ word_after (λ v xs. g w) place k w turns
unfolding Apart
once g place k w [] h = refl
once g place k w (xs ∷ turns) h =
    elim (cases_eq (place xs) k) [
      | inl e ↦
          let others : Each (λ ys. place ys ≢ k) turns = each_weaker (λ ys. place ys ≢ place xs) (λ ys. place ys ≢ k) turns (λ ys ne same. ne (same ∙ sym e)) h.0 in
          ap (λ b. word_after (λ v ys. g v) place k (if b then g w else w) turns) (eq-eqb (place xs) k e)
          ∙ fold_idle (λ v ys. g v) place k (g w) turns others
          ∙ sym (fold_idle (λ v ys. g w) place k (g w) turns others)
          ∙ sym (ap (λ b. word_after (λ v ys. g w) place k (if b then g w else w) turns) (eq-eqb (place xs) k e))
      | inr n ↦
          ap (λ b. word_after (λ v ys. g v) place k (if b then g w else w) turns) (ne_eqb (place xs) k n)
          ∙ once g place k w turns h.1
          ∙ sym (ap (λ b. word_after (λ v ys. g w) place k (if b then g w else w) turns) (ne_eqb (place xs) k n))
    ]

-- at its place the turn's own word may stand for the one before
own_word : (g : ℕ → ℕ) (place : List ℕ → ℕ) (old : List ℕ) (k w : ℕ) (turns : List (List ℕ))
    → word_after (λ v xs. g (slice_index old k)) place k w turns ≡ word_after (λ v xs. g (slice_index old (place xs))) place k w turns
own_word g place old k w [] = refl
own_word g place old k w (xs ∷ turns) =
    elim (cases_eq (place xs) k) [
      | inl e ↦
          ap (λ b. word_after (λ v ys. g (slice_index old k)) place k (if b then g (slice_index old k) else w) turns) (eq-eqb (place xs) k e)
          ∙ own_word g place old k (g (slice_index old k)) turns
          ∙ ap (λ j. word_after (λ v ys. g (slice_index old (place ys))) place k (g (slice_index old j)) turns) (sym e)
          ∙ sym (ap (λ b. word_after (λ v ys. g (slice_index old (place ys))) place k (if b then g (slice_index old (place xs)) else w) turns) (eq-eqb (place xs) k e))
      | inr n ↦
          ap (λ b. word_after (λ v ys. g (slice_index old k)) place k (if b then g (slice_index old k) else w) turns) (ne_eqb (place xs) k n)
          ∙ own_word g place old k w turns
          ∙ sym (ap (λ b. word_after (λ v ys. g (slice_index old (place ys))) place k (if b then g (slice_index old (place xs)) else w) turns) (ne_eqb (place xs) k n))
    ]

made_once : (g : ℕ → ℕ) (place : List ℕ → ℕ) (ns old new : List ℕ) → IsOneToOne ns place → IsMade (λ w xs. g w) place (places ns) old new → IsMade (λ w xs. g (slice_index old (place xs))) place (places ns) old new
made_once g place ns old new one made = record {
  same_length = made.same_length;
  made = λ k low. made.made k low ∙ once g place k (slice_index old k) (places ns) (places_apart ns place one) ∙ own_word g place old k (slice_index old k) (places ns);
}

-- ---- in the state

module _ (s : Setting) (v : ℕ) (order : List ℕ) (a : Assignment) (part : Part) (out : Window) (view : List ℕ → State) (old : List ℕ) (shows : ShowsPart s v order a part out view old) (dims : AreDimsOf s v order part) where
  one_to_one : (inner : List ℕ) → IsPermutation order inner → IsOneToOne (lens_along (turns_of order a part) inner) (place_along out inner)
  one_to_one inner same xs ys inside also equal =
      let t = turns_of order a part in
      let sequence = sequence_of order a part inner shows.loops same in
      let turns = coordinates_are_turns t out inner sequence in
      let places_same : coordinates (dims_at s v) (turn_at t inner xs) ≡ coordinates (dims_at s v) (turn_at t inner ys) =
      (shows.shows.apart (turn_at t inner xs) (turn_at t inner ys) (turns.turn xs inside) (turns.turn ys also)).0 (sym (turns.place xs inside) ∙ equal ∙ turns.place ys also) in
      sym (map-assignment inner xs (distinct_inner t inner sequence) (length_inside (lens_along t inner) xs inside ∙ length-map inner t.count))
      ∙ map-same inner (assignment inner xs) (assignment inner ys) (λ i m.
      let in_order : among order i ≡ true = sym (among_inner t inner sequence i) ∙ m in
      let here : assignment (members (dims_at s v)) (coordinates (dims_at s v) (turn_at t inner ys)) i ≡ turn_at t inner xs i = place_numbers (dims_at s v) (coordinates (dims_at s v) (turn_at t inner ys)) (turn_at t inner xs) i (dims.below i in_order) (dims.dims i in_order) places_same in
      let there : assignment (members (dims_at s v)) (coordinates (dims_at s v) (turn_at t inner ys)) i ≡ turn_at t inner ys i = place_numbers (dims_at s v) (coordinates (dims_at s v) (turn_at t inner ys)) (turn_at t inner ys) i (dims.below i in_order) (dims.dims i in_order) refl in
      omega (arith, here, there))
      ∙ map-assignment inner ys (distinct_inner t inner sequence) (length_inside (lens_along t inner) ys also ∙ length-map inner t.count)

  -- each place has its own word, multiplied
  set_is_scaled : (factor : ℕ) → set_by_part s v order (λ b. wrapping_mul factor (view old v (coordinates (dims_at s v) b))) a part (view old) ≡ scaled_by_part s v order factor a part (view old)
  set_is_scaled factor = fun_ext (λ u. fun_ext (λ p.
      elim (cases_Bool (eqb u v && falls_on s v order a part p)) [
        | inl e ↦
            let both = and_parts (eqb u v) (falls_on s v order a part p) e in
            ap (λ q. if q then wrapping_mul factor (view old v (coordinates (dims_at s v) (last_on_place s v order a part p))) else view old u p) e
            ∙ ap (wrapping_mul factor) (ap (view old v) (falls_yes s v order a part p dims.as_many dims.some both.1).2 ∙ ap (λ n. view old n p) (sym (eqb-true u v both.0)))
            ∙ sym (ap (λ q. if q then wrapping_mul factor (view old u p) else view old u p) e)
        | inr e ↦
            ap (λ q. if q then wrapping_mul factor (view old v (coordinates (dims_at s v) (last_on_place s v order a part p))) else view old u p) e
            ∙ sym (ap (λ q. if q then wrapping_mul factor (view old u p) else view old u p) e)
      ]))

  pub turns_scale : (factor : ℕ) (new : List ℕ) → HasScaled factor order part.len out old new → view new ≡ scaled_by_part s v order factor a part (view old)
  turns_scale factor new are =
      let t = turns_of order a part in
      let turns = coordinates_are_turns t out are.inner (sequence_of order a part are.inner shows.loops are.same) in
      turns_set s v order a part are.inner out view (λ b. wrapping_mul factor (view old v (coordinates (dims_at s v) b))) (λ xs. wrapping_mul factor (slice_index old (place_along out are.inner xs))) old new
      (record { loops = shows.loops; same = are.same; shows = shows.shows })
      (λ xs inside. ap (wrapping_mul factor) (ap (slice_index old) (turns.place xs inside) ∙ sym (shows.shows.word old refl (turn_at t are.inner xs) (turns.turn xs inside))))
      (made_once (wrapping_mul factor) (place_along out are.inner) (lens_along t are.inner) old new (one_to_one are.inner are.same) are.made)
      ∙ set_is_scaled factor
