-- Elements that follow each other in a row of a tile.
use Rattle.std.proofs.Common.{◌≡◌, ◌∙◌, ℕ, zero, suc, ◌+◌, ◌-◌, ◌*◌, ◌/◌, ◌%◌, ◌<◌, ◌≤◌, List, [], ◌∷◌, length, get_or, refl, sym, ap, subst, arith}
use Rattle.std.proofs.lemmas.Nat.{div-add-mod', div-mul-add, mod-mul-add}
use Rattle.tce_space.specs.Box.{place, IsInside}
use Rattle.tce_space.specs.Tiling.{Tiling, IsTiling, divided, remainders, tile_counts, tile_words, word_number, elements, padded_words}
use Rattle.tce_space.proofs.Boxes.{place-lt, place_injective, length_inside}
use Rattle.tce_space.proofs.Tilings.{word_number-lt}
use Rattle.tce_tools.specs.declared.run.Run.{Run}
use Rattle.tce_tools.specs.Runs.{IsRun, moved}

abbrev pub last_of : List ℕ → ℕ
last_of [] = 0
last_of (x ∷ []) = x
last_of (x ∷ y ∷ ys) = last_of (y ∷ ys)

pub last_is : (xs : List ℕ) (i : ℕ) → i + 1 ≡ length xs → get_or xs i 0 ≡ last_of xs
last_is [] i e = absurd (omega arith)
last_is (x ∷ []) i e = let none : i ≡ 0 = omega arith in ap (λ j. get_or (x ∷ []) j 0) none
last_is (x ∷ y ∷ ys) zero e = absurd (omega arith)
last_is (x ∷ y ∷ ys) (suc i) e = last_is (y ∷ ys) i (omega arith)

pub moved_inside : (ns xs : List ℕ) (k : ℕ) → IsInside ns xs → last_of xs + k < last_of ns → IsInside ns (moved xs k)
moved_inside [] [] k h l = tt
moved_inside [] (x ∷ xs) k h l = absurd h
moved_inside (n ∷ ns) [] k h l = absurd h
moved_inside (n ∷ []) (x ∷ []) k h l = (l, tt)
moved_inside (n ∷ []) (x ∷ y ∷ ys) k h l = absurd h.1
moved_inside (n ∷ m ∷ ns) (x ∷ []) k h l = absurd h.1
moved_inside (n ∷ m ∷ ns) (x ∷ y ∷ ys) k h l = (h.0, moved_inside (m ∷ ns) (y ∷ ys) k h.1 l)

pub moved_place : (ns xs : List ℕ) (k : ℕ) → 0 < length ns → IsInside ns xs → place ns (moved xs k) ≡ place ns xs + k
moved_place [] xs k l h = absurd (omega arith)
moved_place (n ∷ ns) [] k l h = absurd h
moved_place (n ∷ []) (x ∷ []) k l h = omega arith
moved_place (n ∷ []) (x ∷ y ∷ ys) k l h = absurd h.1
moved_place (n ∷ m ∷ ns) (x ∷ []) k l h = absurd h.1
moved_place (n ∷ m ∷ ns) (x ∷ y ∷ ys) k l h = omega (arith, moved_place (m ∷ ns) (y ∷ ys) k (omega arith) h.1)

pub quotient_same : (x k e : ℕ) → x % e + k < e → (x + k) / e ≡ x / e
quotient_same x k e h =
    let parts = div-add-mod' x e in
    let is : x + k ≡ x / e * e + (x % e + k) = omega arith in
    ap (λ y. y / e) is ∙ div-mul-add (x / e) e (x % e + k) h

pub remainder_moved : (x k e : ℕ) → x % e + k < e → (x + k) % e ≡ x % e + k
remainder_moved x k e h =
    let parts = div-add-mod' x e in
    let is : x + k ≡ x / e * e + (x % e + k) = omega arith in
    ap (λ y. y % e) is ∙ mod-mul-add (x / e) e (x % e + k) h

moved_divided : (es xs : List ℕ) (k : ℕ) → length xs ≡ length es → last_of xs % last_of es + k < last_of es → divided es (moved xs k) ≡ divided es xs
moved_divided [] [] k l h = refl
moved_divided [] (x ∷ xs) k l h = absurd (omega arith)
moved_divided (e ∷ es) [] k l h = refl
moved_divided (e ∷ []) (x ∷ []) k l h = ap (λ q. q ∷ []) (quotient_same x k e h)
moved_divided (e ∷ []) (x ∷ y ∷ ys) k l h = absurd (omega arith)
moved_divided (e ∷ d ∷ es) (x ∷ []) k l h = absurd (omega arith)
moved_divided (e ∷ d ∷ es) (x ∷ y ∷ ys) k l h = ap (λ qs. (x / e) ∷ qs) (moved_divided (d ∷ es) (y ∷ ys) k (omega arith) h)

moved_remainders : (es xs : List ℕ) (k : ℕ) → 0 < length es → length xs ≡ length es → last_of xs % last_of es + k < last_of es → place es (remainders es (moved xs k)) ≡ place es (remainders es xs) + k
moved_remainders [] xs k s l h = absurd (omega arith)
moved_remainders (e ∷ es) [] k s l h = absurd (omega arith)
moved_remainders (e ∷ []) (x ∷ []) k s l h = let is = remainder_moved x k e h in omega arith
moved_remainders (e ∷ []) (x ∷ y ∷ ys) k s l h = absurd (omega arith)
moved_remainders (e ∷ d ∷ es) (x ∷ []) k s l h = absurd (omega arith)
moved_remainders (e ∷ d ∷ es) (x ∷ y ∷ ys) k s l h = omega (arith, moved_remainders (d ∷ es) (y ∷ ys) k (omega arith) (omega arith) h)

pub moved_number : (s : Tiling) (xs : List ℕ) (k : ℕ) → 0 < length s.edges → length xs ≡ length s.edges → last_of xs % last_of s.edges + k < last_of s.edges
    → word_number s (moved xs k) ≡ word_number s xs + k
moved_number s xs k some l h =
    let inner = moved_remainders s.edges xs k some l h in
    let outer : tile_words s * place (tile_counts s) (divided s.edges (moved xs k)) ≡ tile_words s * place (tile_counts s) (divided s.edges xs) = ap (λ qs. tile_words s * place (tile_counts s) qs) (moved_divided s.edges xs k l h) in
    omega arith

-- the run from an element on, along the row of its tile
pub row_is_run : (s : Tiling) (xs : List ℕ) (run : Run) (d : ℕ) → IsTiling s → elements s ≤ padded_words s → IsInside s.extents xs → d + 1 ≡ length s.extents
    → place s.extents xs ≡ run.start → word_number s xs ≡ run.word → 0 < run.len → run.len ≤ 4096
    → get_or xs d 0 + run.len ≤ get_or s.extents d 0 → get_or xs d 0 % get_or s.edges d 0 + run.len ≤ get_or s.edges d 0 → IsRun s run
row_is_run s xs run d t few h l start word some short in_row in_tile = record {
  tiling = t;
  few = few;
  some = some;
  short = short;
  inside = (let end = place-lt s.extents (moved xs last) (inside_at last (omega arith)) in omega (arith, end, place_at last));
  room = (let end = word_number-lt s (moved xs last) t.same_rank t.positive (inside_at last (omega arith)) in omega (arith, end, number_at last (omega arith)));
  numbers = λ k lt ys there placed.
      let same : ys ≡ moved xs k = place_injective s.extents ys (moved xs k) there (inside_at k lt) (placed ∙ sym (place_at k)) in
      ap (word_number s) same ∙ number_at k lt;
}
  where
    last : ℕ
    last = run.len - 1

    rank : length xs ≡ length s.extents
    rank = length_inside s.extents xs h

    x_is : get_or xs d 0 ≡ last_of xs
    x_is = last_is xs d (omega (arith, rank))

    n_is : get_or s.extents d 0 ≡ last_of s.extents
    n_is = last_is s.extents d l

    e_is : get_or s.edges d 0 ≡ last_of s.edges
    e_is = last_is s.edges d (omega (arith, t.same_rank))

    inside_at : (k : ℕ) → k < run.len → IsInside s.extents (moved xs k)
    inside_at k lt = moved_inside s.extents xs k h (omega (arith, x_is, n_is))

    place_at : (k : ℕ) → place s.extents (moved xs k) ≡ run.start + k
    place_at k = omega (arith, moved_place s.extents xs k (omega arith) h)

    in_tile_at : (k : ℕ) → k < run.len → last_of xs % last_of s.edges + k < last_of s.edges
    in_tile_at k lt = subst (λ x. x % last_of s.edges + k < last_of s.edges) x_is (subst (λ e. get_or xs d 0 % e + k < e) e_is (omega arith))

    number_at : (k : ℕ) → k < run.len → word_number s (moved xs k) ≡ run.word + k
    number_at k lt = omega (arith, moved_number s xs k (omega (arith, t.same_rank)) (omega (arith, rank, t.same_rank)) (in_tile_at k lt))
