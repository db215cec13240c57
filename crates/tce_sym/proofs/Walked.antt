-- Walks through stored words, and rows of elements.
use Rattle.std.proofs.Common.{◌≡◌, ◌∙◌, ℕ, zero, suc, ◌+◌, ◌*◌, ◌<◌, ◌≤◌, Bool, true, false, if◌then◌else◌, List, [], ◌∷◌, ◌++◌, length, set, slice_index, refl, ap, arith, inl, inr, ◌==◌}
use Rattle.std.proofs.lemmas.Bool.{cases_lt}
use Rattle.std.proofs.lemmas.List.{get_or-set_other}
use Rattle.std.proofs.lemmas.Grind.{get_or-set_at}
use Rattle.tce_sym.specs.declared.cells.Triangles.{Triangles}
use Rattle.tce_sym.specs.declared.cells.Pair.{Pair}
use Rattle.tce_sym.specs.declared.rows.Row.{Row}
use Rattle.tce_sym.specs.declared.walks.Walk.{Walk}
use Rattle.tce_sym.specs.Storage.{IsPair, pairs, stored_word, turned}
use Rattle.tce_sym.specs.Lines.{walk_place}
use Rattle.tce_sym.specs.Cells.{AreTriangles, IsAmong, IsWalkOf, IsMirroredWalkOf, cell_by, cell_of, mirror, moved_pair, pair_place}
use Rattle.tce_sym.proofs.Triangles.{pairs_more}
use Rattle.tce_sym.proofs.FullCells.{IsPlacedPair, pair_of_less, cell_above, cell_below, cell_between, cell_diagonal, pair_placed}

-- a number that a test tells from 0
pub number_left : (n : ℕ) (none : Bool) → none ≡ (n == 0) → none ≡ false → 0 < n
number_left zero none is other = cc
number_left (suc n) none is other = omega arith

-- one word more
pub more : (f : ℕ → ℕ) (words : List ℕ) (k word : ℕ) → k < length words → word ≡ f k → ((j : ℕ) → j < k → slice_index words j ≡ f j)
    → (j : ℕ) → j < k + 1 → slice_index (set words k word) j ≡ f j
more f words k word room is earlier j l =
    elim (cases_lt j k) [
      | inl below ↦ get_or-set_other words k j word 0 (λ e. omega arith) ∙ earlier j below
      | inr above ↦ (let same : j ≡ k = omega arith in get_or-set_at words k j word 0 same room ∙ is ∙ ap f (omega arith))
    ]

-- the words of two parts
pub joined_words : (f : ℕ → ℕ) (us vs : List ℕ) → ((k : ℕ) → k < length us → slice_index us k ≡ f k) → ((k : ℕ) → k < length vs → slice_index vs k ≡ f (length us + k))
    → (k : ℕ) → k < length (us ++ vs) → slice_index (us ++ vs) k ≡ f k
joined_words f [] vs h g k l = g k l ∙ ap f (omega arith)
joined_words f (u ∷ us) vs h g zero l = h zero (omega arith)
joined_words f (u ∷ us) vs h g (suc k) l =
    joined_words (λ n. f (suc n)) us vs (λ j m. h (suc j) (omega arith)) (λ j m. g j m ∙ ap f (omega arith)) k (omega arith)

-- elements some steps on
abbrev pub stepped : Bool → Pair → ℕ → Pair
stepped is p k = if is then record { outer = p.outer; first = p.first; second = p.second + k } else record { outer = p.outer + k; first = p.first; second = p.second }

stepped_none : (is : Bool) (p : Pair) → stepped is p 0 ≡ p
stepped_none true p = let none : p.second + 0 ≡ p.second = omega arith in ap (λ n. made p.outer p.first n) none
  where
    made : ℕ → ℕ → ℕ → Pair
    made o a b = record { outer = o; first = a; second = b }
stepped_none false p = let none : p.outer + 0 ≡ p.outer = omega arith in ap (λ n. made n p.first p.second) none
  where
    made : ℕ → ℕ → ℕ → Pair
    made o a b = record { outer = o; first = a; second = b }

stepped_more : (is : Bool) (p : Pair) (m k : ℕ) → stepped is (stepped is p m) k ≡ stepped is p (m + k)
stepped_more true p m k = let sum : p.second + m + k ≡ p.second + (m + k) = omega arith in ap (λ n. made p.outer p.first n) sum
  where
    made : ℕ → ℕ → ℕ → Pair
    made o a b = record { outer = o; first = a; second = b }
stepped_more false p m k = let sum : p.outer + m + k ≡ p.outer + (m + k) = omega arith in ap (λ n. made n p.first p.second) sum
  where
    made : ℕ → ℕ → ℕ → Pair
    made o a b = record { outer = o; first = a; second = b }

pub moved_nowhere : (row : Row) → moved_pair row 0 ≡ row.pair
moved_nowhere row = stepped_none row.is_second row.pair

pub moved_on : (row behind : Row) (m k : ℕ) → behind.pair ≡ moved_pair row m → behind.is_second ≡ row.is_second → moved_pair behind k ≡ moved_pair row (m + k)
moved_on row behind m k e f = ap (λ b. stepped b behind.pair k) f ∙ ap (λ p. stepped row.is_second p k) e ∙ stepped_more row.is_second row.pair m k

-- the place of a word of a walk
along : (is : Bool) (t : Triangles) (p : Pair) (k : ℕ)
    → pair_place t p + (if is then p.second + (if t.negated then 0 else 1) else t.pairs) * k + (if is then pairs true k else 0) ≡ pair_place t (stepped is p k)
along true t p k = let next = pairs_more t.negated p.second k in omega arith
along false t p k = omega arith

pub walk_is : (t : Triangles) (row : Row) (walk : Walk) (k : ℕ) → IsWalkOf t row walk → walk_place walk k ≡ pair_place t (moved_pair row k)
walk_is t row walk k w =
    ap (λ n. n + walk.step * k + (if walk.grows then pairs true k else 0)) w.place
    ∙ ap (λ n. pair_place t row.pair + n * k + (if walk.grows then pairs true k else 0)) w.step
    ∙ ap (λ b. pair_place t row.pair + (if row.is_second then row.pair.second + (if t.negated then 0 else 1) else t.pairs) * k + (if b then pairs true k else 0)) w.grows
    ∙ along row.is_second t row.pair k

along_mirrored : (is : Bool) (t : Triangles) (p : Pair) (k : ℕ) → pair_place t (mirror p) + (if is then 1 else t.pairs) * k + 0 ≡ pair_place t (mirror (stepped is p k))
along_mirrored true t p k = omega arith
along_mirrored false t p k = omega arith

pub mirrored_walk_is : (t : Triangles) (row : Row) (walk : Walk) (k : ℕ) → IsMirroredWalkOf t row walk → walk_place walk k ≡ pair_place t (mirror (moved_pair row k))
mirrored_walk_is t row walk k w =
    ap (λ n. n + walk.step * k + (if walk.grows then pairs true k else 0)) w.place
    ∙ ap (λ n. pair_place t (mirror row.pair) + n * k + (if walk.grows then pairs true k else 0)) w.step
    ∙ ap (λ b. pair_place t (mirror row.pair) + (if row.is_second then 1 else t.pairs) * k + (if b then pairs true k else 0)) w.grows
    ∙ along_mirrored row.is_second t row.pair k

pub mirrored_placed : (t : Triangles) (p : Pair) → AreTriangles t → IsAmong t p → p.second < p.first → IsPlacedPair t (mirror p)
mirrored_placed t p a i h = pair_placed t (mirror p) a (record { outer = i.outer; first = i.second; second = i.first }) (pair_of_less t.negated p.second p.first h)

-- a stored word is the element
pub stored_cell : (negated : Bool) (a b word mirrored : ℕ) → IsPair negated a b → word ≡ cell_by negated a b word mirrored
stored_cell true a b word mirrored h = cell_below true a b word mirrored h
stored_cell false a b word mirrored h =
    elim (cases_lt a b) [
      | inl below ↦ cell_below false a b word mirrored below
      | inr above ↦ cell_diagonal false a b word mirrored h above refl
    ]

-- elements that are stored, mirrored, and between equal coordinates
pub stored_is : (t : Triangles) (bytes : List ℕ) (p : Pair) → IsPair t.negated p.first p.second → stored_word bytes (pair_place t p) ≡ cell_of t bytes p
stored_is t bytes p h = stored_cell t.negated p.first p.second (stored_word bytes (pair_place t p)) (stored_word bytes (pair_place t (mirror p))) h

pub mirrored_is : (t : Triangles) (bytes : List ℕ) (p : Pair) → p.second < p.first → turned t.negated (stored_word bytes (pair_place t (mirror p))) ≡ cell_of t bytes p
mirrored_is t bytes p h = cell_above t.negated p.first p.second (stored_word bytes (pair_place t p)) (stored_word bytes (pair_place t (mirror p))) h

pub between_is : (t : Triangles) (bytes : List ℕ) (p : Pair) → p.first ≤ p.second → p.second ≤ p.first → t.negated ≡ true → 0 ≡ cell_of t bytes p
between_is t bytes p h k e = cell_between t.negated p.first p.second (stored_word bytes (pair_place t p)) (stored_word bytes (pair_place t (mirror p))) h k e

-- the place so many steps on, where all steps are equal
pub step_place : (walk : Walk) (k : ℕ) → walk.grows ≡ false → walk_place walk k ≡ walk.place + walk.step * k
step_place walk k e = ap (λ b. walk.place + walk.step * k + (if b then pairs true k else 0)) e ∙ omega arith
