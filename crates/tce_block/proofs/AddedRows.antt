-- All turns of the loop outside the innermost one at once, each of which adds a row with a factor.
use Rattle.std.proofs.Common.{◌≡◌, ◌∙◌, refl, sym, ap, ap₂, subst, ℕ, zero, suc, ◌+◌, ◌*◌, ◌<◌, ◌≤◌, List, [], ◌∷◌, length, slice_index, arith}
use mathlib.Core.Path.{fun_ext}
use Rattle.tce_base.specs.Word.{wrapping_add, wrapping_mul}
use Rattle.tce_base.proofs.Words.{times_comm}
use Rattle.tce_words.specs.Rows.{IsRowAdded, AreRowsAdded}
use Rattle.tce_words.specs.Run.{IsWithin, AreApart as RunsAreApart, IsRun}
use Rattle.tce_block.specs.declared.loops.Loop.{Loop}
use Rattle.tce_block.specs.declared.loops.Turn.TheVariants.{Grow}
use Rattle.tce_block.specs.Places.{word_place}
use Rattle.tce_block.specs.Turns.{IsMade, turned}
use Rattle.tce_block.proofs.Folds.{turns_before}
use Rattle.tce_block.proofs.Innermost.{made_by_run, place_along, run_within, run_apart}
use Rattle.tce_block.specs.Running.{CanRun}
use Rattle.tce_block.proofs.Outer.{turn_rest, turn_bases, turn_turns_more}

-- what a call asks for
pub record RowFit (count : ℕ) (rows along : Loop) (out left right : ℕ) : Type 0 where
  pub fit : CanRun count (rows ∷ along ∷ []) out left right
  pub still : rows.out ≡ 0
  pub next_word : along.out ≡ 1
  pub one_factor : along.left ≡ 0
  pub one_row : along.right ≡ 1

base_stays : (out step x : ℕ) → step ≡ 0 → out + x * step ≡ out
base_stays out step x none = rw none (omega arith)

place_is : (base step other t : ℕ) → step ≡ other → base + t * other ≡ word_place base (step ∷ []) (t ∷ [])
place_is base step other t is = ap (λ s. base + t * s) (sym is) ∙ sym (place_along base step t)

-- the conditions of the rows
pub out_within : (count : ℕ) (rows along : Loop) (out left right : ℕ) → RowFit count rows along out left right → IsWithin count out 1 along.len
out_within count rows along out left right given =
    let inner = turn_rest count count rows (along ∷ []) (rows ∷ along ∷ []) out left right 0 refl given.fit refl given.fit.positive.0 in
    subst (λ base. IsWithin count base 1 along.len) (base_stays out rows.out 0 given.still)
    (subst (λ step. IsWithin count (out + 0 * rows.out) step along.len) given.next_word (run_within count along.len (out + 0 * rows.out) along.out inner.out_within))

pub factors_within : (count : ℕ) (rows along : Loop) (out left right : ℕ) → RowFit count rows along out left right → IsWithin count left rows.left rows.len
factors_within count rows along out left right given = λ t lt.
    let bases = turn_bases count rows (along ∷ []) (rows ∷ along ∷ []) out left right t refl given.fit lt in
    bases.1

pub rows_within : (count : ℕ) (rows along : Loop) (out left right : ℕ) → RowFit count rows along out left right
    → (t : ℕ) → t < rows.len → IsWithin count (right + t * rows.right) 1 along.len
rows_within count rows along out left right given = λ t lt.
    let inner = turn_rest count count rows (along ∷ []) (rows ∷ along ∷ []) out left right t refl given.fit refl lt in
    subst (λ step. IsWithin count (right + t * rows.right) step along.len) given.one_row (run_within count along.len (right + t * rows.right) along.right inner.right_within)

pub factors_apart : (count : ℕ) (rows along : Loop) (out left right : ℕ) → RowFit count rows along out left right
    → (t : ℕ) → t < rows.len → RunsAreApart out 1 (left + t * rows.left) 0 along.len
factors_apart count rows along out left right given = λ t lt.
    let inner = turn_rest count count rows (along ∷ []) (rows ∷ along ∷ []) out left right t refl given.fit refl lt in
    subst (λ step. RunsAreApart out 1 (left + t * rows.left) step along.len) given.one_factor
    (subst (λ step. RunsAreApart out step (left + t * rows.left) along.left along.len) given.next_word
    (subst (λ base. RunsAreApart base along.out (left + t * rows.left) along.left along.len) (base_stays out rows.out t given.still)
    (run_apart along.len (out + t * rows.out) along.out (left + t * rows.left) along.left inner.left_apart)))

pub rows_apart : (count : ℕ) (rows along : Loop) (out left right : ℕ) → RowFit count rows along out left right
    → (t : ℕ) → t < rows.len → RunsAreApart out 1 (right + t * rows.right) 1 along.len
rows_apart count rows along out left right given = λ t lt.
    let inner = turn_rest count count rows (along ∷ []) (rows ∷ along ∷ []) out left right t refl given.fit refl lt in
    subst (λ step. RunsAreApart out 1 (right + t * rows.right) step along.len) given.one_row
    (subst (λ step. RunsAreApart out step (right + t * rows.right) along.right along.len) given.next_word
    (subst (λ base. RunsAreApart base along.out (right + t * rows.right) along.right along.len) (base_stays out rows.out t given.still)
    (run_apart along.len (out + t * rows.out) along.out (right + t * rows.right) along.right inner.right_apart)))

-- what the turns of the first y rows leave
abbrev pub AreRowsMade : Loop → Loop → ℕ → ℕ → ℕ → ℕ → List ℕ → List ℕ → Type 0
AreRowsMade rows along out left right y old now =
    IsMade (turned Grow old (word_place left (rows.left ∷ along.left ∷ [])) (word_place right (rows.right ∷ along.right ∷ []))) (word_place out (rows.out ∷ along.out ∷ [])) (turns_before (along.len ∷ []) y) old now

-- one row more
row_more : (rows along : Loop) (out left right y m factor row : ℕ) (old now next : List ℕ) → RowFit (length old) rows along out left right → y < rows.len → m ≡ y + 1
    → factor ≡ left + y * rows.left → row ≡ right + y * rows.right → AreRowsMade rows along out left right y old now → IsRowAdded out factor row along.len now next
    → AreRowsMade rows along out left right m old next
row_more rows along out left right y m factor row old now next given lt is factor_is row_is made added =
    let base : ℕ = out + y * rows.out in
    let here : base ≡ out = base_stays out rows.out y given.still in
    let f : ℕ → ℕ = λ t. wrapping_add (slice_index now (out + t * 1)) (wrapping_mul (slice_index now (factor + t * 0)) (slice_index now (row + t * 1))) in
    let run : IsRun f base along.out along.len now next = subst (λ b. IsRun f b along.out along.len now next) (sym here) (subst (λ s. IsRun f out s along.len now next) (sym given.next_word) added) in
    subst (λ z. AreRowsMade rows along out left right z old next) (sym is)
    (turn_turns_more Grow rows (along ∷ []) (rows ∷ along ∷ []) out left right y old now next refl given.fit lt made
    (made_by_run f (turned Grow now (word_place (left + y * rows.left) (along.left ∷ [])) (word_place (right + y * rows.right) (along.right ∷ []))) base along.out along.len now next (omega (arith, given.next_word)) run
    (λ t. ap₂ wrapping_add
    (ap (slice_index now) (ap₂ (λ b s. b + t * s) (sym here) (sym given.next_word)))
    (ap₂ wrapping_mul
    (ap (slice_index now) (ap (λ k. k + t * 0) factor_is ∙ place_is (left + y * rows.left) along.left 0 t given.one_factor))
    (ap (slice_index now) (ap (λ k. k + t * 1) row_is ∙ place_is (right + y * rows.right) along.right 1 t given.one_row))))))

-- all rows
pub rows_made : (rows along : Loop) (out left right y : ℕ) (old new : List ℕ) → RowFit (length old) rows along out left right → y ≤ rows.len
    → AreRowsAdded out left rows.left right rows.right along.len y old new → AreRowsMade rows along out left right y old new
rows_made rows along out left right zero old new given le same =
    subst (λ now. AreRowsMade rows along out left right 0 old now) (sym same) (record { same_length = refl; made = λ k lt. refl })
rows_made rows along out left right (suc k) old new given le added =
    row_more rows along out left right k (suc k) (left + k * rows.left) (right + k * rows.right) old added.0 new given (omega arith) (omega arith) refl refl
    (rows_made rows along out left right k old added.0 given (omega arith) added.1) added.2

pub made_swapped : (left right place : List ℕ → ℕ) (turns : List (List ℕ)) (old new : List ℕ) → IsMade (turned Grow old left right) place turns old new → IsMade (turned Grow old right left) place turns old new
made_swapped left right place turns old new made =
    let same : turned Grow old left right ≡ turned Grow old right left =
    fun_ext (λ w. fun_ext (λ xs. ap (wrapping_add w) (times_comm (slice_index old (left xs)) (slice_index old (right xs))))) in
    subst (λ word. IsMade word place turns old new) same made
