-- What an operation of a number and of words leaves along a row whose words follow one another.
use Rattle.std.proofs.Common.{◌≡◌, ℕ, zero, suc, add-one, ◌+◌, ◌-◌, ◌*◌, ◌<◌, ◌≤◌, List, [], ◌∷◌, length, slice_index, slice_set, refl, sym, ap, ap₂, ◌∙◌, subst, inl, inr, arith}
use Rattle.std.proofs.lemmas.Bool.{cases_lt}
use Rattle.std.proofs.lemmas.List.{ext_get_or}
use Rattle.tce_tree.specs.declared.node.Kind.{Kind}
use Rattle.tce_words.specs.Run.{AreApart, word_along as word_of_run}
use Rattle.tce_words.specs.Runs.{IsBeside, IsMapped}
use Rattle.tce_words.proofs.RunSteps.{unread, run_more}
use Rattle.tce_exec.specs.ChainRows.{after_row, IsFlat, IsLinkAlong}
use Rattle.tce_exec.specs.Links.{word_along}
use Rattle.tce_exec.specs.Operands.{combined}
use Rattle.tce_exec.specs.declared.links.Source.TheVariants.{Number, Words}
use Rattle.tce_exec.specs.declared.links.Link.{Link}
use Rattle.tce_exec.specs.declared.window.Window.{Window}

beside_apart : (out n a : ℕ) → IsBeside out n a n → AreApart out 1 a 1 n
beside_apart out n a (inl before) s t low below same = omega arith
beside_apart out n a (inr behind) s t low below same = omega arith

-- one word after the other
so_far : (f : ℕ → ℕ) (l : Link) (w : Window) (index n k : ℕ) (words : List ℕ) → IsFlat index n l.out w → ((by : ℕ) → by < n → IsLinkAlong (length words) index by l)
    → ((ws : List ℕ) (by : ℕ) → combined l.kind (word_along ws index by l.left) (word_along ws index by l.right) ≡ f (slice_index ws (w.first + by * slice_index w.steps index)))
    → k ≤ n → IsMapped f l.out.first w.first k words (after_row (l ∷ []) index k words)
so_far f l w index n zero words flat within value le = record { same_length = refl; made = λ t lt. absurd (omega (arith, lt)); others = λ j none. refl }
so_far f l w index n (suc k) words flat within value le =
    let before = so_far f l w index n k words flat within value (omega (arith, le)) in
    let mid : List ℕ = after_row (l ∷ []) index k words in
    let put : ℕ = combined l.kind (word_along mid index k l.left) (word_along mid index k l.right) in
    let place : l.out.first + k * slice_index l.out.steps index ≡ l.out.first + k * 1 = ap (λ s. l.out.first + k * s) flat.out_step in
    let room = (within k (omega (arith, le))).out in
    let read : put ≡ f (word_of_run words w.first 1 k) =
    (value mid k ∙ ap (λ s. f (slice_index mid (w.first + k * s))) flat.step
    ∙ ap f (unread (λ t. f (word_of_run words w.first 1 t)) l.out.first 1 w.first 1 k n words mid before (beside_apart l.out.first n w.first flat.beside) (omega (arith, le)))) in
    let more = run_more (λ t. f (word_of_run words w.first 1 t)) l.out.first 1 k n put words mid before (λ s t lt below same. omega arith) (omega (arith, le)) (omega (arith, room, place)) read in
    subst (λ m. IsMapped f l.out.first w.first m words (after_row (l ∷ []) index (suc k) words)) (add-one k)
    (subst (λ at. IsMapped f l.out.first w.first (k + 1) words (slice_set mid at put)) (sym place) more)

-- a run has one outcome
one_outcome : (f : ℕ → ℕ) (out a n : ℕ) (words new other : List ℕ) → IsMapped f out a n words new → IsMapped f out a n words other → new ≡ other
one_outcome f out a n words new other h g =
    ext_get_or 0 new other (h.same_length ∙ sym g.same_length) (λ j lt. elim (cases_lt j out) [
      | inl before ↦ h.others j (λ t low same. omega arith) ∙ sym (g.others j (λ t low same. omega arith))
      | inr from ↦ elim (cases_lt j (out + n)) [
        | inl within ↦ (let place : j ≡ out + (j - out) * 1 = omega arith in
            ap (slice_index new) place ∙ h.made (j - out) (omega arith) ∙ sym (g.made (j - out) (omega arith)) ∙ sym (ap (slice_index other) place))
        | inr beyond ↦ h.others j (λ t low same. omega arith) ∙ sym (g.others j (λ t low same. omega arith))
      ]
    ])

pub flat_row : (f : ℕ → ℕ) (l : Link) (w : Window) (index n : ℕ) (words new : List ℕ) → IsFlat index n l.out w → ((by : ℕ) → by < n → IsLinkAlong (length words) index by l)
    → ((ws : List ℕ) (by : ℕ) → combined l.kind (word_along ws index by l.left) (word_along ws index by l.right) ≡ f (slice_index ws (w.first + by * slice_index w.steps index)))
    → IsMapped f l.out.first w.first n words new → new ≡ after_row (l ∷ []) index n words
flat_row f l w index n words new flat within value made =
    one_outcome f l.out.first w.first n words new (after_row (l ∷ []) index n words) made (so_far f l w index n n words flat within value (omega arith))

-- what a turn makes of a number and of a word
pub number_first : (f : ℕ → ℕ) (k : Kind) (l : Link) (w : Window) (number index : ℕ) → l.kind ≡ k → l.left ≡ Number number → l.right ≡ Words w → ((x : ℕ) → combined k number x ≡ f x)
    → (ws : List ℕ) (by : ℕ) → combined l.kind (word_along ws index by l.left) (word_along ws index by l.right) ≡ f (slice_index ws (w.first + by * slice_index w.steps index))
number_first f k l w number index kind left right same ws by =
    ap₂ (combined l.kind) (ap (word_along ws index by) left) (ap (word_along ws index by) right)
    ∙ ap (λ kind. combined kind number (slice_index ws (w.first + by * slice_index w.steps index))) kind
    ∙ same (slice_index ws (w.first + by * slice_index w.steps index))

pub number_second : (f : ℕ → ℕ) (k : Kind) (l : Link) (w : Window) (number index : ℕ) → l.kind ≡ k → l.left ≡ Words w → l.right ≡ Number number → ((x : ℕ) → combined k x number ≡ f x)
    → (ws : List ℕ) (by : ℕ) → combined l.kind (word_along ws index by l.left) (word_along ws index by l.right) ≡ f (slice_index ws (w.first + by * slice_index w.steps index))
number_second f k l w number index kind left right same ws by =
    ap₂ (combined l.kind) (ap (word_along ws index by) left) (ap (word_along ws index by) right)
    ∙ ap (λ kind. combined kind (slice_index ws (w.first + by * slice_index w.steps index)) number) kind
    ∙ same (slice_index ws (w.first + by * slice_index w.steps index))
