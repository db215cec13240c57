-- What the loops of a node make of one place: its value.
use Rattle.std.proofs.Common.{◌≡◌, ℕ, zero, suc, ◌<◌, ◌≤◌, Bool, true, false, not, eqb, List, [], ◌∷◌, filter, refl, sym, ap, ◌∙◌, inl, inr, arith}
use Rattle.std.specs.Prelude.{bytes_eq}
use Rattle.std.proofs.lemmas.Bool.{true≢false, ne_eqb, cases_eq, eq-eqb, cases_Bool, or_left, or_right, or_parts}
use Rattle.tce_space.specs.IndexSet.{has}
use Rattle.tce_base.specs.Word.{wrapping_add}
use Rattle.tce_base.proofs.Words.{plus_assoc, plus-lt, plus-zero}
use Rattle.tce_tree.specs.Value.{Assignment, with_number, sum_below, sum_over}
use Rattle.tce_code.specs.Execution.{coordinates, repeated}
use Rattle.tce_tree.specs.WellFormed.{among, is_distinct}
use Rattle.tce_tree.proofs.Lists.{distinct_first, distinct_later}
use Rattle.tce_tree.proofs.Assignments.{with-same, with-other}
use Rattle.tce_code.proofs.Frames.{repeated_keeps}
use Rattle.tce_code.proofs.Words.{IsWord}
use Rattle.tce_code.proofs.Places.{coordinates-same, coordinates-other}
use Rattle.tce_code.proofs.Readings.{nest_word}

-- one turn counts where the others do nothing
repeated-idle : {X : Type 0} (n m : ℕ) (turn : ℕ → X → X) (x : X) → n ≤ m → ((k : ℕ) (y : X) → (k ≡ m → ⊥) → turn k y ≡ y)
    → repeated n turn x ≡ x
repeated-idle zero m turn x l idle = refl
repeated-idle (suc n) m turn x l idle =
    idle n (repeated n turn x) (λ e. omega arith) ∙ repeated-idle n m turn x (omega arith) idle

repeated-one : {X : Type 0} (n m : ℕ) (turn : ℕ → X → X) (x : X) → m < n → ((k : ℕ) (y : X) → (k ≡ m → ⊥) → turn k y ≡ y)
    → repeated n turn x ≡ turn m x
repeated-one zero m turn x l idle = absurd (omega arith)
repeated-one (suc n) m turn x l idle =
    elim (cases_eq n m) [
      | inl e ↦ ap (turn n) (repeated-idle n m turn x (omega arith) idle) ∙ ap (λ k. turn k x) e
      | inr e ↦ idle n (repeated n turn x) e ∙ repeated-one n m turn x (omega arith) idle
    ]

pub repeated-plus : (n : ℕ) (turn : ℕ → ℕ → ℕ) (g : ℕ → ℕ) (w : ℕ) → IsWord w
    → ((k y : ℕ) → k < n → IsWord y → turn k y ≡ wrapping_add y (g k)) → repeated n turn w ≡ wrapping_add w (sum_below n g)
repeated-plus zero turn g w h more = sym (plus-zero w h)
repeated-plus (suc n) turn g w h more =
    ap (turn n) (repeated-plus n turn g w h (λ k y l. more k y (omega arith)))
    ∙ more n (wrapping_add w (sum_below n g)) (omega arith) (plus-lt w (sum_below n g))
    ∙ plus_assoc w (sum_below n g) (g n)

-- whether an assignment falls on the place of `b`
abbrev pub hits : ℕ → Assignment → Assignment → Bool
hits set b a = bytes_eq (coordinates set b) (coordinates set a)

abbrev pub IsBelowLimit : ℕ → Type 0
IsBelowLimit set = (i : ℕ) → has set i ≡ true → i < 24

-- loops that leave a number of the place alone miss places with another number there
pub nest_word-miss : (extent : ℕ → ℕ) (set : ℕ) (turn : Assignment → ℕ → ℕ) (b : Assignment) (j : ℕ) → has set j ≡ true → j < 24
    → (rest : List ℕ) → among rest j ≡ false → (a : Assignment) (old : ℕ) → (a j ≡ b j → ⊥)
    → nest_word extent (hits set b) turn rest a old ≡ old
nest_word-miss extent set turn b j has_j low [] out a old ne = rw (coordinates-other set b a j has_j low (λ q. ne (sym q))) refl
nest_word-miss extent set turn b j has_j low (i ∷ rest) out a old ne =
    let parts = or_parts (eqb i j) (among rest j) out in
    repeated_keeps (λ w. w ≡ old) (extent i) (λ x w. nest_word extent (hits set b) turn rest (with_number a i x) w) old refl
    (λ k y l e. nest_word-miss extent set turn b j has_j low rest parts.1 (with_number a i k) y
    (λ q. ne (sym (with-other a i k j (λ r. true≢false (sym (eq-eqb i j (sym r)) ∙ parts.0))) ∙ q)) ∙ e)

-- the turns of a loop over an index of the place, but one, do nothing
pub loop-one : (extent : ℕ → ℕ) (set : ℕ) (turn : Assignment → ℕ → ℕ) (b : Assignment) (i : ℕ) (rest : List ℕ) (a : Assignment) (old : ℕ)
    → IsBelowLimit set → has set i ≡ true → among rest i ≡ false → b i < extent i
    → nest_word extent (hits set b) turn (i ∷ rest) a old ≡ nest_word extent (hits set b) turn rest (with_number a i (b i)) old
loop-one extent set turn b i rest a old low has_i out l =
    repeated-one (extent i) (b i) (λ x w. nest_word extent (hits set b) turn rest (with_number a i x) w) old l
    (λ k y ne. nest_word-miss extent set turn b i has_i (low i has_i) rest out (with_number a i k) y (λ q. ne (sym (with-same a i k) ∙ q)))

-- loops over indexes of the place alone: the last word is that at the place's own numbers
pub nest_word-set : (extent : ℕ → ℕ) (set : ℕ) (test : ℕ → Bool) (f : Assignment → ℕ) (b : Assignment) → IsBelowLimit set
    → ((i : ℕ) → has set i ≡ true → test i ≡ true)
    → ((y z : Assignment) → ((i : ℕ) → test i ≡ true → y i ≡ z i) → f y ≡ f z)
    → (rest : List ℕ) → is_distinct rest ≡ true → ((i : ℕ) → among rest i ≡ true → has set i ≡ true)
    → ((i : ℕ) → among rest i ≡ true → b i < extent i)
    → (a : Assignment) (old : ℕ) → ((i : ℕ) → test i ≡ true → among rest i ≡ false → a i ≡ b i)
    → nest_word extent (hits set b) (λ z w. f z) rest a old ≡ f b
nest_word-set extent set test f b low within depends [] d inside l a old h =
    rw (coordinates-same set b a (λ i m. sym (h i (within i m) refl))) (depends a b (λ i t. h i t refl))
nest_word-set extent set test f b low within depends (i ∷ rest) d inside l a old h =
    loop-one extent set (λ z w. f z) b i rest a old low (inside i first) (distinct_first i rest d) (l i first)
    ∙ nest_word-set extent set test f b low within depends rest (distinct_later i rest d)
    (λ j m. inside j (or_right (eqb i j) (among rest j) m)) (λ j m. l j (or_right (eqb i j) (among rest j) m)) (with_number a i (b i)) old
    (λ j t m. elim (cases_eq j i) [
      | inl q ↦ rw q (with-same a i (b i))
      | inr q ↦ with-other a i (b i) j q ∙ h j t (rw (ne_eqb i j (λ r. q (sym r))) m)
    ])
  where
    first : among (i ∷ rest) i ≡ true
    first = or_left (eqb i i) (among rest i) (eq-eqb i i refl)

-- loops that also go over other indexes: the word grows by the sum over these
pub nest_word-sum : (extent : ℕ → ℕ) (set : ℕ) (test : ℕ → Bool) (f : Assignment → ℕ) (b : Assignment) → IsBelowLimit set
    → ((i : ℕ) → has set i ≡ true → test i ≡ true)
    → ((y z : Assignment) → ((i : ℕ) → test i ≡ true → y i ≡ z i) → f y ≡ f z)
    → (rest : List ℕ) → is_distinct rest ≡ true
    → ((i : ℕ) → among rest i ≡ true → has set i ≡ true → b i < extent i)
    → (a c : Assignment) (old : ℕ) → IsWord old → ((i : ℕ) → test i ≡ true → among rest i ≡ false → a i ≡ c i)
    → ((i : ℕ) → has set i ≡ true → c i ≡ b i)
    → nest_word extent (hits set b) (λ z w. wrapping_add w (f z)) rest a old
    ≡ wrapping_add old (sum_over extent (filter (λ i. not (has set i)) rest) f c)
nest_word-sum extent set test f b low within depends [] d l a c old word_old h on =
    rw (coordinates-same set b a (λ i m. sym (h i (within i m) refl ∙ on i m))) (ap (wrapping_add old) (depends a c (λ i t. h i t refl)))
nest_word-sum extent set test f b low within depends (i ∷ rest) d l a c old word_old h on =
    elim (cases_Bool (has set i)) [
      | inl t ↦
          loop-one extent set (λ z w. wrapping_add w (f z)) b i rest a old low t (distinct_first i rest d) (l i first t)
          ∙ nest_word-sum extent set test f b low within depends rest (distinct_later i rest d)
          (λ j m. l j (or_right (eqb i j) (among rest j) m)) (with_number a i (b i)) c old word_old
          (λ j k m. elim (cases_eq j i) [
            | inl q ↦ rw q (with-same a i (b i) ∙ sym (on i t))
            | inr q ↦ with-other a i (b i) j q ∙ h j k (rw (ne_eqb i j (λ r. q (sym r))) m)
          ]) on
          ∙ (rw t refl)
      | inr t ↦
          repeated-plus (extent i) (λ x w. nest_word extent (hits set b) (λ z y. wrapping_add y (f z)) rest (with_number a i x) w)
          (λ x. sum_over extent (filter (λ j. not (has set j)) rest) f (with_number c i x)) old word_old
          (λ x y k word_y. nest_word-sum extent set test f b low within depends rest (distinct_later i rest d)
          (λ j m. l j (or_right (eqb i j) (among rest j) m)) (with_number a i x) (with_number c i x) y word_y
          (λ j m o. elim (cases_eq j i) [
            | inl q ↦ rw q (with-same a i x ∙ sym (with-same c i x))
            | inr q ↦ with-other a i x j q ∙ h j m (rw (ne_eqb i j (λ r. q (sym r))) o) ∙ sym (with-other c i x j q)
          ])
          (λ j m. with-other c i x j (λ q. true≢false (sym m ∙ ap (has set) q ∙ t)) ∙ on j m))
          ∙ (rw t refl)
    ]
  where
    first : among (i ∷ rest) i ≡ true
    first = or_left (eqb i i) (among rest i) (eq-eqb i i refl)
