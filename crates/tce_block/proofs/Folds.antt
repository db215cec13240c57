-- Folds over the turns of loops.
use Rattle.std.proofs.Common.{◌≡◌, ◌≢◌, ◌∙◌, refl, sym, ap, ℕ, zero, suc, ◌+◌, ◌-◌, ◌%◌, ◌^◌, ◌<◌, ◌≤◌, eqb, if◌then◌else◌, List, [], ◌∷◌, ◌++◌, map, inl, inr, arith, add_assoc, append_assoc, append-nil}
use Rattle.std.specs.List.{flat_map, range_with_len, fold, sum}
use Rattle.std.proofs.Math.Nat.{add-mod-mod, mod-add-mod}
use Rattle.std.proofs.lemmas.Bool.{cases_eq, eq-eqb, ne_eqb}
use Rattle.std.proofs.lemmas.List.Sums.{sum_by-cons}
use Rattle.tce_base.specs.Word.{wrapping_add, wrapping_sum}
use Rattle.tce_space.specs.Box.{places, IsInside}
use Rattle.tce_block.specs.Turns.{word_after}

-- what holds of each turn
abbrev pub Each : (List ℕ → Type 0) → List (List ℕ) → Type 0
Each P [] = Unit {0}
Each P (xs ∷ turns) = P xs × Each P turns

pub each_append : (P : List ℕ → Type 0) (turns others : List (List ℕ)) → Each P turns → Each P others → Each P (turns ++ others)
each_append P [] others h k = k
each_append P (xs ∷ turns) others h k = (h.0, each_append P turns others h.1 k)

pub each_map : (P Q : List ℕ → Type 0) (x : ℕ) (turns : List (List ℕ)) → ((xs : List ℕ) → P xs → Q (x ∷ xs)) → Each P turns → Each Q (map (λ xs. x ∷ xs) turns)
each_map P Q x [] h k = tt
each_map P Q x (xs ∷ turns) h k = (h xs k.0, each_map P Q x turns h k.1)

pub each_flat : (P : List ℕ → Type 0) (f : ℕ → List (List ℕ)) (a n m : ℕ) → a + n ≤ m → ((i : ℕ) → i < m → Each P (f i)) → Each P (flat_map f (range_with_len a n))
each_flat P f a zero m within h = tt
each_flat P f a (suc n) m within h = each_append P (f a) (flat_map f (range_with_len (a + 1) n)) (h a (omega arith)) (each_flat P f (a + 1) n m (omega arith) h)

-- the turns of the first x numbers of the outermost loop
abbrev pub turns_before : List ℕ → ℕ → List (List ℕ)
turns_before ns x = flat_map (λ y. map (λ xs. y ∷ xs) (places ns)) (range_with_len 0 x)

pub each_inside : (ns : List ℕ) → Each (IsInside ns) (places ns)
each_inside [] = (tt, tt)
each_inside (n ∷ ns) =
    each_flat (IsInside (n ∷ ns)) (λ y. map (λ xs. y ∷ xs) (places ns)) 0 n n (omega arith)
    (λ i lt. each_map (IsInside ns) (IsInside (n ∷ ns)) i (places ns) (λ xs h. (lt, h)) (each_inside ns))

pub each_before : (n : ℕ) (ns : List ℕ) (x : ℕ) → x ≤ n → Each (IsInside (n ∷ ns)) (turns_before ns x)
each_before n ns x within =
    each_flat (IsInside (n ∷ ns)) (λ y. map (λ xs. y ∷ xs) (places ns)) 0 x n (omega arith)
    (λ i lt. each_map (IsInside ns) (IsInside (n ∷ ns)) i (places ns) (λ xs h. (lt, h)) (each_inside ns))

pub flat_more : (f : ℕ → List (List ℕ)) (a n : ℕ) → flat_map f (range_with_len a (suc n)) ≡ flat_map f (range_with_len a n) ++ f (a + n)
flat_more f a zero = let here : a ≡ a + 0 = omega arith in append-nil (f a) ∙ ap f here
flat_more f a (suc n) =
    let next : a + 1 + n ≡ a + suc n = omega arith in
    ap (λ rest. f a ++ rest) (flat_more f (a + 1) n ∙ ap (λ i. flat_map f (range_with_len (a + 1) n) ++ f i) next)
    ∙ sym (append_assoc (f a) (flat_map f (range_with_len (a + 1) n)) (f (a + suc n)))

-- two folds whose steps are the same at each turn
pub fold_same : (P : List ℕ → Type 0) (f g : ℕ → List ℕ → ℕ) (w : ℕ) (turns : List (List ℕ)) → Each P turns → ((v : ℕ) (xs : List ℕ) → P xs → f v xs ≡ g v xs) → fold f w turns ≡ fold g w turns
fold_same P f g w [] h same = refl
fold_same P f g w (xs ∷ turns) h same = ap (λ v. fold f v turns) (same w xs h.0) ∙ fold_same P f g (g w xs) turns h.1 same

pub fold_under : (f : ℕ → List ℕ → ℕ) (x w : ℕ) (turns : List (List ℕ)) → fold f w (map (λ xs. x ∷ xs) turns) ≡ fold (λ v xs. f v (x ∷ xs)) w turns
fold_under f x w [] = refl
fold_under f x w (xs ∷ turns) = fold_under f x (f w (x ∷ xs)) turns

-- a fold that meets no turn at place k
pub fold_idle : (word : ℕ → List ℕ → ℕ) (place : List ℕ → ℕ) (k w : ℕ) (turns : List (List ℕ)) → Each (λ xs. place xs ≢ k) turns → word_after word place k w turns ≡ w
fold_idle word place k w [] h = refl
fold_idle word place k w (xs ∷ turns) h =
    ap (λ b. word_after word place k (if b then word w xs else w) turns) (ne_eqb (place xs) k h.0) ∙ fold_idle word place k w turns h.1

-- a loop alone
pub fold_single : (f : ℕ → List ℕ → ℕ) (w a n : ℕ) → fold f w (flat_map (λ x. map (λ xs. x ∷ xs) (places [])) (range_with_len a n)) ≡ fold (λ v x. f v (x ∷ [])) w (range_with_len a n)
fold_single f w a zero = refl
fold_single f w a (suc n) = fold_single f (f w (a ∷ [])) (a + 1) n

abbrev pub after_range : (ℕ → ℕ → ℕ) → (ℕ → ℕ) → ℕ → ℕ → ℕ → ℕ → ℕ
after_range word place k w a n = fold (λ v x. if eqb (place x) k then word v x else v) w (range_with_len a n)

pub range_idle : (word : ℕ → ℕ → ℕ) (place : ℕ → ℕ) (k w a n : ℕ) → ((s : ℕ) → a ≤ s → s < a + n → place s ≢ k) → after_range word place k w a n ≡ w
range_idle word place k w a zero h = refl
range_idle word place k w a (suc n) h =
    ap (λ b. after_range word place k (if b then word w a else w) (a + 1) n) (ne_eqb (place a) k (h a (omega arith) (omega arith)))
    ∙ range_idle word place k w (a + 1) n (λ s from below. h s (omega arith) (omega arith))

pub range_once : (word : ℕ → ℕ → ℕ) (place : ℕ → ℕ) (k w t a n : ℕ) → a ≤ t → t < a + n → place t ≡ k → ((s : ℕ) → s ≢ t → place s ≢ k) → after_range word place k w a n ≡ word w t
range_once word place k w t a zero from below is others = absurd (omega arith)
range_once word place k w t a (suc n) from below is others =
    elim (cases_eq a t) [
      | inl here ↦
          ap (λ b. after_range word place k (if b then word w a else w) (a + 1) n) (eq-eqb (place a) k (ap place here ∙ is))
          ∙ range_idle word place k (word w a) (a + 1) n (λ s past low. others s (λ same. omega arith))
          ∙ ap (word w) here
      | inr other ↦
          ap (λ b. after_range word place k (if b then word w a else w) (a + 1) n) (ne_eqb (place a) k (others a other))
          ∙ range_once word place k w t (a + 1) n (let ne : a ≢ t = other in omega arith) (omega arith) is others
    ]

-- each turn at place k
pub range_every : (word : ℕ → ℕ → ℕ) (place : ℕ → ℕ) (k w a n : ℕ) → ((s : ℕ) → place s ≡ k) → after_range word place k w a n ≡ fold word w (range_with_len a n)
range_every word place k w a zero same = refl
range_every word place k w a (suc n) same =
    ap (λ b. after_range word place k (if b then word w a else w) (a + 1) n) (eq-eqb (place a) k (same a)) ∙ range_every word place k (word w a) (a + 1) n same

-- one number more
pub range_more : (f : ℕ → ℕ → ℕ) (w a n : ℕ) → fold f w (range_with_len a (suc n)) ≡ f (fold f w (range_with_len a n)) (a + n)
range_more f w a zero = let here : a ≡ a + 0 = omega arith in ap (f w) here
range_more f w a (suc n) =
    range_more f (f w a) (a + 1) n ∙ (let there : a + 1 + n ≡ a + suc n = omega arith in ap (f (fold f (f w a) (range_with_len (a + 1) n))) there)

-- the last turn alone
pub range_last : (f : ℕ → ℕ) (w a n : ℕ) → 0 < n → fold (λ v x. f x) w (range_with_len a n) ≡ f (a + (n - 1))
range_last f w a zero some = absurd (omega arith)
range_last f w a (suc zero) some = let here : a ≡ a + (1 - 1) = omega arith in ap f here
range_last f w a (suc (suc n)) some = range_last f (f a) (a + 1) (suc n) (omega arith) ∙ (let there : a + 1 + (suc n - 1) ≡ a + (suc (suc n) - 1) = omega arith in ap f there)

-- sums of words
cons_sum : (w y : ℕ) (ys : List ℕ) → wrapping_add (wrapping_add w y) (wrapping_sum ys) ≡ wrapping_add w (wrapping_sum (y ∷ ys))
unfolding wrapping_add wrapping_sum
cons_sum w y ys =
    mod-add-mod (w + y) (2 ^ 64) (sum ys % 2 ^ 64) ∙ add-mod-mod (w + y) (sum ys) (2 ^ 64)
    ∙ ap (λ n. n % 2 ^ 64) (add_assoc w y (sum ys)) ∙ sym (add-mod-mod w (y + sum ys) (2 ^ 64))
    ∙ ap (λ n. (w + n % 2 ^ 64) % 2 ^ 64) (sym (sum_by-cons (λ x. x) y ys))

one_sum : (w y : ℕ) → wrapping_add w y ≡ wrapping_add w (wrapping_sum (y ∷ []))
unfolding wrapping_add wrapping_sum
one_sum w y =
    sym (add-mod-mod w y (2 ^ 64)) ∙ ap (λ n. (w + n % 2 ^ 64) % 2 ^ 64) alone
  where
    alone : y ≡ sum (y ∷ [])
    alone = omega arith

pub range_sum : (f : ℕ → ℕ) (w a n : ℕ) → 0 < n → fold (λ v x. wrapping_add v (f x)) w (range_with_len a n) ≡ wrapping_add w (wrapping_sum (map f (range_with_len a n)))
range_sum f w a zero some = absurd (omega arith)
range_sum f w a (suc zero) some = one_sum w (f a)
range_sum f w a (suc (suc n)) some = range_sum f (wrapping_add w (f a)) (a + 1) (suc n) (omega arith) ∙ cons_sum w (f a) (map f (range_with_len (a + 1) (suc n)))
