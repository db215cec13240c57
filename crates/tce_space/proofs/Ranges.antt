-- The numbers below a limit, with one number more.
use Rattle.std.proofs.Common.{◌≡◌, ℕ, ◌+◌, [], ◌∷◌, ◌++◌, ap, ◌∙◌, zero-add, add-one, Bool, true, cond, false, append-nil, sum_by}
use Rattle.std.specs.List.{range_with_len, filter}
use Rattle.std.proofs.lemmas.List.Elements.{filter-append}
use Rattle.std.proofs.lemmas.List.Sums.{sum_by_push}
use Rattle.tce_space.proofs.IndexSetLaws.{range_more}

pub range_next : (i : ℕ) → range_with_len 0 (i + 1) ≡ range_with_len 0 i ++ i ∷ []
range_next i = ap (range_with_len 0) (add-one i) ∙ range_more 0 i ∙ ap (λ k. range_with_len 0 i ++ k ∷ []) (zero-add i)

pub filter_one : (p : ℕ → Bool) (i : ℕ) → p i ≡ true → filter p (range_with_len 0 (i + 1)) ≡ filter p (range_with_len 0 i) ++ i ∷ []
filter_one p i h =
    ap (filter p) (range_next i) ∙ filter-append p (range_with_len 0 i) (i ∷ []) ∙ ap (λ b. filter p (range_with_len 0 i) ++ cond b (i ∷ []) []) h

pub filter_same : (p : ℕ → Bool) (i : ℕ) → p i ≡ false → filter p (range_with_len 0 (i + 1)) ≡ filter p (range_with_len 0 i)
filter_same p i h =
    ap (filter p) (range_next i) ∙ filter-append p (range_with_len 0 i) (i ∷ []) ∙ ap (λ b. filter p (range_with_len 0 i) ++ cond b (i ∷ []) []) h
    ∙ append-nil (filter p (range_with_len 0 i))

pub sum_next : (f : ℕ → ℕ) (n : ℕ) → sum_by f (range_with_len 0 (n + 1)) ≡ sum_by f (range_with_len 0 n) + f n
sum_next f n = ap (sum_by f) (range_next n) ∙ sum_by_push f (range_with_len 0 n) n
