-- Loops that stand in their places already.
use Rattle.std.proofs.Common.{◌≡◌, ℕ, List, slice_index_or, slice_set, sym, ap, ◌∙◌}
use Rattle.std.proofs.lemmas.List.{set-get_or}
use Rattle.tce_block.specs.declared.loops.Loop.{Loop}
use Rattle.tce_block.specs.declared.loops.SumLoop.{SumLoop}

same_pair : (x y : Loop) → x.len ≡ y.len → x.out ≡ y.out → x.left ≡ y.left → x.right ≡ y.right → x ≡ y
same_pair x y len out left right =
    ap (λ (n : ℕ). record x { len = n }) len ∙ ap (λ (n : ℕ). record x { len = y.len; out = n }) out ∙ ap (λ (n : ℕ). record y { left = n; right = x.right }) left ∙ ap (λ (n : ℕ). record y { right = n }) right

same_sum : (x y : SumLoop) → x.len ≡ y.len → x.out ≡ y.out → x.operand ≡ y.operand → x ≡ y
same_sum x y len out operand =
    ap (λ (n : ℕ). record x { len = n }) len ∙ ap (λ (n : ℕ). record x { len = y.len; out = n }) out ∙ ap (λ (n : ℕ). record y { operand = n }) operand

pub pair_stands : (loops : List Loop) (d : ℕ) (next e : Loop) → (slice_index_or loops d e).len ≡ next.len → (slice_index_or loops d e).out ≡ next.out → (slice_index_or loops d e).left ≡ next.left
    → (slice_index_or loops d e).right ≡ next.right → loops ≡ slice_set loops d next
pair_stands loops d next e len out left right = sym (set-get_or loops d e) ∙ ap (slice_set loops d) (same_pair (slice_index_or loops d e) next len out left right)

pub sum_stands : (loops : List SumLoop) (d : ℕ) (next e : SumLoop) → (slice_index_or loops d e).len ≡ next.len → (slice_index_or loops d e).out ≡ next.out → (slice_index_or loops d e).operand ≡ next.operand
    → loops ≡ slice_set loops d next
sum_stands loops d next e len out operand = sym (set-get_or loops d e) ∙ ap (slice_set loops d) (same_sum (slice_index_or loops d e) next len out operand)
