-- What is known of an einsum and a path that were read.
use Rattle.std.proofs.Common.{ℕ, ◌≤◌, List, length, subst}
use Rattle.std.specs.Borrow.{Bor}
use Rattle.std.proofs.lemmas.List.{length-map}
use Rattle.tce_einsum.specs.Path.{Leave}
use Rattle.tce_einsum.specs.Input.{IsInput}
use Rattle.tce_einsum.specs.Code as code
use Rattle.tce_einsum.specs.declared.text.Einsum.{Einsum}
use Rattle.tce_einsum.specs.declared.path.Item.{Item}
use Rattle.tce_einsum.proofs.FewSizes.{sizes_are_few, paths_leave_one_entry}

pub few_read : (text path : List ℕ) (e : Einsum) (is : List Item) → IsInput text path (code.einsum e) (code.items is) → length e.sizes.items ≤ 26
few_read text path e is input = subst (λ n. n ≤ 26) (length-map e.sizes.items code.size) (sizes_are_few text path (code.einsum e) (code.items is) input)

pub leave_read : (text path : List ℕ) (e : Einsum) (is : List Item) → IsInput text path (code.einsum e) (code.items is) → Leave (length e.operands.items) (code.items is) 1
leave_read text path e is input =
    subst (λ n. Leave n (code.items is) 1) (length-map e.operands.items (λ (b : Bor (List ℕ)). b.now)) (paths_leave_one_entry text path (code.einsum e) (code.items is) input)
