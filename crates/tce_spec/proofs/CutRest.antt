-- What is left of a tree has the dims of the tree.
use Rattle.std.proofs.Common.{◌≡◌, ℕ, ◌+◌, refl, ap, ap₂, inl, inr}
use Rattle.std.proofs.lemmas.Bool.{cases_Bool}
use Rattle.tce_space.specs.IndexSet.{has, set_of, minus, union}
use Rattle.tce_space.proofs.Members.{set_of_members}
use Rattle.tce_tree.specs.ContractionTree.{ContractionTree, leaf, constant, binary, sum, dims, operations}
use Rattle.tce_tree.proofs.Members.{dims_lt}
use Rattle.tce_spec.specs.Pieces.{Cuts, unless_cut, rest_of}

dims_unless : (cut : Cuts) (v : ℕ) (c rest : ContractionTree) → dims rest ≡ dims c → dims (unless_cut cut v c rest) ≡ dims c
dims_unless cut v c rest same = elim (cases_Bool (cut v)) [ inl t ↦ rw t (set_of_members (dims c) (dims_lt c)) | inr f ↦ rw f same ]

pub dims_rest : (cut : Cuts) (c : ContractionTree) (first : ℕ) → dims (rest_of cut first c) ≡ dims c
dims_rest cut (leaf tensor indexes) first = refl
dims_rest cut (constant number) first = refl
dims_rest cut (binary op l r) first =
    dims_unless cut (first + operations l + operations r) (binary op l r) (binary op (rest_of cut first l) (rest_of cut (first + operations l) r))
    (ap₂ union (dims_rest cut l first) (dims_rest cut r (first + operations l)))
dims_rest cut (sum is e) first =
    dims_unless cut (first + operations e) (sum is e) (sum is (rest_of cut first e)) (ap (λ s. minus s (set_of is)) (dims_rest cut e first))
