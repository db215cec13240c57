-- The slots stand one behind the other.
use Rattle.std.proofs.Common.{◌≡◌, ℕ, zero, suc, ◌+◌, ◌-◌, ◌<◌, ◌≤◌, not, List, [], ◌∷◌, ◌++◌, length, refl, sym, ap, ◌∙◌, subst, inl, inr, arith, length-append}
use Rattle.std.proofs.lemmas.Bool.{cases_eq, and_parts}
use Rattle.std.proofs.lemmas.List.{get_or_append_left, get_or-append-add}
use Rattle.std.proofs.lemmas.List.Sums.{sum_by_push}
use Rattle.std.specs.List.{sum_by, range_with_len}
use Rattle.tce_space.specs.IndexSet.{has}
use Rattle.tce_space.specs.Space.{IndexSpace, IsSpace, IsDeclared, volume_of}
use Rattle.tce_space.proofs.IndexSetLaws.{has-minus}
use Rattle.tce_space.proofs.Ranges.{range_next}
use Rattle.tce_tree.specs.ContractionTree.{ContractionTree, operations, node_dims}
use Rattle.tce_tree.specs.Fusion.{fused_at, kept_dims}
use Rattle.tce_tree.specs.Measure.{IsMeasured}
use Rattle.tce_tree.proofs.NamedIndexes.{node_dims_declared}
use Rattle.tce_tree.specs.Memory.{size_at, size_before, memory}
use Rattle.tce_layout.specs.Layout.{IsSlot, slot_at, no_slot}
use Rattle.tce_layout.specs.declared.slot.Slot.{Slot}

pub before_next : (space : IndexSpace) (tree : ContractionTree) (fusion : List ℕ) (v : ℕ)
    → size_before space tree fusion (v + 1) ≡ size_before space tree fusion v + size_at space tree fusion v
unfolding size_before
before_next space tree fusion v = ap (sum_by (size_at space tree fusion)) (range_next v) ∙ sum_by_push (size_at space tree fusion) (range_with_len 0 v) v

pub before_le : (space : IndexSpace) (tree : ContractionTree) (fusion : List ℕ) (a b : ℕ) → a ≤ b → size_before space tree fusion a ≤ size_before space tree fusion b
before_le space tree fusion a zero l = let same : a ≡ 0 = omega arith in omega (arith, ap (size_before space tree fusion) same)
before_le space tree fusion a (suc b) l =
    elim (cases_eq a (suc b)) [
      | inl e ↦ omega (arith, ap (size_before space tree fusion) e)
      | inr e ↦
          let next : b + 1 ≡ suc b = omega arith in
          omega (arith, before_le space tree fusion a b (omega arith), before_next space tree fusion b, ap (size_before space tree fusion) next)
    ]

-- the slots of the nodes below `n`
pub record AreSlots (space : IndexSpace) (tree : ContractionTree) (fusion : List ℕ) (n : ℕ) (slots : List Slot) : Type 0 where
  pub each : length slots ≡ n
  pub slot : (v : ℕ) → v < n → IsSlot space (kept_dims tree fusion v) (size_before space tree fusion v) (slot_at slots v)

pub one_more : (space : IndexSpace) (tree : ContractionTree) (fusion : List ℕ) (n : ℕ) (slots all : List Slot) (slot : Slot) → all ≡ slots ++ slot ∷ []
    → IsSlot space (kept_dims tree fusion n) (size_before space tree fusion n) slot → AreSlots space tree fusion n slots → AreSlots space tree fusion (n + 1) all
one_more space tree fusion n slots all slot e here are =
    subst (AreSlots space tree fusion (n + 1)) (sym e) (record {
      each = omega (arith, are.each, length-append slots (slot ∷ []));
      slot = λ v l. elim (cases_eq v n) [
        | inl q ↦ subst (λ u. IsSlot space (kept_dims tree fusion u) (size_before space tree fusion u) (slot_at (slots ++ slot ∷ []) u)) (sym q)
            (subst (IsSlot space (kept_dims tree fusion n) (size_before space tree fusion n)) (sym last) here)
        | inr q ↦ subst (IsSlot space (kept_dims tree fusion v) (size_before space tree fusion v))
            (sym (get_or_append_left slots (slot ∷ []) no_slot v (omega (arith, are.each)))) (are.slot v (omega arith))
      ];
    })
  where
    last : slot_at (slots ++ slot ∷ []) n ≡ slot
    last =
        let place : n ≡ length slots + 0 = omega (arith, are.each) in
        ap (slot_at (slots ++ slot ∷ [])) place ∙ get_or-append-add slots (slot ∷ []) 0 no_slot

-- before the first slot
pub no_slots : (space : IndexSpace) (tree : ContractionTree) (fusion : List ℕ) (slots : List Slot) → slots ≡ [] → AreSlots space tree fusion 0 slots
no_slots space tree fusion slots e = record { each = ap length e; slot = λ v l. absurd (omega arith) }

pub before_first : (space : IndexSpace) (tree : ContractionTree) (fusion : List ℕ) → 0 ≡ size_before space tree fusion 0
unfolding size_before
before_first space tree fusion = refl

-- what a node keeps is declared
pub kept_declared : (space : IndexSpace) (tree : ContractionTree) (fusion : List ℕ) (v : ℕ) → IsSpace space → IsMeasured space tree → v < operations tree
    → IsDeclared space (kept_dims tree fusion v)
unfolding kept_dims
kept_declared space tree fusion v s m h i k =
    node_dims_declared space tree v h s.index_limit m.declared i
    (and_parts (has (node_dims tree v) i) (not (has (fused_at fusion v) i)) (sym (has-minus (node_dims tree v) (fused_at fusion v) i) ∙ k)).0

pub size_is : (space : IndexSpace) (tree : ContractionTree) (fusion : List ℕ) (v : ℕ) → volume_of space (kept_dims tree fusion v) ≡ size_at space tree fusion v
unfolding size_at
size_is space tree fusion v = refl

-- a slot ends within the sum of the sizes
pub slot_within : (space : IndexSpace) (tree : ContractionTree) (fusion : List ℕ) (v : ℕ) → v + 1 < operations tree
    → size_before space tree fusion v + volume_of space (kept_dims tree fusion v) ≤ memory space tree fusion
unfolding memory
slot_within space tree fusion v l =
    omega (arith, size_is space tree fusion v, before_next space tree fusion v, before_le space tree fusion (v + 1) (operations tree - 1) (omega arith))
