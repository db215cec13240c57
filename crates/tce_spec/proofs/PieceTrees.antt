-- What the tree of a piece keeps of the whole tree.
use Rattle.std.proofs.Common.{◌≡◌, ℕ, ◌+◌, ◌-◌, ◌<◌, ◌≤◌, ◌^◌, true, length, ltb, lt-ltb, refl, sym, ap, ap₂, subst, inl, inr, arith}
use Rattle.std.specs.List.{list_all}
use Rattle.std.proofs.lemmas.Bool.{cases_Bool, cases_lt, and_parts, and_from}
use Rattle.tce_space.specs.IndexSet.{members, union, minus, set_of}
use Rattle.tce_tree.specs.ContractionTree.{ContractionTree, leaf, constant, binary, sum, dims, operations, node}
use Rattle.tce_tree.specs.WellFormed.{is_distinct, indexes_below, sums_distinct}
use Rattle.tce_tree.proofs.Lists.{all-among}
use Rattle.tce_tree.proofs.Members.{dims_lt}
use Rattle.tce_tree.proofs.NamedIndexes.{dims_below}
use Rattle.tce_tree.proofs.Nodes.{node-left, node-right_at, node-operand, node-root}
use Rattle.tce_spec.specs.Contraction.{sums_some}
use Rattle.tce_spec.specs.Pieces.{Cuts, unless_cut, rest_of}
use Rattle.tce_spec.proofs.CutPlaces.{member_is}
use Rattle.tce_spec.specs.Specification.{ConstantsAreWords}
use Rattle.tce_spec.specs.PieceSpecification.{renumbered}

-- what each part keeps by itself: declared indexes, words, and sums over some indexes, each once
abbrev pub KeepsParts : ℕ → ContractionTree → Type 0
KeepsParts n (leaf tensor indexes) = list_all (λ i. ltb i n) indexes ≡ true
KeepsParts n (constant number) = number < 2 ^ 64
KeepsParts n (binary op left right) = KeepsParts n left × KeepsParts n right
KeepsParts n (sum indexes operand) =
    (list_all (λ i. ltb i n) indexes ≡ true) × ((is_distinct indexes ≡ true) × ((ltb 0 (length indexes) ≡ true) × KeepsParts n operand))

pub parts_from : (n : ℕ) (c : ContractionTree) → indexes_below n c ≡ true → sums_distinct c ≡ true → sums_some c ≡ true → ConstantsAreWords c → KeepsParts n c
parts_from n (leaf t is) below distinct some words = below
parts_from n (constant k) below distinct some words = words
parts_from n (binary op l r) below distinct some words =
    let b = and_parts (indexes_below n l) (indexes_below n r) below in
    let d = and_parts (sums_distinct l) (sums_distinct r) distinct in
    let s = and_parts (sums_some l) (sums_some r) some in
    (parts_from n l b.0 d.0 s.0 words.0, parts_from n r b.1 d.1 s.1 words.1)
parts_from n (sum is x) below distinct some words =
    let b = and_parts (list_all (λ i. ltb i n) is) (indexes_below n x) below in
    let d = and_parts (is_distinct is) (sums_distinct x) distinct in
    let s = and_parts (ltb 0 (length is)) (sums_some x) some in
    (b.0, (d.0, (s.0, parts_from n x b.1 d.1 s.1 words)))

pub record PartsKept (n : ℕ) (c : ContractionTree) : Type 0 where
  pub below : indexes_below n c ≡ true
  pub distinct : sums_distinct c ≡ true
  pub some : sums_some c ≡ true
  pub words : ConstantsAreWords c

pub parts_kept : (n : ℕ) (c : ContractionTree) → KeepsParts n c → PartsKept n c
parts_kept n (leaf t is) h = record { below = h; distinct = refl; some = refl; words = tt }
parts_kept n (constant k) h = record { below = refl; distinct = refl; some = refl; words = h }
parts_kept n (binary op l r) h =
    let a = parts_kept n l h.0 in
    let b = parts_kept n r h.1 in
    record {
      below = and_from (indexes_below n l) (indexes_below n r) a.below b.below;
      distinct = and_from (sums_distinct l) (sums_distinct r) a.distinct b.distinct;
      some = and_from (sums_some l) (sums_some r) a.some b.some;
      words = (a.words, b.words);
    }
parts_kept n (sum is x) h =
    let a = parts_kept n x h.1.1.1 in
    record {
      below = and_from (list_all (λ i. ltb i n) is) (indexes_below n x) h.0 a.below;
      distinct = and_from (is_distinct is) (sums_distinct x) h.1.0 a.distinct;
      some = and_from (ltb 0 (length is)) (sums_some x) h.1.1.0 a.some;
      words = a.words;
    }

pub parts_node : (n : ℕ) (c : ContractionTree) (v : ℕ) → v < operations c → KeepsParts n c → KeepsParts n (node c v)
parts_node n (leaf t is) v low h = absurd (omega arith)
parts_node n (constant k) v low h = absurd (omega arith)
parts_node n (binary op l r) v low h =
    elim (cases_lt v (operations l)) [
      | inl x ↦ subst (KeepsParts n) (sym (node-left op l r v x)) (parts_node n l v x h.0)
      | inr x ↦ elim (cases_lt v (operations l + operations r)) [
        | inl y ↦ subst (KeepsParts n) (sym (node-right_at op l r v x y)) (parts_node n r (v - operations l) (omega arith) h.1)
        | inr y ↦ subst (KeepsParts n) (sym (node-root (binary op l r) v (omega arith))) h
      ]
    ]
parts_node n (sum is x) v low h =
    elim (cases_lt v (operations x)) [
      | inl y ↦ subst (KeepsParts n) (sym (node-operand is x v y)) (parts_node n x v y h.1.1.1)
      | inr y ↦ subst (KeepsParts n) (sym (node-root (sum is x) v (omega arith))) h
    ]

parts_unless : (n : ℕ) (cut : Cuts) (v : ℕ) (c rest : ContractionTree) → n ≤ 24 → KeepsParts n c → KeepsParts n rest → KeepsParts n (unless_cut cut v c rest)
parts_unless n cut v c rest few whole left =
    elim (cases_Bool (cut v)) [
      | inl t ↦
          let named : list_all (λ i. ltb i n) (members (dims c)) ≡ true =
          all-among (λ i. ltb i n) (members (dims c)) (λ i m. lt-ltb i n (dims_below n c i few (parts_kept n c whole).below (member_is (dims c) i (dims_lt c) m))) in
          rw t named
      | inr f ↦ rw f left
    ]

pub parts_rest : (n : ℕ) (cut : Cuts) (first : ℕ) (c : ContractionTree) → n ≤ 24 → KeepsParts n c → KeepsParts n (rest_of cut first c)
parts_rest n cut first (leaf t is) few h = h
parts_rest n cut first (constant k) few h = h
parts_rest n cut first (binary op l r) few h =
    parts_unless n cut (first + operations l + operations r) (binary op l r) (binary op (rest_of cut first l) (rest_of cut (first + operations l) r)) few h
    (parts_rest n cut first l few h.0, parts_rest n cut (first + operations l) r few h.1)
parts_rest n cut first (sum is x) few h =
    parts_unless n cut (first + operations x) (sum is x) (sum is (rest_of cut first x)) few h (h.0, (h.1.0, (h.1.1.0, parts_rest n cut first x few h.1.1.1)))

pub parts_renumbered : (n : ℕ) (number : ℕ → ℕ) (c : ContractionTree) → KeepsParts n c → KeepsParts n (renumbered number c)
parts_renumbered n number (leaf t is) h = h
parts_renumbered n number (constant k) h = h
parts_renumbered n number (binary op l r) h = (parts_renumbered n number l h.0, parts_renumbered n number r h.1)
parts_renumbered n number (sum is x) h = (h.0, (h.1.0, (h.1.1.0, parts_renumbered n number x h.1.1.1)))

pub dims_renumbered : (number : ℕ → ℕ) (c : ContractionTree) → dims (renumbered number c) ≡ dims c
dims_renumbered number (leaf t is) = refl
dims_renumbered number (constant k) = refl
dims_renumbered number (binary op l r) = ap₂ union (dims_renumbered number l) (dims_renumbered number r)
dims_renumbered number (sum is x) = ap (λ s. minus s (set_of is)) (dims_renumbered number x)

pub operations_renumbered : (number : ℕ → ℕ) (c : ContractionTree) → operations (renumbered number c) ≡ operations c
operations_renumbered number (leaf t is) = refl
operations_renumbered number (constant k) = refl
operations_renumbered number (binary op l r) = ap₂ (λ a b. a + b + 1) (operations_renumbered number l) (operations_renumbered number r)
operations_renumbered number (sum is x) = ap (λ a. a + 1) (operations_renumbered number x)

operations_unless : (cut : Cuts) (v : ℕ) (c rest : ContractionTree) → operations rest ≤ operations c → operations (unless_cut cut v c rest) ≤ operations c
operations_unless cut v c rest h = elim (cases_Bool (cut v)) [ inl t ↦ rw t (omega arith) | inr f ↦ rw f h ]

pub operations_rest : (cut : Cuts) (first : ℕ) (c : ContractionTree) → operations (rest_of cut first c) ≤ operations c
operations_rest cut first (leaf t is) = omega arith
operations_rest cut first (constant k) = omega arith
operations_rest cut first (binary op l r) =
    operations_unless cut (first + operations l + operations r) (binary op l r) (binary op (rest_of cut first l) (rest_of cut (first + operations l) r))
    (omega (arith, operations_rest cut first l, operations_rest cut (first + operations l) r))
operations_rest cut first (sum is x) =
    operations_unless cut (first + operations x) (sum is x) (sum is (rest_of cut first x)) (omega (arith, operations_rest cut first x))
