-- Places of a node, and the last assignment of a part that falls on one.
use Rattle.std.proofs.Common.{◌≡◌, ℕ, ◌+◌, ◌<◌, ◌≤◌, true, false, not, ◌&&◌, ◌||◌, nat_le, nat_lt, ltb-true, List, [], ◌∷◌, map, refl, sym, ap, ◌∙◌, inl, inr, arith}
use Rattle.std.proofs.lemmas.Bool.{cases_Bool, cases_eq, and_parts, false≢true}
use Rattle.tce_space.proofs.IndexSetLaws.{minus_lt}
use Rattle.tce_space.specs.IndexSet.{has, members, IsIndexSet}
use Rattle.tce_tree.proofs.Lists.{among_cases, among-all}
use Rattle.tce_tree.proofs.Members.{node_dims_lt}
use Rattle.tce_tree.proofs.Permutations.{among-members}
use Rattle.tce_tree.specs.ContractionTree.{node_dims}
use Rattle.tce_tree.specs.Fusion.{kept_dims, fused_at}
use Rattle.tce_tree.specs.Value.{Assignment, assignment}
use Rattle.tce_tree.specs.WellFormed.{among}
use Rattle.tce_tree.proofs.Assignments.{with-same, with-other, assignment-at}
use Rattle.tce_block.specs.Last.{meets, last_of_part}
use Rattle.tce_block.specs.Laws.{AreParts}
use Rattle.tce_block.specs.Parts.{Part}
use Rattle.tce_code.specs.Execution.{Setting, coordinates}
use Rattle.tce_walk.specs.TailLaws.{dims_at}

-- the dims over which a node's places range
pub kept_set : (s : Setting) (v : ℕ) → IsIndexSet (dims_at s v)
unfolding kept_dims
kept_set s v = minus_lt (node_dims s.tree v) (fused_at s.fusion v) (node_dims_lt s.tree v)

pub place_numbers : (set : ℕ) (c : Assignment) (p : List ℕ) (i : ℕ) → IsIndexSet set → p ≡ coordinates set c → has set i ≡ true → assignment (members set) p i ≡ c i
place_numbers set c p i limit is m = ap (λ q. assignment (members set) q i) is ∙ assignment-at (members set) c i (among-members set i limit ∙ m)

-- a part ends inside the extents
pub ends_inside : (extent : ℕ → ℕ) (order es fs ls : List ℕ) (i : ℕ) → AreParts (map extent order) es fs ls → among order i ≡ true
    → assignment order fs i + assignment order ls i ≤ extent i
ends_inside extent [] es fs ls i h m = absurd (false≢true m)
ends_inside extent (j ∷ order) [] fs ls i h m = absurd h
ends_inside extent (j ∷ order) (e ∷ es) [] ls i h m = absurd h
ends_inside extent (j ∷ order) (e ∷ es) (f ∷ fs) [] i h m = absurd h
ends_inside extent (j ∷ order) (e ∷ es) (f ∷ fs) (l ∷ ls) i h m =
    elim (cases_eq i j) [
      | inl q ↦
          let first : assignment (j ∷ order) (f ∷ fs) i ≡ f = ap (assignment (j ∷ order) (f ∷ fs)) q ∙ with-same (assignment order fs) j f in
          let len : assignment (j ∷ order) (l ∷ ls) i ≡ l = ap (assignment (j ∷ order) (l ∷ ls)) q ∙ with-same (assignment order ls) j l in
          omega (arith, first, len, h.2, ap extent q)
      | inr q ↦
          let later = ends_inside extent order es fs ls i h.3 (elim (among_cases j order i m) [ inl e ↦ absurd (q (sym e)) | inr rest ↦ rest ]) in
          omega (arith, later, with-other (assignment order fs) j f i q, with-other (assignment order ls) j l i q)
    ]

-- the numbers of the last assignment of a part at the fixed indexes
pub last_at : (set : ℕ) (order : List ℕ) (a b : Assignment) (part : Part) (i : ℕ) → has set i ≡ true → (among order i ≡ false → a i ≡ b i)
    → last_of_part (has set) b order a part i ≡ b i
last_at set order a b part i m agrees =
    elim (cases_Bool (among order i)) [
      | inl t ↦ rw (t, m) refl
      | inr f ↦ rw f (agrees f)
    ]

pub last_inside : (extent : ℕ → ℕ) (set : ℕ) (order : List ℕ) (a b : Assignment) (part : Part)
    → ((i : ℕ) → among order i ≡ true → assignment order part.from i + assignment order part.len i ≤ extent i)
    → ((i : ℕ) → has set i ≡ true → among order i ≡ false → a i < extent i)
    → meets (has set) b order part ≡ true → (i : ℕ) → has set i ≡ true → last_of_part (has set) b order a part i < extent i
last_inside extent set order a b part ends outside met i m =
    elim (cases_Bool (among order i)) [
      | inl t ↦ rw (t, m) (below t)
      | inr f ↦ rw f (outside i m f)
    ]
  where
    from : ℕ → ℕ
    from j = assignment order part.from j

    past : ℕ → ℕ
    past j = assignment order part.from j + assignment order part.len j

    below : among order i ≡ true → b i < extent i
    below t =
        let here : (nat_le (from i) (b i) && nat_lt (b i) (past i)) ≡ true =
        rw m at (among-all (λ j. not (has set j) || (nat_le (from j) (b j) && nat_lt (b j) (past j))) order i met t) in
        let low = ltb-true (b i) (past i) (and_parts (nat_le (from i) (b i)) (nat_lt (b i) (past i)) here).1 in omega (arith, low, ends i t)
