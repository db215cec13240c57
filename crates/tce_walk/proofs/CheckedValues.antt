-- Values that the program at a position leaves.
use Rattle.std.proofs.Common.{◌≡◌, ℕ, ◌+◌, ◌<◌, ◌≤◌, min, true, false, Bool, List, [], ◌∷◌, ◌++◌, length, get_or, set, sym, ap, ◌∙◌, subst, inl, inr, arith, get_or-set_other, get_or-set_same}
use Rattle.std.proofs.lemmas.Bool.{cases_eq, true≢false}
use Rattle.std.specs.Prelude.{◌⊎◌}
use Rattle.tce_space.specs.Space.{IndexSpace}
use Rattle.tce_tree.specs.ContractionTree.{Arithmetic, ContractionTree, multiply, add, subtract}
use Rattle.tce_code.specs.Program.{step, loop, clear, compute, first_of}
use Rattle.tce_code.specs.declared.op.Op.{Op}
use Rattle.tce_code.specs.declared.op.Op.TheVariants.{Open, Clear, Mul, Add, Sub}
use Rattle.tce_walk.proofs.LeftValues.{leaves_compute, leaves_joined}
use Rattle.tce_walk.proofs.Positions.{programs-action, programs-loop, programs-within}
use Rattle.tce_walk.proofs.Searching.{named}
use Rattle.tce_walk.specs.Bands.{Known}
use Rattle.tce_walk.specs.BandSearch.{known_of}
use Rattle.tce_walk.specs.FoundTerms.{IsCheckedNode, IsCodePart, IsSummedAt, LeavesValues}
use Rattle.tce_walk.specs.Positions.{program_at, programs_at}
use Rattle.tce_walk.specs.Search.{IsShaped}
use Rattle.tce_walk.specs.declared.values.Summed.{Summed}

-- ---- marks

pub marks_after : (marks : List Bool) (u v : ℕ) → u < length marks → v < length marks → (w : ℕ) → known_of (set (set marks u false) v true) w ≡ true
    → (w ≡ v) ⊎ ((w ≡ u → ⊥) × (known_of marks w ≡ true))
marks_after marks u v l k w m =
    elim (cases_eq w v) [
      | inl q ↦ inl q
      | inr ne ↦
          let other : get_or (set marks u false) w true ≡ true = (rw get_or-set_other at m) in
          elim (cases_eq w u) [
            | inl q ↦ absurd (true≢false (sym other ∙ ap (λ x. get_or (set marks u false) x true) q ∙ get_or-set_same marks u false true l))
            | inr away ↦ inr (away, (rw get_or-set_other at other))
          ]
    ]

-- ---- programs

loop_at : (ops : List Op) (at i close next : ℕ) (d : Op) → at < length ops → get_or ops at d ≡ Open i → next ≡ min (close + 1) (length ops)
    → Rattle.tce_walk.specs.Positions.EndsAt ops (at + 1) close → program_at ops at ≡ loop i (program_at ops (at + 1)) (program_at ops next)
loop_at ops at i close next d l is then ends =
    ap first_of (programs-loop ops at i close l (named ops at d (Open i) l is) ends)
    ∙ ap (loop i (program_at ops (at + 1))) (sym (ap first_of (ap (programs_at ops) then ∙ programs-within ops (close + 1))))

clear_at : (ops : List Op) (at v : ℕ) (d : Op) → at < length ops → get_or ops at d ≡ Clear v → program_at ops at ≡ step (clear v) (program_at ops (at + 1))
clear_at ops at v d l is = ap first_of (programs-action ops at (clear v) l (named ops at d (Clear v) l is))

pub values_clear : (space : IndexSpace) (tree : ContractionTree) (fusion : List ℕ) (t : ℕ) (ops : List Op) (at v next : ℕ) (d : Op) (s : Summed) (before mid after : Known) (k m : ℕ)
    → at < length ops → get_or ops at d ≡ Clear v → IsSummedAt space tree fusion ops t (at + 1) v before mid s → next ≡ min (s.close + 1) (length ops) → m ≤ k + s.touches
    → LeavesValues space tree fusion t (program_at ops next) mid after k → LeavesValues space tree fusion t (program_at ops at) before after m
values_clear space tree fusion t ops at v next d s before mid after k m l is summed then more h =
    subst (λ p. LeavesValues space tree fusion t p before after m)
    (sym (clear_at ops at v d l is ∙ ap (step (clear v)) (loop_at ops (at + 1) summed.loop_over s.close next (Open 0) summed.within (summed.opens (Open 0)) then summed.ends.ends)))
    (leaves_joined space tree fusion t v summed.loop_over (program_at ops (at + 1 + 1)) (program_at ops next) before mid after s.touches k m more summed.leaves h)

-- an operation of a node with two operands
record IsComputed (tree : ContractionTree) (ops : List Op) (at v : ℕ) : Type 0 where
  op : Arithmetic
  is : program_at ops at ≡ step (compute op v) (program_at ops (at + 1))

computed_at : (tree : ContractionTree) (ops : List Op) (at v : ℕ) (d : Op) → at < length ops → (get_or ops at d ≡ Mul v) ⊎ ((get_or ops at d ≡ Add v) ⊎ (get_or ops at d ≡ Sub v)) → IsComputed tree ops at v
computed_at tree ops at v d l (inl is) = record { op = multiply; is = ap first_of (programs-action ops at (compute multiply v) l (named ops at d (Mul v) l is)) }
computed_at tree ops at v d l (inr (inl is)) = record { op = add; is = ap first_of (programs-action ops at (compute add v) l (named ops at d (Add v) l is)) }
computed_at tree ops at v d l (inr (inr is)) = record { op = subtract; is = ap first_of (programs-action ops at (compute subtract v) l (named ops at d (Sub v) l is)) }

pub values_compute : (space : IndexSpace) (tree : ContractionTree) (fusion : List ℕ) (t : ℕ) (ops : List Op) (at v : ℕ) (d : Op) (before mid after : Known) (n m : ℕ)
    → at < length ops → (get_or ops at d ≡ Mul v) ⊎ ((get_or ops at d ≡ Add v) ⊎ (get_or ops at d ≡ Sub v)) → IsCodePart tree (program_at ops at) → IsCheckedNode tree v before mid
    → m ≤ n + 3 → LeavesValues space tree fusion t (program_at ops (at + 1)) mid after n → LeavesValues space tree fusion t (program_at ops at) before after m
values_compute space tree fusion t ops at v d before mid after n m l is code checked more h =
    let own = computed_at tree ops at v d l is in
    let shape = (subst (IsCodePart tree) own.is code).shape.0 in
    subst (λ p. LeavesValues space tree fusion t p before after m) (sym own.is)
    (leaves_compute space tree fusion t own.op v (program_at ops (at + 1)) before mid after n m shape.0 shape.1 checked more h)

-- what stands behind a sum is a part of the code
pub code_behind : (space : IndexSpace) (tree : ContractionTree) (fusion : List ℕ) (t : ℕ) (ops : List Op) (at v next : ℕ) (d : Op) (s : Summed) (before mid : Known)
    → at < length ops → get_or ops at d ≡ Clear v → IsSummedAt space tree fusion ops t (at + 1) v before mid s → next ≡ min (s.close + 1) (length ops)
    → IsCodePart tree (program_at ops at) → IsCodePart tree (program_at ops next)
code_behind space tree fusion t ops at v next d s before mid l is summed then code =
    let whole = subst (IsCodePart tree) (clear_at ops at v d l is ∙ ap (step (clear v)) (loop_at ops (at + 1) summed.loop_over s.close next (Open 0) summed.within (summed.opens (Open 0)) then summed.ends.ends)) code in
    record { plan = whole.plan; opened = whole.opened; shape = whole.shape.1.2; few = omega (arith, whole.few) }

-- what is asked of the program inside the loop
pub sum_shaped : (tree : ContractionTree) (ops : List Op) (at v i : ℕ) (d : Op) → at < length ops → get_or ops at d ≡ Open i → IsCodePart tree (step (clear v) (program_at ops at))
    → IsShaped tree (program_at ops (at + 1))
sum_shaped tree ops at v i d l is code =
    let here = Rattle.tce_walk.proofs.Searching.program-loop ops at i d l is in
    let whole = subst (λ p. IsCodePart tree (step (clear v) p)) here code in
    record { plan = whole.plan; opened = whole.opened ++ i ∷ []; shape = whole.shape.1.1 }
