-- The indexes that a verdict names are declared.
use Rattle.std.proofs.Common.{◌≡◌, ℕ, ◌<◌, ◌≤◌, ◌||◌, false, not, IsTrue, List, [], ◌∷◌, length, inl, inr, subst, arith, All}
use Rattle.std.proofs.lemmas.Bool.{and_parts, or_cases, or_parts, or_left, or_right}
use Rattle.std.proofs.lemmas.List.Elements.{All-nil, All-cons}
use Rattle.tce_space.specs.IndexSet.{has}
use Rattle.tce_space.specs.Space.{IndexSpace, IsDeclared}
use Rattle.tce_tree.specs.ContractionTree.{ContractionTree, node_dims}
use Rattle.tce_tree.specs.WellFormed.{IsDeclaredTree}
use Rattle.tce_tree.proofs.NamedIndexes.{node_dims_declared}
use Rattle.tce_fusion.specs.Relation.{above}
use Rattle.tce_fusion.specs.StateClasses.{in_class}
use Rattle.tce_fusion.specs.Row.{Row, rows_joined}
use Rattle.tce_nesting.specs.declared.plan.Plan.{Plan}
use Rattle.tce_nesting.proofs.Classes.{above-first, above-later}
use Rattle.tce_nesting.proofs.NestingLaws.{no_class_beyond}
use Rattle.tce_check.specs.First.{First}
use Rattle.tce_check.specs.Verdict.{IsLeastUncovered, IsVerdict}
use Rattle.tce_check.specs.declared.verdict.Verdict.{Verdict}
use Rattle.tce_check.specs.declared.verdict.Verdict.TheVariants.{NotCovered}
use Rattle.tce_command.specs.Report.{NamesDeclared}
use Rattle.tce_command.specs.declared.trouble.CertTrouble.TheVariants as troubles

-- an index with a class is above what has none
above_others : (cs : List ℕ) (i j : ℕ) → in_class cs j ≡ false → IsTrue (in_class cs i) → IsTrue (above cs i j)
above_others [] i j out inside = inside
above_others (c ∷ cs) i j out inside =
    let parts = or_parts (has c j) (in_class cs j) out in
    elim (or_cases (has c i) (in_class cs i) inside) [
      | inl here ↦ above-first c cs i j parts.0 here
      | inr later ↦ above-later c cs i j parts.0 (above_others cs i j parts.1 later)
    ]

all_below : (n : ℕ) (cs : List ℕ) → ((i : ℕ) → IsTrue (in_class cs i) → i < n) → All (λ (c : ℕ). (i : ℕ) → IsTrue (has c i) → i < n) cs
all_below n [] below = All-nil (λ (c : ℕ). (i : ℕ) → IsTrue (has c i) → i < n)
all_below n (c ∷ cs) below =
    All-cons (λ (d : ℕ). (i : ℕ) → IsTrue (has d i) → i < n) c cs (λ i h. below i (or_left (has c i) (in_class cs i) h)) (all_below n cs (λ i h. below i (or_right (has c i) (in_class cs i) h)))

-- the set and the classes of a step
pub record NamesStep (space : IndexSpace) (fused : ℕ) (classes : List ℕ) : Type 0 where
  pub set : IsDeclared space fused
  pub each : All (IsDeclared space) classes

step_declared : (space : IndexSpace) (tree : ContractionTree) (outer v : ℕ) (rows : List Row) (fused : ℕ) (step left right : Row) → IsDeclared space (node_dims tree v)
    → IsLeastUncovered space tree outer v rows fused step left right → NamesStep space fused step.classes
step_declared space tree outer v rows fused step left right dims uncovered =
    let within = λ (i : ℕ) (h : IsTrue (has fused i)). dims i (uncovered.is.within i h) in
    record {
      set = within;
      each = all_below (length space.indexes) step.classes (λ i h.
          within i (and_parts (has fused i) (not (has fused 24) || rows_joined left right i 24)
          (subst IsTrue (uncovered.is.relation_is i 24) (above_others step.classes i 24 (no_class_beyond step.classes uncovered.nesting) h))).0);
    }

-- the first of a list at which something fails
of_first : {X R : Type 0} (Holds Fails : X → Type 0) → ((x : X) → Fails x → R) → (xs : List X) → First Holds Fails xs → R
of_first Holds Fails from [] found = absurd found
of_first Holds Fails from (x ∷ xs) (inl here) = from x here
of_first Holds Fails from (x ∷ xs) (inr later) = of_first Holds Fails from xs later.1

pub names_declared : (space : IndexSpace) (tree : ContractionTree) (plan : Plan) (verdict : Verdict) → length space.indexes ≤ 24 → IsDeclaredTree space tree
    → IsVerdict space tree plan verdict → NamesDeclared space (troubles.Verdict verdict)
names_declared space tree plan (NotCovered v fused classes cost) few declared right =
    let dims = node_dims_declared space tree v (omega (arith, right.1.inside)) few declared in
    let names = of_first _ _ (λ left found. of_first _ _ (λ other. step_declared space tree _ v _ fused _ left other dims) _ found) _ right.1.fails.first in
    (names.set, names.each)
names_declared space tree plan verdict few declared right = tt
