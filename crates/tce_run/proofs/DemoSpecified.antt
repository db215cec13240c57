-- The text of a demonstration specifies what it should.
use Rattle.std.proofs.Common.{◌≡◌, ℕ, List, [], ◌∷◌, Ok, refl, subst, arith}
use Rattle.tce_space.specs.IndexSet.{with_index, union, minus, set_of}
use Rattle.tce_tree.specs.ContractionTree.{dims}
use Rattle.tce_spec.specs.Contraction.{FitsTensor, LeavesFit, IsContraction}
use Rattle.tce_spec.specs.Specification.{IsSpecification}
use Rattle.tce_spec.specs.Outcome.{IsOutcome}
use Rattle.tce_spec.specs.RoundTrip.{IsWritable}
use Rattle.tce_spec.proofs.Outcomes.{canonical_outcome}
use Rattle.tce_run.specs.DemoSpecification.{IsDemoOf, IsExtent, demo_declarations, demo_tree, demo_specification}
use Rattle.tce_run.proofs.DemoDeclared.{declarations_fit, names_fit}
use Rattle.tce_run.proofs.DemoTree.{faultless, measured}
use Rattle.tce_run.proofs.DemoText.{canonical_is}

same_indexes : set_of (0 ∷ 1 ∷ 6 ∷ 7 ∷ []) ≡ dims demo_tree
unfolding with_index union minus
same_indexes = refl

leaves_fit : (v o : ℕ) → LeavesFit (demo_declarations v o) demo_tree
leaves_fit v o =
    let a : FitsTensor (demo_declarations v o) 0 (0 ∷ 2 ∷ 6 ∷ 8 ∷ []) = record { declared = omega arith; ranges = refl } in
    let b : FitsTensor (demo_declarations v o) 1 (1 ∷ 4 ∷ 5 ∷ 9 ∷ []) = record { declared = omega arith; ranges = refl } in
    let c : FitsTensor (demo_declarations v o) 2 (3 ∷ 5 ∷ 7 ∷ 8 ∷ []) = record { declared = omega arith; ranges = refl } in
    let d : FitsTensor (demo_declarations v o) 3 (2 ∷ 3 ∷ 4 ∷ 9 ∷ []) = record { declared = omega arith; ranges = refl } in
    (((b, d), c), a)

contraction : (v o : ℕ) → IsContraction (demo_declarations v o) 4 (0 ∷ 1 ∷ 6 ∷ 7 ∷ []) demo_tree
contraction v o = record {
  result_fits = record { declared = omega arith; ranges = refl };
  leaves_fit = leaves_fit v o;
  declared = refl;
  sums_some = refl;
  once = refl;
  same_indexes = same_indexes;
  no_operand = refl;
}

pub rules : (v o : ℕ) → IsExtent v → IsExtent o → IsSpecification (demo_specification v o)
rules v o hv ho = record {
  declarations = declarations_fit v o hv ho;
  contraction = contraction v o;
  few = omega arith;
  distinct = refl;
  faultless = faultless v o hv ho;
  measured = measured v o hv ho;
  constants = (((tt, tt), tt), tt);
}

writable : (v o : ℕ) → IsExtent v → IsExtent o → IsWritable (demo_specification v o)
writable v o hv ho = record { rules = rules v o hv ho; names = names_fit }

pub specified : (v o : ℕ) → IsExtent v → IsExtent o → IsDemoOf v o (demo_specification v o)
specified v o hv ho = subst (λ (text : List ℕ). IsOutcome text (Ok (demo_specification v o))) (canonical_is v o hv.0 ho.0) (canonical_outcome (demo_specification v o) (writable v o hv ho))
