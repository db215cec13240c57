-- The worked states and relations, computed by the definitions.
use Rattle.std.proofs.Common.{ℕ, Bool, false, not, ◌&&◌, ◌||◌, refl, [], ◌∷◌}
use Rattle.std.specs.Prelude.{IsTrue}
use Rattle.std.proofs.lemmas.Bool.{false≢true, and_parts, both_ways, not-true}
use Rattle.tce_space.specs.IndexSet.{has, union, minus, with_index, members, volume}
use Rattle.tce_fusion.specs.Relation.{above}
use Rattle.tce_fusion.specs.StateExamples.{WorkedStates, WorkedRelations}

pub worked_states : WorkedStates
unfolding volume union minus with_index members has
worked_states = record {
  first_cost = refl;
  first_without = refl;
  first_cost_fused = refl;
  first_with = refl;
  second_cost = refl;
  second_cost_fused = refl;
  second_with = refl;
  no_sum = refl;
  first_sum = refl;
  second_sum = refl;
  conflict = refl;
}

-- a member of the first class has none above it
below_first : (class i j : ℕ) (rest : Bool) → IsTrue (has class j) → IsTrue (not (has class j) && (has class i || rest)) → ⊥
below_first class i j rest inn h =
    let parts = and_parts (not (has class j)) (has class i || rest) h in both_ways (has class j) (not-true (has class j) parts.0) inn

pub worked_relations : WorkedRelations
unfolding with_index has
worked_relations = record {
  conflict = λ h. h 0 1 refl refl refl refl;
  with_none = refl;
  divided = refl;
  allowed = λ i j li out inn h. below_first 3 i j (above (4 ∷ 8 ∷ []) i j) inn h;
  refused = λ h. h 1 2 refl refl refl refl;
  restricted = refl;
  none_is_coarser = λ i j p q h. absurd (false≢true h);
  finer = λ h. false≢true (h 0 1 refl refl refl);
  one_class_is_coarser = λ i j p q h. absurd (below_first 3 i j false q h);
  other_pairs = λ h. false≢true (h 0 1 refl refl refl);
}
