-- What stands for a state stands for each for which that stands.
use Rattle.std.proofs.Common.{ℕ, arith}
use Rattle.tce_fusion.specs.Relation.{Relation, above}
use Rattle.tce_search.specs.declared.candidate.Candidate.{Candidate}
use Rattle.tce_search.specs.Candidates.{Stands}

pub stands_through : (outer : ℕ) (relation : Relation) (limit : ℕ) (x y : Candidate) → Stands outer relation limit x → Stands outer (above x.row.classes) x.row.cost y → Stands outer relation limit y
stands_through outer relation limit x y first second = record {
  coarser = λ i j p q h. first.coarser i j p q (second.coarser i j p q h);
  cheap = omega (arith, first.cheap, second.cheap);
}
