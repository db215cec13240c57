-- What the search for a band checks.
use Rattle.std.specs.Prelude.{◌≡◌, ℕ, ◌+◌, ◌-◌, ◌<◌, ◌≤◌, IsTrue, Bool, true, List, drop, length, slice_index_or}
use Rattle.tce_tree.specs.ContractionTree.{ContractionTree}
use Rattle.tce_tree.specs.declared.node.Operand.{Operand}
use Rattle.tce_tree.specs.declared.node.Operand.TheVariants.{Leaf, Constant, Node}
use Rattle.tce_code.specs.Program.{Program, stop, loop}
use Rattle.tce_code.specs.declared.op.Op.{Op}
use Rattle.tce_walk.specs.Bands.{Known, passes, known_after, IsBand}
use Rattle.tce_walk.specs.Positions.{program_at}
use Rattle.tce_walk.specs.Run.{IsEnd}
use Rattle.tce_walk.specs.Tails.{loops_round}
use Rattle.tce_walk.specs.declared.band_search.Band.{Band}
use Rattle.tce_walk.specs.declared.band_search.Claim.{Claim}

-- the nodes that are marked, and all that have no mark
abbrev pub known_of : List Bool → Known
known_of marks = λ v. slice_index_or marks v true

abbrev pub operand_ready : Known → Operand → Bool
operand_ready known (Leaf l) = true
operand_ready known (Constant number) = true
operand_ready known (Node v) = known v

-- a program passes, and the marks are those behind it
pub record IsPassed (tree : ContractionTree) (fusion : List ℕ) (claim : Claim) (program : Program) (before after : List Bool) : Type 0 where
  pub passes : IsTrue (passes tree fusion claim.loops.0.items claim.carrier (known_of claim.outside) (known_of before) program)
  pub known : known_of after ≡ known_after claim.carrier (known_of before) program

-- the program from a position on passes, and ends there
pub record IsCheckedAt (tree : ContractionTree) (fusion : List ℕ) (ops : List Op) (claim : Claim) (at end : ℕ) (before after : List Bool) : Type 0 where
  pub passed : IsPassed tree fusion claim (program_at ops at) before after
  pub ends : IsEnd ops at end

-- the same inside the loops of the band from the d-th on
pub record IsNestAt (tree : ContractionTree) (fusion : List ℕ) (ops : List Op) (claim : Claim) (at d end : ℕ) (before after : List Bool) : Type 0 where
  pub is : program_at ops at ≡ loops_round (drop d claim.loops.0.items) (program_at ops (at + (length claim.loops.0.items - d)))
  pub within : at + (length claim.loops.0.items - d) ≤ length ops
  pub passed : IsPassed tree fusion claim (program_at ops (at + (length claim.loops.0.items - d))) before after
  pub ends : IsEnd ops at end

-- the loops of a band round its body, and what makes it one
abbrev pub band_program : List Op → Band → Program
band_program ops band = loops_round band.loops.0.items (program_at ops band.at)

pub record IsBandAt (tree : ContractionTree) (fusion : List ℕ) (ops : List Op) (band : Band) : Type 0 where
  pub outside : Known
  pub passes : IsBand tree fusion band.loops.0.items band.carrier outside (program_at ops band.at)
  pub within : band.at ≤ length ops

-- a loop begins a band
pub record BeginsBand (tree : ContractionTree) (fusion : List ℕ) (ops : List Op) (at i : ℕ) (band : Band) : Type 0 where
  pub body : IsBandAt tree fusion ops band
  pub is : loop i (program_at ops (at + 1)) stop ≡ band_program ops band
  pub deeper : at < band.at
  pub ends : IsEnd ops (at + 1) band.close
