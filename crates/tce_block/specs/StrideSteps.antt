-- The lengths of loops, and the steps of the result and the operands.
use Rattle.std.specs.Prelude.{ℕ, List, map}
use Rattle.tce_block.specs.declared.loops.Loop.{Loop}
use Rattle.tce_block.specs.declared.loops.SumLoop.{SumLoop}

abbrev pub lens : List Loop → List ℕ
lens loops = map (λ l. l.len) loops

abbrev pub out_steps : List Loop → List ℕ
out_steps loops = map (λ l. l.out) loops

abbrev pub left_steps : List Loop → List ℕ
left_steps loops = map (λ l. l.left) loops

abbrev pub right_steps : List Loop → List ℕ
right_steps loops = map (λ l. l.right) loops

-- the same of loops over one operand
abbrev pub sum_lens : List SumLoop → List ℕ
sum_lens loops = map (λ l. l.len) loops

abbrev pub sum_out_steps : List SumLoop → List ℕ
sum_out_steps loops = map (λ l. l.out) loops

abbrev pub operand_steps : List SumLoop → List ℕ
operand_steps loops = map (λ l. l.operand) loops
