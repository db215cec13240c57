use Rattle.std.proofs.Common.{ℕ, ◌<◌, ◌∙◌, List, if◌then◌else◌, slice_index, sym, subst, ap₂}
use Rattle.std.specs.List.{All}
use Rattle.std.proofs.lemmas.List.Elements.{All-from_recursion}
use Rattle.tce_tree.specs.Value.{assignment}
use Rattle.tce_tree.specs.WellFormed.{among}
use Rattle.tce_exec.proofs.Reading.{each_of}
use Rattle.tce_exec.specs.Blocks.{loops_of}
use Rattle.tce_exec.proofs.turns.begin_block.Goals as goal

pub begin-requires-clause-known : goal.begin-requires-clause-known
begin-requires-clause-known c =
    subst (All (λ i. i < 24)) (sym c.as_slice.ensures.value)
    (All-from_recursion (λ i. i < 24) (loops_of c.args.tail.now) (each_of (λ i. i < 24) (loops_of c.args.tail.now) c.requires.loops.below))

pub returns-clause-numbers : goal.returns-clause-numbers
returns-clause-numbers c =
    c.begin.ensures.numbers
    ∙ ap₂ (λ (ls fs : List ℕ). λ i. if among ls i then assignment ls fs i else slice_index c.args.first.now.numbers i) c.as_slice.ensures.value c.as_slice-2.ensures.value
