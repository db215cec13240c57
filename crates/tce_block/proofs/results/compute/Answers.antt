use Rattle.std.proofs.Common.{[], length, sym, subst, arith}
use Rattle.tce_block.specs.declared.loops.Turn.TheVariants.{Compute}
use Rattle.tce_block.specs.Places.{word_place, AreWithin}
use Rattle.tce_block.specs.StrideSteps.{lens, out_steps, left_steps, right_steps}
use Rattle.tce_block.specs.Running.{AreTurned}
use Rattle.tce_block.proofs.Outer.{no_loop}
use Rattle.tce_block.proofs.results.compute.Goals as goal

pub turn_once-requires-clause-out : goal.turn_once-requires-clause-out
turn_once-requires-clause-out c =
    let inside : AreWithin (length c.args.words.now) [] (word_place c.args.out []) =
    subst (λ ls. AreWithin (length c.args.words.now) (lens ls) (word_place c.args.out (out_steps ls))) (no_loop c.args.loops.now c.in-empty.len_below) c.requires.out in
    omega (arith, inside [] tt)

pub turn_once-requires-clause-left : goal.turn_once-requires-clause-left
turn_once-requires-clause-left c =
    let inside : AreWithin (length c.args.words.now) [] (word_place c.args.left []) =
    subst (λ ls. AreWithin (length c.args.words.now) (lens ls) (word_place c.args.left (left_steps ls))) (no_loop c.args.loops.now c.in-empty.len_below) c.requires.left in
    omega (arith, inside [] tt)

pub turn_once-requires-clause-right : goal.turn_once-requires-clause-right
turn_once-requires-clause-right c =
    let inside : AreWithin (length c.args.words.now) [] (word_place c.args.right []) =
    subst (λ ls. AreWithin (length c.args.words.now) (lens ls) (word_place c.args.right (right_steps ls))) (no_loop c.args.loops.now c.in-empty.len_below) c.requires.right in
    omega (arith, inside [] tt)

pub turns_below-requires-clause-run : goal.turns_below-requires-clause-run
turns_below-requires-clause-run c = record {
  positive = c.requires.positive;
  out_within = c.requires.out;
  left_within = c.requires.left;
  right_within = c.requires.right;
  left_apart = c.requires.apart_from_left;
  right_apart = c.requires.apart_from_right;
}

pub returns-in-empty : goal.returns-in-empty
returns-in-empty c =
    let old = c.args.words.now in let new = c.turn_once.new.words in
    let turned : AreTurned (Compute c.args.operation) c.args.loops.now c.args.out c.args.left c.args.right old new =
    subst (λ ls. AreTurned (Compute c.args.operation) ls c.args.out c.args.left c.args.right old new) (sym (no_loop c.args.loops.now c.in-empty.len_below)) c.turn_once.ensures in
    record { same_length = turned.same_length; made = turned.made }
