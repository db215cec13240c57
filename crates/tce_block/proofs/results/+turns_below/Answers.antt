use Rattle.std.proofs.Common.{◌≡◌, ◌-◌, [], ◌∷◌, length, get_or, take, drop, subst, sym, ap, arith}
use Rattle.tce_space.specs.Box.{places}
use Rattle.tce_block.specs.declared.loops.Loop.{Loop}
use Rattle.tce_block.specs.Places.{word_place, AreWithin}
use Rattle.tce_block.specs.StrideSteps.{lens, out_steps, left_steps, right_steps}
use Rattle.tce_block.specs.Turns.{IsMade, turned}
use Rattle.tce_block.specs.Running.{CanRun}
use Rattle.tce_block.proofs.Outer.{no_loop, one_loop, two_loops, more_loops, turn_rest, turn_bases, turn_turns_more}
use Rattle.tce_block.proofs.results.+turns_below.Goals as goal

pub turn_once-requires-clause-out : goal.turn_once-requires-clause-out
turn_once-requires-clause-out t c =
    let inside : AreWithin (length c.args.words.now) [] (word_place c.args.out []) =
    subst (λ ls. AreWithin (length c.args.words.now) (lens ls) (word_place c.args.out (out_steps ls))) (no_loop c.args.loops.now c.in-empty.len_below) c.requires.run.out_within in
    omega (arith, inside [] tt)

pub turn_once-requires-clause-left : goal.turn_once-requires-clause-left
turn_once-requires-clause-left t c =
    let inside : AreWithin (length c.args.words.now) [] (word_place c.args.left []) =
    subst (λ ls. AreWithin (length c.args.words.now) (lens ls) (word_place c.args.left (left_steps ls))) (no_loop c.args.loops.now c.in-empty.len_below) c.requires.run.left_within in
    omega (arith, inside [] tt)

pub turn_once-requires-clause-right : goal.turn_once-requires-clause-right
turn_once-requires-clause-right t c =
    let inside : AreWithin (length c.args.words.now) [] (word_place c.args.right []) =
    subst (λ ls. AreWithin (length c.args.words.now) (lens ls) (word_place c.args.right (right_steps ls))) (no_loop c.args.loops.now c.in-empty.len_below) c.requires.run.right_within in
    omega (arith, inside [] tt)

pub turn_along-requires-clause-run : goal.turn_along-requires-clause-run
turn_along-requires-clause-run t c =
    let none : Loop = record { len = 0; out = 0; left = 0; right = 0 } in
    subst (λ ls. CanRun (length c.args.words.now) ls c.args.out c.args.left c.args.right) (one_loop none c.args.loops.now c.in-len1.len_at_least c.in-len1.len_below) c.requires.run

pub turns_in_rows-requires-clause-run : goal.turns_in_rows-requires-clause-run
turns_in_rows-requires-clause-run t c =
    let none : Loop = record { len = 0; out = 0; left = 0; right = 0 } in
    subst (λ ls. CanRun (length c.args.words.now) ls c.args.out c.args.left c.args.right) (two_loops none c.args.loops.now c.in-len2.len_at_least c.in-len2.len_below) c.requires.run

pub returns-in-len2 : goal.returns-in-len2
returns-in-len2 t c =
    let none : Loop = record { len = 0; out = 0; left = 0; right = 0 } in
    subst (λ ls. IsMade (turned c.args.turn c.args.words.now (word_place c.args.left (left_steps ls)) (word_place c.args.right (right_steps ls))) (word_place c.args.out (out_steps ls)) (places (lens ls)) c.args.words.now c.turns_in_rows.new.words)
    (sym (two_loops none c.args.loops.now c.in-len2.len_at_least c.in-len2.len_below)) c.turns_in_rows.ensures

pub overflow_mul-x : goal.overflow_mul-x
overflow_mul-x t c =
    let none : Loop = record { len = 0; out = 0; left = 0; right = 0 } in
    let loops = c.args.loops.now in
    let fit = c.requires.run in
    let bases = turn_bases (length c.args.words.now) (get_or loops 0 none) (take (length loops - 1) (drop 1 loops)) loops c.args.out c.args.left c.args.right c.loop-x.x (more_loops none loops (omega arith)) fit c.loop-x-test.true in
    omega (arith, bases.0, c.requires.limit)

pub overflow_add-out : goal.overflow_add-out
overflow_add-out t c =
    let none : Loop = record { len = 0; out = 0; left = 0; right = 0 } in
    let loops = c.args.loops.now in
    let fit = c.requires.run in
    let bases = turn_bases (length c.args.words.now) (get_or loops 0 none) (take (length loops - 1) (drop 1 loops)) loops c.args.out c.args.left c.args.right c.loop-x.x (more_loops none loops (omega arith)) fit c.loop-x-test.true in
    omega (arith, bases.0, c.requires.limit)

pub overflow_mul-x-in-loop-x : goal.overflow_mul-x-in-loop-x
overflow_mul-x-in-loop-x t c =
    let none : Loop = record { len = 0; out = 0; left = 0; right = 0 } in
    let loops = c.args.loops.now in
    let fit = c.requires.run in
    let bases = turn_bases (length c.args.words.now) (get_or loops 0 none) (take (length loops - 1) (drop 1 loops)) loops c.args.out c.args.left c.args.right c.loop-x.x (more_loops none loops (omega arith)) fit c.loop-x-test.true in
    omega (arith, bases.1, c.requires.limit)

pub overflow_add-left : goal.overflow_add-left
overflow_add-left t c =
    let none : Loop = record { len = 0; out = 0; left = 0; right = 0 } in
    let loops = c.args.loops.now in
    let fit = c.requires.run in
    let bases = turn_bases (length c.args.words.now) (get_or loops 0 none) (take (length loops - 1) (drop 1 loops)) loops c.args.out c.args.left c.args.right c.loop-x.x (more_loops none loops (omega arith)) fit c.loop-x-test.true in
    omega (arith, bases.1, c.requires.limit)

pub overflow_mul-x-in-loop-x-2 : goal.overflow_mul-x-in-loop-x-2
overflow_mul-x-in-loop-x-2 t c =
    let none : Loop = record { len = 0; out = 0; left = 0; right = 0 } in
    let loops = c.args.loops.now in
    let fit = c.requires.run in
    let bases = turn_bases (length c.args.words.now) (get_or loops 0 none) (take (length loops - 1) (drop 1 loops)) loops c.args.out c.args.left c.args.right c.loop-x.x (more_loops none loops (omega arith)) fit c.loop-x-test.true in
    omega (arith, bases.2, c.requires.limit)

pub overflow_add-right : goal.overflow_add-right
overflow_add-right t c =
    let none : Loop = record { len = 0; out = 0; left = 0; right = 0 } in
    let loops = c.args.loops.now in
    let fit = c.requires.run in
    let bases = turn_bases (length c.args.words.now) (get_or loops 0 none) (take (length loops - 1) (drop 1 loops)) loops c.args.out c.args.left c.args.right c.loop-x.x (more_loops none loops (omega arith)) fit c.loop-x-test.true in
    omega (arith, bases.2, c.requires.limit)

pub turns_below-requires : goal.turns_below-requires
turns_below-requires t c =
    let none : Loop = record { len = 0; out = 0; left = 0; right = 0 } in
    let loops = c.args.loops.now in
    let fit = c.requires.run in
    let rest = take (length loops - 1) (drop 1 loops) in
    let is : loops ≡ get_or loops 0 none ∷ rest = more_loops none loops (omega arith) in
    let inner = turn_rest (length c.args.words.now) (length c.loop-x.words) (get_or loops 0 none) rest loops c.args.out c.args.left c.args.right c.loop-x.x is fit c.loop-x.invariant.same_length c.loop-x-test.true in
    (omega (arith, ap length is, c.decreases), (omega (arith, c.requires.limit, c.loop-x.invariant.same_length), inner))

pub loop-x-preserved : goal.loop-x-preserved
loop-x-preserved t c =
    let none : Loop = record { len = 0; out = 0; left = 0; right = 0 } in
    let loops = c.args.loops.now in
    let fit = c.requires.run in
    turn_turns_more c.args.turn (get_or loops 0 none) (take (length loops - 1) (drop 1 loops)) loops c.args.out c.args.left c.args.right c.loop-x.x c.args.words.now c.loop-x.words c.turns_below.new.words
    (more_loops none loops (omega arith)) fit c.loop-x-test.true c.loop-x.invariant c.turns_below.ensures
