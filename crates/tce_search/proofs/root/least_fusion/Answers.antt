use Rattle.std.proofs.Common.{None}
use Rattle.std.specs.List.{All}
use Rattle.std.proofs.lemmas.List.Elements.{AllWithin-none}
use Rattle.tce_search.specs.declared.candidate.Candidate.{Candidate}
use Rattle.tce_search.specs.Candidates.{IsLimited}
use Rattle.tce_search.proofs.Covers.{read_contains}
use Rattle.tce_search.specs.Root.{IsBound}
use Rattle.tce_search.proofs.Leasts.{holds_read, room_read, within_kept, earlier_kept, made_further, all_passed, one_more_read}
use Rattle.tce_search.proofs.root.least_fusion.Goals as goal

pub loop-left-init : goal.loop-left-init
loop-left-init c =
    record { bound = AllWithin-none (λ (left : Candidate). All (IsBound c.args.loops None left) c.args.rights.now) c.args.lefts.now 0; made = tt }

pub loop-right-init : goal.loop-right-init
loop-right-init c =
    record { earlier = c.loop-left.invariant.bound; here = AllWithin-none (IsBound c.args.loops c.loop-left.best c.left-item.result) c.args.rights.now 0; made = c.loop-left.invariant.made }

pub lesser-best-requires-clause-loops : goal.lesser-best-requires-clause-loops
lesser-best-requires-clause-loops c = c.requires.few

pub lesser-best-requires-clause-left : goal.lesser-best-requires-clause-left
lesser-best-requires-clause-left c = holds_read IsLimited c.args.lefts.now c.loop-left.left-index c.left-item.result c.requires.limited_left c.loop-left-test.true c.left-item.is

pub lesser-best-requires-clause-right : goal.lesser-best-requires-clause-right
lesser-best-requires-clause-right c = holds_read IsLimited c.args.rights.now c.loop-right.right-index c.right-item.result c.requires.limited_right c.loop-right-test.true c.right-item.is

pub lesser-best-requires-clause-room : goal.lesser-best-requires-clause-room
lesser-best-requires-clause-room c = room_read c.args.lefts.now c.args.rights.now c.loop-left.left-index c.loop-right.right-index c.left-item.result c.right-item.result c.requires.room c.loop-left-test.true c.left-item.is c.loop-right-test.true c.right-item.is

pub loop-right-preserved : goal.loop-right-preserved
loop-right-preserved c =
    let old = c.loop-right.best in
    let new = c.lesser-best.result in
    let left = c.left-item.result in
    let kept = c.lesser-best.ensures.kept in
    record {
      earlier = earlier_kept c.args.loops old new kept c.args.lefts.now c.args.rights.now c.loop-left.left-index c.loop-right.invariant.earlier;
      here =
          one_more_read (IsBound c.args.loops new left) c.args.rights.now c.loop-right.right-index c.right-item.result c.loop-right-test.true c.right-item.is
          (within_kept c.args.loops old new kept left c.args.rights.now c.loop-right.right-index c.loop-right.invariant.here) c.lesser-best.ensures.bound;
      made =
          made_further c.args.loops old new c.args.lefts.now c.args.rights.now left c.right-item.result (read_contains c.args.lefts.now c.loop-left.left-index c.left-item.result c.loop-left-test.true c.left-item.is) (read_contains c.args.rights.now c.loop-right.right-index c.right-item.result c.loop-right-test.true c.right-item.is)
          c.lesser-best.ensures.made c.loop-right.invariant.made;
    }

pub loop-left-preserved : goal.loop-left-preserved
loop-left-preserved c =
    let best = c.loop-right.best in
    record {
      bound =
          one_more_read (λ (left : Candidate). All (IsBound c.args.loops best left) c.args.rights.now) c.args.lefts.now c.loop-left.left-index c.left-item.result c.loop-left-test.true c.left-item.is c.loop-right.invariant.earlier
          (all_passed (IsBound c.args.loops best c.left-item.result) c.args.rights.now c.loop-right.right-index c.loop-right-test.false c.loop-right.invariant.here);
      made = c.loop-right.invariant.made;
    }

pub returns-clause-bound : goal.returns-clause-bound
returns-clause-bound c = all_passed (λ (left : Candidate). All (IsBound c.args.loops c.loop-left.best left) c.args.rights.now) c.args.lefts.now c.loop-left.left-index c.loop-left-test.false c.loop-left.invariant.bound

pub returns-clause-made : goal.returns-clause-made
returns-clause-made c = c.loop-left.invariant.made
