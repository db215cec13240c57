use Rattle.std.proofs.Common.{◌<◌, ◌^◌, length, sym, subst}
use Rattle.std.proofs.lemmas.List.Elements.{AllWithin-none}
use Rattle.tce_fusion.specs.Row.{Row}
use Rattle.tce_fusion.specs.Cover.{StepsCovered}
use Rattle.tce_check.specs.Verdict.{WhereJoined}
use Rattle.tce_nesting.specs.Ends.{AreEnds}
use Rattle.tce_tree.specs.ContractionTree.{node_loops}
use Rattle.tce_check.specs.Tops.{AreTops}
use Rattle.tce_check.proofs.Firsts.{one_more, all_passed, fewer_left, one_less, untold}
use Rattle.tce_nesting.proofs.RunParts.{run_at}
use Rattle.tce_check.proofs.Reaches.{tops_of_left}
use Rattle.tce_check.proofs.RunParts.{run_skipped, run_dear}
use Rattle.tce_check.proofs.steps.Node.covers_with.Goals as goal

pub loop-place-preserved-then-have_conflict : goal.loop-place-preserved-then-have_conflict
loop-place-preserved-then-have_conflict c =
    let node = c.args.self.now in
    let loops = node_loops node.tree.now node.number in
    let run = c.index-runs-place.result in
    let is = run_at loops c.loop-place.place c.args.rights.now c.args.runs.now run c.requires.runs c.loop-place-test.true c.index-runs-place.is in
    run_skipped node.tree.now node.number c.loop-place.place (StepsCovered node.space.now node.tree.now node.outer node.number node.rows.now) c.args.rights.now c.args.left.now c.ends_of-own.result run
    (subst (λ o. AreEnds o c.args.left.now c.ends_of-own.result) c.loops-loops.ensures.value c.ends_of-own.ensures) is (c.have_conflict.ensures c.if-have_conflict.true) c.loop-place.invariant

pub loop-place-smaller-then-have_conflict : goal.loop-place-smaller-then-have_conflict
loop-place-smaller-then-have_conflict c =
    let node = c.args.self.now in
    let is = run_at (node_loops node.tree.now node.number) c.loop-place.place c.args.rights.now c.args.runs.now c.index-runs-place.result c.requires.runs c.loop-place-test.true c.index-runs-place.is in
    fewer_left (length c.args.rights.now) c.loop-place.place _ is.later is.inside

pub loop-place-preserved-then-is_dear : goal.loop-place-preserved-then-is_dear
loop-place-preserved-then-is_dear c =
    let node = c.args.self.now in
    let run = c.index-runs-place.result in
    let is = run_at (node_loops node.tree.now node.number) c.loop-place.place c.args.rights.now c.args.runs.now run c.requires.runs c.loop-place-test.true c.index-runs-place.is in
    run_dear node.tree.now node.number c.loop-place.place (StepsCovered node.space.now node.tree.now node.outer node.number node.rows.now) c.args.rights.now c.args.left.now run is
    c.requires.rights (c.is_dear.ensures c.if-is_dear.true) c.loop-place.invariant

pub loop-place-smaller-then-is_dear : goal.loop-place-smaller-then-is_dear
loop-place-smaller-then-is_dear c =
    let node = c.args.self.now in
    let is = run_at (node_loops node.tree.now node.number) c.loop-place.place c.args.rights.now c.args.runs.now c.index-runs-place.result c.requires.runs c.loop-place-test.true c.index-runs-place.is in
    fewer_left (length c.args.rights.now) c.loop-place.place _ is.later is.inside

pub loop-place-preserved : goal.loop-place-preserved
loop-place-preserved c =
    let node = c.args.self.now in
    one_more (WhereJoined node.tree.now node.number (StepsCovered node.space.now node.tree.now node.outer node.number node.rows.now) c.args.left.now)
    c.args.rights.now c.loop-place.place c.index-rights-place.result c.loop-place-test.true c.index-rights-place.is c.loop-place.invariant (c.covers_next.ensures c.if-not-covers_next.false)

pub covers_next-requires-clause-tops : goal.covers_next-requires-clause-tops
covers_next-requires-clause-tops c =
    let node = c.args.self.now in
    let left = c.args.left.now in
    subst (AreTops (node_loops node.tree.now node.number) left) (sym c.as_slice-in-loop-place.ensures.value)
    (subst (λ loops. AreTops loops left c.tops_of-tops.result.items) c.loops-loops.ensures.value c.tops_of-tops.ensures)

pub is_dear-requires-clause-reach : goal.is_dear-requires-clause-reach
is_dear-requires-clause-reach c right rl =
    let node = c.args.self.now in
    let loops = node_loops node.tree.now node.number in
    let left = c.args.left.now in
    c.reach_with-reach.ensures left right
    (tops_of_left loops left right c.as_slice.result.now
    (subst (AreTops loops left) (sym c.as_slice.ensures.value)
    (subst (λ all. AreTops all left c.tops_of-tops.result.items) c.loops-loops.ensures.value c.tops_of-tops.ensures))) c.requires.left rl

pub reach_with-reach-requires : goal.reach_with-reach-requires
reach_with-reach-requires c = c.requires.ready

pub loop-place-init : goal.loop-place-init
loop-place-init c =
    let node = c.args.self.now in
    AllWithin-none (WhereJoined node.tree.now node.number (StepsCovered node.space.now node.tree.now node.outer node.number node.rows.now) c.args.left.now) c.args.rights.now 0

pub is_dear-requires-clause-ready : goal.is_dear-requires-clause-ready
is_dear-requires-clause-ready c = c.requires.ready

pub covers_next-requires-clause-ready : goal.covers_next-requires-clause-ready
covers_next-requires-clause-ready c = c.requires.ready

pub covers_next-requires-clause-left : goal.covers_next-requires-clause-left
covers_next-requires-clause-left c = c.requires.left

pub covers_next-requires-clause-right : goal.covers_next-requires-clause-right
covers_next-requires-clause-right c =
    subst (λ (row : Row). row.cost < 2 ^ 96) (sym c.index-rights-place.is) (c.requires.rights c.loop-place.place c.index-rights-place.result c.loop-place-test.true)

pub returns-then-not-covers_next : goal.returns-then-not-covers_next
returns-then-not-covers_next c = untold

pub loop-place-smaller : goal.loop-place-smaller
loop-place-smaller c = one_less (length c.args.rights.now) c.loop-place.place c.loop-place-test.true

pub returns : goal.returns
returns c _ =
    let node = c.args.self.now in
    all_passed (WhereJoined node.tree.now node.number (StepsCovered node.space.now node.tree.now node.outer node.number node.rows.now) c.args.left.now) c.args.rights.now c.loop-place.place c.loop-place-test.false c.loop-place.invariant
