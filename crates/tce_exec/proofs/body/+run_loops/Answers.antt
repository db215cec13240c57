use Rattle.std.proofs.Common.{◌≡◌, ◌+◌, ◌-◌, ◌<◌, ◌≤◌, ℕ, get_or, set, length, slice_index, refl, sym, ap, ◌∙◌, subst, arith, rules}
use Rattle.std.proofs.lemmas.Bool.{false≢true}
use Rattle.tce_walk.specs.Machine.{assignment_of}
use Rattle.tce_exec.specs.Workspace.{Workspace, setting_in}
use Rattle.tce_exec.specs.Storages.{work_of}
use Rattle.tce_exec.proofs.Bodies.{IsSplit, IsLoopAt, AreTurnsOf, split, loop_at, deeper_in, here_later, no_turn, next_turn, all_turns, turn_few, set_number, set_on, set_back}
use Rattle.tce_exec.specs.Following.{kept_on}
use Rattle.tce_exec.proofs.Following.{same_on}
use Rattle.tce_exec.proofs.body.+run_loops.Goals as goal

pub run_loops-requires : goal.run_loops-requires
run_loops-requires g t c κs within =
    let x : Workspace = work_of g.D.Disk.files c.args.evaluation.now c.args.store.now in
    let y : Workspace = work_of g.D.Disk.files c.args.evaluation.now c.loop-x.store in
    let b = c.args.at.now in
    let a = slice_index c.args.numbers.now in
    let low : c.args.depth < length b.loops.now = omega (arith, c.requires.depth, c.if-depth-at.false) in
    let here : IsLoopAt x.places.space (get_or b.loops.now c.args.depth 0) (get_or b.from.now c.args.depth 0) (get_or b.len.now c.args.depth 0) =
    loop_at (setting_in x) x.places.space b.loops.now b.from.now b.len.now b.ops.now c.args.depth a c.index_count-indexes.ensures.limits low c.requires.body in
    let at : IsSplit b.loops.now b.from.now b.len.now c.args.depth = split x.places.space b.loops.now b.from.now b.len.now c.args.depth c.requires.body.ranges low in
    let next = set_number c.args.numbers.now c.loop-x.numbers (get_or b.loops.now c.args.depth 0) (get_or b.from.now c.args.depth 0 + c.loop-x.x) (omega (arith, here.small, c.told-numbers)) c.loop-x.invariant.numbers_set in
    let now = assignment_of (set c.loop-x.numbers (get_or b.loops.now c.args.depth 0) (get_or b.from.now c.args.depth 0 + c.loop-x.x)) in
    let body = deeper_in (setting_in x) x.places.space b.loops.now b.from.now b.len.now b.ops.now c.args.depth c.loop-x.x a now refl low c.loop-x-test.true next c.requires.body in
    let body_now = here_later x y b.loops.now b.from.now b.len.now b.ops.now (c.args.depth + 1) now c.requires.prepared c.loop-x.invariant.turns.kept body in
    let few = turn_few x y b.ops.now b.loops.now b.from.now b.len.now c.args.depth c.loop-x.x a at c.loop-x-test.true c.loop-x.invariant.turns c.requires.few in
    (omega (arith, low), (within, (omega (arith, low), (c.loop-x.invariant.turns.changed.prepared, (body_now, few)))))

pub returns-in_err-run_loops-clause-upheld : goal.returns-in_err-run_loops-clause-upheld
returns-in_err-run_loops-clause-upheld g t c = record {
  kept =
      let x : Workspace = work_of g.D.Disk.files c.args.evaluation.now c.args.store.now in
      let y : Workspace = work_of g.D.Disk.files c.args.evaluation.now c.loop-x.store in
      let z : Workspace = work_of g.D.Disk.files c.args.evaluation.now c.run_loops.new.store in
      kept_on x y z c.loop-x.invariant.turns.kept c.in_err-run_loops.ensures.upheld.kept;
  same = search rules;
  fault_reported = search rules;
}

pub loop-x-preserved : goal.loop-x-preserved
loop-x-preserved g t c =
    let x : Workspace = work_of g.D.Disk.files c.args.evaluation.now c.args.store.now in
    let y : Workspace = work_of g.D.Disk.files c.args.evaluation.now c.loop-x.store in
    let z : Workspace = work_of g.D.Disk.files c.args.evaluation.now c.run_loops.new.store in
    let b = c.args.at.now in
    let a = slice_index c.args.numbers.now in
    let i : ℕ = get_or b.loops.now c.args.depth 0 in
    let y_is : ℕ = get_or b.from.now c.args.depth 0 + c.loop-x.x in
    let e = c.in_ok-run_loops.ensures in
    let low : c.args.depth < length b.loops.now = omega (arith, c.requires.depth, c.if-depth-at.false) in
    let here : IsLoopAt x.places.space i (get_or b.from.now c.args.depth 0) (get_or b.len.now c.args.depth 0) =
    loop_at (setting_in x) x.places.space b.loops.now b.from.now b.len.now b.ops.now c.args.depth a c.index_count-indexes.ensures.limits low c.requires.body in
    let next = set_number c.args.numbers.now c.loop-x.numbers i y_is (omega (arith, here.small, c.told-numbers)) c.loop-x.invariant.numbers_set in
    record {
      turns = next_turn x y z b.ops.now b.loops.now b.from.now b.len.now c.args.depth c.loop-x.x a (assignment_of (set c.loop-x.numbers i y_is)) c.requires.prepared c.loop-x.invariant.turns next e.upheld.kept e.changed;
      numbers_set = λ n. ap (λ ns. set ns i n) e.numbers ∙ set_on c.args.numbers.now c.loop-x.numbers i y_is c.loop-x.invariant.numbers_set n;
      same = same_on c.args.store.now c.loop-x.store c.run_loops.new.store c.loop-x.invariant.same e.upheld.same;
      counted = e.upheld.fault_reported.quiet false≢true ∙ c.loop-x.invariant.counted;
    }

pub returns-clause-changed : goal.returns-clause-changed
returns-clause-changed g t c =
    let x : Workspace = work_of g.D.Disk.files c.args.evaluation.now c.args.store.now in
    let y : Workspace = work_of g.D.Disk.files c.args.evaluation.now c.loop-x.store in
    let b = c.args.at.now in
    let a = slice_index c.args.numbers.now in
    let low : c.args.depth < length b.loops.now = omega (arith, c.requires.depth, c.if-depth-at.false) in
    let at : IsSplit b.loops.now b.from.now b.len.now c.args.depth = split x.places.space b.loops.now b.from.now b.len.now c.args.depth c.requires.body.ranges low in
    all_turns x y b.ops.now b.loops.now b.from.now b.len.now c.args.depth c.loop-x.x a at (omega (arith, c.loop-x-test.false, c.loop-x.auto)) c.loop-x.invariant.turns
