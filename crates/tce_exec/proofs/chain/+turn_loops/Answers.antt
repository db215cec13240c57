use Rattle.std.proofs.Common.{◌≡◌, ◌*◌, ◌+◌, ◌-◌, ◌^◌, ◌<◌, ◌≤◌, ℕ, List, get_or, set, length, map, slice_index, refl, sym, ap, ◌∙◌, subst, arith}
use Rattle.std.specs.List.{All}
use Rattle.tce_walk.specs.Machine.{assignment_of}
use Rattle.tce_exec.specs.Bodies.{IsOperationAt}
use Rattle.tce_exec.specs.ChainRows.{link_along, IsLinkAlong}
use Rattle.tce_exec.specs.Following.{kept_own}
use Rattle.tce_exec.specs.Links.{AreLinks}
use Rattle.tce_exec.specs.MergedRows.{AreAlike}
use Rattle.tce_exec.specs.Storages.{work_of}
use Rattle.tce_exec.specs.Workspace.{Workspace, setting_in}
use Rattle.tce_exec.proofs.Bodies.{IsSplit, IsLoopAt, AreTurnsOf, split, loop_at, no_turn, next_turn, all_turns, set_on, set_back}
use Rattle.tce_exec.proofs.ChainRows.{IsLoopTurn, loop_turn, links_here, links_within, links_on, links_left, far_enough, near_enough, turn_before, inner_all}
use Rattle.tce_exec.proofs.LinkSteps.{links_none}
use Rattle.tce_exec.proofs.Following.{same_on}
use Rattle.tce_exec.proofs.MergedRows.{still_alike}
use Rattle.tce_exec.proofs.chain.+turn_loops.Goals as goal

pub loop-x-init : goal.loop-x-init
loop-x-init g t c =
    let x : Workspace = work_of g.D.Disk.files c.args.evaluation.now c.args.store.now in
    let b = c.args.rows.now.at in
    record {
      turns = no_turn x b.ops.now b.loops.now b.from.now b.len.now c.args.depth (slice_index c.args.numbers.now) c.requires.prepared;
      numbers_set = λ z. refl;
      moved = sym (links_none (get_or b.loops.now c.args.depth 0) c.args.links.now);
      same = (refl, refl, refl);
      cache = refl;
      disk = refl;
    }

pub overflow_add-numbers : goal.overflow_add-numbers
overflow_add-numbers g t c =
    let x : Workspace = work_of g.D.Disk.files c.args.evaluation.now c.args.store.now in
    let b = c.args.rows.now.at in
    let here : IsLoopAt x.places.space (get_or b.loops.now c.args.depth 0) (get_or b.from.now c.args.depth 0) (get_or b.len.now c.args.depth 0) =
    loop_at (setting_in x) x.places.space b.loops.now b.from.now b.len.now b.ops.now c.args.depth (slice_index c.args.numbers.now) c.index_count-indexes.ensures.limits (omega (arith, c.requires.depth, c.requires.row.inside)) c.requires.body in
    omega (arith, here.limit, c.loop-x-test.true)

pub advance-requires-clause-limit : goal.advance-requires-clause-limit
advance-requires-clause-limit g t c =
    let x : Workspace = work_of g.D.Disk.files c.args.evaluation.now c.args.store.now in
    let b = c.args.rows.now.at in
    let i : ℕ = get_or b.loops.now c.args.depth 0 in
    let now : List ℕ = set c.loop-x.numbers i (get_or b.from.now c.args.depth 0 + c.loop-x.x) in
    let at : IsLoopTurn x x b c.args.numbers.now now c.args.depth c.loop-x.x =
    loop_turn x x b c.args.numbers.now c.loop-x.numbers c.args.depth c.loop-x.x c.requires.prepared c.index_count-indexes.ensures.limits (kept_own x) (omega (arith, c.requires.depth, c.requires.row.inside)) c.told-numbers c.loop-x-test.true c.loop-x.invariant.numbers_set c.requires.begun c.requires.body in
    near_enough (2 ^ 64) c.args.links.now c.loop-x.links i c.loop-x.x c.min.result (turn_before c.loop-x.x c.min.result c.min.ensures) c.loop-x.invariant.moved
    (links_within (2 ^ 64) x b c.args.numbers.now now c.args.links.now c.args.depth c.loop-x.x c.requires.prepared c.count-nodes.ensures.kept at
    (inner_all x b c.args.numbers.now now c.args.depth c.loop-x.x at) c.requires.links (omega (arith, c.len-len.ensures.limit)))

pub turn_loops-requires : goal.turn_loops-requires
turn_loops-requires g t c κs within =
    let x : Workspace = work_of g.D.Disk.files c.args.evaluation.now c.args.store.now in
    let y : Workspace = work_of g.D.Disk.files c.args.evaluation.now c.loop-x.store in
    let b = c.args.rows.now.at in
    let i : ℕ = get_or b.loops.now c.args.depth 0 in
    let n : ℕ = 3 * length b.ops.now in
    let low : c.args.depth < length b.loops.now = omega (arith, c.requires.depth, c.requires.row.inside) in
    let now : List ℕ = set c.loop-x.numbers i (get_or b.from.now c.args.depth 0 + c.loop-x.x) in
    let first : IsLoopTurn x x b c.args.numbers.now now c.args.depth c.loop-x.x =
    loop_turn x x b c.args.numbers.now c.loop-x.numbers c.args.depth c.loop-x.x c.requires.prepared c.index_count-indexes.ensures.limits (kept_own x) low c.told-numbers c.loop-x-test.true c.loop-x.invariant.numbers_set c.requires.begun c.requires.body in
    let at : IsLoopTurn x y b c.args.numbers.now now c.args.depth c.loop-x.x =
    loop_turn x y b c.args.numbers.now c.loop-x.numbers c.args.depth c.loop-x.x c.requires.prepared c.index_count-indexes.ensures.limits c.loop-x.invariant.turns.kept low c.told-numbers c.loop-x-test.true c.loop-x.invariant.numbers_set c.requires.begun c.requires.body in
    let moved : c.advance.new.links ≡ map (link_along i c.loop-x.x) c.args.links.now =
    links_on c.args.links.now c.loop-x.links c.advance.new.links i c.loop-x.x c.min.result (turn_before c.loop-x.x c.min.result c.min.ensures) c.loop-x.invariant.moved c.advance.ensures in
    let has : AreLinks n x.places x.cache x.tensor (slice_index now) b.ops.now c.advance.new.links =
    subst (AreLinks n x.places x.cache x.tensor (slice_index now) b.ops.now) (sym moved) (links_here x b c.args.numbers.now now c.args.links.now c.args.depth c.loop-x.x first c.requires.links) in
    let links : AreLinks n y.places y.cache y.tensor (slice_index now) b.ops.now c.advance.new.links =
    subst (λ q. AreLinks n x.places q x.tensor (slice_index now) b.ops.now c.advance.new.links) (sym c.loop-x.invariant.cache) has in
    let alike : AreAlike b c.args.rows.now.row.depth c.advance.new.links =
    subst (AreAlike b c.args.rows.now.row.depth) (sym moved) (still_alike b c.args.links.now c.args.rows.now.row.depth i c.loop-x.x c.requires.row.alike) in (
      omega (arith, c.requires.depth, c.if-depth-rows.false),
      (
        within,
        (
          omega (arith, c.requires.depth, c.if-depth-rows.false),
          (
            c.loop-x.invariant.turns.changed.prepared,
            (
              record {
                inside = c.requires.row.inside;
                many = c.requires.row.many;
                alike = alike;
                count_is = c.requires.row.count_is;
              },
              (at.here, (links, at.begun)),
            ),
          ),
        ),
      ),
    )

pub loop-x-preserved : goal.loop-x-preserved
loop-x-preserved g t c =
    let x : Workspace = work_of g.D.Disk.files c.args.evaluation.now c.args.store.now in
    let y : Workspace = work_of g.D.Disk.files c.args.evaluation.now c.loop-x.store in
    let z : Workspace = work_of g.D.Disk.files c.args.evaluation.now c.turn_loops.new.store in
    let b = c.args.rows.now.at in
    let i : ℕ = get_or b.loops.now c.args.depth 0 in
    let y_is : ℕ = get_or b.from.now c.args.depth 0 + c.loop-x.x in
    let e = c.turn_loops.ensures in
    let now : List ℕ = set c.loop-x.numbers i y_is in
    let at : IsLoopTurn x y b c.args.numbers.now now c.args.depth c.loop-x.x =
    loop_turn x y b c.args.numbers.now c.loop-x.numbers c.args.depth c.loop-x.x c.requires.prepared c.index_count-indexes.ensures.limits c.loop-x.invariant.turns.kept (omega (arith, c.requires.depth, c.requires.row.inside)) c.told-numbers c.loop-x-test.true c.loop-x.invariant.numbers_set c.requires.begun c.requires.body in
    let moved : c.advance.new.links ≡ map (link_along i c.loop-x.x) c.args.links.now =
    links_on c.args.links.now c.loop-x.links c.advance.new.links i c.loop-x.x c.min.result (turn_before c.loop-x.x c.min.result c.min.ensures) c.loop-x.invariant.moved c.advance.ensures in
    let same_turn : c.loop-x.x ≡ c.loop-x.x + 1 - 1 = omega arith in
    record {
      turns = next_turn x y z b.ops.now b.loops.now b.from.now b.len.now c.args.depth c.loop-x.x (slice_index c.args.numbers.now) (assignment_of now) c.requires.prepared c.loop-x.invariant.turns at.next e.kept e.changed;
      numbers_set = λ n. ap (λ ns. set ns i n) e.numbers ∙ set_on c.args.numbers.now c.loop-x.numbers i y_is c.loop-x.invariant.numbers_set n;
      moved = e.links ∙ moved ∙ ap (λ n. map (link_along i n) c.args.links.now) same_turn;
      same = same_on c.args.store.now c.loop-x.store c.turn_loops.new.store c.loop-x.invariant.same e.same;
      cache = e.cache ∙ c.loop-x.invariant.cache;
      disk = e.disk ∙ c.loop-x.invariant.disk;
    }

pub withdraw-requires-clause-far : goal.withdraw-requires-clause-far
withdraw-requires-clause-far g t c =
    let b = c.args.rows.now.at in
    let i : ℕ = get_or b.loops.now c.args.depth 0 in
    let all : c.loop-x.x ≡ get_or b.len.now c.args.depth 0 = omega (arith, c.loop-x-test.false, c.loop-x.auto) in
    far_enough c.args.links.now c.loop-x.links i (get_or b.len.now c.args.depth 0 - 1) (c.loop-x.invariant.moved ∙ ap (λ n. map (link_along i (n - 1)) c.args.links.now) all)

pub returns-clause-links : goal.returns-clause-links
returns-clause-links g t c =
    let b = c.args.rows.now.at in
    let i : ℕ = get_or b.loops.now c.args.depth 0 in
    let all : c.loop-x.x ≡ get_or b.len.now c.args.depth 0 = omega (arith, c.loop-x-test.false, c.loop-x.auto) in
    links_left c.args.links.now c.loop-x.links c.withdraw.new.links i (get_or b.len.now c.args.depth 0 - 1) (c.loop-x.invariant.moved ∙ ap (λ n. map (link_along i (n - 1)) c.args.links.now) all) c.withdraw.ensures

pub returns-clause-changed : goal.returns-clause-changed
returns-clause-changed g t c =
    let x : Workspace = work_of g.D.Disk.files c.args.evaluation.now c.args.store.now in
    let y : Workspace = work_of g.D.Disk.files c.args.evaluation.now c.loop-x.store in
    let b = c.args.rows.now.at in
    let a = slice_index c.args.numbers.now in
    let low : c.args.depth < length b.loops.now = omega (arith, c.requires.depth, c.requires.row.inside) in
    let at : IsSplit b.loops.now b.from.now b.len.now c.args.depth = split x.places.space b.loops.now b.from.now b.len.now c.args.depth c.requires.body.ranges low in
    all_turns x y b.ops.now b.loops.now b.from.now b.len.now c.args.depth c.loop-x.x a at (omega (arith, c.loop-x-test.false, c.loop-x.auto)) c.loop-x.invariant.turns

pub returns-clause-numbers : goal.returns-clause-numbers
returns-clause-numbers g t c = set_back c.args.numbers.now c.loop-x.numbers (get_or c.args.rows.now.at.loops.now c.args.depth 0) c.loop-x.invariant.numbers_set
