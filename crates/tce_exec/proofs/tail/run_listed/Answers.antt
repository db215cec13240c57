use Rattle.std.proofs.Common.{◌≡◌, map, drop, drop-drop, get_or, slice_index, refl, sym, ap, ap₂, ◌∙◌, subst, arith, rules}
use Rattle.std.proofs.lemmas.Bool.{false≢true}
use Rattle.tce_block.specs.Parts.{blocks}
use Rattle.tce_block.specs.Cuts.{part_of}
use Rattle.tce_exec.specs.Workspace.{Workspace}
use Rattle.tce_exec.specs.Storages.{work_of}
use Rattle.tce_exec.proofs.Following.{same_on}
use Rattle.tce_exec.specs.Following.{kept_on}
use Rattle.tce_space.specs.Space.{extent_at, edge_at}
use Rattle.tce_walk.specs.declared.machine.Tail.{Tail}
use Rattle.tce_exec.specs.Blocks.{blocks_of, loops_of}
use Rattle.tce_exec.specs.Along.{IsAlong}
use Rattle.tce_exec.specs.Plans.{IsNest}
use Rattle.tce_exec.proofs.Along.{begun, is_block, few_left, stepped, has_turns, ended}
use Rattle.tce_exec.proofs.Listed.{block_left, none_left}
use Rattle.std.proofs.lemmas.Option.{slice_get_read}
use Rattle.tce_exec.proofs.tail.run_listed.Goals as goal

pub loop-k-init : goal.loop-k-init
loop-k-init g c =
    let x : Workspace = work_of g.D.Disk.files c.args.evaluation.now c.args.store.now in
    let e = c.requires.plan in
    let all : map part_of c.args.plan.now.list.items ≡ blocks_of x.places.space c.args.tail.now =
    e.is.list_is c.requires.few ∙ ap₂ blocks (e.is.extents_are ∙ ap (λ (t : Tail). map (extent_at x.places.space) (loops_of t)) e.tail_is) (e.is.edges_are ∙ ap (λ (t : Tail). map (edge_at x.places.space) (loops_of t)) e.tail_is) in
    record {
      along = subst (IsAlong x x c.args.tail.now (slice_index c.args.numbers.now)) (sym all) (begun x c.args.tail.now (slice_index c.args.numbers.now) c.requires.prepared);
      others = λ i m. ap (λ f. f i) c.requires.outside;
      position = c.requires.position;
      nest = subst (λ (t : Tail). IsNest x.places t c.args.plan.now.nest) e.tail_is e.is.nest_is;
      same = (refl, refl, refl);
      made = refl;
      tail_is = refl;
      cuts_are = refl;
      few_are = refl;
      list_is = refl;
      last = c.len-k-end.ensures.value;
      counted = refl;
    }

pub run_block-requires-clause-block : goal.run_block-requires-clause-block
run_block-requires-clause-block g c =
    let x : Workspace = work_of g.D.Disk.files c.args.evaluation.now c.args.store.now in
    let y : Workspace = work_of g.D.Disk.files c.args.evaluation.now c.loop-k.store in
    let list = c.args.plan.now.list.items in
    let block = c.index-deref-k.result in
    let found = slice_get_read list c.len-k-end.result c.loop-k.k block c.loop-k.invariant.last c.loop-k-test.true
    (subst (λ l. block ≡ get_or l c.loop-k.k block) (c.deref.ensures.0 ∙ ap (λ l. l.items) c.loop-k.invariant.list_is) c.index-deref-k.is) in
    let there = block_left list c.loop-k.k block found in
    is_block x y c.args.tail.now (slice_index c.args.numbers.now) (drop c.loop-k.k (map part_of list)) (part_of c.index-deref-k.result) c.loop-k.invariant.along there

pub run_block-requires-clause-few : goal.run_block-requires-clause-few
run_block-requires-clause-few g c =
    let x : Workspace = work_of g.D.Disk.files c.args.evaluation.now c.args.store.now in
    let y : Workspace = work_of g.D.Disk.files c.args.evaluation.now c.loop-k.store in
    let list = c.args.plan.now.list.items in
    let block = c.index-deref-k.result in
    let found = slice_get_read list c.len-k-end.result c.loop-k.k block c.loop-k.invariant.last c.loop-k-test.true
    (subst (λ l. block ≡ get_or l c.loop-k.k block) (c.deref.ensures.0 ∙ ap (λ l. l.items) c.loop-k.invariant.list_is) c.index-deref-k.is) in
    let there = block_left list c.loop-k.k block found in
    few_left x y c.args.tail.now (slice_index c.args.numbers.now) (drop c.loop-k.k (map part_of list)) (part_of c.index-deref-k.result) c.loop-k.invariant.along there c.requires.touches

pub loop-k-preserved : goal.loop-k-preserved
loop-k-preserved g c =
    let x : Workspace = work_of g.D.Disk.files c.args.evaluation.now c.args.store.now in
    let y : Workspace = work_of g.D.Disk.files c.args.evaluation.now c.loop-k.store in
    let z : Workspace = work_of g.D.Disk.files c.args.evaluation.now c.run_block.new.store in
    let list = c.args.plan.now.list.items in
    let block = c.index-deref-k.result in
    let found = slice_get_read list c.len-k-end.result c.loop-k.k block c.loop-k.invariant.last c.loop-k-test.true
    (subst (λ l. block ≡ get_or l c.loop-k.k block) (c.deref.ensures.0 ∙ ap (λ l. l.items) c.loop-k.invariant.list_is) c.index-deref-k.is) in
    let there = block_left list c.loop-k.k block found in
    let e = c.in_ok-run_block.ensures in
    record {
      along = subst (IsAlong x z c.args.tail.now (slice_index c.args.numbers.now)) (drop-drop 1 c.loop-k.k (map part_of list))
          (stepped x y z c.args.tail.now (slice_index c.args.numbers.now) (drop c.loop-k.k (map part_of list)) (part_of c.index-deref-k.result) c.requires.prepared c.loop-k.invariant.along there e.upheld.kept e.changed);
      others = e.others;
      position = e.position;
      nest = e.nest;
      same = same_on c.args.store.now c.loop-k.store c.run_block.new.store c.loop-k.invariant.same e.upheld.same;
      made = c.loop-k.invariant.made;
      tail_is = c.loop-k.invariant.tail_is;
      cuts_are = c.loop-k.invariant.cuts_are;
      few_are = c.loop-k.invariant.few_are;
      list_is = c.loop-k.invariant.list_is;
      last = c.loop-k.invariant.last;
      counted = e.upheld.fault_reported.quiet false≢true ∙ c.loop-k.invariant.counted;
    }

pub returns-in_err-run_block-clause-upheld : goal.returns-in_err-run_block-clause-upheld
returns-in_err-run_block-clause-upheld g c = record {
  kept =
      let x : Workspace = work_of g.D.Disk.files c.args.evaluation.now c.args.store.now in
      let y : Workspace = work_of g.D.Disk.files c.args.evaluation.now c.loop-k.store in
      let z : Workspace = work_of g.D.Disk.files c.args.evaluation.now c.run_block.new.store in
      kept_on x y z c.loop-k.invariant.along.kept c.in_err-run_block.ensures.upheld.kept;
  same = search rules;
  fault_reported = search rules;
}

pub returns-clause-changed : goal.returns-clause-changed
returns-clause-changed g c =
    let x : Workspace = work_of g.D.Disk.files c.args.evaluation.now c.args.store.now in
    let y : Workspace = work_of g.D.Disk.files c.args.evaluation.now c.loop-k.store in
    let list = c.args.plan.now.list.items in
    ended x y c.args.tail.now (slice_index c.args.numbers.now) (drop c.loop-k.k (map part_of list)) c.index_count-indexes.ensures.limits (has_turns x.places.space c.index_count-indexes.ensures.limits)
    c.requires.prepared c.len-len.ensures.words c.requires.tail c.loop-k.invariant.along (none_left list c.loop-k.k (omega (arith, c.loop-k-test.false, c.loop-k.invariant.last)))
