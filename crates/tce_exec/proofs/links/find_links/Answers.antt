use Rattle.std.proofs.Common.{◌+◌, ◌*◌, ◌≤◌, ℕ, [], ◌∷◌, get_or, take, length, length-append, slice_index, refl, sym, ap, ◌∙◌, subst, arith, rules}
use Rattle.std.proofs.lemmas.Bool.{false≢true}
use Rattle.tce_cache.specs.Cache.{State as CacheState}
use Rattle.tce_code.specs.declared.op.Op.{Op}
use Rattle.tce_code.specs.declared.op.Op.TheVariants.{Open}
use Rattle.tce_walk.specs.Machine.{IsNodeAt}
use Rattle.tce_exec.specs.Evaluations.{places_of}
use Rattle.tce_exec.specs.Following.{kept_on}
use Rattle.tce_exec.specs.Links.{AreLinks}
use Rattle.tce_exec.specs.Storages.{work_of}
use Rattle.tce_exec.specs.TileCounts.{tile_count}
use Rattle.tce_exec.specs.Workspace.{Workspace, setting_in}
use Rattle.tce_exec.proofs.Bodies.{node_here}
use Rattle.tce_exec.proofs.Following.{read_on, same_on}
use Rattle.tce_exec.proofs.LinkLaws.{links_more, all_links}
use Rattle.tce_exec.proofs.links.find_links.Goals as goal

pub find_link-requires-clause-node : goal.find_link-requires-clause-node
find_link-requires-clause-node g c =
    let x : Workspace = work_of g.D.Disk.files c.args.evaluation.now c.args.store.now in
    let y : Workspace = work_of g.D.Disk.files c.args.evaluation.now c.loop-op.store in
    let op : Op = get_or c.args.ops.now c.loop-op.op-index (Open 0) in
    subst (λ v. IsNodeAt (setting_in y) v (slice_index c.args.first.now.numbers)) (sym c.node_of.ensures)
    (node_here x y c.args.ops.now (slice_index c.args.first.now.numbers) c.loop-op.op-index op (Open 0) c.requires.prepared c.requires.ops c.loop-op-test.true refl c.loop-op.invariant.kept)

pub returns-in_err-link-clause-upheld : goal.returns-in_err-link-clause-upheld
returns-in_err-link-clause-upheld g c = record {
  kept =
      let x : Workspace = work_of g.D.Disk.files c.args.evaluation.now c.args.store.now in
      let y : Workspace = work_of g.D.Disk.files c.args.evaluation.now c.loop-op.store in
      let z : Workspace = work_of g.D.Disk.files c.args.evaluation.now c.find_link.new.store in
      kept_on x y z c.loop-op.invariant.kept c.in_err-link.ensures.upheld.kept;
  same = search rules;
  fault_reported = search rules;
}

pub loop-op-preserved : goal.loop-op-preserved
loop-op-preserved g c =
    let x : Workspace = work_of g.D.Disk.files c.args.evaluation.now c.args.store.now in
    let y : Workspace = work_of g.D.Disk.files c.args.evaluation.now c.loop-op.store in
    let z : Workspace = work_of g.D.Disk.files c.args.evaluation.now c.find_link.new.store in
    let op : Op = get_or c.args.ops.now c.loop-op.op-index (Open 0) in
    let e = c.in_ok-link.ensures in
    let frames = ap (λ (q : CacheState). q.frames) c.loop-op.invariant.kept.cache in
    let room : tile_count c.args.evaluation.now.tree.now c.args.ops.now ≤ y.cache.frames = omega (arith, c.requires.frames, frames) in
    record {
      kept = kept_on x y z c.loop-op.invariant.kept e.upheld.kept;
      read = read_on (3 * c.loop-op.op-index) 3 (3 * (c.loop-op.op-index + 1)) x y z (omega arith) c.loop-op.invariant.kept c.loop-op.invariant.read e.read;
      found = subst (λ ls. AreLinks (tile_count c.args.evaluation.now.tree.now (take (c.loop-op.op-index + 1) c.args.ops.now)) (places_of c.args.evaluation.now) z.cache c.args.evaluation.now.result.now.tensor (slice_index c.args.first.now.numbers) (take (c.loop-op.op-index + 1) c.args.ops.now) ls) (sym c.push.ensures.items) (links_more (places_of c.args.evaluation.now) y.cache z.cache c.args.evaluation.now.result.now.tensor (slice_index c.args.first.now.numbers) c.args.ops.now c.loop-op.links.items c.loop-op.op-index op (Open 0) c.in_ok-link.link c.node_of.result
          e.last room c.loop-op-test.true refl c.node_of.ensures c.loop-op.invariant.found e.link);
      long = omega (arith, ap length c.push.ensures.items, length-append c.loop-op.links.items (c.in_ok-link.link ∷ []), c.loop-op.invariant.long);
      same = same_on c.args.store.now c.loop-op.store c.find_link.new.store c.loop-op.invariant.same e.upheld.same;
      counted = e.upheld.fault_reported.quiet false≢true ∙ c.loop-op.invariant.counted;
    }

pub returns-clause-links : goal.returns-clause-links
returns-clause-links g c =
    all_links (places_of c.args.evaluation.now) c.loop-op.store.cache.now c.args.evaluation.now.result.now.tensor (slice_index c.args.first.now.numbers) c.args.ops.now c.loop-op.links.items c.loop-op.op-index
    (omega (arith, c.loop-op-test.false, c.loop-op.auto)) c.loop-op.invariant.found
