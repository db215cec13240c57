use Rattle.std.proofs.Common.{◌+◌, slice_index, sym, ap, ◌∙◌, subst, arith, rules}
use Rattle.tce_cache.specs.Cache.{State as CacheState}
use Rattle.tce_exec.specs.Evaluations.{places_of}
use Rattle.tce_exec.specs.Following.{kept_on}
use Rattle.tce_exec.specs.Operands.{IsReadable}
use Rattle.tce_exec.specs.Storages.{work_of}
use Rattle.tce_exec.specs.Workspace.{Workspace}
use Rattle.tce_exec.proofs.Following.{read_on}
use Rattle.tce_exec.proofs.LinkLaws.{pair_keeps, sum_keeps, pair_link, sum_link}
use Rattle.tce_exec.proofs.Operating.{readable_left, readable_right}
use Rattle.tce_exec.proofs.links.find_link.Goals as goal

pub find_source-requires-clause-readable : goal.find_source-requires-clause-readable
find_source-requires-clause-readable g c =
    let x : Workspace = work_of g.D.Disk.files c.args.evaluation.now c.args.store.now in
    subst (λ o. IsReadable x o (slice_index c.args.first.now.numbers)) (sym c.left-operand.ensures.value) (readable_left x c.args.v (slice_index c.args.first.now.numbers) c.count-nodes.ensures.kept c.requires.prepared c.requires.node)

pub find_source-requires-in-Some-clause-readable : goal.find_source-requires-in-Some-clause-readable
find_source-requires-in-Some-clause-readable g c =
    let y : Workspace = work_of g.D.Disk.files c.args.evaluation.now c.find_source.new.store in
    readable_right y c.args.v (slice_index c.args.first.now.numbers) c.in-Some.second.now c.count-nodes.ensures.kept c.in_ok-left.ensures.read.prepared (record { known = c.requires.node.known; inside = c.requires.node.inside }) (sym c.in-Some.ensures.value)

pub returns-in_err-right-in-Some-clause-upheld : goal.returns-in_err-right-in-Some-clause-upheld
returns-in_err-right-in-Some-clause-upheld g c = record {
  kept =
      let x : Workspace = work_of g.D.Disk.files c.args.evaluation.now c.args.store.now in
      let y : Workspace = work_of g.D.Disk.files c.args.evaluation.now c.find_source.new.store in
      let z : Workspace = work_of g.D.Disk.files c.args.evaluation.now c.find_source-in-Some.new.store in
      kept_on x y z c.in_ok-left.ensures.upheld.kept c.in_err-right-in-Some.ensures.upheld.kept;
  same = search rules;
  fault_reported = search rules;
}

pub returns-in_err-out-in-Some-clause-upheld : goal.returns-in_err-out-in-Some-clause-upheld
returns-in_err-out-in-Some-clause-upheld g c = record {
  kept =
      let x : Workspace = work_of g.D.Disk.files c.args.evaluation.now c.args.store.now in
      let y : Workspace = work_of g.D.Disk.files c.args.evaluation.now c.find_source.new.store in
      let z : Workspace = work_of g.D.Disk.files c.args.evaluation.now c.find_source-in-Some.new.store in
      let u : Workspace = work_of g.D.Disk.files c.args.evaluation.now c.find_target.new.store in
      kept_on x z u (kept_on x y z c.in_ok-left.ensures.upheld.kept c.in_ok-right-in-Some.ensures.upheld.kept) c.in_err-out-in-Some.ensures.upheld.kept;
  same = search rules;
  fault_reported = search rules;
}

pub returns-in_ok-out-in-Some-clause-upheld : goal.returns-in_ok-out-in-Some-clause-upheld
returns-in_ok-out-in-Some-clause-upheld g c = record {
  kept =
      let x : Workspace = work_of g.D.Disk.files c.args.evaluation.now c.args.store.now in
      let y : Workspace = work_of g.D.Disk.files c.args.evaluation.now c.find_source.new.store in
      let z : Workspace = work_of g.D.Disk.files c.args.evaluation.now c.find_source-in-Some.new.store in
      let u : Workspace = work_of g.D.Disk.files c.args.evaluation.now c.find_target.new.store in
      kept_on x z u (kept_on x y z c.in_ok-left.ensures.upheld.kept c.in_ok-right-in-Some.ensures.upheld.kept) c.in_ok-out-in-Some.ensures.upheld.kept;
  same = search rules;
  fault_reported = search rules;
}

pub returns-in_err-out-in-None-clause-upheld : goal.returns-in_err-out-in-None-clause-upheld
returns-in_err-out-in-None-clause-upheld g c = record {
  kept =
      let x : Workspace = work_of g.D.Disk.files c.args.evaluation.now c.args.store.now in
      let y : Workspace = work_of g.D.Disk.files c.args.evaluation.now c.find_source.new.store in
      let u : Workspace = work_of g.D.Disk.files c.args.evaluation.now c.find_target-in-None.new.store in
      kept_on x y u c.in_ok-left.ensures.upheld.kept c.in_err-out-in-None.ensures.upheld.kept;
  same = search rules;
  fault_reported = search rules;
}

pub returns-in_ok-out-in-None-clause-upheld : goal.returns-in_ok-out-in-None-clause-upheld
returns-in_ok-out-in-None-clause-upheld g c = record {
  kept =
      let x : Workspace = work_of g.D.Disk.files c.args.evaluation.now c.args.store.now in
      let y : Workspace = work_of g.D.Disk.files c.args.evaluation.now c.find_source.new.store in
      let u : Workspace = work_of g.D.Disk.files c.args.evaluation.now c.find_target-in-None.new.store in
      kept_on x y u c.in_ok-left.ensures.upheld.kept c.in_ok-out-in-None.ensures.upheld.kept;
  same = search rules;
  fault_reported = search rules;
}

pub returns-in_ok-out-in-Some-clause-read : goal.returns-in_ok-out-in-Some-clause-read
returns-in_ok-out-in-Some-clause-read g c =
    let x : Workspace = work_of g.D.Disk.files c.args.evaluation.now c.args.store.now in
    let y : Workspace = work_of g.D.Disk.files c.args.evaluation.now c.find_source.new.store in
    let z : Workspace = work_of g.D.Disk.files c.args.evaluation.now c.find_source-in-Some.new.store in
    let u : Workspace = work_of g.D.Disk.files c.args.evaluation.now c.find_target.new.store in
    read_on 2 1 3 x z u (omega arith) (kept_on x y z c.in_ok-left.ensures.upheld.kept c.in_ok-right-in-Some.ensures.upheld.kept) (read_on 1 1 2 x y z (omega arith) c.in_ok-left.ensures.upheld.kept c.in_ok-left.ensures.read c.in_ok-right-in-Some.ensures.read) c.in_ok-out-in-Some.ensures.read

pub returns-in_ok-out-in-None-clause-read : goal.returns-in_ok-out-in-None-clause-read
returns-in_ok-out-in-None-clause-read g c =
    let x : Workspace = work_of g.D.Disk.files c.args.evaluation.now c.args.store.now in
    let y : Workspace = work_of g.D.Disk.files c.args.evaluation.now c.find_source.new.store in
    let u : Workspace = work_of g.D.Disk.files c.args.evaluation.now c.find_target-in-None.new.store in
    read_on 1 1 3 x y u (omega arith) c.in_ok-left.ensures.upheld.kept c.in_ok-left.ensures.read c.in_ok-out-in-None.ensures.read

pub returns-in_ok-out-in-Some-clause-last : goal.returns-in_ok-out-in-Some-clause-last
returns-in_ok-out-in-Some-clause-last g c =
    let x : Workspace = work_of g.D.Disk.files c.args.evaluation.now c.args.store.now in
    let y : Workspace = work_of g.D.Disk.files c.args.evaluation.now c.find_source.new.store in
    let z : Workspace = work_of g.D.Disk.files c.args.evaluation.now c.find_source-in-Some.new.store in
    let u : Workspace = work_of g.D.Disk.files c.args.evaluation.now c.find_target.new.store in
    pair_keeps c.args.evaluation.now.tree.now c.args.v c.left-operand.result.now c.in-Some.second.now x.cache y.cache z.cache u.cache (ap (λ (q : CacheState). q.frames) c.in_ok-left.ensures.upheld.kept.cache) (ap (λ (q : CacheState). q.frames) c.in_ok-right-in-Some.ensures.upheld.kept.cache)
    c.left-operand.ensures.value c.in-Some.ensures.value c.in_ok-left.ensures.last c.in_ok-right-in-Some.ensures.last c.in_ok-out-in-Some.ensures.last

pub returns-in_ok-out-in-None-clause-last : goal.returns-in_ok-out-in-None-clause-last
returns-in_ok-out-in-None-clause-last g c =
    let x : Workspace = work_of g.D.Disk.files c.args.evaluation.now c.args.store.now in
    let y : Workspace = work_of g.D.Disk.files c.args.evaluation.now c.find_source.new.store in
    let u : Workspace = work_of g.D.Disk.files c.args.evaluation.now c.find_target-in-None.new.store in
    sum_keeps c.args.evaluation.now.tree.now c.args.v c.left-operand.result.now x.cache y.cache u.cache (ap (λ (q : CacheState). q.frames) c.in_ok-left.ensures.upheld.kept.cache)
    c.left-operand.ensures.value c.in-None.ensures.value c.in_ok-left.ensures.last c.in_ok-out-in-None.ensures.last

pub returns-in_ok-out-in-Some-clause-link : goal.returns-in_ok-out-in-Some-clause-link
returns-in_ok-out-in-Some-clause-link g c =
    let y : Workspace = work_of g.D.Disk.files c.args.evaluation.now c.find_source.new.store in
    let z : Workspace = work_of g.D.Disk.files c.args.evaluation.now c.find_source-in-Some.new.store in
    let u : Workspace = work_of g.D.Disk.files c.args.evaluation.now c.find_target.new.store in
    pair_link (places_of c.args.evaluation.now) y.cache z.cache u.cache c.args.evaluation.now.result.now.tensor (slice_index c.args.first.now.numbers) c.args.v c.kind-kind.result c.left-operand.result.now c.in-Some.second.now c.in_ok-left.left c.in_ok-right-in-Some.right c.in_ok-out-in-Some.out
    c.in_ok-left.ensures.read.prepared.cache.frames c.in_ok-right-in-Some.ensures.read.prepared.cache.frames c.in_ok-right-in-Some.ensures.last c.in_ok-out-in-Some.ensures.last c.kind-kind.ensures c.left-operand.ensures.value c.in-Some.ensures.value
    c.in_ok-left.ensures.source c.in_ok-right-in-Some.ensures.source c.in_ok-out-in-Some.ensures.target

pub returns-in_ok-out-in-None-clause-link : goal.returns-in_ok-out-in-None-clause-link
returns-in_ok-out-in-None-clause-link g c =
    let y : Workspace = work_of g.D.Disk.files c.args.evaluation.now c.find_source.new.store in
    let u : Workspace = work_of g.D.Disk.files c.args.evaluation.now c.find_target-in-None.new.store in
    sum_link (places_of c.args.evaluation.now) y.cache u.cache c.args.evaluation.now.result.now.tensor (slice_index c.args.first.now.numbers) c.args.v c.kind-kind.result c.left-operand.result.now c.in_ok-left.left c.in_ok-out-in-None.out
    c.in_ok-left.ensures.read.prepared.cache.frames c.in_ok-out-in-None.ensures.last c.kind-kind.ensures c.left-operand.ensures.value c.in-None.ensures.value c.in_ok-left.ensures.source c.in_ok-out-in-None.ensures.target
