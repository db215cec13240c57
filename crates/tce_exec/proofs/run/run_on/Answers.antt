use Rattle.tce_exec.proofs.Values.{ran_on}
use Rattle.tce_exec.proofs.run.run_on.Goals as goal

pub returns-clause-run : goal.returns-clause-run
returns-clause-run g c =
    let m = c.args.runner.now in
    let n = c.run_program.new.machine in
    let e = c.in_ok-run_program.ensures in
    ran_on m.evaluation n.evaluation m.store.words.now n.store.words.now m.store.cache.now n.store.cache.now (g.D.Disk.files m.store.disk.now) (g.D.Disk.files n.store.disk.now) c.ops.result.now c.args.code.now m.failed n.failed
    e.upheld.kept.0 c.ops.ensures c.count-nodes.ensures.kept c.requires.prepared c.requires.distinct c.requires.zero c.requires.code (e.ready.0, e.ready.1) e.upheld.kept.4 e.state e.touches
