use Rattle.std.proofs.Common.{refl}
use Rattle.tce_outside.proofs.Causes.{no_cause}
use Rattle.tce_exec.proofs.runner.RunnerMachine.clear.Goals as goal

pub returns-clause-ready : goal.returns-clause-ready
returns-clause-ready g c =
    let m = c.args.self.now in
    ((c.clear_slot.ensures.changed m.store.cache.now (g.D.Disk.files m.store.disk.now) c.requires.ready.0).prepared, c.requires.ready.1, c.requires.ready.2)

pub returns-clause-upheld : goal.returns-clause-upheld
returns-clause-upheld g c =
    let m = c.args.self.now in
    record {
      space = refl;
      setting = refl;
      kept = (
        refl,
        refl,
        refl,
        refl,
        record {
          kept = c.clear_slot.ensures.kept m.store.cache.now (g.D.Disk.files m.store.disk.now);
          failed = λ e. e;
          continued = λ e. (c.clear_slot.ensures.changed m.store.cache.now (g.D.Disk.files m.store.disk.now) c.requires.ready.0).continued;
        },
      );
      fault_reported = record { cause = no_cause (g.D.Disk.faults m.store.disk.now) _ refl (λ never. never); quiet = λ _. refl };
    }
