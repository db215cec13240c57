use Rattle.std.proofs.Common.{refl, sym, ◌∙◌}
use Rattle.std.proofs.lemmas.Bool.{false≢true}
use Rattle.tce_outside.proofs.Causes.{no_cause}
use Rattle.tce_exec.specs.Storages.{work_of}
use Rattle.tce_exec.proofs.Reading.{read_own}
use Rattle.tce_exec.specs.Following.{kept_own}
use Rattle.tce_exec.proofs.Touching.{keeps_last_own}
use Rattle.tce_exec.proofs.operand_windows.operand_window.Goals as goal

pub touch_window-requires-clause-prepared : goal.touch_window-requires-clause-prepared
touch_window-requires-clause-prepared g c = c.requires.prepared

pub touch_window-requires-clause-position : goal.touch_window-requires-clause-position
touch_window-requires-clause-position g c = c.requires.position

pub touch_window-requires-clause-writable : goal.touch_window-requires-clause-writable
touch_window-requires-clause-writable g c = λ write. absurd (false≢true write)

pub touch_window-requires-clause-few : goal.touch_window-requires-clause-few
touch_window-requires-clause-few g c = c.requires.few

pub returns-in-Leaf-clause-steps : goal.returns-in-Leaf-clause-steps
returns-in-Leaf-clause-steps g c = c.touch_window.ensures.steps

pub returns-in-Leaf-clause-last : goal.returns-in-Leaf-clause-last
returns-in-Leaf-clause-last g c = c.touch_window.ensures.last

pub returns-in-Leaf-clause-read : goal.returns-in-Leaf-clause-read
returns-in-Leaf-clause-read g c = c.touch_window.ensures.read

pub returns-in-Leaf-clause-upheld : goal.returns-in-Leaf-clause-upheld
returns-in-Leaf-clause-upheld g c = c.touch_window.ensures.upheld

pub returns-in-Node-clause-last : goal.returns-in-Node-clause-last
returns-in-Node-clause-last g c = keeps_last_own c.args.store.now.cache.now

pub returns-in-Node-clause-upheld : goal.returns-in-Node-clause-upheld
returns-in-Node-clause-upheld g c = record {
  kept = kept_own (work_of g.D.Disk.files c.args.evaluation.now c.args.store.now);
  same = (refl, refl, refl);
  fault_reported = record {
    cause = no_cause _ _ refl false≢true;
    quiet = λ fine. refl;
  };
}

pub returns-in-Node-clause-read : goal.returns-in-Node-clause-read
returns-in-Node-clause-read g c = read_own 1 (work_of g.D.Disk.files c.args.evaluation.now c.args.store.now) c.requires.prepared

pub touch_window-requires-clause-known : goal.touch_window-requires-clause-known
touch_window-requires-clause-known g c = (rw c.in-Leaf.is at c.requires.place).known

pub touch_window-requires-clause-inside : goal.touch_window-requires-clause-inside
touch_window-requires-clause-inside g c = (rw c.in-Leaf.is at c.requires.place).inside

pub touch_window-requires-clause-steps : goal.touch_window-requires-clause-steps
touch_window-requires-clause-steps g c = rw c.in-Leaf.is at c.requires.steps

pub unreachable-requires : goal.unreachable-requires
unreachable-requires g c = rw c.in-Constant.is at c.requires.place

pub node_window-requires-clause-laid : goal.node_window-requires-clause-laid
node_window-requires-clause-laid g c = c.requires.prepared.laid

pub node_window-requires-clause-inner : goal.node_window-requires-clause-inner
node_window-requires-clause-inner g c = rw c.in-Node.is at c.requires.place

pub node_window-requires-clause-steps : goal.node_window-requires-clause-steps
node_window-requires-clause-steps g c = rw c.in-Node.is at c.requires.steps

pub returns-in-Leaf-clause-window : goal.returns-in-Leaf-clause-window
returns-in-Leaf-clause-window g c = rw c.in-Leaf.is c.touch_window.ensures.window

pub returns-in-Node-clause-window : goal.returns-in-Node-clause-window
returns-in-Node-clause-window g c = rw c.in-Node.is c.node_window.ensures

pub returns-in-Node-clause-steps : goal.returns-in-Node-clause-steps
returns-in-Node-clause-steps g c = c.node_window.ensures.steps_are ∙ sym (rw c.in-Node.is at c.requires.steps)
