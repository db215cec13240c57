use Rattle.tce_exec.proofs.Touching.{keeps_last_own}
use Rattle.std.proofs.Common.{◌≡◌, ℕ, ◌≢◌, ◌+◌, ◌<◌, ◌∙◌, slice_index, refl, sym, arith}
use Rattle.std.proofs.lemmas.Bool.{false≢true}
use Rattle.std.proofs.lemmas.Result.{on_ok_weaker}
use Rattle.tce_outside.proofs.Causes.{no_cause}
use Rattle.tce_tree.specs.ContractionTree.{operations}
use Rattle.tce_exec.specs.Workspace.{Workspace}
use Rattle.tce_exec.specs.Storages.{work_of}
use Rattle.tce_exec.proofs.Reading.{read_own, result_known, root_inside}
use Rattle.tce_exec.specs.Following.{kept_own}
use Rattle.tce_exec.proofs.Operands.{place_at_root}
use Rattle.tce_exec.proofs.operand_windows.place_window.Goals as goal

pub touch_window-requires-clause-known : goal.touch_window-requires-clause-known
touch_window-requires-clause-known g c =
    result_known (work_of g.D.Disk.files c.args.evaluation.now c.args.store.now) c.requires.prepared

pub touch_window-requires-clause-inside : goal.touch_window-requires-clause-inside
touch_window-requires-clause-inside g c =
    let x : Workspace = work_of g.D.Disk.files c.args.evaluation.now c.args.store.now in
    root_inside x (slice_index c.args.first.now.numbers) c.requires.prepared
    (place_at_root x c.args.v (slice_index c.args.first.now.numbers) (c.if-v-count.true ∙ c.count-count.ensures.value) c.requires.place)

pub touch_window-requires-clause-steps : goal.touch_window-requires-clause-steps
touch_window-requires-clause-steps g c = c.requires.steps.root (c.if-v-count.true ∙ c.count-count.ensures.value)

inner_node : (v count nodes : ℕ) → v + 1 ≢ count → count ≡ nodes → v < nodes → v + 1 < nodes
inner_node v count nodes other value known = omega (arith, other, value, known)

pub node_window-requires-clause-steps : goal.node_window-requires-clause-steps
node_window-requires-clause-steps g c =
    c.requires.steps.inner (inner_node c.args.v c.count-count.result (operations c.args.evaluation.now.tree.now) c.if-v-count.false c.count-count.ensures.value c.requires.place.known)

pub touch_window-requires-clause-prepared : goal.touch_window-requires-clause-prepared
touch_window-requires-clause-prepared g c = c.requires.prepared

pub touch_window-requires-clause-position : goal.touch_window-requires-clause-position
touch_window-requires-clause-position g c = c.requires.position

pub touch_window-requires-clause-stored : goal.touch_window-requires-clause-stored
touch_window-requires-clause-stored g c = c.requires.prepared.result

pub touch_window-requires-clause-writable : goal.touch_window-requires-clause-writable
touch_window-requires-clause-writable g c = λ write. c.requires.prepared.writable

pub touch_window-requires-clause-few : goal.touch_window-requires-clause-few
touch_window-requires-clause-few g c = c.requires.few

pub returns-then-v-count-clause-steps : goal.returns-then-v-count-clause-steps
returns-then-v-count-clause-steps g c = c.touch_window.ensures.steps

pub returns-then-v-count-clause-last : goal.returns-then-v-count-clause-last
returns-then-v-count-clause-last g c = c.touch_window.ensures.last

pub returns-then-v-count-clause-read : goal.returns-then-v-count-clause-read
returns-then-v-count-clause-read g c = c.touch_window.ensures.read

pub returns-then-v-count-clause-upheld : goal.returns-then-v-count-clause-upheld
returns-then-v-count-clause-upheld g c = c.touch_window.ensures.upheld

pub returns-clause-last : goal.returns-clause-last
returns-clause-last g c = keeps_last_own c.args.store.now.cache.now

pub returns-clause-upheld : goal.returns-clause-upheld
returns-clause-upheld g c = record {
  kept = kept_own (work_of g.D.Disk.files c.args.evaluation.now c.args.store.now);
  same = (refl, refl, refl);
  fault_reported = record {
    cause = no_cause _ _ refl false≢true;
    quiet = λ fine. refl;
  };
}

pub returns-clause-read : goal.returns-clause-read
returns-clause-read g c = read_own 1 (work_of g.D.Disk.files c.args.evaluation.now c.args.store.now) c.requires.prepared

pub node_window-requires-clause-laid : goal.node_window-requires-clause-laid
node_window-requires-clause-laid g c = c.requires.prepared.laid

pub returns-then-v-count-clause-window : goal.returns-then-v-count-clause-window
returns-then-v-count-clause-window g c =
    on_ok_weaker c.touch_window.result (λ touched. record { inner = λ low. absurd (omega (arith, low, c.if-v-count.true, c.count-count.ensures.value)); root = λ last. touched }) c.touch_window.ensures.window

pub returns-clause-window : goal.returns-clause-window
returns-clause-window g c = record { inner = λ low. c.node_window.ensures; root = λ last. absurd (c.if-v-count.false (last ∙ sym c.count-count.ensures.value)) }

pub returns-clause-steps : goal.returns-clause-steps
returns-clause-steps g c =
    c.node_window.ensures.steps_are
    ∙ sym (c.requires.steps.inner (inner_node c.args.v c.count-count.result (operations c.args.evaluation.now.tree.now) c.if-v-count.false c.count-count.ensures.value c.requires.place.known))
