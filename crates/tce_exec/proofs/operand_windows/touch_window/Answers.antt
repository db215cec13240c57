use Rattle.tce_space.specs.Box.{IsInside}
use Rattle.tce_exec.proofs.Touched.{exists_of}
use Rattle.tce_exec.proofs.Calls.{none_given, told_of, one_more}
use Rattle.std.proofs.Common.{◌+◌, ◌<◌, All, ap, map, length, slice_index, refl, sym, subst}
use Rattle.tce_outside.proofs.Causes.{cause_of}
use Rattle.tce_space.specs.Tiling.{Tiling, IsTiling}
use Rattle.tce_cache.specs.Cache.{State as CacheState}
use Rattle.tce_exec.specs.Elements.{IsElementAt}
use Rattle.tce_exec.specs.Workspace.{Workspace, shape_over}
use Rattle.tce_exec.specs.Storages.{work_of}
use Rattle.tce_exec.proofs.Workspaces.{touched_keeps, touched_reads}
use Rattle.tce_exec.proofs.Touching.{element_of, touched_window, touched_word, touch_keeps_last}
use Rattle.tce_exec.proofs.operand_windows.touch_window.Goals as goal

pub overflow_add-window : goal.overflow_add-window
overflow_add-window g c =
    let old : CacheState = c.args.store.now.cache.now in
    let new : CacheState = c.touch.new.self in
    let e = c.in_ok-at.ensures in
    let l = c.args.leaf.now in
    let shape : Tiling = shape_over c.args.evaluation.now.space.now l.indexes.items in
    let found = c.element-element.result in
    let element : IsElementAt shape (map (slice_index c.args.first.now.numbers) l.indexes.items) found.tile found.place =
    subst (λ is. IsElementAt (shape_over c.args.evaluation.now.space.now is) (map (slice_index c.args.first.now.numbers) is) found.tile found.place) c.as_slice.ensures.value c.element-element.ensures in
    touched_word old new new.held (old.touches + 1) l.tensor found.tile found.place c.in_ok-at.at (length c.args.store.now.words.now) c.args.write shape c.requires.prepared.cache e.cache e.same c.requires.stored.array e.touched
    c.requires.prepared.room c.len-len.ensures.limit element.within

pub returns-clause-window : goal.returns-clause-window
returns-clause-window g c =
    let old : CacheState = c.args.store.now.cache.now in
    let new : CacheState = c.touch.new.self in
    let e = c.in_ok-at.ensures in
    let l = c.args.leaf.now in
    let shape : Tiling = shape_over c.args.evaluation.now.space.now l.indexes.items in
    let found = c.element-element.result in
    let element : IsElementAt shape (map (slice_index c.args.first.now.numbers) l.indexes.items) found.tile found.place =
    subst (λ is. IsElementAt (shape_over c.args.evaluation.now.space.now is) (map (slice_index c.args.first.now.numbers) is) found.tile found.place) c.as_slice.ensures.value c.element-element.ensures in
    touched_window old new l.tensor found.tile found.place c.in_ok-at.at shape shape l.indexes.items (slice_index c.args.first.now.numbers)
    c.args.write _ c.requires.prepared.cache c.requires.stored.array
    (element_of old l.tensor found.tile found.place shape (map (slice_index c.args.first.now.numbers) l.indexes.items) c.requires.stored.array element) e.touched c.requires.steps.tiling refl c.requires.known
    (record { first_is = ap (λ p. c.in_ok-at.at + p) element.place_is; steps_are = c.requires.steps.steps_are })

pub returns-clause-last : goal.returns-clause-last
returns-clause-last g c =
    touch_keeps_last c.args.store.now.cache.now c.touch.new.self c.args.leaf.now.tensor c.element-element.result.tile c.in_ok-at.at c.args.write c.requires.prepared.cache c.in_ok-at.ensures.touched

pub returns-clause-read : goal.returns-clause-read
returns-clause-read g c =
    let x : Workspace = work_of g.D.Disk.files c.args.evaluation.now c.args.store.now in
    let e = c.in_ok-at.ensures in
    touched_reads x c.touch.new.words c.touch.new.self (g.D.Disk.files c.touch.new.disk) c.requires.prepared e.same e.arrays e.cache e.outside e.others

pub element-element-requires-clause-position : goal.element-element-requires-clause-position
element-element-requires-clause-position g c = c.requires.position

pub element-element-requires-clause-known : goal.element-element-requires-clause-known
element-element-requires-clause-known g c = subst (All (λ i. i < 24)) (sym c.as_slice.ensures.value) c.requires.known

pub element-element-requires-clause-tiling : goal.element-element-requires-clause-tiling
element-element-requires-clause-tiling g c = subst (λ is. IsTiling (shape_over c.args.evaluation.now.space.now is)) (sym c.as_slice.ensures.value) c.requires.steps.tiling

pub element-element-requires-clause-inside : goal.element-element-requires-clause-inside
element-element-requires-clause-inside g c = subst (λ is. IsInside (shape_over c.args.evaluation.now.space.now is).extents (map (slice_index c.args.first.now.numbers) is)) (sym c.as_slice.ensures.value) c.requires.inside

pub touch-requires-clause-exists : goal.touch-requires-clause-exists
touch-requires-clause-exists g c =
    let l = c.args.leaf.now in
    let found = c.element-element.result in
    let element : IsElementAt (shape_over c.args.evaluation.now.space.now l.indexes.items) (map (slice_index c.args.first.now.numbers) l.indexes.items) found.tile found.place =
    subst (λ is. IsElementAt (shape_over c.args.evaluation.now.space.now is) (map (slice_index c.args.first.now.numbers) is) found.tile found.place) c.as_slice.ensures.value c.element-element.ensures in
    exists_of c.args.store.now.cache.now l.tensor found.tile (shape_over c.args.evaluation.now.space.now l.indexes.items) c.requires.stored.array element.exists

pub touch-requires-clause-writable : goal.touch-requires-clause-writable
touch-requires-clause-writable g c = c.requires.writable

pub touch-requires-clause-room : goal.touch-requires-clause-room
touch-requires-clause-room g c = c.requires.prepared.room

pub touch-requires-clause-count : goal.touch-requires-clause-count
touch-requires-clause-count g c = one_more c.args.store.now.cache.now.touches _ c.requires.few

pub touch-requires-clause-ready : goal.touch-requires-clause-ready
touch-requires-clause-ready g c = λ fs told. (c.requires.prepared.ready fs told, c.requires.stored.file fs told)

pub returns-in_err-at-clause-window : goal.returns-in_err-at-clause-window
returns-in_err-at-clause-window g c = none_given _ _ c.from_residual.result c.from_residual.ensures.1

pub returns-in_err-at-clause-last : goal.returns-in_err-at-clause-last
returns-in_err-at-clause-last g c = none_given _ _ c.from_residual.result c.from_residual.ensures.1

pub returns-in_err-at-clause-read : goal.returns-in_err-at-clause-read
returns-in_err-at-clause-read g c = none_given _ _ c.from_residual.result c.from_residual.ensures.1

pub returns-in_err-at-clause-steps : goal.returns-in_err-at-clause-steps
returns-in_err-at-clause-steps g c = refl

pub returns-in_err-at-clause-upheld : goal.returns-in_err-at-clause-upheld
returns-in_err-at-clause-upheld g c = record {
  kept =
      let x : Workspace = work_of g.D.Disk.files c.args.evaluation.now c.args.store.now in
      let e = c.in_err-at.ensures in
      touched_keeps x c.touch.new.words c.touch.new.self (g.D.Disk.files c.touch.new.disk) e.same e.outside e.others;
  same = (refl, refl, refl);
  fault_reported = record {
    cause = cause_of _ _ c.in_err-at.ensures.fault_reported.cause;
    quiet = told_of _ _ _ c.from_residual.result c.from_residual.ensures.1;
  };
}

pub returns-clause-steps : goal.returns-clause-steps
returns-clause-steps g c = refl

pub returns-clause-upheld : goal.returns-clause-upheld
returns-clause-upheld g c = record {
  kept =
      let x : Workspace = work_of g.D.Disk.files c.args.evaluation.now c.args.store.now in
      let e = c.in_ok-at.ensures in
      touched_keeps x c.touch.new.words c.touch.new.self (g.D.Disk.files c.touch.new.disk) e.same e.outside e.others;
  same = (refl, refl, refl);
  fault_reported = c.in_ok-at.ensures.fault_reported;
}
