use Rattle.std.proofs.Common.{◌≡◌, ◌∙◌, ℕ, ◌+◌, ◌-◌, ◌<◌, Some, false, length, map, ap, refl, sym, subst, arith}
use Rattle.std.proofs.lemmas.Result.{IfOk-from_err}
use Rattle.std.proofs.lemmas.Bool.{false≢true}
use Rattle.tce_cache.specs.Held.{Held, look_up}
use Rattle.tce_outside.proofs.Causes.{failed_after, no_cause}
use Rattle.tce_cache.specs.Cache.{State, IsCache, HasRoom, OnlyWritableDiffers}
use Rattle.tce_cache.specs.Touch.{with_held, unmarked, IsSameArrays}
use Rattle.tce_cache.proofs.Counted.{no_others}
use Rattle.tce_cache.proofs.Tiles.{told_from, both_differ}
use Rattle.tce_cache.proofs.Lists.{all_unmarked}
use Rattle.tce_cache.proofs.Runs.{length-run, run_part, unmarked_run, frames_cleaned}
use Rattle.tce_cache.proofs.Steps.{same_stay, same_trans, all_written, differ_again}
use Rattle.tce_cache.proofs.Transfers.{told_once}
use Rattle.tce_cache.proofs.cache.Cache.flush.Goals as goal

pub same-self : goal.same-self
same-self g c = refl

pub loop-frame-init : goal.loop-frame-init
loop-frame-init g c =
    let s = c.args.self.now in
    let words = c.args.words.now in
    let is : IsCache s = subst IsCache c.self.view_is c.self.invariant.cache in
    record {
      state = refl;
      cache = is;
      last = c.len-len-2.ensures.count ∙ ap (λ (z : State). length z.held) c.self.view_is;
      low = λ a t h e. subst (λ n. h.frame < n) (sym c.len-len-2.ensures.count) (c.len-len-2.ensures.low a t h (ap (λ (z : State). look_up z.held a t) c.self.view_is ∙ e));
      clean = λ a t h e below. absurd (omega (arith, below));
      held = refl;
      arrays = λ x told y now. told_once (g.D.Disk.files c.args.disk.now) x y told now (λ z. IsSameArrays s s x z words words) (same_stay s s.touches x words is (c.requires.ready x told));
      others = no_others s (g.D.Disk.files c.args.disk.now);
      counted = refl;
    }

pub write_back-requires-clause-frame : goal.write_back-requires-clause-frame
write_back-requires-clause-frame g c = subst (λ n. c.loop-frame.frame < n) c.loop-frame.invariant.last c.loop-frame-test.true

pub write_back-requires-clause-most : goal.write_back-requires-clause-most
write_back-requires-clause-most g c = omega (arith, c.loop-frame-test.true)

pub write_back-requires-clause-room : goal.write_back-requires-clause-room
write_back-requires-clause-room g c = subst (λ (z : State). HasRoom z c.args.words.now) (sym c.loop-frame.invariant.state) c.requires.room

pub write_back-requires-clause-bounded : goal.write_back-requires-clause-bounded
write_back-requires-clause-bounded g c = omega (arith, c.len-len.ensures.limit)

pub write_back-requires-clause-ready : goal.write_back-requires-clause-ready
write_back-requires-clause-ready g c = λ x told.
    let before = c.loop-frame.invariant in
    let first = told_from _ _ x before.others.tells told in
    (before.arrays first.0 first.1 x told).ready

pub returns-in_err-frame-clause-flushed : goal.returns-in_err-frame-clause-flushed
returns-in_err-frame-clause-flushed g c = IfOk-from_err c.from_residual.result _ c.from_residual.ensures.0

pub returns-in_err-frame-clause-arrays : goal.returns-in_err-frame-clause-arrays
returns-in_err-frame-clause-arrays g c = IfOk-from_err c.from_residual.result _ c.from_residual.ensures.0

pub returns-in_err-frame-clause-written : goal.returns-in_err-frame-clause-written
returns-in_err-frame-clause-written g c = IfOk-from_err c.from_residual.result _ c.from_residual.ensures.0

pub returns-in_err-frame-clause-same : goal.returns-in_err-frame-clause-same
returns-in_err-frame-clause-same g c = c.write_back.ensures.same ∙ ap (λ (z : State). with_held z c.write_back.new.self.held z.touches) c.loop-frame.invariant.state

pub returns-in_err-frame-clause-cache : goal.returns-in_err-frame-clause-cache
returns-in_err-frame-clause-cache g c = c.write_back.ensures.cache

pub returns-in_err-frame-clause-fault_reported : goal.returns-in_err-frame-clause-fault_reported
returns-in_err-frame-clause-fault_reported g c = record {
  cause = failed_after (g.D.Disk.faults c.args.disk.now) (g.D.Disk.faults c.loop-frame.disk) (g.D.Disk.faults c.write_back.new.disk) c.loop-frame.invariant.counted c.in_err-frame.ensures.fault_reported.cause;
  quiet = λ none. absurd (none c.from_residual.ensures.0);
}

pub returns-in_err-frame-clause-others : goal.returns-in_err-frame-clause-others
returns-in_err-frame-clause-others g c =
    let s = c.args.self.now in
    let l = c.loop-frame.self in
    let before = c.loop-frame.invariant in
    both_differ s _ _ _ before.others (differ_again s l.held s.touches _ _ (subst (λ (z : State). OnlyWritableDiffers z (g.D.Disk.files c.loop-frame.disk) (g.D.Disk.files c.write_back.new.disk)) before.state c.in_err-frame.ensures.others))

pub overflow_add-frame : goal.overflow_add-frame
overflow_add-frame g c =
    let n = c.in_ok-frame.field-0 in
    let few = c.in_ok-frame.ensures.few in
    let are = c.in_ok-frame.ensures.cleaned in
    let last = c.loop-frame.invariant.low are.array (are.tile + (n - 1)) _ (are.held (n - 1) (omega arith)) in
    omega arith

pub loop-frame-smaller : goal.loop-frame-smaller
loop-frame-smaller g c = omega (arith, c.in_ok-frame.ensures.few.0, c.loop-frame-test.true)

pub loop-frame-preserved : goal.loop-frame-preserved
loop-frame-preserved g c =
    let s = c.args.self.now in
    let l = c.loop-frame.self in
    let n = c.write_back.new.self in
    let before = c.loop-frame.invariant in
    let back = c.in_ok-frame.ensures in
    let words = c.args.words.now in
    let are = back.cleaned in
    let count = c.in_ok-frame.field-0 in
    let state : n ≡ with_held s n.held s.touches = back.same ∙ ap (λ (z : State). with_held z n.held z.touches) before.state in
    record {
      state = state;
      cache = back.cache;
      last = before.last ∙ sym (ap length are.list ∙ length-run are.array are.tile count l.held);
      low = λ a t x e.
          let part = run_part are.array are.tile count l.held a t x (ap (λ q. look_up q a t) (sym are.list) ∙ e) in
          let below = before.low a t part.0 part.1 in
          omega (arith, below, part.3);
      clean = λ a t x e. frames_cleaned l.frames c.loop-frame.frame are.array are.tile are.marked l.held count before.cache.apart are.held before.clean a t x (ap (λ q. look_up q a t) (sym are.list) ∙ e);
      held = ap (map unmarked) are.list ∙ unmarked_run are.array are.tile count l.held ∙ before.held;
      arrays = λ x told y now.
          let middle = told_from _ _ y back.others.tells now in
          let first = subst (λ (z : State). IsSameArrays s z x middle.0 words words) before.state (before.arrays x told middle.0 middle.1) in
          let second = subst (λ (z : State). IsSameArrays (with_held s l.held s.touches) z middle.0 y words words) state (subst (λ (z : State). IsSameArrays z n middle.0 y words words) before.state (back.arrays middle.0 middle.1 y now)) in
          subst (λ (z : State). IsSameArrays s z x y words words) (sym state) (same_trans s l.held n.held s.touches s.touches x middle.0 y words words words first second);
      others = both_differ s _ _ _ before.others (differ_again s l.held s.touches _ _ (subst (λ (z : State). OnlyWritableDiffers z (g.D.Disk.files c.loop-frame.disk) (g.D.Disk.files c.write_back.new.disk)) before.state back.others));
      counted = back.fault_reported.quiet false≢true ∙ before.counted;
    }

pub returns-clause-flushed : goal.returns-clause-flushed
returns-clause-flushed g c =
    let s = c.args.self.now in
    let l = c.loop-frame.self in
    let all = c.loop-frame.invariant in
    let none : (a t : ℕ) (h : Held) → look_up l.held a t ≡ Some h → h.marked ≡ false = λ a t h e. all.clean a t h e (omega (arith, all.low a t h e, c.loop-frame-test.false)) in
    all.state ∙ ap (λ q. with_held s q s.touches) (all_unmarked l.frames l.held all.cache.apart none ∙ all.held)

pub returns-clause-written : goal.returns-clause-written
returns-clause-written g c x told y now =
    let s = c.args.self.now in
    let l = c.loop-frame.self in
    let all = c.loop-frame.invariant in
    let words = c.args.words.now in
    let none : (a t : ℕ) (h : Held) → look_up l.held a t ≡ Some h → h.marked ≡ false = λ a t h e. all.clean a t h e (omega (arith, all.low a t h e, c.loop-frame-test.false)) in
    all_written s l.held s.touches x y words (subst (λ (z : State). IsSameArrays s z x y words words) all.state (all.arrays x told y now)) none

pub returns-clause-arrays : goal.returns-clause-arrays
returns-clause-arrays g c = c.loop-frame.invariant.arrays

pub returns-clause-same : goal.returns-clause-same
returns-clause-same g c = c.loop-frame.invariant.state

pub returns-clause-cache : goal.returns-clause-cache
returns-clause-cache g c = c.loop-frame.invariant.cache

pub returns-clause-others : goal.returns-clause-others
returns-clause-others g c = c.loop-frame.invariant.others

pub returns-clause-fault_reported : goal.returns-clause-fault_reported
returns-clause-fault_reported g c = record {
  cause = no_cause (g.D.Disk.faults c.args.disk.now) (g.D.Disk.faults c.loop-frame.disk) c.loop-frame.invariant.counted false≢true;
  quiet = λ _. c.loop-frame.invariant.counted;
}
