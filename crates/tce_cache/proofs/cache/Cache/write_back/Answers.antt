use Rattle.std.proofs.Common.{◌≡◌, ◌<◌, ◌∙◌, ap, sym, refl, subst, Some, length, arith}
use Rattle.std.proofs.lemmas.Bool.{not-true, not-false, false≢true}
use Rattle.std.proofs.lemmas.Result.{IfOk-from_err}
use Rattle.tce_cache.specs.Held.{look_up}
use Rattle.tce_cache.specs.Frames.{held_at}
use Rattle.tce_outside.proofs.Causes.{cause_of, no_cause}
use Rattle.tce_cache.specs.declared.cache.writing.Run.{Run}
use Rattle.tce_cache.specs.Cache.{State, IsCache}
use Rattle.tce_cache.specs.Touch.{IsSameArrays, with_held}
use Rattle.tce_cache.specs.Runs.{IsRun, run_cleaned}
use Rattle.tce_cache.proofs.Counted.{held_again, no_others}
use Rattle.tce_cache.proofs.Runs.{none_cleaned, are_cleaned, run_of_one, same_run}
use Rattle.tce_cache.proofs.Steps.{same_stay}
use Rattle.tce_cache.proofs.Transfers.{told_once}
use Rattle.tce_cache.proofs.cache.Cache.write_back.Goals as goal

-- the same cache has its own tiles
still_held : (old new : State) → new ≡ old → new ≡ with_held old new.held old.touches
still_held old new is = subst (λ (z : State). z ≡ with_held old z.held old.touches) (sym is) refl

pub frame-held-requires : goal.frame-held-requires
frame-held-requires g c = subst (λ (z : State). c.args.frame < length z.held) (sym c.self.view_is) c.requires.frame

-- the tile is not marked
pub same-self : goal.same-self
same-self g c = refl

pub returns-then-not-held-clause-cleaned : goal.returns-then-not-held-clause-cleaned
returns-then-not-held-clause-cleaned g c =
    let now = c.args.self.now in
    let held = c.frame-held.result in
    let found : look_up now.held held.array held.tile ≡ Some (held_at held.array held.tile c.args.frame held.marked) = ap (λ (z : State). look_up z.held held.array held.tile) (sym c.self.view_is) ∙ c.frame-held.ensures in
    none_cleaned now.held c.args.frame held.array held.tile held.marked found (not-true held.marked c.if-not-held.true)

pub returns-then-not-held-clause-few : goal.returns-then-not-held-clause-few
returns-then-not-held-clause-few g c = (omega arith, c.requires.most)

pub returns-then-not-held-clause-same : goal.returns-then-not-held-clause-same
returns-then-not-held-clause-same g c = refl

pub returns-then-not-held-clause-arrays : goal.returns-then-not-held-clause-arrays
returns-then-not-held-clause-arrays g c x told y now =
    let s = c.args.self.now in
    let words = c.args.words.now in
    let is : IsCache s = subst IsCache c.self.view_is c.self.invariant.cache in
    told_once (g.D.Disk.files c.args.disk.now) x y told now (λ z. IsSameArrays s s x z words words) (same_stay s s.touches x words is (c.requires.ready x told))

pub returns-then-not-held-clause-cache : goal.returns-then-not-held-clause-cache
returns-then-not-held-clause-cache g c = subst IsCache c.self.view_is c.self.invariant.cache

pub returns-then-not-held-clause-others : goal.returns-then-not-held-clause-others
returns-then-not-held-clause-others g c = no_others c.args.self.now (g.D.Disk.files c.args.disk.now)

pub returns-then-not-held-clause-fault_reported : goal.returns-then-not-held-clause-fault_reported
returns-then-not-held-clause-fault_reported g c = record {
  cause = no_cause (g.D.Disk.faults c.args.disk.now) _ refl false≢true;
  quiet = λ none. refl;
}

-- a run is written
pub same-self-2 : goal.same-self-2
same-self-2 g c = refl

pub longest-run-requires-clause-run : goal.longest-run-requires-clause-run
longest-run-requires-clause-run g c =
    let now = c.args.self.now in
    let held = c.frame-held.result in
    let found : look_up now.held held.array held.tile ≡ Some (held_at held.array held.tile c.args.frame held.marked) = ap (λ (z : State). look_up z.held held.array held.tile) (sym c.self.view_is) ∙ c.frame-held.ensures in
    run_of_one now c.args.frame held.array held.tile held.marked found (not-false held.marked c.if-not-held.false)

pub longest-run-requires-clause-most : goal.longest-run-requires-clause-most
longest-run-requires-clause-most g c = c.requires.most

pub write_run-requires-clause-run : goal.write_run-requires-clause-run
write_run-requires-clause-run g c = c.longest-run.ensures.run

pub write_run-requires-clause-room : goal.write_run-requires-clause-room
write_run-requires-clause-room g c = c.requires.room

pub write_run-requires-clause-bounded : goal.write_run-requires-clause-bounded
write_run-requires-clause-bounded g c = c.requires.bounded

pub write_run-requires-clause-ready : goal.write_run-requires-clause-ready
write_run-requires-clause-ready g c = c.requires.ready

pub returns-in_err-write_run-clause-cleaned : goal.returns-in_err-write_run-clause-cleaned
returns-in_err-write_run-clause-cleaned g c = IfOk-from_err c.from_residual.result _ c.from_residual.ensures.0

pub returns-in_err-write_run-clause-few : goal.returns-in_err-write_run-clause-few
returns-in_err-write_run-clause-few g c = IfOk-from_err c.from_residual.result _ c.from_residual.ensures.0

pub returns-in_err-write_run-clause-same : goal.returns-in_err-write_run-clause-same
returns-in_err-write_run-clause-same g c = still_held c.args.self.now c.write_run.new.self c.write_run.ensures.cache

pub returns-in_err-write_run-clause-arrays : goal.returns-in_err-write_run-clause-arrays
returns-in_err-write_run-clause-arrays g c = IfOk-from_err c.from_residual.result _ c.from_residual.ensures.0

pub returns-in_err-write_run-clause-cache : goal.returns-in_err-write_run-clause-cache
returns-in_err-write_run-clause-cache g c = subst IsCache (c.self.view_is ∙ sym c.write_run.ensures.cache) c.self.invariant.cache

pub returns-in_err-write_run-clause-others : goal.returns-in_err-write_run-clause-others
returns-in_err-write_run-clause-others g c = c.write_run.ensures.others

pub returns-in_err-write_run-clause-fault_reported : goal.returns-in_err-write_run-clause-fault_reported
returns-in_err-write_run-clause-fault_reported g c = record {
  cause = cause_of (g.D.Disk.faults c.args.disk.now) (g.D.Disk.faults c.write_run.new.disk) c.in_err-write_run.ensures.fault_reported.cause;
  quiet = λ none. absurd (none c.from_residual.ensures.0);
}

pub clean_run-requires-clause-cache : goal.clean_run-requires-clause-cache
clean_run-requires-clause-cache g c = subst IsCache (c.self.view_is ∙ sym c.write_run.ensures.cache) c.self.invariant.cache

pub clean_run-requires-clause-run : goal.clean_run-requires-clause-run
clean_run-requires-clause-run g c = subst (λ (z : State). IsRun z c.longest-run.result) (sym c.write_run.ensures.cache) c.longest-run.ensures.run

pub returns-clause-cleaned : goal.returns-clause-cleaned
returns-clause-cleaned g c =
    let cleaned = c.clean_run.ensures.cleaned ∙ ap (λ (z : State). with_held z (run_cleaned c.longest-run.result.array c.longest-run.result.tile c.longest-run.result.n z.held) z.touches) c.write_run.ensures.cache in
    are_cleaned c.args.self.now c.args.frame c.longest-run.result c.clean_run.new.self.held c.longest-run.ensures.run (ap (λ (r : Run). r.frame) c.longest-run.ensures.begins) (ap (λ (z : State). z.held) cleaned)

pub returns-clause-few : goal.returns-clause-few
returns-clause-few g c = (c.longest-run.ensures.run.some, c.longest-run.ensures.few)

pub returns-clause-same : goal.returns-clause-same
returns-clause-same g c =
    let run = c.longest-run.result in
    held_again c.args.self.now c.clean_run.new.self (run_cleaned run.array run.tile run.n c.args.self.now.held) (c.clean_run.ensures.cleaned ∙ ap (λ (z : State). with_held z (run_cleaned c.longest-run.result.array c.longest-run.result.tile c.longest-run.result.n z.held) z.touches) c.write_run.ensures.cache)

pub returns-clause-arrays : goal.returns-clause-arrays
returns-clause-arrays g c x told y after =
    let now = c.args.self.now in
    let words = c.args.words.now in
    let is : IsCache now = subst IsCache c.self.view_is c.self.invariant.cache in
    subst (λ (z : State). IsSameArrays now z x y words words) (sym (c.clean_run.ensures.cleaned ∙ ap (λ (z : State). with_held z (run_cleaned c.longest-run.result.array c.longest-run.result.tile c.longest-run.result.n z.held) z.touches) c.write_run.ensures.cache)) (same_run now x y words c.longest-run.result is (c.requires.ready x told) c.longest-run.ensures.run (c.in_ok-write_run.ensures.written x told y after))

pub returns-clause-cache : goal.returns-clause-cache
returns-clause-cache g c = c.clean_run.ensures.cache

pub returns-clause-others : goal.returns-clause-others
returns-clause-others g c = c.write_run.ensures.others

pub returns-clause-fault_reported : goal.returns-clause-fault_reported
returns-clause-fault_reported g c = c.in_ok-write_run.ensures.fault_reported
