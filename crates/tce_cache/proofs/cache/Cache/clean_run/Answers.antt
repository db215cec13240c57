use Rattle.std.proofs.Common.{◌≡◌, ◌∙◌, ◌+◌, Some, true, ap, sym, refl, arith}
use Rattle.tce_cache.specs.Held.{look_up, cleaned}
use Rattle.tce_cache.specs.Frames.{held_at}
use Rattle.tce_cache.specs.Cache.{State}
use Rattle.tce_cache.specs.Touch.{with_held}
use Rattle.tce_cache.proofs.Runs.{run_rest, run_step}
use Rattle.tce_cache.proofs.cache.Cache.clean_run.Goals as goal

pub clean-requires : goal.clean-requires
clean-requires c =
    let run = c.args.run in
    let k = c.loop-k.k in
    let there : look_up c.loop-k.self.held run.array (run.tile + k) ≡ Some (held_at run.array (run.tile + k) (run.frame + k) true) =
    ap (λ (z : State). look_up z.held run.array (run.tile + k)) c.loop-k.invariant.state
    ∙ run_rest run.array run.tile k k c.args.self.now.held (omega arith)
    ∙ c.requires.run.held k (omega (arith, c.loop-k-test.true)) in
    (_, there, refl)

pub loop-k-preserved : goal.loop-k-preserved
loop-k-preserved c =
    let now = c.args.self.now in
    let run = c.args.run in
    let k = c.loop-k.k in
    let l = c.loop-k.self in
    let there : look_up l.held run.array (run.tile + k) ≡ Some (held_at run.array (run.tile + k) (run.frame + k) true) =
    ap (λ (z : State). look_up z.held run.array (run.tile + k)) c.loop-k.invariant.state
    ∙ run_rest run.array run.tile k k now.held (omega arith)
    ∙ c.requires.run.held k (omega (arith, c.loop-k-test.true)) in
    record {
      state = c.clean.ensures.same
          ∙ ap (λ h. with_held l h l.touches) (c.clean.ensures.cleaned run.array (run.tile + k) _ there refl)
          ∙ ap (λ (z : State). with_held z (cleaned run.array (run.tile + k) z.held) z.touches) c.loop-k.invariant.state
          ∙ ap (λ h. with_held now h now.touches) (sym (run_step run.array run.tile k now.held));
      cache = c.clean.ensures.cache;
      last = refl;
    }
