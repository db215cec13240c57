use Rattle.std.proofs.Common.{◌≡◌, ◌+◌, get_or, refl, ap, arith}
use Rattle.tce_walk.specs.declared.band_search.Claim.{Claim}
use Rattle.tce_walk.proofs.BandChecks.{begins_band}
use Rattle.tce_walk.proofs.band_search.find_band.Goals as goal

pub returns : goal.returns
returns c =
    let claim : Claim = record { loops = c.loops_at.result; carrier = c.unmark.result; outside = c.unmark.new.outside } in
    let first : get_or claim.loops.0.items 0 0 ≡ c.args.i = grind (arith, c.if-deref-i.false, c.deref.ensures) in
    begins_band c.args.walk.now.tree.now c.args.walk.now.fusion.now.0.items c.args.walk.now.ops.now claim c.args.at c.args.i
    (record { loops = c.loops_at.result; carrier = c.unmark.result; at = c.args.at + c.len-2.result; close = c.in_ok-close.close }) c.check_nest.new.known
    (omega (arith, c.if-len-lt1.false, c.len.ensures.value)) first refl refl (ap (λ n. c.args.at + n) c.len-2.ensures.value) c.in_ok-close.ensures
    (c.if-not-are_known.ensures refl)
