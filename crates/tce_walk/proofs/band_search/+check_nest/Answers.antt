use Rattle.std.proofs.Common.{◌≡◌, get_or, sym, arith}
use Rattle.tce_code.specs.declared.op.Op.TheVariants.{Open}
use Rattle.tce_walk.proofs.BandChecks.{nest_loop}
use Rattle.tce_walk.proofs.band_search.+check_nest.Goals as goal

pub returns-then-is_end : goal.returns-then-is_end
returns-then-is_end t c =
    let here : c.in-Open.i ≡ get_or c.args.claim.now.loops.0.items c.args.d 0 = grind (arith, c.if-i-deref.false, c.deref.ensures) in
    nest_loop c.args.walk.now.tree.now c.args.walk.now.fusion.now.0.items c.args.walk.now.ops.now c.args.claim.now c.args.at c.args.d c.in-Open.i c.in_ok-close.close
    c.min-end.result (Open 0) c.args.known.now c.check_nest.new.known (omega (arith, c.if-at-walk.false)) (omega (arith, c.if-d-len.false, c.len.ensures.value)) c.in-Open.is
    here c.min-end.ensures (sym c.if-is_end.ensures) c.in_ok-close.ensures
