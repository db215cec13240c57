use Rattle.std.proofs.Common.{◌≡◌, ◌+◌, ◌<◌, ◌∙◌, ℕ, List, [], ◌∷◌, ◌++◌, get_or, length, map, set, refl, sym, ap, take, drop, arith}
use Rattle.std.proofs.lemmas.List.{get_or_default}
use Rattle.std.proofs.lemmas.List.Edits.{map_over_more}
use Rattle.tce_exec.specs.ChainRows.{link_before}
use Rattle.tce_exec.specs.declared.links.Link.{Link}
use Rattle.tce_exec.proofs.LinkLaws.{no_link}
use Rattle.tce_exec.proofs.LinkSteps.{link_of, same_link}
use Rattle.tce_exec.proofs.row.withdraw.Goals as goal

pub loop-k-preserved : goal.loop-k-preserved
loop-k-preserved c =
    let f : Link → Link = link_before c.args.step.index c.args.step.by in
    let k : ℕ = c.loop-k.k in
    let links = c.loop-k.links in
    let here : Link = get_or links k no_link in
    let put = ap (set links k) (same_link here.kind _ _ _ _ _ _ c.withdraw_source.ensures c.withdraw_source-in-loop-k.ensures c.withdraw_window.ensures) in
    put ∙ map_over_more f c.args.links.now links k here c.loop-k-test.true c.loop-k.invariant (get_or_default links k no_link here (omega (arith, c.loop-k-test.true, c.loop-k.auto.links)))
