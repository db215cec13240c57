use Rattle.std.proofs.Common.{◌≡◌, ◌<◌, ◌∙◌, ℕ, get_or, length, sym, ap, subst, inl, inr, arith}
use Rattle.std.proofs.lemmas.Bool.{cases_eq}
use Rattle.std.proofs.lemmas.List.{get_or_default}
use Rattle.tce_exec.specs.MergedRows.{IsLinkAlike}
use Rattle.tce_exec.specs.declared.links.Link.{Link}
use Rattle.tce_exec.proofs.LinkLaws.{no_link}
use Rattle.tce_exec.proofs.merging.are_links_alike.Goals as goal

pub loop-link-preserved : goal.loop-link-preserved
loop-link-preserved c = λ k d low. elim (cases_eq k c.loop-link.link-index) [
  | inl e ↦
      let here = c.is_link_alike.ensures c.if-not-is_link_alike.false in
      let same : get_or c.args.links.now c.loop-link.link-index no_link ≡ get_or c.args.links.now k d =
      get_or_default c.args.links.now c.loop-link.link-index no_link d c.loop-link-test.true ∙ ap (λ n. get_or c.args.links.now n d) (sym e) in
      subst (IsLinkAlike c.args.loops.outer c.args.loops.inner c.args.loops.count) same here
  | inr ne ↦ c.loop-link.invariant k d (omega (arith, low, ne))
]

pub returns : goal.returns
returns c = λ yes k d low. c.loop-link.invariant k d (omega (arith, low, c.loop-link-test.false, c.loop-link.auto))
