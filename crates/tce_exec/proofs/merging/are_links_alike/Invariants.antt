use Rattle.std.proofs.Common.{ℕ, ◌<◌, get_or}
use Rattle.tce_exec.specs.MergedRows.{IsLinkAlike}
use Rattle.tce_exec.specs.declared.links.Link.{Link}
use Rattle.tce_exec.proofs.merging.are_links_alike.Given as goal

abbrev pub invariant-loop-link : goal.invariant-loop-link
invariant-loop-link l = (k : ℕ) (d : Link) → k < l.link-index → IsLinkAlike l.loops.outer l.loops.inner l.loops.count (get_or l.links k d)
