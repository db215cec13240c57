use Rattle.std.proofs.Common.{ap, subst}
use Rattle.tce_fusion.specs.Row.{Row}
use Rattle.tce_search.specs.Parts.{AreMarksOf}
use Rattle.tce_search.proofs.Grouping.{covers_from}
use Rattle.tce_search.proofs.candidate_list.CandidateList.covers.Goals as goal

pub returns : goal.returns
returns c =
    let inside = c.self.inside in
    let state = c.args.state.now in
    rw (← c.self.view_is)
    (covers_from inside.outer state.cost c.marks_of.result c.state.inside.classes state.classes inside.groups c.as_slice-3.result.now inside.candidates.items c.as_slice.result.now c.upper_parts-parts.result.items c.some_group_covers.result
    (ap (λ (s : Row). s.classes) c.state.view_is) c.as_slice-3.ensures.value c.as_slice.ensures.value c.some_group_covers.ensures c.self.invariant c.upper_parts-parts.ensures.all
    (subst (λ ps. AreMarksOf ps c.marks_of.result) c.as_slice-2.ensures.value c.marks_of.ensures))
