use Rattle.std.proofs.Common.{◌∙◌, sym, ap, subst, length}
use Rattle.std.specs.List.{All, Contains}
use Rattle.tce_fusion.specs.Relation.{above}
use Rattle.tce_search.specs.declared.candidate.Candidate.{Candidate}
use Rattle.tce_search.specs.Parts.{IsUpperPart, AreMarksOf}
use Rattle.tce_search.specs.Groups.{Listed, AreEntered, AreFalling, group_of}
use Rattle.tce_search.proofs.Grouping.{entered_later, entered_last}
use Rattle.tce_search.proofs.candidate_list.CandidateList.push.Goals as goal

pub invariant_of-self : goal.invariant_of-self
invariant_of-self c =
    let inside = c.self.inside in
    entered_later inside.outer inside.groups c.push.new.self inside.candidates.items c.in_err-push.ensures.kept c.self.invariant

pub invariant_of-self-in_err-push-2 : goal.invariant_of-self-in_err-push-2
invariant_of-self-in_err-push-2 c =
    let inside = c.self.inside in
    subst (AreEntered inside.outer c.push.new.self) (sym c.in_err-push-2.ensures.items)
    (entered_later inside.outer inside.groups c.push.new.self inside.candidates.items c.in_ok-push.ensures.kept c.self.invariant)

pub invariant_of-self-2 : goal.invariant_of-self-2
invariant_of-self-2 c =
    let inside = c.self.inside in
    let part = c.last_of-part.result in
    let under = c.next_below-under.result in
    let third = c.next_below-third.result in
    let parts = c.upper_parts-parts.result.items in
    let same = ap (λ (x : Candidate). x.row.classes) c.candidate.view_is in
    let each = subst (λ cs. All (IsUpperPart inside.outer (above cs)) parts) same c.upper_parts-parts.ensures.each in
    let falling : AreFalling parts part under third = record {
      first = subst (λ xs. Contains xs part) c.as_slice.ensures.value c.last_of-part.ensures;
      second = subst (λ xs. Contains xs under) c.as_slice-2.ensures.value c.next_below-under.ensures.among;
      last = subst (λ xs. Contains xs third) c.as_slice-3.ensures.value c.next_below-third.ensures.among;
      below = c.next_below-under.ensures.order;
      lowest = c.next_below-third.ensures.order;
    } in
    let marked = subst (λ ps. AreMarksOf ps c.marks_of.result) c.as_slice-4.ensures.value c.marks_of.ensures in
    entered_last inside.outer c.push.new.self inside.candidates.items c.push-2.new.self.items c.args.candidate parts part under third c.marks_of.result c.count.result c.key_of.result
    (entered_later inside.outer inside.groups c.push.new.self inside.candidates.items c.in_ok-push.ensures.kept c.self.invariant)
    c.in_ok-push-2.ensures.items
    each falling marked
    (c.count.ensures ∙ ap (λ (l : Listed). length l.candidates) (sym c.self.view_is))
    c.key_of.ensures
    (subst (λ (x : Candidate). Contains (group_of c.push.new.self c.key_of.result) (record { cost = x.row.cost; place = c.count.result; marks = c.marks_of.result })) c.candidate.view_is c.in_ok-push.ensures.added)
