use Rattle.std.proofs.Common.{◌≡◌, Result, Ok, Err, Some, None, refl}
use Rattle.std.proofs.lemmas.Option.{none-some}
use Rattle.tce_report.specs.FormCode.{form}
use Rattle.tce_report.specs.declared.node_reader.NodeLine.{NodeLine}
use Rattle.tce_report.specs.declared.node_reader.LineFault.{LineFault}
use Rattle.tce_report.specs.declared.node_reader.LineFault.TheVariants.{BadText, WrongTree}
use Rattle.tce_report.specs.ReadLine.{said}
use Rattle.tce_report.proofs.Reading.{line_says, no_line_says}
use Rattle.tce_report.proofs.node_reader.read_node_line.Goals as goal

no_fault : (line : NodeLine) (fault : LineFault) → ◌≡◌ {A = Result NodeLine LineFault} (Ok line) (Err fault) → ⊥
no_fault line fault e = cc

other_fault : ◌≡◌ {A = Result NodeLine LineFault} (Err BadText) (Err WrongTree) → ⊥
other_fault e = cc

other_text : ◌≡◌ {A = Result NodeLine LineFault} (Err WrongTree) (Err BadText) → ⊥
other_text e = cc

pub returns-in_default-clause-read : goal.returns-in_default-clause-read
returns-in_default-clause-read c =
    no_line_says c.args.space.now c.args.tree.now c.args.v c.args.line.now c.index_count-declared.ensures.limits c.count-count.ensures.kept c.requires.declared c.requires.inside c.in_default.ensures

pub returns-in_default-clause-bad_text : goal.returns-in_default-clause-bad_text
returns-in_default-clause-bad_text c = ((λ e has. none-some has.0 ((c.in_default.ensures has.0).1 (has.1, has.2))), (λ no_form. refl))

pub returns-in_default-clause-wrong_tree : goal.returns-in_default-clause-wrong_tree
returns-in_default-clause-wrong_tree c = ((λ e. absurd (other_fault e)), (λ has. absurd (none-some has.0.0 ((c.in_default.ensures has.0.0).1 (has.0.1, has.0.2)))))

pub read_written-requires-clause-form : goal.read_written-requires-clause-form
read_written-requires-clause-form c = ((c.in-Some.ensures (form c.in-Some.written)).0 refl).0

pub returns-in-Some-read_written-clause-read : goal.returns-in-Some-read_written-clause-read
returns-in-Some-read_written-clause-read c =
    line_says c.args.space.now c.args.tree.now c.args.v c.args.line.now (form c.in-Some.written) (Some (said c.in-Some-read_written.said)) c.index_count-declared.ensures.limits
    c.count-count.ensures.kept c.requires.declared c.requires.inside c.in-Some.ensures c.in-Some-read_written.ensures

pub returns-in-Some-read_written-clause-bad_text : goal.returns-in-Some-read_written-clause-bad_text
returns-in-Some-read_written-clause-bad_text c = ((λ e. absurd (no_fault _ _ e)), (λ no_form. absurd (let is = (c.in-Some.ensures (form c.in-Some.written)).0 refl in no_form (form c.in-Some.written, is.0, is.1))))

pub returns-in-Some-read_written-clause-wrong_tree : goal.returns-in-Some-read_written-clause-wrong_tree
returns-in-Some-read_written-clause-wrong_tree c = (
  (λ e. absurd (no_fault _ _ e)),
  (λ has. absurd (has.1 (said c.in-Some-read_written.said)
      ((line_says c.args.space.now c.args.tree.now c.args.v c.args.line.now (form c.in-Some.written) (Some (said c.in-Some-read_written.said)) c.index_count-declared.ensures.limits
      c.count-count.ensures.kept c.requires.declared c.requires.inside c.in-Some.ensures c.in-Some-read_written.ensures (said c.in-Some-read_written.said)).0 refl))),
)

pub returns-in-None-clause-read : goal.returns-in-None-clause-read
returns-in-None-clause-read c =
    line_says c.args.space.now c.args.tree.now c.args.v c.args.line.now (form c.in-Some.written) None c.index_count-declared.ensures.limits
    c.count-count.ensures.kept c.requires.declared c.requires.inside c.in-Some.ensures c.in-None.ensures

pub returns-in-None-clause-bad_text : goal.returns-in-None-clause-bad_text
returns-in-None-clause-bad_text c = ((λ e. absurd (other_text e)), (λ no_form. absurd (let is = (c.in-Some.ensures (form c.in-Some.written)).0 refl in no_form (form c.in-Some.written, is.0, is.1))))

pub returns-in-None-clause-wrong_tree : goal.returns-in-None-clause-wrong_tree
returns-in-None-clause-wrong_tree c = (
  (λ e. (
    (let is = (c.in-Some.ensures (form c.in-Some.written)).0 refl in (form c.in-Some.written, is.0, is.1)),
    (λ s says. none-some s
        ((line_says c.args.space.now c.args.tree.now c.args.v c.args.line.now (form c.in-Some.written) None c.index_count-declared.ensures.limits
        c.count-count.ensures.kept c.requires.declared c.requires.inside c.in-Some.ensures c.in-None.ensures s).1 says)),
  )),
  (λ has. refl),
)
