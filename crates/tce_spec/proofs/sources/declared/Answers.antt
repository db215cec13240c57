use Rattle.std.proofs.Common.{get_or, ap, refl, ◌∙◌, []}
use Rattle.tce_space.specs.Space.{IndexSpace}
use Rattle.tce_spec.specs.Declarations.{Declarations, IsTensor, tensor_number}
use Rattle.tce_spec.specs.PieceCode.{IsSource}
use Rattle.tce_spec.specs.PieceSpecification.{source}
use Rattle.tce_spec.proofs.PieceCalls.{tensor_fits}
use Rattle.tce_spec.proofs.DeclaredAnew.{unnamed_before, each_at, tensor_more, room_before, all_tensors}
use Rattle.tce_spec.proofs.sources.declared.Goals as goal

pub loop-t-init : goal.loop-t-init
loop-t-init c = c.in_ok-declarations.ensures ∙ ap (λ (x : IndexSpace). record { space = x; tensors = [] }) (c.in_ok-copied_space.ensures ∙ c.space.ensures.space)

pub declare_source-requires-clause-source : goal.declare_source-requires-clause-source
declare_source-requires-clause-source c = each_at (IsSource c.args.spec.now) c.args.numbers.now c.loop-t.t-index c.loop-t-test.true c.requires.sources

pub declare_source-requires-clause-unnamed : goal.declare_source-requires-clause-unnamed
declare_source-requires-clause-unnamed c =
    ap (λ (d : Declarations). tensor_number d.tensors (source c.args.spec.now (get_or c.args.numbers.now c.loop-t.t-index 0)).name) c.loop-t.invariant
    ∙ unnamed_before c.args.spec.now c.args.numbers.now c.loop-t.t-index c.loop-t-test.true c.requires.names

pub declare_source-requires-clause-room : goal.declare_source-requires-clause-room
declare_source-requires-clause-room c = room_before c.args.spec.now c.args.numbers.now c.loop-t.t-index c.loop-t.declarations c.loop-t-test.true c.requires.few c.loop-t.invariant

pub declare_source-requires-clause-fits : goal.declare_source-requires-clause-fits
declare_source-requires-clause-fits c =
    let s = c.args.spec.now in
    let us = c.args.numbers.now in
    let k = c.loop-t.t-index in
    tensor_fits s.declarations.space c.loop-t.declarations.space (source s (get_or us k 0)) (source s (get_or us k 0)) (ap (λ (d : Declarations). d.space) c.loop-t.invariant) refl
    (each_at (λ t. IsTensor s.declarations.space (source s t)) us k c.loop-t-test.true c.requires.tensors)

pub loop-t-preserved : goal.loop-t-preserved
loop-t-preserved c =
    let s = c.args.spec.now in
    let us = c.args.numbers.now in
    let k = c.loop-t.t-index in
    tensor_more s us k c.loop-t.declarations c.in_ok-declarations-2.declarations (source s (get_or us k 0)) c.loop-t-test.true c.loop-t.invariant c.in_ok-declarations-2.ensures refl

pub returns : goal.returns
returns c = all_tensors c.args.spec.now c.args.numbers.now c.loop-t.t-index c.loop-t.declarations c.loop-t-test.false c.loop-t.invariant
