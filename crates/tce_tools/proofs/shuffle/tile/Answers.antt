use Rattle.std.proofs.Common.{◌∙◌, length, slice_index, ap, arith}
use Rattle.tce_array.proofs.Heads.{zeros_at}
use Rattle.tce_tools.proofs.Shuffles.{tile_more, zeros_more}
use Rattle.tce_tools.proofs.shuffle.tile.Goals as goal

pub loop-done-init : goal.loop-done-init
loop-done-init c = record {
  done = omega arith;
  elements = λ element values xs h lt index at. let start = c.requires.band.element xs h index at in absurd (omega (arith, start.0));
  padding = λ index none. ap (λ l. slice_index l index) c.clear.ensures ∙ zeros_at (length c.args.tiled.now) index;
}

pub loop-done-preserved : goal.loop-done-preserved
loop-done-preserved c = record {
  done = omega (arith, c.part_at-part.ensures.inside);
  elements = tile_more c.args.shape.now c.args.band c.args.words.now c.loop-done.tiled c.copy_from_slice.new.self c.loop-done.done c.part_at-part.result c.requires.band c.part_at-part.ensures
      c.requires.words (omega (arith, c.loop-done.auto.tiled, c.requires.tiled)) c.copy_from_slice.ensures.after c.loop-done.invariant.elements;
  padding = zeros_more c.args.shape.now c.args.band c.args.words.now c.loop-done.tiled c.copy_from_slice.new.self c.loop-done.done c.part_at-part.result c.requires.band c.part_at-part.ensures
      c.requires.words (omega (arith, c.loop-done.auto.tiled, c.requires.tiled)) c.copy_from_slice.ensures.after c.loop-done.invariant.padding;
}

pub returns-clause-elements : goal.returns-clause-elements
returns-clause-elements c = λ element values xs h index at.
    c.loop-done.invariant.elements element values xs h (let within = c.requires.band.element xs h index at in omega (arith, within.1, c.loop-done-test.false)) index at

pub returns-clause-padding : goal.returns-clause-padding
returns-clause-padding c = λ index none. c.loop-done.invariant.padding index (λ xs h lt at. none xs h at)
