use Rattle.std.proofs.Common.{◌∙◌, ◌<◌, length, refl, arith}
use Rattle.std.proofs.lemmas.List.{length-set}
use Rattle.std.proofs.lemmas.Grind.{get_or-set_at}
use Rattle.tce_sym.proofs.HeldLines.{slot_within, unmarked_kept, word_kept, still_unmarked, one_more, line_put}
use Rattle.tce_sym.proofs.lines.put_line.Goals as goal

pub loop-k-init : goal.loop-k-init
loop-k-init c =
    let room : c.args.slot < length c.args.lines.now = slot_within c.args.grid.now _ c.args.slot c.requires.grid c.requires.slot in
    record {
      kept = λ bytes before. unmarked_kept c.args.grid.now _ c.args.slot bytes c.args.lines.now c.requires.grid c.requires.slot room before;
      unmarked = get_or-set_at c.args.lines.now c.args.slot c.args.slot 0 0 refl room;
      put = λ j l. absurd (omega arith);
    }

pub loop-k-preserved : goal.loop-k-preserved
loop-k-preserved c = record {
  kept = λ bytes before. word_kept c.args.grid.now _ c.args.slot c.loop-k.k _ bytes c.loop-k.lines c.requires.grid c.requires.slot c.loop-k.invariant.unmarked (c.loop-k.invariant.kept bytes before);
  unmarked = still_unmarked c.args.grid.now _ c.args.slot c.loop-k.k _ c.loop-k.lines c.requires.grid c.requires.slot c.loop-k.invariant.unmarked;
  put = one_more c.args.grid.now _ c.args.slot c.loop-k.k c.args.words.now c.loop-k.lines c.requires.grid c.requires.slot (omega (arith, c.loop-k-test.true, c.requires.short)) (c.loop-k.auto.lines ∙ length-set c.args.lines.now c.args.slot 0) c.loop-k.invariant.put;
}

pub returns : goal.returns
returns c = λ bytes before read.
    let room : c.args.slot < length c.args.lines.now = slot_within c.args.grid.now _ c.args.slot c.requires.grid c.requires.slot in
    line_put c.args.grid.now _ c.args.slot c.args.start bytes c.args.words.now c.loop-k.lines c.requires.grid c.requires.slot (omega (arith, room, c.loop-k.auto.lines, length-set c.args.lines.now c.args.slot 0)) c.requires.whole
    (λ k l. c.loop-k.invariant.put k (omega (arith, l, c.loop-k-test.false))) read (c.loop-k.invariant.kept bytes before)
