use Rattle.std.proofs.Common.{ℕ, ◌%◌, ap}
use Rattle.std.specs.Prelude.{IsTrue}
use Rattle.std.proofs.lemmas.Bool.{both_ways}
use Rattle.std.proofs.lemmas.List.Elements.{AllWithin-none, All-from_all_within, AllWithin-upto}
use Rattle.tce_space.specs.IndexSet.{has}
use Rattle.tce_search.proofs.Marks.{HasOneMore, each_further, some_further}
use Rattle.tce_search.proofs.upper.marks_of.Goals as goal

pub loop-part-init : goal.loop-part-init
loop-part-init c = record {
  each = AllWithin-none (λ part. IsTrue (has c.empty-marks.result (part % 23))) c.args.parts.now 0;
  some = λ mark h. absurd (both_ways (has c.empty-marks.result mark) (c.empty-marks.ensures.members mark) h);
}

pub loop-part-preserved : goal.loop-part-preserved
loop-part-preserved c =
    let parts = c.args.parts.now in
    let k = c.loop-part.part-index in
    let part = c.part-item.result in
    let old = c.loop-part.marks in
    let new = c.with-marks.result in
    let mark = c.bits.result % 23 in
    let named = ap (λ n. n % 23) c.bits.ensures.value in
    let more : HasOneMore old new mark = record { member = c.with-marks.ensures.member; others = c.with-marks.ensures.others } in
    record {
      each = each_further parts k part old new mark c.loop-part-test.true c.part-item.is named more c.loop-part.invariant.each;
      some = some_further parts k part old new mark c.loop-part-test.true c.part-item.is named more c.loop-part.invariant.some;
    }

pub returns : goal.returns
returns c =
    let each = λ (part : ℕ). IsTrue (has c.loop-part.marks (part % 23)) in
    let parts = c.args.parts.now in
    record {
      each = All-from_all_within each parts (AllWithin-upto each parts 0 c.loop-part.part-index _ c.loop-part-test.false c.loop-part.invariant.each);
      some = c.loop-part.invariant.some;
    }
