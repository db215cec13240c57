use Rattle.std.proofs.Common.{◌<◌, ◌∙◌, length, slice_index, refl, sym, ap, subst, arith}
use Rattle.std.proofs.lemmas.List.Elements.{All-from_recursion}
use Rattle.std.proofs.lemmas.Result.{on_ok_weaker}
use Rattle.tce_block.specs.Cuts.{part_of}
use Rattle.tce_exec.specs.Bodies.{IsBodyIn}
use Rattle.tce_exec.specs.Storages.{setting_of, work_of}
use Rattle.tce_exec.specs.declared.body.BodyBlock.{BodyBlock}
use Rattle.tce_exec.proofs.Bodies.{body_in, known_nodes}
use Rattle.tce_exec.proofs.BodyBlocks.{from_long, begun, as_body}
use Rattle.tce_exec.proofs.Reading.{each_of}
use Rattle.tce_exec.proofs.body.run_body.Goals as goal

pub run_loops-requires-clause-body : goal.run_loops-requires-clause-body
run_loops-requires-clause-body g c =
    let b = c.args.body.now in
    let s = setting_of g.D.Disk.files c.args.evaluation.now c.args.store.now in
    let space = c.args.evaluation.now.space.now in
    let a = slice_index c.args.numbers.now in
    let whole = body_in s space b.loops.now b.ops.now (part_of c.args.block.now) a c.index_count-indexes.ensures.limits c.requires.body in
    subst (λ f. IsBodyIn s space b.loops.now f c.as_slice-len.result.now b.ops.now a) (sym c.as_slice-from.ensures.value)
    (subst (λ l. IsBodyIn s space b.loops.now c.args.block.now.from.items l b.ops.now a) (sym c.as_slice-len.ensures.value) whole)

pub begin-requires-clause-known : goal.begin-requires-clause-known
begin-requires-clause-known g c =
    All-from_recursion (λ i. i < 24) c.args.body.now.loops.now (each_of (λ i. i < 24) c.args.body.now.loops.now
    (λ i m. omega (arith, c.requires.body.declared i m, c.index_count-indexes.ensures.limits.index_limit)))

pub begin-requires-clause-each : goal.begin-requires-clause-each
begin-requires-clause-each g c =
    ap length c.as_slice-from.ensures.value
    ∙ from_long (setting_of g.D.Disk.files c.args.evaluation.now c.args.store.now) c.args.evaluation.now.space.now c.args.body.now.loops.now c.args.body.now.ops.now (part_of c.args.block.now)
    (slice_index c.args.numbers.now) c.index_count-indexes.ensures.limits c.requires.body

pub run_held-requires-clause-begun : goal.run_held-requires-clause-begun
run_held-requires-clause-begun g c =
    let b : BodyBlock = record { loops = c.args.body.now.loops; from = c.as_slice-from.result; len = c.as_slice-len.result; ops = c.args.body.now.ops } in
    begun (setting_of g.D.Disk.files c.args.evaluation.now c.args.store.now) c.args.evaluation.now.space.now b (part_of c.args.block.now) (slice_index c.args.numbers.now) (slice_index c.go_to.new.self.numbers)
    c.as_slice-from.result.now c.begin.new.self.numbers c.index_count-indexes.ensures.limits refl c.requires.body c.as_slice-from.ensures.value c.as_slice-len.ensures.value c.as_slice-from.ensures.value
    c.go_to.ensures.numbers c.begin.ensures.numbers

pub returns-then-tiles_of-frames-clause-changed : goal.returns-then-tiles_of-frames-clause-changed
returns-then-tiles_of-frames-clause-changed g c =
    let b : BodyBlock = record { loops = c.args.body.now.loops; from = c.as_slice-from.result; len = c.as_slice-len.result; ops = c.args.body.now.ops } in
    let x = work_of g.D.Disk.files c.args.evaluation.now c.args.store.now in
    let z = work_of g.D.Disk.files c.args.evaluation.now c.run_held.new.store in
    on_ok_weaker c.run_held.result (as_body x z b (part_of c.args.block.now) (slice_index c.args.numbers.now) (slice_index c.go_to.new.self.numbers) c.as_slice-from.result.now c.begin.new.self.numbers
    c.as_slice-from.ensures.value c.as_slice-len.ensures.value c.go_to.ensures.numbers c.begin.ensures.numbers) c.run_held.ensures.changed

pub tiles_of-requires-clause-known : goal.tiles_of-requires-clause-known
tiles_of-requires-clause-known g c =
    known_nodes (setting_of g.D.Disk.files c.args.evaluation.now c.args.store.now) c.args.body.now.loops.now (slice_index c.args.numbers.now) c.args.body.now.ops.now c.requires.body.each
