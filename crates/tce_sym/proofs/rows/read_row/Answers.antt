use Rattle.std.proofs.Common.{◌≡◌, ◌∙◌, ℕ, ◌+◌, length, sym, ap, subst, arith, refl}
use Rattle.tce_outside.proofs.Causes.{cause_since, failed_after, no_cause}
use Rattle.tce_tools.specs.Flat.{contents}
use Rattle.tce_sym.specs.declared.cells.Pair.{Pair}
use Rattle.tce_sym.specs.Lines.{HasRoom}
use Rattle.tce_sym.specs.Cells.{IsAmong, IsUpper, cell_of, moved_pair}
use Rattle.tce_sym.proofs.Walked.{joined_words, moved_on, moved_nowhere, mirrored_is, number_left}
use Rattle.std.proofs.lemmas.Result.{IfOk-from_err, on_ok_weaker}
use Rattle.std.proofs.lemmas.Bool.{false≢true}
use Rattle.tce_sym.proofs.rows.read_row.Goals as goal

pub moved_row-behind-requires-clause-outer : goal.moved_row-behind-requires-clause-outer
moved_row-behind-requires-clause-outer g c =
    let first = subst (IsAmong c.args.triangles.now) (moved_nowhere c.args.row.now) (c.requires.among 0 (number_left (length c.args.words.now) _ c.is_empty.ensures c.if-is_empty.false)) in
    omega (arith, first.outer, c.requires.triangles.few, c.mirrored_len-len.ensures.within, c.requires.few)

pub moved_row-behind-requires-clause-second : goal.moved_row-behind-requires-clause-second
moved_row-behind-requires-clause-second g c =
    let first = subst (IsAmong c.args.triangles.now) (moved_nowhere c.args.row.now) (c.requires.among 0 (number_left (length c.args.words.now) _ c.is_empty.ensures c.if-is_empty.false)) in
    omega (arith, first.second, c.requires.triangles.extent, c.mirrored_len-len.ensures.within, c.requires.few)

pub read_mirrored-requires-clause-among : goal.read_mirrored-requires-clause-among
read_mirrored-requires-clause-among g c = λ k l. c.requires.among k (omega (arith, l, c.split_at_mut-mirrored.ensures.front_len, c.mirrored_len-len.ensures.within))

pub read_mirrored-requires-clause-mirrored : goal.read_mirrored-requires-clause-mirrored
read_mirrored-requires-clause-mirrored g c = λ k l. c.mirrored_len-len.ensures.mirrored k (omega (arith, l, c.split_at_mut-mirrored.ensures.front_len))

pub read_mirrored-requires-clause-few : goal.read_mirrored-requires-clause-few
read_mirrored-requires-clause-few g c = omega (arith, c.split_at_mut-mirrored.ensures.front_len, c.mirrored_len-len.ensures.within, c.requires.few)

pub read_others-requires-clause-among : goal.read_others-requires-clause-among
read_others-requires-clause-among g c = λ k l.
    subst (IsAmong c.args.triangles.now) (sym (moved_on c.args.row.now c.moved_row-behind.result c.mirrored_len-len.result k c.moved_row-behind.ensures.pair c.moved_row-behind.ensures.kind))
    (c.requires.among (c.mirrored_len-len.result + k) (omega (arith, l, c.split_at_mut-mirrored.ensures.back_len, c.mirrored_len-len.ensures.within)))

pub read_others-requires-clause-others : goal.read_others-requires-clause-others
read_others-requires-clause-others g c = λ k l.
    subst (λ (p : Pair). IsUpper p) (sym (moved_on c.args.row.now c.moved_row-behind.result c.mirrored_len-len.result k c.moved_row-behind.ensures.pair c.moved_row-behind.ensures.kind))
    (c.mirrored_len-len.ensures.others (c.mirrored_len-len.result + k) (omega arith) (omega (arith, l, c.split_at_mut-mirrored.ensures.back_len, c.mirrored_len-len.ensures.within)))

pub read_others-requires-clause-few : goal.read_others-requires-clause-few
read_others-requires-clause-few g c = omega (arith, c.split_at_mut-mirrored.ensures.back_len, c.requires.few)

pub read_others-requires-clause-file : goal.read_others-requires-clause-file
read_others-requires-clause-file g c = λ x told. c.requires.file x (sym c.in_ok-read_mirrored.ensures.same ∙ told)

pub read_others-requires-clause-room : goal.read_others-requires-clause-room
read_others-requires-clause-room g c = subst (λ (n : ℕ). HasRoom c.args.triangles.now.slots.grid.layout c.args.triangles.now.slots.grid n) (sym c.read_mirrored.auto.lines) c.requires.room

pub read_others-requires-clause-lines : goal.read_others-requires-clause-lines
read_others-requires-clause-lines g c = λ x told. c.in_ok-read_mirrored.ensures.lines x (sym c.in_ok-read_mirrored.ensures.same ∙ told)

pub returns-clause-read : goal.returns-clause-read
returns-clause-read g c =
    on_ok_weaker c.read_others.result
    (λ read. λ x told.
    let len : length c.read_mirrored.new.words ≡ c.mirrored_len-len.result = omega (arith, c.read_mirrored.auto.words, c.split_at_mut-mirrored.ensures.front_len, c.mirrored_len-len.ensures.within) in
    joined_words (λ n. cell_of c.args.triangles.now (contents x c.args.packed.now) (moved_pair c.args.row.now n)) c.read_mirrored.new.words c.read_others.new.words
    (λ k l.
    c.in_ok-read_mirrored.ensures.read x told k l
    ∙ mirrored_is c.args.triangles.now (contents x c.args.packed.now) (moved_pair c.args.row.now k) (c.mirrored_len-len.ensures.mirrored k (omega (arith, l, len))))
    (λ k l.
    let on : moved_pair c.moved_row-behind.result k ≡ moved_pair c.args.row.now (length c.read_mirrored.new.words + k) =
    moved_on c.args.row.now c.moved_row-behind.result c.mirrored_len-len.result k c.moved_row-behind.ensures.pair c.moved_row-behind.ensures.kind
    ∙ ap (λ n. moved_pair c.args.row.now (n + k)) (sym len) in
    read x (c.in_ok-read_mirrored.ensures.same ∙ told) k l
    ∙ ap (cell_of c.args.triangles.now (contents x c.args.packed.now)) on))
    c.read_others.ensures.read

pub returns-clause-lines : goal.returns-clause-lines
returns-clause-lines g c = on_ok_weaker c.read_others.result (λ held. λ x told. held x (c.in_ok-read_mirrored.ensures.same ∙ told)) c.read_others.ensures.lines

pub returns-clause-same : goal.returns-clause-same
returns-clause-same g c = c.read_others.ensures.same ∙ c.in_ok-read_mirrored.ensures.same

pub returns-clause-fault_reported : goal.returns-clause-fault_reported
returns-clause-fault_reported g c = record {
  cause = cause_since _ (g.D.Disk.faults c.read_mirrored.new.disk) _ c.in_ok-read_mirrored.ensures.fault_reported.cause.later c.read_others.ensures.fault_reported.cause;
  quiet = λ ok. c.read_others.ensures.fault_reported.quiet ok ∙ c.in_ok-read_mirrored.ensures.fault_reported.quiet false≢true;
}

pub returns-then-is_empty-clause-lines : goal.returns-then-is_empty-clause-lines
returns-then-is_empty-clause-lines g c = c.requires.lines

pub returns-then-is_empty-clause-same : goal.returns-then-is_empty-clause-same
returns-then-is_empty-clause-same g c = refl

pub returns-then-is_empty-clause-fault_reported : goal.returns-then-is_empty-clause-fault_reported
returns-then-is_empty-clause-fault_reported g c = record {
  cause = no_cause (g.D.Disk.faults c.args.disk.now) (g.D.Disk.faults c.args.disk.now) refl false≢true;
  quiet = λ fine. refl;
}

pub split_at_mut-mirrored-requires : goal.split_at_mut-mirrored-requires
split_at_mut-mirrored-requires g c = c.mirrored_len-len.ensures.within

pub read_mirrored-requires-clause-triangles : goal.read_mirrored-requires-clause-triangles
read_mirrored-requires-clause-triangles g c = c.requires.triangles

pub read_mirrored-requires-clause-file : goal.read_mirrored-requires-clause-file
read_mirrored-requires-clause-file g c = c.requires.file

pub read_mirrored-requires-clause-room : goal.read_mirrored-requires-clause-room
read_mirrored-requires-clause-room g c = c.requires.room

pub read_mirrored-requires-clause-lines : goal.read_mirrored-requires-clause-lines
read_mirrored-requires-clause-lines g c = c.requires.lines

pub returns-in_err-read_mirrored-clause-read : goal.returns-in_err-read_mirrored-clause-read
returns-in_err-read_mirrored-clause-read g c = IfOk-from_err c.from_residual.result _ c.from_residual.ensures.0

pub returns-in_err-read_mirrored-clause-lines : goal.returns-in_err-read_mirrored-clause-lines
returns-in_err-read_mirrored-clause-lines g c = IfOk-from_err c.from_residual.result _ c.from_residual.ensures.0

pub returns-in_err-read_mirrored-clause-same : goal.returns-in_err-read_mirrored-clause-same
returns-in_err-read_mirrored-clause-same g c = c.read_mirrored.ensures.same

pub returns-in_err-read_mirrored-clause-fault_reported : goal.returns-in_err-read_mirrored-clause-fault_reported
returns-in_err-read_mirrored-clause-fault_reported g c = record {
  cause = failed_after (g.D.Disk.faults c.args.disk.now) (g.D.Disk.faults c.args.disk.now) (g.D.Disk.faults c.read_mirrored.new.disk) refl c.in_err-read_mirrored.ensures.fault_reported.cause;
  quiet = λ fine. absurd (fine c.from_residual.ensures.0);
}

pub read_others-requires-clause-triangles : goal.read_others-requires-clause-triangles
read_others-requires-clause-triangles g c = c.requires.triangles
