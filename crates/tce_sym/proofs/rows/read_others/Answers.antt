use Rattle.std.proofs.Common.{◌≡◌, ◌∙◌, ◌+◌, ◌<◌, length, slice_index, sym, ap, subst, arith, refl}
use Rattle.std.proofs.lemmas.Bool.{false≢true}
use Rattle.std.proofs.lemmas.Result.{on_ok_weaker}
use Rattle.tce_outside.proofs.Causes.{no_cause}
use Rattle.tce_tools.specs.Flat.{contents}
use Rattle.tce_sym.specs.declared.cells.Pair.{Pair}
use Rattle.tce_sym.specs.Storage.{stored_word}
use Rattle.tce_sym.specs.Cells.{IsAmong, IsStoredPair, cell_of, moved_pair, pair_place}
use Rattle.tce_sym.proofs.Walked.{joined_words, moved_on, moved_nowhere, stored_is, between_is, number_left}
use Rattle.tce_sym.proofs.HeldLines.{no_mark}
use Rattle.tce_sym.proofs.rows.read_others.Goals as goal

pub moved_row-behind-requires-clause-outer : goal.moved_row-behind-requires-clause-outer
moved_row-behind-requires-clause-outer g c =
    let first = subst (IsAmong c.args.triangles.now) (moved_nowhere c.args.row.now) (c.requires.among 0 (number_left (length c.args.words.now) _ c.is_empty.ensures c.if-is_empty.false)) in
    omega (arith, first.outer, c.requires.triangles.few, c.diagonal_len-zeros.ensures.within, c.requires.few)

pub moved_row-behind-requires-clause-second : goal.moved_row-behind-requires-clause-second
moved_row-behind-requires-clause-second g c =
    let first = subst (IsAmong c.args.triangles.now) (moved_nowhere c.args.row.now) (c.requires.among 0 (number_left (length c.args.words.now) _ c.is_empty.ensures c.if-is_empty.false)) in
    omega (arith, first.second, c.requires.triangles.extent, c.diagonal_len-zeros.ensures.within, c.requires.few)

pub read_stored-requires-clause-among : goal.read_stored-requires-clause-among
read_stored-requires-clause-among g c = λ k l.
    subst (IsAmong c.args.triangles.now) (sym (moved_on c.args.row.now c.moved_row-behind.result c.diagonal_len-zeros.result k c.moved_row-behind.ensures.pair c.moved_row-behind.ensures.kind))
    (c.requires.among (c.diagonal_len-zeros.result + k) (omega (arith, l, c.split_at_mut-diagonal.ensures.back_len, c.diagonal_len-zeros.ensures.within)))

pub read_stored-requires-clause-stored : goal.read_stored-requires-clause-stored
read_stored-requires-clause-stored g c = λ k l.
    subst (λ (p : Pair). IsStoredPair c.args.triangles.now.negated p)
    (sym (moved_on c.args.row.now c.moved_row-behind.result c.diagonal_len-zeros.result k c.moved_row-behind.ensures.pair c.moved_row-behind.ensures.kind))
    (c.diagonal_len-zeros.ensures.others (c.diagonal_len-zeros.result + k) (omega arith) (omega (arith, l, c.split_at_mut-diagonal.ensures.back_len, c.diagonal_len-zeros.ensures.within)))

pub read_stored-requires-clause-few : goal.read_stored-requires-clause-few
read_stored-requires-clause-few g c = omega (arith, c.split_at_mut-diagonal.ensures.back_len, c.requires.few)

pub returns-clause-read : goal.returns-clause-read
returns-clause-read g c =
    on_ok_weaker c.read_stored.result
    (λ read. λ x told.
    let len : length c.clear.new.words ≡ c.diagonal_len-zeros.result = omega (arith, c.clear.auto.words, c.split_at_mut-diagonal.ensures.front_len, c.diagonal_len-zeros.ensures.within) in
    joined_words (λ n. cell_of c.args.triangles.now (contents x c.args.packed.now) (moved_pair c.args.row.now n)) c.clear.new.words c.read_stored.new.words
    (λ k l.
    let short : k < c.diagonal_len-zeros.result = omega (arith, l, len) in
    let inside : k < length c.args.words.now = omega (arith, short, c.diagonal_len-zeros.ensures.within) in
    ap (λ ws. slice_index ws k) c.clear.ensures ∙ no_mark _ k
    ∙ between_is c.args.triangles.now (contents x c.args.packed.now) (moved_pair c.args.row.now k) (c.requires.others k inside) (c.diagonal_len-zeros.ensures.diagonal k short) (c.diagonal_len-zeros.ensures.negated (omega (arith, short))))
    (λ k l.
    let inside : length c.clear.new.words + k < length c.args.words.now =
    omega (arith, l, len, c.read_stored.auto.words, c.split_at_mut-diagonal.ensures.back_len, c.diagonal_len-zeros.ensures.within) in
    let on : moved_pair c.moved_row-behind.result k ≡ moved_pair c.args.row.now (length c.clear.new.words + k) =
    moved_on c.args.row.now c.moved_row-behind.result c.diagonal_len-zeros.result k c.moved_row-behind.ensures.pair c.moved_row-behind.ensures.kind
    ∙ ap (λ n. moved_pair c.args.row.now (n + k)) (sym len) in
    read x told k l
    ∙ ap (λ p. stored_word (contents x c.args.packed.now) (pair_place c.args.triangles.now p)) on
    ∙ stored_is c.args.triangles.now (contents x c.args.packed.now) (moved_pair c.args.row.now (length c.clear.new.words + k))
    (c.diagonal_len-zeros.ensures.others (length c.clear.new.words + k) (omega (arith, len)) inside)))
    c.read_stored.ensures.read

pub returns-clause-lines : goal.returns-clause-lines
returns-clause-lines g c = c.read_stored.ensures.lines

pub returns-clause-same : goal.returns-clause-same
returns-clause-same g c = c.read_stored.ensures.same

pub returns-clause-fault_reported : goal.returns-clause-fault_reported
returns-clause-fault_reported g c = c.read_stored.ensures.fault_reported

pub returns-then-is_empty-clause-lines : goal.returns-then-is_empty-clause-lines
returns-then-is_empty-clause-lines g c = c.requires.lines

pub returns-then-is_empty-clause-same : goal.returns-then-is_empty-clause-same
returns-then-is_empty-clause-same g c = refl

pub returns-then-is_empty-clause-fault_reported : goal.returns-then-is_empty-clause-fault_reported
returns-then-is_empty-clause-fault_reported g c = record {
  cause = no_cause (g.D.Disk.faults c.args.disk.now) (g.D.Disk.faults c.args.disk.now) refl false≢true;
  quiet = λ fine. refl;
}

pub diagonal_len-zeros-requires : goal.diagonal_len-zeros-requires
diagonal_len-zeros-requires g c = c.requires.others

pub split_at_mut-diagonal-requires : goal.split_at_mut-diagonal-requires
split_at_mut-diagonal-requires g c = c.diagonal_len-zeros.ensures.within

pub read_stored-requires-clause-triangles : goal.read_stored-requires-clause-triangles
read_stored-requires-clause-triangles g c = c.requires.triangles

pub read_stored-requires-clause-file : goal.read_stored-requires-clause-file
read_stored-requires-clause-file g c = c.requires.file

pub read_stored-requires-clause-room : goal.read_stored-requires-clause-room
read_stored-requires-clause-room g c = c.requires.room

pub read_stored-requires-clause-lines : goal.read_stored-requires-clause-lines
read_stored-requires-clause-lines g c = c.requires.lines
