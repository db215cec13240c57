use Rattle.std.proofs.Common.{length, arith}
use Rattle.tce_block.proofs.AddedRows.{RowFit, out_within, factors_within, rows_within, factors_apart, rows_apart, rows_made}
use Rattle.tce_block.proofs.rows.rows_at_once.Goals as goal

pub mul_add_rows-requires-clause-out : goal.mul_add_rows-requires-clause-out
mul_add_rows-requires-clause-out c =
    let old = c.args.words.now in let rows = c.args.rows.outer in let along = c.args.rows.along in
    let given : RowFit (length old) rows along c.args.out c.args.left c.args.right = record { fit = c.requires.run; still = c.requires.still; next_word = c.requires.scaled.0; one_factor = c.requires.scaled.1; one_row = c.requires.scaled.2 } in
    out_within (length old) rows along c.args.out c.args.left c.args.right given

pub mul_add_rows-requires-clause-factors : goal.mul_add_rows-requires-clause-factors
mul_add_rows-requires-clause-factors c =
    let old = c.args.words.now in let rows = c.args.rows.outer in let along = c.args.rows.along in
    let given : RowFit (length old) rows along c.args.out c.args.left c.args.right = record { fit = c.requires.run; still = c.requires.still; next_word = c.requires.scaled.0; one_factor = c.requires.scaled.1; one_row = c.requires.scaled.2 } in
    factors_within (length old) rows along c.args.out c.args.left c.args.right given

pub mul_add_rows-requires-clause-rows : goal.mul_add_rows-requires-clause-rows
mul_add_rows-requires-clause-rows c =
    let old = c.args.words.now in let rows = c.args.rows.outer in let along = c.args.rows.along in
    let given : RowFit (length old) rows along c.args.out c.args.left c.args.right = record { fit = c.requires.run; still = c.requires.still; next_word = c.requires.scaled.0; one_factor = c.requires.scaled.1; one_row = c.requires.scaled.2 } in
    rows_within (length old) rows along c.args.out c.args.left c.args.right given

pub mul_add_rows-requires-clause-apart_from_factors : goal.mul_add_rows-requires-clause-apart_from_factors
mul_add_rows-requires-clause-apart_from_factors c =
    let old = c.args.words.now in let rows = c.args.rows.outer in let along = c.args.rows.along in
    let given : RowFit (length old) rows along c.args.out c.args.left c.args.right = record { fit = c.requires.run; still = c.requires.still; next_word = c.requires.scaled.0; one_factor = c.requires.scaled.1; one_row = c.requires.scaled.2 } in
    factors_apart (length old) rows along c.args.out c.args.left c.args.right given

pub mul_add_rows-requires-clause-apart_from_rows : goal.mul_add_rows-requires-clause-apart_from_rows
mul_add_rows-requires-clause-apart_from_rows c =
    let old = c.args.words.now in let rows = c.args.rows.outer in let along = c.args.rows.along in
    let given : RowFit (length old) rows along c.args.out c.args.left c.args.right = record { fit = c.requires.run; still = c.requires.still; next_word = c.requires.scaled.0; one_factor = c.requires.scaled.1; one_row = c.requires.scaled.2 } in
    rows_apart (length old) rows along c.args.out c.args.left c.args.right given

pub returns : goal.returns
returns c =
    let old = c.args.words.now in let rows = c.args.rows.outer in let along = c.args.rows.along in
    let given : RowFit (length old) rows along c.args.out c.args.left c.args.right = record { fit = c.requires.run; still = c.requires.still; next_word = c.requires.scaled.0; one_factor = c.requires.scaled.1; one_row = c.requires.scaled.2 } in
    rows_made rows along c.args.out c.args.left c.args.right rows.len old c.mul_add_rows.new.self given (omega arith) c.mul_add_rows.ensures
