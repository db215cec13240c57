use Rattle.std.proofs.Common.{◌*◌, ap, length, arith, sym, ◌∙◌}
use Rattle.std.proofs.lemmas.List.{length-take-le}
use Rattle.tce_tools.proofs.transfer.write_words.Goals as goal

pub overflow_mul-piece : goal.overflow_mul-piece
overflow_mul-piece g c = omega (arith, ap (λ m. m * length c.args.words.now) c.width.ensures, c.requires.buffer)

pub slice_bounds-piece-end : goal.slice_bounds-piece-end
slice_bounds-piece-end g c = omega (arith, ap (λ m. m * length c.args.words.now) c.width.ensures, c.requires.buffer)

pub returns-clause-before : goal.returns-clause-before
returns-clause-before g c = c.write_at.ensures.before

pub returns-clause-others : goal.returns-clause-others
returns-clause-others g c = c.write_at.ensures.others

pub returns-clause-fault_reported : goal.returns-clause-fault_reported
returns-clause-fault_reported g c = c.write_at.ensures.fault_reported

pub slice_bounds-piece-end-2 : goal.slice_bounds-piece-end-2
slice_bounds-piece-end-2 g c = sym (length-take-le (c.width.result * length c.args.words.now) c.args.bytes.now (omega (arith, ap (λ m. m * length c.args.words.now) c.width.ensures, c.requires.buffer)))

pub encode-requires : goal.encode-requires
encode-requires g c = length-take-le (c.width.result * length c.args.words.now) c.args.bytes.now (omega (arith, ap (λ m. m * length c.args.words.now) c.width.ensures, c.requires.buffer)) ∙ ap (λ m. m * length c.args.words.now) c.width.ensures
