use Rattle.std.proofs.Common.{◌≡◌, ◌*◌, ap, arith}
use Rattle.tce_array.specs.Forms.{width}
use Rattle.tce_cache.proofs.Transfers.{place_small}
use Rattle.tce_cache.proofs.transfer.place_of.Goals as goal

pub overflow_mul-result : goal.overflow_mul-result
overflow_mul-result c =
    let small = place_small c.args.array.now.form c.args.array.now.shape c.args.word c.requires.limits c.requires.inside in
    let same : c.width.result * c.args.word ≡ width c.args.array.now.form * c.args.word = ap (λ n. n * c.args.word) c.width.ensures in
    omega (arith, small, same)

pub overflow_add-result : goal.overflow_add-result
overflow_add-result c =
    let small = place_small c.args.array.now.form c.args.array.now.shape c.args.word c.requires.limits c.requires.inside in
    let same : c.width.result * c.args.word ≡ width c.args.array.now.form * c.args.word = ap (λ n. n * c.args.word) c.width.ensures in
    omega (arith, small, same, c.head_len.ensures)

pub returns-clause-small : goal.returns-clause-small
returns-clause-small c =
    let small = place_small c.args.array.now.form c.args.array.now.shape c.args.word c.requires.limits c.requires.inside in
    let same : c.width.result * c.args.word ≡ width c.args.array.now.form * c.args.word = ap (λ n. n * c.args.word) c.width.ensures in
    omega (arith, small, same, c.head_len.ensures)
