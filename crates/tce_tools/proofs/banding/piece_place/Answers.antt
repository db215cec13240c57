use Rattle.std.proofs.Common.{◌≡◌, ◌+◌, ◌*◌, ◌^◌, ◌<◌, ◌≤◌, ℕ, ap, arith}
use Rattle.tce_space.specs.Tiling.{Tiling, IsTiling}
use Rattle.tce_array.specs.declared.form.Form.{Form}
use Rattle.tce_array.specs.declared.form.Form.TheVariants.{One, Narrow, Wide}
use Rattle.tce_array.specs.Forms.{width, head_len}
use Rattle.tce_tools.proofs.banding.piece_place.Goals as goal

-- the bytes before a word
bytes_fit : (form : Form) (s : Tiling) (n w : ℕ) → IsTiling s → n ≤ 2 ^ 48 → w ≡ width form → head_len form s + w * n < 2 ^ 64
bytes_fit One s n w t le is = omega (arith, t.same_rank, t.rank, ap (λ (k : ℕ). k * n) is)
bytes_fit Narrow s n w t le is = omega (arith, t.same_rank, t.rank, ap (λ (k : ℕ). k * n) is)
bytes_fit Wide s n w t le is = omega (arith, t.same_rank, t.rank, ap (λ (k : ℕ). k * n) is)

pub overflow_mul-result : goal.overflow_mul-result
overflow_mul-result c = omega (arith, c.requires.band.room c.args.piece c.requires.among)

pub overflow_add-result : goal.overflow_add-result
overflow_add-result c = omega (arith, c.requires.band.room c.args.piece c.requires.among)

pub overflow_mul-result-2 : goal.overflow_mul-result-2
overflow_mul-result-2 c =
    omega (arith, bytes_fit c.args.form c.args.shape.now (c.args.band.word + c.args.piece * c.args.band.stride) c.width.result c.requires.band.tiling (omega (arith, c.requires.band.room c.args.piece c.requires.among)) c.width.ensures)

pub overflow_add-result-2 : goal.overflow_add-result-2
overflow_add-result-2 c =
    omega (arith, c.head_len.ensures, bytes_fit c.args.form c.args.shape.now (c.args.band.word + c.args.piece * c.args.band.stride) c.width.result c.requires.band.tiling (omega (arith, c.requires.band.room c.args.piece c.requires.among)) c.width.ensures)
