use Rattle.std.proofs.Common.{◌≡◌, ◌+◌, ◌-◌, ◌*◌, ◌<◌, ◌≤◌, length, refl, subst, sym, arith}
use Rattle.tce_words.specs.Rows.{AreRowsAdded}
use Rattle.tce_words.proofs.RowSteps.{no_words_added, parts_added}
use Rattle.tce_words.proofs.RunSteps.{part_within}
use Rattle.tce_words.proofs.rows.mul_add_rows.Goals.{then-n-eq0-via-then-n-eq0, then-n-eq0-via-else-n-eq0+then-count-eq0}
use Rattle.tce_words.proofs.rows.mul_add_rows.Goals as goal

pub returns-then-n-eq0 : goal.returns-then-n-eq0
returns-then-n-eq0 c =
    let old = c.args.words.now in
    elim c.then-n-eq0.branch [
      | then-n-eq0-via-then-n-eq0 w ↦
          let none : c.args.n ≡ 0 = omega (arith, w.if-n-eq0) in
          subst (λ n. AreRowsAdded c.args.out c.args.factors.first c.args.factors.step c.args.rows.first c.args.rows.step n c.args.count old old) (sym none)
          (no_words_added c.args.out c.args.factors.first c.args.factors.step c.args.rows.first c.args.rows.step c.args.count old)
      | then-n-eq0-via-else-n-eq0+then-count-eq0 w ↦
          let none : c.args.count ≡ 0 = omega (arith, w.if-count-eq0) in
          subst (λ count. AreRowsAdded c.args.out c.args.factors.first c.args.factors.step c.args.rows.first c.args.rows.step c.args.n count old old) (sym none) refl
    ]

pub is_beside-requires-clause-out : goal.is_beside-requires-clause-out
is_beside-requires-clause-out c =
    let room : c.args.out + c.args.n ≤ length c.args.words.now = part_within (length c.args.words.now) c.args.out 1 c.args.n refl (omega arith) c.requires.out in
    omega (arith, room, c.requires.limit)

pub overflow_add-last-then-is_beside : goal.overflow_add-last-then-is_beside
overflow_add-last-then-is_beside c =
    let last : c.args.count - 1 < c.args.count = omega arith in
    let room : c.args.rows.first + (c.args.count - 1) * c.args.rows.step + c.args.n ≤ length c.args.words.now =
    part_within (length c.args.words.now) (c.args.rows.first + (c.args.count - 1) * c.args.rows.step) 1 c.args.n refl (omega arith) (c.requires.rows (c.args.count - 1) last) in
    omega (arith, room, c.requires.limit)

pub returns-then-is_beside-2 : goal.returns-then-is_beside-2
returns-then-is_beside-2 c =
    parts_added c.args.out c.args.factors.first c.args.factors.step c.args.rows.first c.args.rows.step c.args.n c.args.count c.args.words.now c.mul_add_beside.new.words (omega arith) (omega arith)
    c.requires.out c.requires.factors c.requires.rows c.requires.apart_from_factors c.requires.apart_from_rows c.mul_add_beside.ensures
