use Rattle.std.proofs.Common.{◌≡◌, refl, false, Result, Ok, Err, OnOk, sym, ◌∙◌, subst}
use Rattle.std.specs.Result.{is_err}
use Rattle.std.proofs.lemmas.Bool.{false≢true}
use Rattle.tce_space.specs.IndexSet.{with_index}
use Rattle.tce_check.proofs.Settling.{one_fewer, within_minus}
use Rattle.tce_check.proofs.branch.Branch.after.Goals as goal

where_ok : {T E P : Type 0} (r : Result T E) → is_err r ≡ false → OnOk r P → P
where_ok (Ok x) is p = p
where_ok (Err e) is p = absurd (false≢true (sym is))

pub returns : goal.returns
returns c =
    let first = where_ok c.try_extend_from_slice.result (sym c.is_err.ensures.value ∙ c.if-is_err.false) c.try_extend_from_slice.ensures.ok in
    let second = where_ok c.try_push.result (sym c.is_err-2.ensures.value ∙ c.if-is_err-2.false) c.try_push.ensures.ok in
    record {
      turns = rw (second, first, c.as_slice.ensures.value, c.new-turns.ensures) refl;
      within = within_minus c.args.self.now.rest c.with.result c.minus.result c.minus.ensures.members;
      fewer = one_fewer c.args.self.now.rest c.args.index c.with.result c.minus.result c.requires.index c.requires.inside
          (subst (λ s. c.with.result ≡ with_index s c.args.index) c.empty.ensures.value c.with.ensures.value) c.minus.ensures.members;
    }
