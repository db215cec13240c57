-- One call after another: what their faults tell, what is left of the touches, and what the last one answers.
use Rattle.std.proofs.Common.{ℕ, ◌+◌, ◌<◌, ◌≤◌, Result, Ok, Err, ap, arith}
use Rattle.std.specs.Prelude.{OnOk, IfOk, IsErr, IsErrAnd, is_err}
use Rattle.std.proofs.lemmas.Result.{err_from_is_err_and, IfOk-from_err}
use Rattle.tce_outside.specs.Fault.{TellsFaults}

pub on_both : {T E P Q R : Type 0} (r : Result T E) → OnOk r P → OnOk r Q → (P → Q → R) → OnOk r R
on_both (Ok x) p q both = both p q
on_both (Err e) p q both = tt

-- ---- a call that fails

pub none_given : {T E : Type 0} (P : T → Type 0) (Q : E → Type 0) (r : Result T E) → IsErrAnd r Q → IfOk r P
none_given P Q r is = IfOk-from_err r P (ap is_err (err_from_is_err_and r is).1)

pub told_of : {T E : Type 0} (Q : E → Type 0) (a b : ℕ) (r : Result T E) → IsErrAnd r Q → TellsFaults a b (IsErr r)
told_of Q a b r is = λ fine. absurd (fine (ap is_err (err_from_is_err_and r is).1))

-- ---- touches

pub fewer : (touches n more limit : ℕ) → touches + (n + more) ≤ limit → touches + n ≤ limit
fewer touches n more limit few = omega (arith, few)

pub one_more : (touches limit : ℕ) → touches + 1 ≤ limit → touches < limit
one_more touches limit few = omega (arith, few)

pub few_left : (before touches spent left limit : ℕ) → touches ≤ before + spent → before + (spent + left) ≤ limit → touches + left ≤ limit
few_left before touches spent left limit at_most few = omega (arith, at_most, few)

pub as_many : (n : ℕ) → n ≤ n
as_many n = omega arith
