use Rattle.std.proofs.Common.{◌⊎◌, ℕ, ◌+◌, ◌^◌, ◌<◌, ◌≤◌, inl, inr, arith}
use Rattle.tce_array.proofs.Fitting.{words_fit}
use Rattle.tce_tools.proofs.conversion.fits_narrow.Goals as goal

either : (w : ℕ) → w < 2147483648 → (w < 2 ^ 31) ⊎ (2 ^ 64 ≤ w + 2 ^ 31)
either w h = inl (omega arith)

pub returns-then-word-clause-yes : goal.returns-then-word-clause-yes
returns-then-word-clause-yes c = λ passed. (words_fit.four c.args.word (omega arith)).1 (either c.args.word c.if-word.true)

pub returns-else-word-clause-yes : goal.returns-else-word-clause-yes
returns-else-word-clause-yes c = λ passed. (words_fit.four c.args.word (omega arith)).1 (inr (grind (arith, passed)))

pub returns-else-word-clause-no : goal.returns-else-word-clause-no
returns-else-word-clause-no c = λ failed fits. elim ((words_fit.four c.args.word (omega arith)).0 fits) [ inl low ↦ omega (arith, c.if-word.false) | inr high ↦ grind (arith, failed, high) ]
