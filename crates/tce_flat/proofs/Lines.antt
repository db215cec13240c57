-- What a refusal says to users.
use Rattle.std.proofs.Common.{◌≡◌, sym, ap, ◌∙◌, ℕ, List}
use Rattle.tce_command.specs.Report.{code_of, status_of, error_text}
use Rattle.tce_command.specs.Refusals.{SameRefusal}
use Rattle.tce_command.specs.declared.refusal.Refusal.{Refusal}

-- its exit status, and its line
pub record Says (code : ℕ) (line : List ℕ) (refusal : Refusal) : Type 0 where
  pub code_is : code_of (status_of refusal) ≡ code
  pub line_is : error_text (status_of refusal) ≡ line

pub say_alike : (code : ℕ) (line : List ℕ) (a b : Refusal) → Says code line a → Says code line b → SameRefusal a b
say_alike code line a b x y = (x.code_is ∙ sym y.code_is, x.line_is ∙ sym y.line_is)

-- two lines for two numbers that are the same
pub say_same : {A : Type 0} (code : ℕ) (line : A → List ℕ) (m n : A) (a b : Refusal) → m ≡ n → Says code (line m) a → Says code (line n) b → SameRefusal a b
say_same code line m n a b e x y = (x.code_is ∙ sym y.code_is, x.line_is ∙ ap line e ∙ sym y.line_is)
