use Rattle.std.proofs.Common.{◌≡◌, ◌∙◌, ◌++◌, ap, List, ℕ, Vec, Global, codes, append_assoc}
use Rattle.tce_tools.specs.Demo.{range_line, demo_formula}
use Rattle.tce_tools.proofs.demo.demo_spec.Goals as goal

joined : (items all both first second l m f : List ℕ) → items ≡ all → all ≡ both ++ f → both ≡ first ++ second → first ≡ l → second ≡ m → items ≡ l ++ (m ++ f)
joined items all both first second l m f a b c d e = a ∙ b ∙ ap (λ x. x ++ f) (c ∙ ap (λ x. x ++ second) d ∙ ap (λ x. l ++ x) e) ∙ append_assoc l m f

pub returns : goal.returns
returns c =
    joined c.into_bytes.result.items _ _ _ c.as_str.result.now (range_line (codes "V") c.args.v) (range_line (codes "O") c.args.o) demo_formula
    (ap (λ (v : Vec ℕ Global). v.items) c.into_bytes.ensures.value) c.in_ok-push_str-2.ensures.bytes c.in_ok-push_str.ensures.bytes c.in_ok-text.ensures (c.as_str.ensures.value ∙ c.in_ok-other.ensures)
