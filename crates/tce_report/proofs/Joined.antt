-- Texts that are pushed one behind the other.
use Rattle.std.proofs.Common.{◌≡◌, ℕ, List, [], ◌++◌, ap, ◌∙◌, append_assoc}

pub three_pushed : (old t1 t2 t3 a b c : List ℕ) → t1 ≡ old ++ a → t2 ≡ t1 ++ b → t3 ≡ t2 ++ c → t3 ≡ old ++ (a ++ (b ++ c))
three_pushed old t1 t2 t3 a b c e1 e2 e3 =
    e3
    ∙ ap (λ t. t ++ c) e2
    ∙ append_assoc t1 b c
    ∙ ap (λ t. t ++ (b ++ c)) e1
    ∙ append_assoc old a (b ++ c)

pub six_pushed : (t0 t1 t2 t3 t4 t5 t6 a b c d e f : List ℕ) → t0 ≡ [] → t1 ≡ t0 ++ a → t2 ≡ t1 ++ b → t3 ≡ t2 ++ c → t4 ≡ t3 ++ d → t5 ≡ t4 ++ e → t6 ≡ t5 ++ f
    → t6 ≡ a ++ (b ++ (c ++ (d ++ (e ++ f))))
six_pushed t0 t1 t2 t3 t4 t5 t6 a b c d e f e0 e1 e2 e3 e4 e5 e6 =
    three_pushed t3 t4 t5 t6 d e f e4 e5 e6
    ∙ ap (λ t. t ++ (d ++ (e ++ f))) (three_pushed t0 t1 t2 t3 a b c e1 e2 e3)
    ∙ append_assoc t0 (a ++ (b ++ c)) (d ++ (e ++ f))
    ∙ ap (λ t. t ++ ((a ++ (b ++ c)) ++ (d ++ (e ++ f)))) e0
    ∙ append_assoc a (b ++ c) (d ++ (e ++ f))
    ∙ ap (λ t. a ++ t) (append_assoc b c (d ++ (e ++ f)))

pub four_pushed : (old t1 t2 t3 t4 a b c d : List ℕ) → t1 ≡ old ++ a → t2 ≡ t1 ++ b → t3 ≡ t2 ++ c → t4 ≡ t3 ++ d → t4 ≡ old ++ (a ++ (b ++ (c ++ d)))
four_pushed old t1 t2 t3 t4 a b c d e1 e2 e3 e4 =
    three_pushed t1 t2 t3 t4 b c d e2 e3 e4 ∙ ap (λ t. t ++ (b ++ (c ++ d))) e1 ∙ append_assoc old a (b ++ (c ++ d))

pub report_pushed : (t0 t1 t2 end t3 a b c : List ℕ) → t0 ≡ [] → t1 ≡ t0 ++ a → t2 ≡ t1 ++ b → end ≡ c → t3 ≡ t2 ++ end → t3 ≡ a ++ (b ++ c)
report_pushed t0 t1 t2 end t3 a b c e0 e1 e2 is e3 =
    three_pushed t0 t1 t2 t3 a b c e1 e2 (e3 ∙ ap (λ t. t2 ++ t) is) ∙ ap (λ t. t ++ (a ++ (b ++ c))) e0
