-- What the text of a token is made of.
use Rattle.std.proofs.Common.{◌≡◌, ◌≢◌, ℕ, ◌≤◌, ◌==◌, List, [], ◌∷◌, Bool, true, false, ◌&&◌, ◌||◌, not, IsTrue, Some, refl, sym, subst, arith, nat_le, inl, inr}
use Rattle.std.specs.Prelude.{codes}
use Rattle.std.specs.List.{list_all, list_any, AllByRecursion}
use Rattle.std.proofs.lemmas.Bool.{eqb-true, or_cases, and_parts}
use Rattle.tce_space.specs.Name.{is_word_byte, is_letter, is_digit}
use Rattle.tce_grammar.specs.Tokens.{Token, word, number, symbol, is_blank, is_symbol, token_of, IsToken}
use Rattle.tce_grammar.proofs.Letters.{between, least}

-- a byte with no meaning to lines
abbrev pub is_plain : ℕ → Bool
is_plain b = not (b == 10) && not (b == 13) && not (b == 35)

-- a symbol is no part of a word and no blank, and is read as itself
pub record IsMark (b : ℕ) : Type 0 where
  pub no_word : is_word_byte b ≡ false
  pub no_blank : is_blank b ≡ false
  pub read : token_of (b ∷ []) ≡ Some (symbol b)
  pub plain : is_plain b ≡ true

of_any : (P : ℕ → Type 0) (b : ℕ) (cs : List ℕ) → list_any (λ c. b == c) cs ≡ true → AllByRecursion P cs → P b
of_any P b [] is all = cc
of_any P b (c ∷ cs) is all = elim (or_cases (b == c) (list_any (λ c. b == c) cs) is) [
  | inl same ↦ subst_at b c (eqb-true b c same) all.0
  | inr more ↦ of_any P b cs more all.1
]
  where
    subst_at : (b c : ℕ) → b ≡ c → P c → P b
    subst_at b c e p = subst (λ (n : ℕ). P n) (sym e) p

marks : AllByRecursion IsMark (codes "[]{}(),=*+-")
marks = (
  record { no_word = refl; no_blank = refl; read = refl; plain = refl },
  (
    record { no_word = refl; no_blank = refl; read = refl; plain = refl },
    (
      record { no_word = refl; no_blank = refl; read = refl; plain = refl },
      (
        record { no_word = refl; no_blank = refl; read = refl; plain = refl },
        (
          record { no_word = refl; no_blank = refl; read = refl; plain = refl },
          (
            record { no_word = refl; no_blank = refl; read = refl; plain = refl },
            (
              record { no_word = refl; no_blank = refl; read = refl; plain = refl },
              (
                record { no_word = refl; no_blank = refl; read = refl; plain = refl },
                (
                  record { no_word = refl; no_blank = refl; read = refl; plain = refl },
                  (
                    record { no_word = refl; no_blank = refl; read = refl; plain = refl },
                    (record { no_word = refl; no_blank = refl; read = refl; plain = refl }, tt),
                  ),
                ),
              ),
            ),
          ),
        ),
      ),
    ),
  ),
)

pub mark : (b : ℕ) → IsTrue (is_symbol b) → IsMark b
mark b is = of_any IsMark b (codes "[]{}(),=*+-") is marks

-- words and numbers are texts of word bytes that are read as themselves
pub record IsRun (text : List ℕ) (t : Token) : Type 0 where
  pub some : text ≢ []
  pub letters : list_all is_word_byte text ≡ true
  pub read : token_of text ≡ Some t

pub word_run : (w : List ℕ) → IsToken (word w) → IsRun w (word w)
word_run [] is = absurd (let no_letter : false ≡ true = is.0 in cc)
word_run (b ∷ bs) is = record { some = λ e. cc; letters = is.1; read = rw is.0 refl }

digit_no_letter : (b : ℕ) → is_digit b ≡ true → is_letter b ≡ false
digit_no_letter b is = by_letter (is_letter b) refl
  where
    by_letter : (d : Bool) → is_letter b ≡ d → d ≡ false
    by_letter false e = refl
    by_letter true e = absurd (elim (or_cases (nat_le 65 b && nat_le b 90) (nat_le 97 b && nat_le b 122) e) [
      | inl upper ↦ omega (arith, least 65 90 b upper, between 48 57 b is)
      | inr lower ↦ omega (arith, least 97 122 b lower, between 48 57 b is)
    ])

pub digit_word : (b : ℕ) → is_digit b ≡ true → is_word_byte b ≡ true
digit_word b is = rw (digit_no_letter b is, is) refl

pub digits_word : (ds : List ℕ) → list_all is_digit ds ≡ true → list_all is_word_byte ds ≡ true
digits_word [] all = refl
digits_word (d ∷ ds) all =
    let both : (is_digit d ≡ true) × (list_all is_digit ds ≡ true) = and_parts (is_digit d) (list_all is_digit ds) all in
    rw (digit_word d both.0) (digits_word ds both.1)

pub number_run : (digits : List ℕ) → IsToken (number digits) → IsRun digits (number digits)
number_run [] is = absurd (is.0 refl)
number_run (d ∷ ds) is =
    let both : (is_digit d ≡ true) × (list_all is_digit ds ≡ true) = and_parts (is_digit d) (list_all is_digit ds) is.1 in
    record { some = λ e. cc; letters = digits_word (d ∷ ds) is.1; read = rw (digit_no_letter d both.0, both.0, both.1) refl }

plain_above : (b : ℕ) → 48 ≤ b → is_plain b ≡ true
plain_above b high =
    let feed : (b == 10) ≡ false = grind (arith, high) in
    let return : (b == 13) ≡ false = grind (arith, high) in
    let comment : (b == 35) ≡ false = grind (arith, high) in
    rw (feed, return, comment) refl

word_byte_plain : (b : ℕ) → is_word_byte b ≡ true → is_plain b ≡ true
word_byte_plain b is = elim (or_cases (is_letter b || is_digit b) (b == 95) is) [
  | inr line ↦ plain_above b (omega (arith, eqb-true b 95 line))
  | inl more ↦ elim (or_cases (is_letter b) (is_digit b) more) [
    | inr digit ↦ plain_above b (least 48 57 b digit)
    | inl letter ↦ elim (or_cases (nat_le 65 b && nat_le b 90) (nat_le 97 b && nat_le b 122) letter) [
      | inl upper ↦ plain_above b (omega (arith, least 65 90 b upper))
      | inr lower ↦ plain_above b (omega (arith, least 97 122 b lower))
    ]
  ]
]

pub word_plain : (w : List ℕ) → list_all is_word_byte w ≡ true → list_all is_plain w ≡ true
word_plain [] all = refl
word_plain (b ∷ bs) all =
    let both : (is_word_byte b ≡ true) × (list_all is_word_byte bs ≡ true) = and_parts (is_word_byte b) (list_all is_word_byte bs) all in
    rw (word_byte_plain b both.0) (word_plain bs both.1)
