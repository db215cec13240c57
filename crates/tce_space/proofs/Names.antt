-- The bytes of names, which are ASCII.
use Rattle.std.proofs.Common.{◌≡◌, ℕ, ◌<◌, true, ◌&&◌, leb-true, inl, inr, arith, nat_le, ◌==◌, ◌||◌, eqb-true, List, refl}
use Rattle.std.proofs.lemmas.Bool.{and_parts, or_cases}
use Rattle.std.specs.Prelude.{bytes_eq}
use Rattle.std.proofs.lemmas.Slice.Eq.{bytes_eq-Decides}
use Rattle.tce_space.specs.Name.{is_letter, is_word_byte, is_digit}

pub letter_below : (b : ℕ) → is_letter b ≡ true → b < 128
letter_below b is = elim (or_cases (nat_le 65 b && nat_le b 90) (nat_le 97 b && nat_le b 122) is) [
  | inl upper ↦ omega (arith, leb-true b 90 (and_parts (nat_le 65 b) (nat_le b 90) upper).1)
  | inr lower ↦ omega (arith, leb-true b 122 (and_parts (nat_le 97 b) (nat_le b 122) lower).1)
]

pub word_byte_below : (b : ℕ) → is_word_byte b ≡ true → b < 128
word_byte_below b is = elim (or_cases (is_letter b || is_digit b) (b == 95) is) [
  | inr line ↦ omega (arith, eqb-true b 95 line)
  | inl more ↦ elim (or_cases (is_letter b) (is_digit b) more) [
    | inl letter ↦ letter_below b letter
    | inr digit ↦ omega (arith, leb-true b 57 (and_parts (nat_le 48 b) (nat_le b 57) digit).1)
  ]
]

pub same_bytes : (xs ys : List ℕ) → bytes_eq xs ys ≡ true → xs ≡ ys
same_bytes xs ys h = (bytes_eq-Decides xs ys).0 h

pub bytes_same : (xs : List ℕ) → bytes_eq xs xs ≡ true
bytes_same xs = (bytes_eq-Decides xs xs).1 refl
