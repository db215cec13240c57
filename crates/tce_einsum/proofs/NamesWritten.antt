-- The names of a produced text are names.
use Rattle.std.proofs.Common.{◌≡◌, ℕ, ◌<◌, ◌≤◌, ◌^◌, ◌==◌, ◌&&◌, ◌||◌, not, Bool, true, false, IsTrue, List, [], ◌∷◌, length, nat_le, refl, arith, lit<}
use Rattle.std.specs.List.{list_all}
use Rattle.std.specs.Fmt.{decimal}
use Rattle.std.proofs.lemmas.Fmt.{length-decimal-le}
use Rattle.std.proofs.lemmas.Bool.{and_parts, and_from, le-leb}
use Rattle.tce_space.specs.Name.{is_name, is_word_byte, is_letter, is_keyword}
use Rattle.tce_grammar.specs.Grammar.{AreNames}
use Rattle.tce_grammar.proofs.TokenTexts.{digits_word}
use Rattle.tce_spec.proofs.PrintedNumbers.{decimal_says}
use Rattle.tce_einsum.specs.Text.{is_label, are_labels}
use Rattle.tce_einsum.specs.Produced.{range_name, operand_name, result_name, letter_names}

letter_word : (c : ℕ) → is_letter c ≡ true → is_word_byte c ≡ true
letter_word c is = rw is refl

-- a letter and word bytes behind it
name_from : (c : ℕ) (ds : List ℕ) → is_letter c ≡ true → length ds ≤ 15 → list_all is_word_byte ds ≡ true → is_keyword (c ∷ ds) ≡ false → IsTrue (is_name (c ∷ ds))
unfolding is_name
name_from c ds letter short words free =
    let w : List ℕ = c ∷ ds in
    let room : nat_le (length w) 16 ≡ true = le-leb (length w) 16 (omega (arith, short)) in
    let all : list_all is_word_byte w ≡ true = and_from (is_word_byte c) (list_all is_word_byte ds) (letter_word c letter) words in
    let other : not (is_keyword w) ≡ true = rw free refl in
    and_from _ _ (and_from _ _ (and_from _ _ letter room) all) other

digits_short : (k : ℕ) → k < 2 ^ 32 → length (decimal k) ≤ 15
digits_short k small = omega (arith, length-decimal-le 10 k (lit< tt) (omega (arith, small)) (omega (arith, small)))

digits_are : (k : ℕ) → k < 2 ^ 32 → list_all is_word_byte (decimal k) ≡ true
digits_are k small = digits_word (decimal k) (decimal_says k (omega (arith, small))).digits

pub range_named : (r : ℕ) → r < 2 ^ 32 → IsTrue (is_name (range_name r))
range_named r small = name_from 78 (decimal r) refl (digits_short r small) (digits_are r small) refl

pub operand_named : (k : ℕ) → k < 2 ^ 32 → IsTrue (is_name (operand_name k))
operand_named k small = name_from 88 (decimal k) refl (digits_short k small) (digits_are k small) refl

pub result_named : IsTrue (is_name result_name)
result_named = name_from 89 [] refl (omega arith) refl refl

-- no letter alone has a meaning of its own
letter_free : (l : ℕ) → is_keyword (l ∷ []) ≡ false
letter_free l = rw (never (l == 114), never (l == 116), never (l == 105), never (l == 115)) refl
  where
    never : (b : Bool) → (b && false) ≡ false
    never true = refl
    never false = refl

label_letter : (l : ℕ) → is_label l ≡ true → is_letter l ≡ true
label_letter l is = by_test (nat_le 65 l && nat_le l 90)
  where
    by_test : (c : Bool) → (c || (nat_le 97 l && nat_le l 122)) ≡ true
    by_test true = refl
    by_test false = is

pub letter_named : (l : ℕ) → is_label l ≡ true → IsTrue (is_name (l ∷ []))
letter_named l is = name_from l [] (label_letter l is) (omega arith) refl (letter_free l)

pub letters_named : (ls : List ℕ) → are_labels ls ≡ true → AreNames (letter_names ls)
letters_named [] all = tt
letters_named (l ∷ ls) all =
    let parts = and_parts (is_label l) (are_labels ls) all in
    (letter_named l parts.0, letters_named ls parts.1)
