-- A formula that is written is read again.
use Rattle.std.proofs.Common.{◌≡◌, ℕ, zero, suc, ◌+◌, ◌-◌, ◌<◌, ◌≤◌, ◌==◌, IsTrue, List, [], ◌∷◌, ◌++◌, length, Option, Some, refl, ◌∙◌, ap, append_assoc, arith, nat_lt, Bool, true, false, ◌&&◌, nat_le, not, ◌||◌, if◌then◌else◌, length-append, inl, inr}
use Rattle.std.proofs.lemmas.Bool.{leb-true, lt-ltb, le-ltb, cases_lt, cond_both, and_parts}
use Rattle.std.specs.Prelude.{codes}
use Rattle.std.specs.List.{list_all}
use Rattle.std.specs.Str.{bytes_eq}
use Rattle.tce_space.specs.Name.{is_name, is_keyword, starts_with_letter, is_word_byte}
use Rattle.tce_grammar.specs.Tokens.{Token, word, symbol}
use Rattle.tce_grammar.specs.Formula.{Formula, Arithmetic, multiply, add, subtract, binary}
use Rattle.tce_grammar.specs.Grammar.{Written, reference, numeral, summed, joined, group, listed, sign, spelling, meaning, precedence, level, IsWritten, depth, AreNames}
use Rattle.tce_grammar.specs.Reading.{Stops}
use Rattle.tce_grammar.specs.Reading.{Reads, ◌>>=◌, names_at, brackets_at, times_of, plus_of, chain, chain_at, factor_at, formula_by, enclosed_within, factor_within, formula_within}

-- how many operators of this precedence are at the left of what is written
abbrev pub spine : ℕ → Written → ℕ
spine p (reference name indexes) = 0
spine p (numeral digits) = 0
spine p (summed indexes operand) = 0
spine p (joined o left right) = if nat_lt p (precedence o) then 0 else suc (spine p left)
spine p (group inner) = 0

pub chain_stops : (operator : Token → Option Arithmetic) (operand : List Token → Reads Formula) (fuel : ℕ) (f : Formula) (ts : List Token)
    → Stops operator ts → chain operator operand fuel f ts ≡ Some (f, ts)
chain_stops operator operand zero f ts s = refl
chain_stops operator operand (suc fuel) f [] s = refl
chain_stops operator operand (suc fuel) f (t ∷ ts) s = rw s refl

pub chain_goes : (operator : Token → Option Arithmetic) (operand : List Token → Reads Formula) (fuel : ℕ) (f g : Formula) (o : Arithmetic) (t : Token) (ts rest : List Token)
    → operator t ≡ Some o → operand ts ≡ Some (g, rest) → chain operator operand (suc fuel) f (t ∷ ts) ≡ chain operator operand fuel (binary o f g) rest
chain_goes operator operand fuel f g o t ts rest is reads = rw is (rw reads refl)

spine_above : (p : ℕ) (o : Arithmetic) (left right : Written) → p < precedence o → spine p (joined o left right) ≡ 0
spine_above p o left right h = rw (lt-ltb p (precedence o) h) refl

spine_same : (p : ℕ) (o : Arithmetic) (left right : Written) → precedence o ≡ p → spine p (joined o left right) ≡ suc (spine p left)
spine_same p o left right h = rw (le-ltb p (precedence o) (omega arith)) refl

spine_short : (p : ℕ) (w : Written) → spine p w ≤ length (spelling w)
spine_short p (reference name indexes) = omega arith
spine_short p (numeral digits) = omega arith
spine_short p (summed indexes inner) = omega arith
spine_short p (group inner) = omega arith
spine_short p (joined o left right) =
    elim (cases_lt p (precedence o)) [
      | inl above ↦ omega (arith, spine_above p o left right above)
      | inr within ↦ cond_both (nat_lt p (precedence o)) 0 (suc (spine p left)) (λ n. n ≤ length (spelling left ++ (sign o ∷ spelling right)))
          (λ _. omega arith) (λ _. omega (arith, spine_short p left, length-append (spelling left) (sign o ∷ spelling right)))
    ]

module _ (operator : Token → Option Arithmetic) (operand : List Token → Reads Formula) (p n : ℕ) (OperandStops : List Token → Type 0)
    (low : p < 3)
    (reads : (w : Written) → IsWritten w → p < level w → depth w ≤ n → (rest : List Token) → OperandStops rest → operand (spelling w ++ rest) ≡ Some (meaning w, rest))
    (signs : (o : Arithmetic) → precedence o ≡ p → operator (sign o) ≡ Some o)
    (stops : (o : Arithmetic) → precedence o ≡ p → (ts : List Token) → OperandStops (sign o ∷ ts)) where
  -- what a chain reads with this fuel
  abbrev pub with_fuel : ℕ → List Token → Reads Formula
  with_fuel fuel ts = operand ts >>= λ r. chain operator operand fuel r.0 r.1

  single : (w : Written) (m k : ℕ) (rest : List Token) → k ≡ 0 → IsWritten w → p < level w → depth w ≤ n → OperandStops rest
      → with_fuel (m + k) (spelling w ++ rest) ≡ chain operator operand m (meaning w) rest
  single w m k rest none is tight shallow s =
      let fuel : m + k ≡ m = omega arith in
      rw (fuel, reads w is tight shallow rest s) refl

  spined : (w : Written) (m : ℕ) (rest : List Token) → IsWritten w → p ≤ level w → depth w ≤ n → OperandStops rest
      → with_fuel (m + spine p w) (spelling w ++ rest) ≡ chain operator operand m (meaning w) rest
  spined (reference name indexes) m rest is tight shallow s = single (reference name indexes) m 0 rest refl is low shallow s
  spined (numeral digits) m rest is tight shallow s = single (numeral digits) m 0 rest refl is low shallow s
  spined (summed indexes inner) m rest is tight shallow s = single (summed indexes inner) m 0 rest refl is low shallow s
  spined (group inner) m rest is tight shallow s = single (group inner) m 0 rest refl is low shallow s
  spined (joined o left right) m rest is tight shallow s =
      elim (cases_lt p (precedence o)) [
        | inl above ↦ single (joined o left right) m (spine p (joined o left right)) rest (spine_above p o left right above) is above shallow s
        | inr within ↦
            let same : precedence o ≡ p = omega arith in
            let fuel : m + spine p (joined o left right) ≡ suc m + spine p left = omega (arith, spine_same p o left right same) in
            let regrouped : (spelling left ++ (sign o ∷ spelling right)) ++ rest ≡ spelling left ++ (sign o ∷ (spelling right ++ rest)) =
            append_assoc (spelling left) (sign o ∷ spelling right) rest in
            (λ i. with_fuel (fuel i) (regrouped i))
            ∙ spined left (suc m) (sign o ∷ (spelling right ++ rest)) is.2 (omega (arith, is.0)) (omega arith) (stops o same (spelling right ++ rest))
            ∙ chain_goes operator operand m (meaning left) (meaning right) o (sign o) (spelling right ++ rest) rest (signs o same)
            (reads right is.3 (omega (arith, is.1)) (omega arith) rest s)
      ]

  pub chain_reads : (w : Written) (rest : List Token) → IsWritten w → p ≤ level w → depth w ≤ n → OperandStops rest → Stops operator rest
      → chain_at operator operand (spelling w ++ rest) ≡ Some (meaning w, rest)
  unfolding chain_at
  chain_reads w rest is tight shallow s stop =
      let fuel : length (spelling w ++ rest) ≡ (length (spelling w ++ rest) - spine p w) + spine p w =
      omega (arith, spine_short p w, length-append (spelling w) rest) in
      (λ i. with_fuel (fuel i) (spelling w ++ rest))
      ∙ spined w (length (spelling w ++ rest) - spine p w) rest is tight shallow s
      ∙ chain_stops operator operand (length (spelling w ++ rest) - spine p w) (meaning w) rest stop

-- names

names_read : (close : ℕ) (n : List ℕ) (ns : List (List ℕ)) (rest : List Token) → (close == 44) ≡ false → (close == close) ≡ true → AreNames (n ∷ ns)
    → names_at close (listed (n ∷ ns) ++ (symbol close ∷ rest)) ≡ Some (n ∷ ns, rest)
names_read close n [] rest other self are = rw (are.0, other, self) refl
names_read close n (m ∷ ns) rest other self are = rw (are.0, names_read close m ns rest other self are.1) refl

-- `]` is no name, so that brackets are empty or begin with a name
pub brackets_read : (names : List (List ℕ)) (rest : List Token) → AreNames names → brackets_at (symbol 91 ∷ (listed names ++ (symbol 93 ∷ rest))) ≡ Some (names, rest)
brackets_read [] rest are = refl
brackets_read (n ∷ []) rest are = names_read 93 n [] rest refl refl are
brackets_read (n ∷ m ∷ ns) rest are = names_read 93 n (m ∷ ns) rest refl refl are

-- factors

none_of_five : (a b c d e : Bool) → not (a || (b || (c || (d || (e || false))))) ≡ true → (a ≡ false) × (b ≡ false) × (c ≡ false) × (d ≡ false) × (e ≡ false)
none_of_five true b c d e h = cc
none_of_five false true c d e h = cc
none_of_five false false true d e h = cc
none_of_five false false false true e h = cc
none_of_five false false false false true h = cc
none_of_five false false false false false h = (refl, refl, refl, refl, refl)

-- a name is none of the five words
pub no_word : (w : List ℕ) → IsTrue (is_name w)
    → (bytes_eq w (codes "range") ≡ false) × (bytes_eq w (codes "tile") ≡ false) × (bytes_eq w (codes "index") ≡ false) × (bytes_eq w (codes "tensor") ≡ false) × (bytes_eq w (codes "sum") ≡ false)
unfolding is_name
no_word w is =
    let a : (starts_with_letter w && nat_le (length w) 16 && list_all is_word_byte w ≡ true) × (not (is_keyword w) ≡ true) = and_parts _ _ is in
    none_of_five (bytes_eq w (codes "range")) (bytes_eq w (codes "tile")) (bytes_eq w (codes "index")) (bytes_eq w (codes "tensor")) (bytes_eq w (codes "sum")) a.1

-- what the letters of a name are
pub record IsNameText (w : List ℕ) : Type 0 where
  pub starts : starts_with_letter w ≡ true
  pub short : length w ≤ 16
  pub letters : list_all is_word_byte w ≡ true

pub name_text : (w : List ℕ) → IsTrue (is_name w) → IsNameText w
unfolding is_name
name_text w is =
    let a : (starts_with_letter w && nat_le (length w) 16 && list_all is_word_byte w ≡ true) × (not (is_keyword w) ≡ true) = and_parts _ _ is in
    let b : (starts_with_letter w && nat_le (length w) 16 ≡ true) × (list_all is_word_byte w ≡ true) = and_parts _ _ a.0 in
    let c : (starts_with_letter w ≡ true) × (nat_le (length w) 16 ≡ true) = and_parts _ _ b.0 in
    record { starts = c.0; short = leb-true (length w) 16 c.1; letters = b.1 }

joined_low : (o : Arithmetic) → 2 < precedence o → ⊥
joined_low multiply h = omega arith
joined_low add h = omega arith
joined_low subtract h = omega arith

module _ (enclosed : List Token → Reads Formula) (n : ℕ)
    (reads : (w : Written) → IsWritten w → depth w < n → (rest : List Token) → enclosed (spelling w ++ (symbol 41 ∷ rest)) ≡ Some (meaning w, rest)) where
  pub factor_read : (w : Written) → IsWritten w → 2 < level w → depth w ≤ n → (rest : List Token) → factor_at enclosed (spelling w ++ rest) ≡ Some (meaning w, rest)
  factor_read (reference name indexes) is tight shallow rest =
      let regrouped : (listed indexes ++ symbol 93 ∷ []) ++ rest ≡ listed indexes ++ (symbol 93 ∷ rest) = append_assoc (listed indexes) (symbol 93 ∷ []) rest in
      rw ((no_word name is.0).4, is.0, regrouped, brackets_read indexes rest is.1) refl
  factor_read (numeral digits) is tight shallow rest = refl
  factor_read (summed [] operand) is tight shallow rest = absurd (is.0 refl)
  factor_read (summed (i ∷ is) operand) are tight shallow rest =
      let regrouped : (listed (i ∷ is) ++ (symbol 125 ∷ symbol 40 ∷ (spelling operand ++ symbol 41 ∷ []))) ++ rest
      ≡ listed (i ∷ is) ++ (symbol 125 ∷ symbol 40 ∷ (spelling operand ++ (symbol 41 ∷ rest))) =
      append_assoc (listed (i ∷ is)) (symbol 125 ∷ symbol 40 ∷ (spelling operand ++ symbol 41 ∷ [])) rest
      ∙ ap (λ (ts : List Token). listed (i ∷ is) ++ (symbol 125 ∷ symbol 40 ∷ ts)) (append_assoc (spelling operand) (symbol 41 ∷ []) rest) in
      ap (λ (ts : List Token). factor_at enclosed (word (codes "sum") ∷ symbol 123 ∷ ts)) regrouped
      ∙ rw (names_read 125 i is (symbol 40 ∷ (spelling operand ++ (symbol 41 ∷ rest))) refl refl are.1, reads operand are.2 (omega arith) rest) refl
  factor_read (joined o left right) is tight shallow rest = absurd (joined_low o tight)
  factor_read (group operand) is tight shallow rest =
      ap enclosed (append_assoc (spelling operand) (symbol 41 ∷ []) rest) ∙ reads operand is (omega arith) rest

-- formulas

times_sign : (o : Arithmetic) → precedence o ≡ 2 → times_of (sign o) ≡ Some o
times_sign multiply h = refl
times_sign add h = absurd (omega arith)
times_sign subtract h = absurd (omega arith)

plus_sign : (o : Arithmetic) → precedence o ≡ 1 → plus_of (sign o) ≡ Some o
plus_sign multiply h = absurd (omega arith)
plus_sign add h = refl
plus_sign subtract h = refl

plus_stops : (o : Arithmetic) → precedence o ≡ 1 → (ts : List Token) → Stops times_of (sign o ∷ ts)
plus_stops multiply h ts = absurd (omega arith)
plus_stops add h ts = refl
plus_stops subtract h ts = refl

level_low : (w : Written) → 1 ≤ level w
level_low (reference name indexes) = omega arith
level_low (numeral digits) = omega arith
level_low (summed indexes operand) = omega arith
level_low (group operand) = omega arith
level_low (joined multiply left right) = omega arith
level_low (joined add left right) = omega arith
level_low (joined subtract left right) = omega arith

pub formula_by_read : (factor : List Token → Reads Formula) (n : ℕ)
    → ((w : Written) → IsWritten w → 2 < level w → depth w ≤ n → (rest : List Token) → factor (spelling w ++ rest) ≡ Some (meaning w, rest))
    → (w : Written) (rest : List Token) → IsWritten w → depth w ≤ n → Stops times_of rest → Stops plus_of rest
    → formula_by factor (spelling w ++ rest) ≡ Some (meaning w, rest)
formula_by_read factor n reads w rest is shallow no_times no_plus =
    chain_reads plus_of (chain_at times_of factor) 1 n (Stops times_of) (omega arith)
    (λ (u : Written) are tight low more stop. chain_reads times_of factor 2 n (λ _. Unit {0}) (omega arith) (λ (v : Written) js low short end _. reads v js low short end) times_sign (λ o _ ts. tt) u more are tight low tt stop)
    plus_sign plus_stops w rest is (level_low w) shallow no_times no_plus

enclosed_within_read : (n : ℕ) (w : Written) → IsWritten w → depth w < n → (rest : List Token) → enclosed_within n (spelling w ++ (symbol 41 ∷ rest)) ≡ Some (meaning w, rest)
unfolding enclosed_within
enclosed_within_read zero w is shallow rest = absurd (omega arith)
enclosed_within_read (suc n) w is shallow rest =
    rw (formula_by_read (factor_at (enclosed_within n)) n (factor_read (enclosed_within n) n (enclosed_within_read n)) w (symbol 41 ∷ rest) is (omega arith) refl refl) refl

pub factor_within_read : (n : ℕ) (w : Written) → IsWritten w → 2 < level w → depth w ≤ n → (rest : List Token) → factor_within n (spelling w ++ rest) ≡ Some (meaning w, rest)
factor_within_read n = factor_read (enclosed_within n) n (enclosed_within_read n)

pub formula_read : (n : ℕ) (w : Written) (rest : List Token) → IsWritten w → depth w ≤ n → Stops times_of rest → Stops plus_of rest
    → formula_within n (spelling w ++ rest) ≡ Some (meaning w, rest)
formula_read n = formula_by_read (factor_within n) n (factor_within_read n)
