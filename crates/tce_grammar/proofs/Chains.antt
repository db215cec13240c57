-- A chain of operands, read from the left.
use Rattle.std.proofs.Common.{◌≡◌, ℕ, zero, suc, ◌-◌, ◌<◌, ◌≤◌, List, [], ◌∷◌, length, Option, Some, None, refl, sym, ◌∙◌, ap, subst, arith}
use Rattle.std.specs.Prelude.{option_map}
use Rattle.tce_grammar.specs.Tokens.{Token}
use Rattle.tce_grammar.specs.Formula.{Formula, Arithmetic, sum, binary}
use Rattle.tce_grammar.specs.Reading.{Stops, ahead}
use Rattle.tce_grammar.specs.Reading.{Reads, ◌>>=◌, behind, names_at, summed_at, sum_at, chain, chain_at, closed_by, enclosed_within, formula_within}
use Rattle.tce_grammar.proofs.Formulas.{chain_stops, chain_goes}

pub map_none : {A B : Type 0} (f : A → B) (m : Option A) → option_map f m ≡ None → m ≡ None
map_none f None e = refl
map_none f (Some x) e = cc

pub some_map : {A B : Type 0} (f : A → B) (m : Option A) (y : B) → option_map f m ≡ Some y → (x : A) × (m ≡ Some x) × (f x ≡ y)
some_map f None y e = cc
some_map f (Some x) y e = (x, refl, cc)

-- this much of the chain is read, and what is left is shorter
pub record IsChained (operator : Token → Option Arithmetic) (operand : List Token → Reads Formula) (ts : List Token) (f : Formula) (rest : List Token) : Type 0 where
  pub fuel : ℕ
  pub enough : length rest ≤ fuel
  pub shorter : length rest < length ts
  pub same : chain_at operator operand ts ≡ chain operator operand fuel f rest

pub ahead_none : (operator : Token → Option Arithmetic) (ts : List Token) → ahead operator ts ≡ None → Stops operator ts
ahead_none operator [] e = tt
ahead_none operator (t ∷ ts) e = map_none (λ o. (o, ts)) (operator t) e

pub ahead_some : (operator : Token → Option Arithmetic) (ts : List Token) (o : Arithmetic) (rest : List Token) → ahead operator ts ≡ Some (o, rest)
    → (t : Token) × (ts ≡ t ∷ rest) × (operator t ≡ Some o)
ahead_some operator [] o rest e = cc
ahead_some operator (t ∷ ts) o rest e =
    let m : (x : Arithmetic) × (operator t ≡ Some x) × ((x, ts) ≡ (o, rest)) = some_map (λ o. (o, ts)) (operator t) (o, rest) e in
    (t, ap (λ (r : Arithmetic × List Token). t ∷ r.1) m.2, m.1 ∙ ap (λ (r : Arithmetic × List Token). Some r.0) m.2)

pub chained_start : (operator : Token → Option Arithmetic) (operand : List Token → Reads Formula) (ts : List Token) (f : Formula) (rest : List Token)
    → operand ts ≡ Some (f, rest) → length rest < length ts → IsChained operator operand ts f rest
unfolding chain_at
chained_start operator operand ts f rest read less = record { fuel = length ts; enough = omega arith; shorter = less; same = rw read refl }

pub chained_none : (operator : Token → Option Arithmetic) (operand : List Token → Reads Formula) (ts : List Token) → operand ts ≡ None → chain_at operator operand ts ≡ None
unfolding chain_at
chained_none operator operand ts read = rw read refl

pub chained_end : (operator : Token → Option Arithmetic) (operand : List Token → Reads Formula) (ts : List Token) (f : Formula) (rest : List Token)
    → IsChained operator operand ts f rest → Stops operator rest → chain_at operator operand ts ≡ Some (f, rest)
chained_end operator operand ts f rest c stop = c.same ∙ chain_stops operator operand c.fuel f rest stop

step_with : (operator : Token → Option Arithmetic) (operand : List Token → Reads Formula) (ts : List Token) (f g : Formula) (o : Arithmetic) (t : Token) (us rest : List Token) (fuel : ℕ)
    → suc (length us) ≤ fuel → chain_at operator operand ts ≡ chain operator operand fuel f (t ∷ us) → suc (length us) < length ts
    → operator t ≡ Some o → operand us ≡ Some (g, rest) → length rest < length us → IsChained operator operand ts (binary o f g) rest
step_with operator operand ts f g o t us rest zero enough same shorter is read less = absurd (omega arith)
step_with operator operand ts f g o t us rest (suc fuel) enough same shorter is read less =
    record { fuel = fuel; enough = omega arith; shorter = omega arith; same = same ∙ chain_goes operator operand fuel f g o t us rest is read }

pub chained_step : (operator : Token → Option Arithmetic) (operand : List Token → Reads Formula) (ts : List Token) (f g : Formula) (o : Arithmetic) (t : Token) (us rest : List Token)
    → IsChained operator operand ts f (t ∷ us) → operator t ≡ Some o → operand us ≡ Some (g, rest) → length rest < length us → IsChained operator operand ts (binary o f g) rest
chained_step operator operand ts f g o t us rest c is read less = step_with operator operand ts f g o t us rest c.fuel c.enough c.same c.shorter is read less

fails_with : (operator : Token → Option Arithmetic) (operand : List Token → Reads Formula) (ts : List Token) (f : Formula) (o : Arithmetic) (t : Token) (us : List Token) (fuel : ℕ)
    → suc (length us) ≤ fuel → chain_at operator operand ts ≡ chain operator operand fuel f (t ∷ us) → operator t ≡ Some o → operand us ≡ None → chain_at operator operand ts ≡ None
fails_with operator operand ts f o t us zero enough same is read = absurd (omega arith)
fails_with operator operand ts f o t us (suc fuel) enough same is read = same ∙ rw is (rw read refl)

pub chained_fails : (operator : Token → Option Arithmetic) (operand : List Token → Reads Formula) (ts : List Token) (f : Formula) (o : Arithmetic) (t : Token) (us : List Token)
    → IsChained operator operand ts f (t ∷ us) → operator t ≡ Some o → operand us ≡ None → chain_at operator operand ts ≡ None
chained_fails operator operand ts f o t us c is read = fails_with operator operand ts f o t us c.fuel c.enough c.same is read

pub enclosed_none : (n : ℕ) (ts : List Token) → n ≡ 0 → enclosed_within n ts ≡ None
unfolding enclosed_within
enclosed_none n ts e = ap (λ k. enclosed_within k ts) e

pub enclosed_some : (n : ℕ) (ts : List Token) → 0 < n → enclosed_within n ts ≡ closed_by (formula_within (n - 1)) ts
unfolding enclosed_within
enclosed_some zero ts h = absurd (omega arith)
enclosed_some (suc n) ts h = let e : n ≡ suc n - 1 = omega arith in ap (λ k. closed_by (formula_within k) ts) e

-- one operand more, where an operator stands ahead
pub chained_more : (operator : Token → Option Arithmetic) (operand : List Token → Reads Formula) (ts : List Token) (f g : Formula) (o : Arithmetic) (us behind rest : List Token)
    → IsChained operator operand ts f us → Some (o, behind) ≡ ahead operator us → operand behind ≡ Some (g, rest) → length rest < length behind → IsChained operator operand ts (binary o f g) rest
chained_more operator operand ts f g o us behind rest c is read less =
    let a : (t : Token) × (us ≡ t ∷ behind) × (operator t ≡ Some o) = ahead_some operator us o behind (sym is) in
    chained_step operator operand ts f g o a.0 behind rest (subst (λ (vs : List Token). IsChained operator operand ts f vs) a.1 c) a.2 read less

pub chained_all : (operator : Token → Option Arithmetic) (operand : List Token → Reads Formula) (ts : List Token) (f : Formula) (rest : List Token)
    → IsChained operator operand ts f rest → None ≡ ahead operator rest → chain_at operator operand ts ≡ Some (f, rest)
chained_all operator operand ts f rest c is = chained_end operator operand ts f rest c (ahead_none operator rest (sym is))

bound_twice : {A B C : Type 0} (m : Option A) (f : A → Option B) (g : B → Option C) → ((m >>= f) >>= g) ≡ (m >>= λ x. f x >>= g)
bound_twice None f g = refl
bound_twice (Some x) f g = refl

-- a sum is its indexes, and then what is enclosed
pub sum_by_parts : (enclosed : List Token → Reads Formula) (ts : List Token)
    → sum_at enclosed ts ≡ (summed_at ts >>= λ names. enclosed names.1 >>= λ r. Some (sum names.0 r.0, r.1))
sum_by_parts enclosed ts =
    let whole : List (List ℕ) × List Token → Reads Formula = λ names. enclosed names.1 >>= λ r. Some (sum names.0 r.0, r.1) in
    let opened : (names : List (List ℕ) × List Token) → ((behind 40 names.1 >>= λ operand. Some (names.0, operand)) >>= whole) ≡ (behind 40 names.1 >>= λ operand. whole (names.0, operand)) =
    λ names. bound_twice (behind 40 names.1) (λ operand. Some (names.0, operand)) whole in
    let listed : (list : List Token) → ((names_at 125 list >>= λ names. behind 40 names.1 >>= λ operand. Some (names.0, operand)) >>= whole) ≡ (names_at 125 list >>= λ names. behind 40 names.1 >>= λ operand. whole (names.0, operand)) =
    λ list. bound_twice (names_at 125 list) (λ names. behind 40 names.1 >>= λ operand. Some (names.0, operand)) whole ∙ (λ i. names_at 125 list >>= λ names. opened names i) in
    sym (bound_twice (behind 123 ts) (λ list. names_at 125 list >>= λ names. behind 40 names.1 >>= λ operand. Some (names.0, operand)) whole ∙ (λ i. behind 123 ts >>= λ list. listed list i))

-- an operator, and behind it no operand
pub chained_lost : (operator : Token → Option Arithmetic) (operand : List Token → Reads Formula) (ts : List Token) (f : Formula) (o : Arithmetic) (us behind : List Token)
    → IsChained operator operand ts f us → Some (o, behind) ≡ ahead operator us → operand behind ≡ None → chain_at operator operand ts ≡ None
chained_lost operator operand ts f o us behind c is read =
    let a : (t : Token) × (us ≡ t ∷ behind) × (operator t ≡ Some o) = ahead_some operator us o behind (sym is) in
    chained_fails operator operand ts f o a.0 behind (subst (λ (vs : List Token). IsChained operator operand ts f vs) a.1 c) a.2 read

above_zero : (n : ℕ) → (n ≡ 0 → ⊥) → 0 < n
above_zero zero h = absurd (h refl)
above_zero (suc n) h = omega arith

-- what is enclosed, by the formula in it and the parenthesis behind that
pub enclosed_lost : (n : ℕ) (ts : List Token) → (n ≡ 0 → ⊥) → formula_within (n - 1) ts ≡ None → enclosed_within n ts ≡ None
enclosed_lost n ts h e = enclosed_some n ts (above_zero n h) ∙ ap (λ (m : Reads Formula). m >>= λ r. behind 41 r.1 >>= λ rest. Some (r.0, rest)) e

-- a formula that was enclosed, where the parenthesis behind it was read
abbrev pub enclosed_end : Formula → Option (List Token) → Reads Formula
enclosed_end f read = read >>= λ after. Some (f, after)

pub enclosed_behind : (n : ℕ) (ts rest : List Token) (f : Formula) → (n ≡ 0 → ⊥) → formula_within (n - 1) ts ≡ Some (f, rest)
    → enclosed_within n ts ≡ enclosed_end f (behind 41 rest)
enclosed_behind n ts rest f h e = enclosed_some n ts (above_zero n h) ∙ ap (λ (m : Reads Formula). m >>= λ r. behind 41 r.1 >>= λ rest. Some (r.0, rest)) e

-- a sum, by its indexes and what is enclosed behind them
pub sum_lost : (enclosed : List Token → Reads Formula) (ts : List Token) → summed_at ts ≡ None → sum_at enclosed ts ≡ None
sum_lost enclosed ts e = sum_by_parts enclosed ts ∙ ap (λ (m : Reads (List (List ℕ))). m >>= λ names. enclosed names.1 >>= λ r. Some (sum names.0 r.0, r.1)) e

pub sum_behind : (enclosed : List Token → Reads Formula) (ts rest : List Token) (names : List (List ℕ)) → summed_at ts ≡ Some (names, rest)
    → sum_at enclosed ts ≡ (enclosed rest >>= λ r. Some (sum names r.0, r.1))
sum_behind enclosed ts rest names e = sum_by_parts enclosed ts ∙ ap (λ (m : Reads (List (List ℕ))). m >>= λ names. enclosed names.1 >>= λ r. Some (sum names.0 r.0, r.1)) e

pub sum_unenclosed : (enclosed : List Token → Reads Formula) (ts rest : List Token) (names : List (List ℕ)) → summed_at ts ≡ Some (names, rest)
    → enclosed rest ≡ None → sum_at enclosed ts ≡ None
sum_unenclosed enclosed ts rest names e none = sum_behind enclosed ts rest names e ∙ ap (λ (m : Reads Formula). m >>= λ r. Some (sum names r.0, r.1)) none

pub sum_whole : (enclosed : List Token → Reads Formula) (ts rest after : List Token) (names : List (List ℕ)) (f : Formula) → summed_at ts ≡ Some (names, rest)
    → enclosed rest ≡ Some (f, after) → sum_at enclosed ts ≡ Some (sum names f, after)
sum_whole enclosed ts rest after names f e whole = sum_behind enclosed ts rest names e ∙ ap (λ (m : Reads Formula). m >>= λ r. Some (sum names r.0, r.1)) whole
