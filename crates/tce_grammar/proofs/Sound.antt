-- A formula that is read was written.
use Rattle.std.proofs.Common.{◌≡◌, ℕ, zero, suc, ◌<◌, ◌≤◌, ◌==◌, ◌⊎◌, List, [], ◌∷◌, ◌++◌, length, Option, Some, None, refl, sym, ◌∙◌, ap, subst, append_assoc, arith, Bool, true, false, cond, inl, inr, if◌then◌else◌, ◌≢◌}
use Rattle.std.proofs.lemmas.Bool.{eqb-true}
use Rattle.std.proofs.lemmas.Slice.Eq.{bytes_eq-Decides}
use Rattle.std.specs.Prelude.{codes}
use Rattle.std.specs.Str.{bytes_eq}
use Rattle.tce_space.specs.Name.{is_name}
use Rattle.tce_grammar.specs.Tokens.{Token, word, number, symbol}
use Rattle.tce_grammar.specs.Formula.{Formula, Arithmetic, multiply, add, subtract, tensor, constant, sum, binary}
use Rattle.tce_grammar.specs.Grammar.{Written, reference, numeral, summed, joined, group, listed, sign, spelling, meaning, precedence, level, IsWritten, depth, AreNames}
use Rattle.tce_grammar.specs.Reading.{Reads, ◌>>=◌, going_on, behind, with_first, names_at, none_or_names, brackets_at, times_of, plus_of, chain, chain_at, sum_at, factor_at, formula_by, closed_by, enclosed_within, factor_within, formula_within}

pub bind_some : {A B : Type 0} (m : Option A) (f : A → Option B) (y : B) → (m >>= f) ≡ Some y → (x : A) × (m ≡ Some x) × (f x ≡ Some y)
bind_some None f y e = cc
bind_some (Some x) f y e = (x, refl, e)

going_some : (d : Option Arithmetic) (read : Formula × List Token) (next : Arithmetic → Reads Formula) (y : Formula × List Token)
    → going_on d read next ≡ Some y → (read ≡ y) ⊎ ((o : Arithmetic) × (d ≡ Some o) × (next o ≡ Some y))
going_some None read next y e = inl (cc)
going_some (Some o) read next y e = inr (o, refl, e)

pub chosen : {A : Type 0} (b : Bool) (x y : Option A) (z : A) → cond b x y ≡ Some z → ((b ≡ true) × (x ≡ Some z)) ⊎ ((b ≡ false) × (y ≡ Some z))
chosen true x y z e = inl (refl, e)
chosen false x y z e = inr (refl, e)

-- what was read is spelled in front of the rest
pub record IsSpelled (p n : ℕ) (ts : List Token) (r : Formula × List Token) : Type 0 where
  pub written : Written
  pub is_written : IsWritten written
  pub tight : p ≤ level written
  pub shallow : depth written ≤ n
  pub means : meaning written ≡ r.0
  pub spelled : ts ≡ spelling written ++ r.1

module _ (operator : Token → Option Arithmetic) (operand : List Token → Reads Formula) (p n : ℕ)
    (sound : (ts : List Token) (r : Formula × List Token) → operand ts ≡ Some r → IsSpelled (suc p) n ts r)
    (sign_of : (t : Token) (o : Arithmetic) → operator t ≡ Some o → (t ≡ sign o) × (precedence o ≡ p)) where
  -- a further operand
  longer : (w : Written) (start : List Token) (t : Token) (ts : List Token) (o : Arithmetic) (g : Formula × List Token)
      → IsWritten w → p ≤ level w → depth w ≤ n → start ≡ spelling w ++ (t ∷ ts) → operator t ≡ Some o → operand ts ≡ Some g
      → IsSpelled p n start (binary o (meaning w) g.0, g.1)
  longer w start t ts o g is tight shallow spelled found read =
      let v : IsSpelled (suc p) n ts g = sound ts g read in
      let s : (t ≡ sign o) × (precedence o ≡ p) = sign_of t o found in
      record {
        written = joined o w v.written;
        is_written = (omega arith, omega (arith, v.tight), is, v.is_written);
        tight = omega arith;
        shallow = omega (arith, v.shallow);
        means = ap (binary o (meaning w)) v.means;
        spelled = spelled ∙ (λ i. spelling w ++ (s.0 i ∷ v.spelled i)) ∙ sym (append_assoc (spelling w) (sign o ∷ spelling v.written) g.1);
      }

  chain_sound : (fuel : ℕ) (start : List Token) (f : Formula) (ts : List Token) (r : Formula × List Token)
      → IsSpelled p n start (f, ts) → chain operator operand fuel f ts ≡ Some r → IsSpelled p n start r
  chain_sound zero start f ts r s e = let same : (f, ts) ≡ r = cc in subst (λ (x : Formula × List Token). IsSpelled p n start x) same s
  chain_sound (suc fuel) start f [] r s e = let same : (f, []) ≡ r = cc in subst (λ (x : Formula × List Token). IsSpelled p n start x) same s
  chain_sound (suc fuel) start f (t ∷ ts) r s e =
      elim (going_some (operator t) (f, t ∷ ts) (λ o. operand ts >>= λ g. chain operator operand fuel (binary o f g.0) g.1) r e) [
        | inl same ↦ subst (λ (x : Formula × List Token). IsSpelled p n start x) same s
        | inr go ↦
            let more : (g : Formula × List Token) × (operand ts ≡ Some g) × (chain operator operand fuel (binary go.0 f g.0) g.1 ≡ Some r) = bind_some _ _ _ go.2 in
            let next : IsSpelled p n start (binary go.0 (meaning s.written) more.0.0, more.0.1) =
            longer s.written start t ts go.0 more.0 s.is_written s.tight s.shallow s.spelled go.1 more.1 in
            chain_sound fuel start (binary go.0 f more.0.0) more.0.1 r
            (subst (λ (h : Formula). IsSpelled p n start (binary go.0 h more.0.0, more.0.1)) s.means next) more.2
      ]

  weaker : (ts : List Token) (r : Formula × List Token) → IsSpelled (suc p) n ts r → IsSpelled p n ts r
  weaker ts r s = record { written = s.written; is_written = s.is_written; tight = omega (arith, s.tight); shallow = s.shallow; means = s.means; spelled = s.spelled }

  pub chain_at_sound : (ts : List Token) (r : Formula × List Token) → chain_at operator operand ts ≡ Some r → IsSpelled p n ts r
  unfolding chain_at
  chain_at_sound ts r e =
      let first : (g : Formula × List Token) × (operand ts ≡ Some g) × (chain operator operand (length ts) g.0 g.1 ≡ Some r) = bind_some _ _ _ e in
      chain_sound (length ts) ts first.0.0 first.0.1 r (weaker ts first.0 (sound ts first.0 first.1)) first.2

-- names

with_first_some : (w : List ℕ) (m : Reads (List (List ℕ))) (r : List (List ℕ) × List Token) → with_first w m ≡ Some r
    → (x : List (List ℕ) × List Token) × (m ≡ Some x) × ((w ∷ x.0, x.1) ≡ r)
with_first_some w None r e = cc
with_first_some w (Some x) r e = (x, refl, cc)

listed_more : (w : List ℕ) (names : List (List ℕ)) → names ≢ [] → listed (w ∷ names) ≡ word w ∷ symbol 44 ∷ listed names
listed_more w [] some = absurd (some refl)
listed_more w (n ∷ ns) some = refl

pub record AreListed (close : ℕ) (ts : List Token) (r : List (List ℕ) × List Token) : Type 0 where
  pub some : r.0 ≢ []
  pub names : AreNames r.0
  pub spelled : ts ≡ listed r.0 ++ (symbol close ∷ r.1)

pub names_sound : (close : ℕ) (ts : List Token) (r : List (List ℕ) × List Token) → names_at close ts ≡ Some r → AreListed close ts r
names_sound close [] r e = cc
names_sound close (number d ∷ ts) r e = cc
names_sound close (symbol b ∷ ts) r e = cc
names_sound close (word w ∷ []) r e = cc
names_sound close (word w ∷ word v ∷ ts) r e = cc
names_sound close (word w ∷ number d ∷ ts) r e = cc
names_sound close (word w ∷ symbol b ∷ ts) r e =
    elim (chosen (is_name w) (if b == 44 then with_first w (names_at close ts) else if b == close then Some (w ∷ [], ts) else None) None r e) [
      | inr fails ↦ cc
      | inl holds ↦ elim (chosen (b == 44) (with_first w (names_at close ts)) (if b == close then Some (w ∷ [], ts) else None) r holds.1) [
        | inl comma ↦
            let more : (x : List (List ℕ) × List Token) × (names_at close ts ≡ Some x) × ((w ∷ x.0, x.1) ≡ r) = with_first_some w (names_at close ts) r comma.1 in
            let rest : AreListed close ts more.0 = names_sound close ts more.0 more.1 in
            let is_comma : b ≡ 44 = eqb-true b 44 comma.0 in
            let whole : AreListed close (word w ∷ symbol b ∷ ts) (w ∷ more.0.0, more.0.1) = record {
              some = λ h. cc;
              names = (holds.0, rest.names);
              spelled = (λ i. word w ∷ symbol (is_comma i) ∷ rest.spelled i) ∙ ap (λ (x : List Token). x ++ (symbol close ∷ more.0.1)) (sym (listed_more w more.0.0 rest.some));
            } in
            subst (λ (x : List (List ℕ) × List Token). AreListed close (word w ∷ symbol b ∷ ts) x) more.2 whole
        | inr other ↦ elim (chosen (b == close) (Some (w ∷ [], ts)) None r other.1) [
          | inr fails ↦ cc
          | inl closed ↦
              let is_close : b ≡ close = eqb-true b close closed.0 in
              let same : (w ∷ [], ts) ≡ r = cc in
              let whole : AreListed close (word w ∷ symbol b ∷ ts) (w ∷ [], ts) = record {
                some = λ h. cc;
                names = (holds.0, tt);
                spelled = λ i. word w ∷ symbol (is_close i) ∷ ts;
              } in
              subst (λ (x : List (List ℕ) × List Token). AreListed close (word w ∷ symbol b ∷ ts) x) same whole
        ]
      ]
    ]

pub behind_some : (c : ℕ) (ts rest : List Token) → behind c ts ≡ Some rest → ts ≡ symbol c ∷ rest
behind_some c [] rest e = cc
behind_some c (word w ∷ ts) rest e = cc
behind_some c (number d ∷ ts) rest e = cc
behind_some c (symbol b ∷ ts) rest e = elim (chosen (b == c) (Some ts) None rest e) [
  | inl holds ↦ let is : b ≡ c = eqb-true b c holds.0 in let same : ts ≡ rest = cc in (λ i. symbol (is i) ∷ same i)
  | inr fails ↦ cc
]

-- factors

pub record AreBracketed (ts : List Token) (r : List (List ℕ) × List Token) : Type 0 where
  pub names : AreNames r.0
  pub spelled : ts ≡ symbol 91 ∷ (listed r.0 ++ (symbol 93 ∷ r.1))

inside_brackets : (ts inner : List Token) (r : List (List ℕ) × List Token) (d : Option (List Token)) → behind 93 inner ≡ d → ts ≡ symbol 91 ∷ inner
    → none_or_names d inner ≡ Some r → AreBracketed ts r
inside_brackets ts inner r (Some rest) closes opens e =
    let same : ([], rest) ≡ r = cc in
    let whole : AreBracketed ts ([], rest) = record { names = tt; spelled = opens ∙ ap (λ (x : List Token). symbol 91 ∷ x) (behind_some 93 inner rest closes) } in
    subst (λ (x : List (List ℕ) × List Token). AreBracketed ts x) same whole
inside_brackets ts inner r None closes opens e =
    let l : AreListed 93 inner r = names_sound 93 inner r e in
    record { names = l.names; spelled = opens ∙ ap (λ (x : List Token). symbol 91 ∷ x) l.spelled }

pub brackets_sound : (ts : List Token) (r : List (List ℕ) × List Token) → brackets_at ts ≡ Some r → AreBracketed ts r
brackets_sound ts r e =
    let m : (inner : List Token) × (behind 91 ts ≡ Some inner) × (none_or_names (behind 93 inner) inner ≡ Some r) = bind_some _ _ _ e in
    inside_brackets ts m.0 r (behind 93 m.0) refl (behind_some 91 ts m.0 m.1) m.2

closed_some : (inner : List Token → Reads Formula) (ts : List Token) (r : Formula × List Token) → closed_by inner ts ≡ Some r → inner ts ≡ Some (r.0, symbol 41 ∷ r.1)
closed_some inner ts r e =
    let m : (x : Formula × List Token) × (inner ts ≡ Some x) × ((behind 41 x.1 >>= λ rest. Some (x.0, rest)) ≡ Some r) = bind_some _ _ _ e in
    let k : (rest : List Token) × (behind 41 m.0.1 ≡ Some rest) × (Some (m.0.0, rest) ≡ Some r) = bind_some _ _ _ m.2 in
    let b : m.0.1 ≡ symbol 41 ∷ k.0 = behind_some 41 m.0.1 k.0 k.1 in
    let same : (m.0.0, k.0) ≡ r = cc in
    m.1 ∙ (λ i. Some (m.0.0, b i)) ∙ (λ i. Some ((same i).0, symbol 41 ∷ (same i).1))

module _ (enclosed : List Token → Reads Formula) (n : ℕ)
    (sound : (ts : List Token) (r : Formula × List Token) → enclosed ts ≡ Some r → (s : IsSpelled 1 n ts (r.0, symbol 41 ∷ r.1)) × (depth s.written < n)) where
  sum_sound : (ts : List Token) (r : Formula × List Token) → sum_at enclosed ts ≡ Some r → IsSpelled 3 n (word (codes "sum") ∷ ts) r
  sum_sound ts r e =
      let a : (list : List Token) × (behind 123 ts ≡ Some list) × ((names_at 125 list >>= λ names. behind 40 names.1 >>= λ operand. enclosed operand >>= λ r. Some (sum names.0 r.0, r.1)) ≡ Some r) = bind_some _ _ _ e in
      let b : (names : List (List ℕ) × List Token) × (names_at 125 a.0 ≡ Some names) × ((behind 40 names.1 >>= λ operand. enclosed operand >>= λ r. Some (sum names.0 r.0, r.1)) ≡ Some r) = bind_some _ _ _ a.2 in
      let c : (operand : List Token) × (behind 40 b.0.1 ≡ Some operand) × ((enclosed operand >>= λ r. Some (sum b.0.0 r.0, r.1)) ≡ Some r) = bind_some _ _ _ b.2 in
      let d : (x : Formula × List Token) × (enclosed c.0 ≡ Some x) × (Some (sum b.0.0 x.0, x.1) ≡ Some r) = bind_some _ _ _ c.2 in
      let same : (sum b.0.0 d.0.0, d.0.1) ≡ r = cc in
      let l : AreListed 125 a.0 b.0 = names_sound 125 a.0 b.0 b.1 in
      let s : (s : IsSpelled 1 n c.0 (d.0.0, symbol 41 ∷ d.0.1)) × (depth s.written < n) = sound c.0 d.0 d.1 in
      let w : Written = summed b.0.0 s.0.written in
      let text : word (codes "sum") ∷ ts ≡ spelling w ++ d.0.1 =
      ap (λ (x : List Token). word (codes "sum") ∷ x) (behind_some 123 ts a.0 a.1)
      ∙ ap (λ (x : List Token). word (codes "sum") ∷ symbol 123 ∷ x) l.spelled
      ∙ ap (λ (x : List Token). word (codes "sum") ∷ symbol 123 ∷ (listed b.0.0 ++ (symbol 125 ∷ x))) (behind_some 40 b.0.1 c.0 c.1 ∙ ap (λ (x : List Token). symbol 40 ∷ x) s.0.spelled)
      ∙ ap (λ (x : List Token). word (codes "sum") ∷ symbol 123 ∷ (listed b.0.0 ++ (symbol 125 ∷ symbol 40 ∷ x))) (sym (append_assoc (spelling s.0.written) (symbol 41 ∷ []) d.0.1))
      ∙ ap (λ (x : List Token). word (codes "sum") ∷ symbol 123 ∷ x) (sym (append_assoc (listed b.0.0) (symbol 125 ∷ symbol 40 ∷ (spelling s.0.written ++ symbol 41 ∷ [])) d.0.1)) in
      let whole : IsSpelled 3 n (word (codes "sum") ∷ ts) (sum b.0.0 d.0.0, d.0.1) = record {
        written = w;
        is_written = (l.some, l.names, s.0.is_written);
        tight = omega arith;
        shallow = omega arith;
        means = ap (sum b.0.0) s.0.means;
        spelled = text;
      } in
      subst (λ (x : Formula × List Token). IsSpelled 3 n (word (codes "sum") ∷ ts) x) same whole

  name_sound : (name : List ℕ) (ts : List Token) (r : Formula × List Token) → is_name name ≡ true
      → (brackets_at ts >>= λ names. Some (tensor name names.0, names.1)) ≡ Some r → IsSpelled 3 n (word name ∷ ts) r
  name_sound name ts r is e =
      let a : (x : List (List ℕ) × List Token) × (brackets_at ts ≡ Some x) × (Some (tensor name x.0, x.1) ≡ Some r) = bind_some _ _ _ e in
      let same : (tensor name a.0.0, a.0.1) ≡ r = cc in
      let b : AreBracketed ts a.0 = brackets_sound ts a.0 a.1 in
      let whole : IsSpelled 3 n (word name ∷ ts) (tensor name a.0.0, a.0.1) = record {
        written = reference name a.0.0;
        is_written = (is, b.names);
        tight = omega arith;
        shallow = omega arith;
        means = refl;
        spelled = ap (λ (x : List Token). word name ∷ x) (b.spelled ∙ ap (λ (x : List Token). symbol 91 ∷ x) (sym (append_assoc (listed a.0.0) (symbol 93 ∷ []) a.0.1)));
      } in
      subst (λ (x : Formula × List Token). IsSpelled 3 n (word name ∷ ts) x) same whole

  pub factor_sound : (ts : List Token) (r : Formula × List Token) → factor_at enclosed ts ≡ Some r → IsSpelled 3 n ts r
  factor_sound [] r e = cc
  factor_sound (number d ∷ ts) r e =
      let same : (constant d, ts) ≡ r = cc in
      let whole : IsSpelled 3 n (number d ∷ ts) (constant d, ts) = record { written = numeral d; is_written = tt; tight = omega arith; shallow = omega arith; means = refl; spelled = refl } in
      subst (λ (x : Formula × List Token). IsSpelled 3 n (number d ∷ ts) x) same whole
  factor_sound (symbol b ∷ ts) r e =
      elim (chosen (b == 40) (enclosed ts) None r e) [
        | inr fails ↦ cc
        | inl holds ↦
            let s : (s : IsSpelled 1 n ts (r.0, symbol 41 ∷ r.1)) × (depth s.written < n) = sound ts r holds.1 in
            let opens : b ≡ 40 = eqb-true b 40 holds.0 in
            record {
              written = group s.0.written;
              is_written = s.0.is_written;
              tight = omega arith;
              shallow = omega arith;
              means = s.0.means;
              spelled = (λ i. symbol (opens i) ∷ s.0.spelled i) ∙ ap (λ (x : List Token). symbol 40 ∷ x) (sym (append_assoc (spelling s.0.written) (symbol 41 ∷ []) r.1));
            }
      ]
  factor_sound (word w ∷ ts) r e =
      elim (chosen (bytes_eq w (codes "sum")) (sum_at enclosed ts) (if is_name w then (brackets_at ts >>= λ names. Some (tensor w names.0, names.1)) else None) r e) [
        | inl holds ↦ subst (λ (v : List ℕ). IsSpelled 3 n (word v ∷ ts) r) (sym ((bytes_eq-Decides w (codes "sum")).0 holds.0)) (sum_sound ts r holds.1)
        | inr fails ↦ elim (chosen (is_name w) (brackets_at ts >>= λ names. Some (tensor w names.0, names.1)) None r fails.1) [
          | inl holds ↦ name_sound w ts r holds.0 holds.1
          | inr never ↦ cc
        ]
      ]

-- formulas

times_is_sign : (t : Token) (o : Arithmetic) → times_of t ≡ Some o → (t ≡ sign o) × (precedence o ≡ 2)
times_is_sign (word w) o e = cc
times_is_sign (number d) o e = cc
times_is_sign (symbol b) o e = elim (chosen (b == 42) (Some multiply) None o e) [
  | inl holds ↦ let is : b ≡ 42 = eqb-true b 42 holds.0 in let same : multiply ≡ o = cc in (ap symbol is ∙ ap sign same, sym (ap precedence same))
  | inr fails ↦ cc
]

plus_is_sign : (t : Token) (o : Arithmetic) → plus_of t ≡ Some o → (t ≡ sign o) × (precedence o ≡ 1)
plus_is_sign (word w) o e = cc
plus_is_sign (number d) o e = cc
plus_is_sign (symbol b) o e = elim (chosen (b == 43) (Some add) (if b == 45 then Some subtract else None) o e) [
  | inl holds ↦ let is : b ≡ 43 = eqb-true b 43 holds.0 in let same : add ≡ o = cc in (ap symbol is ∙ ap sign same, sym (ap precedence same))
  | inr fails ↦ elim (chosen (b == 45) (Some subtract) None o fails.1) [
    | inl holds ↦ let is : b ≡ 45 = eqb-true b 45 holds.0 in let same : subtract ≡ o = cc in (ap symbol is ∙ ap sign same, sym (ap precedence same))
    | inr never ↦ cc
  ]
]

pub formula_by_sound : (factor : List Token → Reads Formula) (n : ℕ)
    → ((ts : List Token) (r : Formula × List Token) → factor ts ≡ Some r → IsSpelled 3 n ts r)
    → (ts : List Token) (r : Formula × List Token) → formula_by factor ts ≡ Some r → IsSpelled 1 n ts r
formula_by_sound factor n sound =
    chain_at_sound plus_of (chain_at times_of factor) 1 n (chain_at_sound times_of factor 2 n sound times_is_sign) plus_is_sign

enclosed_within_sound : (n : ℕ) (ts : List Token) (r : Formula × List Token) → enclosed_within n ts ≡ Some r
    → (s : IsSpelled 1 n ts (r.0, symbol 41 ∷ r.1)) × (depth s.written < n)
unfolding enclosed_within
enclosed_within_sound zero ts r e = cc
enclosed_within_sound (suc n) ts r e =
    let s : IsSpelled 1 n ts (r.0, symbol 41 ∷ r.1) =
    formula_by_sound (factor_at (enclosed_within n)) n (factor_sound (enclosed_within n) n (enclosed_within_sound n)) ts (r.0, symbol 41 ∷ r.1)
    (closed_some (formula_by (factor_at (enclosed_within n))) ts r e) in
    (record { written = s.written; is_written = s.is_written; tight = s.tight; shallow = omega (arith, s.shallow); means = s.means; spelled = s.spelled }, omega (arith, s.shallow))

pub factor_within_sound : (n : ℕ) (ts : List Token) (r : Formula × List Token) → factor_within n ts ≡ Some r → IsSpelled 3 n ts r
factor_within_sound n = factor_sound (enclosed_within n) n (enclosed_within_sound n)

pub formula_sound : (n : ℕ) (ts : List Token) (r : Formula × List Token) → formula_within n ts ≡ Some r → IsSpelled 1 n ts r
formula_sound n = formula_by_sound (factor_within n) n (factor_within_sound n)
