-- What stands behind the first word of a declaration.
use Rattle.std.proofs.Common.{◌≡◌, ℕ, ◌==◌, Bool, true, false, List, [], ◌∷◌, length, Some, None, refl, sym, ◌∙◌, ap, arith}
use Rattle.std.specs.Prelude.{option_map, map}
use Rattle.std.proofs.lemmas.Bool.{eqb-true}
use Rattle.tce_space.specs.Name.{is_name}
use Rattle.tce_grammar.specs.Code.{token}
use Rattle.tce_grammar.specs.Tokens as tokens
use Rattle.tce_grammar.specs.Tokens.{word, number, symbol}
use Rattle.tce_grammar.specs.Grammar as grammar
use Rattle.tce_grammar.specs.Reading.{Reads, name_in, name_ahead, all_names, index_of, whole, brackets_at, declaration_of}
use Rattle.tce_grammar.specs.declared.token.Token.{Token}
use Rattle.tce_grammar.proofs.Chains.{some_map}
use Rattle.tce_grammar.proofs.Lists.{name_is}

ahead_is : (ts : List tokens.Token) (w : List ℕ) (rest : List tokens.Token) → Some (w, rest) ≡ name_ahead ts → (is_name w ≡ true) × (ts ≡ word w ∷ rest)
ahead_is [] w rest e = cc
ahead_is (t ∷ ts) w rest e =
    let m : (v : List ℕ) × (name_in t ≡ Some v) × ((v, ts) ≡ (w, rest)) = some_map (λ (name : List ℕ). (name, ts)) (name_in t) (w, rest) (sym e) in
    let n : (is_name m.0 ≡ true) × (t ≡ word m.0) = name_is t m.0 m.1 in
    (ap (λ (r : List ℕ × List tokens.Token). is_name r.0) (sym m.2) ∙ n.0, (λ i. n.1 i ∷ ts) ∙ ap (λ (r : List ℕ × List tokens.Token). word r.0 ∷ r.1) m.2)

-- where no name stands ahead

index_without : (w v : List ℕ) (ts : List tokens.Token) (named : Bool) → is_name w ≡ named → None ≡ name_ahead (word w ∷ word v ∷ ts) → index_of (word w ∷ word v ∷ ts) ≡ None
index_without w v ts true n e = absurd (let no : None ≡ Some (w, word v ∷ ts) = rw n at e in cc)
index_without w v ts false n e = rw n refl

pub index_unnamed : (ts : List tokens.Token) → None ≡ name_ahead ts → index_of ts ≡ None
index_unnamed [] e = refl
index_unnamed (number d ∷ ts) e = refl
index_unnamed (symbol b ∷ ts) e = refl
index_unnamed (word w ∷ []) e = refl
index_unnamed (word w ∷ number d ∷ ts) e = refl
index_unnamed (word w ∷ symbol b ∷ ts) e = refl
index_unnamed (word w ∷ word v ∷ ts) e = index_without w v ts (is_name w) refl e

declared_without : (w : List ℕ) (ts : List tokens.Token) (named : Bool) → is_name w ≡ named → None ≡ name_ahead (word w ∷ ts) → declaration_of (word w ∷ ts) ≡ None
declared_without w ts true n e = absurd (let no : None ≡ Some (w, ts) = rw n at e in cc)
declared_without w ts false n e = rw n refl

pub declared_unnamed : (ts : List tokens.Token) → None ≡ name_ahead ts → declaration_of ts ≡ None
declared_unnamed [] e = refl
declared_unnamed (number d ∷ ts) e = refl
declared_unnamed (symbol b ∷ ts) e = refl
declared_unnamed (word w ∷ ts) e = declared_without w ts (is_name w) refl e

-- where one does

index_some : (w : List ℕ) (rest : List Token) → is_name w ≡ true → (length rest == 0) ≡ false → index_of (word w ∷ map token rest) ≡ option_map (grammar.index w) (all_names (map token rest))
index_some w [] named some = cc
index_some w (t ∷ ts) named some = first_some (token t) (map token ts)
  where
    first_some : (u : tokens.Token) (us : List tokens.Token) → index_of (word w ∷ u ∷ us) ≡ option_map (grammar.index w) (all_names (u ∷ us))
    first_some (number d) us = refl
    first_some (symbol b) us = refl
    first_some (word v) us = rw named refl

pub index_named : (ts : List tokens.Token) (w : List ℕ) (rest : List Token) → Some (w, map token rest) ≡ name_ahead ts → (length rest == 0) ≡ false
    → index_of ts ≡ option_map (grammar.index w) (all_names (map token rest))
index_named ts w rest e some =
    let f : (is_name w ≡ true) × (ts ≡ word w ∷ map token rest) = ahead_is ts w (map token rest) e in
    ap index_of f.1 ∙ index_some w rest f.0 some

pub index_alone : (ts : List tokens.Token) (w : List ℕ) (rest : List Token) → Some (w, map token rest) ≡ name_ahead ts → (length rest == 0) ≡ true → index_of ts ≡ None
index_alone ts w [] e none = ap index_of (ahead_is ts w [] e).1
index_alone ts w (t ∷ us) e none = absurd (omega (arith, eqb-true (length (t ∷ us)) 0 none))

pub declared_named : (ts : List tokens.Token) (w : List ℕ) (rest : List tokens.Token) → Some (w, rest) ≡ name_ahead ts
    → declaration_of ts ≡ option_map (grammar.declaration w) (whole (brackets_at rest))
declared_named ts w rest e =
    let f : (is_name w ≡ true) × (ts ≡ word w ∷ rest) = ahead_is ts w rest e in
    ap declaration_of f.1 ∙ rw f.0 refl

pub declared_lost : (ts : List tokens.Token) (w : List ℕ) (rest : List tokens.Token) → Some (w, rest) ≡ name_ahead ts → brackets_at rest ≡ None → declaration_of ts ≡ None
declared_lost ts w rest e none = declared_named ts w rest e ∙ ap (λ (m : Reads (List (List ℕ))). option_map (grammar.declaration w) (whole m)) none
