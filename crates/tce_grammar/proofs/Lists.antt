-- Names read one after another.
use Rattle.std.proofs.Common.{◌≡◌, ℕ, ◌==◌, Bool, true, false, ◌-◌, ◌<◌, ◌≤◌, List, [], ◌∷◌, ◌++◌, length, take, drop, slice_index_or, arith, Option, Some, None, Bor, refl, sym, ◌∙◌, ap, subst, append_assoc, inl, inr}
use Rattle.std.specs.Prelude.{option_map, map}
use Rattle.std.proofs.lemmas.List.{map-append, append-nil, drop-map, length-drop, take_all}
use Rattle.std.proofs.lemmas.Bool.{eq-eqb, eqb-true}
use Rattle.tce_space.specs.Name.{is_name}
use Rattle.tce_grammar.specs.Code.{token, names}
use Rattle.tce_grammar.specs.Tokens as tokens
use Rattle.tce_grammar.specs.Tokens.{word, number, symbol}
use Rattle.tce_grammar.specs.Reading.{Reads, name_in, name_before, with_first, names_at, all_names}
use Rattle.tce_grammar.specs.declared.token.Token.{Token}
use Rattle.tce_grammar.proofs.Sound.{chosen}

pub names_pushed : (items pushed : List (Bor (List ℕ))) (x : Bor (List ℕ)) → pushed ≡ items ++ x ∷ [] → names pushed ≡ names items ++ x.now ∷ []
names_pushed items pushed x e = ap names e ∙ map-append (λ (b : Bor (List ℕ)). b.now) items (x ∷ [])

pub name_is : (t : tokens.Token) (w : List ℕ) → name_in t ≡ Some w → (is_name w ≡ true) × (t ≡ word w)
name_is (number d) w e = cc
name_is (symbol b) w e = cc
name_is (word v) w e =
    elim (chosen (is_name v) (Some v) None w e) [
      | inl holds ↦ let same : v ≡ w = cc in subst (λ (x : List ℕ). (is_name x ≡ true) × (word v ≡ word x)) same (holds.0, refl)
      | inr fails ↦ cc
    ]

before_is : (c : ℕ) (ts : List tokens.Token) (w : List ℕ) → name_before c ts ≡ Some w → (is_name w ≡ true) × (ts ≡ word w ∷ symbol c ∷ drop 2 ts)
before_is c [] w e = cc
before_is c (t ∷ []) w e = cc
before_is c (t ∷ word v ∷ ts) w e = cc
before_is c (t ∷ number d ∷ ts) w e = cc
before_is c (t ∷ symbol b ∷ ts) w e =
    elim (chosen (b == c) (name_in t) None w e) [
      | inl holds ↦
          let n : (is_name w ≡ true) × (t ≡ word w) = name_is t w holds.1 in
          (n.0, (λ i. n.1 i ∷ symbol (eqb-true b c holds.0 i) ∷ ts))
      | inr fails ↦ cc
    ]

-- what is read behind these names
abbrev pub in_front_of : List (List ℕ) → Reads (List (List ℕ)) → Reads (List (List ℕ))
in_front_of front None = None
in_front_of front (Some r) = Some (front ++ r.0, r.1)

pub in_front_of_none : (m : Reads (List (List ℕ))) → m ≡ in_front_of [] m
in_front_of_none None = refl
in_front_of_none (Some r) = refl

in_front_of_first : (front : List (List ℕ)) (w : List ℕ) (m : Reads (List (List ℕ))) → in_front_of front (with_first w m) ≡ in_front_of (front ++ w ∷ []) m
in_front_of_first front w None = refl
in_front_of_first front w (Some r) = ap (λ (x : List (List ℕ)). Some (x, r.1)) (sym (append_assoc front (w ∷ []) r.0))

-- a name more, with a comma behind it
names_more : (close : ℕ) (front : List (List ℕ)) (m : Reads (List (List ℕ))) (ts : List tokens.Token) (w : List ℕ)
    → m ≡ in_front_of front (names_at close ts) → Some w ≡ name_before 44 ts → m ≡ in_front_of (front ++ w ∷ []) (names_at close (drop 2 ts))
names_more close front m ts w same e =
    let f : (is_name w ≡ true) × (ts ≡ word w ∷ symbol 44 ∷ drop 2 ts) = before_is 44 ts w (sym e) in
    let read : names_at close ts ≡ with_first w (names_at close (drop 2 ts)) = ap (names_at close) f.1 ∙ rw f.0 refl in
    same ∙ ap (in_front_of front) read ∙ in_front_of_first front w (names_at close (drop 2 ts))

last_read : (close : ℕ) (w : List ℕ) (rest : List tokens.Token) (comma : Bool) → (close == 44) ≡ comma → is_name w ≡ true
    → name_before 44 (word w ∷ symbol close ∷ rest) ≡ None → names_at close (word w ∷ symbol close ∷ rest) ≡ Some (w ∷ [], rest)
last_read close w rest true is named none = absurd (let no : Some w ≡ None = rw (is, named) at none in cc)
last_read close w rest false is named none = rw (named, is, eq-eqb close close refl) refl

-- the last name, with what closes the names behind it
names_last : (close : ℕ) (front : List (List ℕ)) (m : Reads (List (List ℕ))) (ts : List tokens.Token) (w : List ℕ)
    → m ≡ in_front_of front (names_at close ts) → None ≡ name_before 44 ts → Some w ≡ name_before close ts → m ≡ Some (front ++ w ∷ [], drop 2 ts)
names_last close front m ts w same none e =
    let f : (is_name w ≡ true) × (ts ≡ word w ∷ symbol close ∷ drop 2 ts) = before_is close ts w (sym e) in
    same ∙ ap (in_front_of front) (ap (names_at close) f.1 ∙ last_read close w (drop 2 ts) (close == 44) refl f.0 (ap (name_before 44) (sym f.1) ∙ sym none))

none_read : (close b : ℕ) (w : List ℕ) (ts : List tokens.Token) (named comma closed : Bool) → is_name w ≡ named → (b == 44) ≡ comma → (b == close) ≡ closed
    → None ≡ name_before 44 (word w ∷ symbol b ∷ ts) → None ≡ name_before close (word w ∷ symbol b ∷ ts) → names_at close (word w ∷ symbol b ∷ ts) ≡ None
none_read close b w ts false comma closed n c d first last = rw n refl
none_read close b w ts true true closed n c d first last = absurd (let no : None ≡ Some w = rw (c, n) at first in cc)
none_read close b w ts true false true n c d first last = absurd (let no : None ≡ Some w = rw (d, n) at last in cc)
none_read close b w ts true false false n c d first last = rw (n, c, d) refl

none_at : (close : ℕ) (ts : List tokens.Token) → None ≡ name_before 44 ts → None ≡ name_before close ts → names_at close ts ≡ None
none_at close [] first last = refl
none_at close (number d ∷ ts) first last = refl
none_at close (symbol b ∷ ts) first last = refl
none_at close (word w ∷ []) first last = refl
none_at close (word w ∷ word v ∷ ts) first last = refl
none_at close (word w ∷ number d ∷ ts) first last = refl
none_at close (word w ∷ symbol b ∷ ts) first last = none_read close b w ts (is_name w) (b == 44) (b == close) refl refl refl first last

-- no name with a comma or the closing symbol behind it
pub names_lost : (close : ℕ) (front : List (List ℕ)) (m : Reads (List (List ℕ))) (ts : List tokens.Token)
    → m ≡ in_front_of front (names_at close ts) → None ≡ name_before 44 ts → None ≡ name_before close ts → m ≡ None
names_lost close front m ts same first last = same ∙ ap (in_front_of front) (none_at close ts first last)

-- the same of the values of the code, with the part of the tokens that is left
abbrev part : List Token → List Token
part ts = take (length ts - 2) (drop 2 ts)

part_is : (ts : List Token) → part ts ≡ drop 2 ts
part_is ts = take_all (length ts - 2) (drop 2 ts) (omega (arith, length-drop 2 ts))

pub part_shorter : (ts us : List Token) → 2 ≤ length ts → length ts ≤ length us → length (part ts) < length us
part_shorter ts us both within = omega (arith, ap length (part_is ts), length-drop 2 ts, both, within)

pub pushed_none : (items : List (Bor (List ℕ))) (m : Reads (List (List ℕ))) → items ≡ [] → m ≡ in_front_of (names items) m
pushed_none items m e = in_front_of_none m ∙ ap (λ (front : List (Bor (List ℕ))). in_front_of (names front) m) (sym e)

pub pushed_more : (close : ℕ) (items pushed : List (Bor (List ℕ))) (m : Reads (List (List ℕ))) (ts : List Token) (x : Bor (List ℕ))
    → m ≡ in_front_of (names items) (names_at close (map token ts)) → Some x.now ≡ name_before 44 (map token ts) → pushed ≡ items ++ x ∷ []
    → m ≡ in_front_of (names pushed) (names_at close (map token (part ts)))
pushed_more close items pushed m ts x same e more =
    names_more close (names items) m (map token ts) x.now same e
    ∙ (λ i. in_front_of (sym (names_pushed items pushed x more) i) (names_at close ((drop-map token 2 ts ∙ ap (map token) (sym (part_is ts))) i)))

pub pushed_last : (close : ℕ) (items pushed : List (Bor (List ℕ))) (m : Reads (List (List ℕ))) (ts : List Token) (x : Bor (List ℕ))
    → m ≡ in_front_of (names items) (names_at close (map token ts)) → None ≡ name_before 44 (map token ts) → Some x.now ≡ name_before close (map token ts) → pushed ≡ items ++ x ∷ []
    → m ≡ Some (names pushed, map token (part ts))
pushed_last close items pushed m ts x same none e more =
    names_last close (names items) m (map token ts) x.now same none e
    ∙ (λ i. Some (sym (names_pushed items pushed x more) i, (drop-map token 2 ts ∙ ap (map token) (sym (part_is ts))) i))

-- names alone

mapped_twice : (front : List (List ℕ)) (w : List ℕ) (m : Option (List (List ℕ)))
    → option_map (λ behind. front ++ behind) (option_map (λ names. w ∷ names) m) ≡ option_map (λ behind. (front ++ w ∷ []) ++ behind) m
mapped_twice front w None = refl
mapped_twice front w (Some ns) = ap Some (sym (append_assoc front (w ∷ []) ns))

alone_none : (m : Option (List (List ℕ))) → m ≡ option_map (λ behind. [] ++ behind) m
alone_none None = refl
alone_none (Some ns) = refl

pub alone_start : (items : List (Bor (List ℕ))) (m : Option (List (List ℕ))) → items ≡ [] → m ≡ option_map (λ behind. names items ++ behind) m
alone_start items m e = alone_none m ∙ ap (λ (front : List (Bor (List ℕ))). option_map (λ behind. names front ++ behind) m) (sym e)

alone_read : (t : tokens.Token) (w : List ℕ) (ts : List tokens.Token) → Some w ≡ name_in t → all_names (t ∷ ts) ≡ option_map (λ names. w ∷ names) (all_names ts)
alone_read t w ts e =
    let n : (is_name w ≡ true) × (t ≡ word w) = name_is t w (sym e) in
    ap (λ (x : tokens.Token). all_names (x ∷ ts)) n.1 ∙ rw n.0 refl

alone_with : (items pushed : List (Bor (List ℕ))) (m : Option (List (List ℕ))) (t : tokens.Token) (ts : List tokens.Token) (x : Bor (List ℕ))
    → m ≡ option_map (λ behind. names items ++ behind) (all_names (t ∷ ts)) → Some x.now ≡ name_in t → pushed ≡ items ++ x ∷ []
    → m ≡ option_map (λ behind. names pushed ++ behind) (all_names ts)
alone_with items pushed m t ts x same e more =
    same
    ∙ ap (option_map (λ behind. names items ++ behind)) (alone_read t x.now ts e)
    ∙ mapped_twice (names items) x.now (all_names ts)
    ∙ ap (λ (front : List (List ℕ)). option_map (λ behind. front ++ behind) (all_names ts)) (sym (names_pushed items pushed x more))

lost_read : (t : tokens.Token) (ts : List tokens.Token) → None ≡ name_in t → all_names (t ∷ ts) ≡ None
lost_read (number d) ts e = refl
lost_read (symbol b) ts e = refl
lost_read (word w) ts e = lost_with (is_name w) refl
  where
    lost_with : (named : Bool) → is_name w ≡ named → all_names (word w ∷ ts) ≡ None
    lost_with true n = absurd (let no : None ≡ Some w = rw n at e in cc)
    lost_with false n = rw n refl

alone_without : (front : List (List ℕ)) (m : Option (List (List ℕ))) (t : tokens.Token) (ts : List tokens.Token)
    → m ≡ option_map (λ behind. front ++ behind) (all_names (t ∷ ts)) → None ≡ name_in t → m ≡ None
alone_without front m t ts same e = same ∙ ap (option_map (λ behind. front ++ behind)) (lost_read t ts e)

-- the same of the values of the code
pub alone_more : (items pushed : List (Bor (List ℕ))) (m : Option (List (List ℕ))) (ts : List Token) (other : Token) (x : Bor (List ℕ))
    → 1 ≤ length ts → m ≡ option_map (λ behind. names items ++ behind) (all_names (map token ts)) → Some x.now ≡ name_in (token (slice_index_or ts 0 other)) → pushed ≡ items ++ x ∷ []
    → m ≡ option_map (λ behind. names pushed ++ behind) (all_names (map token (take (length ts - 1) (drop 1 ts))))
alone_more items pushed m [] other x some same e more = absurd (omega arith)
alone_more items pushed m (t ∷ ts) other x some same e more =
    let whole : take (length (t ∷ ts) - 1) ts ≡ ts = take_all (length (t ∷ ts) - 1) ts (omega arith) in
    alone_with items pushed m (token t) (map token ts) x same e more
    ∙ ap (λ (us : List Token). option_map (λ behind. names pushed ++ behind) (all_names (map token us))) (sym whole)

pub alone_lost : (items : List (Bor (List ℕ))) (m : Option (List (List ℕ))) (ts : List Token) (other : Token)
    → 1 ≤ length ts → m ≡ option_map (λ behind. names items ++ behind) (all_names (map token ts)) → None ≡ name_in (token (slice_index_or ts 0 other)) → m ≡ None
alone_lost items m [] other some same e = absurd (omega arith)
alone_lost items m (t ∷ ts) other some same e = alone_without (names items) m (token t) (map token ts) same e

pub alone_all : (items : List (Bor (List ℕ))) (m : Option (List (List ℕ))) (ts : List Token)
    → length ts < 1 → m ≡ option_map (λ behind. names items ++ behind) (all_names (map token ts)) → m ≡ Some (names items)
alone_all items m [] none same = same ∙ ap Some (append-nil (names items))
alone_all items m (t ∷ ts) none same = absurd (omega arith)
