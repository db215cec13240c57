-- A line of tokens says what is read from it, and nothing else.
use Rattle.std.proofs.Common.{◌≡◌, ℕ, ◌≤◌, IsTrue, List, [], ◌∷◌, ◌++◌, map, Option, Some, None, refl, sym, ◌∙◌, ap, subst, append_assoc, true, false, inl, inr, if◌then◌else◌}
use Rattle.std.specs.Prelude.{codes, option_map}
use Rattle.std.specs.Str.{bytes_eq}
use Rattle.std.proofs.lemmas.List.{append-nil}
use Rattle.std.proofs.lemmas.Slice.Eq.{bytes_eq-Decides}
use Rattle.tce_space.specs.Name.{is_name}
use Rattle.tce_grammar.specs.Tokens.{Token, word, number, symbol}
use Rattle.tce_grammar.specs.Formula.{Formula}
use Rattle.tce_grammar.specs.Grammar.{Written, listed, bracketed, spelling, meaning, IsWritten, depth, AreNames, AreSome, Statement, range, index, declaration, formula, Says}
use Rattle.tce_grammar.specs.Reading.{Reads, ◌>>=◌, behind, brackets_at, formula_within, whole, edge_of, range_of, all_names, index_of, declaration_of, formula_of, statement_of}
use Rattle.tce_grammar.proofs.Chains.{some_map}
use Rattle.tce_grammar.proofs.Formulas.{no_word, brackets_read, formula_read}
use Rattle.tce_grammar.proofs.Sound.{bind_some, chosen, behind_some, AreBracketed, brackets_sound, IsSpelled, formula_sound}

-- what is said is read

all_names_read : (names : List (List ℕ)) → AreNames names → all_names (map word names) ≡ Some names
all_names_read [] are = refl
all_names_read (n ∷ ns) are = rw (are.0, all_names_read ns are.1) refl

brackets_whole : (name : List ℕ) (names : List (List ℕ)) (rest : List Token) → AreNames names
    → brackets_at (symbol 91 ∷ ((listed names ++ symbol 93 ∷ []) ++ rest)) ≡ Some (names, rest)
brackets_whole name names rest are = ap (λ (ts : List Token). brackets_at (symbol 91 ∷ ts)) (append_assoc (listed names) (symbol 93 ∷ []) rest) ∙ brackets_read names rest are

formula_of_read : (name : List ℕ) (indexes : List (List ℕ)) (w : Written) → IsTrue (is_name name) → AreNames indexes → IsWritten w → depth w ≤ 64
    → formula_of name (symbol 91 ∷ ((listed indexes ++ symbol 93 ∷ []) ++ (symbol 61 ∷ spelling w))) ≡ Some (formula name indexes (meaning w))
formula_of_read name indexes w is are written shallow =
    let read : formula_within 64 (spelling w) ≡ Some (meaning w, []) =
    ap (formula_within 64) (sym (append-nil (spelling w))) ∙ formula_read 64 w [] written shallow tt tt in
    rw (is, brackets_whole name indexes (symbol 61 ∷ spelling w) are, read) refl

pub said_read : (s : Statement) (ts : List Token) → Says ts s → statement_of ts ≡ Some s
unfolding statement_of
said_read (range name extent None) ts h = ap statement_of h.1 ∙ rw h.0 refl
said_read (range name extent (Some edge)) ts h = ap statement_of h.1 ∙ rw h.0 refl
said_read (index name []) ts h = absurd (h.1 refl)
said_read (index name (n ∷ ns)) ts h = ap statement_of h.3 ∙ rw (h.0, all_names_read (n ∷ ns) h.2) refl
said_read (declaration name ranges) ts h = ap statement_of h.2 ∙ rw (h.0, brackets_read ranges [] h.1) refl
said_read (formula name indexes f) ts h =
    let n : (bytes_eq name (codes "range") ≡ false) × (bytes_eq name (codes "tile") ≡ false) × (bytes_eq name (codes "index") ≡ false) × (bytes_eq name (codes "tensor") ≡ false) × (bytes_eq name (codes "sum") ≡ false) = no_word name h.0 in
    ap statement_of h.2.4
    ∙ rw (n.0, n.2, n.3) (formula_of_read name indexes h.2.0 h.0 h.1 h.2.1 h.2.2 ∙ ap (λ (g : Formula). Some (formula name indexes g)) h.2.3)

-- what is read is said

whole_some : {A : Type 0} (m : Reads A) (x : A) → whole m ≡ Some x → m ≡ Some (x, [])
whole_some None x e = cc
whole_some (Some (y, [])) x e = ap (λ z. Some (z, [])) cc
whole_some (Some (y, t ∷ ts)) x e = cc

edge_said : (name extent : List ℕ) (ts : List Token) (edge : Option (List ℕ)) → is_name name ≡ true → edge_of ts ≡ Some edge
    → Says (word (codes "range") ∷ word name ∷ number extent ∷ ts) (range name extent edge)
edge_said name extent [] edge is e =
    let same : None ≡ edge = cc in
    let said : Says (word (codes "range") ∷ word name ∷ number extent ∷ []) (range name extent None) = (is, refl) in
    subst (λ (x : Option (List ℕ)). Says (word (codes "range") ∷ word name ∷ number extent ∷ []) (range name extent x)) same said
edge_said name extent (word tile ∷ number d ∷ []) edge is e =
    elim (chosen (bytes_eq tile (codes "tile")) (Some (Some d)) None edge e) [
      | inl holds ↦
          let same : Some d ≡ edge = cc in
          let is_tile : tile ≡ codes "tile" = (bytes_eq-Decides tile (codes "tile")).0 holds.0 in
          let said : Says (word (codes "range") ∷ word name ∷ number extent ∷ word tile ∷ number d ∷ []) (range name extent (Some d)) =
          (is, ap (λ (t : List ℕ). word (codes "range") ∷ word name ∷ number extent ∷ word t ∷ number d ∷ []) is_tile) in
          subst (λ (x : Option (List ℕ)). Says (word (codes "range") ∷ word name ∷ number extent ∷ word tile ∷ number d ∷ []) (range name extent x)) same said
      | inr fails ↦ cc
    ]
edge_said name extent _ edge is e = cc

range_said : (ts : List Token) (s : Statement) → range_of ts ≡ Some s → Says (word (codes "range") ∷ ts) s
range_said (word name ∷ number extent ∷ ts) s e =
    elim (chosen (is_name name) (option_map (range name extent) (edge_of ts)) None s e) [
      | inl holds ↦
          let m : (edge : Option (List ℕ)) × (edge_of ts ≡ Some edge) × (range name extent edge ≡ s) = some_map _ _ _ holds.1 in
          subst (λ (x : Statement). Says (word (codes "range") ∷ word name ∷ number extent ∷ ts) x) m.2 (edge_said name extent ts m.0 holds.0 m.1)
      | inr fails ↦ cc
    ]
range_said _ s e = cc

all_names_said : (ts : List Token) (names : List (List ℕ)) → all_names ts ≡ Some names → AreNames names × (ts ≡ map word names)
all_names_said [] names e = let same : [] ≡ names = cc in subst (λ (x : List (List ℕ)). AreNames x × ([] ≡ map word x)) same (tt, refl)
all_names_said (number d ∷ ts) names e = cc
all_names_said (symbol b ∷ ts) names e = cc
all_names_said (word w ∷ ts) names e =
    elim (chosen (is_name w) (option_map (λ names. w ∷ names) (all_names ts)) None names e) [
      | inl holds ↦
          let m : (x : List (List ℕ)) × (all_names ts ≡ Some x) × (w ∷ x ≡ names) = some_map _ _ _ holds.1 in
          let rest : AreNames m.0 × (ts ≡ map word m.0) = all_names_said ts m.0 m.1 in
          let said : AreNames (w ∷ m.0) × (word w ∷ ts ≡ map word (w ∷ m.0)) = ((holds.0, rest.0), ap (λ (x : List Token). word w ∷ x) rest.1) in
          subst (λ (x : List (List ℕ)). AreNames x × (word w ∷ ts ≡ map word x)) m.2 said
      | inr fails ↦ cc
    ]

map_some : (names : List (List ℕ)) (t : Token) (ts : List Token) → t ∷ ts ≡ map word names → AreSome names
map_some [] t ts e = λ h. cc
map_some (n ∷ ns) t ts e = λ h. cc

index_said : (ts : List Token) (s : Statement) → index_of ts ≡ Some s → Says (word (codes "index") ∷ ts) s
index_said (word name ∷ word first ∷ ts) s e =
    elim (chosen (is_name name) (option_map (index name) (all_names (word first ∷ ts))) None s e) [
      | inl holds ↦
          let m : (x : List (List ℕ)) × (all_names (word first ∷ ts) ≡ Some x) × (index name x ≡ s) = some_map _ _ _ holds.1 in
          let rest : AreNames m.0 × (word first ∷ ts ≡ map word m.0) = all_names_said (word first ∷ ts) m.0 m.1 in
          let said : Says (word (codes "index") ∷ word name ∷ word first ∷ ts) (index name m.0) =
          (holds.0, map_some m.0 (word first) ts rest.1, rest.0, ap (λ (x : List Token). word (codes "index") ∷ word name ∷ x) rest.1) in
          subst (λ (x : Statement). Says (word (codes "index") ∷ word name ∷ word first ∷ ts) x) m.2 said
      | inr fails ↦ cc
    ]
index_said _ s e = cc

declaration_said : (ts : List Token) (s : Statement) → declaration_of ts ≡ Some s → Says (word (codes "tensor") ∷ ts) s
declaration_said (word name ∷ ts) s e =
    elim (chosen (is_name name) (option_map (declaration name) (whole (brackets_at ts))) None s e) [
      | inl holds ↦
          let m : (x : List (List ℕ)) × (whole (brackets_at ts) ≡ Some x) × (declaration name x ≡ s) = some_map _ _ _ holds.1 in
          let b : AreBracketed ts (m.0, []) = brackets_sound ts (m.0, []) (whole_some (brackets_at ts) m.0 m.1) in
          let said : Says (word (codes "tensor") ∷ word name ∷ ts) (declaration name m.0) =
          (holds.0, b.names, ap (λ (x : List Token). word (codes "tensor") ∷ word name ∷ x) b.spelled) in
          subst (λ (x : Statement). Says (word (codes "tensor") ∷ word name ∷ ts) x) m.2 said
      | inr fails ↦ cc
    ]
declaration_said _ s e = cc

formula_said : (name : List ℕ) (ts : List Token) (s : Statement) → formula_of name ts ≡ Some s → Says (word name ∷ ts) s
formula_said name ts s e =
    elim (chosen (is_name name) (brackets_at ts >>= λ names. behind 61 names.1 >>= λ rest. option_map (formula name names.0) (whole (formula_within 64 rest))) None s e) [
      | inl holds ↦
          let a : (names : List (List ℕ) × List Token) × (brackets_at ts ≡ Some names) × ((behind 61 names.1 >>= λ rest. option_map (formula name names.0) (whole (formula_within 64 rest))) ≡ Some s) = bind_some _ _ _ holds.1 in
          let c : (rest : List Token) × (behind 61 a.0.1 ≡ Some rest) × (option_map (formula name a.0.0) (whole (formula_within 64 rest)) ≡ Some s) = bind_some _ _ _ a.2 in
          let m : (f : Formula) × (whole (formula_within 64 c.0) ≡ Some f) × (formula name a.0.0 f ≡ s) = some_map _ _ _ c.2 in
          let b : AreBracketed ts a.0 = brackets_sound ts a.0 a.1 in
          let w : IsSpelled 1 64 c.0 (m.0, []) = formula_sound 64 c.0 (m.0, []) (whole_some (formula_within 64 c.0) m.0 m.1) in
          let spelled : word name ∷ ts ≡ bracketed name a.0.0 ++ (symbol 61 ∷ spelling w.written) =
          ap (λ (x : List Token). word name ∷ x) b.spelled
          ∙ ap (λ (x : List Token). word name ∷ symbol 91 ∷ (listed a.0.0 ++ (symbol 93 ∷ x))) (behind_some 61 a.0.1 c.0 c.1 ∙ ap (λ (x : List Token). symbol 61 ∷ x) (w.spelled ∙ append-nil (spelling w.written)))
          ∙ ap (λ (x : List Token). word name ∷ symbol 91 ∷ x) (sym (append_assoc (listed a.0.0) (symbol 93 ∷ []) (symbol 61 ∷ spelling w.written))) in
          let said : Says (word name ∷ ts) (formula name a.0.0 m.0) = (holds.0, b.names, (w.written, w.is_written, w.shallow, w.means, spelled)) in
          subst (λ (x : Statement). Says (word name ∷ ts) x) m.2 said
      | inr fails ↦ cc
    ]

pub read_said : (ts : List Token) (s : Statement) → statement_of ts ≡ Some s → Says ts s
unfolding statement_of
read_said [] s e = cc
read_said (number d ∷ ts) s e = cc
read_said (symbol b ∷ ts) s e = cc
read_said (word w ∷ ts) s e =
    elim (chosen (bytes_eq w (codes "range")) (range_of ts) (if bytes_eq w (codes "index") then index_of ts else if bytes_eq w (codes "tensor") then declaration_of ts else formula_of w ts) s e) [
      | inl holds ↦ subst (λ (v : List ℕ). Says (word v ∷ ts) s) (sym ((bytes_eq-Decides w (codes "range")).0 holds.0)) (range_said ts s holds.1)
      | inr fails ↦ elim (chosen (bytes_eq w (codes "index")) (index_of ts) (if bytes_eq w (codes "tensor") then declaration_of ts else formula_of w ts) s fails.1) [
        | inl holds ↦ subst (λ (v : List ℕ). Says (word v ∷ ts) s) (sym ((bytes_eq-Decides w (codes "index")).0 holds.0)) (index_said ts s holds.1)
        | inr neither ↦ elim (chosen (bytes_eq w (codes "tensor")) (declaration_of ts) (formula_of w ts) s neither.1) [
          | inl holds ↦ subst (λ (v : List ℕ). Says (word v ∷ ts) s) (sym ((bytes_eq-Decides w (codes "tensor")).0 holds.0)) (declaration_said ts s holds.1)
          | inr none ↦ formula_said w ts s none.1
        ]
      ]
    ]
