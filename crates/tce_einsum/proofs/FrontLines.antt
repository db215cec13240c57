-- The lines of a produced text in front of its formula.
use Rattle.std.proofs.Common.{◌≡◌, ℕ, Bool, true, false, cond, List, [], ◌∷◌, ◌++◌, map, refl, sym, ap, ◌∙◌, append_assoc}
use Rattle.std.specs.List.{slice_split, onto_first}
use Rattle.std.proofs.lemmas.List.{map-append}
use Rattle.tce_grammar.specs.Lines.{lines, ended, without_return}
use Rattle.tce_grammar.specs.Grammar.{Line, Statement, says}
use Rattle.tce_grammar.specs.Canonical.{canonical_line, canonical_text, AreStatements}
use Rattle.tce_grammar.specs.Reading.{line_of}
use Rattle.tce_grammar.proofs.FirstLines.{feed, split_some, ended_more, lines_none}
use Rattle.tce_grammar.proofs.CanonicalLines.{canonical_text_says}
use Rattle.tce_spec.proofs.Readings.{lines_of, lines_only}

-- the parts of two texts with a line feed between them
parts_joined : (a b : List ℕ) → slice_split feed (a ++ 10 ∷ b) ≡ slice_split feed a ++ slice_split feed b
parts_joined [] b = refl
parts_joined (x ∷ a) b = by_feed (feed x) (parts_joined a b)
  where
    onto_joined : onto_first x (slice_split feed a ++ slice_split feed b) ≡ onto_first x (slice_split feed a) ++ slice_split feed b
    onto_joined =
        let s : (n : List ℕ) × (ns : List (List ℕ)) × (slice_split feed a ≡ n ∷ ns) = split_some a in
        ap (λ (ps : List (List ℕ)). onto_first x (ps ++ slice_split feed b)) s.2 ∙ sym (ap (λ (ps : List (List ℕ)). onto_first x ps ++ slice_split feed b) s.2)

    by_feed : (d : Bool) → slice_split feed (a ++ 10 ∷ b) ≡ slice_split feed a ++ slice_split feed b
        → cond d ([] ∷ slice_split feed (a ++ 10 ∷ b)) (onto_first x (slice_split feed (a ++ 10 ∷ b)))
        ≡ cond d ([] ∷ slice_split feed a) (onto_first x (slice_split feed a)) ++ slice_split feed b
    by_feed true behind = ap (λ (ps : List (List ℕ)). [] ∷ ps) behind
    by_feed false behind = ap (onto_first x) behind ∙ onto_joined

joined_some : (ps qs : List (List ℕ)) (q : List ℕ) (rest : List (List ℕ)) → qs ≡ q ∷ rest → (n : List ℕ) × (ns : List (List ℕ)) × (ps ++ qs ≡ n ∷ ns)
joined_some [] qs q rest e = (q, rest, e)
joined_some (p ∷ ps) qs q rest e = (p, ps ++ qs, refl)

ended_joined : (ps qs : List (List ℕ)) (q : List ℕ) (rest : List (List ℕ)) → qs ≡ q ∷ rest → ended (ps ++ qs) ≡ map without_return ps ++ ended qs
ended_joined [] qs q rest e = refl
ended_joined (p ∷ ps) qs q rest e =
    let s = joined_some ps qs q rest e in
    ended_more p (ps ++ qs) s.0 s.1 s.2 ∙ ap (λ (ls : List (List ℕ)). without_return p ∷ ls) (ended_joined ps qs q rest e)

lines_joined : (a b : List ℕ) → lines (a ++ 10 ∷ b) ≡ map without_return (slice_split feed a) ++ lines b
unfolding lines
lines_joined a b =
    let s : (n : List ℕ) × (ns : List (List ℕ)) × (slice_split feed b ≡ n ∷ ns) = split_some b in
    ap ended (parts_joined a b) ∙ ended_joined (slice_split feed a) (slice_split feed b) s.0 s.1 s.2

-- the lines of statements, and of what stands behind them
front_apart : (ss : List Statement) (rest : List ℕ) → lines (canonical_text ss ++ rest) ≡ lines (canonical_text ss) ++ lines rest
front_apart [] rest = ap (λ (ls : List (List ℕ)). ls ++ lines rest) (sym lines_none)
front_apart (s ∷ ss) rest =
    let line : List ℕ = canonical_line s in
    let first : List (List ℕ) = map without_return (slice_split feed line) in
    let behind : List ℕ = canonical_text ss in
    let whole : canonical_text (s ∷ ss) ≡ line ++ 10 ∷ behind = append_assoc line (10 ∷ []) behind in
    ap (λ (text : List ℕ). lines (text ++ rest)) whole
    ∙ ap lines (append_assoc line (10 ∷ behind) rest)
    ∙ lines_joined line (behind ++ rest)
    ∙ ap (λ (ls : List (List ℕ)). first ++ ls) (front_apart ss rest)
    ∙ sym (append_assoc first (lines behind) (lines rest))
    ∙ ap (λ (ls : List (List ℕ)). ls ++ lines rest) (sym (lines_joined line behind) ∙ sym (ap lines whole))

texts_joined : (xs ys : List Statement) → canonical_text (xs ++ ys) ≡ canonical_text xs ++ canonical_text ys
texts_joined [] ys = refl
texts_joined (s ∷ ss) ys =
    let line : List ℕ = canonical_line s ++ 10 ∷ [] in
    ap (λ (text : List ℕ). line ++ text) (texts_joined ss ys) ∙ sym (append_assoc line (canonical_text ss) (canonical_text ys))

-- what the lines of statements say
pub says_all : (ss : List Statement) → AreStatements ss → lines_of (canonical_text ss) ≡ map says ss
says_all ss are = sym (lines_only (lines (canonical_text ss)) (map says ss) (canonical_text_says ss are))

pub says_front : (front rest : List Statement) → AreStatements front → lines_of (canonical_text (front ++ rest)) ≡ map says front ++ lines_of (canonical_text rest)
says_front front rest are =
    ap lines_of (texts_joined front rest)
    ∙ ap (map line_of) (front_apart front (canonical_text rest))
    ∙ map-append line_of (lines (canonical_text front)) (lines (canonical_text rest))
    ∙ ap (λ (ls : List Line). ls ++ lines_of (canonical_text rest)) (says_all front are)
