-- Words of one pair side by side.
use Rattle.std.proofs.Common.{◌≡◌, ◌≢◌, ◌∙◌, ◌⊎◌, ℕ, ◌+◌, ◌-◌, ◌*◌, ◌/◌, ◌%◌, ◌<◌, ◌≤◌, List, length, set, slice_index, sym, ap, arith, inl, inr}
use Rattle.std.proofs.Math.Nat.{mul-le-mul_left, mod-lt, div-add-mod}
use Rattle.std.proofs.lemmas.Bool.{cases_lt}
use Rattle.std.proofs.lemmas.Nat.{div-mul-add, mod-mul-add}
use Rattle.std.proofs.lemmas.List.{get_or-set_other}
use Rattle.std.proofs.lemmas.Grind.{get_or-set_at}
use Rattle.tce_sym.specs.declared.lines.Grid.{Grid}
use Rattle.tce_sym.specs.Storage.{stored_word}
use Rattle.tce_sym.specs.Lines.{IsAcross, ArePairs}
use Rattle.tce_sym.proofs.HeldLines.{apart}

-- where the word of a place stands
abbrev pub across : Grid → ℕ → ℕ
across g place = place % g.pairs * g.pitch + place / g.pairs

-- words of different places of the others, or of different pairs
pairs_apart : (p a b s t : ℕ) → s < p → t < p → (s ≢ t) ⊎ (a < b) → a * p + s ≢ b * p + t
pairs_apart p a b s t h l far e =
    elim (cases_lt a b) [
      | inl less ↦ apart p a b s t h l less e
      | inr past ↦ elim (cases_lt b a) [
        | inl more ↦ apart p b a t s l h more (sym e)
        | inr past' ↦ (let same : a ≡ b = omega arith in let rows : a * p ≡ b * p = ap (λ n. n * p) same in
            elim far [ inl differ ↦ differ (omega (arith, rows, e)) | inr less ↦ omega (arith, less, past) ])
      ]
    ]

pub word_within : (g : Grid) (room pair outer : ℕ) → IsAcross g room → pair < g.pairs → outer < g.others → pair * g.pitch + outer < room
word_within g room pair outer a l h =
    let row : g.pitch * (pair + 1) ≤ g.pitch * g.pairs = mul-le-mul_left g.pitch (omega arith) in
    omega (arith, row, a.apart, a.fits)

-- one word more, put beside those of other places
pub put_more : (g : Grid) (room from outer k : ℕ) (words old : List ℕ) → IsAcross g room → outer < g.others → from + k < g.pairs → length old ≡ room
    → ((j : ℕ) → j < k → slice_index old ((from + j) * g.pitch + outer) ≡ slice_index words j)
    → (j : ℕ) → j < k + 1 → slice_index (set old ((from + k) * g.pitch + outer) (slice_index words k)) ((from + j) * g.pitch + outer) ≡ slice_index words j
put_more g room from outer k words old a h l size before j less =
    elim (cases_lt j k) [
      | inl earlier ↦ get_or-set_other old ((from + k) * g.pitch + outer) ((from + j) * g.pitch + outer) (slice_index words k) 0
          (pairs_apart g.pitch (from + j) (from + k) outer outer (omega (arith, a.apart)) (omega (arith, a.apart)) (inr (omega arith))) ∙ before j earlier
      | inr past ↦ (let same : j ≡ k = omega arith in
          get_or-set_at old ((from + k) * g.pitch + outer) ((from + j) * g.pitch + outer) (slice_index words k) 0 (ap (λ n. (from + n) * g.pitch + outer) same)
          (omega (arith, size, word_within g room (from + k) outer a l h))
          ∙ ap (slice_index words) (sym same))
    ]

pub put_kept : (g : Grid) (room from outer k word : ℕ) (old : List ℕ) → IsAcross g room → outer < g.others → (other pair : ℕ) → other < g.pitch → (other ≢ outer) ⊎ (pair < from)
    → slice_index (set old ((from + k) * g.pitch + outer) word) (pair * g.pitch + other) ≡ slice_index old (pair * g.pitch + other)
put_kept g room from outer k word old a h other pair l far =
    get_or-set_other old ((from + k) * g.pitch + outer) (pair * g.pitch + other) word 0
    (pairs_apart g.pitch pair (from + k) other outer l (omega (arith, a.apart)) (elim far [ inl differ ↦ inl differ | inr less ↦ inr (omega arith) ]))

-- the words of some pairs, those of one place more
pub strip_more : (g : Grid) (room from len outer : ℕ) (bytes words old new : List ℕ) → IsAcross g room → outer < g.others → length words ≡ len
    → ((k : ℕ) → k < length words → slice_index new ((from + k) * g.pitch + outer) ≡ slice_index words k)
    → ((other pair : ℕ) → other < g.pitch → (other ≢ outer) ⊎ (pair < from) → slice_index new (pair * g.pitch + other) ≡ slice_index old (pair * g.pitch + other))
    → ((k : ℕ) → k < length words → slice_index words k ≡ stored_word bytes (outer * g.pairs + from + k))
    → ((other k : ℕ) → other < outer → k < len → slice_index old ((from + k) * g.pitch + other) ≡ stored_word bytes (other * g.pairs + (from + k)))
    → (other k : ℕ) → other < outer + 1 → k < len → slice_index new ((from + k) * g.pitch + other) ≡ stored_word bytes (other * g.pairs + (from + k))
strip_more g room from len outer bytes words old new a h size put kept read before other k less l =
    elim (cases_lt other outer) [
      | inl earlier ↦ kept other (from + k) (omega (arith, a.apart)) (inl (λ e. omega arith)) ∙ before other k earlier l
      | inr past ↦ (let same : other ≡ outer = omega arith in let at : outer * g.pairs + from + k ≡ outer * g.pairs + (from + k) = omega arith in
          ap (λ n. slice_index new ((from + k) * g.pitch + n)) same ∙ put k (omega (arith, size)) ∙ read k (omega (arith, size))
          ∙ ap (stored_word bytes) at ∙ ap (λ n. stored_word bytes (n * g.pairs + (from + k))) (sym same))
    ]

pub strip_before : (g : Grid) (room from outer : ℕ) (bytes old new : List ℕ) → IsAcross g room
    → ((other pair : ℕ) → other < g.pitch → (other ≢ outer) ⊎ (pair < from) → slice_index new (pair * g.pitch + other) ≡ slice_index old (pair * g.pitch + other))
    → ArePairs g from bytes old → ArePairs g from bytes new
strip_before g room from outer bytes old new a kept was = record {
  held = λ other pair h l. kept other pair (omega (arith, a.apart)) (inr l) ∙ was.held other pair h l;
}

pub strip_all : (g : Grid) (from len : ℕ) (bytes new : List ℕ) → ArePairs g from bytes new
    → ((other k : ℕ) → other < g.others → k < len → slice_index new ((from + k) * g.pitch + other) ≡ stored_word bytes (other * g.pairs + (from + k)))
    → ArePairs g (from + len) bytes new
strip_all g from len bytes new was read = record {
  held = λ other pair h l. elim (cases_lt pair from) [
    | inl low ↦ was.held other pair h low
    | inr high ↦ (let at : pair ≡ from + (pair - from) = omega arith in
        ap (λ n. slice_index new (n * g.pitch + other)) at ∙ read other (pair - from) h (omega arith) ∙ ap (λ n. stored_word bytes (other * g.pairs + n)) (sym at))
  ];
}

-- the word of a place
outer_within : (g : Grid) (room place : ℕ) → IsAcross g room → place < g.count → place / g.pairs < g.others
outer_within g room place a l =
    let whole = div-add-mod place g.pairs in
    elim (cases_lt (place / g.pairs) g.others) [
      | inl less ↦ less
      | inr past ↦ absurd (let rows : g.pairs * g.others ≤ g.pairs * (place / g.pairs) = mul-le-mul_left g.pairs past in omega (arith, rows, whole, a.count))
    ]

pub across_within : (g : Grid) (room place : ℕ) → IsAcross g room → place < g.count → across g place < room
across_within g room place a l = word_within g room (place % g.pairs) (place / g.pairs) a (mod-lt place a.some) (outer_within g room place a l)

pub across_held : (g : Grid) (room place : ℕ) (bytes lines : List ℕ) → IsAcross g room → place < g.count → ArePairs g g.pairs bytes lines → slice_index lines (across g place) ≡ stored_word bytes place
across_held g room place bytes lines a l held =
    let whole = div-add-mod place g.pairs in
    let at : place / g.pairs * g.pairs + place % g.pairs ≡ place = omega (arith, whole) in
    held.held (place / g.pairs) (place % g.pairs) (outer_within g room place a l) (mod-lt place a.some) ∙ ap (stored_word bytes) at

-- the words of a pair at places that follow each other
pub across_step : (g : Grid) (room place k : ℕ) → IsAcross g room → across g (place + g.pairs * k) ≡ across g place + k
across_step g room place k a =
    let whole = div-add-mod place g.pairs in
    let short : place % g.pairs < g.pairs = mod-lt place a.some in
    let at : place + g.pairs * k ≡ (place / g.pairs + k) * g.pairs + place % g.pairs = omega (arith, whole) in
    let q : (place + g.pairs * k) / g.pairs ≡ place / g.pairs + k = ap (λ n. n / g.pairs) at ∙ div-mul-add (place / g.pairs + k) g.pairs (place % g.pairs) short in
    let r : (place + g.pairs * k) % g.pairs ≡ place % g.pairs = ap (λ n. n % g.pairs) at ∙ mod-mul-add (place / g.pairs + k) g.pairs (place % g.pairs) short in
    let row : (place + g.pairs * k) % g.pairs * g.pitch ≡ place % g.pairs * g.pitch = ap (λ n. n * g.pitch) r in
    omega (arith, q, row)
