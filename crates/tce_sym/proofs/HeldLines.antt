-- Lines of stored words.
use Rattle.std.proofs.Common.{◌≡◌, ◌≢◌, ◌∙◌, ℕ, zero, suc, ◌+◌, ◌-◌, ◌*◌, ◌<◌, ◌≤◌, List, length, set, take, drop, replicate, slice_index, refl, sym, ap, subst, arith, inl, inr}
use Rattle.std.proofs.Math.Nat.{mul-le-mul_left}
use Rattle.std.proofs.lemmas.Bool.{cases_lt}
use Rattle.std.proofs.lemmas.List.{get_or-set_other, get_or-take, get_or-drop, length-take-le, length-drop}
use Rattle.std.proofs.lemmas.Grind.{get_or-set_at}
use borrow.Rule.Slice.PartMut.{put_mid}
use Rattle.tce_base.specs.Word.{word_of_bytes}
use Rattle.tce_tools.proofs.Shuffles.{copied, kept}
use Rattle.tce_array.specs.declared.form.Form.TheVariants.{One}
use Rattle.tce_array.specs.Forms.{width, word_in}
use Rattle.tce_sym.specs.declared.lines.Grid.{Grid}
use Rattle.tce_sym.specs.Storage.{stored_word}
use Rattle.tce_sym.specs.Lines.{IsGrid, AreLines}

pub no_mark : (n slot : ℕ) → slice_index (replicate {A = ℕ} n 0) slot ≡ 0
no_mark zero slot = refl
no_mark (suc n) zero = refl
no_mark (suc n) (suc slot) = no_mark n slot

pub none_held : (n : ℕ) (lines : List ℕ) → lines ≡ replicate {A = ℕ} n 0 → (g : Grid) (bytes : List ℕ) → AreLines g bytes lines
none_held n lines is g bytes = record {
  held = λ slot start k h l marked inside. absurd (let none : slice_index lines slot ≡ 0 = ap (λ ms. slice_index ms slot) is ∙ no_mark n slot in omega arith);
}

-- where a slot and its words are
pub slot_within : (g : Grid) (room slot : ℕ) → IsGrid g room → slot ≤ g.last → slot < room
slot_within g room slot is h =
    let row : g.pitch * 1 ≤ g.pitch * (g.line + 1) = mul-le-mul_left g.pitch (omega arith) in
    omega (arith, row, is.apart, is.fits)

pub word_within : (g : Grid) (room slot k : ℕ) → IsGrid g room → slot ≤ g.last → k < g.line → (1 + k) * g.pitch + slot < room
word_within g room slot k is h l =
    let row : g.pitch * (k + 2) ≤ g.pitch * (g.line + 1) = mul-le-mul_left g.pitch (omega arith) in
    omega (arith, row, is.apart, is.fits)

-- a word below the marks
below : (g : Grid) (room slot k : ℕ) → IsGrid g room → slot ≤ g.last → (i : ℕ) → i ≤ g.last → i ≢ (1 + k) * g.pitch + slot
below g room slot k is h i l e =
    let row : g.pitch * 1 ≤ g.pitch * (1 + k) = mul-le-mul_left g.pitch (omega arith) in
    omega (arith, row, is.apart, e)

-- words of different slots, or different words of one
pub apart : (p a b s t : ℕ) → s < p → t < p → a < b → a * p + s ≢ b * p + t
apart p a b s t h l less e =
    let row : p * (a + 1) ≤ p * b = mul-le-mul_left p (omega arith) in
    omega (arith, row, e, h)

others_apart : (g : Grid) (room : ℕ) → IsGrid g room → (a b s t : ℕ) → s ≤ g.last → t ≤ g.last → s ≢ t → (1 + a) * g.pitch + s ≢ (1 + b) * g.pitch + t
others_apart g room is a b s t h l differ e =
    elim (cases_lt a b) [
      | inl less ↦ apart g.pitch (1 + a) (1 + b) s t (omega (arith, is.apart)) (omega (arith, is.apart)) (omega arith) e
      | inr past ↦ elim (cases_lt b a) [
        | inl less ↦ apart g.pitch (1 + b) (1 + a) t s (omega (arith, is.apart)) (omega (arith, is.apart)) (omega arith) (sym e)
        | inr past' ↦ (let same : a ≡ b = omega arith in let rows : (1 + a) * g.pitch ≡ (1 + b) * g.pitch = ap (λ n. (1 + n) * g.pitch) same in differ (omega (arith, rows, e)))
      ]
    ]

words_apart : (g : Grid) (room : ℕ) → IsGrid g room → (a b s : ℕ) → s ≤ g.last → a < b → (1 + a) * g.pitch + s ≢ (1 + b) * g.pitch + s
words_apart g room is a b s h less = apart g.pitch (1 + a) (1 + b) s s (omega (arith, is.apart)) (omega (arith, is.apart)) (omega arith)

-- a slot without its mark
pub unmarked_kept : (g : Grid) (room slot : ℕ) (bytes old : List ℕ) → IsGrid g room → slot ≤ g.last → slot < length old → AreLines g bytes old → AreLines g bytes (set old slot 0)
unmarked_kept g room slot bytes old is h room' before = record {
  held = λ slot' start k h' l marked inside.
      elim (cases_lt slot' slot) [
        | inl less ↦ other slot' start k h' l marked inside (λ e. omega arith)
        | inr past ↦ elim (cases_lt slot slot') [
          | inl less ↦ other slot' start k h' l marked inside (λ e. omega arith)
          | inr past' ↦ absurd (let same : slot' ≡ slot = omega arith in let none = get_or-set_at old slot slot' 0 0 same room' in omega (arith, none, marked))
        ]
      ];
}
  where
    other : (slot' start k : ℕ) → slot' ≤ g.last → k < g.line → slice_index (set old slot 0) slot' ≡ start + 1 → start + k < g.count → slot' ≢ slot
        → slice_index (set old slot 0) ((1 + k) * g.pitch + slot') ≡ stored_word bytes (start + k)
    other slot' start k h' l marked inside differ =
        get_or-set_other old slot ((1 + k) * g.pitch + slot') 0 0 (λ e. below g room slot' k is h' slot h (sym e))
        ∙ before.held slot' start k h' l (sym (get_or-set_other old slot slot' 0 0 differ) ∙ marked) inside

-- a word of a slot without its mark
pub word_kept : (g : Grid) (room slot j word : ℕ) (bytes old : List ℕ) → IsGrid g room → slot ≤ g.last → slice_index old slot ≡ 0 → AreLines g bytes old
    → AreLines g bytes (set old ((1 + j) * g.pitch + slot) word)
word_kept g room slot j word bytes old is h none before = record {
  held = λ slot' start k h' l marked inside.
      let mark : slice_index old slot' ≡ start + 1 = sym (get_or-set_other old ((1 + j) * g.pitch + slot) slot' word 0 (below g room slot j is h slot' h')) ∙ marked in
      let differ : slot' ≢ slot = λ e. (let same : slice_index old slot' ≡ slice_index old slot = ap (slice_index old) e in omega (arith, same, mark, none)) in
      get_or-set_other old ((1 + j) * g.pitch + slot) ((1 + k) * g.pitch + slot') word 0 (others_apart g room is k j slot' slot h' h differ)
      ∙ before.held slot' start k h' l mark inside;
}

pub still_unmarked : (g : Grid) (room slot j word : ℕ) (old : List ℕ) → IsGrid g room → slot ≤ g.last → slice_index old slot ≡ 0 → slice_index (set old ((1 + j) * g.pitch + slot) word) slot ≡ 0
still_unmarked g room slot j word old is h none = get_or-set_other old ((1 + j) * g.pitch + slot) slot word 0 (below g room slot j is h slot h) ∙ none

pub one_more : (g : Grid) (room slot j : ℕ) (words old : List ℕ) → IsGrid g room → slot ≤ g.last → j < g.line → length old ≡ room
    → ((i : ℕ) → i < j → slice_index old ((1 + i) * g.pitch + slot) ≡ slice_index words i)
    → (i : ℕ) → i < j + 1 → slice_index (set old ((1 + j) * g.pitch + slot) (slice_index words j)) ((1 + i) * g.pitch + slot) ≡ slice_index words i
one_more g room slot j words old is h l size before i less =
    elim (cases_lt i j) [
      | inl earlier ↦ get_or-set_other old ((1 + j) * g.pitch + slot) ((1 + i) * g.pitch + slot) (slice_index words j) 0 (words_apart g room is i j slot h earlier) ∙ before i earlier
      | inr past ↦ (let same : i ≡ j = omega arith in
          get_or-set_at old ((1 + j) * g.pitch + slot) ((1 + i) * g.pitch + slot) (slice_index words j) 0 (ap (λ n. (1 + n) * g.pitch + slot) same) (omega (arith, size, word_within g room slot j is h l))
          ∙ ap (slice_index words) (sym same))
    ]

-- the mark of a slot that has its words
pub line_put : (g : Grid) (room slot start : ℕ) (bytes words old : List ℕ) → IsGrid g room → slot ≤ g.last → slot < length old → ((k : ℕ) → k < g.line → start + k < g.count → k < length words)
    → ((k : ℕ) → k < length words → slice_index old ((1 + k) * g.pitch + slot) ≡ slice_index words k) → ((k : ℕ) → k < length words → slice_index words k ≡ stored_word bytes (start + k))
    → AreLines g bytes old → AreLines g bytes (set old slot (start + 1))
line_put g room slot start bytes words old is h room' whole put read before = record {
  held = λ slot' start' k h' l marked inside.
      elim (cases_lt slot' slot) [
        | inl less ↦ other slot' start' k h' l marked inside (λ e. omega arith)
        | inr past ↦ elim (cases_lt slot slot') [
          | inl less ↦ other slot' start' k h' l marked inside (λ e. omega arith)
          | inr past' ↦ this slot' start' k l marked inside (omega arith)
        ]
      ];
}
  where
    other : (slot' start' k : ℕ) → slot' ≤ g.last → k < g.line → slice_index (set old slot (start + 1)) slot' ≡ start' + 1 → start' + k < g.count → slot' ≢ slot
        → slice_index (set old slot (start + 1)) ((1 + k) * g.pitch + slot') ≡ stored_word bytes (start' + k)
    other slot' start' k h' l marked inside differ =
        get_or-set_other old slot ((1 + k) * g.pitch + slot') (start + 1) 0 (λ e. below g room slot' k is h' slot h (sym e))
        ∙ before.held slot' start' k h' l (sym (get_or-set_other old slot slot' (start + 1) 0 differ) ∙ marked) inside

    this : (slot' start' k : ℕ) → k < g.line → slice_index (set old slot (start + 1)) slot' ≡ start' + 1 → start' + k < g.count → slot' ≡ slot
        → slice_index (set old slot (start + 1)) ((1 + k) * g.pitch + slot') ≡ stored_word bytes (start' + k)
    this slot' start' k l marked inside e =
        let mark = get_or-set_at old slot slot' (start + 1) 0 e room' in
        let start_is : start' ≡ start = omega (arith, mark, marked) in
        let first : k < length words = whole k l (subst (λ (n : ℕ). n + k < g.count) start_is inside) in
        ap (λ n. slice_index (set old slot (start + 1)) ((1 + k) * g.pitch + n)) e
        ∙ get_or-set_other old slot ((1 + k) * g.pitch + slot) (start + 1) 0 (λ same. below g room slot k is h slot h (sym same))
        ∙ put k first ∙ read k first ∙ ap (λ n. stored_word bytes (n + k)) (sym start_is)

-- the word at a place
pub held_word : (g : Grid) (bytes lines : List ℕ) (slot place mark : ℕ) → slot ≤ g.last → place < g.count → mark ≡ slice_index lines slot → 0 < mark → mark ≤ place + 1 → place + 1 - mark < g.line → AreLines g bytes lines
    → slice_index lines ((1 + (place + 1 - mark)) * g.pitch + slot) ≡ stored_word bytes place
held_word g bytes lines slot place mark h l is some before near held =
    let whole : mark - 1 + (place + 1 - mark) ≡ place = omega arith in
    held.held slot (mark - 1) (place + 1 - mark) h near (omega arith) (omega arith)
    ∙ ap (stored_word bytes) whole

-- the words that are read
pub line_read : (bytes ws : List ℕ) (start : ℕ) → ((k : ℕ) → k < length ws → slice_index ws k ≡ word_in One (drop (32 + 8 * start + width One * k) bytes))
    → (k : ℕ) → k < length ws → slice_index ws k ≡ stored_word bytes (start + k)
unfolding word_in
line_read bytes ws start values k l =
    let byte : 32 + 8 * start + 8 * k ≡ 32 + 8 * (start + k) = omega arith in
    values k l ∙ ap (λ n. word_of_bytes 8 (drop n bytes)) byte

-- words from one on
pub part_read : (bytes ws : List ℕ) (start from n : ℕ) → from + n ≤ length ws → ((k : ℕ) → k < length ws → slice_index ws k ≡ stored_word bytes (start + k))
    → (k : ℕ) → k < length (take n (drop from ws)) → slice_index (take n (drop from ws)) k ≡ stored_word bytes (start + from + k)
part_read bytes ws start from n room read k l =
    let behind = length-drop from ws in
    let size = length-take-le n (drop from ws) (omega (arith, behind)) in
    let at : start + (from + k) ≡ start + from + k = omega arith in
    get_or-take n (drop from ws) k 0 (omega (arith, size)) ∙ get_or-drop from ws k 0 ∙ read (from + k) (omega (arith, size)) ∙ ap (stored_word bytes) at

-- words put behind the first ones
pub words_more : (bytes : List ℕ) (done len : ℕ) (old ws : List ℕ) → length ws ≡ len → done + len ≤ length old → ((k : ℕ) → k < length ws → slice_index ws k ≡ stored_word bytes (done + k))
    → ((k : ℕ) → k < done → slice_index old k ≡ stored_word bytes k) → (k : ℕ) → k < done + len → slice_index (put_mid done (done + len - done) old ws) k ≡ stored_word bytes k
words_more bytes done len old ws size room read before k l =
    elim (cases_lt k done) [
      | inl low ↦ kept done (done + len - done) old ws k (omega (arith, size)) (omega (arith, size)) (inl low) ∙ before k low
      | inr high ↦ (let at : k ≡ done + (k - done) = omega arith in
          ap (slice_index (put_mid done (done + len - done) old ws)) at
          ∙ copied done (done + len - done) old ws (k - done) (omega (arith, size)) (omega (arith, size)) (omega (arith, size))
          ∙ read (k - done) (omega (arith, size)) ∙ ap (stored_word bytes) (sym at))
    ]
