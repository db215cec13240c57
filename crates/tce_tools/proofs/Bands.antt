-- Which elements and words are a band.
use Rattle.std.proofs.Common.{◌≡◌, ◌∙◌, ℕ, zero, suc, ◌+◌, ◌-◌, ◌*◌, ◌/◌, ◌%◌, ◌<◌, ◌≤◌, List, [], ◌∷◌, length, drop, get_or, refl, sym, ap, subst, arith}
use Rattle.std.specs.Int.{div_ceil}
use Rattle.std.proofs.Math.Nat.{mul-le-mul_left}
use Rattle.std.proofs.lemmas.Nat.{mod_below, div-add-mod', same_from_place}
use Rattle.tce_space.specs.Box.{product, place, IsInside}
use Rattle.tce_space.specs.Tiling.{Tiling, IsTiling, ArePositive, counts_along, tile_counts, tile_words, tile_number, place_in_tile, word_number, elements, padded_words}
use Rattle.tce_space.proofs.Counts.{positive_at, count_at, length-counts_along, elements_le, counts_positive, sizes_positive}
use Rattle.tce_space.proofs.Products.{product_positive, drop_positive}
use Rattle.tce_space.proofs.Tilings.{place_in_tile-lt}
use Rattle.tce_tools.specs.declared.band.Band.{Band}
use Rattle.tce_tools.specs.declared.band.Behind.{Behind}
use Rattle.tce_tools.specs.Runs.{IsRowMajor}
use Rattle.tce_tools.specs.Bands.{IsBand, IsBehind}
use Rattle.tce_tools.proofs.Coords.{smaller, product_more}
use Rattle.tce_tools.proofs.Steps.{IsBounded, bounded, place_behind}

counts_behind : (ns es : List ℕ) (d : ℕ) → length es ≡ length ns → drop d (counts_along ns es) ≡ counts_along (drop d ns) (drop d es)
counts_behind ns es zero l = refl
counts_behind [] [] (suc d) l = refl
counts_behind [] (e ∷ es) (suc d) l = absurd (omega arith)
counts_behind (n ∷ ns) [] (suc d) l = absurd (omega arith)
counts_behind (n ∷ ns) (e ∷ es) (suc d) l = counts_behind ns es d (omega arith)

length_behind : (ns es : List ℕ) (d : ℕ) → length es ≡ length ns → length (drop d es) ≡ length (drop d ns)
length_behind ns es zero l = l
length_behind [] [] (suc d) l = refl
length_behind [] (e ∷ es) (suc d) l = absurd (omega arith)
length_behind (n ∷ ns) [] (suc d) l = absurd (omega arith)
length_behind (n ∷ ns) (e ∷ es) (suc d) l = length_behind ns es d (omega arith)

-- one dimension less
pub record IsNext (s : Tiling) (ns es : List ℕ) (d elements tiles words count : ℕ) : Type 0 where
  pub elements_are : elements / get_or ns d 0 ≡ product (drop (d + 1) s.extents)
  pub tiles_are : tiles / count ≡ product (drop (d + 1) (tile_counts s))
  pub words_are : words / get_or es d 0 ≡ product (drop (d + 1) s.edges)
  pub some_words : 0 < words / get_or es d 0

quotient_behind : (ns : List ℕ) (d rest : ℕ) → d < length ns → ArePositive ns → rest ≡ product (drop d ns) → rest / get_or ns d 0 ≡ product (drop (d + 1) ns)
quotient_behind ns d rest l p is = smaller (get_or ns d 0) (product (drop (d + 1) ns)) rest (is ∙ product_more ns d l) (positive_at ns d p l)

pub next_dimension : (s : Tiling) (ns es : List ℕ) (d elements tiles words count : ℕ) → IsTiling s → ns ≡ s.extents → es ≡ s.edges → d < length ns
    → elements ≡ product (drop d s.extents) → tiles ≡ product (drop d (tile_counts s)) → words ≡ product (drop d s.edges) → count ≡ div_ceil (get_or ns d 0) (get_or es d 0) → IsNext s ns es d elements tiles words count
next_dimension s ns es d elements tiles words count t extents_are edges_are l e_is t_is w_is count_is =
    let within : d < length s.extents = omega (arith, ap length extents_are) in
    let n : get_or ns d 0 ≡ get_or s.extents d 0 = ap (λ l. get_or l d 0) extents_are in
    let e : get_or es d 0 ≡ get_or s.edges d 0 = ap (λ l. get_or l d 0) edges_are in
    let c : count ≡ get_or (tile_counts s) d 0 = count_is ∙ ap (λ m. div_ceil m (get_or es d 0)) n ∙ ap (div_ceil (get_or s.extents d 0)) e ∙ sym (count_at s.extents s.edges d t.same_rank within) in
    let words_is = ap (λ m. words / m) e ∙ quotient_behind s.edges d words (omega (arith, t.same_rank)) t.positive w_is in
    record {
      elements_are = ap (λ m. elements / m) n ∙ quotient_behind s.extents d elements within (sizes_positive s.extents t.sizes) e_is;
      tiles_are = ap (λ m. tiles / m) c ∙ quotient_behind (tile_counts s) d tiles (omega (arith, length-counts_along s.extents s.edges t.same_rank)) (counts_positive s.extents s.edges t.sizes t.positive) t_is;
      words_are = words_is;
      some_words = omega (arith, words_is, product_positive (drop (d + 1) s.edges) (drop_positive s.edges (d + 1) t.positive));
    }

pub edge_at : (s : Tiling) (es : List ℕ) (d n : ℕ) → IsTiling s → es ≡ s.edges → n ≡ length s.extents → d < n → 0 < get_or es d 0
edge_at s es d n t is count l = omega (arith, ap (λ l. get_or l d 0) is, positive_at s.edges d t.positive (omega (arith, t.same_rank)))

-- a step's numbers
pub record IsStep (s : Tiling) (behind : Behind) : Type 0 where
  pub some_elements : 0 < behind.elements
  pub some_tiles : 0 < behind.tiles
  pub some_words : 0 < behind.words
  pub few : behind.elements ≤ behind.words * behind.tiles

pub step : (s : Tiling) (behind : Behind) → IsTiling s → IsBehind s behind → IsStep s behind
step s behind t b =
    let d : ℕ = behind.dimension + 1 in
    let ns : List ℕ = s.extents in
    let es : List ℕ = s.edges in
    let enough : product (drop d ns) ≤ product (drop d es) * product (counts_along (drop d ns) (drop d es)) = elements_le (drop d ns) (drop d es) (length_behind ns es d t.same_rank) (drop_positive es d t.positive) in
    let tiles : behind.tiles ≡ product (counts_along (drop d ns) (drop d es)) = b.tiles ∙ ap product (counts_behind ns es d t.same_rank) in
    let all : behind.words * behind.tiles ≡ product (drop d es) * product (counts_along (drop d ns) (drop d es)) = ap (λ w. w * behind.tiles) b.words ∙ ap (λ c. product (drop d es) * c) tiles in
    record {
      some_elements = omega (arith, b.elements, product_positive (drop d ns) (drop_positive ns d (sizes_positive ns t.sizes)));
      some_tiles = omega (arith, b.tiles, product_positive (drop d (tile_counts s)) (drop_positive (tile_counts s) d (counts_positive ns es t.sizes t.positive)));
      some_words = omega (arith, b.words, product_positive (drop d es) (drop_positive es d t.positive));
      few = omega (arith, enough, all, b.elements);
    }

-- steps that fit the longest band
pub record IsShort (n t w steps : ℕ) : Type 0 where
  pub some : 0 < steps * n
  pub len : steps * n ≤ 32768
  pub piece_len : steps * w ≤ 32768
  pub all : t * (steps * w) ≤ 32768

pub times_some : (a b : ℕ) → 0 < a → 0 < b → 0 < a * b
times_some a b h k = let one : 1 ≤ a = omega arith in omega (arith, mul-le-mul_left b one)

pub short_steps : (n t w steps : ℕ) → 0 < n → 0 < t → n ≤ w * t → 0 < steps → 0 < t * w → steps ≤ 32768 / (t * w) → IsShort n t w steps
short_steps n t w steps some_n some_t few some_steps some le =
    let back : 32768 / (t * w) * (t * w) ≤ 32768 = omega (arith, div-add-mod' 32768 (t * w)) in
    let most : (t * w) * steps ≤ (t * w) * (32768 / (t * w)) = mul-le-mul_left (t * w) le in
    let elements : steps * n ≤ steps * (w * t) = mul-le-mul_left steps few in
    let one : 1 ≤ t = omega arith in
    let words : (steps * w) * 1 ≤ (steps * w) * t = mul-le-mul_left (steps * w) one in
    record {
      some = times_some steps n some_steps some_n;
      len = omega (arith, elements, most, back);
      piece_len = omega (arith, words, most, back);
      all = omega (arith, most, back);
    }

pub some_step : (m : ℕ) → 0 < m → m ≤ 32768 → 0 < 32768 / m
some_step m some le =
    let back = div-add-mod' 32768 m in
    let left = mod_below 32768 m some in
    nonzero (32768 / m) m (32768 % m) back left le
  where
    nonzero : (q m r : ℕ) → q * m + r ≡ 32768 → r < m → m ≤ 32768 → 0 < q
    nonzero zero m r e l h = absurd (omega arith)
    nonzero (suc q) m r e l h = omega arith

-- the words of tiles and places in them, and back
tiles_are_band : (s : Tiling) (band : Band) (tile inner : ℕ) → IsTiling s → elements s ≤ padded_words s
    → IsBounded s.extents s.edges band.start band.len tile band.pieces inner band.piece_len → band.word ≡ tile_words s * tile + inner → band.stride ≡ tile_words s
    → 0 < band.len → band.len ≤ 32768 → band.pieces * band.piece_len ≤ 32768 → IsBand s band
tiles_are_band s band tile inner t few b word_is stride_is some short small = record {
  tiling = t;
  few = few;
  some = some;
  short = short;
  small = small;
  inside = b.inside;
  apart = omega (arith, b.words_in, stride_is);
  room = λ piece lt.
      let last : w * (tile + piece + 1) ≤ w * product (tile_counts s) = mul-le-mul_left w (omega (arith, b.tiles_in, lt)) in
      let across : piece * band.stride ≡ piece * w = ap (λ z. piece * z) stride_is in
      omega (arith, last, across, word_is, b.words_in);
  word = λ xs h low high.
      let i = b.to xs h low high in
      let piece : ℕ = tile_number s xs - tile in
      let tile_is : tile_number s xs ≡ tile + (tile_number s xs - tile) = omega (arith, i.0) in
      let all : w * tile_number s xs ≡ w * (tile + (tile_number s xs - tile)) = ap (λ z. w * z) tile_is in
      let across : (tile_number s xs - tile) * band.stride ≡ (tile_number s xs - tile) * w = ap (λ z. (tile_number s xs - tile) * z) stride_is in (
        (tile_number s xs - tile) * band.piece_len + (place_in_tile s xs - inner),
        record {
          piece = tile_number s xs - tile;
          offset = place_in_tile s xs - inner;
          among = omega (arith, i);
          within = omega (arith, i);
          word_is = omega (arith, word_is, all, across, i.2);
          index_is = refl;
        },
      );
  element = λ xs h index at.
      let across : at.piece * band.stride ≡ at.piece * w = ap (λ z. at.piece * z) stride_is in
      let turned : tile_number s xs * w + place_in_tile s xs ≡ (tile + at.piece) * w + (inner + at.offset) = omega (arith, at.word_is, word_is, across) in
      let both = same_from_place (tile_number s xs) (place_in_tile s xs) (tile + at.piece) (inner + at.offset) w (place_in_tile-lt s xs t.same_rank t.positive h) (omega (arith, at.within, b.words_in)) turned in
      b.from xs h (omega (arith, both.0), omega (arith, both.0, at.among), omega (arith, both.1), omega (arith, both.1, at.within));
}
  where
    w : ℕ
    w = tile_words s

-- the band of some steps
pub steps_are_band : (s : Tiling) (behind : Behind) (coords : List ℕ) (band : Band) (steps : ℕ) → IsTiling s → elements s ≤ padded_words s → IsBehind s behind → IsInside s.extents coords
    → place s.extents coords ≡ band.start → band.start % behind.elements ≡ 0 → 0 < steps → steps ≤ 32768 / (behind.tiles * behind.words)
    → get_or coords behind.dimension 0 + steps ≤ get_or s.extents behind.dimension 0
    → get_or coords behind.dimension 0 % get_or s.edges behind.dimension 0 + steps ≤ get_or s.edges behind.dimension 0
    → band.len ≡ steps * behind.elements → band.word ≡ word_number s coords → band.pieces ≡ behind.tiles → band.piece_len ≡ steps * behind.words → band.stride ≡ tile_words s → IsBand s band
steps_are_band s behind coords band steps t few b h start first some most in_array in_tile len_is word_is pieces_is piece_len_is stride_is =
    tiles_are_band s band (tile_number s coords) (place_in_tile s coords) t few told word_is stride_is (omega (arith, len_is, sizes.some)) (omega (arith, len_is, sizes.len))
    (let turned : band.pieces * band.piece_len ≡ behind.tiles * (steps * behind.words) = ap (λ z. z * band.piece_len) pieces_is ∙ ap (λ z. behind.tiles * z) piece_len_is in omega (arith, turned, sizes.all))
  where
    d : ℕ
    d = behind.dimension

    next : suc d ≡ d + 1
    next = omega arith

    one : IsStep s behind
    one = step s behind t b

    sizes : IsShort behind.elements behind.tiles behind.words steps
    sizes = short_steps behind.elements behind.tiles behind.words steps one.some_elements one.some_tiles one.few some (times_some behind.tiles behind.words one.some_tiles one.some_words) most

    last : place (drop (suc d) s.extents) (drop (suc d) coords) ≡ 0
    last =
        sym (place_behind s.extents coords (suc d) h)
        ∙ ap (λ n. place s.extents coords % product (drop n s.extents)) next
        ∙ ap (λ n. place s.extents coords % n) (sym b.elements)
        ∙ ap (λ p. p % behind.elements) start
        ∙ first

    elements_are : steps * product (drop (suc d) s.extents) ≡ band.len
    elements_are = ap (λ n. steps * product (drop n s.extents)) next ∙ ap (λ n. steps * n) (sym b.elements) ∙ sym len_is

    tiles_are : product (drop (suc d) (tile_counts s)) ≡ band.pieces
    tiles_are = ap (λ n. product (drop n (tile_counts s))) next ∙ sym b.tiles ∙ sym pieces_is

    words_are : steps * product (drop (suc d) s.edges) ≡ band.piece_len
    words_are = ap (λ n. steps * product (drop n s.edges)) next ∙ ap (λ n. steps * n) (sym b.words) ∙ sym piece_len_is

    told : IsBounded s.extents s.edges band.start band.len (tile_number s coords) band.pieces (place_in_tile s coords) band.piece_len
    told =
        subst (λ n. IsBounded s.extents s.edges n band.len (tile_number s coords) band.pieces (place_in_tile s coords) band.piece_len) start
        (subst (λ n. IsBounded s.extents s.edges (place s.extents coords) n (tile_number s coords) band.pieces (place_in_tile s coords) band.piece_len) elements_are
        (subst (λ n. IsBounded s.extents s.edges (place s.extents coords) (steps * product (drop (suc d) s.extents)) (tile_number s coords) n (place_in_tile s coords) band.piece_len) tiles_are
        (subst (λ n. IsBounded s.extents s.edges (place s.extents coords) (steps * product (drop (suc d) s.extents)) (tile_number s coords) (product (drop (suc d) (tile_counts s))) (place_in_tile s coords) n) words_are
        (bounded s.extents s.edges coords d steps t.same_rank t.positive h b.dimension last some in_array in_tile))))

-- the band where the words are in row-major order
pub front_is_band : (s : Tiling) (band : Band) → IsTiling s → elements s ≤ padded_words s → IsRowMajor s → band.word ≡ band.start → 0 < band.len → band.len ≤ 32768 → band.start + band.len ≤ elements s
    → band.pieces ≡ 1 → band.piece_len ≡ band.len → band.stride ≡ band.len → IsBand s band
front_is_band s band t few major word some short inside one piece_len stride = record {
  tiling = t;
  few = few;
  some = some;
  short = short;
  small = (let all : band.pieces * band.piece_len ≡ 1 * band.piece_len = ap (λ z. z * band.piece_len) one in omega arith);
  inside = inside;
  apart = omega arith;
  room = λ piece lt. let none : piece * band.stride ≡ 0 * band.stride = ap (λ z. z * band.stride) (first piece (omega arith)) in omega arith;
  word = λ xs h low high. (
    place s.extents xs - band.start,
    record {
      piece = 0;
      offset = place s.extents xs - band.start;
      among = omega arith;
      within = omega arith;
      word_is = omega (arith, major xs h);
      index_is = omega arith;
    },
  );
  element = λ xs h index at.
      let none : at.piece * band.stride ≡ 0 * band.stride = ap (λ z. z * band.stride) (first at.piece (omega (arith, at.among))) in
      (omega (arith, major xs h, at.word_is, none), omega (arith, major xs h, at.word_is, none, at.within));
}
  where
    first : (n : ℕ) → n < 1 → n ≡ 0
    first n h = omega arith
