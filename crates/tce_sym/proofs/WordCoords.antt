-- The coordinates of words, and rows of tiles.
use Rattle.std.proofs.Common.{◌≡◌, ◌∙◌, ℕ, zero, suc, ◌+◌, ◌-◌, ◌*◌, ◌/◌, ◌%◌, ◌<◌, ◌≤◌, ◌^◌, List, [], ◌∷◌, length, drop, set, get_or, sym, refl, ap, subst, arith}
use Rattle.std.specs.Int.{div_ceil}
use Rattle.std.proofs.Math.Nat.{mul-le-mul_left}
use Rattle.std.proofs.lemmas.Grind.{div_ceil_times}
use Rattle.std.proofs.lemmas.List.Elements.{All-get_or}
use Rattle.std.proofs.lemmas.Nat.{div_below, mod_below, div-add-mod', mod-mul-add, same_from_place}
use Rattle.std.proofs.lemmas.List.{drop_more, drop_all}
use Rattle.tce_space.specs.Box.{product, place, IsInside}
use Rattle.tce_space.specs.Tiling.{Tiling, IsTiling, counts_along, divided, remainders, joined, tile_counts, tile_words, padded_words, tiles, word_number, ArePositive}
use Rattle.tce_space.proofs.Boxes.{place-lt, place_injective, length_inside}
use Rattle.tce_space.proofs.Tilings.{divided_inside, remainders_inside, joined_back}
use Rattle.tce_space.proofs.Counts.{positive_at, some_tile}
use Rattle.tce_space.proofs.Products.{product_positive}
use Rattle.tce_array.proofs.Padding.{word_at_place}
use Rattle.tce_tools.specs.Runs.{IsRowMajor, moved}
use Rattle.tce_tools.proofs.Rows.{last_of, last_is, moved_inside, moved_place}
use Rattle.tce_sym.specs.declared.tile_rows.TileRow.{TileRow}
use Rattle.tce_sym.specs.TileRows.{IsWordOf, IsTileRow}

pub drop_set : (xs : List ℕ) (d v : ℕ) → d < length xs → drop d (set xs d v) ≡ v ∷ drop (suc d) xs
drop_set [] d v h = absurd (omega arith)
drop_set (x ∷ xs) zero v h = refl
drop_set (x ∷ xs) (suc d) v h = drop_set xs d v (omega arith)

edge_le : (es : List ℕ) (d : ℕ) → ArePositive es → d < length es → get_or es d 0 ≤ product es
edge_le [] d p l = absurd (omega arith)
edge_le (e ∷ es) zero p l = (let one : 1 ≤ product es = omega (arith, product_positive es p.1) in let more : e * 1 ≤ e * product es = mul-le-mul_left e one in omega arith)
edge_le (e ∷ es) (suc d) p l =
    (let rest : get_or es d 0 ≤ product es = edge_le es d p.1 (omega arith) in
    let one : 1 ≤ e = omega (arith, p.0) in
    let more : product es * 1 ≤ product es * e = mul-le-mul_left (product es) one in omega (arith, rest, more))

-- an extent and an edge
pub record IsDim (n e : ℕ) : Type 0 where
  pub some : 0 < n
  pub small : n < 2 ^ 32
  pub positive : 0 < e
  pub short : e ≤ 2 ^ 20

pub dim_at : (s : Tiling) (ns es : List ℕ) (d : ℕ) → IsTiling s → ns ≡ s.extents → es ≡ s.edges → d < length ns → IsDim (get_or ns d 0) (get_or es d 0)
dim_at s ns es d t n e l =
    let below : d < length s.extents = omega (arith, ap length n) in
    let size : (0 < get_or s.extents d 0) × (get_or s.extents d 0 < 2 ^ 32) = All-get_or (λ n. (0 < n) × (n < 2 ^ 32)) s.extents d 0 below t.sizes in
    subst (λ (l : List ℕ). IsDim (get_or l d 0) (get_or es d 0)) (sym n) (subst (λ (l : List ℕ). IsDim (get_or s.extents d 0) (get_or l d 0)) (sym e)
    (record {
      some = size.0;
      small = size.1;
      positive = positive_at s.edges d t.positive (omega (arith, t.same_rank));
      short = omega (arith, edge_le s.edges d t.positive (omega (arith, t.same_rank)), t.tile_room);
    }))

pub digit_small : (n e t i : ℕ) → IsDim n e → t % div_ceil n e * e + i % e < 2 ^ 33
digit_small n e t i d =
    let below : t % div_ceil n e < div_ceil n e = mod_below t (div_ceil n e) (some_tile n e d.some d.positive) in
    let next : t % div_ceil n e + 1 ≤ div_ceil n e = omega arith in
    let all : e * (t % div_ceil n e + 1) ≤ e * div_ceil n e = mul-le-mul_left e next in
    let top : div_ceil n e * e < n + e = (div_ceil_times n e d.positive).1 in
    let rest : i % e < e = mod_below i e d.positive in
    omega (arith, all, top, rest, d.small, d.short)

-- the last dimensions: what was taken off a word's tile and its place there, and what is left
pub record IsTail (ns es xs : List ℕ) (inner t place_all tile_all : ℕ) : Type 0 where
  pub tile : List ℕ
  pub digits : List ℕ
  pub tile_in : IsInside (counts_along ns es) tile
  pub digits_in : IsInside es digits
  pub coords : xs ≡ joined es tile digits
  pub inner_is : inner * product es + place es digits ≡ place_all
  pub tile_is : t * product (counts_along ns es) + place (counts_along ns es) tile ≡ tile_all

tail_start : (ns es xs : List ℕ) (inner t : ℕ) → ns ≡ [] → es ≡ [] → xs ≡ [] → IsTail ns es xs inner t inner t
tail_start ns es xs inner t n e x =
    subst (λ (l : List ℕ). IsTail l es xs inner t inner t) (sym n) (subst (λ (l : List ℕ). IsTail [] l xs inner t inner t) (sym e) (subst (λ (l : List ℕ). IsTail [] [] l inner t inner t) (sym x)
    (record { tile = []; digits = []; tile_in = tt; digits_in = tt; coords = refl; inner_is = omega arith; tile_is = omega arith })))

pub tail_first : (ns es xs : List ℕ) (j inner t place_all tile_all : ℕ) → length ns ≤ j → length es ≡ length ns → length xs ≡ length ns → inner ≡ place_all → t ≡ tile_all
    → IsTail (drop j ns) (drop j es) (drop j xs) inner t place_all tile_all
tail_first ns es xs j inner t place_all tile_all h e x a b =
    subst (λ (n : ℕ). IsTail (drop j ns) (drop j es) (drop j xs) inner t n tile_all) a (subst (λ (n : ℕ). IsTail (drop j ns) (drop j es) (drop j xs) inner t inner n) b
    (tail_start (drop j ns) (drop j es) (drop j xs) inner t (drop_all j ns h) (drop_all j es (omega arith)) (drop_all j xs (omega arith))))

regroup : (q e r p s : ℕ) → q * (e * p) + (r * p + s) ≡ (q * e + r) * p + s
regroup q e r p s = omega arith

tail_more : (n e : ℕ) (ns es xs : List ℕ) (inner t place_all tile_all : ℕ) → 0 < n → 0 < e → IsTail ns es xs inner t place_all tile_all
    → IsTail (n ∷ ns) (e ∷ es) ((t % div_ceil n e * e + inner % e) ∷ xs) (inner / e) (t / div_ceil n e) place_all tile_all
tail_more n e ns es xs inner t place_all tile_all some positive r =
    let c : ℕ = div_ceil n e in
    record {
      tile = (t % c) ∷ r.tile;
      digits = (inner % e) ∷ r.digits;
      tile_in = (mod_below t (div_ceil n e) (some_tile n e some positive), r.tile_in);
      digits_in = (mod_below inner e positive, r.digits_in);
      coords = ap (λ l. (t % c * e + inner % e) ∷ l) r.coords;
      inner_is = regroup (inner / e) e (inner % e) (product es) (place es r.digits) ∙ ap (λ z. z * product es + place es r.digits) (div-add-mod' inner e) ∙ r.inner_is;
      tile_is = regroup (t / c) c (t % c) (product (counts_along ns es)) (place (counts_along ns es) r.tile)
          ∙ ap (λ z. z * product (counts_along ns es) + place (counts_along ns es) r.tile) (div-add-mod' t c) ∙ r.tile_is;
    }

-- one dimension more
pub tail_step : (ns es xs : List ℕ) (d there after inner t place_all tile_all count : ℕ) → d < length ns → length es ≡ length ns → length xs ≡ length ns → after ≡ suc d → there ≡ d
    → IsDim (get_or ns d 0) (get_or es d 0) → count ≡ div_ceil (get_or ns d 0) (get_or es d 0) → IsTail (drop after ns) (drop after es) (drop after xs) inner t place_all tile_all
    → IsTail (drop there ns) (drop there es) (drop there (set xs d (t % count * get_or es d 0 + inner % get_or es d 0))) (inner / get_or es d 0) (t / count) place_all tile_all
tail_step ns es xs d there after inner t place_all tile_all count l m k is same dim all r =
    let n : ℕ = get_or ns d 0 in
    let e : ℕ = get_or es d 0 in
    let v : ℕ = t % count * get_or es d 0 + inner % get_or es d 0 in
    let next : d + 1 ≡ after = omega (arith, is) in
    let front : drop d ns ≡ get_or ns d 0 ∷ drop after ns = drop_more ns d 0 l ∙ ap (λ j. n ∷ drop j ns) next in
    let edges : drop d es ≡ get_or es d 0 ∷ drop after es = drop_more es d 0 (omega arith) ∙ ap (λ j. e ∷ drop j es) next in
    let value : v ≡ t % div_ceil (get_or ns d 0) (get_or es d 0) * get_or es d 0 + inner % get_or es d 0 = ap (λ c. t % c * e + inner % e) all in
    let here : drop d (set xs d v) ≡ (t % div_ceil (get_or ns d 0) (get_or es d 0) * get_or es d 0 + inner % get_or es d 0) ∷ drop after xs =
    drop_set xs d v (omega arith) ∙ ap (λ j. v ∷ drop j xs) (sym is) ∙ ap (λ w. w ∷ drop after xs) value in
    subst (λ (j : ℕ). IsTail (drop j ns) (drop j es) (drop j (set xs d v)) (inner / e) (t / count) place_all tile_all) (sym same)
    (subst (λ (c : ℕ). IsTail (drop d ns) (drop d es) (drop d (set xs d v)) (inner / e) (t / c) place_all tile_all) (sym all)
    (subst (λ (z : List ℕ). IsTail z (drop d es) (drop d (set xs d v)) (inner / e) (t / div_ceil n e) place_all tile_all) (sym front)
    (subst (λ (z : List ℕ). IsTail (n ∷ drop after ns) z (drop d (set xs d v)) (inner / e) (t / div_ceil n e) place_all tile_all) (sym edges)
    (subst (λ (z : List ℕ). IsTail (n ∷ drop after ns) (e ∷ drop after es) z (inner / e) (t / div_ceil n e) place_all tile_all) (sym here)
    (tail_more (get_or ns d 0) (get_or es d 0) (drop after ns) (drop after es) (drop after xs) inner t place_all tile_all dim.some dim.positive r)))))

no_more : (q p s all : ℕ) → q * p + s ≡ all → all < p → q ≡ 0
no_more zero p s all e h = refl
no_more (suc q) p s all e h = absurd (omega arith)

-- the word
whole : (s : Tiling) (word : ℕ) (xs : List ℕ) (inner t place_all tile_all : ℕ) → tile_words s * tile_all + place_all ≡ word → place_all < tile_words s → tile_all < product (tile_counts s)
    → IsTail s.extents s.edges xs inner t place_all tile_all → IsWordOf s word xs
whole s word xs inner t place_all tile_all is small few r =
    let none : inner ≡ 0 = no_more inner (product s.edges) (place s.edges r.digits) place_all r.inner_is small in
    let nothing : t ≡ 0 = no_more t (product (tile_counts s)) (place (tile_counts s) r.tile) tile_all r.tile_is few in
    let flat : inner * product s.edges ≡ 0 * product s.edges = ap (λ z. z * product s.edges) none in
    let level : t * product (tile_counts s) ≡ 0 * product (tile_counts s) = ap (λ z. z * product (tile_counts s)) nothing in
    let digits : place s.edges r.digits ≡ place_all = omega (arith, flat, r.inner_is) in
    let tiles_are : place (tile_counts s) r.tile ≡ tile_all = omega (arith, level, r.tile_is) in
    record {
      tile = r.tile;
      inner = r.digits;
      tile_in = r.tile_in;
      inner_in = r.digits_in;
      number = ap (λ z. tile_words s * z + place s.edges r.digits) tiles_are ∙ ap (λ z. tile_words s * tile_all + z) digits ∙ is;
      coords = r.coords;
    }

pub tail_end : (s : Tiling) (word : ℕ) (ns es xs : List ℕ) (j inner t : ℕ) → IsTiling s → word < padded_words s → ns ≡ s.extents → es ≡ s.edges → j ≡ 0
    → IsTail (drop j ns) (drop j es) (drop j xs) inner t (word % tile_words s) (word / tile_words s) → IsWordOf s word xs
tail_end s word ns es xs j inner t tiling h n e none r =
    let m : ℕ = tile_words s in
    let some : 0 < tile_words s = product_positive s.edges tiling.positive in
    let turned : word < tiles s * tile_words s = omega (arith, h) in
    let number : word / tile_words s * tile_words s + word % tile_words s ≡ word = div-add-mod' word (tile_words s) in
    let all : IsTail ns es xs inner t (word % tile_words s) (word / tile_words s) = subst (λ (i : ℕ). IsTail (drop i ns) (drop i es) (drop i xs) inner t (word % tile_words s) (word / tile_words s)) none r in
    whole s word xs inner t (word % tile_words s) (word / tile_words s) (omega (arith, number)) (mod_below word (tile_words s) some) (div_below word (tile_words s) (tiles s) some turned)
    (subst (λ (l : List ℕ). IsTail l s.edges xs inner t (word % tile_words s) (word / tile_words s)) n (subst (λ (l : List ℕ). IsTail ns l xs inner t (word % tile_words s) (word / tile_words s)) e all))

-- the words of a tile's row
joined_moved : (es ts is : List ℕ) (k : ℕ) → length ts ≡ length es → length is ≡ length es → joined es ts (moved is k) ≡ moved (joined es ts is) k
joined_moved [] ts is k l m = refl
joined_moved (e ∷ es) [] is k l m = absurd (omega arith)
joined_moved (e ∷ es) (t ∷ ts) [] k l m = absurd (omega arith)
joined_moved (e ∷ []) (t ∷ []) (i ∷ []) k l m = (let more : t * e + (i + k) ≡ t * e + i + k = omega arith in ap (λ x. x ∷ []) more)
joined_moved (e ∷ []) (t ∷ u ∷ ts) (i ∷ is) k l m = absurd (omega arith)
joined_moved (e ∷ []) (t ∷ []) (i ∷ j ∷ is) k l m = absurd (omega arith)
joined_moved (e ∷ d ∷ es) (t ∷ []) (i ∷ is) k l m = absurd (omega arith)
joined_moved (e ∷ d ∷ es) (t ∷ u ∷ ts) (i ∷ []) k l m = absurd (omega arith)
joined_moved (e ∷ d ∷ es) (t ∷ u ∷ ts) (i ∷ j ∷ is) k l m = ap (λ x. (t * e + i) ∷ x) (joined_moved (d ∷ es) (u ∷ ts) (j ∷ is) k (omega arith) (omega arith))

joined_last : (es ts is : List ℕ) → 0 < length es → length ts ≡ length es → length is ≡ length es → last_of (joined es ts is) ≡ last_of ts * last_of es + last_of is
joined_last [] ts is h l m = absurd (omega arith)
joined_last (e ∷ es) [] is h l m = absurd (omega arith)
joined_last (e ∷ es) (t ∷ ts) [] h l m = absurd (omega arith)
joined_last (e ∷ []) (t ∷ []) (i ∷ []) h l m = refl
joined_last (e ∷ []) (t ∷ u ∷ ts) (i ∷ is) h l m = absurd (omega arith)
joined_last (e ∷ []) (t ∷ []) (i ∷ j ∷ is) h l m = absurd (omega arith)
joined_last (e ∷ d ∷ es) (t ∷ []) (i ∷ is) h l m = absurd (omega arith)
joined_last (e ∷ d ∷ es) (t ∷ u ∷ ts) (i ∷ []) h l m = absurd (omega arith)
joined_last (e ∷ d ∷ es) (t ∷ u ∷ ts) (i ∷ j ∷ is) h l m = joined_last (d ∷ es) (u ∷ ts) (j ∷ is) (omega arith) (omega arith) (omega arith)

pub last_inside : (ns xs : List ℕ) → 0 < length ns → IsInside ns xs → last_of xs < last_of ns
last_inside [] xs h i = absurd (omega arith)
last_inside (n ∷ ns) [] h i = absurd i
last_inside (n ∷ []) (x ∷ []) h i = i.0
last_inside (n ∷ []) (x ∷ y ∷ xs) h i = absurd i.1
last_inside (n ∷ m ∷ ns) (x ∷ []) h i = absurd i.1
last_inside (n ∷ m ∷ ns) (x ∷ y ∷ xs) h i = last_inside (m ∷ ns) (y ∷ xs) (omega arith) i.1

pub moved_back : (ns xs : List ℕ) (k : ℕ) → 0 < length ns → IsInside ns (moved xs k) → IsInside ns xs × (last_of xs + k < last_of ns)
moved_back [] xs k h i = absurd (omega arith)
moved_back (n ∷ ns) [] k h i = absurd i
moved_back (n ∷ []) (x ∷ []) k h i = (let l : x + k < n = i.0 in ((omega arith, tt), l))
moved_back (n ∷ []) (x ∷ y ∷ []) k h i = absurd i.1
moved_back (n ∷ []) (x ∷ y ∷ z ∷ xs) k h i = absurd i.1
moved_back (n ∷ m ∷ ns) (x ∷ []) k h i = absurd i.1
moved_back (n ∷ m ∷ ns) (x ∷ y ∷ xs) k h i = (let rest = moved_back (m ∷ ns) (y ∷ xs) k (omega arith) i.1 in ((i.0, rest.0), rest.1))

-- a word has one list of coordinates
word_unique : (s : Tiling) (word : ℕ) (xs ys : List ℕ) → IsWordOf s word xs → IsWordOf s word ys → xs ≡ ys
word_unique s word xs ys a b =
    let both = same_from_place (place (tile_counts s) a.tile) (place s.edges a.inner) (place (tile_counts s) b.tile) (place s.edges b.inner) (tile_words s)
    (place-lt s.edges a.inner a.inner_in) (place-lt s.edges b.inner b.inner_in) (omega (arith, a.number, b.number)) in
    let tile : a.tile ≡ b.tile = place_injective (tile_counts s) a.tile b.tile a.tile_in b.tile_in both.0 in
    let inner : a.inner ≡ b.inner = place_injective s.edges a.inner b.inner a.inner_in b.inner_in both.1 in
    a.coords ∙ ap (λ l. joined s.edges l a.inner) tile ∙ ap (joined s.edges b.tile) inner ∙ sym b.coords

element_word : (s : Tiling) (xs : List ℕ) → IsTiling s → IsInside s.extents xs → IsWordOf s (word_number s xs) xs
element_word s xs t h = record {
  tile = divided s.edges xs;
  inner = remainders s.edges xs;
  tile_in = divided_inside s.extents s.edges xs t.same_rank t.positive h;
  inner_in = remainders_inside s.extents s.edges xs t.same_rank t.positive h;
  number = refl;
  coords = sym (joined_back s.extents s.edges xs t.same_rank h);
}

length_counts : (ns es : List ℕ) → length es ≡ length ns → length (counts_along ns es) ≡ length es
length_counts [] [] h = refl
length_counts [] (e ∷ es) h = absurd (omega arith)
length_counts (n ∷ ns) [] h = absurd (omega arith)
length_counts (n ∷ ns) (e ∷ es) h = ap suc (length_counts ns es (omega arith))

moved_word : (s : Tiling) (word : ℕ) (xs : List ℕ) (k : ℕ) → IsTiling s → 0 < length s.extents → (w : IsWordOf s word xs) → last_of w.inner + k < last_of s.edges → IsWordOf s (word + k) (moved xs k)
moved_word s word xs k t rank w l = record {
  tile = w.tile;
  inner = moved w.inner k;
  tile_in = w.tile_in;
  inner_in = moved_inside s.edges w.inner k w.inner_in l;
  number = (let more = moved_place s.edges w.inner k (omega (arith, t.same_rank)) w.inner_in in omega (arith, more, w.number));
  coords = ap (λ z. moved z k) w.coords
      ∙ sym (joined_moved s.edges w.tile w.inner k (length_inside (tile_counts s) w.tile w.tile_in ∙ length_counts s.extents s.edges t.same_rank) (length_inside s.edges w.inner w.inner_in));
}

length_joined : (es ts is : List ℕ) → length ts ≡ length es → length is ≡ length es → length (joined es ts is) ≡ length es
length_joined [] ts is l m = refl
length_joined (e ∷ es) [] is l m = absurd (omega arith)
length_joined (e ∷ es) (t ∷ ts) [] l m = absurd (omega arith)
length_joined (e ∷ es) (t ∷ ts) (i ∷ is) l m = ap suc (length_joined es ts is (omega arith) (omega arith))

pub word_length : (s : Tiling) (word : ℕ) (xs : List ℕ) → IsTiling s → IsWordOf s word xs → length xs ≡ length s.edges
word_length s word xs t w =
    ap length w.coords ∙ length_joined s.edges w.tile w.inner (length_inside (tile_counts s) w.tile w.tile_in ∙ length_counts s.extents s.edges t.same_rank) (length_inside s.edges w.inner w.inner_in)

word_is : (s : Tiling) (word : ℕ) (xs : List ℕ) → IsTiling s → IsWordOf s word xs → word_number s xs ≡ word
word_is s word xs t w =
    ap (word_number s) w.coords ∙ word_at_place s t word (record { tile = w.tile; inner = w.inner; tile_in = w.tile_in; inner_in = w.inner_in; number = w.number })

-- a coordinate within its tile
in_tile : (s : Tiling) (word : ℕ) (xs : List ℕ) → IsTiling s → 0 < length s.extents → (w : IsWordOf s word xs) → last_of xs % last_of s.edges ≡ last_of w.inner
in_tile s word xs t rank w =
    ap (λ z. last_of z % last_of s.edges) w.coords
    ∙ ap (λ z. z % last_of s.edges) (joined_last s.edges w.tile w.inner (omega (arith, t.same_rank)) (length_inside (tile_counts s) w.tile w.tile_in ∙ length_counts s.extents s.edges t.same_rank) (length_inside s.edges w.inner w.inner_in))
    ∙ mod-mul-add (last_of w.tile) (last_of s.edges) (last_of w.inner) (last_inside s.edges w.inner (omega (arith, t.same_rank)) w.inner_in)

pub tile_row_is : (s : Tiling) (word : ℕ) (row : TileRow) (left : ℕ) → IsTiling s → 0 < length s.extents → IsWordOf s word row.coords.items
    → row.len + last_of row.coords.items % last_of s.edges ≡ last_of s.edges → last_of row.coords.items % last_of s.edges < last_of s.edges
    → (0 < left → IsInside s.extents row.coords.items) → (0 < left → last_of row.coords.items + left ≡ last_of s.extents) → (left ≡ 0 → IsInside s.extents row.coords.items → ⊥)
    → row.used ≤ row.len → row.used ≤ left → ((k : ℕ) → k < row.len → row.used ≤ k → left ≤ k) → IsTileRow s word row
tile_row_is s word row left t rank w len some inside end outside used few last = record {
  some = omega arith;
  used = used;
  inside = λ k h. moved_inside s.extents xs k (inside (omega arith)) (omega (arith, end (omega arith)));
  numbers = λ k h. word_is s (word + k) (moved xs k) t (at k (omega arith));
  padding = λ k h l ys there number.
      let same : moved xs k ≡ ys = word_unique s (word + k) (moved xs k) ys (at k l) (subst (λ n. IsWordOf s n ys) number (element_word s ys t there)) in
      let back = moved_back s.extents xs k rank (subst (IsInside s.extents) (sym same) there) in
      none k l h back.0 back.1;
}
  where
    xs : List ℕ
    xs = row.coords.items

    at : (k : ℕ) → k < row.len → IsWordOf s (word + k) (moved row.coords.items k)
    at k h = moved_word s word row.coords.items k t rank w (omega (arith, in_tile s word row.coords.items t rank w))

    none : (k : ℕ) → k < row.len → row.used ≤ k → IsInside s.extents row.coords.items → last_of row.coords.items + k < last_of s.extents → ⊥
    none k l h there below = by_left left refl
      where
        by_left : (m : ℕ) → left ≡ m → ⊥
        by_left zero e = outside e there
        by_left (suc m) e = absurd (omega (arith, end (omega arith), last k l h))

pub array_row_is : (s : Tiling) (word : ℕ) (row : TileRow) → 0 < length s.extents → IsRowMajor s → IsInside s.extents row.coords.items → place s.extents row.coords.items ≡ word
    → last_of row.coords.items + row.len ≡ last_of s.extents → row.used ≡ row.len → IsTileRow s word row
array_row_is s word row rank order inside at end used = record {
  some = omega (arith, last_inside s.extents row.coords.items rank inside);
  used = omega arith;
  inside = λ k h. moved_inside s.extents row.coords.items k inside (omega arith);
  numbers = λ k h. order (moved row.coords.items k) (moved_inside s.extents row.coords.items k inside (omega arith)) ∙ moved_place s.extents row.coords.items k rank inside ∙ ap (λ n. n + k) at;
  padding = λ k h l ys there number. absurd (omega arith);
}

-- coordinates are inside where each is
pub inside_by_each : (ns xs : List ℕ) → length xs ≡ length ns → ((d : ℕ) → d < length ns → get_or xs d 0 < get_or ns d 0) → IsInside ns xs
inside_by_each [] [] l h = tt
inside_by_each [] (x ∷ xs) l h = absurd (omega arith)
inside_by_each (n ∷ ns) [] l h = absurd (omega arith)
inside_by_each (n ∷ ns) (x ∷ xs) l h = (h 0 (omega arith), inside_by_each ns xs (omega arith) (λ d below. h (suc d) (omega arith)))

-- where a row of a tile ends, with the lists told by others
pub record IsRowEnd (s : Tiling) (xs first second coords : List ℕ) : Type 0 where
  pub bound : length first - 1 < length coords
  pub positive : 0 < get_or second (length first - 1) 0
  pub below : get_or coords (length first - 1) 0 % get_or second (length first - 1) 0 < get_or second (length first - 1) 0
  pub remainder : get_or coords (length first - 1) 0 % get_or second (length first - 1) 0 ≡ last_of xs % last_of s.edges
  pub edge : get_or second (length first - 1) 0 ≡ last_of s.edges

pub row_end : (s : Tiling) (xs first second coords : List ℕ) → IsTiling s → 0 < length s.extents → length xs ≡ length s.edges → first ≡ s.edges → second ≡ s.edges → coords ≡ xs → IsRowEnd s xs first second coords
row_end s xs first second coords t rank l f e x =
    let d : ℕ = length first - 1 in
    let is : length first - 1 + 1 ≡ length s.edges = omega (arith, ap length f, t.same_rank) in
    let edge : get_or second (length first - 1) 0 ≡ last_of s.edges = ap (λ l. get_or l d 0) e ∙ last_is s.edges (length first - 1) is in
    let coord : get_or coords (length first - 1) 0 ≡ last_of xs = ap (λ l. get_or l d 0) x ∙ last_is xs (length first - 1) (omega (arith, is, l)) in
    let some : 0 < get_or s.edges (length first - 1) 0 = positive_at s.edges (length first - 1) t.positive (omega arith) in
    let positive : 0 < get_or second (length first - 1) 0 = subst (λ (l : List ℕ). 0 < get_or l (length first - 1) 0) (sym e) some in
    record {
      bound = omega (arith, is, l, ap length x);
      positive = positive;
      below = mod_below (get_or coords (length first - 1) 0) (get_or second (length first - 1) 0) positive;
      remainder = ap (λ c. c % get_or second (length first - 1) 0) coord ∙ ap (λ c. last_of xs % c) edge;
      edge = edge;
    }

-- how many elements are left along the last dimension
pub record AreLeft (s : Tiling) (xs : List ℕ) (left : ℕ) : Type 0 where
  pub inside : 0 < left → IsInside s.extents xs
  pub end : 0 < left → last_of xs + left ≡ last_of s.extents
  pub outside : left ≡ 0 → IsInside s.extents xs → ⊥

pub are_left : (s : Tiling) (xs ns zs : List ℕ) (left : ℕ) → length xs ≡ length s.extents → 0 < length s.extents → ns ≡ s.extents → zs ≡ xs → (0 < left → IsInside ns zs)
    → (0 < left → get_or zs (length ns - 1) 0 + left ≡ get_or ns (length ns - 1) 0) → (left ≡ 0 → IsInside ns zs → ⊥) → AreLeft s xs left
are_left s xs ns zs left l rank n z a b c = record {
  inside = λ h. subst (λ (l : List ℕ). IsInside l xs) n (subst (IsInside ns) z (a h));
  end = λ h.
      let coord : get_or zs (length ns - 1) 0 ≡ last_of xs = ap (λ l. get_or l (length ns - 1) 0) z ∙ last_is xs (length ns - 1) (omega (arith, ap length n)) in
      let extent : get_or ns (length ns - 1) 0 ≡ last_of s.extents = ap (λ l. get_or l (length ns - 1) 0) n ∙ last_is s.extents (length ns - 1) (omega (arith, ap length n)) in
      omega (arith, b h, coord, extent);
  outside = λ e h. c e (subst (IsInside ns) (sym z) (subst (λ (l : List ℕ). IsInside l xs) (sym n) h));
}

-- where a row of the array ends
pub record IsArrayEnd (s : Tiling) (xs first second coords : List ℕ) : Type 0 where
  pub bound : length first - 1 < length coords
  pub below : get_or coords (length first - 1) 0 < get_or second (length first - 1) 0
  pub coord : get_or coords (length first - 1) 0 ≡ last_of xs
  pub extent : get_or second (length first - 1) 0 ≡ last_of s.extents

pub array_end : (s : Tiling) (xs first second coords : List ℕ) → 0 < length s.extents → IsInside s.extents xs → first ≡ s.extents → second ≡ s.extents → coords ≡ xs → IsArrayEnd s xs first second coords
array_end s xs first second coords rank h f e x =
    let is : length first - 1 + 1 ≡ length s.extents = omega (arith, ap length f) in
    let l = length_inside s.extents xs h in
    let coord : get_or coords (length first - 1) 0 ≡ last_of xs = ap (λ l. get_or l (length first - 1) 0) x ∙ last_is xs (length first - 1) (omega (arith, is, l)) in
    let extent : get_or second (length first - 1) 0 ≡ last_of s.extents = ap (λ l. get_or l (length first - 1) 0) e ∙ last_is s.extents (length first - 1) is in
    record {
      bound = omega (arith, is, l, ap length x);
      below = omega (arith, coord, extent, last_inside s.extents xs rank h);
      coord = coord;
      extent = extent;
    }

pub moved_none : (xs : List ℕ) → moved xs 0 ≡ xs
moved_none [] = refl
moved_none (x ∷ []) = (let same : x + 0 ≡ x = omega arith in ap (λ y. y ∷ []) same)
moved_none (x ∷ y ∷ ys) = ap (λ l. x ∷ l) (moved_none (y ∷ ys))
