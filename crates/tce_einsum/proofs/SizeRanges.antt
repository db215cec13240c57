-- The ranges of sizes: each size has one, with its digits.
use Rattle.std.proofs.Common.{◌≡◌, ℕ, zero, suc, ◌+◌, ◌<◌, ◌≤◌, Bool, true, false, not, ◌&&◌, ◌||◌, cond, List, [], ◌∷◌, ◌++◌, map, length, get_or, fold, Option, Some, None, codes, refl, sym, ap, ◌∙◌, arith, length-append}
use Rattle.std.specs.List.{AllByRecursion, list_any, list_all, position_or_len}
use Rattle.std.specs.Str.{bytes_eq}
use Rattle.std.proofs.lemmas.Bool.{and_parts, and_from, or_left, true≢false}
use Rattle.std.proofs.lemmas.List.{length-map}
use Rattle.std.proofs.lemmas.List.Folds.{list_any-append}
use Rattle.std.proofs.lemmas.Slice.Eq.{bytes_eq-Decides}
use Rattle.tce_space.proofs.Names.{bytes_same}
use Rattle.tce_fields.specs.Digits.{starts_as_number}
use Rattle.tce_grammar.specs.Tokens.{IsNumber}
use Rattle.tce_grammar.specs.Canonical.{IsNumberIfSome}
use Rattle.tce_grammar.proofs.CanonicalLines.{all_joined}
use Rattle.tce_spec.specs.Numbers.{edge_of}
use Rattle.tce_einsum.specs.Text.{Size, is_size, is_label, is_number, is_number_if_some}
use Rattle.tce_einsum.specs.Produced.{Tiled, edge_or_one, tiled, is_same, with_new, ranges, written_edge}
use Rattle.tce_einsum.proofs.Places.{place_within}

-- the digits of a size are numbers

pub record IsWritten (t : Tiled) : Type 0 where
  pub extent : IsNumber t.extent
  pub edge : IsNumber t.edge

number_is : (digits : List ℕ) → is_number digits ≡ true → IsNumber digits
number_is [] is = absurd (true≢false (sym is))
number_is (d ∷ ds) is = (λ e. cc, (and_parts _ _ (and_parts (starts_as_number (d ∷ ds)) _ is).1).0)

edge_is : (edge : Option (List ℕ)) → is_number_if_some edge ≡ true → IsNumber (edge_or_one edge)
edge_is None is = (λ e. cc, refl)
edge_is (Some digits) is = number_is digits is

tiled_is : (s : Size) → is_size s ≡ true → IsWritten (tiled s)
tiled_is s is =
    let numbers = (and_parts (is_label s.label) (is_number s.extent && is_number_if_some s.edge) is).1 in
    let parts = and_parts (is_number s.extent) (is_number_if_some s.edge) numbers in
    record { extent = number_is s.extent parts.0; edge = edge_is s.edge parts.1 }

tileds_are : (ss : List Size) → list_all is_size ss ≡ true → AllByRecursion IsWritten (map tiled ss)
tileds_are [] all = tt
tileds_are (s ∷ ss) all = let parts = and_parts (is_size s) (list_all is_size ss) all in (tiled_is s parts.0, tileds_are ss parts.1)

ranges_from : (seen ts : List Tiled) → AllByRecursion IsWritten seen → AllByRecursion IsWritten ts → AllByRecursion IsWritten (fold with_new seen ts)
ranges_from seen [] are more = are
ranges_from seen (t ∷ ts) are more = ranges_from (with_new seen t) ts (by_test (list_any (is_same t) seen)) more.1
  where
    by_test : (d : Bool) → AllByRecursion IsWritten (cond d seen (seen ++ t ∷ []))
    by_test true = are
    by_test false = all_joined IsWritten seen (t ∷ []) are (more.0, tt)

pub ranges_are : (ss : List Size) → list_all is_size ss ≡ true → AllByRecursion IsWritten (ranges ss)
ranges_are ss all = ranges_from [] (map tiled ss) tt (tileds_are ss all)

pub edge_written : (digits : List ℕ) → IsNumber digits → IsNumberIfSome (written_edge digits)
edge_written digits is = by_test (bytes_eq digits (codes "1"))
  where
    by_test : (d : Bool) → IsNumberIfSome (cond d None (Some digits))
    by_test true = tt
    by_test false = is

-- and are written as they are read
pub edge_read : (edge : Option (List ℕ)) → edge_of (written_edge (edge_or_one edge)) ≡ edge_of edge
edge_read None = refl
edge_read (Some digits) = by_test (bytes_eq digits (codes "1")) refl
  where
    by_test : (d : Bool) → bytes_eq digits (codes "1") ≡ d → edge_of (cond d None (Some digits)) ≡ edge_of (Some digits)
    by_test true e = sym (ap (λ (ds : List ℕ). edge_of (Some ds)) ((bytes_eq-Decides digits (codes "1")).0 e))
    by_test false e = refl

-- there are no more ranges than sizes

one_more : (seen : List Tiled) (t : Tiled) → length (with_new seen t) ≤ length seen + 1
one_more seen t = by_test (list_any (is_same t) seen)
  where
    by_test : (d : Bool) → length (cond d seen (seen ++ t ∷ [])) ≤ length seen + 1
    by_test true = omega arith
    by_test false = omega (arith, length-append seen (t ∷ []))

few_from : (seen ts : List Tiled) → length (fold with_new seen ts) ≤ length seen + length ts
few_from seen [] = omega arith
few_from seen (t ∷ ts) = omega (arith, one_more seen t, few_from (with_new seen t) ts)

pub ranges_few : (ss : List Size) → length (ranges ss) ≤ length ss
ranges_few ss = omega (arith, few_from [] (map tiled ss), length-map ss tiled)

pub range_number_within : (ss : List Size) (t : Tiled) → position_or_len (is_same t) (ranges ss) ≤ length ss
range_number_within ss t = omega (arith, place_within (is_same t) (ranges ss), ranges_few ss)

-- each size has its range

same_self : (t : Tiled) → is_same t t ≡ true
same_self t = and_from _ _ (bytes_same t.extent) (bytes_same t.edge)

stays_seen : (one t : Tiled) (seen : List Tiled) → list_any (is_same one) seen ≡ true → list_any (is_same one) (with_new seen t) ≡ true
stays_seen one t seen is = by_test (list_any (is_same t) seen)
  where
    by_test : (d : Bool) → list_any (is_same one) (cond d seen (seen ++ t ∷ [])) ≡ true
    by_test true = is
    by_test false = list_any-append (is_same one) seen (t ∷ []) ∙ or_left (list_any (is_same one) seen) (list_any (is_same one) (t ∷ [])) is

now_seen : (t : Tiled) (seen : List Tiled) → list_any (is_same t) (with_new seen t) ≡ true
now_seen t seen = by_test (list_any (is_same t) seen) refl
  where
    or_second : (a b : Bool) → b ≡ true → (a || b) ≡ true
    or_second true b e = refl
    or_second false b e = e

    by_test : (d : Bool) → list_any (is_same t) seen ≡ d → list_any (is_same t) (cond d seen (seen ++ t ∷ [])) ≡ true
    by_test true e = e
    by_test false e =
        list_any-append (is_same t) seen (t ∷ [])
        ∙ or_second (list_any (is_same t) seen) (list_any (is_same t) (t ∷ [])) (or_left (is_same t t) false (same_self t))

seen_behind : (one : Tiled) (seen ts : List Tiled) → list_any (is_same one) seen ≡ true → list_any (is_same one) (fold with_new seen ts) ≡ true
seen_behind one seen [] is = is
seen_behind one seen (t ∷ ts) is = seen_behind one (with_new seen t) ts (stays_seen one t seen is)

has_range : (seen ts : List Tiled) (i : ℕ) (d : Tiled) → i < length ts → list_any (is_same (get_or ts i d)) (fold with_new seen ts) ≡ true
has_range seen [] i d inside = absurd (omega (arith, inside))
has_range seen (t ∷ ts) zero d inside = seen_behind t (with_new seen t) ts (now_seen t seen)
has_range seen (t ∷ ts) (suc i) d inside = has_range (with_new seen t) ts i d (omega (arith, inside))

pub place_below : {X : Type 0} (p : X → Bool) (xs : List X) → list_any p xs ≡ true → position_or_len p xs < length xs
place_below p [] some = absurd (true≢false (sym some))
place_below p (x ∷ xs) some = by_test (p x) some (place_below p xs)
  where
    by_test : (d : Bool) → (d || list_any p xs) ≡ true → (list_any p xs ≡ true → position_or_len p xs < length xs) → cond (not d) (1 + position_or_len p xs) 0 < length (x ∷ xs)
    by_test true e later = omega arith
    by_test false e later = omega (arith, later e)

pub place_passes : {X : Type 0} (p : X → Bool) (xs : List X) (d : X) → list_any p xs ≡ true → p (get_or xs (position_or_len p xs) d) ≡ true
place_passes p [] d some = absurd (true≢false (sym some))
place_passes p (x ∷ xs) d some = by_test (p x) refl some (place_passes p xs d)
  where
    by_test : (b : Bool) → p x ≡ b → (b || list_any p xs) ≡ true → (list_any p xs ≡ true → p (get_or xs (position_or_len p xs) d) ≡ true)
        → p (get_or (x ∷ xs) (cond (not b) (1 + position_or_len p xs) 0) d) ≡ true
    by_test true e any later = e
    by_test false e any later = let next : 1 + position_or_len p xs ≡ suc (position_or_len p xs) = omega arith in ap (λ n. p (get_or (x ∷ xs) n d)) next ∙ later any

-- the number of the range of a size, and its digits
pub record HasRange (ss : List Size) (s : Size) (d : Tiled) : Type 0 where
  pub below : position_or_len (is_same (tiled s)) (ranges ss) < length (ranges ss)
  pub extent : (get_or (ranges ss) (position_or_len (is_same (tiled s)) (ranges ss)) d).extent ≡ s.extent
  pub edge : (get_or (ranges ss) (position_or_len (is_same (tiled s)) (ranges ss)) d).edge ≡ edge_or_one s.edge

pub range_of_size : (ss : List Size) (i : ℕ) (d : Size) (e : Tiled) → i < length ss → HasRange ss (get_or ss i d) e
range_of_size ss i d e inside =
    let s : Size = get_or ss i d in
    let t : Tiled = get_or (ranges ss) (position_or_len (is_same (tiled s)) (ranges ss)) e in
    let some : list_any (is_same (tiled s)) (ranges ss) ≡ true =
    ap (λ (t : Tiled). list_any (is_same t) (ranges ss)) (sym (mapped ss i d inside)) ∙ has_range [] (map tiled ss) i (tiled d) (omega (arith, inside, length-map ss tiled)) in
    let parts = and_parts (bytes_eq (tiled s).extent t.extent) (bytes_eq (tiled s).edge t.edge) (place_passes (is_same (tiled s)) (ranges ss) e some) in
    record {
      below = place_below (is_same (tiled s)) (ranges ss) some;
      extent = sym ((bytes_eq-Decides (tiled s).extent t.extent).0 parts.0);
      edge = sym ((bytes_eq-Decides (tiled s).edge t.edge).0 parts.1);
    }
  where
    mapped : (ss : List Size) (i : ℕ) (d : Size) → i < length ss → get_or (map tiled ss) i (tiled d) ≡ tiled (get_or ss i d)
    mapped [] i d inside = absurd (omega (arith, inside))
    mapped (s ∷ ss) zero d inside = refl
    mapped (s ∷ ss) (suc i) d inside = mapped ss i d (omega (arith, inside))
