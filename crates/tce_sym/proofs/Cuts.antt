-- Lists that are cut at two positions.
use Rattle.std.proofs.Common.{◌≡◌, ◌∙◌, ℕ, ◌+◌, ◌-◌, ◌*◌, ◌<◌, List, [], ◌∷◌, ◌++◌, length, take, drop, get_or, set, refl, sym, ap, subst, arith, length-append, append_assoc, take-append-drop}
use Rattle.std.proofs.lemmas.List.{drop_more, drop-drop, length-take-le, length-drop, set_at}
use Rattle.tce_space.specs.Box.{product, IsInside}
use Rattle.tce_space.proofs.Boxes.{length_inside, inside_joined}
use Rattle.tce_space.proofs.Products.{product-append}
use Rattle.tce_sym.specs.declared.symmetry.Symmetry.{Symmetry}
use Rattle.tce_sym.specs.Storage.{at_first, at_second, at_others, exchanged}

-- the parts before, between and behind two positions
abbrev pub before : Symmetry → List ℕ → List ℕ
before s xs = take s.first xs

abbrev pub between : Symmetry → List ℕ → List ℕ
between s xs = take (s.second - (s.first + 1)) (drop (s.first + 1) xs)

abbrev pub behind : Symmetry → List ℕ → List ℕ
behind s xs = drop (s.second + 1) xs

-- the list of these parts and two numbers
abbrev pub joint : List ℕ → ℕ → List ℕ → ℕ → List ℕ → List ℕ
joint us a vs b ws = us ++ a ∷ (vs ++ b ∷ ws)

pub record IsCut (s : Symmetry) (xs : List ℕ) : Type 0 where
  pub is : xs ≡ joint (before s xs) (at_first s xs) (between s xs) (at_second s xs) (behind s xs)
  pub front : length (before s xs) ≡ s.first
  pub middle : length (between s xs) ≡ s.second - (s.first + 1)

pub cut : (s : Symmetry) (xs : List ℕ) → s.first < s.second → s.second < length xs → IsCut s xs
cut s xs h l =
    let p : ℕ = s.first in
    let k : ℕ = s.second - (s.first + 1) in
    let sum : s.first + 1 + (s.second - (s.first + 1)) ≡ s.second = omega arith in
    let rest : drop (s.first + 1) xs ≡ between s xs ++ at_second s xs ∷ behind s xs =
    sym (take-append-drop k (drop (s.first + 1) xs))
    ∙ ap (λ l. between s xs ++ l) (drop-drop k (s.first + 1) xs ∙ ap (λ n. drop n xs) sum ∙ drop_more xs s.second 0 l) in
    record {
      is = sym (take-append-drop p xs) ∙ ap (λ l. before s xs ++ l) (drop_more xs p 0 (omega arith) ∙ ap (λ l. at_first s xs ∷ l) rest);
      front = length-take-le p xs (omega arith);
      middle = length-take-le k (drop (s.first + 1) xs) (omega (arith, length-drop (s.first + 1) xs));
    }

-- a box is inside where its parts are
pub inside_parts : (ns ms xs ys : List ℕ) → length xs ≡ length ns → IsInside (ns ++ ms) (xs ++ ys) → IsInside ns xs × IsInside ms ys
inside_parts [] ms [] ys e h = (tt, h)
inside_parts [] ms (x ∷ xs) ys e h = absurd (cc)
inside_parts (n ∷ ns) ms [] ys e h = absurd (cc)
inside_parts (n ∷ ns) ms (x ∷ xs) ys e h = let rest = inside_parts ns ms xs ys (omega arith) h.1 in ((h.0, rest.0), rest.1)

pub record AreInside (s : Symmetry) (ns xs : List ℕ) : Type 0 where
  pub front : IsInside (before s ns) (before s xs)
  pub first : at_first s xs < at_first s ns
  pub middle : IsInside (between s ns) (between s xs)
  pub second : at_second s xs < at_second s ns
  pub back : IsInside (behind s ns) (behind s xs)

pub are_inside : (s : Symmetry) (ns xs : List ℕ) → s.first < s.second → s.second < length ns → IsInside ns xs → AreInside s ns xs
are_inside s ns xs h l inside =
    let m : s.second < length xs = omega (arith, length_inside ns xs inside) in
    let n = cut s ns h l in
    let x = cut s xs h m in
    let all : IsInside (joint (before s ns) (at_first s ns) (between s ns) (at_second s ns) (behind s ns)) (joint (before s xs) (at_first s xs) (between s xs) (at_second s xs) (behind s xs)) =
    subst (λ (l : List ℕ). IsInside l (joint (before s xs) (at_first s xs) (between s xs) (at_second s xs) (behind s xs))) n.is (subst (λ (l : List ℕ). IsInside ns l) x.is inside) in
    let outer = inside_parts (before s ns) (at_first s ns ∷ (between s ns ++ at_second s ns ∷ behind s ns)) (before s xs) (at_first s xs ∷ (between s xs ++ at_second s xs ∷ behind s xs)) (x.front ∙ sym n.front) all in
    let inner = inside_parts (between s ns) (at_second s ns ∷ behind s ns) (between s xs) (at_second s xs ∷ behind s xs) (x.middle ∙ sym n.middle) outer.1.1 in
    record { front = outer.0; first = outer.1.0; middle = inner.0; second = inner.1.0; back = inner.1.1 }

pub others_inside : (s : Symmetry) (ns xs : List ℕ) → AreInside s ns xs → IsInside (at_others s ns) (at_others s xs)
others_inside s ns xs h = inside_joined (before s ns) (between s ns ++ behind s ns) (before s xs) (between s xs ++ behind s xs) h.front (inside_joined (between s ns) (behind s ns) (between s xs) (behind s xs) h.middle h.back)

-- the other numbers and the two make the product
pub product_others : (s : Symmetry) (ns : List ℕ) → s.first < s.second → s.second < length ns → product ns ≡ product (at_others s ns) * (at_first s ns * at_second s ns)
product_others s ns h l =
    let n = cut s ns h l in
    let whole = product-append (before s ns) (at_first s ns ∷ (between s ns ++ at_second s ns ∷ behind s ns)) in
    let inner = product-append (between s ns) (at_second s ns ∷ behind s ns) in
    let some = product-append (before s ns) (between s ns ++ behind s ns) in
    let rest = product-append (between s ns) (behind s ns) in
    ap product n.is ∙ whole ∙ ap (λ k. product (before s ns) * (at_first s ns * k)) inner
    ∙ turned (product (before s ns)) (at_first s ns) (product (between s ns)) (at_second s ns) (product (behind s ns))
    ∙ ap (λ k. k * (at_first s ns * at_second s ns)) (sym (some ∙ ap (λ k. product (before s ns) * k) rest))
  where
    turned : (u a v b w : ℕ) → u * (a * (v * (b * w))) ≡ u * (v * w) * (a * b)
    turned u a v b w = omega arith

-- lists with the same parts are the same
append_apart : (xs ys us vs : List ℕ) → length xs ≡ length ys → xs ++ us ≡ ys ++ vs → (xs ≡ ys) × (us ≡ vs)
append_apart [] [] us vs l e = (refl, e)
append_apart [] (y ∷ ys) us vs l e = absurd (cc)
append_apart (x ∷ xs) [] us vs l e = absurd (cc)
append_apart (x ∷ xs) (y ∷ ys) us vs l e = let first : x ≡ y = cc in let rest = append_apart xs ys us vs (omega arith) (cc) in (cc, rest.1)

pub parts_same : (s : Symmetry) (xs ys : List ℕ) → s.first < s.second → s.second < length xs → s.second < length ys
    → at_others s xs ≡ at_others s ys → at_first s xs ≡ at_first s ys → at_second s xs ≡ at_second s ys → xs ≡ ys
parts_same s xs ys h l m e first second =
    let x = cut s xs h l in
    let y = cut s ys h m in
    let outer = append_apart (before s xs) (before s ys) (between s xs ++ behind s xs) (between s ys ++ behind s ys) (x.front ∙ sym y.front) e in
    let inner = append_apart (between s xs) (between s ys) (behind s xs) (behind s ys) (x.middle ∙ sym y.middle) outer.1 in
    let u = outer.0 in
    let v = inner.0 in
    let w = inner.1 in
    x.is ∙ same (before s xs) (before s ys) (at_first s xs) (at_first s ys) (between s xs) (between s ys) (at_second s xs) (at_second s ys) (behind s xs) (behind s ys) u first v second w ∙ sym y.is
  where
    same : (us us' : List ℕ) (a a' : ℕ) (vs vs' : List ℕ) (b b' : ℕ) (ws ws' : List ℕ) → us ≡ us' → a ≡ a' → vs ≡ vs' → b ≡ b' → ws ≡ ws' → joint us a vs b ws ≡ joint us' a' vs' b' ws'
    same us us' a a' vs vs' b b' ws ws' e f g h i = cc

-- the parts of a list that is made of them
pub record AreParts (s : Symmetry) (xs us : List ℕ) (a : ℕ) (vs : List ℕ) (b : ℕ) (ws : List ℕ) : Type 0 where
  pub others : at_others s xs ≡ us ++ (vs ++ ws)
  pub first : at_first s xs ≡ a
  pub second : at_second s xs ≡ b

pub joint_parts : (s : Symmetry) (us : List ℕ) (a : ℕ) (vs : List ℕ) (b : ℕ) (ws : List ℕ) → s.first < s.second → length us ≡ s.first → length vs ≡ s.second - (s.first + 1) → AreParts s (joint us a vs b ws) us a vs b ws
joint_parts s us a vs b ws h l m =
    let xs : List ℕ = joint us a vs b ws in
    let long : s.second < length (joint us a vs b ws) = omega (arith, length-append us (a ∷ (vs ++ b ∷ ws)), length-append vs (b ∷ ws)) in
    let x = cut s (joint us a vs b ws) h long in
    let outer = append_apart us (before s xs) (a ∷ (vs ++ b ∷ ws)) (at_first s xs ∷ (between s xs ++ at_second s xs ∷ behind s xs)) (l ∙ sym x.front) x.is in
    let first : a ≡ at_first s xs = ap (λ l. get_or l 0 0) outer.1 in
    let rest : vs ++ b ∷ ws ≡ between s xs ++ at_second s xs ∷ behind s xs = ap (λ l. drop 1 l) outer.1 in
    let inner = append_apart vs (between s xs) (b ∷ ws) (at_second s xs ∷ behind s xs) (m ∙ sym x.middle) rest in
    let second : b ≡ at_second s xs = ap (λ l. get_or l 0 0) inner.1 in
    let last : ws ≡ behind s xs = ap (λ l. drop 1 l) inner.1 in
    record {
      others = ap (λ l. l ++ (between s xs ++ behind s xs)) (sym outer.0) ∙ ap (λ l. us ++ (l ++ behind s xs)) (sym inner.0) ∙ ap (λ l. us ++ (vs ++ l)) (sym last);
      first = sym first;
      second = sym second;
    }

-- the parts of coordinates in a box that is cut
pub record IsSplit (ns ms ys : List ℕ) : Type 0 where
  pub front : List ℕ
  pub back : List ℕ
  pub is : ys ≡ front ++ back
  pub first : IsInside ns front
  pub second : IsInside ms back

pub split : (ns ms ys : List ℕ) → IsInside (ns ++ ms) ys → IsSplit ns ms ys
split [] ms ys h = record { front = []; back = ys; is = refl; first = tt; second = h }
split (n ∷ ns) ms [] h = absurd h
split (n ∷ ns) ms (y ∷ ys) h = let rest = split ns ms ys h.1 in record { front = y ∷ rest.front; back = rest.back; is = ap (λ l. y ∷ l) rest.is; first = (h.0, rest.first); second = rest.second }

-- coordinates that have these at the other positions, and two more
pub record IsFilled (s : Symmetry) (ns ys : List ℕ) (a b : ℕ) : Type 0 where
  pub coords : List ℕ
  pub inside : IsInside ns coords
  pub others : at_others s coords ≡ ys
  pub first : at_first s coords ≡ a
  pub second : at_second s coords ≡ b

pub filled : (s : Symmetry) (ns ys : List ℕ) (a b : ℕ) → s.first < s.second → s.second < length ns → IsInside (at_others s ns) ys → a < at_first s ns → b < at_second s ns → IsFilled s ns ys a b
filled s ns ys a b h l inside below under =
    let n = cut s ns h l in
    let outer = split (before s ns) (between s ns ++ behind s ns) ys inside in
    let inner = split (between s ns) (behind s ns) outer.back outer.second in
    let parts = joint_parts s outer.front a inner.front b inner.back h (length_inside (before s ns) outer.front outer.first ∙ n.front) (length_inside (between s ns) inner.front inner.first ∙ n.middle) in
    let deep : IsInside (between s ns ++ at_second s ns ∷ behind s ns) (inner.front ++ b ∷ inner.back) = inside_joined (between s ns) (at_second s ns ∷ behind s ns) inner.front (b ∷ inner.back) inner.first (under, inner.second) in
    record {
      coords = joint outer.front a inner.front b inner.back;
      inside = subst (λ (l : List ℕ). IsInside l (joint outer.front a inner.front b inner.back)) (sym n.is)
          (inside_joined (before s ns) (at_first s ns ∷ (between s ns ++ at_second s ns ∷ behind s ns)) outer.front (a ∷ (inner.front ++ b ∷ inner.back)) outer.first (below, deep));
      others = parts.others ∙ ap (λ l. outer.front ++ l) (sym inner.is) ∙ sym outer.is;
      first = parts.first;
      second = parts.second;
    }

-- exchanged coordinates
pub exchanged_is : (s : Symmetry) (xs : List ℕ) → s.first < s.second → s.second < length xs
    → exchanged s xs ≡ joint (before s xs) (at_second s xs) (between s xs) (at_first s xs) (behind s xs)
exchanged_is s xs h l =
    let x = cut s xs h l in
    let us : List ℕ = before s xs in
    let vs : List ℕ = between s xs in
    let ws : List ℕ = behind s xs in
    let a : ℕ = at_first s xs in
    let b : ℕ = at_second s xs in
    let one : set xs s.first b ≡ us ++ b ∷ (vs ++ b ∷ ws) = ap (λ l. set l s.first b) x.is ∙ set_at us a (vs ++ b ∷ ws) b s.first x.front in
    let apart : us ++ b ∷ (vs ++ b ∷ ws) ≡ (us ++ b ∷ vs) ++ b ∷ ws = sym (append_assoc us (b ∷ vs) (b ∷ ws)) in
    let long : length (us ++ b ∷ vs) ≡ s.second = omega (arith, length-append us (b ∷ vs), x.front, x.middle) in
    ap (λ l. set l s.second a) (one ∙ apart) ∙ set_at (us ++ b ∷ vs) b ws a s.second long ∙ append_assoc us (b ∷ vs) (a ∷ ws)

pub record AreExchanged (s : Symmetry) (ns xs : List ℕ) : Type 0 where
  pub inside : IsInside ns (exchanged s xs)
  pub first : at_first s (exchanged s xs) ≡ at_second s xs
  pub second : at_second s (exchanged s xs) ≡ at_first s xs
  pub others : at_others s (exchanged s xs) ≡ at_others s xs

pub are_exchanged : (s : Symmetry) (ns xs : List ℕ) → s.first < s.second → s.second < length ns → at_first s ns ≡ at_second s ns → IsInside ns xs → AreExchanged s ns xs
are_exchanged s ns xs h l same inside =
    let m : s.second < length xs = omega (arith, length_inside ns xs inside) in
    let n = cut s ns h l in
    let x = cut s xs h m in
    let us : List ℕ = before s xs in
    let vs : List ℕ = between s xs in
    let ws : List ℕ = behind s xs in
    let e = exchanged_is s xs h m in
    let i = are_inside s ns xs h l inside in
    let parts = joint_parts s (before s xs) (at_second s xs) (between s xs) (at_first s xs) (behind s xs) h x.front x.middle in
    let deep : IsInside (between s ns ++ at_second s ns ∷ behind s ns) (between s xs ++ at_first s xs ∷ behind s xs) = inside_joined (between s ns) (at_second s ns ∷ behind s ns) (between s xs) (at_first s xs ∷ behind s xs) i.middle (omega (arith, i.first), i.back) in
    record {
      inside = subst (IsInside ns) (sym e) (subst (λ (l : List ℕ). IsInside l (joint us (at_second s xs) vs (at_first s xs) ws)) (sym n.is)
          (inside_joined (before s ns) (at_first s ns ∷ (between s ns ++ at_second s ns ∷ behind s ns)) us (at_second s xs ∷ (vs ++ at_first s xs ∷ ws)) i.front (omega (arith, i.second), deep)));
      first = ap (at_first s) e ∙ parts.first;
      second = ap (at_second s) e ∙ parts.second;
      others = ap (at_others s) e ∙ parts.others;
    }
