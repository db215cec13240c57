-- The coordinates of an element, from its place in row-major order.
use Rattle.std.proofs.Common.{◌≡◌, ◌∙◌, ℕ, zero, suc, ◌+◌, ◌*◌, ◌/◌, ◌%◌, ◌<◌, List, [], ◌∷◌, ◌++◌, length, drop, get_or, refl, sym, ap, subst, arith, append_assoc}
use Rattle.std.proofs.lemmas.List.{drop_more, drop_all}
use Rattle.std.proofs.lemmas.Nat.{div_below, mod_below, div-add-mod', div-mul-add}
use Rattle.tce_space.specs.Box.{product, place, IsInside}

-- the coordinates so far lead to the element with this number, however the rest of it is reached
pub record IsReached (ns cs : List ℕ) (d rest left number : ℕ) : Type 0 where
  pub rest_is : rest ≡ product (drop d ns)
  pub below : left < rest
  pub reached : (ys : List ℕ) → IsInside (drop d ns) ys → place (drop d ns) ys ≡ left → IsInside ns (cs ++ ys) × (place ns (cs ++ ys) ≡ number)

factor : (n m k : ℕ) → k < n * m → (0 < n) × (0 < m)
factor zero m k h = absurd (let none : 0 * m ≡ 0 = omega arith in omega arith)
factor (suc n) zero k h = absurd (let none : suc n * 0 ≡ 0 = omega arith in omega arith)
factor (suc n) (suc m) k h = (omega arith, omega arith)

-- the box of the dimensions behind this one
pub smaller : (n m rest : ℕ) → rest ≡ n * m → 0 < n → rest / n ≡ m
smaller n m rest is some =
    let turned : rest ≡ m * n + 0 = omega arith in
    ap (λ r. r / n) turned ∙ div-mul-add m n 0 some

pub record IsSplit (n rest left : ℕ) (m : ℕ) : Type 0 where
  pub rest_is : rest / n ≡ m
  pub some : 0 < n
  pub next : 0 < m
  pub first : left / m < n
  pub second : left % m < m
  pub sum : left / m * m + left % m ≡ left

pub split : (n rest left m : ℕ) → rest ≡ n * m → left < rest → IsSplit n rest left m
split n rest left m is below =
    let l : left < n * m = omega arith in
    let f = factor n m left l in
    record {
      rest_is = smaller n m rest is f.0;
      some = f.0;
      next = f.1;
      first = div_below left m n f.1 l;
      second = mod_below left m f.1;
      sum = div-add-mod' left m;
    }

-- what stands at the front of the dimensions that are left
pub product_more : (ns : List ℕ) (d : ℕ) → d < length ns → product (drop d ns) ≡ get_or ns d 0 * product (drop (d + 1) ns)
product_more ns d l = ap product (drop_more ns d 0 l)

pub reached_split : (ns cs : List ℕ) (d rest left number : ℕ) → d < length ns → IsReached ns cs d rest left number → IsSplit (get_or ns d 0) rest left (product (drop (d + 1) ns))
reached_split ns cs d rest left number l r = split (get_or ns d 0) rest left (product (drop (d + 1) ns)) (r.rest_is ∙ product_more ns d l) r.below

-- one dimension more
pub reached_more : (ns cs : List ℕ) (d rest left number m : ℕ) → d < length ns → IsReached ns cs d rest left number → m ≡ rest / get_or ns d 0
    → IsReached ns (cs ++ (left / m) ∷ []) (d + 1) m (left % m) number
reached_more ns cs d rest left number m l r e =
    let s = reached_split ns cs d rest left number l r in
    let is : m ≡ product (drop (d + 1) ns) = e ∙ s.rest_is in
    subst (λ k. IsReached ns (cs ++ (left / k) ∷ []) (d + 1) k (left % k) number) (sym is) (record {
      rest_is = refl;
      below = s.second;
      reached = λ ys inside placed.
          let m : ℕ = product (drop (d + 1) ns) in
          let q : ℕ = left / product (drop (d + 1) ns) in
          let front : drop d ns ≡ get_or ns d 0 ∷ drop (d + 1) ns = drop_more ns d 0 l in
          let there : IsInside (drop d ns) (q ∷ ys) = subst (λ (b : List ℕ). IsInside b (q ∷ ys)) (sym front) (s.first, inside) in
          let number_is : place (drop d ns) (q ∷ ys) ≡ left = ap (λ (b : List ℕ). place b (q ∷ ys)) front ∙ ap (λ p. q * m + p) placed ∙ s.sum in
          let all = r.reached (q ∷ ys) there number_is in
          let joined : (cs ++ q ∷ []) ++ ys ≡ cs ++ q ∷ ys = append_assoc cs (q ∷ []) ys in
          (subst (IsInside ns) (sym joined) all.0, ap (place ns) joined ∙ all.1);
    })

append_none : (xs : List ℕ) → xs ++ [] ≡ xs
append_none [] = refl
append_none (x ∷ xs) = ap (λ ys. x ∷ ys) (append_none xs)

-- the end is reached
pub reached_end : (ns cs : List ℕ) (d rest left number : ℕ) → length ns ≡ d → IsReached ns cs d rest left number → IsInside ns cs × (place ns cs ≡ number)
reached_end ns cs d rest left number l r =
    let none : drop d ns ≡ [] = drop_all d ns (omega arith) in
    let one : rest ≡ 1 = r.rest_is ∙ ap product none in
    let last : 0 ≡ left = omega (arith, r.below) in
    let all = r.reached [] (subst (λ (b : List ℕ). IsInside b []) (sym none) tt) (ap (λ (b : List ℕ). place b []) none ∙ last) in
    (subst (IsInside ns) (append_none cs) all.0, ap (place ns) (sym (append_none cs)) ∙ all.1)

pub coordinate_below : (ns xs : List ℕ) (d : ℕ) → IsInside ns xs → d < length ns → get_or xs d 0 < get_or ns d 0
coordinate_below [] xs d h l = absurd (omega arith)
coordinate_below (n ∷ ns) [] d h l = absurd h
coordinate_below (n ∷ ns) (x ∷ xs) zero h l = h.0
coordinate_below (n ∷ ns) (x ∷ xs) (suc d) h l = coordinate_below ns xs d h.1 (omega arith)
