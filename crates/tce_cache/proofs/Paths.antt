-- Rings under removal and insertion.
use Rattle.std.proofs.Common.{◌≡◌, ◌≢◌, ◌∙◌, ◌⊎◌, ℕ, ◌+◌, ◌<◌, ◌≤◌, true, false, nat_eq, if◌then◌else◌, List, [], ◌∷◌, length, slice_index, slice_set, sym, refl, ap, subst, arith, inl, inr}
use Rattle.std.proofs.lemmas.Bool.{cases_eq}
use Rattle.std.proofs.lemmas.List.{get_or-set_same, get_or-set_other, length-set}
use Rattle.tce_cache.specs.Ring.{Links, IsPath, IsAbsent, AreDistinct, IsIn, removed, AreBelow, AreRings, with_ring, AreLinks}

-- a write elsewhere keeps a path
pub path_after_kept : (A B : List ℕ) (x : ℕ) (ys : List ℕ) (z i v : ℕ) → IsPath A B x ys z → IsAbsent i (x ∷ ys) → IsPath (slice_set A i v) B x ys z
path_after_kept A B x [] z i v p n = (get_or-set_other A i x v 0 (λ e. n.0 (sym e)) ∙ p.0, p.1)
path_after_kept A B x (y ∷ ys) z i v p n = (get_or-set_other A i x v 0 (λ e. n.0 (sym e)) ∙ p.0, p.1, path_after_kept A B y ys z i v p.2 n.1)

pub path_before_kept : (A B : List ℕ) (x : ℕ) (ys : List ℕ) (z i v : ℕ) → IsPath A B x ys z → IsAbsent i ys → i ≢ z → IsPath A (slice_set B i v) x ys z
path_before_kept A B x [] z i v p n m = (p.0, get_or-set_other B i z v 0 (λ e. m (sym e)) ∙ p.1)
path_before_kept A B x (y ∷ ys) z i v p n m = (p.0, get_or-set_other B i y v 0 (λ e. n.0 (sym e)) ∙ p.1, path_before_kept A B y ys z i v p.2 n.1 m)

pub apart_from : (xs : List ℕ) (x y : ℕ) → IsIn x xs → IsAbsent y xs → y ≢ x
apart_from [] x y h n = absurd h
apart_from (w ∷ ws) x y h n = elim h [ inl e ↦ λ f. n.0 (f ∙ sym e) | inr r ↦ apart_from ws x y r n.1 ]

-- what stands before and after a node of a path
pub before_in : (A B : List ℕ) (x : ℕ) (ys : List ℕ) (z f : ℕ) → IsPath A B x ys z → IsIn f ys → IsIn (slice_index B f) (x ∷ ys)
before_in A B x [] z f p h = absurd h
before_in A B x (y ∷ ys) z f p h =
    elim h [
      | inl e ↦ inl (sym p.1 ∙ ap (slice_index B) e)
      | inr r ↦ inr (before_in A B y ys z f p.2 r)
    ]

pub after_in : (A B : List ℕ) (x : ℕ) (ys : List ℕ) (z f : ℕ) → IsPath A B x ys z → IsIn f ys → IsIn (slice_index A f) ys ⊎ (slice_index A f ≡ z)
after_in A B x [] z f p h = absurd h
after_in A B x (y ∷ []) z f p h = elim h [ inl e ↦ inr (ap (slice_index A) (sym e) ∙ p.2.0) | inr r ↦ absurd r ]
after_in A B x (y ∷ w ∷ ws) z f p h =
    elim h [
      | inl e ↦ inl (inr (inl (sym p.2.0 ∙ ap (slice_index A) e)))
      | inr r ↦ elim (after_in A B y (w ∷ ws) z f p.2 r) [ inl k ↦ inl (inr k) | inr k ↦ inr k ]
    ]

-- a node taken out
pub path_removed : (A B : List ℕ) (x : ℕ) (ys : List ℕ) (z f p q : ℕ) → IsPath A B x ys z → AreDistinct (x ∷ ys) → IsAbsent z ys → IsIn f ys
    → slice_index B f ≡ p → slice_index A f ≡ q → p < length A → q < length B
    → IsPath (slice_set A p q) (slice_set B q p) x (removed f ys) z
path_removed A B x [] z f p q path d n h ep eq lp lq = absurd h
path_removed A B x (y ∷ ys) z f p q path d n h ep eq lp lq =
    elim (cases_eq y f) [
      | inl e ↦ subst (λ b. IsPath (slice_set A p q) (slice_set B q p) x (if b then ys else y ∷ removed f ys) z) (sym (equal y f e)) (at_front ys path d n (sym ep ∙ ap (slice_index B) (sym e) ∙ path.1) (sym eq ∙ ap (slice_index A) (sym e)))
      | inr ne ↦
          let later : IsIn f ys = elim h [ inl e ↦ absurd (ne e) | inr r ↦ r ] in
          let p_in : IsIn p (y ∷ ys) = subst (λ i. IsIn i (y ∷ ys)) ep (before_in A B y ys z f path.2 later) in
          let x_apart : x ≢ p = apart_from (y ∷ ys) p x p_in d.0 in
          let y_apart : y ≢ q = elim (after_in A B y ys z f path.2 later) [
            | inl k ↦ apart_from ys q y (subst (λ i. IsIn i ys) eq k) d.1.0
            | inr k ↦ λ e. n.0 (sym k ∙ eq ∙ sym e)
          ] in
          subst (λ b. IsPath (slice_set A p q) (slice_set B q p) x (if b then ys else y ∷ removed f ys) z) (sym (unequal y f ne))
          (get_or-set_other A p x q 0 x_apart ∙ path.0, get_or-set_other B q y p 0 y_apart ∙ path.1, path_removed A B y ys z f p q path.2 d.1 n.1 later ep eq lp lq)
    ]
  where
    equal : (y f : ℕ) → y ≡ f → nat_eq y f ≡ true
    equal y f e = grind (arith, e)

    unequal : (y f : ℕ) → y ≢ f → nat_eq y f ≡ false
    unequal y f n = grind (arith, n)

    at_front : (ys : List ℕ) → IsPath A B x (y ∷ ys) z → AreDistinct (x ∷ y ∷ ys) → IsAbsent z (y ∷ ys) → p ≡ x → q ≡ slice_index A y → IsPath (slice_set A p q) (slice_set B q p) x ys z
    at_front [] path d n px qy =
        let qz : q ≡ z = qy ∙ path.2.0 in (
          ap (λ i. slice_index (slice_set A p q) i) (sym px) ∙ get_or-set_same A p q 0 lp ∙ qz,
          ap (λ i. slice_index (slice_set B q p) i) (sym qz) ∙ get_or-set_same B q p 0 lq ∙ px,
        )
    at_front (w ∷ ws) path d n px qy =
        let qw : q ≡ w = qy ∙ path.2.0 in
        let rest : IsPath A B w ws z = path.2.2 in
        let p_absent : IsAbsent p (w ∷ ws) = subst (λ i. IsAbsent i (w ∷ ws)) (sym px) d.0.1 in
        let q_absent : IsAbsent q ws = subst (λ i. IsAbsent i ws) (sym qw) d.1.1.0 in
        let q_apart : q ≢ z = λ e. n.1.0 (sym e ∙ qw) in (
          ap (λ i. slice_index (slice_set A p q) i) (sym px) ∙ get_or-set_same A p q 0 lp ∙ qw,
          ap (λ i. slice_index (slice_set B q p) i) (sym qw) ∙ get_or-set_same B q p 0 lq ∙ px,
          path_before_kept (slice_set A p q) B w ws z q p (path_after_kept A B w ws z p q rest p_absent) q_absent q_apart,
        )

-- a node put in front
pub path_pushed : (A B : List ℕ) (s : ℕ) (ys : List ℕ) (f g : ℕ) → IsPath A B s ys s → AreDistinct (s ∷ ys) → IsAbsent f (s ∷ ys) → slice_index A s ≡ g → f < length A → s < length A → f < length B → g < length B
    → IsPath (slice_set (slice_set A f g) s f) (slice_set (slice_set B f s) g f) s (f ∷ ys) s
path_pushed A B s [] f g path d n eg fa sa fb gb =
    let gs : g ≡ s = sym eg ∙ path.0 in
    let f_apart : f ≢ g = λ e. n.0 (e ∙ gs) in (
      get_or-set_same (slice_set A f g) s f 0 (rw length-set sa),
      get_or-set_other (slice_set B f s) g f f 0 f_apart ∙ get_or-set_same B f s 0 fb,
      (
        get_or-set_other (slice_set A f g) s f f 0 n.0 ∙ get_or-set_same A f g 0 fa ∙ gs,
        ap (λ i. slice_index (slice_set (slice_set B f s) g f) i) (sym gs) ∙ get_or-set_same (slice_set B f s) g f 0 (rw length-set gb),
      ),
    )
path_pushed A B s (y ∷ ys) f g path d n eg fa sa fb gb =
    let gy : g ≡ y = sym eg ∙ path.0 in
    let f_apart : f ≢ g = λ e. n.1.0 (e ∙ gy) in
    let g_absent : IsAbsent g ys = subst (λ i. IsAbsent i ys) (sym gy) d.1.0 in
    let g_apart : g ≢ s = λ e. d.0.0 (sym e ∙ gy) in
    let one = path_after_kept A B y ys s f g path.2 n.1 in
    let two = path_after_kept (slice_set A f g) B y ys s s f one d.0 in
    let three = path_before_kept (slice_set (slice_set A f g) s f) B y ys s f s two n.1.1 n.0 in
    let four = path_before_kept (slice_set (slice_set A f g) s f) (slice_set B f s) y ys s g f three g_absent g_apart in (
      get_or-set_same (slice_set A f g) s f 0 (rw length-set sa),
      get_or-set_other (slice_set B f s) g f f 0 f_apart ∙ get_or-set_same B f s 0 fb,
      (
        get_or-set_other (slice_set A f g) s f f 0 n.0 ∙ get_or-set_same A f g 0 fa ∙ gy,
        ap (λ i. slice_index (slice_set (slice_set B f s) g f) i) (sym gy) ∙ get_or-set_same (slice_set B f s) g f 0 (rw length-set gb),
        four,
      ),
    )

-- ---- families of rings
pub absent_below : (n i : ℕ) (xs : List ℕ) → AreBelow n xs → n ≤ i → IsAbsent i xs
absent_below n i [] b h = tt
absent_below n i (x ∷ xs) b h = let here : x < n = b.0 in ((λ e. absurd (omega arith)), absent_below n i xs b.1 h)

pub below_in : (n x : ℕ) (xs : List ℕ) → AreBelow n xs → IsIn x xs → x < n
below_in n x [] b h = absurd h
below_in n x (y ∷ ys) b h = elim h [ inl e ↦ (let here : y < n = b.0 in omega arith) | inr r ↦ below_in n x ys b.1 r ]

pub absent_removed : (x f : ℕ) (ys : List ℕ) → IsAbsent x ys → IsAbsent x (removed f ys)
absent_removed x f [] n = tt
absent_removed x f (y ∷ ys) n = elim (nat_eq y f) as (λ b. IsAbsent x (if b then ys else y ∷ removed f ys)) [ true ↦ n.1 | false ↦ (n.0, absent_removed x f ys n.1) ]

pub distinct_removed : (f : ℕ) (ys : List ℕ) → AreDistinct ys → AreDistinct (removed f ys)
distinct_removed f [] d = tt
distinct_removed f (y ∷ ys) d = elim (nat_eq y f) as (λ b. AreDistinct (if b then ys else y ∷ removed f ys)) [ true ↦ d.1 | false ↦ (absent_removed y f ys d.0, distinct_removed f ys d.1) ]

pub below_removed : (n f : ℕ) (ys : List ℕ) → AreBelow n ys → AreBelow n (removed f ys)
below_removed n f [] b = tt
below_removed n f (y ∷ ys) b = elim (nat_eq y f) as (λ v. AreBelow n (if v then ys else y ∷ removed f ys)) [ true ↦ b.1 | false ↦ (b.0, below_removed n f ys b.1) ]

pub in_removed : (x f : ℕ) (ys : List ℕ) → IsIn x (removed f ys) → IsIn x ys
in_removed x f [] h = h
in_removed x f (y ∷ ys) h =
    elim (nat_eq y f) as (λ b. IsIn x (if b then ys else y ∷ removed f ys) → IsIn x (y ∷ ys)) [
      | true ↦ λ k. inr k
      | false ↦ λ k. elim k [ inl e ↦ inl e | inr r ↦ inr (in_removed x f ys r) ]
    ] h

pub ring_here : (rings : ℕ → List ℕ) (r s : ℕ) (xs : List ℕ) → s ≡ r → with_ring rings r xs s ≡ xs
ring_here rings r s xs e = let b : nat_eq s r ≡ true = grind (arith, e) in ap (λ v. if v then xs else rings s) b

pub ring_other : (rings : ℕ → List ℕ) (r s : ℕ) (xs : List ℕ) → s ≢ r → with_ring rings r xs s ≡ rings s
ring_other rings r s xs n = let b : nat_eq s r ≡ false = grind (arith, n) in ap (λ v. if v then xs else rings s) b

-- a fact of each ring after a change of one
pub at_rings : (P : ℕ → List ℕ → Type 0) (rings : ℕ → List ℕ) (r : ℕ) (xs : List ℕ) → P r xs → ((s : ℕ) → s ≢ r → P s (rings s)) → (s : ℕ) → P s (with_ring rings r xs s)
at_rings P rings r xs here others s =
    elim (cases_eq s r) [
      | inl e ↦ subst (λ ys. P s ys) (sym (ring_here rings r s xs e)) (subst (λ i. P i xs) (sym e) here)
      | inr n ↦ subst (λ ys. P s ys) (sym (ring_other rings r s xs n)) (others s n)
    ]

-- a node or the end of one ring is none of another
pub member_absent : (links : Links) (nodes count : ℕ) (rings : ℕ → List ℕ) → AreRings links nodes count rings → (r s p : ℕ) → r < count → s < count → s ≢ r → IsIn p ((nodes + r) ∷ rings r) → IsAbsent p ((nodes + s) ∷ rings s)
member_absent links nodes count rings are r s p hr hs n h =
    elim h [
      | inl e ↦ ((λ f. absurd (n (omega arith))), absent_below nodes p (rings s) (are.below s hs) (omega arith))
      | inr k ↦
          let low : p < nodes = below_in nodes p (rings r) (are.below r hr) k in
          ((λ f. absurd (omega arith)), are.apart r s p hr hs (λ e. n (sym e)) k)
    ]

pub first_in : (A B : List ℕ) (x : ℕ) (ys : List ℕ) (z : ℕ) → IsPath A B x ys z → IsIn (slice_index A x) (z ∷ ys)
first_in A B x [] z p = inl (sym p.0)
first_in A B x (y ∷ ys) z p = inr (inl (sym p.0))

-- the rings with a node taken out
pub rings_removed : (A B : List ℕ) (nodes count r f : ℕ) (rings : ℕ → List ℕ) → AreLinks (record { after = A; before = B }) → nodes + count ≤ length A
    → AreRings (record { after = A; before = B }) nodes count rings → r < count → IsIn f (rings r)
    → AreRings (record { after = slice_set A (slice_index B f) (slice_index A f); before = slice_set B (slice_index A f) (slice_index B f) }) nodes count (with_ring rings r (removed f (rings r)))
rings_removed A B nodes count r f rings links room are lt h =
    let p : ℕ = slice_index B f in
    let q : ℕ = slice_index A f in
    let low : f < nodes = below_in nodes f (rings r) (are.below r lt) h in
    let p_low : p < length A = links.2 f (omega arith) in
    let q_low : q < length A = links.1 f (omega arith) in
    let q_room : q < length B = subst (λ n. q < n) (sym links.0) q_low in
    let p_in : IsIn p ((nodes + r) ∷ rings r) = before_in A B (nodes + r) (rings r) (nodes + r) f (are.ring r lt) h in
    let q_in : IsIn q ((nodes + r) ∷ rings r) = elim (after_in A B (nodes + r) (rings r) (nodes + r) f (are.ring r lt) h) [ inl k ↦ inr k | inr e ↦ inl (sym e) ] in
    let end : IsAbsent (nodes + r) (rings r) = absent_below nodes (nodes + r) (rings r) (are.below r lt) (omega arith) in
    record {
      ring = λ s ls. at_rings (λ s xs. s < count → IsPath (slice_set A p q) (slice_set B q p) (nodes + s) xs (nodes + s)) rings r (removed f (rings r))
          (λ _. path_removed A B (nodes + r) (rings r) (nodes + r) f p q (are.ring r lt) (end, are.distinct r lt) end h refl refl p_low q_room)
          (λ s n ls.
          let p_out = member_absent _ nodes count rings are r s p lt ls n p_in in
          let q_out = member_absent _ nodes count rings are r s q lt ls n q_in in
          path_before_kept (slice_set A p q) B (nodes + s) (rings s) (nodes + s) q p (path_after_kept A B (nodes + s) (rings s) (nodes + s) p q (are.ring s ls) p_out) q_out.1 q_out.0)
          s ls;
      distinct = λ s ls. at_rings (λ s xs. s < count → AreDistinct xs) rings r (removed f (rings r)) (λ _. distinct_removed f (rings r) (are.distinct r lt)) (λ s _ ls. are.distinct s ls) s ls;
      below = λ s ls. at_rings (λ s xs. s < count → AreBelow nodes xs) rings r (removed f (rings r)) (λ _. below_removed nodes f (rings r) (are.below r lt)) (λ s _ ls. are.below s ls) s ls;
      apart = λ s t x ls lt2 n k.
          let was : (s : ℕ) → IsIn x (with_ring rings r (removed f (rings r)) s) → IsIn x (rings s) =
          at_rings (λ s xs. IsIn x xs → IsIn x (rings s)) rings r (removed f (rings r)) (in_removed x f (rings r)) (λ s _ i. i) in
          at_rings (λ t xs. IsAbsent x (rings t) → IsAbsent x xs) rings r (removed f (rings r)) (absent_removed x f (rings r)) (λ t _ a. a) t (are.apart s t x ls lt2 n (was s k));
    }

-- the rings with a node put behind an end
pub rings_pushed : (A B : List ℕ) (nodes count r f : ℕ) (rings : ℕ → List ℕ) → AreLinks (record { after = A; before = B }) → nodes + count ≤ length A
    → AreRings (record { after = A; before = B }) nodes count rings → r < count → f < nodes → ((s : ℕ) → s < count → IsAbsent f (rings s))
    → AreRings (record {
      after = slice_set (slice_set A f (slice_index A (nodes + r))) (nodes + r) f;
      before = slice_set (slice_set B f (nodes + r)) (slice_index A (nodes + r)) f;
    }) nodes count (with_ring rings r (f ∷ rings r))
rings_pushed A B nodes count r f rings links room are lt low free =
    let e : ℕ = nodes + r in
    let g : ℕ = slice_index A e in
    let g_low : g < length A = links.1 e (omega arith) in
    let g_room : g < length B = subst (λ n. g < n) (sym links.0) g_low in
    let f_room : f < length B = subst (λ n. f < n) (sym links.0) (omega arith) in
    let end : IsAbsent e (rings r) = absent_below nodes e (rings r) (are.below r lt) (omega arith) in
    let g_in : IsIn g (e ∷ rings r) = first_in A B e (rings r) e (are.ring r lt) in
    record {
      ring = λ s ls. at_rings (λ s xs. s < count → IsPath (slice_set (slice_set A f g) e f) (slice_set (slice_set B f e) g f) (nodes + s) xs (nodes + s)) rings r (f ∷ rings r)
          (λ _. path_pushed A B e (rings r) f g (are.ring r lt) (end, are.distinct r lt) ((λ k. absurd (omega arith)), free r lt) refl (omega arith) (omega arith) f_room g_room)
          (λ s n ls.
          let e_out = member_absent _ nodes count rings are r s e lt ls n (inl refl) in
          let g_out = member_absent _ nodes count rings are r s g lt ls n g_in in
          let f_apart : f ≢ nodes + s = λ k. absurd (omega arith) in
          let one = path_after_kept A B (nodes + s) (rings s) (nodes + s) f g (are.ring s ls) (f_apart, free s ls) in
          let two = path_after_kept (slice_set A f g) B (nodes + s) (rings s) (nodes + s) e f one e_out in
          let three = path_before_kept (slice_set (slice_set A f g) e f) B (nodes + s) (rings s) (nodes + s) f e two (free s ls) f_apart in
          path_before_kept (slice_set (slice_set A f g) e f) (slice_set B f e) (nodes + s) (rings s) (nodes + s) g f three g_out.1 g_out.0)
          s ls;
      distinct = λ s ls. at_rings (λ s xs. s < count → AreDistinct xs) rings r (f ∷ rings r) (λ _. (free r lt, are.distinct r lt)) (λ s _ ls. are.distinct s ls) s ls;
      below = λ s ls. at_rings (λ s xs. s < count → AreBelow nodes xs) rings r (f ∷ rings r) (λ _. (low, are.below r lt)) (λ s _ ls. are.below s ls) s ls;
      apart = pushed_apart;
    }
  where
    pushed_apart : (s t x : ℕ) → s < count → t < count → s ≢ t → IsIn x (with_ring rings r (f ∷ rings r) s) → IsAbsent x (with_ring rings r (f ∷ rings r) t)
    pushed_apart s t x ls lt2 n k =
        elim (cases_eq s r) [
          | inl e ↦
              let k2 : IsIn x (f ∷ rings r) = subst (λ xs. IsIn x xs) (ring_here rings r s (f ∷ rings r) e) k in
              let other : t ≢ r = λ y. n (e ∙ sym y) in
              subst (λ xs. IsAbsent x xs) (sym (ring_other rings r t (f ∷ rings r) other)) (elim k2 [
                | inl fx ↦ subst (λ i. IsAbsent i (rings t)) fx (free t lt2)
                | inr i ↦ are.apart r t x lt lt2 (λ y. other (sym y)) i
              ])
          | inr m ↦
              let k2 : IsIn x (rings s) = subst (λ xs. IsIn x xs) (ring_other rings r s (f ∷ rings r) m) k in
              elim (cases_eq t r) [
                | inl e ↦
                    subst (λ xs. IsAbsent x xs) (sym (ring_here rings r t (f ∷ rings r) e))
                    ((λ xf. apart_from (rings s) x f k2 (free s ls) (sym xf)), subst (λ i. IsAbsent x (rings i)) e (are.apart s t x ls lt2 n k2))
                | inr o ↦ subst (λ xs. IsAbsent x xs) (sym (ring_other rings r t (f ∷ rings r) o)) (are.apart s t x ls lt2 n k2)
              ]
        ]
