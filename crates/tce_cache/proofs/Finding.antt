-- How a tile is found.
use Rattle.std.proofs.Common.{◌≡◌, ◌≢◌, ◌∙◌, ◌⊎◌, ℕ, zero, suc, ◌+◌, ◌<◌, ◌≤◌, true, false, nat_eq, if◌then◌else◌, List, [], ◌∷◌, length, map, slice_index, slice_index_or, Some, None, sym, refl, ap, subst, arith, inl, inr}
use Rattle.std.specs.Option.{IsSomeAnd}
use Rattle.std.proofs.lemmas.Bool.{cases_eq}
use Rattle.std.proofs.lemmas.List.{get_or_default}
use Rattle.tce_cache.specs.Held.{look_up}
use Rattle.tce_cache.specs.Ring.{Links, IsPath, IsAbsent, AreDistinct, IsIn, removed, AreBelow, IsChain, steps}
use Rattle.tce_cache.specs.Table.{Holding, frame_at, entry, bucket_of, order_of, IsTable, IsTileAt, IsLeft}
use Rattle.tce_cache.specs.declared.table.Frame.{Frame}
use Rattle.tce_cache.specs.declared.table.Spread.{Spread}
use Rattle.tce_cache.proofs.Paths.{absent_below, below_in, below_removed, distinct_removed, first_in}
use Rattle.tce_cache.proofs.Current.{tile_cases}
use Rattle.tce_cache.proofs.Holdings.{length_removed, absent_self}

pub chain_of_path : (A B : List ℕ) (x : ℕ) (ys : List ℕ) (z : ℕ) → IsPath A B x ys z → IsChain A (slice_index A x) ys z
chain_of_path A B x [] z p = p.0
chain_of_path A B x (y ∷ ys) z p = (p.0, chain_of_path A B y ys z p.2)

-- no more different numbers than there are below n
in_or_absent : (x : ℕ) (ys : List ℕ) → IsIn x ys ⊎ IsAbsent x ys
in_or_absent x [] = inr tt
in_or_absent x (y ∷ ys) = elim (cases_eq y x) [ inl e ↦ inl (inl e) | inr n ↦ elim (in_or_absent x ys) [ inl h ↦ inl (inr h) | inr a ↦ inr ((λ e. n (sym e)), a) ] ]

below_less : (n : ℕ) (xs : List ℕ) → AreBelow (suc n) xs → IsAbsent n xs → AreBelow n xs
below_less n [] b a = tt
below_less n (x ∷ xs) b a = let here : x < suc n = b.0 in let other : n ≢ x = a.0 in (omega arith, below_less n xs b.1 a.1)

pub few : (n : ℕ) (xs : List ℕ) → AreDistinct xs → AreBelow n xs → length xs ≤ n
few zero [] d b = omega arith
few zero (x ∷ xs) d b = (let here : x < 0 = b.0 in absurd (omega arith))
few (suc n) xs d b =
    elim (in_or_absent n xs) [
      | inl h ↦
          let less : length (removed n xs) ≤ n = few n (removed n xs) (distinct_removed n xs d) (below_less n (removed n xs) (below_removed (suc n) n xs b) (absent_self n xs d)) in
          omega (arith, less, length_removed n xs h)
      | inr a ↦ (let less : length xs ≤ n = few n xs d (below_less n xs b a) in omega arith)
    ]

-- the steps are as many as the nodes that are left
pub steps_are : (A : List ℕ) (x : ℕ) (ys : List ℕ) (z n : ℕ) → IsChain A x ys z → IsAbsent z ys → length ys ≤ n → steps A x z n ≡ length ys
unfolding steps
steps_are A x [] z zero c a l = refl
steps_are A x [] z (suc n) c a l = (let b : nat_eq x z ≡ true = grind (arith, c) in ap (λ v. if v then 0 else suc (steps A (slice_index A x) z n)) b)
steps_are A x (y ∷ ys) z zero c a l = absurd (omega arith)
steps_are A x (y ∷ ys) z (suc n) c a l =
    let n_end : x ≢ z = λ e. a.0 (sym e ∙ c.0) in
    let b : nat_eq x z ≡ false = grind (arith, n_end) in
    ap (λ v. if v then 0 else suc (steps A (slice_index A x) z n)) b
    ∙ ap (λ i. suc (steps A (slice_index A i) z n)) c.0
    ∙ ap suc (steps_are A (slice_index A y) ys z n c.1 a.1 (omega arith))

pub not_there : (fs : List Frame) (os : List ℕ) (a t : ℕ) → ((f : ℕ) → IsIn f os → IsTileAt fs a t f → ⊥) → look_up (map (entry fs) os) a t ≡ None
not_there fs [] a t never = refl
not_there fs (y ∷ ys) a t never =
    elim (tile_cases a t (entry fs y)) [
      | inl s ↦ absurd (never y (inl refl) (s.1, s.2))
      | inr n ↦ ap (λ v. if v then Some (entry fs y) else look_up (map (entry fs) ys) a t) n.0 ∙ not_there fs ys a t (λ f h. never f (inr h))
    ]

pub there : (fs : List Frame) (os : List ℕ) (a t f : ℕ) → IsIn f os → IsTileAt fs a t f → ((g : ℕ) → IsIn g os → IsTileAt fs a t g → g ≡ f) → look_up (map (entry fs) os) a t ≡ Some (entry fs f)
there fs [] a t f h is only = absurd h
there fs (y ∷ ys) a t f h is only =
    elim (tile_cases a t (entry fs y)) [
      | inl s ↦ ap (λ v. if v then Some (entry fs y) else look_up (map (entry fs) ys) a t) s.0 ∙ ap (λ i. Some (entry fs i)) (only y (inl refl) (s.1, s.2))
      | inr n ↦
          let later : IsIn f ys = elim h [ inl e ↦ absurd (n.1 (ap (λ i. (entry fs i).array) e ∙ is.0) (ap (λ i. (entry fs i).tile) e ∙ is.1)) | inr r ↦ r ] in
          ap (λ v. if v then Some (entry fs y) else look_up (map (entry fs) ys) a t) n.0 ∙ there fs ys a t f later is (λ g k. only g (inr k))
    ]

-- a frame with the tile is found
pub found_at : (fs : List Frame) (held arrays : ℕ) (order buckets : Links) (s : Spread) (now : Holding) (a t f : ℕ) → IsTable fs held order buckets s
    → record { frames = length fs; arrays = arrays; held = map (entry fs) (order_of fs held order) } ≡ now → f < held → IsTileAt fs a t f → IsSomeAnd (look_up now.held a t) (λ h. h.frame ≡ f)
found_at fs held arrays order buckets s now a t f table view low is =
    let os = order_of fs held order in
    let here : look_up (map (entry fs) os) a t ≡ Some (entry fs f) = there fs os a t f (table.order_all f low) is (λ g k g_is. table.distinct g f (below_in held g os table.order_below k) low (g_is.0 ∙ sym is.0) (g_is.1 ∙ sym is.1)) in
    subst (λ (x : Holding). IsSomeAnd (look_up x.held a t) (λ h. h.frame ≡ f)) view (subst (λ o. IsSomeAnd o (λ h. h.frame ≡ f)) (sym here) refl)

-- a tile that no bucket has is not held
pub found_nowhere : (fs : List Frame) (held arrays : ℕ) (order buckets : Links) (s : Spread) (now : Holding) (a t node : ℕ) → IsTable fs held order buckets s
    → record { frames = length fs; arrays = arrays; held = map (entry fs) (order_of fs held order) } ≡ now → IsLeft fs held a t buckets.after node node → held ≤ node → look_up now.held a t ≡ None
found_nowhere fs held arrays order buckets s now a t node table view left high =
    let os = order_of fs held order in
    let none : (f : ℕ) → f < held → IsTileAt fs a t f → ⊥ = λ f low is. empty left.rest left.chain left.below f (left.all f low is) in
    ap (λ (x : Holding). look_up x.held a t) (sym view) ∙ not_there fs os a t (λ f h. none f (below_in held f os table.order_below h))
  where
    empty : (ys : List ℕ) → IsChain buckets.after node ys node → AreBelow held ys → (f : ℕ) → IsIn f ys → ⊥
    empty [] c b f h = h
    empty (y ∷ ys) c b f h = let here : y < held = b.0 in let is : node ≡ y = c.0 in omega arith

-- the first frame in use holds a tile
pub first_low : (fs : List Frame) (held : ℕ) (order buckets : Links) (s : Spread) (f : ℕ) → IsTable fs held order buckets s → f ≡ slice_index order.after (length fs) → f < length fs → f < held
first_low fs held order buckets s f table is low =
    let os = order_of fs held order in
    let n : ℕ = length fs in
    let start : n + 0 ≡ n = omega arith in
    let first : IsIn (slice_index order.after (n + 0)) ((n + 0) ∷ os) = first_in order.after order.before (n + 0) os (n + 0) (table.order_ring.ring 0 (omega arith)) in
    let mine : IsIn f ((n + 0) ∷ os) = subst (λ i. IsIn i ((n + 0) ∷ os)) (ap (slice_index order.after) start ∙ sym is) first in
    elim mine [ inl e ↦ absurd (omega arith) | inr h ↦ below_in held f os table.order_below h ]

-- a bucket's ring, before the first step
pub left_first : (fs : List Frame) (held : ℕ) (order buckets : Links) (s : Spread) (a t node end : ℕ) → IsTable fs held order buckets s → bucket_of s a t < s.mask + 1
    → end ≡ length fs + bucket_of s a t → node ≡ slice_index buckets.after end → IsLeft fs held a t buckets.after node end
left_first fs held order buckets s a t node end table low end_is node_is =
    let b : ℕ = bucket_of s a t in
    let ring = table.rings b in
    let chain = chain_of_path buckets.after buckets.before (length fs + b) ring (length fs + b) (table.bucket_rings.ring b low) in
    subst (λ e. IsLeft fs held a t buckets.after node e) (sym end_is) (record {
      rest = ring;
      chain = subst (λ i. IsChain buckets.after i ring (length fs + b)) (ap (slice_index buckets.after) (sym end_is) ∙ sym node_is) chain;
      below = all_below ring (λ f h. table.ringed b f low h);
      distinct = table.bucket_rings.distinct b low;
      all = λ f lf is. subst (λ r. IsIn f (table.rings r)) (ap (λ x. bucket_of s x (frame_at fs f).tile) is.0 ∙ ap (bucket_of s a) is.1) (table.home f lf);
    })
  where
    all_below : (ys : List ℕ) → ((f : ℕ) → IsIn f ys → f < held) → AreBelow held ys
    all_below [] h = tt
    all_below (y ∷ ys) h = (h y (inl refl), all_below ys (λ f k. h f (inr k)))

-- one step on, past a frame with another tile
pub left_more : (fs : List Frame) (held a t : ℕ) (A : List ℕ) (node next end : ℕ) → IsLeft fs held a t A node end → node ≢ end → (IsTileAt fs a t node → ⊥) → next ≡ slice_index A node → IsLeft fs held a t A next end
left_more fs held a t A node next end left other not next_is = step left.rest left.chain left.below left.distinct left.all
  where
    step : (ys : List ℕ) → IsChain A node ys end → AreBelow held ys → AreDistinct ys → ((f : ℕ) → f < held → IsTileAt fs a t f → IsIn f ys) → IsLeft fs held a t A next end
    step [] c b d all = absurd (other c)
    step (y ∷ ys) c b d all = record {
      rest = ys;
      chain = subst (λ i. IsChain A i ys end) (ap (slice_index A) (sym c.0) ∙ sym next_is) c.1;
      below = b.1;
      distinct = d.1;
      all = λ f lf is. elim (all f lf is) [ inl e ↦ absurd (not (subst (IsTileAt fs a t) (sym e ∙ sym c.0) is)) | inr h ↦ h ];
    }

-- the frame that is looked at holds a tile
pub left_low : (fs : List Frame) (held a t : ℕ) (A : List ℕ) (node end : ℕ) → IsLeft fs held a t A node end → node ≢ end → node < held
left_low fs held a t A node end left other = here left.rest left.chain left.below
  where
    here : (ys : List ℕ) → IsChain A node ys end → AreBelow held ys → node < held
    here [] c b = absurd (other c)
    here (y ∷ ys) c b = subst (λ i. i < held) (sym c.0) b.0

-- fewer steps are left
pub fewer : (fs : List Frame) (held a t : ℕ) (A : List ℕ) (node next end : ℕ) → IsLeft fs held a t A node end → node ≢ end → next ≡ slice_index A node → held ≤ end → steps A next end held < steps A node end held
fewer fs held a t A node next end left other next_is high = step left.rest left.chain left.below left.distinct
  where
    step : (ys : List ℕ) → IsChain A node ys end → AreBelow held ys → AreDistinct ys → steps A next end held < steps A node end held
    step [] c b d = absurd (other c)
    step (y ∷ ys) c b d =
        let room : length (y ∷ ys) ≤ held = few held (y ∷ ys) d b in
        let out : IsAbsent end (y ∷ ys) = absent_below held end (y ∷ ys) b high in
        let before : steps A node end held ≡ suc (length ys) = steps_are A node (y ∷ ys) end held c out room in
        let chain : IsChain A next ys end = subst (λ i. IsChain A i ys end) (ap (slice_index A) (sym c.0) ∙ sym next_is) c.1 in
        let now : steps A next end held ≡ length ys = steps_are A next ys end held chain out.1 (omega arith) in
        omega (arith, before, now)

pub tile_read : (fs : List Frame) (f : ℕ) (x : Frame) (a t : ℕ) → f < length fs → x ≡ slice_index_or fs f x → x.array ≡ a → x.tile ≡ t → IsTileAt fs a t f
tile_read fs f x a t lt is ea et =
    let was : frame_at fs f ≡ x = sym (is ∙ get_or_default fs f x (record { array = 0; tile = 0; marked = false }) lt) in
    (ap (λ (z : Frame). z.array) was ∙ ea, ap (λ (z : Frame). z.tile) was ∙ et)

pub tile_unread : (fs : List Frame) (f : ℕ) (x : Frame) (a t : ℕ) → f < length fs → x ≡ slice_index_or fs f x → IsTileAt fs a t f → (x.array ≡ a) × (x.tile ≡ t)
tile_unread fs f x a t lt is at =
    let was : x ≡ frame_at fs f = is ∙ get_or_default fs f x (record { array = 0; tile = 0; marked = false }) lt in
    (ap (λ (z : Frame). z.array) was ∙ at.0, ap (λ (z : Frame). z.tile) was ∙ at.1)
