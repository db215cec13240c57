-- A tile more in a frame that held none.
use Rattle.std.proofs.Common.{◌≡◌, ◌≢◌, ◌∙◌, ℕ, suc, ◌+◌, ◌^◌, ◌<◌, false, if◌then◌else◌, List, [], ◌∷◌, length, map, slice_set, Some, None, sym, refl, ap, subst, arith, inl, inr}
use Rattle.std.proofs.lemmas.Bool.{cases_eq}
use Rattle.std.proofs.lemmas.List.{get_or-set_same, get_or-set_other, length-set, length-map}
use Rattle.tce_cache.specs.Held.{look_up, IsFree}
use Rattle.tce_cache.specs.Ring.{Links, IsIn, AreBelow, AreRings, with_ring}
use Rattle.tce_cache.specs.Table.{Holding, walk, frame_at, entry, bucket_of, bucket_at, order_of, IsTable, IsTileAt}
use Rattle.tce_cache.specs.declared.table.Frame.{Frame}
use Rattle.tce_cache.specs.declared.table.Spread.{Spread}
use Rattle.tce_cache.proofs.Paths.{absent_below, ring_here, ring_other}
use Rattle.tce_cache.proofs.Current.{tile_cases}
use Rattle.tce_cache.proofs.Holdings.{walk_path, length-walk, one_ring, map_other}

pub below_more : (n : ℕ) (xs : List ℕ) → AreBelow n xs → AreBelow (n + 1) xs
below_more n [] b = tt
below_more n (x ∷ xs) b = let here : x < n = b.0 in (omega arith, below_more n xs b.1)

pub in_more : (rings : ℕ → List ℕ) (b c g f : ℕ) → IsIn g (rings c) → IsIn g (with_ring rings b (f ∷ rings b) c)
in_more rings b c g f h =
    elim (cases_eq c b) [
      | inl e ↦ subst (IsIn g) (sym (ring_here rings b c (f ∷ rings b) e)) (inr (subst (λ i. IsIn g (rings i)) e h))
      | inr n ↦ subst (IsIn g) (sym (ring_other rings b c (f ∷ rings b) n)) h
    ]

in_less : (rings : ℕ → List ℕ) (b c g f held : ℕ) → f ≡ held → (IsIn g (rings c) → g < held) → IsIn g (with_ring rings b (f ∷ rings b) c) → g < held + 1
in_less rings b c g f held is was h =
    elim (cases_eq c b) [
      | inl e ↦ elim (subst (IsIn g) (ring_here rings b c (f ∷ rings b) e) h) [
        | inl k ↦ omega arith
        | inr k ↦ (let low : g < held = was (subst (λ i. IsIn g (rings i)) (sym e) k) in omega arith)
      ]
      | inr n ↦ (let low : g < held = was (subst (IsIn g) (ring_other rings b c (f ∷ rings b) n) h) in omega arith)
    ]

pub order_more : (n held : ℕ) (os : List ℕ) (new : Links) → length os ≡ held → AreRings new n 1 (with_ring (λ _. os) 0 (held ∷ os)) → walk new.after n (held + 1) ≡ held ∷ os
order_more n held os new long are =
    let path = (one_ring new n (with_ring (λ _. os) 0 (held ∷ os)) (held ∷ os) are refl).ring 0 (omega arith) in
    let walked : walk new.after (n + 0) (suc (length os)) ≡ held ∷ os = walk_path new.after new.before (n + 0) (held ∷ os) (n + 0) path in
    let start : n + 0 ≡ n = omega arith in
    let count : held + 1 ≡ suc (length os) = omega arith in
    ap (walk new.after n) count ∙ ap (λ x. walk new.after x (suc (length os))) (sym start) ∙ walked

pub table_more : (fs : List Frame) (held b : ℕ) (x : Frame) (order new buckets newer : Links) (s : Spread) (t : IsTable fs held order buckets s)
    → held < length fs → b ≡ bucket_of s x.array x.tile → x.array < length s.firsts.items → ((g : ℕ) → g < held → IsTileAt fs x.array x.tile g → ⊥)
    → AreRings new (length fs) 1 (with_ring (λ _. order_of fs held order) 0 (held ∷ order_of fs held order)) → length new.after ≡ length order.after
    → AreRings newer (length fs) (s.mask + 1) (with_ring t.rings b (held ∷ t.rings b)) → length newer.after ≡ length buckets.after
    → IsTable (slice_set fs held x) (held + 1) new newer s
table_more fs held b x order new buckets newer s t lt home known absent are len more longer =
    let gs : List Frame = slice_set fs held x in
    let d : Frame = record { array = 0; tile = 0; marked = false } in
    let size : length gs ≡ length fs = length-set fs held x in
    let os : List ℕ = order_of fs held order in
    let walked : walk new.after (length fs) (held + 1) ≡ held ∷ os = order_more (length fs) held os new (length-walk order.after (length fs) held) are in
    let is : order_of gs (held + 1) new ≡ held ∷ os = ap (λ n. walk new.after n (held + 1)) size ∙ walked in
    let same : (g : ℕ) → g ≢ held → frame_at gs g ≡ frame_at fs g = λ g n. get_or-set_other fs held g x d n in
    let here : frame_at gs held ≡ x = get_or-set_same fs held x d lt in
    let below : (g : ℕ) → g < held + 1 → g ≢ held → g < held = λ g l n. omega arith in
    record {
      held_le = omega (arith, size);
      order_len = len ∙ t.order_len ∙ ap (λ n. n + 1) (sym size);
      order_ring = subst (λ n. AreRings new n 1 (λ _. order_of gs (held + 1) new)) (sym size) (subst (λ l. AreRings new (length fs) 1 (λ _. l)) (sym is) (one_ring new (length fs) (with_ring (λ _. os) 0 (held ∷ os)) (held ∷ os) are refl));
      order_below = subst (AreBelow (held + 1)) (sym is) (omega arith, below_more held os t.order_below);
      order_all = λ g lg. subst (IsIn g) (sym is) (elim (cases_eq g held) [ inl e ↦ inl (sym e) | inr n ↦ inr (t.order_all g (below g lg n)) ]);
      buckets_len = longer ∙ t.buckets_len ∙ ap (λ n. n + (s.mask + 1)) (sym size);
      room = subst (λ n. n + (s.mask + 1) < 2 ^ 64) (sym size) t.room;
      rings = with_ring t.rings b (held ∷ t.rings b);
      bucket_rings = subst (λ n. AreRings newer n (s.mask + 1) (with_ring t.rings b (held ∷ t.rings b))) (sym size) more;
      home = λ g lg. elim (cases_eq g held) [
        | inl e ↦
            let at : bucket_at s gs g ≡ b = ap (bucket_at s gs) e ∙ ap (λ (y : Frame). bucket_of s y.array y.tile) here ∙ sym home in
            subst (λ c. IsIn g (with_ring t.rings b (held ∷ t.rings b) c)) (sym at) (subst (IsIn g) (sym (ring_here t.rings b b (held ∷ t.rings b) refl)) (inl (sym e)))
        | inr n ↦
            let at : bucket_at s gs g ≡ bucket_at s fs g = ap (λ (y : Frame). bucket_of s y.array y.tile) (same g n) in
            subst (λ c. IsIn g (with_ring t.rings b (held ∷ t.rings b) c)) (sym at) (in_more t.rings b (bucket_at s fs g) g held (t.home g (below g lg n)))
      ];
      ringed = λ r g lr h. in_less t.rings b r g held held refl (t.ringed r g lr) h;
      known = λ g lg. elim (cases_eq g held) [
        | inl e ↦ subst (λ (y : Frame). y.array < length s.firsts.items) (sym (ap (frame_at gs) e ∙ here)) known
        | inr n ↦ subst (λ (y : Frame). y.array < length s.firsts.items) (sym (same g n)) (t.known g (below g lg n))
      ];
      distinct = λ g k lg lk ea et. elim (cases_eq g held) [
        | inl e ↦ elim (cases_eq k held) [
          | inl e2 ↦ e ∙ sym e2
          | inr n ↦ absurd (absent k (below k lk n) (
            ap (λ (y : Frame). y.array) (sym (same k n)) ∙ sym ea ∙ ap (λ (y : Frame). y.array) (ap (frame_at gs) e ∙ here),
            ap (λ (y : Frame). y.tile) (sym (same k n)) ∙ sym et ∙ ap (λ (y : Frame). y.tile) (ap (frame_at gs) e ∙ here),
          ))
        ]
        | inr m ↦ elim (cases_eq k held) [
          | inl e2 ↦ absurd (absent g (below g lg m) (
            ap (λ (y : Frame). y.array) (sym (same g m)) ∙ ea ∙ ap (λ (y : Frame). y.array) (ap (frame_at gs) e2 ∙ here),
            ap (λ (y : Frame). y.tile) (sym (same g m)) ∙ et ∙ ap (λ (y : Frame). y.tile) (ap (frame_at gs) e2 ∙ here),
          ))
          | inr n ↦ t.distinct g k (below g lg m) (below k lk n)
              (ap (λ (y : Frame). y.array) (sym (same g m)) ∙ ea ∙ ap (λ (y : Frame). y.array) (same k n))
              (ap (λ (y : Frame). y.tile) (sym (same g m)) ∙ et ∙ ap (λ (y : Frame). y.tile) (same k n))
        ]
      ];
    }

pub never_there : (fs : List Frame) (os : List ℕ) (a t : ℕ) → look_up (map (entry fs) os) a t ≡ None → (g : ℕ) → IsIn g os → IsTileAt fs a t g → ⊥
never_there fs [] a t e g h is = h
never_there fs (y ∷ ys) a t e g h is =
    elim (tile_cases a t (entry fs y)) [
      | inl s ↦ (let both : Some (entry fs y) ≡ None = ap (λ v. if v then Some (entry fs y) else look_up (map (entry fs) ys) a t) (sym s.0) ∙ e in absurd (cc))
      | inr n ↦
          let later : look_up (map (entry fs) ys) a t ≡ None = ap (λ v. if v then Some (entry fs y) else look_up (map (entry fs) ys) a t) (sym n.0) ∙ e in
          elim h [
            | inl k ↦ n.1 (ap (λ i. (entry fs i).array) k ∙ is.0) (ap (λ i. (entry fs i).tile) k ∙ is.1)
            | inr k ↦ never_there fs ys a t later g k is
          ]
    ]

pub room_low : (fs : List Frame) (held arrays : ℕ) (order : Links) (now : Holding) → record { frames = length fs; arrays = arrays; held = map (entry fs) (order_of fs held order) } ≡ now → length now.held < now.frames → held < length fs
room_low fs held arrays order now view lt =
    let here : length (map (entry fs) (order_of fs held order)) < length fs = subst (λ (x : Holding). length x.held < x.frames) (sym view) lt in
    let long : length (map (entry fs) (order_of fs held order)) ≡ held = length-map (order_of fs held order) (entry fs) ∙ length-walk order.after (length fs) held in
    subst (λ n. n < length fs) long here

pub held_more : (fs : List Frame) (held : ℕ) (x : Frame) (order new buckets : Links) (s : Spread) → IsTable fs held order buckets s → held < length fs
    → AreRings new (length fs) 1 (with_ring (λ _. order_of fs held order) 0 (held ∷ order_of fs held order))
    → map (entry (slice_set fs held x)) (order_of (slice_set fs held x) (held + 1) new) ≡ record { array = x.array; tile = x.tile; frame = held; marked = x.marked } ∷ map (entry fs) (order_of fs held order)
held_more fs held x order new buckets s t lt are =
    let gs : List Frame = slice_set fs held x in
    let d : Frame = record { array = 0; tile = 0; marked = false } in
    let os : List ℕ = order_of fs held order in
    let size : length gs ≡ length fs = length-set fs held x in
    let is : order_of gs (held + 1) new ≡ held ∷ os = ap (λ n. walk new.after n (held + 1)) size ∙ order_more (length fs) held os new (length-walk order.after (length fs) held) are in
    let here : frame_at gs held ≡ x = get_or-set_same fs held x d lt in
    ap (map (entry gs)) is
    ∙ ap (λ h. h ∷ map (entry gs) os) (ap (λ (y : Frame). record { array = y.array; tile = y.tile; frame = held; marked = y.marked }) here)
    ∙ ap (λ l. record { array = x.array; tile = x.tile; frame = held; marked = x.marked } ∷ l) (map_other fs gs held os (λ g n. get_or-set_other fs held g x d n) (absent_below held held os t.order_below (omega arith)))

pub all_below : (n : ℕ) (ys : List ℕ) → ((f : ℕ) → IsIn f ys → f < n) → AreBelow n ys
all_below n [] h = tt
all_below n (y ∷ ys) h = (h y (inl refl), all_below n ys (λ f k. h f (inr k)))

-- the first frame that holds no tile is free
free_above : (fs : List Frame) (n : ℕ) (os : List ℕ) → AreBelow n os → IsFree n (map (entry fs) os)
free_above fs n [] b = tt
free_above fs n (x ∷ xs) b = let here : x < n = b.0 in ((λ e. absurd (omega arith)), free_above fs n xs b.1)

pub held_free : (fs : List Frame) (held arrays : ℕ) (order buckets : Links) (s : Spread) (now : Holding) → IsTable fs held order buckets s
    → record { frames = length fs; arrays = arrays; held = map (entry fs) (order_of fs held order) } ≡ now → IsFree held now.held
held_free fs held arrays order buckets s now t view = subst (λ (x : Holding). IsFree held x.held) view (free_above fs held (order_of fs held order) t.order_below)

pub held_below : (fs : List Frame) (held arrays : ℕ) (order : Links) (now : Holding)
    → record { frames = length fs; arrays = arrays; held = map (entry fs) (order_of fs held order) } ≡ now → held < length fs → held < now.frames
held_below fs held arrays order now view lt = subst (λ (x : Holding). held < x.frames) view lt
