-- A tile in the place of another, and a tile whose mark is taken away.
use Rattle.std.proofs.Common.{◌≡◌, ◌≢◌, ◌∙◌, ℕ, ◌+◌, ◌*◌, ◌/◌, ◌%◌, ◌^◌, ◌<◌, ◌≤◌, true, false, if◌then◌else◌, List, [], ◌∷◌, ◌++◌, length, map, slice_index, slice_index_or, slice_set, Some, sym, refl, ap, subst, arith, inl, inr}
use Rattle.std.proofs.lemmas.Bool.{cases_eq}
use Rattle.std.proofs.lemmas.Nat.{and_le_r}
use Rattle.std.proofs.lemmas.List.{get_or-set_same, get_or-set_other, get_or_default, length-set, length-map}
use Rattle.tce_cache.specs.Held.{Held, is_tile, look_up, cleaned, IsFree, AreApart}
use Rattle.tce_cache.specs.Ring.{Links, IsPath, IsAbsent, AreDistinct, IsIn, removed, AreBelow, AreRings, with_ring}
use Rattle.tce_cache.specs.Table.{Holding, walk, frame_at, entry, bucket_of, bucket_at, order_of, IsTable, IsTileAt}
use Rattle.tce_cache.specs.declared.table.Frame.{Frame}
use Rattle.tce_cache.specs.declared.table.Spread.{Spread}
use Rattle.tce_cache.proofs.Paths.{below_in, below_removed, in_removed, ring_here, ring_other}
use Rattle.tce_cache.proofs.Current.{tile_cases}
use Rattle.tce_cache.proofs.Holdings.{length-walk, absent_self, in_removed_other, one_ring, found_entry, map_other, IsFront, order_front}
use Rattle.tce_cache.proofs.Finding.{not_there, there}
use Rattle.tce_cache.proofs.Holding.{in_more}

-- ---- what a table says of the tiles that it holds
apart_entries : (fs : List Frame) (held n : ℕ) (os : List ℕ) → held < n + 1 → AreDistinct os → AreBelow held os
    → ((f g : ℕ) → f < held → g < held → (frame_at fs f).array ≡ (frame_at fs g).array → (frame_at fs f).tile ≡ (frame_at fs g).tile → f ≡ g) → AreApart n (map (entry fs) os)
apart_entries fs held n [] room d b only = tt
apart_entries fs held n (y ∷ ys) room d b only =
    let low : y < held = b.0 in (
      not_there fs ys (frame_at fs y).array (frame_at fs y).tile (λ f h is. absent_in ys f h d.0 (only f y (below_in held f ys b.1 h) low is.0 is.1)),
      free ys d.0,
      omega arith,
      apart_entries fs held n ys room d.1 b.1 only,
    )
  where
    absent_in : (zs : List ℕ) (f : ℕ) → IsIn f zs → IsAbsent y zs → f ≡ y → ⊥
    absent_in [] f h a e = h
    absent_in (z ∷ zs) f h a e = elim h [ inl k ↦ a.0 (sym e ∙ sym k) | inr k ↦ absent_in zs f k a.1 e ]

    free : (zs : List ℕ) → IsAbsent y zs → IsFree y (map (entry fs) zs)
    free [] a = tt
    free (z ∷ zs) a = (a.0, free zs a.1)

pub held_apart : (fs : List Frame) (held arrays : ℕ) (order buckets : Links) (s : Spread) (now : Holding) → IsTable fs held order buckets s
    → record { frames = length fs; arrays = arrays; held = map (entry fs) (order_of fs held order) } ≡ now → AreApart now.frames now.held
held_apart fs held arrays order buckets s now t view =
    let le = t.held_le in
    subst (λ (x : Holding). AreApart x.frames x.held) view
    (apart_entries fs held (length fs) (order_of fs held order) (omega arith) (t.order_ring.distinct 0 (omega arith)) t.order_below t.distinct)

pub held_count : (fs : List Frame) (held arrays : ℕ) (order : Links) (now : Holding)
    → record { frames = length fs; arrays = arrays; held = map (entry fs) (order_of fs held order) } ≡ now → length now.held ≡ held
held_count fs held arrays order now view =
    ap (λ (x : Holding). length x.held) (sym view) ∙ length-map (order_of fs held order) (entry fs) ∙ length-walk order.after (length fs) held

-- the frames in use are the first ones
pub held_first : (fs : List Frame) (held arrays : ℕ) (order buckets : Links) (s : Spread) (now : Holding) (a t : ℕ) (h : Held) → IsTable fs held order buckets s
    → record { frames = length fs; arrays = arrays; held = map (entry fs) (order_of fs held order) } ≡ now → look_up now.held a t ≡ Some h → h.frame < length now.held
held_first fs held arrays order buckets s now a t h table view e =
    let os : List ℕ = order_of fs held order in
    let is = found_entry fs os a t h (ap (λ (x : Holding). look_up x.held a t) view ∙ e) in
    let low : h.frame < held = below_in held h.frame os table.order_below is.1 in
    let count = held_count fs held arrays order now view in
    omega arith

-- each frame in use holds the tile that it says
pub held_at : (fs : List Frame) (held arrays : ℕ) (order buckets : Links) (s : Spread) (now : Holding) (f : ℕ) (x : Frame) → IsTable fs held order buckets s
    → record { frames = length fs; arrays = arrays; held = map (entry fs) (order_of fs held order) } ≡ now → f < held → x ≡ slice_index_or fs f x
    → look_up now.held x.array x.tile ≡ Some (record { array = x.array; tile = x.tile; frame = f; marked = x.marked })
held_at fs held arrays order buckets s now f x t view lt is =
    let le = t.held_le in
    let d : Frame = record { array = 0; tile = 0; marked = false } in
    let was : x ≡ frame_at fs f = is ∙ get_or_default fs f x d (omega arith) in
    let os : List ℕ = order_of fs held order in
    let here : look_up (map (entry fs) os) (frame_at fs f).array (frame_at fs f).tile ≡ Some (entry fs f) =
    there fs os (frame_at fs f).array (frame_at fs f).tile f (t.order_all f lt) (refl, refl) (λ g k g_is. t.distinct g f (below_in held g os t.order_below k) lt g_is.0 g_is.1) in
    let in_now : look_up now.held (frame_at fs f).array (frame_at fs f).tile ≡ Some (entry fs f) = ap (λ (h : Holding). look_up h.held (frame_at fs f).array (frame_at fs f).tile) (sym view) ∙ here in
    subst (λ (y : Frame). look_up now.held y.array y.tile ≡ Some (record { array = y.array; tile = y.tile; frame = f; marked = y.marked })) (sym was) in_now

-- ---- the last of the order
last_in : (A B : List ℕ) (x y : ℕ) (ys : List ℕ) (z : ℕ) → IsPath A B x (y ∷ ys) z → IsIn (slice_index B z) (y ∷ ys)
last_in A B x y [] z p = inl (sym p.2.1)
last_in A B x y (w ∷ ws) z p = inr (last_in A B y w ws z p.2)

last_entry : (fs : List Frame) (A B : List ℕ) (x : ℕ) (os : List ℕ) (z : ℕ) (rest : List Held) (h : Held) → IsPath A B x os z → map (entry fs) os ≡ rest ++ h ∷ [] → slice_index B z ≡ h.frame
last_entry fs A B x [] z [] h p e = absurd (cc)
last_entry fs A B x [] z (r ∷ rs) h p e = absurd (cc)
last_entry fs A B x (y ∷ []) z [] h p e =
    let same : entry fs y ≡ h = cc in
    p.2.1 ∙ ap (λ (k : Held). k.frame) same
last_entry fs A B x (y ∷ []) z (r ∷ []) h p e = let tail : [] ≡ h ∷ [] = cc in absurd (cc)
last_entry fs A B x (y ∷ []) z (r ∷ r2 ∷ rs) h p e = let tail : [] ≡ r2 ∷ (rs ++ h ∷ []) = cc in absurd (cc)
last_entry fs A B x (y ∷ w ∷ ws) z [] h p e = let tail : entry fs w ∷ map (entry fs) ws ≡ [] = cc in absurd (cc)
last_entry fs A B x (y ∷ w ∷ ws) z (r ∷ rs) h p e =
    let tail : map (entry fs) (w ∷ ws) ≡ rs ++ h ∷ [] = cc in
    last_entry fs A B y (w ∷ ws) z rs h p.2 tail

pub oldest_is : (fs : List Frame) (held arrays : ℕ) (order buckets : Links) (s : Spread) (now : Holding) (f : ℕ) (rest : List Held) (h : Held) → IsTable fs held order buckets s
    → record { frames = length fs; arrays = arrays; held = map (entry fs) (order_of fs held order) } ≡ now → f ≡ slice_index order.before (length fs) → now.held ≡ rest ++ h ∷ [] → f ≡ h.frame
oldest_is fs held arrays order buckets s now f rest h t view is e =
    let start : length fs + 0 ≡ length fs = omega arith in
    is ∙ ap (slice_index order.before) (sym start)
    ∙ last_entry fs order.after order.before (length fs + 0) (order_of fs held order) (length fs + 0) rest h (t.order_ring.ring 0 (omega arith)) (ap (λ (x : Holding). x.held) view ∙ e)

pub oldest_low : (fs : List Frame) (held : ℕ) (order buckets : Links) (s : Spread) (f : ℕ) → IsTable fs held order buckets s → f ≡ slice_index order.before (length fs) → 0 < held → f < held
oldest_low fs held order buckets s f t is some =
    let start : length fs + 0 ≡ length fs = omega arith in
    let long : 0 < length (order_of fs held order) = omega (arith, length-walk order.after (length fs) held) in
    let at : f ≡ slice_index order.before (length fs + 0) = is ∙ ap (slice_index order.before) (sym start) in
    by_order (order_of fs held order) long (t.order_ring.ring 0 (omega arith)) t.order_below at
  where
    by_order : (os : List ℕ) → 0 < length os → IsPath order.after order.before (length fs + 0) os (length fs + 0) → AreBelow held os → f ≡ slice_index order.before (length fs + 0) → f < held
    by_order [] l p b e = absurd (omega arith)
    by_order (y ∷ ys) l p b e = below_in held f (y ∷ ys) b (subst (λ i. IsIn i (y ∷ ys)) (sym e) (last_in order.after order.before (length fs + 0) y ys (length fs + 0) p))

-- ---- a frame that moves from one bucket to another
abbrev pub rehomed : (ℕ → List ℕ) → ℕ → ℕ → ℕ → ℕ → List ℕ
rehomed rings c f b = with_ring (with_ring rings c (removed f (rings c))) b (f ∷ with_ring rings c (removed f (rings c)) b)

stays_in : (rings : ℕ → List ℕ) (c b d g f : ℕ) → IsIn g (rings d) → g ≢ f → IsIn g (rehomed rings c f b d)
stays_in rings c b d g f h n =
    let one : IsIn g (with_ring rings c (removed f (rings c)) d) = elim (cases_eq d c) [
      | inl e ↦ subst (IsIn g) (sym (ring_here rings c d (removed f (rings c)) e)) (in_removed_other g f (rings c) (subst (λ i. IsIn g (rings i)) e h) n)
      | inr m ↦ subst (IsIn g) (sym (ring_other rings c d (removed f (rings c)) m)) h
    ] in
    in_more (with_ring rings c (removed f (rings c))) b d g f one

was_in : (rings : ℕ → List ℕ) (c b d g f held : ℕ) → f < held → ((r : ℕ) → IsIn g (rings r) → r ≡ d → g < held) → IsIn g (rehomed rings c f b d) → g < held
was_in rings c b d g f held low was h =
    elim (cases_eq d b) [
      | inl e ↦ elim (subst (IsIn g) (ring_here r1 b d (f ∷ r1 b) e) h) [
        | inl k ↦ omega arith
        | inr k ↦ inner (subst (λ i. IsIn g (r1 i)) (sym e) k)
      ]
      | inr n ↦ inner (subst (IsIn g) (ring_other r1 b d (f ∷ r1 b) n) h)
    ]
  where
    r1 : ℕ → List ℕ
    r1 = with_ring rings c (removed f (rings c))

    inner : IsIn g (with_ring rings c (removed f (rings c)) d) → g < held
    inner k =
        elim (cases_eq d c) [
          | inl e ↦ was d (subst (λ i. IsIn g (rings i)) (sym e) (in_removed g f (rings c) (subst (IsIn g) (ring_here rings c d (removed f (rings c)) e) k))) refl
          | inr n ↦ was d (subst (IsIn g) (ring_other rings c d (removed f (rings c)) n) k) refl
        ]

pub table_replaced : (fs : List Frame) (held f b : ℕ) (x : Frame) (order new buckets newer : Links) (s : Spread) (t : IsTable fs held order buckets s)
    → f < held → IsFront fs held f order new → b ≡ bucket_of s x.array x.tile → x.array < length s.firsts.items → ((g : ℕ) → g < held → IsTileAt fs x.array x.tile g → ⊥)
    → AreRings newer (length fs) (s.mask + 1) (rehomed t.rings (bucket_at s fs f) f b) → length newer.after ≡ length buckets.after
    → IsTable (slice_set fs f x) held new newer s
table_replaced fs held f b x order new buckets newer s t lt front home known absent more longer =
    let gs : List Frame = slice_set fs f x in
    let d : Frame = record { array = 0; tile = 0; marked = false } in
    let le = t.held_le in
    let len : length gs ≡ length fs = length-set fs f x in
    let os : List ℕ = order_of fs held order in
    let order_is : order_of gs held new ≡ f ∷ removed f os = ap (λ n. walk new.after n held) len ∙ order_front fs held f order new buckets s t lt front in
    let same : (g : ℕ) → g ≢ f → frame_at gs g ≡ frame_at fs g = λ g n. get_or-set_other fs f g x d n in
    let here : frame_at gs f ≡ x = get_or-set_same fs f x d (omega arith) in
    let rings : ℕ → List ℕ = rehomed t.rings (bucket_at s fs f) f b in
    record {
      held_le = omega (arith, len);
      order_len = front.len ∙ t.order_len ∙ ap (λ n. n + 1) (sym len);
      order_ring = subst (λ n. AreRings new n 1 (λ _. order_of gs held new)) (sym len) (subst (λ xs. AreRings new (length fs) 1 (λ _. xs)) (sym order_is) (one_ring new (length fs) front.rings (f ∷ removed f os) front.are front.is));
      order_below = subst (AreBelow held) (sym order_is) (lt, below_removed held f os t.order_below);
      order_all = λ g lg. subst (IsIn g) (sym order_is) (elim (cases_eq g f) [ inl e ↦ inl (sym e) | inr n ↦ inr (in_removed_other g f os (t.order_all g lg) n) ]);
      buckets_len = longer ∙ t.buckets_len ∙ ap (λ n. n + (s.mask + 1)) (sym len);
      room = subst (λ n. n + (s.mask + 1) < 2 ^ 64) (sym len) t.room;
      rings = rings;
      bucket_rings = subst (λ n. AreRings newer n (s.mask + 1) rings) (sym len) more;
      home = λ g lg. elim (cases_eq g f) [
        | inl e ↦
            let at : bucket_at s gs g ≡ b = ap (bucket_at s gs) e ∙ ap (λ (y : Frame). bucket_of s y.array y.tile) here ∙ sym home in
            let r1 : ℕ → List ℕ = with_ring t.rings (bucket_at s fs f) (removed f (t.rings (bucket_at s fs f))) in
            subst (λ c. IsIn g (rings c)) (sym at) (subst (IsIn g) (sym (ring_here r1 b b (f ∷ r1 b) refl)) (inl (sym e)))
        | inr n ↦
            let at : bucket_at s gs g ≡ bucket_at s fs g = ap (λ (y : Frame). bucket_of s y.array y.tile) (same g n) in
            subst (λ c. IsIn g (rings c)) (sym at) (stays_in t.rings (bucket_at s fs f) b (bucket_at s fs g) g f (t.home g lg) n)
      ];
      ringed = λ r g lr h. was_in t.rings (bucket_at s fs f) b r g f held lt (λ q k e. t.ringed q g (subst (λ i. i < s.mask + 1) (sym e) lr) k) h;
      known = λ g lg. elim (cases_eq g f) [
        | inl e ↦ subst (λ (y : Frame). y.array < length s.firsts.items) (sym (ap (frame_at gs) e ∙ here)) known
        | inr n ↦ subst (λ (y : Frame). y.array < length s.firsts.items) (sym (same g n)) (t.known g lg)
      ];
      distinct = λ g k lg lk ea et. elim (cases_eq g f) [
        | inl e ↦ elim (cases_eq k f) [
          | inl e2 ↦ e ∙ sym e2
          | inr n ↦ absurd (absent k lk (
            ap (λ (y : Frame). y.array) (sym (same k n)) ∙ sym ea ∙ ap (λ (y : Frame). y.array) (ap (frame_at gs) e ∙ here),
            ap (λ (y : Frame). y.tile) (sym (same k n)) ∙ sym et ∙ ap (λ (y : Frame). y.tile) (ap (frame_at gs) e ∙ here),
          ))
        ]
        | inr m ↦ elim (cases_eq k f) [
          | inl e2 ↦ absurd (absent g lg (
            ap (λ (y : Frame). y.array) (sym (same g m)) ∙ ea ∙ ap (λ (y : Frame). y.array) (ap (frame_at gs) e2 ∙ here),
            ap (λ (y : Frame). y.tile) (sym (same g m)) ∙ et ∙ ap (λ (y : Frame). y.tile) (ap (frame_at gs) e2 ∙ here),
          ))
          | inr n ↦ t.distinct g k lg lk
              (ap (λ (y : Frame). y.array) (sym (same g m)) ∙ ea ∙ ap (λ (y : Frame). y.array) (same k n))
              (ap (λ (y : Frame). y.tile) (sym (same g m)) ∙ et ∙ ap (λ (y : Frame). y.tile) (same k n))
        ]
      ];
    }

-- ---- a mark that is taken away
pub table_same : (fs gs : List Frame) (held : ℕ) (order buckets : Links) (s : Spread) → IsTable fs held order buckets s
    → length gs ≡ length fs → ((g : ℕ) → ((frame_at gs g).array ≡ (frame_at fs g).array) × ((frame_at gs g).tile ≡ (frame_at fs g).tile)) → IsTable gs held order buckets s
table_same fs gs held order buckets s t len same =
    let is : order_of gs held order ≡ order_of fs held order = ap (λ n. walk order.after n held) len in
    record {
      held_le = subst (λ n. held ≤ n) (sym len) t.held_le;
      order_len = t.order_len ∙ ap (λ n. n + 1) (sym len);
      order_ring = subst (λ n. AreRings order n 1 (λ _. order_of gs held order)) (sym len) (subst (λ xs. AreRings order (length fs) 1 (λ _. xs)) (sym is) t.order_ring);
      order_below = subst (AreBelow held) (sym is) t.order_below;
      order_all = λ g lg. subst (IsIn g) (sym is) (t.order_all g lg);
      buckets_len = t.buckets_len ∙ ap (λ n. n + (s.mask + 1)) (sym len);
      room = subst (λ n. n + (s.mask + 1) < 2 ^ 64) (sym len) t.room;
      rings = t.rings;
      bucket_rings = subst (λ n. AreRings buckets n (s.mask + 1) t.rings) (sym len) t.bucket_rings;
      home = λ g lg. subst (λ b. IsIn g (t.rings b)) (ap (λ a. bucket_of s a (frame_at fs g).tile) (sym ((same g).0)) ∙ ap (λ i. bucket_of s (frame_at gs g).array i) (sym ((same g).1))) (t.home g lg);
      ringed = t.ringed;
      known = λ g lg. subst (λ a. a < length s.firsts.items) (sym ((same g).0)) (t.known g lg);
      distinct = λ g k lg lk ea et. t.distinct g k lg lk (sym ((same g).0) ∙ ea ∙ (same k).0) (sym ((same g).1) ∙ et ∙ (same k).1);
    }

cleaned_entries : (fs gs : List Frame) (os : List ℕ) (a t f : ℕ) → (entry fs f).array ≡ a → (entry fs f).tile ≡ t
    → ((g : ℕ) → IsIn g os → (entry fs g).array ≡ a → (entry fs g).tile ≡ t → g ≡ f) → ((g : ℕ) → g ≢ f → frame_at gs g ≡ frame_at fs g)
    → entry gs f ≡ record (entry fs f) { marked = false } → AreDistinct os → map (entry gs) os ≡ cleaned a t (map (entry fs) os)
cleaned_entries fs gs [] a t f ea et only others here d = refl
cleaned_entries fs gs (y ∷ ys) a t f ea et only others here d =
    elim (cases_eq y f) [
      | inl e ↦
          let is : is_tile a t (entry fs y) ≡ true = elim (tile_cases a t (entry fs y)) [ inl s ↦ s.0 | inr n ↦ absurd (n.1 (ap (λ i. (entry fs i).array) e ∙ ea) (ap (λ i. (entry fs i).tile) e ∙ et)) ] in
          let one : entry gs y ≡ record (entry fs y) { marked = false } = ap (entry gs) e ∙ here ∙ ap (λ i. record (entry fs i) { marked = false }) (sym e) in
          let gone : IsAbsent f ys = subst (λ i. IsAbsent i ys) e d.0 in
          ap (λ x. x ∷ map (entry gs) ys) one
          ∙ ap (λ l. record (entry fs y) { marked = false } ∷ l) (map_other fs gs f ys others gone)
          ∙ ap (λ v. if v then record (entry fs y) { marked = false } ∷ map (entry fs) ys else entry fs y ∷ cleaned a t (map (entry fs) ys)) (sym is)
      | inr n ↦
          let is : is_tile a t (entry fs y) ≡ false = elim (tile_cases a t (entry fs y)) [ inl s ↦ absurd (n (only y (inl refl) s.1 s.2)) | inr m ↦ m.0 ] in
          let one : entry gs y ≡ entry fs y = ap (λ (x : Frame). record { array = x.array; tile = x.tile; frame = y; marked = x.marked }) (others y n) in
          ap (λ x. x ∷ map (entry gs) ys) one
          ∙ ap (λ l. entry fs y ∷ l) (cleaned_entries fs gs ys a t f ea et (λ g k. only g (inr k)) others here d.1)
          ∙ ap (λ v. if v then record (entry fs y) { marked = false } ∷ map (entry fs) ys else entry fs y ∷ cleaned a t (map (entry fs) ys)) (sym is)
    ]

pub held_cleaned : (fs gs : List Frame) (held f : ℕ) (order buckets : Links) (s : Spread) (a t : ℕ) (h : Held) → IsTable fs held order buckets s → f < held
    → length gs ≡ length fs → ((g : ℕ) → g ≢ f → frame_at gs g ≡ frame_at fs g) → entry gs f ≡ record (entry fs f) { marked = false }
    → look_up (map (entry fs) (order_of fs held order)) a t ≡ Some h → h.frame ≡ f
    → map (entry gs) (order_of gs held order) ≡ cleaned a t (map (entry fs) (order_of fs held order))
held_cleaned fs gs held f order buckets s a t h table lt len others here found at =
    let os = order_of fs held order in
    let is = found_entry fs os a t h found in
    let entry_is : entry fs f ≡ h = ap (entry fs) (sym at) ∙ sym is.0 in
    let ea : (entry fs f).array ≡ a = ap (λ (x : Held). x.array) entry_is ∙ is.2 in
    let et : (entry fs f).tile ≡ t = ap (λ (x : Held). x.tile) entry_is ∙ is.3 in
    ap (λ n. map (entry gs) (walk order.after n held)) len
    ∙ cleaned_entries fs gs os a t f ea et (λ g k ga gt. table.distinct g f (below_in held g os table.order_below k) lt (ga ∙ sym ea) (gt ∙ sym et)) others here (table.order_ring.distinct 0 (omega arith))

-- a node that was taken out of its ring is in none
pub free_of_rings : (rings : ℕ → List ℕ) (count c f : ℕ) → c < count → ((r : ℕ) → r < count → AreDistinct (rings r))
    → ((r s x : ℕ) → r < count → s < count → r ≢ s → IsIn x (rings r) → IsAbsent x (rings s)) → IsIn f (rings c)
    → (s : ℕ) → s < count → IsAbsent f (with_ring rings c (removed f (rings c)) s)
free_of_rings rings count c f lt distinct apart h s ls =
    elim (cases_eq s c) [
      | inl e ↦ subst (IsAbsent f) (sym (ring_here rings c s (removed f (rings c)) e)) (absent_self f (rings c) (distinct c lt))
      | inr n ↦ subst (IsAbsent f) (sym (ring_other rings c s (removed f (rings c)) n)) (apart c s f lt ls (λ e. n (sym e)) h)
    ]

pub bucket_low : (s : Spread) (a t : ℕ) → bucket_of s a t < s.mask + 1
bucket_low s a t =
    let below : bucket_of s a t ≤ s.mask = and_le_r ((slice_index s.firsts.items a + t) % 2 ^ 64 * s.factor % 2 ^ 64 / 2 ^ s.shift) s.mask in
    omega (arith, below)
