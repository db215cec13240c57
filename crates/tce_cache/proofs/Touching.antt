-- What a touch makes of the list of held tiles.
use Rattle.std.proofs.Common.{◌≡◌, ◌∙◌, ℕ, zero, suc, ◌+◌, ◌<◌, ◌≤◌, if◌then◌else◌, List, [], ◌∷◌, ◌++◌, length, take, slice_get, Some, None, sym, refl, ap, subst, arith, inl, inr, length-append}
use Rattle.std.proofs.lemmas.List.{take_all, take-append-le}
use Rattle.tce_cache.specs.Held.{Held, look_up, without, touched, AreApart}
use Rattle.tce_cache.specs.Current.{AreOther}
use Rattle.tce_cache.specs.FrameLaws.{TouchesChangeTheList, LatestTilesStay}
use Rattle.tce_cache.proofs.Current.{tile_cases, tests, tests_not}

without_absent : (held : List Held) (a t : ℕ) → look_up held a t ≡ None → without a t held ≡ held
without_absent [] a t e = refl
without_absent (x ∷ xs) a t e =
    elim (tile_cases a t x) [
      | inl s ↦ (let both : Some x ≡ None = sym (tests a t x (Some x) (look_up xs a t) s.1 s.2) ∙ e in absurd (cc))
      | inr n ↦
          let later : look_up xs a t ≡ None = sym (tests_not a t x (Some x) (look_up xs a t) n.1) ∙ e in
          ap (λ v. if v then xs else x ∷ without a t xs) n.0 ∙ ap (λ l. x ∷ l) (without_absent xs a t later)
    ]

pub length_without : (held : List Held) (a t : ℕ) (h : Held) → look_up held a t ≡ Some h → suc (length (without a t held)) ≡ length held
length_without [] a t h e = absurd (cc)
length_without (x ∷ xs) a t h e =
    elim (tile_cases a t x) [
      | inl s ↦ ap (λ v. suc (length (if v then xs else x ∷ without a t xs))) s.0
      | inr n ↦
          let later : look_up xs a t ≡ Some h = sym (tests_not a t x (Some x) (look_up xs a t) n.1) ∙ e in
          ap (λ v. suc (length (if v then xs else x ∷ without a t xs))) n.0 ∙ ap suc (length_without xs a t h later)
    ]

touched_held : (frames : ℕ) (held : List Held) (array tile : ℕ) (h g : Held) → length held ≤ frames → look_up held array tile ≡ Some h → g.array ≡ array → g.tile ≡ tile → touched frames held g ≡ g ∷ without array tile held
touched_held frames held array tile h g le found ea et =
    let same : without g.array g.tile held ≡ without array tile held = ap (λ i. without i g.tile held) ea ∙ ap (λ i. without array i held) et in
    let long = length_without held array tile h found in
    ap (λ l. take frames (g ∷ l)) same ∙ take_all frames (g ∷ without array tile held) (omega arith)

touched_room : (frames : ℕ) (held : List Held) (g : Held) → length held < frames → look_up held g.array g.tile ≡ None → touched frames held g ≡ g ∷ held
touched_room frames held g lt none = ap (λ l. take frames (g ∷ l)) (without_absent held g.array g.tile none) ∙ take_all frames (g ∷ held) (omega arith)

touched_full : (frames : ℕ) (rest : List Held) (z g : Held) → length (rest ++ z ∷ []) ≡ frames → look_up (rest ++ z ∷ []) g.array g.tile ≡ None → touched frames (rest ++ z ∷ []) g ≡ g ∷ rest
touched_full frames rest z g len none =
    let count : length rest + 1 ≡ length (rest ++ z ∷ []) = sym (length-append rest (z ∷ [])) in
    ap (λ l. take frames (g ∷ l)) (without_absent (rest ++ z ∷ []) g.array g.tile none)
    ∙ take-append-le frames (g ∷ rest) (z ∷ []) (omega arith)
    ∙ take_all frames (g ∷ rest) (omega arith)

pub touches_change : TouchesChangeTheList
touches_change = record { held = touched_held; room = touched_room; full = touched_full }

keeps_other : (x : Held) (rest : List Held) (a t : ℕ) → AreOther a t x.array x.tile → without a t (x ∷ rest) ≡ x ∷ without a t rest
keeps_other x rest a t other =
    elim (tile_cases a t x) [
      | inl s ↦ absurd (other s.1 s.2)
      | inr n ↦ ap (λ v. if v then rest else x ∷ without a t rest) n.0
    ]

-- of the others the first two stay
second_stays : (n : ℕ) (y x : Held) (rest : List Held) (h : Held) → look_up (x ∷ rest) y.array y.tile ≡ None → AreOther h.array h.tile x.array x.tile → look_up (take (suc (suc n)) (without h.array h.tile (y ∷ x ∷ rest))) x.array x.tile ≡ Some x
second_stays n y x rest h apart other =
    let behind : without h.array h.tile (x ∷ rest) ≡ x ∷ without h.array h.tile rest = keeps_other x rest h.array h.tile other in
    elim (tile_cases h.array h.tile y) [
      | inl s ↦
          ap (λ v. look_up (take (suc (suc n)) (if v then x ∷ rest else y ∷ without h.array h.tile (x ∷ rest))) x.array x.tile) s.0
          ∙ tests x.array x.tile x (Some x) (look_up (take (suc n) rest) x.array x.tile) refl refl
      | inr m ↦
          let differs : y.array ≡ x.array → y.tile ≡ x.tile → ⊥ = λ a t.
          let both : Some x ≡ None = sym (tests y.array y.tile x (Some x) (look_up rest y.array y.tile) (sym a) (sym t)) ∙ apart in
          absurd (cc) in
          ap (λ v. look_up (take (suc (suc n)) (if v then x ∷ rest else y ∷ without h.array h.tile (x ∷ rest))) x.array x.tile) m.0
          ∙ ap (λ l. look_up (y ∷ take (suc n) l) x.array x.tile) behind
          ∙ tests_not x.array x.tile y (Some y) (look_up (x ∷ take n (without h.array h.tile rest)) x.array x.tile) differs
          ∙ tests x.array x.tile x (Some x) (look_up (take n (without h.array h.tile rest)) x.array x.tile) refl refl
    ]

first_stays : (n : ℕ) (x : Held) (rest : List Held) (h : Held) → AreOther h.array h.tile x.array x.tile → look_up (take (suc (suc n)) (without h.array h.tile (x ∷ rest))) x.array x.tile ≡ Some x
first_stays n x rest h other =
    ap (λ l. look_up (take (suc (suc n)) l) x.array x.tile) (keeps_other x rest h.array h.tile other)
    ∙ tests x.array x.tile x (Some x) (look_up (take (suc n) (without h.array h.tile rest)) x.array x.tile) refl refl

behind_front : (h x : Held) (rest : List Held) → AreOther h.array h.tile x.array x.tile → look_up (h ∷ rest) x.array x.tile ≡ look_up rest x.array x.tile
behind_front h x rest other = tests_not x.array x.tile h (Some h) (look_up rest x.array x.tile) (λ a t. other (sym a) (sym t))

pub latest_stay : LatestTilesStay
latest_stay zero held h few apart = absurd (omega arith)
latest_stay (suc zero) held h few apart = absurd (omega arith)
latest_stay (suc (suc zero)) held h few apart = absurd (omega arith)
latest_stay (suc (suc (suc n))) held h few apart = (
  tests h.array h.tile h (Some h) (look_up (take (suc (suc n)) (without h.array h.tile held)) h.array h.tile) refl refl,
  (λ k x lt at other. behind_front h x (take (suc (suc n)) (without h.array h.tile held)) other ∙ by_list held apart k x lt at other),
)
  where
    by_list : (held : List Held) → AreApart (suc (suc (suc n))) held → (k : ℕ) (x : Held) → k < 2 → slice_get held k ≡ Some x → AreOther h.array h.tile x.array x.tile
        → look_up (take (suc (suc n)) (without h.array h.tile held)) x.array x.tile ≡ Some x
    by_list [] a k x lt at other = absurd (cc)
    by_list (y ∷ ys) a zero x lt at other =
        let same : y ≡ x = cc in
        let front : look_up (take (suc (suc n)) (without h.array h.tile (y ∷ ys))) y.array y.tile ≡ Some y = first_stays n y ys h (subst (λ (z : Held). AreOther h.array h.tile z.array z.tile) (sym same) other) in
        subst (λ (z : Held). look_up (take (suc (suc n)) (without h.array h.tile (y ∷ ys))) z.array z.tile ≡ Some z) same front
    by_list (y ∷ []) a (suc k) x lt at other = absurd (cc)
    by_list (y ∷ z ∷ zs) a (suc zero) x lt at other =
        let same : z ≡ x = cc in
        let front : look_up (take (suc (suc n)) (without h.array h.tile (y ∷ z ∷ zs))) z.array z.tile ≡ Some z = second_stays n y z zs h a.0 (subst (λ (z : Held). AreOther h.array h.tile z.array z.tile) (sym same) other) in
        subst (λ (w : Held). look_up (take (suc (suc n)) (without h.array h.tile (y ∷ z ∷ zs))) w.array w.tile ≡ Some w) same front
    by_list (y ∷ z ∷ zs) a (suc (suc k)) x lt at other = absurd (omega arith)
