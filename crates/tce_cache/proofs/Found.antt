-- A tile that is found, as the one in a frame.
use Rattle.std.proofs.Common.{◌≡◌, ◌∙◌, ℕ, List, ◌∷◌, Option, Some, None, refl, ap}
use Rattle.std.specs.Option.{IsSomeAnd}
use Rattle.tce_cache.specs.Held.{Held, look_up}
use Rattle.tce_cache.proofs.Current.{tests, found_is}

some_of : (P : Held → Type 0) (o : Option Held) → IsSomeAnd o P → (h : Held) × (o ≡ Some h) × P h
some_of P None s = absurd s
some_of P (Some h) s = (h, refl, s)

pub found_in : (held : List Held) (a t f : ℕ) → IsSomeAnd (look_up held a t) (λ h. h.frame ≡ f) → (h : Held) × (look_up held a t ≡ Some h) × (h.frame ≡ f)
found_in held a t f s = some_of (λ h. h.frame ≡ f) (look_up held a t) s

pub found_frame : (held : List Held) (a t f : ℕ) → IsSomeAnd (look_up held a t) (λ h. h.frame ≡ f) → (h : Held) × (look_up held h.array h.tile ≡ Some h) × (h.frame ≡ f)
found_frame held a t f s =
    let found = found_in held a t f s in
    let is = found_is held a t found.0 found.1 in
    (found.0, ap (λ i. look_up held i found.0.tile) is.0 ∙ ap (λ i. look_up held a i) is.1 ∙ found.1, found.2)

pub front_frame : (held rest : List Held) (g : Held) → held ≡ g ∷ rest → (h : Held) × (look_up held h.array h.tile ≡ Some h) × (h.frame ≡ g.frame)
front_frame held rest g e = (g, ap (λ l. look_up l g.array g.tile) e ∙ tests g.array g.tile g (Some g) (look_up rest g.array g.tile) refl refl, refl)
