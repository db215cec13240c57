-- A touch is counted before anything else is done, and the count is no part of what a cache is asked for.
use Rattle.std.proofs.Common.{◌≡◌, ◌∙◌, ℕ, ◌+◌, ◌*◌, ◌<◌, ◌≤◌, ◌^◌, List, Option, None, Some, unwrap_or, refl, sym, ap, subst, arith}
use Rattle.std.specs.Option.{IsSome}
use Rattle.tce_outside.specs.Files.{Files, file}
use Rattle.tce_cache.specs.Held.{Held}
use Rattle.tce_cache.specs.Cache.{State, IsCache, IsSameOutsideFrames, OnlyWritableDiffers}
use Rattle.tce_cache.specs.Touch.{with_held}

pub cache_counted : (c : State) (n : ℕ) → IsCache c → IsCache (record c { touches = n })
cache_counted c n is = record { arrays = is.arrays; frames = is.frames; apart = is.apart; count = is.count; exist = is.exist; marked = is.marked }

pub outside_counted : (c now : State) (n : ℕ) (words words' : List ℕ) → c ≡ now → IsSameOutsideFrames (record c { touches = n }) words words' → IsSameOutsideFrames now words words'
outside_counted c now n words words' is same =
    subst (λ (z : State). IsSameOutsideFrames z words words') is (record { same_length = same.same_length; same = same.same })

pub others_counted : (c now : State) (n : ℕ) (old new : Option Files) → c ≡ now → OnlyWritableDiffers (record c { touches = n }) old new → OnlyWritableDiffers now old new
others_counted c now n old new is same =
    subst (λ (z : State). OnlyWritableDiffers z old new) is (record { tells = same.tells; begins = same.begins; same = same.same })

pub state_counted : (c now new : State) → c ≡ now → new ≡ with_held c new.held (c.touches + 1) → new ≡ with_held now new.held (now.touches + 1)
state_counted c now new is same = same ∙ ap (λ (z : State). with_held z new.held (z.touches + 1)) is

-- the list of held tiles is told by the cache
pub held_again : (c new : State) (held : List Held) → new ≡ with_held c held c.touches → new ≡ with_held c new.held c.touches
held_again c new held is = is ∙ ap (λ l. with_held c l c.touches) (sym (ap (λ (z : State). z.held) is))

-- where nothing is read or written
pub nothing_outside : (c : State) (words : List ℕ) → IsSameOutsideFrames c words words
nothing_outside c words = record { same_length = refl; same = λ p out. refl }

pub no_others : (c : State) (told : Option Files) → OnlyWritableDiffers c told told
no_others c told =
    record {
      tells = refl;
      begins = λ name. refl;
      same = λ name none fs before gs after. ap (λ o. file (unwrap_or o fs) name) (sym after ∙ before);
    }

pub none_is_held : (found : Option Held) → found ≡ None → IsSome found → ⊥
none_is_held None is some = cc
none_is_held (Some h) is some = cc

pub frames_bounded : (at frames now words len : ℕ) → at + frames * words ≤ len → now ≡ frames → len < 2 ^ 60 → at + now * words < 2 ^ 60
frames_bounded at frames now words len room same bound =
    let moved : at + now * words ≤ len = subst (λ f. at + f * words ≤ len) (sym same) room in
    omega arith
