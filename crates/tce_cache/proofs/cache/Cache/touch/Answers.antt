use Rattle.std.proofs.Common.{◌≡◌, ◌∙◌, ◌+◌, ◌<◌, ◌||◌, ◌∷◌, ℕ, List, Some, None, ap, sym, refl, subst, true, slice_get, slice_index, unwrap_or, length, inl, inr, arith}
use Rattle.std.specs.Result.{is_err}
use Rattle.std.proofs.lemmas.Result.{err_from_is_err_and}
use Rattle.std.proofs.lemmas.Bool.{false≢true, or_cases, or_parts}
use Rattle.tce_cache.specs.Held.{Held, look_up, without, touched}
use Rattle.tce_cache.specs.Current.{place}
use Rattle.tce_cache.specs.Table.{Holding}
use Rattle.tce_cache.proofs.Current.{found_is, below_found}
use Rattle.tce_cache.proofs.Found.{found_in, found_frame}
use Rattle.tce_cache.proofs.Touching.{touches_change, length_without}
use Rattle.tce_outside.proofs.Causes.{cause_of, no_cause}
use Rattle.tce_cache.specs.declared.array.ArrayRef.{ArrayRef}
use Rattle.tce_cache.specs.Transfer.{HasFile}
use Rattle.tce_cache.specs.Cache.{State, IsCache, IsReady, IsArrayAt, IsWritable, Exists, HasRoom, layout, words_of_tile, current_word}
use Rattle.tce_cache.specs.Touch.{with_held, IsSameArrays}
use Rattle.tce_cache.proofs.Counted.{cache_counted, outside_counted, others_counted, state_counted, nothing_outside, no_others, none_is_held, frames_bounded}
use Rattle.tce_cache.proofs.Tiles.{told_from}
use Rattle.tce_cache.proofs.Lists.{touched_apart, marked_as}
use Rattle.tce_cache.proofs.Steps.{holding_is, cache_touched, same_touched, shown_front, ready_again, same_again}
use Rattle.tce_cache.proofs.cache.Cache.touch.Goals as goal

pub touch-requires : goal.touch-requires
touch-requires g c = found_frame c.self.inside.table.held c.args.array c.args.tile c.in-Some.frame c.in-Some.ensures

pub place-requires-clause-frame : goal.place-requires-clause-frame
place-requires-clause-frame g c =
    let s = c.self.inside in
    let found = found_in s.table.held c.args.array c.args.tile c.in-Some.frame c.in-Some.ensures in
    let low = below_found s.table.frames s.table.held c.args.array c.args.tile found.0 c.self.invariant.cache.apart found.1 in
    let at = found.2 in
    let frames = c.touch.ensures.same.0 in
    omega arith

pub returns-in-Some-clause-cache : goal.returns-in-Some-clause-cache
returns-in-Some-clause-cache g c =
    let s = c.self.inside in
    let a = c.args.array in
    let t = c.args.tile in
    let v : State = record { arrays = s.arrays.items; at = s.at; frames = s.table.frames; frame_words = s.frame_words; held = s.table.held; touches = s.touches } in
    let is : IsCache v = c.self.invariant.cache in
    let found = found_in s.table.held a t c.in-Some.frame c.in-Some.ensures in
    let h = found.0 in
    let named = found_is s.table.held a t h found.1 in
    let x : Held = record h { marked = h.marked || c.args.write } in
    let r : List Held = x ∷ without a t s.table.held in
    let r_is : c.touch.new.self.held ≡ r = c.touch.ensures.held a t h found.1 found.2 in
    let table = holding_is c.touch.new.self s.table.frames s.table.arrays r c.touch.ensures.same.0 c.touch.ensures.same.1 r_is in
    let long = length_without s.table.held a t h found.1 in
    let within = is.count in
    let writable : x.marked ≡ true → IsWritable v a = λ m. elim (or_cases h.marked c.args.write m) [
      | inl k ↦ is.marked a t h found.1 k
      | inr k ↦ subst (λ (z : State). IsWritable z a) (sym c.self.view_is) (c.requires.writable k)
    ] in
    let now : IsCache (with_held v r (s.touches + 1)) = cache_touched v a t (s.touches + 1) h x is found.1 named.0 named.1 writable (touched_apart s.table.frames s.table.held a t h x is.apart found.1 named.0 named.1 refl) (omega arith) in
    let moved = subst (λ (tb : Holding). IsCache (record { arrays = s.arrays.items; at = s.at; frames = tb.frames; frame_words = s.frame_words; held = tb.held; touches = s.touches + 1 })) table now in
    moved

pub invariant_of-self : goal.invariant_of-self
invariant_of-self g c =
    let s = c.self.inside in
    let a = c.args.array in
    let t = c.args.tile in
    let v : State = record { arrays = s.arrays.items; at = s.at; frames = s.table.frames; frame_words = s.frame_words; held = s.table.held; touches = s.touches } in
    let is : IsCache v = c.self.invariant.cache in
    let found = found_in s.table.held a t c.in-Some.frame c.in-Some.ensures in
    let h = found.0 in
    let named = found_is s.table.held a t h found.1 in
    let x : Held = record h { marked = h.marked || c.args.write } in
    let r : List Held = x ∷ without a t s.table.held in
    let r_is : c.touch.new.self.held ≡ r = c.touch.ensures.held a t h found.1 found.2 in
    let table = holding_is c.touch.new.self s.table.frames s.table.arrays r c.touch.ensures.same.0 c.touch.ensures.same.1 r_is in
    let long = length_without s.table.held a t h found.1 in
    let within = is.count in
    let writable : x.marked ≡ true → IsWritable v a = λ m. elim (or_cases h.marked c.args.write m) [
      | inl k ↦ is.marked a t h found.1 k
      | inr k ↦ subst (λ (z : State). IsWritable z a) (sym c.self.view_is) (c.requires.writable k)
    ] in
    let now : IsCache (with_held v r (s.touches + 1)) = cache_touched v a t (s.touches + 1) h x is found.1 named.0 named.1 writable (touched_apart s.table.frames s.table.held a t h x is.apart found.1 named.0 named.1 refl) (omega arith) in
    let moved = subst (λ (tb : Holding). IsCache (record { arrays = s.arrays.items; at = s.at; frames = tb.frames; frame_words = s.frame_words; held = tb.held; touches = s.touches + 1 })) table now in
    record { table_arrays = c.touch.ensures.same.1 ∙ c.self.invariant.table_arrays; cache = moved; buffer_len = c.self.invariant.buffer_len }

pub returns-in-Some-clause-touched : goal.returns-in-Some-clause-touched
returns-in-Some-clause-touched g c =
    let s = c.self.inside in
    let a = c.args.array in
    let t = c.args.tile in
    let v : State = record { arrays = s.arrays.items; at = s.at; frames = s.table.frames; frame_words = s.frame_words; held = s.table.held; touches = s.touches } in
    let is : IsCache v = c.self.invariant.cache in
    let found = found_in s.table.held a t c.in-Some.frame c.in-Some.ensures in
    let h = found.0 in
    let named = found_is s.table.held a t h found.1 in
    let x : Held = record h { marked = h.marked || c.args.write } in
    let r : List Held = x ∷ without a t s.table.held in
    let r_is : c.touch.new.self.held ≡ r = c.touch.ensures.held a t h found.1 found.2 in
    let table = holding_is c.touch.new.self s.table.frames s.table.arrays r c.touch.ensures.same.0 c.touch.ensures.same.1 r_is in
    let now = c.args.self.now in
    let y : Held = record { array = a; tile = t; frame = c.in-Some.frame; marked = h.marked || c.args.write } in
    let x_is : x ≡ y = marked_as h a t c.in-Some.frame (h.marked || c.args.write) named.0 named.1 found.2 in
    let list : touched s.table.frames s.table.held y ≡ y ∷ without a t s.table.held = touches_change.held s.table.frames s.table.held a t h y is.count found.1 refl refl in
    let held_is : c.touch.new.self.held ≡ touched s.table.frames s.table.held y = r_is ∙ ap (λ z. z ∷ without a t s.table.held) x_is ∙ sym list in
    let there : look_up now.held a t ≡ Some h = ap (λ (z : State). look_up z.held a t) (sym c.self.view_is) ∙ found.1 in
    record {
      frame = c.in-Some.frame;
      marked = h.marked || c.args.write;
      state = ap (λ f. record { arrays = s.arrays.items; at = s.at; frames = f; frame_words = s.frame_words; held = c.touch.new.self.held; touches = s.touches + 1 }) c.touch.ensures.same.0
          ∙ ap (λ l. with_held v l (s.touches + 1)) held_is
          ∙ ap (λ (z : State). with_held z (touched z.frames z.held y) (z.touches + 1)) c.self.view_is;
      answer_is = c.place.ensures ∙ ap (λ (z : State). place (layout z) c.in-Some.frame) c.self.view_is;
      was_held = λ k e.
          let both : Some h ≡ Some k = sym there ∙ e in
          let same : h ≡ k = cc in
          (sym found.2 ∙ ap (λ (z : Held). z.frame) same, ap (λ (z : Held). z.marked || c.args.write) same);
      was_not = λ e. let both : Some h ≡ None = sym there ∙ e in absurd (cc);
    }

pub returns-in-Some-clause-arrays : goal.returns-in-Some-clause-arrays
returns-in-Some-clause-arrays g c fs told gs after =
    let s = c.self.inside in
    let a = c.args.array in
    let t = c.args.tile in
    let v : State = record { arrays = s.arrays.items; at = s.at; frames = s.table.frames; frame_words = s.frame_words; held = s.table.held; touches = s.touches } in
    let is : IsCache v = c.self.invariant.cache in
    let found = found_in s.table.held a t c.in-Some.frame c.in-Some.ensures in
    let h = found.0 in
    let named = found_is s.table.held a t h found.1 in
    let x : Held = record h { marked = h.marked || c.args.write } in
    let r : List Held = x ∷ without a t s.table.held in
    let r_is : c.touch.new.self.held ≡ r = c.touch.ensures.held a t h found.1 found.2 in
    let table = holding_is c.touch.new.self s.table.frames s.table.arrays r c.touch.ensures.same.0 c.touch.ensures.same.1 r_is in
    let words = c.args.words.now in
    let ready : IsReady v fs words = subst (λ (z : State). IsReady z fs words) (sym c.self.view_is) ((c.requires.ready fs told).0) in
    let kept = same_touched v a t (s.touches + 1) h x fs words is ready found.1 named.0 named.1 refl (λ e. (or_parts h.marked c.args.write e).0) in
    let moved = subst (λ (tb : Holding). IsSameArrays v (record { arrays = s.arrays.items; at = s.at; frames = tb.frames; frame_words = s.frame_words; held = tb.held; touches = s.touches + 1 }) fs fs words words) table kept in
    let here = subst (λ (z : State). IsSameArrays z (record { arrays = s.arrays.items; at = s.at; frames = c.touch.new.self.frames; frame_words = s.frame_words; held = c.touch.new.self.held; touches = s.touches + 1 }) fs fs words words) c.self.view_is moved in
    let both : Some fs ≡ Some gs = sym told ∙ after in
    let same : fs ≡ gs = ap (λ o. unwrap_or o fs) both in
    subst (λ files. IsSameArrays c.args.self.now (record { arrays = s.arrays.items; at = s.at; frames = c.touch.new.self.frames; frame_words = s.frame_words; held = c.touch.new.self.held; touches = s.touches + 1 }) fs files words words) same here

pub bring-requires-clause-ready : goal.bring-requires-clause-ready
bring-requires-clause-ready g c fs told =
    let s = c.self.inside in
    let words = c.args.words.now in
    let v : State = record { arrays = s.arrays.items; at = s.at; frames = s.table.frames; frame_words = s.frame_words; held = s.table.held; touches = s.touches } in
    let ready : IsReady v fs words = subst (λ (z : State). IsReady z fs words) (sym c.self.view_is) ((c.requires.ready fs told).0) in
    (ready_again v (s.touches + 1) fs words ready, subst (λ (z : State). IsArrayAt z.arrays c.args.array (λ (b : ArrayRef). HasFile b fs)) (sym c.self.view_is) ((c.requires.ready fs told).1))

pub returns-in_ok-frame-in-None-clause-arrays : goal.returns-in_ok-frame-in-None-clause-arrays
returns-in_ok-frame-in-None-clause-arrays g c fs told gs after =
    let s = c.self.inside in
    let v : State = record { arrays = s.arrays.items; at = s.at; frames = s.table.frames; frame_words = s.frame_words; held = s.table.held; touches = s.touches } in
    subst (λ (z : State). IsSameArrays z c.bring.new.self fs gs c.args.words.now c.bring.new.words) c.self.view_is
    (same_again v c.bring.new.self (s.touches + 1) fs gs c.args.words.now c.bring.new.words (c.in_ok-frame-in-None.ensures.arrays fs told gs after))

pub returns-in_ok-frame-in-None-clause-shown : goal.returns-in_ok-frame-in-None-clause-shown
returns-in_ok-frame-in-None-clause-shown g c fs told =
    let s = c.self.inside in
    let words = c.args.words.now in
    let v : State = record { arrays = s.arrays.items; at = s.at; frames = s.table.frames; frame_words = s.frame_words; held = s.table.held; touches = s.touches } in
    let brought = c.in_ok-frame-in-None.ensures in
    let f = c.in_ok-frame-in-None.frame in
    let y : Held = record { array = c.args.array; tile = c.args.tile; frame = f; marked = c.args.write } in
    let gs = told_from _ _ fs (sym brought.others.tells) told in
    let same = same_again v c.bring.new.self (s.touches + 1) fs gs.0 words c.bring.new.words (brought.arrays fs told gs.0 gs.1) in
    let moved = subst (λ (z : State). IsSameArrays v z fs gs.0 words c.bring.new.words) brought.placed.state same in
    let at : c.place-in-None.result ≡ place (layout v) f = c.place-in-None.ensures ∙ ap (λ (z : State). place (layout z) f) brought.placed.state in
    let shown : (k : ℕ) → k < words_of_tile (slice_get v.arrays c.args.array) → slice_index c.bring.new.words (c.place-in-None.result + k) ≡ current_word v fs words c.args.array c.args.tile k =
    λ k lt. ap (λ p. slice_index c.bring.new.words (p + k)) at ∙ shown_front v y brought.placed.rest (s.touches + 1) fs gs.0 words c.bring.new.words c.args.array c.args.tile refl refl moved k lt in
    subst (λ (z : State). (k : ℕ) → k < words_of_tile (slice_get z.arrays c.args.array) → slice_index c.bring.new.words (c.place-in-None.result + k) ≡ current_word z fs words c.args.array c.args.tile k) c.self.view_is shown

pub len-len-requires : goal.len-len-requires
len-len-requires g c = tt

pub place-requires-clause-bounded : goal.place-requires-clause-bounded
place-requires-clause-bounded g c =
    let s = c.self.inside in
    frames_bounded s.at s.table.frames c.touch.new.self.frames s.frame_words (length c.args.words.now)
    (subst (λ (z : State). HasRoom z c.args.words.now) (sym c.self.view_is) c.requires.room)
    c.touch.ensures.same.0
    c.len-len.ensures.limit

pub invariant_of-self-in-None : goal.invariant_of-self-in-None
invariant_of-self-in-None g c =
    let s = c.self.inside in
    let v : State = record { arrays = s.arrays.items; at = s.at; frames = s.table.frames; frame_words = s.frame_words; held = s.table.held; touches = s.touches } in
    record { table_arrays = c.self.invariant.table_arrays; cache = cache_counted v (s.touches + 1) c.self.invariant.cache; buffer_len = c.self.invariant.buffer_len }

pub bring-requires-clause-exists : goal.bring-requires-clause-exists
bring-requires-clause-exists g c = subst (λ (z : State). Exists z c.args.array c.args.tile) (sym c.self.view_is) c.requires.exists

pub bring-requires-clause-absent : goal.bring-requires-clause-absent
bring-requires-clause-absent g c = c.in-None.ensures

pub bring-requires-clause-writable : goal.bring-requires-clause-writable
bring-requires-clause-writable g c = λ write. subst (λ (z : State). IsWritable z c.args.array) (sym c.self.view_is) (c.requires.writable write)

pub bring-requires-clause-room : goal.bring-requires-clause-room
bring-requires-clause-room g c = subst (λ (z : State). HasRoom z c.args.words.now) (sym c.self.view_is) c.requires.room

pub bring-requires-clause-bounded : goal.bring-requires-clause-bounded
bring-requires-clause-bounded g c = c.len-len.ensures.limit

pub bring-requires-clause-cache : goal.bring-requires-clause-cache
bring-requires-clause-cache g c =
    let s = c.self.inside in
    let v : State = record { arrays = s.arrays.items; at = s.at; frames = s.table.frames; frame_words = s.frame_words; held = s.table.held; touches = s.touches } in
    cache_counted v (s.touches + 1) c.self.invariant.cache

pub returns-in_err-frame-in-None-clause-touched : goal.returns-in_err-frame-in-None-clause-touched
returns-in_err-frame-in-None-clause-touched g c =
    let p = err_from_is_err_and c.from_residual.result c.from_residual.ensures.1 in
    rw p.1 tt

pub returns-in_err-frame-in-None-clause-shown : goal.returns-in_err-frame-in-None-clause-shown
returns-in_err-frame-in-None-clause-shown g c =
    let p = err_from_is_err_and c.from_residual.result c.from_residual.ensures.1 in
    rw p.1 tt

pub returns-in_err-frame-in-None-clause-arrays : goal.returns-in_err-frame-in-None-clause-arrays
returns-in_err-frame-in-None-clause-arrays g c =
    let p = err_from_is_err_and c.from_residual.result c.from_residual.ensures.1 in
    rw p.1 tt

pub returns-in_err-frame-in-None-clause-held : goal.returns-in_err-frame-in-None-clause-held
returns-in_err-frame-in-None-clause-held g c = λ some. absurd (none_is_held _ (ap (λ (z : State). look_up z.held c.args.array c.args.tile) (sym c.self.view_is) ∙ c.in-None.ensures) some)

pub returns-in_err-frame-in-None-clause-same : goal.returns-in_err-frame-in-None-clause-same
returns-in_err-frame-in-None-clause-same g c =
    let s = c.self.inside in
    let v : State = record { arrays = s.arrays.items; at = s.at; frames = s.table.frames; frame_words = s.frame_words; held = s.table.held; touches = s.touches } in
    state_counted v c.args.self.now c.bring.new.self c.self.view_is c.bring.ensures.same

pub returns-in_err-frame-in-None-clause-cache : goal.returns-in_err-frame-in-None-clause-cache
returns-in_err-frame-in-None-clause-cache g c = c.bring.ensures.cache

pub returns-in_err-frame-in-None-clause-outside : goal.returns-in_err-frame-in-None-clause-outside
returns-in_err-frame-in-None-clause-outside g c =
    let s = c.self.inside in
    let v : State = record { arrays = s.arrays.items; at = s.at; frames = s.table.frames; frame_words = s.frame_words; held = s.table.held; touches = s.touches } in
    outside_counted v c.args.self.now (s.touches + 1) c.args.words.now c.bring.new.words c.self.view_is c.bring.ensures.outside

pub returns-in_err-frame-in-None-clause-others : goal.returns-in_err-frame-in-None-clause-others
returns-in_err-frame-in-None-clause-others g c =
    let s = c.self.inside in
    let v : State = record { arrays = s.arrays.items; at = s.at; frames = s.table.frames; frame_words = s.frame_words; held = s.table.held; touches = s.touches } in
    others_counted v c.args.self.now (s.touches + 1) (g.D.Disk.files c.args.disk.now) (g.D.Disk.files c.bring.new.disk) c.self.view_is c.bring.ensures.others

pub returns-in_ok-frame-in-None-clause-held : goal.returns-in_ok-frame-in-None-clause-held
returns-in_ok-frame-in-None-clause-held g c = λ some. absurd (none_is_held _ (ap (λ (z : State). look_up z.held c.args.array c.args.tile) (sym c.self.view_is) ∙ c.in-None.ensures) some)

pub returns-in_ok-frame-in-None-clause-same : goal.returns-in_ok-frame-in-None-clause-same
returns-in_ok-frame-in-None-clause-same g c =
    let s = c.self.inside in
    let v : State = record { arrays = s.arrays.items; at = s.at; frames = s.table.frames; frame_words = s.frame_words; held = s.table.held; touches = s.touches } in
    state_counted v c.args.self.now c.bring.new.self c.self.view_is c.bring.ensures.same

pub returns-in_ok-frame-in-None-clause-cache : goal.returns-in_ok-frame-in-None-clause-cache
returns-in_ok-frame-in-None-clause-cache g c = c.bring.ensures.cache

pub returns-in_ok-frame-in-None-clause-outside : goal.returns-in_ok-frame-in-None-clause-outside
returns-in_ok-frame-in-None-clause-outside g c =
    let s = c.self.inside in
    let v : State = record { arrays = s.arrays.items; at = s.at; frames = s.table.frames; frame_words = s.frame_words; held = s.table.held; touches = s.touches } in
    outside_counted v c.args.self.now (s.touches + 1) c.args.words.now c.bring.new.words c.self.view_is c.bring.ensures.outside

pub returns-in_ok-frame-in-None-clause-others : goal.returns-in_ok-frame-in-None-clause-others
returns-in_ok-frame-in-None-clause-others g c =
    let s = c.self.inside in
    let v : State = record { arrays = s.arrays.items; at = s.at; frames = s.table.frames; frame_words = s.frame_words; held = s.table.held; touches = s.touches } in
    others_counted v c.args.self.now (s.touches + 1) (g.D.Disk.files c.args.disk.now) (g.D.Disk.files c.bring.new.disk) c.self.view_is c.bring.ensures.others

pub returns-in_err-frame-in-None-clause-fault_reported : goal.returns-in_err-frame-in-None-clause-fault_reported
returns-in_err-frame-in-None-clause-fault_reported g c = record {
  cause = cause_of (g.D.Disk.faults c.args.disk.now) (g.D.Disk.faults c.bring.new.disk) c.in_err-frame-in-None.ensures.fault_reported.cause;
  quiet =
      let p = err_from_is_err_and c.from_residual.result c.from_residual.ensures.1 in
      λ none. absurd (none (ap is_err p.1));
}

pub returns-in_ok-frame-in-None-clause-fault_reported : goal.returns-in_ok-frame-in-None-clause-fault_reported
returns-in_ok-frame-in-None-clause-fault_reported g c = c.in_ok-frame-in-None.ensures.fault_reported

pub returns-in-Some-clause-held : goal.returns-in-Some-clause-held
returns-in-Some-clause-held g c = λ some. (refl, refl, refl, refl)

pub returns-in-Some-clause-same : goal.returns-in-Some-clause-same
returns-in-Some-clause-same g c =
    let s = c.self.inside in
    let v : State = record { arrays = s.arrays.items; at = s.at; frames = s.table.frames; frame_words = s.frame_words; held = s.table.held; touches = s.touches } in
    ap (λ f. record { arrays = s.arrays.items; at = s.at; frames = f; frame_words = s.frame_words; held = c.touch.new.self.held; touches = s.touches + 1 }) c.touch.ensures.same.0
    ∙ ap (λ (z : State). with_held z c.touch.new.self.held (z.touches + 1)) c.self.view_is

pub returns-in-Some-clause-outside : goal.returns-in-Some-clause-outside
returns-in-Some-clause-outside g c = nothing_outside c.args.self.now c.args.words.now

pub returns-in-Some-clause-others : goal.returns-in-Some-clause-others
returns-in-Some-clause-others g c = no_others c.args.self.now (g.D.Disk.files c.args.disk.now)

pub returns-in-Some-clause-fault_reported : goal.returns-in-Some-clause-fault_reported
returns-in-Some-clause-fault_reported g c = record {
  cause = no_cause (g.D.Disk.faults c.args.disk.now) _ refl false≢true;
  quiet = λ none. refl;
}
