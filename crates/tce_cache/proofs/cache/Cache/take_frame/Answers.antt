use Rattle.std.proofs.Common.{◌≡◌, ◌∙◌, ◌≤◌, ◌<◌, ◌∷◌, None, length, drop, ap, sym, refl, subst, arith}
use Rattle.std.proofs.lemmas.Result.{IfOk-from_err}
use Rattle.std.proofs.lemmas.Bool.{false≢true}
use Rattle.tce_space.specs.Tiling.{tiles}
use Rattle.tce_cache.specs.Held.{Held, IsFree, look_up}
use Rattle.tce_cache.proofs.Touching.{touches_change}
use Rattle.tce_outside.proofs.Causes.{cause_of, no_cause}
use Rattle.tce_cache.specs.declared.array.ArrayRef.{ArrayRef}
use Rattle.tce_cache.specs.Cache.{State, IsCache}
use Rattle.tce_cache.specs.Touch.{with_held, IsSameArrays}
use Rattle.tce_cache.proofs.Counted.{no_others}
use Rattle.tce_cache.proofs.Tiles.{array_low}
use Rattle.tce_cache.proofs.Lists.{IsOldest, IsCleaned, IsGivenUp, oldest_there, oldest_absent}
use Rattle.tce_cache.proofs.Runs.{frame_cleaned}
use Rattle.tce_cache.proofs.Steps.{cache_held, same_stay, up_over, cache_over, state_over, same_over}
use Rattle.tce_cache.proofs.Transfers.{told_once}
use Rattle.tce_cache.proofs.cache.Cache.take_frame.Goals as goal

-- there is a frame that holds no tile
pub hold-requires-clause-array : goal.hold-requires-clause-array
hold-requires-clause-array g c =
    let low = array_low (λ (a : ArrayRef). c.args.tile < tiles a.shape) c.args.self.now.arrays c.args.array c.requires.exists in
    let same : length c.self.inside.arrays.items ≡ length c.args.self.now.arrays = ap (λ (z : State). length z.arrays) c.self.view_is in
    omega (arith, low, same, c.self.invariant.table_arrays)

pub hold-requires-clause-room : goal.hold-requires-clause-room
hold-requires-clause-room g c = omega (arith, c.len.ensures.count, c.frames.ensures, c.if-len-frames.true)

pub hold-requires-clause-absent : goal.hold-requires-clause-absent
hold-requires-clause-absent g c = subst (λ (z : State). look_up z.held c.args.array c.args.tile ≡ None) (sym c.self.view_is) c.requires.absent

pub returns-then-len-frames-clause-placed : goal.returns-then-len-frames-clause-placed
returns-then-len-frames-clause-placed g c =
    let s = c.self.inside in
    let now = c.args.self.now in
    let x : Held = record { array = c.args.array; tile = c.args.tile; frame = c.hold.result; marked = c.args.marked } in
    let held_is : s.table.held ≡ now.held = ap (λ (z : State). z.held) c.self.view_is in
    let frames_is : s.table.frames ≡ now.frames = ap (λ (z : State). z.frames) c.self.view_is in
    let room : length now.held < now.frames = subst (λ (z : State). length z.held < z.frames) c.self.view_is (omega (arith, c.len.ensures.count, c.frames.ensures, c.if-len-frames.true)) in
    record {
      rest = now.held;
      state = ap (λ f. record { arrays = s.arrays.items; at = s.at; frames = f; frame_words = s.frame_words; held = c.hold.new.self.held; touches = s.touches }) c.hold.ensures.same.0
          ∙ ap (λ l. record { arrays = s.arrays.items; at = s.at; frames = s.table.frames; frame_words = s.frame_words; held = l; touches = s.touches }) (c.hold.ensures.held ∙ ap (λ l. x ∷ l) held_is)
          ∙ ap (λ (z : State). record z { held = x ∷ now.held }) c.self.view_is;
      list = touches_change.room now.frames now.held x room c.requires.absent;
      absent = c.requires.absent;
      free = subst (IsFree c.hold.result) held_is c.hold.ensures.free;
      low = subst (λ f. c.hold.result < f) frames_is c.hold.ensures.low;
    }

pub invariant_of-self : goal.invariant_of-self
invariant_of-self g c =
    let s = c.self.inside in
    let v : State = record { arrays = s.arrays.items; at = s.at; frames = s.table.frames; frame_words = s.frame_words; held = s.table.held; touches = s.touches } in
    let x : Held = record { array = c.args.array; tile = c.args.tile; frame = c.hold.result; marked = c.args.marked } in
    let room : length v.held < v.frames = omega (arith, c.len.ensures.count, c.frames.ensures, c.if-len-frames.true) in
    record {
      table_arrays = c.hold.ensures.same.1 ∙ c.self.invariant.table_arrays;
      buffer_len = c.self.invariant.buffer_len;
      cache = cache_held v c.args.self.now c.hold.new.self x c.self.invariant.cache c.self.view_is c.hold.ensures.same.0 c.hold.ensures.held room c.requires.absent c.hold.ensures.free c.hold.ensures.low c.requires.exists c.requires.writable;
    }

pub returns-then-len-frames-clause-arrays : goal.returns-then-len-frames-clause-arrays
returns-then-len-frames-clause-arrays g c x told y now =
    let s = c.args.self.now in
    let words = c.args.words.now in
    let is : IsCache s = subst IsCache c.self.view_is c.self.invariant.cache in
    let rest : drop 1 c.hold.new.self.held ≡ s.held = ap (drop 1) c.hold.ensures.held ∙ ap (λ (z : State). z.held) c.self.view_is in
    told_once (g.D.Disk.files c.args.disk.now) x y told now (λ z. IsSameArrays s (with_held s (drop 1 c.hold.new.self.held) s.touches) x z words words)
    (subst (λ l. IsSameArrays s (with_held s l s.touches) x x words words) (sym rest) (same_stay s s.touches x words is (c.requires.ready x told)))

pub returns-then-len-frames-clause-same : goal.returns-then-len-frames-clause-same
returns-then-len-frames-clause-same g c =
    let s = c.self.inside in
    let held = c.hold.new.self.held in
    ap (λ f. record { arrays = s.arrays.items; at = s.at; frames = f; frame_words = s.frame_words; held = held; touches = s.touches }) c.hold.ensures.same.0 ∙ ap (λ (z : State). with_held z held z.touches) c.self.view_is

pub returns-then-len-frames-clause-cache : goal.returns-then-len-frames-clause-cache
returns-then-len-frames-clause-cache g c =
    let s = c.self.inside in
    let v : State = record { arrays = s.arrays.items; at = s.at; frames = s.table.frames; frame_words = s.frame_words; held = s.table.held; touches = s.touches } in
    let x : Held = record { array = c.args.array; tile = c.args.tile; frame = c.hold.result; marked = c.args.marked } in
    let room : length v.held < v.frames = omega (arith, c.len.ensures.count, c.frames.ensures, c.if-len-frames.true) in
    cache_held v c.args.self.now c.hold.new.self x c.self.invariant.cache c.self.view_is c.hold.ensures.same.0 c.hold.ensures.held room c.requires.absent c.hold.ensures.free c.hold.ensures.low c.requires.exists c.requires.writable

pub returns-then-len-frames-clause-others : goal.returns-then-len-frames-clause-others
returns-then-len-frames-clause-others g c = no_others c.args.self.now (g.D.Disk.files c.args.disk.now)

pub returns-then-len-frames-clause-fault_reported : goal.returns-then-len-frames-clause-fault_reported
returns-then-len-frames-clause-fault_reported g c = record {
  cause = no_cause (g.D.Disk.faults c.args.disk.now) _ refl false≢true;
  quiet = λ none. refl;
}

-- the oldest tile is given up
pub oldest-oldest-requires : goal.oldest-oldest-requires
oldest-oldest-requires g c = omega (arith, c.len.ensures.count, c.frames.ensures, c.if-len-frames.false, c.self.invariant.cache.frames)

pub same-self : goal.same-self
same-self g c = refl

pub write_back-requires-clause-frame : goal.write_back-requires-clause-frame
write_back-requires-clause-frame g c = subst (λ (z : State). c.oldest-oldest.result < length z.held) c.self.view_is c.oldest-oldest.ensures.held

pub write_back-requires-clause-most : goal.write_back-requires-clause-most
write_back-requires-clause-most g c = omega arith

pub write_back-requires-clause-room : goal.write_back-requires-clause-room
write_back-requires-clause-room g c = c.requires.room

pub write_back-requires-clause-bounded : goal.write_back-requires-clause-bounded
write_back-requires-clause-bounded g c = c.requires.bounded

pub write_back-requires-clause-ready : goal.write_back-requires-clause-ready
write_back-requires-clause-ready g c = c.requires.ready

pub returns-in_err-write_back-clause-placed : goal.returns-in_err-write_back-clause-placed
returns-in_err-write_back-clause-placed g c = IfOk-from_err c.from_residual.result _ c.from_residual.ensures.0

pub returns-in_err-write_back-clause-arrays : goal.returns-in_err-write_back-clause-arrays
returns-in_err-write_back-clause-arrays g c = IfOk-from_err c.from_residual.result _ c.from_residual.ensures.0

pub returns-in_err-write_back-clause-same : goal.returns-in_err-write_back-clause-same
returns-in_err-write_back-clause-same g c = c.write_back.ensures.same

pub returns-in_err-write_back-clause-cache : goal.returns-in_err-write_back-clause-cache
returns-in_err-write_back-clause-cache g c = c.write_back.ensures.cache

pub returns-in_err-write_back-clause-others : goal.returns-in_err-write_back-clause-others
returns-in_err-write_back-clause-others g c = c.write_back.ensures.others

pub returns-in_err-write_back-clause-fault_reported : goal.returns-in_err-write_back-clause-fault_reported
returns-in_err-write_back-clause-fault_reported g c = record {
  cause = cause_of (g.D.Disk.faults c.args.disk.now) (g.D.Disk.faults c.write_back.new.disk) c.in_err-write_back.ensures.fault_reported.cause;
  quiet = λ none. absurd (none c.from_residual.ensures.0);
}

pub replace-requires-clause-frame : goal.replace-requires-clause-frame
replace-requires-clause-frame g c =
    let now = c.args.self.now in
    let w = c.write_back.new.self in
    let i = c.self-2.inside in
    let v : State = record { arrays = i.arrays.items; at = i.at; frames = i.table.frames; frame_words = i.frame_words; held = i.table.held; touches = i.touches } in
    let is : IsCache now = subst IsCache c.self.view_is c.self.invariant.cache in
    let full : now.frames ≤ length now.held = subst (λ (z : State). z.frames ≤ length z.held) c.self.view_is (omega (arith, c.len.ensures.count, c.frames.ensures, c.if-len-frames.false)) in
    let oldest : IsOldest now.held c.oldest-oldest.result = subst (λ (z : State). IsOldest z.held c.oldest-oldest.result) c.self.view_is c.oldest-oldest.ensures.last in
    let back = c.in_ok-write_back.ensures in
    let cleaned : IsCleaned now.held w.held c.oldest-oldest.result = frame_cleaned now.frames c.oldest-oldest.result c.in_ok-write_back.field-0 now.held w.held is.apart back.few.0 back.few.1 back.cleaned in
    let clean : IsCleaned now.held v.held c.oldest-oldest.result = λ a t h found at. ap (λ (z : State). z.held) c.self-2.view_is ∙ cleaned a t h found at in
    let some : 0 < length now.held = omega (arith, full, is.frames) in
    oldest_there now.frames now.held v.held c.oldest-oldest.result is.apart some oldest clean

pub replace-requires-clause-absent : goal.replace-requires-clause-absent
replace-requires-clause-absent g c =
    let now = c.args.self.now in
    let w = c.write_back.new.self in
    let i = c.self-2.inside in
    let v : State = record { arrays = i.arrays.items; at = i.at; frames = i.table.frames; frame_words = i.frame_words; held = i.table.held; touches = i.touches } in
    let is : IsCache now = subst IsCache c.self.view_is c.self.invariant.cache in
    let full : now.frames ≤ length now.held = subst (λ (z : State). z.frames ≤ length z.held) c.self.view_is (omega (arith, c.len.ensures.count, c.frames.ensures, c.if-len-frames.false)) in
    let oldest : IsOldest now.held c.oldest-oldest.result = subst (λ (z : State). IsOldest z.held c.oldest-oldest.result) c.self.view_is c.oldest-oldest.ensures.last in
    let back = c.in_ok-write_back.ensures in
    let cleaned : IsCleaned now.held w.held c.oldest-oldest.result = frame_cleaned now.frames c.oldest-oldest.result c.in_ok-write_back.field-0 now.held w.held is.apart back.few.0 back.few.1 back.cleaned in
    let clean : IsCleaned now.held v.held c.oldest-oldest.result = λ a t h found at. ap (λ (z : State). z.held) c.self-2.view_is ∙ cleaned a t h found at in
    let some : 0 < length now.held = omega (arith, full, is.frames) in
    oldest_absent now.frames now.held v.held c.oldest-oldest.result c.args.array c.args.tile is.apart some oldest clean c.requires.absent

pub replace-requires-clause-array : goal.replace-requires-clause-array
replace-requires-clause-array g c =
    let now = c.args.self.now in
    let low : c.args.array < length now.arrays = array_low (λ (a : ArrayRef). c.args.tile < tiles a.shape) now.arrays c.args.array c.requires.exists in
    let same : length c.self-2.inside.arrays.items ≡ length now.arrays = ap (λ (z : State). length z.arrays) (c.self-2.view_is ∙ c.in_ok-write_back.ensures.same) in
    omega (arith, low, same, c.self-2.invariant.table_arrays)

pub returns-clause-placed : goal.returns-clause-placed
returns-clause-placed g c =
    let now = c.args.self.now in
    let w = c.write_back.new.self in
    let i = c.self-2.inside in
    let v : State = record { arrays = i.arrays.items; at = i.at; frames = i.table.frames; frame_words = i.frame_words; held = i.table.held; touches = i.touches } in
    let is : IsCache now = subst IsCache c.self.view_is c.self.invariant.cache in
    let full : now.frames ≤ length now.held = subst (λ (z : State). z.frames ≤ length z.held) c.self.view_is (omega (arith, c.len.ensures.count, c.frames.ensures, c.if-len-frames.false)) in
    let oldest : IsOldest now.held c.oldest-oldest.result = subst (λ (z : State). IsOldest z.held c.oldest-oldest.result) c.self.view_is c.oldest-oldest.ensures.last in
    let x : Held = record { array = c.args.array; tile = c.args.tile; frame = c.oldest-oldest.result; marked = c.args.marked } in
    let back = c.in_ok-write_back.ensures in
    let cleaned : IsCleaned now.held w.held c.oldest-oldest.result = frame_cleaned now.frames c.oldest-oldest.result c.in_ok-write_back.field-0 now.held w.held is.apart back.few.0 back.few.1 back.cleaned in
    let up : IsGivenUp now.frames now.held v.held c.replace.new.self.held x = up_over now w v c.replace.new.self.held c.oldest-oldest.result x is full oldest cleaned c.self-2.view_is c.requires.absent refl c.replace.ensures.held in
    record {
      rest = up.rest;
      state = state_over now w v c.replace.new.self (x ∷ up.rest) c.self-2.view_is c.in_ok-write_back.ensures.same c.replace.ensures.same.0 up.second_is;
      list = up.list;
      absent = up.absent;
      free = up.free;
      low = up.low;
    }

pub returns-clause-cache : goal.returns-clause-cache
returns-clause-cache g c =
    let now = c.args.self.now in
    let w = c.write_back.new.self in
    let i = c.self-2.inside in
    let v : State = record { arrays = i.arrays.items; at = i.at; frames = i.table.frames; frame_words = i.frame_words; held = i.table.held; touches = i.touches } in
    let is : IsCache now = subst IsCache c.self.view_is c.self.invariant.cache in
    let full : now.frames ≤ length now.held = subst (λ (z : State). z.frames ≤ length z.held) c.self.view_is (omega (arith, c.len.ensures.count, c.frames.ensures, c.if-len-frames.false)) in
    let oldest : IsOldest now.held c.oldest-oldest.result = subst (λ (z : State). IsOldest z.held c.oldest-oldest.result) c.self.view_is c.oldest-oldest.ensures.last in
    let x : Held = record { array = c.args.array; tile = c.args.tile; frame = c.oldest-oldest.result; marked = c.args.marked } in
    let back = c.in_ok-write_back.ensures in
    let cleaned : IsCleaned now.held w.held c.oldest-oldest.result = frame_cleaned now.frames c.oldest-oldest.result c.in_ok-write_back.field-0 now.held w.held is.apart back.few.0 back.few.1 back.cleaned in
    let up : IsGivenUp now.frames now.held v.held c.replace.new.self.held x = up_over now w v c.replace.new.self.held c.oldest-oldest.result x is full oldest cleaned c.self-2.view_is c.requires.absent refl c.replace.ensures.held in
    let state = state_over now w v c.replace.new.self c.replace.new.self.held c.self-2.view_is c.in_ok-write_back.ensures.same c.replace.ensures.same.0 refl in
    subst IsCache (sym state) (cache_over now v.held c.replace.new.self.held x is up c.requires.exists c.requires.writable)

pub invariant_of-self-2 : goal.invariant_of-self-2
invariant_of-self-2 g c =
    let now = c.args.self.now in
    let w = c.write_back.new.self in
    let i = c.self-2.inside in
    let v : State = record { arrays = i.arrays.items; at = i.at; frames = i.table.frames; frame_words = i.frame_words; held = i.table.held; touches = i.touches } in
    let is : IsCache now = subst IsCache c.self.view_is c.self.invariant.cache in
    let full : now.frames ≤ length now.held = subst (λ (z : State). z.frames ≤ length z.held) c.self.view_is (omega (arith, c.len.ensures.count, c.frames.ensures, c.if-len-frames.false)) in
    let oldest : IsOldest now.held c.oldest-oldest.result = subst (λ (z : State). IsOldest z.held c.oldest-oldest.result) c.self.view_is c.oldest-oldest.ensures.last in
    let x : Held = record { array = c.args.array; tile = c.args.tile; frame = c.oldest-oldest.result; marked = c.args.marked } in
    let back = c.in_ok-write_back.ensures in
    let cleaned : IsCleaned now.held w.held c.oldest-oldest.result = frame_cleaned now.frames c.oldest-oldest.result c.in_ok-write_back.field-0 now.held w.held is.apart back.few.0 back.few.1 back.cleaned in
    let up : IsGivenUp now.frames now.held v.held c.replace.new.self.held x = up_over now w v c.replace.new.self.held c.oldest-oldest.result x is full oldest cleaned c.self-2.view_is c.requires.absent refl c.replace.ensures.held in
    let state = state_over now w v c.replace.new.self c.replace.new.self.held c.self-2.view_is c.in_ok-write_back.ensures.same c.replace.ensures.same.0 refl in
    record {
      table_arrays = c.replace.ensures.same.1 ∙ c.self-2.invariant.table_arrays;
      buffer_len = c.self-2.invariant.buffer_len;
      cache = subst IsCache (sym state) (cache_over now v.held c.replace.new.self.held x is up c.requires.exists c.requires.writable);
    }

pub returns-clause-arrays : goal.returns-clause-arrays
returns-clause-arrays g c y told z after =
    let now = c.args.self.now in
    let w = c.write_back.new.self in
    let i = c.self-2.inside in
    let v : State = record { arrays = i.arrays.items; at = i.at; frames = i.table.frames; frame_words = i.frame_words; held = i.table.held; touches = i.touches } in
    let is : IsCache now = subst IsCache c.self.view_is c.self.invariant.cache in
    let full : now.frames ≤ length now.held = subst (λ (z : State). z.frames ≤ length z.held) c.self.view_is (omega (arith, c.len.ensures.count, c.frames.ensures, c.if-len-frames.false)) in
    let oldest : IsOldest now.held c.oldest-oldest.result = subst (λ (z : State). IsOldest z.held c.oldest-oldest.result) c.self.view_is c.oldest-oldest.ensures.last in
    let x : Held = record { array = c.args.array; tile = c.args.tile; frame = c.oldest-oldest.result; marked = c.args.marked } in
    let back = c.in_ok-write_back.ensures in
    let cleaned : IsCleaned now.held w.held c.oldest-oldest.result = frame_cleaned now.frames c.oldest-oldest.result c.in_ok-write_back.field-0 now.held w.held is.apart back.few.0 back.few.1 back.cleaned in
    let up : IsGivenUp now.frames now.held v.held c.replace.new.self.held x = up_over now w v c.replace.new.self.held c.oldest-oldest.result x is full oldest cleaned c.self-2.view_is c.requires.absent refl c.replace.ensures.held in
    same_over now w v c.replace.new.self.held x y z c.args.words.now is up c.self-2.view_is c.in_ok-write_back.ensures.same (c.in_ok-write_back.ensures.arrays y told z after)

pub returns-clause-same : goal.returns-clause-same
returns-clause-same g c =
    let i = c.self-2.inside in
    let v : State = record { arrays = i.arrays.items; at = i.at; frames = i.table.frames; frame_words = i.frame_words; held = i.table.held; touches = i.touches } in
    state_over c.args.self.now c.write_back.new.self v c.replace.new.self c.replace.new.self.held c.self-2.view_is c.in_ok-write_back.ensures.same c.replace.ensures.same.0 refl

pub returns-clause-others : goal.returns-clause-others
returns-clause-others g c = c.write_back.ensures.others

pub returns-clause-fault_reported : goal.returns-clause-fault_reported
returns-clause-fault_reported g c = c.in_ok-write_back.ensures.fault_reported
