use Rattle.std.proofs.Common.{◌≡◌, ◌-◌, ◌<◌, ℕ, Some, false, length, map}
use Rattle.tce_cache.specs.Held.{Held, look_up}
use Rattle.tce_cache.specs.Cache.{IsCache, OnlyWritableDiffers}
use Rattle.tce_cache.specs.Touch.{with_held, unmarked, KeepsArrays}
use Rattle.tce_cache.proofs.cache.Cache.flush.Given as goal

abbrev pub invariant-loop-frame : goal.invariant-loop-frame
invariant-loop-frame g l = record {
  state : l.self ≡ with_held l.fn.self l.self.held l.fn.self.touches;
  cache : IsCache l.self;
  last : l.len ≡ length l.self.held;
  low : (a t : ℕ) (h : Held) → look_up l.self.held a t ≡ Some h → h.frame < l.len;
  clean : (a t : ℕ) (h : Held) → look_up l.self.held a t ≡ Some h → h.frame < l.frame → h.marked ≡ false;
  held : map unmarked l.self.held ≡ map unmarked l.fn.self.held;
  arrays : KeepsArrays l.fn.self l.self (g.D.Disk.files l.fn.disk) (g.D.Disk.files l.disk) l.words l.words;
  others : OnlyWritableDiffers l.fn.self (g.D.Disk.files l.fn.disk) (g.D.Disk.files l.disk);
  counted : g.D.Disk.faults l.disk ≡ g.D.Disk.faults l.fn.disk;
}

abbrev pub decreases-loop-frame : goal.decreases-loop-frame
decreases-loop-frame g l = l.len - l.frame
