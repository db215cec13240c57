-- What the parts of a block own and lend.
use Rattle.std.specs.Prelude.{ℕ, ◌+◌, ◌*◌, List, length}
use Rattle.std.specs.Borrow.{u64}
use base.Fml.{Lft, Fml, ffalse, fsep, froom}
use mir.Syntax.{Ty, ty_array, ty_int, w64}
use base.Fraction.{full_share}
use denote.Index.{row}
use denote.Slice.{elements_shared}
use denote.RawPtr.{Ptr, block_ptr, null_ptr}

-- room for n words
abbrev pub words_type : ℕ → Ty
words_type n = ty_array (ty_int w64) n

-- the words lie one after the other from the pointer on, and behind them is room for more
abbrev pub places_own : Ptr → List ℕ → ℕ → Fml
places_own (block_ptr b o) words left = fsep (row u64 full_share words b o) (froom (words_type left) b (length words * 8 + o))
places_own null_ptr words left = ffalse

abbrev pub places_lent : Ptr → List ℕ → Lft → Fml
places_lent (block_ptr b o) words κ = elements_shared u64 words b o κ
places_lent null_ptr words κ = ffalse

-- the allocator's token for a block of n words
abbrev pub deed_owns : (Ty → Ptr → Fml) → Ptr → ℕ → Fml
deed_owns token p n = token (words_type n) p
