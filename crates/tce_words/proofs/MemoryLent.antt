-- A `&` to the places reaches each word. Assumes `Logic`.
use Rattle.std.proofs.Common.{ℕ, List}
use seplogic.Ra.Ura.{Ura}
use base.Fraction.{full_share}
use base.Fml.{Lft, ffalse, froom}
use mir.Syntax.{w64}
use types.Logic.{Logic}
use denote.Builtin.{u64}
use denote.Copied.{uint_Copied}
use denote.Index.{row}
use denote.Memory.{shared_of}
use denote.Plain.{uint_row_laws}
use denote.RawPtr.{Ptr, block_ptr, null_ptr}
use denote.Shares.{shares_each}
use denote.Sharing.{ShrLaws, said}
use denote.SharingLaws.{said_shr_laws}
use denote.Slice.{elements_shared, elements_shr_laws}
use denote.Struct.Lending.{Lends, Lends-first, Lends-false}
use Rattle.tce_words.specs.Memory.{words_type, places_own, places_lent}

pub places_lent_laws : (p : Ptr) (words : List ℕ) → ShrLaws (places_lent p words)
places_lent_laws (block_ptr b o) words = elements_shr_laws u64 (uint_row_laws w64) words b o
places_lent_laws null_ptr words = said_shr_laws ffalse tt

pub Lends-places : {M : Type 1} {𝓤 : Ura M} (𝓛 : Logic 𝓤) (l : Lft) (p : Ptr) (words : List ℕ) (left : ℕ) → Lends 𝓛 (places_own p words left) (places_lent p words) l
Lends-places 𝓛 l (block_ptr b o) words left =
    Lends-first 𝓛 (row u64 full_share words b o) (froom (words_type left) b _) (elements_shared u64 words b o) l
    (λ κ ts inc sp. shares_each 𝓛 u64 (shared_of u64) l ((uint_Copied 𝓛 w64).shares full_share l) words κ ts b o inc sp)
Lends-places 𝓛 l null_ptr words left = Lends-false 𝓛 (said ffalse) l
