-- What holds of the parts of one block.
use Rattle.std.specs.Prelude.{◌≡◌, ℕ, ◌+◌, ◌^◌, ◌<◌, length}
use Rattle.tce_words.specs.declared.block.Base.{Base}
use Rattle.tce_words.specs.declared.block.Deed.{Deed}
use Rattle.tce_words.specs.declared.block.Places.{Places}

-- the owner of the places owns those at the base, len of them with those that are left, and the deed is for all of them
pub record IsBlock {A : Type 0} (base : Base) (len : ℕ) (places : Places) (deed : Deed A) (alloc : A) : Type 0 where
  pub based : places.at ≡ base.ptr
  pub counted : length places.words + places.left ≡ len
  pub limited : len < 2 ^ 60
  pub deed_based : deed.at ≡ base.ptr
  pub deed_counted : deed.len ≡ len
  pub deed_owned : deed.alloc ≡ alloc
