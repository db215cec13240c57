-- What holds of a block of words.
use Rattle.std.specs.Prelude.{◌≡◌}
use Rattle.tce_words.specs.Block.{IsBlock}
use Rattle.tce_words.specs.declared.words.Block.{Block}

-- its parts belong together, and each place holds a word
pub record IsWhole (b : Block) : Type 0 where
  pub block : IsBlock b.base b.len b.places b.deed b.alloc
  pub filled : b.places.left ≡ 0
