-- What a block ends as, once a `&mut` to its words has ended.
use Rattle.std.specs.Prelude.{ℕ, List, length}
use Rattle.std.specs.Borrow.{Fml, MutBor, Array, Lends, u64}
use Rattle.std.specs.List.{refill}
use Rattle.tce_words.specs.contracts.words.Words.{the_row}

abbrev pub lends_words : MutBor (List ℕ) → MutBor (List ℕ) → Fml
lends_words words slice = Lends the_row (Array u64 0) words slice (λ ws. refill (length words.now) words.now ws)
