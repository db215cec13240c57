-- What the places end as, once a `&mut` to their words has ended.
use Rattle.std.specs.Prelude.{ℕ, List, length}
use Rattle.std.specs.Borrow.{Fml, MutBor, Array, Lends, u64}
use Rattle.std.specs.List.{refill}
use Rattle.tce_words.specs.declared.block.Places.{Places}
use Rattle.tce_words.specs.contracts.block.Places.{the_row}

abbrev pub with_words : Places → List ℕ → Places
with_words p ws = record { at = p.at; words = refill (length p.words) p.words ws; left = p.left }

abbrev pub lends_places : MutBor Places → MutBor (List ℕ) → Fml
lends_places p slice = Lends the_row (Array u64 0) p slice (λ ws. with_words p.now ws)
