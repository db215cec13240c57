-- A `&` to the places reaches each word. Assumes `Logic`.
use denote.Struct.Lending.{of_Lends}
use Rattle.tce_words.specs.contracts.block.Places as C
use Rattle.tce_words.proofs.MemoryLent.{places_lent_laws, Lends-places}
use Rattle.tce_words.proofs.block.Places.TheLaw.Statement.{statement}

pub shares : statement
shares = of_Lends C.struct C.the_codes C.the_heap C.the_lent (λ d p. places_lent_laws d.at d.words) tt (λ M 𝓤 𝓛 d p. Lends-places 𝓛 C.the_row.lives d.at d.words d.left)
