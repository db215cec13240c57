-- The worked results, by computation.
use Rattle.std.proofs.Common.{refl}
use Rattle.tce_base.specs.Word.{word, wrapping_add, wrapping_mul, word_bytes, word_of_bytes, widened}
use Rattle.tce_array.specs.Forms.{word_in}
use Rattle.tce_job.specs.Examples.{WorkedResults}

pub worked_results : WorkedResults
unfolding word wrapping_add wrapping_mul word_bytes word_of_bytes widened word_in
worked_results = record { outer_file = refl; outer_words = refl; tiled_words = refl }
