-- What a fault of the program says.
use Rattle.std.specs.Prelude.{◌≡◌, ⊤, Option}
use Rattle.std.specs.declared.option.Option.TheVariants.{Some}
use Rattle.tce_tree.specs.Faults as trees
use Rattle.tce_tree.specs.declared.fault.TreeFault.TheVariants as tree_faults
use Rattle.tce_spec.specs.Faults as faults
use Rattle.tce_spec.specs.declared.fault.Limit.{Limit}
use Rattle.tce_spec.specs.declared.fault.Limit.TheVariants.{Ranges, Indexes, Tensors, Rank, TileWords, ArrayWords}
use Rattle.tce_spec.specs.declared.fault.SpecFault.{SpecFault}
use Rattle.tce_spec.specs.declared.fault.SpecFault.TheVariants.{TooLong, BadText, TooManyNodes, NameTwice, UnknownName, BadNumber, LimitPassed, RankDiffers, RangeDiffers, IndexTwice, ResultIsOperand, Tree, ResultIndices, Memory}

abbrev pub limit : Limit → faults.Limit
limit Ranges = faults.range_count
limit Indexes = faults.index_count
limit Tensors = faults.tensor_count
limit Rank = faults.rank
limit TileWords = faults.words_of_tile
limit ArrayWords = faults.words_of_array

-- what the program answers is this fault, or want of memory
abbrev pub Shows : Option faults.Fault → SpecFault → Type 0
Shows found TooLong = found ≡ Some faults.too_long
Shows found (BadText line) = found ≡ Some (faults.bad_text line)
Shows found (TooManyNodes line) = found ≡ Some (faults.too_many_nodes line)
Shows found (NameTwice line name) = found ≡ Some (faults.name_twice line name.bytes)
Shows found (UnknownName line name) = found ≡ Some (faults.unknown_name line name.bytes)
Shows found (BadNumber line) = found ≡ Some (faults.bad_number line)
Shows found (LimitPassed line l) = found ≡ Some (faults.limit_passed line (limit l))
Shows found (RankDiffers line name) = found ≡ Some (faults.rank_differs line name.bytes)
Shows found (RangeDiffers line name) = found ≡ Some (faults.range_differs line name.bytes)
Shows found (IndexTwice line name) = found ≡ Some (faults.index_twice line name.bytes)
Shows found (ResultIsOperand line name) = found ≡ Some (faults.result_is_operand line name.bytes)
Shows found (Tree line tree_faults.NoOperation) = found ≡ Some (faults.tree line trees.no_operation)
Shows found (Tree line (tree_faults.SumOverAbsent name)) = found ≡ Some (faults.tree line (trees.sum_over_absent name.bytes))
Shows found (Tree line (tree_faults.TooManyLoops node)) = found ≡ Some (faults.tree line (trees.too_many_loops node))
Shows found (Tree line (tree_faults.VolumeTooLarge node)) = found ≡ Some (faults.tree line (trees.volume_too_large node))
Shows found (Tree line tree_faults.Memory) = ⊥
Shows found (ResultIndices line) = found ≡ Some (faults.result_indices line)
Shows found Memory = ⊤
