use Rattle.tce_job.proofs.Shapes.{shapes_are_tilings}
use Rattle.tce_job.proofs.Names.{different_files}
use Rattle.tce_job.proofs.result_laws.tensors_have_files.Goals as goal

pub returns : goal.returns
returns c = record { shapes = shapes_are_tilings; different = different_files }
