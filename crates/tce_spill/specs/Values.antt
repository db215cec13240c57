-- The files that the pieces leave, by the values of the nodes of the whole tree.
use Rattle.std.specs.Prelude.{◌≡◌, ◌≢◌, ℕ, ◌<◌, IsTrue, List, Some}
use Rattle.tce_outside.specs.Files.{Files, file}
use Rattle.tce_array.specs.Forms.{array_bytes}
use Rattle.tce_space.specs.IndexSet.{members}
use Rattle.tce_tree.specs.ContractionTree.{operations, node, node_dims}
use Rattle.tce_tree.specs.Value.{value, assignment}
use Rattle.tce_spec.specs.Contraction.{has_tensor}
use Rattle.tce_spec.specs.Pieces.{Cuts, stored}
use Rattle.tce_spec.specs.Storable.{shape_of_node}
use Rattle.tce_spec.specs.Specification.{Specification}
use Rattle.tce_job.specs.TensorFiles.{file_of, bytes_in, elements}
use Rattle.tce_job.specs.ResultBytes.{result_bytes}
use Rattle.tce_spill.specs.PieceRuns.{source_file}

-- an element of the array of node `v`: the node's value where each of its dims in order has its coordinate
abbrev pub node_element : Specification → Files → ℕ → List ℕ → ℕ
node_element s files v coords = value (elements s (bytes_in files s)) (node s.tree v) (assignment (members (node_dims s.tree v)) coords)

-- the file of that array
abbrev pub node_bytes : Specification → Files → ℕ → List ℕ
node_bytes s files v = array_bytes (shape_of_node s.declarations.space s.tree v) (node_element s files v)

-- a name that is neither that of the result's file nor of the array of a cut node
pub record IsOtherName (s : Specification) (cut : Cuts) (name : List ℕ) : Type 0 where
  pub result : name ≢ file_of s s.result
  pub arrays : (v : ℕ) → v < operations s.tree → IsTrue (cut v) → name ≢ source_file s (stored v)

-- When the turn of node `n` comes, the operands and all other files are as they were at the start, and each cut node in front of it has the array of its values. Behind the last node the result is there.
pub record HasRunTo (start now : Files) (s : Specification) (cut : Cuts) (n : ℕ) : Type 0 where
  pub operands : (t : ℕ) → IsTrue (has_tensor t s.tree) → file now (file_of s t) ≡ file start (file_of s t)
  pub arrays : (v : ℕ) → v < n → v < operations s.tree → IsTrue (cut v) → file now (source_file s (stored v)) ≡ Some (node_bytes s start v)
  pub others : (name : List ℕ) → IsOtherName s cut name → file now name ≡ file start name
  pub result : n ≡ operations s.tree → file now (file_of s s.result) ≡ Some (result_bytes s start)

-- The result is that of the whole formula over the files at the start, each cut node has the array of its values, and all else is as it was.
pub record IsSpilled (start after : Files) (s : Specification) (cut : Cuts) : Type 0 where
  pub result : file after (file_of s s.result) ≡ Some (result_bytes s start)
  pub arrays : (v : ℕ) → v < operations s.tree → IsTrue (cut v) → file after (source_file s (stored v)) ≡ Some (node_bytes s start v)
  pub others : (name : List ℕ) → IsOtherName s cut name → file after name ≡ file start name
