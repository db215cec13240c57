-- Bands of the elements that a file stores, where the disk tells its files.
use Rattle.std.specs.Prelude.{◌≡◌, ℕ, ◌+◌, ◌*◌, List, Option}
use Rattle.std.specs.Option.{ForSome}
use Rattle.tce_outside.specs.Files.{Files, others, KeepsBefore, KeepsFrom}
use Rattle.tce_array.specs.declared.form.Form.{Form}
use Rattle.tce_array.specs.Forms.{head_len}
use Rattle.tce_tools.specs.declared.band.Band.{Band}
use Rattle.tce_tools.specs.declared.storage.ElementFile.{ElementFile}
use Rattle.tce_tools.specs.declared.storage.Storage.TheVariants.{Flat, Array}
use Rattle.tce_tools.specs.Bands.{AreTiled}
use Rattle.tce_tools.specs.Flat.{contents}
use Rattle.tce_tools.specs.Runs.{AreElements}
use Rattle.tce_tools.specs.Storage.{element_in, bytes_ahead}
use Rattle.tce_tools.specs.Told.{HasStoredIn, holding_bare}

-- the file is there and has the right length; it is there as an array file in this form
abbrev pub IsThere : Option Files → ElementFile → Type 0
IsThere told file = HasStoredIn told file.name.now file.storage file.shape.now

abbrev pub IsArrayThere : Option Files → ElementFile → Form → Type 0
IsArrayThere told file form = HasStoredIn told file.name.now (Array form) file.shape.now

-- the values are the elements of the file from one on, in row-major order
abbrev pub AreElementsIn : Option Files → ElementFile → ℕ → List ℕ → Type 0
AreElementsIn told file from values = ForSome told (λ fs. AreElements file.shape.now (element_in file.storage file.shape.now (contents fs file.name.now)) from values)

-- the words of the pieces are the elements of the array file
abbrev pub AreTiledIn : Option Files → ElementFile → Form → Band → List ℕ → Type 0
AreTiledIn told file form band tiled = ForSome told (λ fs. AreTiled file.shape.now band (element_in (Array form) file.shape.now (contents fs file.name.now)) tiled)

-- the files with these elements in the file while zeros stand in the place of what comes before them; the same of an array file in this form
abbrev pub bare_file : ElementFile → (Files → List ℕ → ℕ) → Option Files → Option Files
bare_file file element told = holding_bare file.name.now file.storage file.shape.now element told

abbrev pub bare_array : ElementFile → Form → (Files → List ℕ → ℕ) → Option Files → Option Files
bare_array file form element told = holding_bare file.name.now (Array form) file.shape.now element told

-- the file keeps what stands before a band and before all elements behind it; a flat one keeps what stands behind the band; an array file keeps its head
abbrev pub KeepsAhead : ElementFile → Band → Option Files → Option Files → Type 0
KeepsAhead file band before after = KeepsBefore file.name.now (bytes_ahead file.storage file.shape.now band.start) before after

abbrev pub KeepsBehind : ElementFile → Band → Option Files → Option Files → Type 0
KeepsBehind file band before after = file.storage ≡ Flat → KeepsFrom file.name.now (8 * band.start + 8 * band.len) before after

abbrev pub KeepsHead : ElementFile → Form → Option Files → Option Files → Type 0
KeepsHead file form before after = KeepsBefore file.name.now (head_len form file.shape.now) before after

-- no other file differs
abbrev pub OthersStay : ElementFile → Option Files → Option Files → Type 0
OthersStay file before after = others file.name.now after ≡ others file.name.now before
