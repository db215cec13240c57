-- A whole tensor and the file that stores it.
use Rattle.std.specs.Prelude.{◌≡◌, ℕ, List, length, Option}
use Rattle.std.specs.Option.{ForSome}
use Rattle.tce_outside.specs.Files.{Files}
use Rattle.tce_tools.specs.Flat.{contents}
use Rattle.tce_sym.specs.declared.expansion.Source.{Source}
use Rattle.tce_sym.specs.Storage.{AreRight, full_cell, stored_count}
use Rattle.tce_sym.specs.Lines.{HasRoom}
use Rattle.tce_sym.specs.Cells.{AreOf}
use Rattle.tce_sym.specs.TileRows.{AreWords}
use Rattle.tce_sym.specs.Told.{IsStoredIn, AreHeldOf}

-- the positions are right for the shape; the triangles are those of the tensor, with so many elements as are stored
abbrev pub HasRightPositions : Source → Type 0
HasRightPositions source = AreRight source.shape.now.extents source.s.now

abbrev pub HasItsTriangles : Source → Type 0
HasItsTriangles source = AreOf source.shape.now.extents source.s.now source.triangles.now

abbrev pub HasItsCount : Source → Type 0
HasItsCount source = source.triangles.now.count ≡ stored_count source.shape.now.extents source.s.now

-- the file stores the tensor
abbrev pub IsStoredFor : Option Files → Source → Type 0
IsStoredFor told source = IsStoredIn told source.packed.now source.shape.now.extents source.s.now

-- the lines have room for the words of the file that are held, and have them
abbrev pub HasRoomFor : Source → List ℕ → Type 0
HasRoomFor source lines = HasRoom source.triangles.now.slots.grid.layout source.triangles.now.slots.grid (length lines)

abbrev pub AreHeldFor : Option Files → Source → List ℕ → Type 0
AreHeldFor told source lines = AreHeldOf told source.packed.now source.triangles.now.slots.grid lines

-- the first words of a list are those of the array file of the tensor from one on
abbrev pub AreWordsFor : Option Files → Source → ℕ → ℕ → List ℕ → Type 0
AreWordsFor told source from count words =
    ForSome told (λ fs. AreWords source.shape.now (full_cell source.shape.now.extents source.s.now (contents fs source.packed.now)) from count words)
