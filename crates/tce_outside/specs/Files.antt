-- The files of a disk as a finite map from names to contents, both lists of bytes.
use Rattle.std.specs.Prelude.{◌≡◌, ◌⊎◌, ℕ, ◌+◌, ◌≤◌, List, [], ◌++◌, length, take, drop, replicate, Option, IfSome, unwrap_or}
use Rattle.std.specs.Ordering.{nat_cmp}
use Rattle.std.specs.Cmp.Lexicographic.{slice_cmp}
use Rattle.std.specs.Option.{ForSome, IsSomeAnd, option_map}
use Rattle.std.specs.FinMap as map

-- the contents of each file that is there
abbrev pub Files : Type 0
Files = map.FinMap (slice_cmp nat_cmp) (List ℕ)

-- the bytes of a file, if it is there
abbrev pub file : Files → List ℕ → Option (List ℕ)
file files name = map.get files name

-- the files with these bytes under this name
abbrev pub with_file : Files → List ℕ → List ℕ → Files
with_file files name bytes = map.insert files name bytes

-- the files but the one of this name
abbrev pub without_file : Files → List ℕ → Files
without_file files name = map.remove files name

-- bytes written over a part of a list
abbrev pub overwritten : List ℕ → ℕ → List ℕ → List ℕ
overwritten old at bytes = take at old ++ bytes ++ drop (at + length bytes) old

-- the file with this name is there, and has this part
abbrev pub HasPart : Files → List ℕ → ℕ → ℕ → Type 0
HasPart files name at len = IsSomeAnd (file files name) (λ bytes. at + len ≤ length bytes)

-- the part of a file
abbrev pub part : Files → List ℕ → ℕ → ℕ → List ℕ
part files name at len = take len (drop at (unwrap_or (file files name) []))

-- the files after a write of these bytes over a part of a file
abbrev pub with_part : Files → List ℕ → ℕ → List ℕ → Files
with_part files name at bytes = with_file files name (overwritten (unwrap_or (file files name) []) at bytes)

-- the files with so many zero bytes under this name
abbrev pub with_zeros : Files → List ℕ → ℕ → Files
with_zeros files name len = with_file files name (replicate len 0)

-- the length of a file, if it is there
abbrev pub length_of : Files → List ℕ → Option ℕ
length_of files name = option_map length (file files name)

-- all files but the one of this name are the same
abbrev pub SameOthers : List ℕ → Files → Files → Type 0
SameOthers name old new = without_file new name ≡ without_file old name

-- Of a disk that tells its files, or tells nothing.

-- all files but the one of this name
abbrev pub others : List ℕ → Option Files → Option Files
others name told = option_map (λ files. without_file files name) told

-- the files with these bytes under this name
abbrev pub holding : List ℕ → List ℕ → Option Files → Option Files
holding name bytes told = option_map (λ files. with_file files name bytes) told

-- the files with so many zero bytes under this name
abbrev pub holding_zeros : List ℕ → ℕ → Option Files → Option Files
holding_zeros name len told = option_map (λ files. with_zeros files name len) told

-- the files with these bytes written over a part of the one of this name
abbrev pub written : List ℕ → ℕ → List ℕ → Option Files → Option Files
written name at bytes told = option_map (λ files. with_part files name at bytes) told

-- what a file has before a place, and what it has from a place on, if it is there
abbrev pub bytes_before : List ℕ → ℕ → Option Files → Option (Option (List ℕ))
bytes_before name at told = option_map (λ files. option_map (λ bytes. take at bytes) (file files name)) told

abbrev pub bytes_from : List ℕ → ℕ → Option Files → Option (Option (List ℕ))
bytes_from name at told = option_map (λ files. option_map (λ bytes. drop at bytes) (file files name)) told

-- the file is as it was, or has only zeros, or is absent
abbrev pub IsKeptOrZeros : List ℕ → Option Files → Option Files → Type 0
IsKeptOrZeros name before after =
    ForSome before (λ old. ForSome after (λ new. (file new name ≡ file old name) ⊎ IfSome (file new name) (λ bytes. bytes ≡ replicate (length bytes) 0)))

-- the number is the length of a file, and the bytes are a part of it
abbrev pub IsLengthIn : Option Files → List ℕ → Option ℕ → Type 0
IsLengthIn told name len = ForSome told (λ files. len ≡ length_of files name)

abbrev pub IsPartIn : Option Files → List ℕ → ℕ → ℕ → List ℕ → Type 0
IsPartIn told name at len bytes = ForSome told (λ files. bytes ≡ part files name at len)

-- a file keeps what it has before a place, and what it has from one on
abbrev pub KeepsBefore : List ℕ → ℕ → Option Files → Option Files → Type 0
KeepsBefore name at before after = bytes_before name at after ≡ bytes_before name at before

abbrev pub KeepsFrom : List ℕ → ℕ → Option Files → Option Files → Type 0
KeepsFrom name at before after = bytes_from name at after ≡ bytes_from name at before

-- Of a sink that tells its bytes, or tells nothing: these bytes behind them
abbrev pub appended : List ℕ → Option (List ℕ) → Option (List ℕ)
appended piece told = option_map (λ bytes. bytes ++ piece) told
