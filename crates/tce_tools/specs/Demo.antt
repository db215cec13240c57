-- The data of the demonstration: a specification, and arrays of numbers by a generator.
use Rattle.std.specs.Prelude.{ℕ, ◌+◌, ◌*◌, ◌%◌, ◌^◌, min, nat_eq, if◌then◌else◌, List, ◌++◌, codes}
use Rattle.std.specs.Fmt.{decimal}
use Rattle.tce_space.specs.Box.{place}
use Rattle.tce_space.specs.Tiling.{Tiling}

-- the number after so many draws: each multiplies by 48271, modulo 2147483647
unfoldable pub drawn : ℕ → ℕ → ℕ
drawn x draws = x * 48271 ^ draws % 2147483647

-- the elements are the last digits of the numbers, in row-major order
unfoldable pub digit : ℕ → ℕ → ℕ
digit x draws = drawn x draws % 10

abbrev pub demo_element : Tiling → ℕ → List ℕ → ℕ
demo_element s x xs = digit x (place s.extents xs + 1)

-- the line of a range, in tiles of at most four; tiles of one are not said
abbrev pub tile_part : ℕ → List ℕ
tile_part extent = if nat_eq extent 1 then codes "\n" else codes " tile " ++ (decimal (min extent 4) ++ codes "\n")

abbrev pub range_line : List ℕ → ℕ → List ℕ
range_line name extent = codes "range " ++ (name ++ (codes " " ++ (decimal extent ++ tile_part extent)))

-- the specification: two ranges, and four arrays and a sum of their products
abbrev pub demo_formula : List ℕ
demo_formula =
    codes "index V a b c d e f\nindex O i j k l\ntensor demoA[V,V,O,O]\ntensor demoB[V,V,V,O]\ntensor demoC[V,V,O,O]\ntensor demoD[V,V,V,O]\ntensor demoS[V,V,O,O]\ndemoS[a,b,i,j] = sum{c,k}(sum{d,f}(sum{e,l}(demoB[b,e,f,l] * demoD[c,d,e,l]) * demoC[d,f,j,k]) * demoA[a,c,i,k])\n"

abbrev pub demo_text : ℕ → ℕ → List ℕ
demo_text v o = range_line (codes "V") v ++ (range_line (codes "O") o ++ demo_formula)
