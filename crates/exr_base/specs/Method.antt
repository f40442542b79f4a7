-- Methods of compression: their numbers in files, and the lines of their blocks.
use Rattle.std.specs.Prelude.{ℕ, ◌==◌, Option, Some, None, if◌then◌else◌, List, [], ◌∷◌}
use Rattle.exr_base.specs.declared.method.Method.{Method}
use Rattle.exr_base.specs.declared.method.Method.TheVariants.{No, Rle, Zips, Zip, Piz, Pxr24, B44, B44a, Dwaa, Dwab}

-- the number of a method in files
abbrev pub number_of : Method → ℕ
number_of No = 0
number_of Rle = 1
number_of Zips = 2
number_of Zip = 3
number_of Piz = 4
number_of Pxr24 = 5
number_of B44 = 6
number_of B44a = 7
number_of Dwaa = 8
number_of Dwab = 9

-- the first of some methods with a number
abbrev pub numbered : ℕ → List Method → Option Method
numbered n [] = None
numbered n (m ∷ ms) = if number_of m == n then Some m else numbered n ms

-- the method with a number, or none
abbrev pub method_of : ℕ → Option Method
method_of n = numbered n (No ∷ Rle ∷ Zips ∷ Zip ∷ Piz ∷ Pxr24 ∷ B44 ∷ B44a ∷ Dwaa ∷ Dwab ∷ [])

-- the lines of a block
abbrev pub lines_of : Method → ℕ
lines_of No = 1
lines_of Rle = 1
lines_of Zips = 1
lines_of Zip = 16
lines_of Piz = 32
lines_of Pxr24 = 16
lines_of B44 = 32
lines_of B44a = 32
lines_of Dwaa = 32
lines_of Dwab = 256
