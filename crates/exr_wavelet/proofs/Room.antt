-- Where a slice has room for all words of a matrix.
use Rattle.std.proofs.Common.{◌≡◌, ℕ, ◌+◌, ◌*◌, ◌<◌, ◌≤◌, arith}
use Rattle.std.proofs.lemmas.Nat.{mul-add-lt, row_fits}

-- then each word's place lies in it
pub place_in_room : (first nx ny step x y count room len : ℕ) → count ≡ nx * ny → room ≡ count * step → first + room ≤ len → 1 ≤ step → x < nx → y < ny
    → first + (y * nx + x) * step < len
place_in_room first nx ny step x y count room len counted sized fits spread x_in y_in =
    let inside : y * nx + x < nx * ny = mul-add-lt y nx x ny y_in x_in in
    let behind : (y * nx + x) * step + step ≤ count * step = row_fits (y * nx + x) step count step (omega arith) (omega arith) in
    omega arith
