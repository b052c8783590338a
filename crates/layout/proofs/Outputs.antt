-- Bytes stored in a lent output, one part behind the other.
-- Assumes nothing.
use Prim.Native.Nat.{ℕ, suc, ◌+◌, ◌≤◌}
use native.Mathlib.Omega.{arith}
use mathlib.Core.Path.{◌≡◌, ◌∙◌}
use mathlib.Core.List.{List, [], ◌∷◌, ◌++◌}
use lib.ListN.{length, set}
use lib.Seq.{sets, sets-eq}
use borrow.Author.Tests.{le-leb}
use Rattle.number.specs.Number.{bytes_of, write_at}
use Rattle.layout.specs.Recorder.{filled}

-- two parts, stored one after the other
pub sets-append : (s : List ℕ) (at : ℕ) (a b : List ℕ) → sets s at (a ++ b) ≡ sets (sets s at a) (at + length a) b
sets-append s at [] b = let e : at + 0 ≡ at = omega arith in rw e
sets-append s at (x ∷ xs) b =
    let e : at + suc (length xs) ≡ suc at + length xs = omega arith in
    rw e (sets-append (set s at x) (suc at) xs b)

-- an output filled from its start
pub filled_is : (out part : List ℕ) → length part ≤ length out → sets out 0 part ≡ filled out part
unfolding filled
filled_is out part h =
    let e : 0 + length part ≡ length part = omega arith in
    sets-eq part out 0 (omega arith) ∙ rw e

-- where there is room, a number is stored
pub write-is : (s : List ℕ) (at w n : ℕ) → at + w ≤ length s → write_at s at w n ≡ sets s at (bytes_of w n)
unfolding write_at
write-is s at w n h = rw (le-leb (at + w) (length s) h)
