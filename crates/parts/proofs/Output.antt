-- Bytes stored in a lent output, one part behind the other.
-- Assumes nothing.
use Prim.Native.Nat.{ℕ, ◌+◌, ◌≤◌}
use native.Mathlib.Omega.{arith}
use mathlib.Core.Path.{◌≡◌, refl, ap, sym, ◌∙◌}
use mathlib.Core.Bool.{Bool, true, false, cond}
use lib.Dec.{leb}
use mathlib.Core.List.{List, ◌++◌}
use lib.ListN.{length, take, drop}
use lib.Seq.{sets, length-sets}
use Rattle.number.specs.Number.{bytes_of, write_at}
use Rattle.parts.specs.Parts.{copied}
use Rattle.parts.proofs.Laws.{copied-there}
use Rattle.layout.proofs.Outputs.{sets-append, write-is}

pub length-write : (s : List ℕ) (at w n : ℕ) → length (write_at s at w n) ≡ length s
unfolding write_at
length-write s at w n = go (leb (at + w) (length s))
  where
    go : (b : Bool) → length (cond b (sets s at (bytes_of w n)) s) ≡ length s
    go true = length-sets s at (bytes_of w n)
    go false = refl

-- ── One part behind what is stored already ──

pub sets_behind : (s x y part new : List ℕ) (at to : ℕ) → x ≡ sets s at part → to ≡ at + length part → y ≡ sets x to new → y ≡ sets s at (part ++ new)
sets_behind s x y part new at to e h q = q ∙ rw (e, h) (sym (sets-append s at part new))

module _ (s x y part : List ℕ) (at to n : ℕ) (e : x ≡ sets s at part) (h : to ≡ at + length part) (fits : to + n ≤ length s) where
  same-room : to + n ≤ length x
  same-room = omega (arith, ap length e ∙ length-sets s at part)

  pub write-behind : (v : ℕ) → y ≡ write_at x to n v → y ≡ sets s at (part ++ bytes_of n v)
  write-behind v q = sets_behind s x y part (bytes_of n v) at to e h (q ∙ write-is x to n v same-room)

  pub copy-behind : (from : List ℕ) (start : ℕ) → start + n ≤ length from → y ≡ copied from start x to n
      → y ≡ sets s at (part ++ take n (drop start from))
  copy-behind from start k q = sets_behind s x y part (take n (drop start from)) at to e h (q ∙ copied-there from x start to n k same-room)
