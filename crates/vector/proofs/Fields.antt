-- A length and the two parts behind it.
-- Assumes nothing.
use Prim.Native.Nat.{ℕ, ◌+◌, ◌<◌, ◌≤◌}
use native.Mathlib.Omega.{arith}
use mathlib.Core.Path.{◌≡◌}
use mathlib.Core.List.{List}
use lib.ListN.{length, drop, length-drop}
use borrow.Author.Tests.{le-leb, lt-leb}
use denote.Ref.{Bor}
use Rattle.std.specs.Prelude.{Option, Some, None, MatchOption}
use Rattle.std.specs.List.{IsSplitAt}
use Rattle.number.specs.Number.{read_at}
use Rattle.vector.specs.Fields.{shown, counted_of}

pub no-length : (s : List ℕ) (w : ℕ) → length s < w → None ≡ counted_of s w
unfolding counted_of
no-length s w h = rw (lt-leb (w + read_at s 0 w) (length s) (omega arith))

pub parts-behind : (s g : List ℕ) (w n : ℕ) (r : Option (Bor (List ℕ) × Bor (List ℕ))) → w ≤ length s → g ≡ drop w s → n ≡ read_at s 0 w
    → MatchOption r (length g < n) (λ p. IsSplitAt g n p.0.now p.1.now) → shown r ≡ counted_of s w
unfolding counted_of
parts-behind s g w n None h e f m =
    let l : length (drop w s) < read_at s 0 w = rw (← e, ← f) m in
    rw (lt-leb (w + read_at s 0 w) (length s) (omega (arith, length-drop w s)))
parts-behind s g w n (Some p) h e f m =
    let (a, b, c, d, e2) = m in
    let l : read_at s 0 w ≤ length (drop w s) = rw (← e, ← f) a in
    rw (le-leb (w + read_at s 0 w) (length s) (omega (arith, length-drop w s)), ← e, ← f, b, c)
