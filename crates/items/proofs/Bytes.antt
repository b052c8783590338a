-- What is lent is bytes.
-- Assumes nothing.
use Prim.Native.Nat.{ℕ}
use mathlib.Core.List.{List}
use lib.ListN.{get_or}
use mir.Syntax.{w8}
use mir.Val.{Fits}

-- the elements of a lent file are bytes
abbrev pub Bytes : List ℕ → Type 0
Bytes f = (i : ℕ) → Fits w8 (get_or f i 0)
