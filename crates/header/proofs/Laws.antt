-- A header that is not all there is all zeros, and else its numbers are the file's fields.
-- Assumes nothing.
use Prim.Native.Nat.{ℕ, ◌≤◌, ◌<◌}
use native.Mathlib.Omega.{arith}
use mathlib.Core.Path.{◌≡◌}
use mathlib.Core.List.{List}
use lib.ListN.{length}
use borrow.Author.Rules.{rules}
use borrow.Author.Tests.{le-leb, lt-leb}
use Rattle.number.specs.Number.{read_at}
use Rattle.number.proofs.Laws.{read_is}
use Rattle.layout.specs.Opening.{field, header_count, index_offset, system_offset, user_offset}
use Rattle.header.specs.Header.{header_of}

pub header-short : (f : List ℕ) → length f < 33 → record { count = 0; index = 0; system = 0; user = 0 } ≡ header_of f
unfolding header_of
header-short f h = rw (lt-leb 33 (length f) h)

pub header-whole : (f : List ℕ) (a b c d : ℕ) → 33 ≤ length f → a ≡ read_at f 5 4 → b ≡ read_at f 9 8 → c ≡ read_at f 17 8 → d ≡ read_at f 25 8
    → record { count = a; index = b; system = c; user = d } ≡ header_of f
unfolding header_of header_count index_offset system_offset user_offset field
header-whole f a b c d h p q r s =
    rw (
      le-leb 33 (length f) h,
      p,
      q,
      r,
      s,
      read_is f 5 4 (omega arith) (omega arith),
      read_is f 9 8 (omega arith) (omega arith),
      read_is f 17 8 (omega arith) (omega arith),
      read_is f 25 8 (omega arith) (omega arith),
    )

pub ruleset laws = (rules, header-short, header-whole)
