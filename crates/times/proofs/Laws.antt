-- The rule of times, by ranks.
-- Assumes nothing.
use Prim.Native.Nat.{ℕ, ◌-◌, ◌^◌, ◌<◌, ◌≤◌}
use native.Mathlib.Omega.{arith}
use mathlib.Core.Path.{◌≡◌, sym, ◌∙◌}
use mathlib.Core.Bool.{Bool, true}
use lib.Dec.{leb}
use borrow.Author.Rules.{rules}
use borrow.Author.Tests.{le-leb, lt-leb, leb-true}
use Rattle.number.specs.Number.{rank}
use Rattle.number.proofs.Bytes.{both_true}
use Rattle.layout.specs.Recording.{follows, longest_span}
use Rattle.times.specs.Times.{since_first}

-- ── Times ──

pub since-rank : (first time a b : ℕ) → a ≡ rank first → b ≡ rank time → b - a ≡ since_first first time
unfolding since_first
since-rank first time a b p q = rw (p, q)

pub follows-early : (first last time a b : ℕ) → a ≡ rank last → b ≡ rank time → b < a → leb a b ≡ follows first last time
unfolding follows
follows-early first last time a b p q h = rw (lt-leb (rank last) (rank time) (omega arith), p, q, lt-leb (rank last) (rank time) (omega arith))

pub follows-later : (first last time a b d : ℕ) → a ≡ rank last → b ≡ rank time → a ≤ b → d ≡ since_first first time
    → leb d 4294967295 ≡ follows first last time
unfolding follows since_first
follows-later first last time a b d p q h e = rw (e, le-leb (rank last) (rank time) (omega arith))

-- ── The frames that are left ──

-- the time that follows is at most 4,294,967,295 after the first
pub since-fits : (first last t d : ℕ) (s : Bool) → s ≡ follows first last t → s ≡ true → d ≡ since_first first t → d < 2 ^ 32
unfolding follows since_first
since-fits first last t d s p q e =
    let h = leb-true (rank t - rank first) longest_span (both_true (leb (rank last) (rank t)) (leb (rank t - rank first) longest_span)
    (sym p ∙ q)).1 in
    omega arith

-- ── The index as a whole ──

-- the rule of a recording's times is that of frames behind its first
pub follows_itself : (t : ℕ) → follows t t t ≡ true
unfolding follows
follows_itself t = rw (le-leb (rank t) (rank t) (omega arith), le-leb (rank t - rank t) longest_span (omega arith))

pub ruleset laws = (rules, since-rank, follows-early, follows-later)
