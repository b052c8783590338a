-- The check, byte by byte, and a sweep's tally.
-- Assumes nothing.
use Rattle.std.proofs.Common.{◌≡◌, ℕ, suc, ◌+◌, ◌-◌, ◌*◌, ◌/◌, ◌%◌, ◌^◌, ◌<◌, ◌≤◌, true, ◌||◌, eqb, ltb, leb, ◌⊎◌, List, length, get_or, take, drop, set, replicate, sym, refl, ap, ◌∙◌, inl, inr, add-one, arith, length-set, drop_of_length-le, drop-cons, rules, le-ltb, lt-ltb, eq-eqb, ne_eqb, le-leb}
use lib.ListN.{length-replicate}
use lib.Seq.{length-sets}
use borrow.Author.Tests.{lt-leb}
use Rattle.number.specs.Number.{bytes_of, write_at}
use Rattle.layout.proofs.Lists.{le-or-lt}
use Rattle.parts.specs.Parts.{copied}
use Rattle.parts.proofs.Laws.{copied-there, copied-no-room}
use Rattle.vector.specs.Check.{with_answer, with_byte, with_bytes}
use Rattle.vector.specs.Sweep.{turns_of, turn_length, swept, turn_bytes}

-- one byte more
pub bytes-more : (s : List ℕ) (h i r : ℕ) (all : ℕ) → i < length s → r ≡ with_byte h (get_or s i 0) → with_bytes h (drop i s) ≡ all
    → with_bytes r (drop (i + 1) s) ≡ all
unfolding with_bytes
bytes-more s h i r all l e g =
    let f : i + 1 ≡ suc i = add-one i in
    rw (e, f) (rw (drop-cons s i 0 l) at g)

-- none is left
pub bytes-done : (s : List ℕ) (h i : ℕ) (all : ℕ) → length s ≤ i → with_bytes h (drop i s) ≡ all → h ≡ all
unfolding with_bytes
bytes-done s h i all l g = rw (drop_of_length-le s l) at g

-- a number written over eight zeros
eight : (n : ℕ) → write_at (replicate 8 0) 0 8 n ≡ bytes_of 8 n
unfolding write_at bytes_of
eight n = refl

pub answered : (h number place sum r : ℕ) (s : List ℕ) → sum ≡ with_byte h number → s ≡ write_at (replicate 8 0) 0 8 place
    → r ≡ with_bytes sum s → r ≡ with_answer h number place
answered h number place sum r s d e f = rw (d, e, eight place) at f

-- ── The turns of a sweep ──

pub turns-none : (n : ℕ) → 1024 < n → 0 ≡ turns_of n
unfolding turns_of
turns-none n h = rw (lt-ltb 1024 n h)

pub turns-all : (n : ℕ) → n ≤ 1024 → 32 * n ≡ turns_of n
unfolding turns_of
turns-all n h = rw (le-ltb 1024 n h)

pub turn-none : (n turn : ℕ) → 1024 < n → (0 ≡ turn_length n turn) × (0 ≤ 1024)
unfolding turn_length
turn-none n turn h = (rw (lt-ltb 1024 n h), omega arith)

pub turn-whole : (n turn : ℕ) → n ≤ 1024 → 0 < turn % 32 → (n ≡ turn_length n turn) × (n ≤ 1024)
unfolding turn_length
turn-whole n turn h k = (rw (le-ltb 1024 n h, ne_eqb (turn % 32) 0 (λ z. omega arith)), h)

pub turn-past : (n turn : ℕ) → n ≤ 1024 → turn % 32 ≤ 0 → n < turn / 32 → (n ≡ turn_length n turn) × (n ≤ 1024)
unfolding turn_length
turn-past n turn h k l = (rw (le-ltb 1024 n h, eq-eqb (turn % 32) 0 (omega arith), lt-ltb n (turn / 32) l), h)

pub turn-cut : (n turn : ℕ) → n ≤ 1024 → turn % 32 ≤ 0 → turn / 32 ≤ n → (turn / 32 ≡ turn_length n turn) × (turn / 32 ≤ 1024)
unfolding turn_length
turn-cut n turn h k l = (rw (le-ltb 1024 n h, eq-eqb (turn % 32) 0 (omega arith), le-ltb n (turn / 32) l), omega arith)

zeros : List ℕ
zeros = replicate 1024 0

room : length zeros ≡ 1024
unfolding zeros
room = length-replicate {A = ℕ} 1024 0

swept-long : (base : List ℕ) → 1024 ≡ length (swept base)
unfolding swept zeros
swept-long base = go (le-or-lt (length base) 1024)
  where
    go : (length base ≤ 1024) ⊎ (1024 < length base) → 1024 ≡ length (copied base 0 zeros 0 (length base))
    go (inl h) =
        sym (ap length (copied-there base zeros 0 0 (length base) (omega arith) (omega (arith, room)))
        ∙ length-sets zeros 0 (take (length base) (drop 0 base)) ∙ room)
    go (inr h) = sym room ∙ ap length (copied-no-room base zeros 0 0 (length base) (omega (arith, room)))

-- the bytes as they are
as-swept : (base values s : List ℕ) (turn : ℕ) → s ≡ swept base
    → (eqb (turn % 32) 0 || ltb (length values) (turn % 32) || leb 1024 (turn / 32)) ≡ true
    → (s ≡ turn_bytes base values turn) × (1024 ≡ length s)
unfolding turn_bytes
as-swept base values s turn e f = (e ∙ rw f, swept-long base ∙ ap length (sym e))

module _ (base values s : List ℕ) (turn : ℕ) (e : s ≡ copied base 0 (replicate 1024 0) 0 (length base)) where
  is-swept : s ≡ swept base
  unfolding swept
  is-swept = e

  pub turn-first : turn % 32 ≤ 0 → (s ≡ turn_bytes base values turn) × (1024 ≡ length s)
  turn-first k = as-swept base values s turn is-swept (rw (eq-eqb (turn % 32) 0 (omega arith)))

  pub turn-without : 0 < turn % 32 → length values < turn % 32 → (s ≡ turn_bytes base values turn) × (1024 ≡ length s)
  turn-without k l = as-swept base values s turn is-swept (rw (ne_eqb (turn % 32) 0 (λ z. omega arith), lt-ltb (length values) (turn % 32) l))

  pub turn-behind : 0 < turn % 32 → turn % 32 ≤ length values → 1024 ≤ turn / 32 → (s ≡ turn_bytes base values turn) × (1024 ≡ length s)
  turn-behind k l m =
      as-swept base values s turn is-swept (rw (ne_eqb (turn % 32) 0 (λ z. omega arith), le-ltb (length values) (turn % 32) l, le-leb 1024 (turn / 32) m))

  pub turn-with : 0 < turn % 32 → turn % 32 ≤ length values → turn / 32 < 1024
      → (set s (turn / 32) (get_or values (turn % 32 - 1) 0) ≡ turn_bytes base values turn)
      × (1024 ≡ length (set s (turn / 32) (get_or values (turn % 32 - 1) 0)))
  unfolding turn_bytes
  turn-with k l m = (
    rw (ne_eqb (turn % 32) 0 (λ z. omega arith), le-ltb (length values) (turn % 32) l, lt-leb 1024 (turn / 32) m, is-swept),
    swept-long base ∙ ap length (sym is-swept) ∙ sym (length-set s (turn / 32) (get_or values (turn % 32 - 1) 0)),
  )

pub ruleset laws = (rules, bytes-more, bytes-done, answered, turns-none, turns-all)
