-- The set of the changes that conflict, as a number of 64 bits.
-- Assumes nothing.
use Prim.Native.Nat.{ℕ, zero, suc, ◌+◌, ◌*◌, ◌/◌, ◌%◌, ◌^◌, ◌<◌, ◌≤◌}
use native.Mathlib.Nat.{lt_of_lt_of_le, mod-eq_of_lt}
use native.Mathlib.Omega.{arith}
use mathlib.Core.Path.{◌≡◌, ap, sym, ◌∙◌}
use mathlib.Core.Bool.{Bool, true, false, cond, ◌||◌}
use mathlib.Core.List.{List, [], ◌∷◌, map}
use lib.ListN.{length, length-map}
use lib.Pow.{pow_mono}
use lib.Count.{count_trailing_zeros, under}
use borrow.Author.Tests.{lt-ltb, le-ltb}
use Rattle.layout.specs.Recording.{Tag}
use Rattle.layout.specs.Saving.{Change, conflicts, some, lowest, some_conflict, conflict_place, bits}
use Rattle.layout.proofs.Looked.{halved, lowest-is, bits-some, bits-few}

module _ (ts : List Tag) where
  -- up to 64 changes have a bit each
  pub set-fits : (cs : List Change) → length cs ≤ 64 → bits (map (conflicts ts) cs) % 2 ^ 64 ≡ bits (map (conflicts ts) cs)
  set-fits cs h =
      let l = length-map cs (conflicts ts) in
      mod-eq_of_lt (lt_of_lt_of_le (bits-few (map (conflicts ts) cs)) (pow_mono {j = 64} (omega arith)))

  -- the lowest bit is that of the lowest place
  lowest-bit : (d : ℕ) (cs : List Change) → length cs ≤ d → some_conflict ts cs ≡ true → count_trailing_zeros d (bits (map (conflicts ts) cs)) ≡ conflict_place ts cs
  unfolding count_trailing_zeros bits some lowest
  lowest-bit d [] h e = let z : ◌≡◌ {A = ℕ} 0 1 = cc in absurd (omega arith)
  lowest-bit zero (c ∷ cs) h e = absurd (omega arith)
  lowest-bit (suc d) (c ∷ cs) h e = go (conflicts ts c) (bits (map (conflicts ts) cs)) (lowest-bit d cs (omega arith)) e
    where
      go : (b : Bool) (n : ℕ) → (some_conflict ts cs ≡ true → count_trailing_zeros d n ≡ conflict_place ts cs) → b || some_conflict ts cs ≡ true
          → under ((cond b 1 0 + 2 * n) % 2) (count_trailing_zeros d ((cond b 1 0 + 2 * n) / 2)) ≡ cond b 0 (suc (conflict_place ts cs))
      go true n ih k = rw (lowest-is true n)
      go false n ih k = rw (lowest-is false n, halved false n) (ap suc (ih k))

  module _ (cs : List Change) (set : ℕ) (few : length cs ≤ 64) (e : set ≡ bits (map (conflicts ts) cs)) where
    pub set-empty : set ≤ 0 → some_conflict ts cs ≡ false
    set-empty h = sym (bits-some ts cs) ∙ le-ltb 0 (bits (map (conflicts ts) cs)) (rw (← e) h)

    pub set-lowest : 0 < set → (some_conflict ts cs ≡ true) × (count_trailing_zeros 64 set ≡ conflict_place ts cs)
    set-lowest h = let s = sym (bits-some ts cs) ∙ lt-ltb 0 (bits (map (conflicts ts) cs)) (rw (← e) h) in (s, rw e (lowest-bit 64 cs few s))
