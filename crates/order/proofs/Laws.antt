-- What the functions of this crate leave to be shown, as laws about the definitions.
-- Assumes nothing.
use Rattle.std.specs.Prelude.{Option, Some, None}
use Rattle.std.specs.declared.cmp.Ordering.{Ordering}
use Rattle.std.specs.declared.cmp.Ordering.TheVariants.{Less, Equal, Greater}
use Rattle.std.specs.Ordering.{nat_cmp}
use Prim.Native.Nat.{ℕ, ◌+◌, ◌*◌, ◌-◌, ◌/◌, ◌^◌, ◌<◌, ◌≤◌}
use native.Mathlib.Omega.{arith}
use mathlib.Core.Path.{◌≡◌, refl, ap, sym, ◌∙◌}
use mathlib.Core.Bool.{true}
use mathlib.Core.List.{List, [], ◌∷◌, ◌++◌}
use lib.ListN.{length, take, drop, get_or}
use lib.Seq.{drop-cons, drop-drop, take-add}
use lib.Pow.{are_bytes}
use borrow.Author.Rules.{rules}
use mir.Syntax.{w8, w64}
use mir.Val.{Fits}
use Rattle.number.specs.Number.{number_of}
use Rattle.number.proofs.Bytes.{slice-bytes, part-long}
use Rattle.parts.proofs.Same.{eight-read}
use Rattle.layout.specs.Reading.{string}
use Rattle.layout.proofs.Lists.{bytes_take, bytes_drop}
use Rattle.strings.specs.Strings.{text_of}
use Rattle.strings.proofs.Laws.{string-parts, text_of-broken}
use Rattle.order.specs.Order.{key, name_of, name_at, turn_of, keys, middle, halves}
use Rattle.order.proofs.Keys.{turn-cmp, turn-before, turn-same, turn-after, key-longer, same_ends, other-ends}
use Rattle.order.proofs.Seats.{keys-at, halves-done, halves-lower, halves-met, halves-upper, seek-more, seek-start, insert-full, insert-nowhere, insert-start, insert-step, insert-done}

-- ── Names of one length, from their ends on ──

-- the first bytes of a part, and the w behind them
ends : (s : List ℕ) (at left w : ℕ) → w ≤ left → take left (drop at s) ≡ take (left - w) (drop at s) ++ take w (drop (at + (left - w)) s)
ends s at left w h =
    let q : left ≡ left - w + w = omega arith in
    ap (λ (n : ℕ). take n (drop at s)) q ∙ take-add (left - w) w (drop at s) ∙ rw (drop-drop (left - w) at s)

bytes-part : (s : List ℕ) (at n : ℕ) → ((i : ℕ) → Fits w8 (get_or s i 0)) → are_bytes (take n (drop at s)) ≡ true
bytes-part s at n b = bytes_take n (drop at s) (bytes_drop at s (slice-bytes s b))

module _ (w : ℕ) (s : List ℕ) (here there left x y : ℕ) (all : Ordering) (l : w ≤ left) (h : here + left ≤ length s) (k : there + left ≤ length s)
    (e : x ≡ number_of (take w (drop (here + (left - w)) s))) (f : y ≡ number_of (take w (drop (there + (left - w)) s)))
    (i : turn_of (key (take left (drop here s))) (key (take left (drop there s))) ≡ all) where
  fronts-long : length (take (left - w) (drop here s)) ≡ length (take (left - w) (drop there s))
  fronts-long = part-long s here (left - w) (omega arith) ∙ sym (part-long s there (left - w) (omega arith))

  ends-long : length (take w (drop (here + (left - w)) s)) ≡ length (take w (drop (there + (left - w)) s))
  ends-long = part-long s (here + (left - w)) w (omega arith) ∙ sym (part-long s (there + (left - w)) w (omega arith))

  step : x ≡ y → turn_of (key (take (left - w) (drop here s))) (key (take (left - w) (drop there s))) ≡ all
  step o =
      sym (same_ends (take (left - w) (drop here s)) (take (left - w) (drop there s)) (take w (drop (here + (left - w)) s))
      (take w (drop (there + (left - w)) s)) fronts-long ends-long (sym e ∙ o ∙ f))
      ∙ rw (← ends s here left w l, ← ends s there left w l) i

  stop : (r : Ordering) → ((i : ℕ) → Fits w8 (get_or s i 0)) → (x ≡ y → ⊥) → r ≡ nat_cmp x y → r ≡ all
  stop r b o g =
      let p : turn_of x y ≡ turn_of (number_of (take w (drop (here + (left - w)) s))) (number_of (take w (drop (there + (left - w)) s))) = rw (e, f) in
      g ∙ turn-cmp x y ∙ p ∙ other-ends (take (left - w) (drop here s)) (take (left - w) (drop there s)) (take w (drop (here + (left - w)) s))
      (take w (drop (there + (left - w)) s)) (bytes-part s here (left - w) b) (bytes-part s there (left - w) b) fronts-long ends-long
      (λ q. o (e ∙ q ∙ sym f)) ∙ rw (← ends s here left w l, ← ends s there left w l) i

byte-is : (s : List ℕ) (at : ℕ) → at < length s → get_or s at 0 ≡ number_of (take 1 (drop at s))
unfolding number_of
byte-is s at h =
    let q : get_or s at 0 + 256 * 0 ≡ get_or s at 0 = omega arith in
    rw (drop-cons s at 0 h) (sym q)

module _ (s : List ℕ) (here there n left : ℕ) (all : Ordering) where
  pub bytes-step : turn_of (key (take left (drop here s))) (key (take left (drop there s))) ≡ all → 0 < left → left ≤ n → here + n ≤ length s
      → there + n ≤ length s → get_or s (here + (left - 1)) 0 ≡ get_or s (there + (left - 1)) 0
      → turn_of (key (take (left - 1) (drop here s))) (key (take (left - 1) (drop there s))) ≡ all
  bytes-step i l m h k o =
      step 1 s here there left (get_or s (here + (left - 1)) 0) (get_or s (there + (left - 1)) 0) all l (omega arith) (omega arith)
      (byte-is s (here + (left - 1)) (omega arith)) (byte-is s (there + (left - 1)) (omega arith)) i o

  pub bytes-stop : (r : Ordering) → turn_of (key (take left (drop here s))) (key (take left (drop there s))) ≡ all
      → ((i : ℕ) → Fits w8 (get_or s i 0)) → 0 < left → left ≤ n → here + n ≤ length s → there + n ≤ length s
      → (get_or s (here + (left - 1)) 0 ≡ get_or s (there + (left - 1)) 0 → ⊥)
      → r ≡ nat_cmp (get_or s (here + (left - 1)) 0) (get_or s (there + (left - 1)) 0) → r ≡ all
  bytes-stop r i b l m h k o g =
      stop 1 s here there left (get_or s (here + (left - 1)) 0) (get_or s (there + (left - 1)) 0) all l (omega arith) (omega arith)
      (byte-is s (here + (left - 1)) (omega arith)) (byte-is s (there + (left - 1)) (omega arith)) i r b o g

module _ (s : List ℕ) (here there n passed x y : ℕ) (all : Ordering) where
  pub words_step : turn_of (key (take (n - 8 * passed) (drop here s))) (key (take (n - 8 * passed) (drop there s))) ≡ all
      → passed < n / 8 → here + n ≤ length s → there + n ≤ length s → x ≡ number_of (take 8 (drop (here + (n - 8 * passed - 8)) s))
      → y ≡ number_of (take 8 (drop (there + (n - 8 * passed - 8)) s)) → x ≡ y
      → turn_of (key (take (n - 8 * (passed + 1)) (drop here s))) (key (take (n - 8 * (passed + 1)) (drop there s))) ≡ all
  words_step i l h k e f o =
      let q : n - 8 * (passed + 1) ≡ n - 8 * passed - 8 = omega arith in
      rw q (step 8 s here there (n - 8 * passed) x y all (omega arith) (omega arith) (omega arith) e f i o)

  pub words-stop : (r : Ordering) → turn_of (key (take (n - 8 * passed) (drop here s))) (key (take (n - 8 * passed) (drop there s))) ≡ all
      → ((i : ℕ) → Fits w8 (get_or s i 0)) → passed < n / 8 → here + n ≤ length s → there + n ≤ length s
      → x ≡ number_of (take 8 (drop (here + (n - 8 * passed - 8)) s)) → y ≡ number_of (take 8 (drop (there + (n - 8 * passed - 8)) s))
      → (x ≡ y → ⊥) → r ≡ nat_cmp x y → r ≡ all
  words-stop r i b l h k e f o g = stop 8 s here there (n - 8 * passed) x y all (omega arith) (omega arith) (omega arith) e f i r b o g

no_bytes : key [] ≡ 1
unfolding key
no_bytes = refl

pub bytes-none : (s : List ℕ) (here there left : ℕ) (all : Ordering) → left ≤ 0
    → turn_of (key (take left (drop here s))) (key (take left (drop there s))) ≡ all → Equal ≡ all
bytes-none s here there left all h e =
    let z : left ≡ 0 = omega arith in
    turn-same 1 1 (omega arith) (omega arith) ∙ rw (z, no_bytes) at e

-- ── The name at a place ──

nameless : (s : List ℕ) (at : ℕ) → text_of (string (drop at s)) ≡ None → name_at s at ≡ []
unfolding name_at name_of
nameless s at e = rw (text_of-broken (string (drop at s)) e).1

pub long-broken : (s : List ℕ) (at : ℕ) (r : Option ℕ) → r ≡ text_of (string (drop at s)) → r ≡ None → 0 ≡ length (name_at s at)
long-broken s at r e f = rw (nameless s at (sym e ∙ f))

name-is : (s : List ℕ) (at n : ℕ) → text_of (string (drop at s)) ≡ Some n → name_at s at ≡ take n (drop (at + 1) s)
unfolding name_at name_of
name-is s at n e = rw (string-parts s at n e).2

pub long-whole : (s : List ℕ) (at n : ℕ) (r : Option ℕ) → r ≡ text_of (string (drop at s)) → r ≡ Some n → n ≡ length (name_at s at)
long-whole s at n r e f =
    sym (ap length (name-is s at n (sym e ∙ f)) ∙ part-long s (at + 1) n (string-parts s at n (sym e ∙ f)).0)

-- a name that has bytes is all there
name-parts : (s : List ℕ) (at n : ℕ) → n ≡ length (name_at s at) → (n ≡ 0 → ⊥)
    → (at + 1 + n ≤ length s) × (name_at s at ≡ take n (drop (at + 1) s))
name-parts s at n e f = go (text_of (string (drop at s))) refl
  where
    go : (r : Option ℕ) → text_of (string (drop at s)) ≡ r → (at + 1 + n ≤ length s) × (name_at s at ≡ take n (drop (at + 1) s))
    go None g = absurd (f (e ∙ sym (long-broken s at None (sym g) refl)))
    go (Some i) g =
        let q : n ≡ i = e ∙ sym (long-whole s at i (Some i) (sym g) refl) in
        (omega (arith, (string-parts s at i g).0), rw q (name-is s at i g))

empty : (xs : List ℕ) → length xs ≡ 0 → xs ≡ []
empty [] e = refl
empty (x ∷ xs) e = absurd (omega arith)

bytes-name : (s : List ℕ) (at : ℕ) → ((i : ℕ) → Fits w8 (get_or s i 0)) → are_bytes (name_at s at) ≡ true
bytes-name s at b = go (text_of (string (drop at s))) refl
  where
    go : (r : Option ℕ) → text_of (string (drop at s)) ≡ r → are_bytes (name_at s at) ≡ true
    go None g = rw (nameless s at g)
    go (Some i) g = rw (name-is s at i g) (bytes-part s (at + 1) i b)

module _ (s : List ℕ) (here there n m : ℕ) where
  pub name-before : ((i : ℕ) → Fits w8 (get_or s i 0)) → n ≡ length (name_at s here) → m ≡ length (name_at s there) → n < m
      → Less ≡ turn_of (key (name_at s here)) (key (name_at s there))
  name-before b e f h = turn-before (key (name_at s here)) (key (name_at s there))
      (key-longer (name_at s here) (name_at s there) (bytes-name s here b) (omega arith))

  pub name-after : ((i : ℕ) → Fits w8 (get_or s i 0)) → n ≡ length (name_at s here) → m ≡ length (name_at s there) → m < n
      → Greater ≡ turn_of (key (name_at s here)) (key (name_at s there))
  name-after b e f h = turn-after (key (name_at s here)) (key (name_at s there))
      (key-longer (name_at s there) (name_at s here) (bytes-name s there b) (omega arith))

  pub name-none : n ≡ length (name_at s here) → m ≡ length (name_at s there) → n ≤ m → m ≤ n → n ≡ 0
      → Equal ≡ turn_of (key (name_at s here)) (key (name_at s there))
  name-none e f h l z =
      let p : name_at s here ≡ [] = empty (name_at s here) (omega arith) in
      let q : name_at s there ≡ [] = empty (name_at s there) (omega arith) in
      rw (p, q) (turn-same (key []) (key []) (omega arith) (omega arith))

  pub name-same : (r : Ordering) → n ≡ length (name_at s here) → m ≡ length (name_at s there) → n ≤ m → m ≤ n → (n ≡ 0 → ⊥)
      → r ≡ turn_of (key (take n (drop (here + 1) s))) (key (take n (drop (there + 1) s))) → r ≡ turn_of (key (name_at s here)) (key (name_at s there))
  name-same r e f h l z g =
      let q : n ≡ m = omega arith in
      rw ((name-parts s here n e z).1, (name-parts s there n (q ∙ f) z).1) g

  pub name-here : n ≡ length (name_at s here) → (n ≡ 0 → ⊥) → here + 1 + n ≤ length s
  name-here e z = (name-parts s here n e z).0

  pub name-there : n ≡ length (name_at s here) → m ≡ length (name_at s there) → n ≤ m → m ≤ n → (n ≡ 0 → ⊥) → there + 1 + n ≤ length s
  name-there e f h l z = let q : n ≡ m = omega arith in (name-parts s there n (q ∙ f) z).0

  pub here-fits : length s < 2 ^ 64 → n ≡ length (name_at s here) → (n ≡ 0 → ⊥) → Fits w64 (here + 1)
  here-fits b e z = let l = name-here e z in record { fits = omega arith }

  pub there-fits : length s < 2 ^ 64 → n ≡ length (name_at s here) → m ≡ length (name_at s there) → n ≤ m → m ≤ n → (n ≡ 0 → ⊥)
      → Fits w64 (there + 1)
  there-fits b e f h l z = let o = name-there e f h l z in record { fits = omega arith }

-- ── The seat of a name ──

module _ (s ps : List ℕ) (n low high k : ℕ) (t : Ordering) (all : Option ℕ) where
  at-middle : low < high → high ≤ n → n ≤ length ps → t ≡ turn_of k (key (name_at s (get_or ps (middle low high) 0)))
      → turn_of k (get_or (keys s (take n ps)) (middle low high) 0) ≡ t
  at-middle h l m e = ap (turn_of k) (keys-at s ps n (middle low high) (omega arith) m) ∙ sym e

  pub go-lower : low < high → high ≤ n → n ≤ length ps → t ≡ turn_of k (key (name_at s (get_or ps (middle low high) 0))) → t ≡ Less
      → halves (high - low) (keys s (take n ps)) k low high ≡ all
      → halves (middle low high - low) (keys s (take n ps)) k low (middle low high) ≡ all
  go-lower h l m e f i = halves-lower (keys s (take n ps)) k low high all h (at-middle h l m e ∙ f) i

  pub go-met : low < high → high ≤ n → n ≤ length ps → t ≡ turn_of k (key (name_at s (get_or ps (middle low high) 0))) → t ≡ Equal
      → halves (high - low) (keys s (take n ps)) k low high ≡ all → None ≡ all
  go-met h l m e f i = halves-met (keys s (take n ps)) k low high all h (at-middle h l m e ∙ f) i

  pub go-upper : low < high → high ≤ n → n ≤ length ps → t ≡ turn_of k (key (name_at s (get_or ps (middle low high) 0))) → t ≡ Greater
      → halves (high - low) (keys s (take n ps)) k low high ≡ all
      → halves (high - (middle low high + 1)) (keys s (take n ps)) k (middle low high + 1) high ≡ all
  go-upper h l m e f i = halves-upper (keys s (take n ps)) k low high all h (at-middle h l m e ∙ f) i

pub ruleset laws = (
  rules,
  eight-read,
  bytes-step,
  bytes-stop,
  bytes-none,
  words_step,
  words-stop,
  long-broken,
  long-whole,
  name-before,
  name-after,
  name-none,
  name-same,
  name-here,
  name-there,
  here-fits,
  there-fits,
  halves-done,
  go-lower,
  go-met,
  go-upper,
  seek-more,
  seek-start,
  insert-full,
  insert-nowhere,
  insert-start,
  insert-done,
)
