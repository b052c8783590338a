-- The converted sheet is stored change by change.
-- Assumes nothing.
use Rattle.std.specs.Prelude.{Option, Some, None}
use Prim.Native.Nat.{ℕ, ◌+◌, ◌-◌, ◌<◌, ◌≤◌, ◌^◌}
use native.Mathlib.Omega.{arith}
use mathlib.Core.Path.{◌≡◌, refl, ap, sym, ◌∙◌}
use mathlib.Core.List.{List, [], ◌∷◌, ◌++◌, append_assoc}
use lib.ListN.{length, take, drop, get_or, length-append}
use lib.Seq.{sets, length-sets}
use borrow.Author.Rules.{rules}
use borrow.Author.Tests.{ne_eqb}
use mir.Syntax.{w8, w64}
use mir.Val.{Fits}
use Rattle.number.specs.Number.{write_at}
use Rattle.number.proofs.Bytes.{part-long}
use Rattle.layout.specs.Saving.{entry_part_bytes}
use Rattle.layout.proofs.Exact.{one_byte}
use Rattle.layout.proofs.Outputs.{write-is}
use Rattle.parts.specs.Parts.{copied}
use Rattle.parts.proofs.Laws.{copied-there}
use Rattle.rows.specs.Rows.{row_name, row_of}
use Rattle.rows.specs.declared.Row.TheVariants as row
use Rattle.rows.specs.declared.RowPlace.{RowPlace}
use Rattle.sheet.specs.Rows.{tag_entry}
use Rattle.sheet.specs.Values.{held_value}
use Rattle.sheet.specs.declared.Value.{Value}
use Rattle.apply.specs.Applied.{Written}
use Rattle.apply.proofs.Stores.{sets-append, Storing, storing-end, storing-more}
use Rattle.converting.specs.Filling.{row_filled, filled_from, sheet_filled}
use Rattle.converting.proofs.Sizes.{entry-none, entry_value, value_there, seen_none, seen_value, row-kinds, row_ends, size-filled, size_same, filled-done, filled-stop, filled-step}

-- bytes stored behind bytes that were stored
pub written-more : (r to next n : ℕ) (o o₁ o₂ x y : List ℕ) → Written next o o₁ to x → o₂ ≡ sets o₁ next y → n ≡ length y → r ≡ next + n
    → Written r o o₂ to (x ++ y)
written-more r to next n o o₁ o₂ x y w h k e =
    let a = w.end in
    let b = length-append x y in
    record { end = omega arith; stored = h ∙ rw (w.stored, a) (sets-append o to x y) }

-- bytes stored at once
pub written_one : (r to n : ℕ) (o o₁ x : List ℕ) → o₁ ≡ sets o to x → n ≡ length x → r ≡ to + n → Written r o o₁ to x
written_one r to n o o₁ x h k e = record { end = omega arith; stored = h }

written-long : (r to : ℕ) (o o₁ x : List ℕ) → Written r o o₁ to x → length o₁ ≡ length o
written-long r to o o₁ x w = ap length w.stored ∙ length-sets o to x

-- a byte
byte-stored : (o o₁ : List ℕ) (to b : ℕ) → b < 256 → to + 1 ≤ length o → o₁ ≡ write_at o to 1 b → o₁ ≡ sets o to (b ∷ [])
byte-stored o o₁ to b h k e = e ∙ write-is o to 1 b k ∙ ap (sets o to) (one_byte b h)

-- ── What a tag holds ──

module _ (t : List ℕ) (tag : ℕ) (v : Option Value) (o : List ℕ) (to : ℕ) (e : v ≡ held_value t tag)
    (h : to + length (entry_part_bytes (tag_entry t tag)) ≤ length o) where
  pub none_written : (o₁ : List ℕ) → v ≡ None → o₁ ≡ write_at o to 1 0 → Written (to + 1) o o₁ to (entry_part_bytes (tag_entry t tag))
  none_written o₁ f g =
      let a = seen_none t tag v e f in
      rw (entry-none t tag v e f) (written_one (to + 1) to 1 o o₁ (0 ∷ []) (byte-stored o o₁ to 0 (omega arith) (omega arith) g) refl refl)

  pub none-fits : v ≡ None → length o < 2 ^ 64 → Fits w64 (to + 1)
  none-fits f l = let a = seen_none t tag v e f in record { fits = omega arith }

  module _ (x : Value) (f : v ≡ Some x) (b : (i : ℕ) → Fits w8 (get_or t i 0)) where
    pub value_written : (o₁ o₂ : List ℕ) → o₁ ≡ write_at o to 1 1 → o₂ ≡ copied t x.place o₁ (to + 1) (1 + x.length)
        → Written (to + 1 + (1 + x.length)) o o₂ to (entry_part_bytes (tag_entry t tag))
    value_written o₁ o₂ g k =
        let a = seen_value t tag v e x f b in
        let c = byte-stored o o₁ to 1 (omega arith) (omega arith) g in
        let d : length o₁ ≡ length o = ap length c ∙ length-sets o to (1 ∷ []) in
        rw (entry_value t tag v e x f b)
        (written-more (to + 1 + (1 + x.length)) to (to + 1) (1 + x.length) o o₁ o₂ (1 ∷ []) (take (1 + x.length) (drop x.place t))
        (written_one (to + 1) to 1 o o₁ (1 ∷ []) c refl refl)
        (k ∙ copied-there t o₁ x.place (to + 1) (1 + x.length) (value_there t tag v e x f) (omega arith))
        (sym (part-long t x.place (1 + x.length) (value_there t tag v e x f))) refl)

    pub value-fits : length o < 2 ^ 64 → Fits w64 (to + 1)
    value-fits l = let a = seen_value t tag v e x f b in record { fits = omega arith }

    pub value-size-fits : length o < 2 ^ 64 → Fits w64 (1 + x.length)
    value-size-fits l = let a = seen_value t tag v e x f b in record { fits = omega arith }

    pub value-end-fits : length o < 2 ^ 64 → Fits w64 (to + 1 + (1 + x.length))
    value-end-fits l = let a = seen_value t tag v e x f b in record { fits = omega arith }

-- ── A change ──

module _ (t s : List ℕ) (at len end tag : ℕ) (o : List ℕ) (to : ℕ) (k : at + 1 + len + 1 ≤ end) (h : end ≤ length s)
    (l : to + length (row_filled t s at len end tag) ≤ length o) where
  module _ (e : get_or s (at + 1 + len) 0 ≡ 2 → ⊥) where
    pub row_same : (o₁ : List ℕ) → o₁ ≡ copied s at o to (end - at) → Written (to + (end - at)) o o₁ to (row_filled t s at len end tag)
    unfolding row_filled
    row_same o₁ f =
        let a = size_same t s at len end tag k h e in
        rw (ne_eqb (get_or s (at + 1 + len) 0) 2 e)
        (written_one (to + (end - at)) to (end - at) o o₁ (take (end - at) (drop at s))
        (f ∙ copied-there s o at to (end - at) (omega arith) (omega arith)) (sym (part-long s at (end - at) (omega arith))) refl)

    pub same-fits : length o < 2 ^ 64 → Fits w64 (to + (end - at))
    same-fits z = let a = size_same t s at len end tag k h e in record { fits = omega arith }

  module _ (e : get_or s (at + 1 + len) 0 ≡ 2) where
    size : end - at - 1 + length (entry_part_bytes (tag_entry t tag)) ≡ length (row_filled t s at len end tag)
    size = size-filled t s at len end tag k h (length (entry_part_bytes (tag_entry t tag))) (end - at - 1) e refl refl

    pub head-fits : length o < 2 ^ 64 → Fits w64 (to + (1 + len))
    head-fits z = let a = size in record { fits = omega arith }

    module _ (o₁ : List ℕ) (f : o₁ ≡ copied s at o to (1 + len)) where
      head : Written (to + (1 + len)) o o₁ to (take (1 + len) (drop at s))
      head = let a = size in written_one (to + (1 + len)) to (1 + len) o o₁ (take (1 + len) (drop at s))
          (f ∙ copied-there s o at to (1 + len) (omega arith) (omega arith)) (sym (part-long s at (1 + len) (omega arith))) refl

      pub head-room : to + (1 + len) + length (entry_part_bytes (tag_entry t tag)) ≤ length o₁
      head-room = let a = size in let b = written-long (to + (1 + len)) to o o₁ (take (1 + len) (drop at s)) head in omega arith

      module _ (next : ℕ) (o₂ : List ℕ) (w : Written next o₁ o₂ (to + (1 + len)) (entry_part_bytes (tag_entry t tag))) where
        both : Written next o o₂ to (take (1 + len) (drop at s) ++ entry_part_bytes (tag_entry t tag))
        both = written-more next to (to + (1 + len)) (length (entry_part_bytes (tag_entry t tag))) o o₁ o₂ (take (1 + len) (drop at s)) (entry_part_bytes (tag_entry t tag))
            head w.stored refl w.end

        pub row_written : (o₃ : List ℕ) → o₃ ≡ copied s (at + 1 + len + 1) o₂ next (end - (at + 1 + len + 1))
            → Written (next + (end - (at + 1 + len + 1))) o o₃ to (row_filled t s at len end tag)
        unfolding row_filled
        row_written o₃ g =
            let a = size in
            let b = written-long next to o o₂ (take (1 + len) (drop at s) ++ entry_part_bytes (tag_entry t tag)) both in
            let c = w.end in
            rw (e, ← append_assoc (take (1 + len) (drop at s)) (entry_part_bytes (tag_entry t tag)) (take (end - (at + 1 + len + 1)) (drop (at + 1 + len + 1) s)))
            (written-more (next + (end - (at + 1 + len + 1))) to next (end - (at + 1 + len + 1)) o o₂ o₃ _ (take (end - (at + 1 + len + 1)) (drop (at + 1 + len + 1) s)) both
            (g ∙ copied-there s o₂ (at + 1 + len + 1) next (end - (at + 1 + len + 1)) (omega arith) (omega arith))
            (sym (part-long s (at + 1 + len + 1) (end - (at + 1 + len + 1)) (omega arith))) refl)

        pub row_fits : length o < 2 ^ 64 → Fits w64 (next + (end - (at + 1 + len + 1)))
        row_fits z = let a = size in let c = w.end in record { fits = omega arith }

-- ── All changes ──

pub rows_start : (t s ps o : List ℕ) (start : ℕ) → start + length (filled_from t s 1 ps) ≤ length o
    → Storing start (filled_from t s 1 (drop 0 ps)) o o start (filled_from t s 1 ps)
rows_start t s ps o start h = record { room = h; place = refl; long = refl; stored = refl }

module _ (t s ps : List ℕ) (at i to : ℕ) (out before : List ℕ) (start : ℕ) (bytes : List ℕ)
    (g : Storing to (filled_from t s at (drop i ps)) out before start bytes) where
  pub rows-done : length ps ≤ i → Written to before out start bytes
  rows-done h = storing-end to _ out before start bytes (filled-done t s ps at i h) g

  module _ (r : Option RowPlace) (e : r ≡ row_of at (row_name row.Change (drop at s))) where
    pub rows-stop : r ≡ None → Written to before out start bytes
    rows-stop f = storing-end to _ out before start bytes (filled-stop t s ps at i r e f) g

    module _ (p : RowPlace) (f : r ≡ Some p) (h : i < length ps) where
      pub rows-room : (at + 1 + p.name + 1 ≤ p.end) × (p.end ≤ length s) × (to + length (row_filled t s at p.name p.end (get_or ps i 0)) ≤ length out)
      rows-room =
          let a = ap length (filled-step t s ps at i p r e f h) in
          let b = length-append (row_filled t s at p.name p.end (get_or ps i 0)) (filled_from t s p.end (drop (i + 1) ps)) in
          let c = g.place in
          let d = g.room in
          let m = g.long in
          (row-kinds s at p r e f, row_ends s at p r e f, omega arith)

      pub rows_step : (z : ℕ) (out₁ : List ℕ) → Written z out out₁ to (row_filled t s at p.name p.end (get_or ps i 0))
          → Storing z (filled_from t s p.end (drop (i + 1) ps)) out₁ before start bytes
      rows_step z out₁ w = rw w.end (storing-more to (length (row_filled t s at p.name p.end (get_or ps i 0))) (row_filled t s at p.name p.end (get_or ps i 0))
          (filled_from t s p.end (drop (i + 1) ps)) _ out out₁ before start bytes (filled-step t s ps at i p r e f h) refl w.stored g)

-- ── The sheet ──

module _ (t s ps o o₁ : List ℕ) (h : 1 ≤ length s) (l : length (sheet_filled t s ps) ≤ length o) (e : o₁ ≡ copied s 0 o 0 1) where
  count : (Written 1 o o₁ 0 (take 1 s)) × (1 + length (filled_from t s 1 ps) ≡ length (sheet_filled t s ps))
  unfolding sheet_filled
  count =
      let a = part-long s 0 1 h in
      let b = length-append (take 1 s) (filled_from t s 1 ps) in
      (written_one 1 0 1 o o₁ (take 1 s) (e ∙ copied-there s o 0 0 1 h (omega arith)) (sym a) refl, omega arith)

  pub count_room : 1 + length (filled_from t s 1 ps) ≤ length o₁
  count_room = let a = count.1 in let b = written-long 1 0 o o₁ (take 1 s) count.0 in omega arith

  pub sheet-written : (z : ℕ) (o₂ : List ℕ) → Written z o₁ o₂ 1 (filled_from t s 1 ps) → Written z o o₂ 0 (sheet_filled t s ps)
  unfolding sheet_filled
  sheet-written z o₂ w = written-more z 0 1 (length (filled_from t s 1 ps)) o o₁ o₂ (take 1 s) (filled_from t s 1 ps) count.0 w.stored refl w.end

pub ruleset laws = (
  rules,
  none_written,
  none-fits,
  value_written,
  value-fits,
  value-size-fits,
  value-end-fits,
  row_same,
  same-fits,
  head-fits,
  head-room,
  row_written,
  row_fits,
  rows_start,
  rows-done,
  rows-stop,
  count_room,
  sheet-written,
)
