-- The converted sheet by places is the one by names.
-- Assumes nothing.
use Prim.Native.Nat.{ℕ, zero, suc, ◌+◌, ◌-◌, ◌<◌}
use native.Mathlib.Omega.{arith}
use mathlib.Core.Path.{◌≡◌, refl, ap, sym, ◌∙◌}
use mathlib.Core.Bool.{true, false, cond}
use mathlib.Core.List.{List, [], ◌∷◌, ◌++◌, map, flat_map, append_assoc}
use lib.ListN.{length, take, drop, get_or, length-append, length-map, drop_of_length-le}
use lib.Seq.{drop-drop, get_or-drop, take_at, drop_at, get_or_at}
use lib.Dec.{eqb}
use lib.Pow.{are_bytes}
use Rattle.layout.specs.Recording.{Tag, short_string}
use Rattle.layout.specs.Reading.{Parsed, bad, good, times, exactly, is_bad, value_or}
use Rattle.layout.specs.Saving.{Entry, absent, holds, change_with, sheet_with, entry_part_bytes, change_bytes, sheet_bytes_with, sheet_bytes, look_up}
use Rattle.layout.specs.OldSheets.{OldSeen, saw, nobody_looked, OldChange, old_seen_part, old_sheet, old_changes_of, bad_old_sheet, filled_seen, filled_in}
use Rattle.layout.proofs.Lists.{bytes_drop}
use Rattle.layout.proofs.SheetBytes.{change-exact}
use Rattle.layout.proofs.OldSheetBytes.{old_seen_bytes, legal_old_seen, old-seen-exact, old-sheet-given}
use Rattle.rows.specs.Rows.{row_name, row_of}
use Rattle.rows.specs.declared.Row.TheVariants as row
use Rattle.parts.proofs.Times.{times-parts}
use Rattle.names.specs.Names.{names}
use Rattle.names.proofs.Readers.{change-row}
use Rattle.places.specs.Places.{tag_place, Lists}
use Rattle.places.proofs.Finding.{names_more}
use Rattle.sheet.specs.Rows.{tags_at, tag_entry}
use Rattle.saving.proofs.Requests.{changes-stand}
use Rattle.saving.proofs.ByPlaces.{entry-by-place, lists-next}
use Rattle.converting.specs.Filling.{row_filled, filled_from, sheet_filled, Old}
use Rattle.converting.proofs.Sizes.{filled-step}
use Rattle.converting.proofs.OldReads.{old-leads}

-- ── A change ──

-- the row at the start of some bytes, filled in
abbrev filled_here : List ℕ → (len size : ℕ) → List ℕ → List ℕ
filled_here t len size e =
    cond (eqb (get_or t (1 + len) 0) 2) (take (1 + len) t ++ (e ++ take (size - (1 + len + 1)) (drop (1 + len + 1) t))) (take size t)

-- where nobody looked
here-two : (p new rest e : List ℕ) (len : ℕ) → length p ≡ 1 + len
    → filled_here (p ++ (2 ∷ []) ++ new ++ rest) len (length (p ++ (2 ∷ []) ++ new)) e ≡ p ++ e ++ new
here-two p new rest e len h =
    let a : p ++ (2 ∷ []) ++ new ++ rest ≡ p ++ 2 ∷ (new ++ rest) = append_assoc (p ++ (2 ∷ [])) new rest ∙ append_assoc p (2 ∷ []) (new ++ rest) in
    let b : length (p ++ (2 ∷ [])) ≡ 1 + len + 1 = omega (arith, length-append p (2 ∷ [])) in
    let d : drop (1 + len + 1) (p ++ (2 ∷ []) ++ new ++ rest) ≡ new ++ rest =
    ap (drop (1 + len + 1)) (append_assoc (p ++ (2 ∷ [])) new rest) ∙ drop_at (p ++ (2 ∷ [])) (new ++ rest) (1 + len + 1) b in
    let n : length (p ++ (2 ∷ []) ++ new) - (1 + len + 1) ≡ length new = omega (arith, length-append (p ++ (2 ∷ [])) new) in
    let g : get_or (p ++ (2 ∷ []) ++ new ++ rest) (1 + len) 0 ≡ 2 = ap (λ (l : List ℕ). get_or l (1 + len) 0) a ∙ get_or_at p 2 (new ++ rest) 0 (1 + len) h in
    let t : take (1 + len) (p ++ (2 ∷ []) ++ new ++ rest) ≡ p = ap (take (1 + len)) a ∙ take_at p (2 ∷ (new ++ rest)) (1 + len) h in
    rw (g, t, d, n, take_at new rest (length new) refl) (sym (append_assoc p e new))

-- where somebody did
here-other : (p u new rest e : List ℕ) (k len : ℕ) → length p ≡ 1 + len → eqb k 2 ≡ false
    → filled_here (p ++ (k ∷ u) ++ new ++ rest) len (length (p ++ (k ∷ u) ++ new)) e ≡ p ++ (k ∷ u) ++ new
here-other p u new rest e k len h z =
    let a : p ++ (k ∷ u) ++ new ++ rest ≡ p ++ k ∷ (u ++ (new ++ rest)) = append_assoc (p ++ (k ∷ u)) new rest ∙ append_assoc p (k ∷ u) (new ++ rest) in
    let g : get_or (p ++ (k ∷ u) ++ new ++ rest) (1 + len) 0 ≡ k = ap (λ (l : List ℕ). get_or l (1 + len) 0) a ∙ get_or_at p k (u ++ (new ++ rest)) 0 (1 + len) h in
    rw (g, z) (take_at (p ++ (k ∷ u) ++ new) rest (length (p ++ (k ∷ u) ++ new)) refl)

head-long : (w : List ℕ) → length (short_string w) ≡ 1 + length w
unfolding short_string
head-long w = omega arith

here-filled : (ts : List Tag) (w new rest : List ℕ) (s : OldSeen)
    → filled_here (short_string w ++ old_seen_bytes s ++ new ++ rest) (length w) (length (short_string w ++ old_seen_bytes s ++ new)) (entry_part_bytes (look_up w ts))
    ≡ short_string w ++ entry_part_bytes (filled_seen ts w s) ++ new
unfolding old_seen_bytes filled_seen entry_part_bytes
here-filled ts w new rest (saw absent) = here-other (short_string w) [] new rest (entry_part_bytes (look_up w ts)) 0 (length w) (head-long w) refl
here-filled ts w new rest (saw (holds v)) = here-other (short_string w) (short_string v) new rest (entry_part_bytes (look_up w ts)) 1 (length w) (head-long w) refl
here-filled ts w new rest nobody_looked = here-two (short_string w) new rest (entry_part_bytes (look_up w ts)) (length w) (head-long w)

-- the same at a place
row_here : (table s : List ℕ) (at len size tag : ℕ) → row_filled table s at len (at + size) tag ≡ filled_here (drop at s) len size (entry_part_bytes (tag_entry table tag))
unfolding row_filled
row_here table s at len size tag =
    let a : at + (1 + len) ≡ at + 1 + len = omega arith in
    let b : at + (1 + len + 1) ≡ at + 1 + len + 1 = omega arith in
    let c : at + size - (at + 1 + len + 1) ≡ size - (1 + len + 1) = omega arith in
    let d : at + size - at ≡ size = omega arith in
    rw (get_or-drop at s (1 + len) 0, drop-drop (1 + len + 1) at s, a, b, c, d)

-- a change that was read, filled in from its tag
row-filled : (ts : List Tag) (table s : List ℕ) (at tag : ℕ) (x : OldChange) (size : ℕ) → are_bytes s ≡ true → change_with old_seen_part (drop at s) ≡ good x size
    → tag_entry table tag ≡ look_up x.name ts → row_filled table s at (length x.name) (at + size) tag ≡ change_bytes entry_part_bytes (filled_in ts x)
unfolding change_bytes filled_in
row-filled ts table s at tag x size b e f =
    let (l, n, d) = (change-exact legal_old_seen old_seen_bytes old_seen_part old-seen-exact).gives (drop at s) x size (bytes_drop at s b) e in
    row_here table s at (length x.name) size tag
    ∙ ap (λ (y : Entry). filled_here (drop at s) (length x.name) size (entry_part_bytes y)) f
    ∙ ap (λ (t : List ℕ). filled_here t (length x.name) size (entry_part_bytes (look_up x.name ts))) d
    ∙ ap (λ (k : ℕ). filled_here (short_string x.name ++ old_seen_bytes x.seen ++ entry_part_bytes x.new ++ drop size (drop at s)) (length x.name) k (entry_part_bytes (look_up x.name ts))) n
    ∙ here-filled ts x.name (entry_part_bytes x.new) (drop size (drop at s)) x.seen

-- ── All changes ──

-- what was a sheet is read
old-good : (s : List ℕ) → bad_old_sheet s ≡ false → (m : ℕ) × (exactly old_sheet s ≡ good (old_changes_of s) m)
unfolding old_changes_of value_or
old-good s h = go (exactly old_sheet s) h
  where
    go : (r : Parsed (List OldChange)) → is_bad r ≡ false → (m : ℕ) × (r ≡ good (value_or [] r) m)
    go (bad j) h = let z : ◌≡◌ {A = ℕ} 0 1 = cc in absurd (omega arith)
    go (good cs m) h = (m, refl)

old-exact : (s : List ℕ) (m : ℕ) → exactly old_sheet s ≡ good (old_changes_of s) m → exactly (sheet_with old_seen_part) s ≡ good (old_changes_of s) m
unfolding old_sheet
old-exact s m e = e

module _ (table : List ℕ) (at n : ℕ) (z : 0 < at) (s ps : List ℕ) (b : are_bytes s ≡ true) where
  rows-filled : (k i p : ℕ) (cs : List OldChange) (m : ℕ) → i + k ≡ length ps → Lists (tag_place table at n) ps i (names k (row_name row.Change) (drop p s))
      → times k (change_with old_seen_part) (drop p s) ≡ good cs m
      → filled_from table s p (drop i ps) ≡ flat_map (change_bytes entry_part_bytes) (map (filled_in (tags_at table at n)) cs)
  unfolding filled_from flat_map times row_of
  rows-filled zero i p cs m l w e =
      let c : [] ≡ cs = cc in
      let d : drop i ps ≡ [] = drop_of_length-le ps {i = i} (omega arith) in
      rw (← c, d)
  rows-filled (suc k) i p cs m l w e =
      times-parts (change_with old_seen_part) k (drop p s) cs m e (λ x a xs j f g h o.
      let q : row_name row.Change (drop p s) ≡ good x.name a = change-row old_seen_part old-leads (drop p s) x a f in
      let v : Lists (tag_place table at n) ps i (x.name ∷ names k (row_name row.Change) (drop a (drop p s))) = rw (names_more k (row_name row.Change) (drop p s) x.name a q) at w in
      let y : i + 0 ≡ i = omega arith in
      let tag : get_or ps i 0 ≡ tag_place table at n x.name = rw y at (v.known 0 (omega arith)) in
      let here : tag_entry table (get_or ps i 0) ≡ look_up x.name (tags_at table at n) = ap (tag_entry table) tag ∙ entry-by-place x.name table at n z in
      let u : drop a (drop p s) ≡ drop (p + a) s = drop-drop a p s in
      let next = rw u at (lists-next (tag_place table at n) ps i x.name (names k (row_name row.Change) (drop a (drop p s))) v) in
      filled-step table s ps p i (record { name = length x.name; end = p + a }) (row_of p (row_name row.Change (drop p s))) refl (rw q) (omega arith)
      ∙ rw (row-filled (tags_at table at n) table s p (get_or ps i 0) x a b f here, rows-filled k (i + 1) (p + a) xs j (omega arith) next (rw u at g), h))

  -- What was a sheet, filled in from the tags at the places of its changes, is the sheet filled in from the table.
  pub sheet-filled : Old s (length ps) → Lists (tag_place table at n) ps 0 (names (length ps) (row_name row.Change) (drop 1 s))
      → sheet_filled table s ps ≡ sheet_bytes (map (filled_in (tags_at table at n)) (old_changes_of s))
  unfolding sheet_filled sheet_bytes sheet_bytes_with
  sheet-filled o l =
      let (m, e) = old-good s o.whole in
      let (few, differ, k, g) = changes-stand old_seen_part old-leads s (old_changes_of s) m (old-exact s m e) in
      let c = o.count in
      let t : take 1 s ≡ length (old_changes_of s) ∷ [] = ap (take 1) (sym (old-sheet-given s b o.whole).1) in
      rw (t, length-map (old_changes_of s) (filled_in (tags_at table at n)))
      (ap (λ (l : List ℕ). length (old_changes_of s) ∷ l) (rows-filled (length ps) 0 1 (old_changes_of s) k (omega arith) l (rw c at g)))
