-- Changes that differ in what was seen alone, and sheets filled in from a table: they do to that table what they did, and are sheets of today.
-- Assumes nothing.
use Prim.Native.Nat.{ℕ, suc, ◌+◌, ◌*◌, ◌≤◌}
use native.Mathlib.Omega.{arith}
use mathlib.Core.Path.{◌≡◌, refl, ap}
use mathlib.Core.Bool.{Bool, true, false, not, cond}
use mathlib.Core.List.{List, [], ◌∷◌, ◌++◌, map, flat_map}
use lib.ListN.{length, length-append, length-map}
use lib.Dec.{leb}
use borrow.Author.Tests.{leb-true}
use Rattle.number.proofs.Bytes.{both_true, and-true}
use Rattle.layout.specs.Recording.{Tag, short_string, every, same, among, distinct, legal_tag_name, legal_tag_value, legal_tag, tag_names}
use Rattle.layout.specs.Saving.{Entry, absent, holds, ChangeOf, Change, most_changes, change_names, entry_part_bytes, change_bytes, sheet_bytes_with, sheet_bytes, look_up, same_entry, conflicts, some, lowest, new_entry, tag_with, kept_tags, new_tags, applied}
use Rattle.layout.specs.OldSheets.{OldSeen, saw, nobody_looked, OldChange, old_agrees, old_conflicts, filled_seen, filled_in}
use Rattle.layout.proofs.Exact.{all_three, three-true, name-short, value-short}
use Rattle.layout.proofs.Applied.{legal_entry, entry-same}
use Rattle.layout.proofs.SheetBytes.{legal_row, legal_sheet_with, legal_sheet}
use Rattle.layout.proofs.OldSheetBytes.{old_seen_bytes, legal_old_seen, legal_old_sheet, old_sheet_bytes}

-- ── Changes that differ in what was seen alone ──

-- a change with something else seen, by its name and what was seen
unfoldable pub seeing : {S T : Type 0} → (List ℕ → S → T) → ChangeOf S → ChangeOf T
seeing f c = record { name = c.name; seen = f c.name c.seen; new = c.new }

pub seeing-names : {S T : Type 0} (f : List ℕ → S → T) (cs : List (ChangeOf S)) → change_names (map (seeing f) cs) ≡ change_names cs
unfolding change_names seeing
seeing-names f [] = refl
seeing-names f (c ∷ cs) = ap (λ (l : List (List ℕ)). c.name ∷ l) (seeing-names f cs)

seeing-new : {S T : Type 0} (f : List ℕ → S → T) (cs : List (ChangeOf S)) (t : Tag) → new_entry (map (seeing f) cs) t ≡ new_entry cs t
unfolding new_entry seeing
seeing-new f [] t = refl
seeing-new f (c ∷ cs) t = ap (λ (e : Entry). cond (same c.name t.name) c.new e) (seeing-new f cs t)

seeing-kept : {S T : Type 0} (f : List ℕ → S → T) (cs : List (ChangeOf S)) (ts : List Tag) → kept_tags (map (seeing f) cs) ts ≡ kept_tags cs ts
unfolding kept_tags
seeing-kept f cs [] = refl
seeing-kept f cs (t ∷ ts) = rw (seeing-new f cs t, seeing-kept f cs ts)

seeing-brings : {S T : Type 0} (f : List ℕ → S → T) (ts : List Tag) (cs : List (ChangeOf S)) → new_tags ts (map (seeing f) cs) ≡ new_tags ts cs
unfolding new_tags seeing
seeing-brings f ts [] = refl
seeing-brings f ts (c ∷ cs) = ap (λ (l : List Tag). cond (among c.name (tag_names ts)) [] (tag_with c.name c.new) ++ l) (seeing-brings f ts cs)

-- What was seen has no part in what a table becomes.
pub seeing-applied : {S T : Type 0} (f : List ℕ → S → T) (cs : List (ChangeOf S)) (ts : List Tag) → applied (map (seeing f) cs) ts ≡ applied cs ts
unfolding applied
seeing-applied f cs ts = rw (seeing-kept f cs ts, seeing-brings f ts cs)

seeing-rows : {S T : Type 0} (legal : S → Bool) (legal' : T → Bool) (f : List ℕ → S → T) → ((n : List ℕ) (s : S) → legal s ≡ true → legal' (f n s) ≡ true) → (cs : List (ChangeOf S))
    → every (legal_row legal) cs ≡ true → every (legal_row legal') (map (seeing f) cs) ≡ true
unfolding every legal_row seeing
seeing-rows legal legal' f p [] h = refl
seeing-rows legal legal' f p (c ∷ cs) h =
    let b = both_true (legal_row legal c) (every (legal_row legal) cs) h in
    let l = all_three (legal_tag_name c.name) (legal c.seen) (legal_entry c.new) b.0 in
    and-true _ _ (three-true (legal_tag_name c.name) (legal' (f c.name c.seen)) (legal_entry c.new) l.0 (p c.name c.seen l.1) l.2) (seeing-rows legal legal' f p cs b.1)

-- A sheet stays legal where what was seen does.
pub seeing-legal : {S T : Type 0} (legal : S → Bool) (legal' : T → Bool) (f : List ℕ → S → T) → ((n : List ℕ) (s : S) → legal s ≡ true → legal' (f n s) ≡ true) → (cs : List (ChangeOf S))
    → legal_sheet_with legal cs ≡ true → legal_sheet_with legal' (map (seeing f) cs) ≡ true
unfolding legal_sheet_with
seeing-legal legal legal' f p cs h =
    let b = all_three (leb (length cs) most_changes) (every (legal_row legal) cs) (distinct (change_names cs)) h in
    rw (length-map cs (seeing f), seeing-names f cs) (three-true (leb (length cs) most_changes) _ (distinct (change_names cs)) b.0 (seeing-rows legal legal' f p cs b.1) b.2)

seeing-parts : {S T : Type 0} (bytes : S → List ℕ) (bytes' : T → List ℕ) (f : List ℕ → S → T) → ((n : List ℕ) (s : S) → bytes' (f n s) ≡ bytes s) → (cs : List (ChangeOf S))
    → flat_map (change_bytes bytes') (map (seeing f) cs) ≡ flat_map (change_bytes bytes) cs
unfolding change_bytes seeing flat_map
seeing-parts bytes bytes' f p [] = refl
seeing-parts bytes bytes' f p (c ∷ cs) = rw (p c.name c.seen, seeing-parts bytes bytes' f p cs)

-- A sheet has the same bytes where what was seen has.
pub seeing-bytes : {S T : Type 0} (bytes : S → List ℕ) (bytes' : T → List ℕ) (f : List ℕ → S → T) → ((n : List ℕ) (s : S) → bytes' (f n s) ≡ bytes s) → (cs : List (ChangeOf S))
    → sheet_bytes_with bytes' (map (seeing f) cs) ≡ sheet_bytes_with bytes cs
unfolding sheet_bytes_with
seeing-bytes bytes bytes' f p cs = rw (length-map cs (seeing f), seeing-parts bytes bytes' f p cs)

pub filled-seeing : (ts : List Tag) (cs : List OldChange) → map (filled_in ts) cs ≡ map (seeing (filled_seen ts)) cs
unfolding filled_in seeing
filled-seeing ts cs = refl

-- ── What a filled-in sheet does to the table that it was filled in from ──

filled-agrees : (ts : List Tag) (name : List ℕ) (s : OldSeen) → same_entry (filled_seen ts name s) (look_up name ts) ≡ old_agrees s (look_up name ts)
unfolding old_agrees filled_seen
filled-agrees ts name (saw e) = refl
filled-agrees ts name nobody_looked = entry-same (look_up name ts)

-- A change conflicts as it did:
pub filled-conflicts : (ts : List Tag) (c : OldChange) → conflicts ts (filled_in ts c) ≡ old_conflicts ts c
unfolding conflicts old_conflicts filled_in
filled-conflicts ts c = ap not (filled-agrees ts c.name c.seen)

-- some one of a list,
pub filled-some : (ts : List Tag) (cs : List OldChange) → some (conflicts ts) (map (filled_in ts) cs) ≡ some (old_conflicts ts) cs
unfolding some
filled-some ts [] = refl
filled-some ts (c ∷ cs) = rw (filled-conflicts ts c, filled-some ts cs)

-- and the lowest of them;
pub filled-lowest : (ts : List Tag) (cs : List OldChange) → lowest (conflicts ts) (map (filled_in ts) cs) ≡ lowest (old_conflicts ts) cs
unfolding lowest
filled-lowest ts [] = refl
filled-lowest ts (c ∷ cs) = rw (filled-conflicts ts c, filled-lowest ts cs)

-- and the table becomes what it became.
pub filled-applied : (us : List Tag) (cs : List OldChange) (ts : List Tag) → applied (map (filled_in us) cs) ts ≡ applied cs ts
filled-applied us cs ts = rw (filled-seeing us cs) (seeing-applied (filled_seen us) cs ts)

-- ── A filled-in sheet is a sheet of today ──

look_up-legal : (n : List ℕ) (ts : List Tag) → every legal_tag ts ≡ true → legal_entry (look_up n ts) ≡ true
unfolding look_up every legal_tag legal_entry
look_up-legal n [] h = refl
look_up-legal n (t ∷ ts) h = go (same n t.name) (look_up-legal n ts b.1)
  where
    b : (legal_tag t ≡ true) × (every legal_tag ts ≡ true)
    b = both_true (legal_tag t) (every legal_tag ts) h

    go : (s : Bool) → legal_entry (look_up n ts) ≡ true → legal_entry (cond s (holds t.value) (look_up n ts)) ≡ true
    go true i = (both_true (legal_tag_name t.name) (legal_tag_value t.value) b.0).1
    go false i = i

filled-seen : (ts : List Tag) → every legal_tag ts ≡ true → (name : List ℕ) (s : OldSeen) → legal_old_seen s ≡ true → legal_entry (filled_seen ts name s) ≡ true
unfolding legal_old_seen filled_seen
filled-seen ts h name (saw e) l = l
filled-seen ts h name nobody_looked l = look_up-legal name ts h

pub filled-legal : (ts : List Tag) (cs : List OldChange) → every legal_tag ts ≡ true → legal_old_sheet cs ≡ true → legal_sheet (map (filled_in ts) cs) ≡ true
filled-legal ts cs h l = rw (filled-seeing ts cs) (seeing-legal legal_old_seen legal_entry (filled_seen ts) (filled-seen ts h) cs l)

-- ── Its length ──

entry-most : (e : Entry) → legal_entry e ≡ true → length (entry_part_bytes e) ≤ 257
unfolding entry_part_bytes legal_entry short_string
entry-most absent h = omega arith
entry-most (holds v) h = omega (arith, leb-true (length v) 255 (value-short v h))

change-length : {S : Type 0} (bytes : S → List ℕ) (c : ChangeOf S)
    → length (change_bytes bytes c) ≡ suc (length c.name + length (bytes c.seen) + length (entry_part_bytes c.new))
unfolding change_bytes short_string
change-length bytes c =
    let a = length-append (c.name ++ bytes c.seen) (entry_part_bytes c.new) in
    let b = length-append c.name (bytes c.seen) in
    omega (arith, a, b)

old-seen-most : (s : OldSeen) → legal_old_seen s ≡ true → length (old_seen_bytes s) ≤ 257
unfolding old_seen_bytes legal_old_seen
old-seen-most (saw e) h = entry-most e h
old-seen-most nobody_looked h = omega arith

module _ {S : Type 0} (legal : S → Bool) (bytes : S → List ℕ) (few : (s : S) → legal s ≡ true → length (bytes s) ≤ 257) where
  row-most : (c : ChangeOf S) → legal_row legal c ≡ true → length (change_bytes bytes c) ≤ 770
  unfolding legal_row
  row-most c h =
      let l = all_three (legal_tag_name c.name) (legal c.seen) (legal_entry c.new) h in
      omega (arith, change-length bytes c, leb-true (length c.name) 255 (name-short c.name l.0), few c.seen l.1, entry-most c.new l.2)

  rows-most : (cs : List (ChangeOf S)) → every (legal_row legal) cs ≡ true → length (flat_map (change_bytes bytes) cs) ≤ 770 * length cs
  unfolding every flat_map
  rows-most [] h = omega arith
  rows-most (c ∷ cs) h =
      let b = both_true (legal_row legal c) (every (legal_row legal) cs) h in
      omega (arith, length-append (change_bytes bytes c) (flat_map (change_bytes bytes) cs), row-most c b.0, rows-most cs b.1)

  most-with : (cs : List (ChangeOf S)) → legal_sheet_with legal cs ≡ true → length (sheet_bytes_with bytes cs) ≤ 49281
  unfolding legal_sheet_with sheet_bytes_with
  most-with cs h =
      let b = all_three (leb (length cs) most_changes) (every (legal_row legal) cs) (distinct (change_names cs)) h in
      omega (arith, leb-true (length cs) most_changes b.0, rows-most cs b.1)

-- No sheet is longer than 49,281 bytes, and none was.
pub sheet-most : (cs : List Change) → legal_sheet cs ≡ true → length (sheet_bytes cs) ≤ 49281
unfolding sheet_bytes
sheet-most = most-with legal_entry entry_part_bytes entry-most

pub old-sheet-most : (cs : List OldChange) → legal_old_sheet cs ≡ true → length (old_sheet_bytes cs) ≤ 49281
old-sheet-most = most-with legal_old_seen old_seen_bytes old-seen-most

seen_more : (ts : List Tag) → every legal_tag ts ≡ true → (name : List ℕ) (s : OldSeen) → length (entry_part_bytes (filled_seen ts name s)) ≤ length (old_seen_bytes s) + 256
unfolding filled_seen old_seen_bytes
seen_more ts h name (saw e) = omega arith
seen_more ts h name nobody_looked = omega (arith, entry-most (look_up name ts) (look_up-legal name ts h))

row_more : (ts : List Tag) → every legal_tag ts ≡ true → (c : OldChange) → length (change_bytes entry_part_bytes (filled_in ts c)) ≤ length (change_bytes old_seen_bytes c) + 256
unfolding filled_in
row_more ts h c = omega (arith, change-length entry_part_bytes (filled_in ts c), change-length old_seen_bytes c, seen_more ts h c.name c.seen)

rows_more : (ts : List Tag) → every legal_tag ts ≡ true → (cs : List OldChange)
    → length (flat_map (change_bytes entry_part_bytes) (map (filled_in ts) cs)) ≤ length (flat_map (change_bytes old_seen_bytes) cs) + 256 * length cs
unfolding flat_map
rows_more ts h [] = omega arith
rows_more ts h (c ∷ cs) =
    let a = length-append (change_bytes entry_part_bytes (filled_in ts c)) (flat_map (change_bytes entry_part_bytes) (map (filled_in ts) cs)) in
    let b = length-append (change_bytes old_seen_bytes c) (flat_map (change_bytes old_seen_bytes) cs) in
    omega (arith, a, b, row_more ts h c, rows_more ts h cs)

-- Filled in, a sheet grows by 256 bytes a change at most.
pub filled_more : (ts : List Tag) (cs : List OldChange) → every legal_tag ts ≡ true
    → length (sheet_bytes (map (filled_in ts) cs)) ≤ length (old_sheet_bytes cs) + 256 * length cs
unfolding sheet_bytes sheet_bytes_with
filled_more ts cs h = omega (arith, rows_more ts h cs)
