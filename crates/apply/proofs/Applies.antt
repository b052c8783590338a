-- The new table is the tags that are kept and those that are new, and it fills the output from its start.
-- Assumes nothing.
use Rattle.std.specs.Prelude.{Ok, Err}
use Prim.Native.Nat.{ℕ, ◌+◌, ◌<◌, ◌≤◌}
use native.Mathlib.Omega.{arith}
use mathlib.Core.Path.{◌≡◌, ap, sym, ◌∙◌}
use mathlib.Core.List.{List, ◌++◌, flat_map}
use lib.ListN.{length, take, drop, length-append}
use lib.Seq.{length-take-le, sets, length-sets, sets-eq}
use borrow.Author.Rules.{rules}
use borrow.Author.Tests.{lt-ltb, le-ltb}
use Rattle.number.specs.Number.{bytes_of, write_at}
use Rattle.number.proofs.Bytes.{length-bytes_of}
use Rattle.layout.specs.Recording.{Tag, most_tags, tag_bytes, table_bytes}
use Rattle.layout.specs.Recorder.{filled}
use Rattle.layout.proofs.Lists.{flat_map-append}
use Rattle.parts.proofs.Laws.{there}
use Rattle.apply.specs.declared.Walk.{Walk}
use Rattle.pieces.specs.Added.{added_by}
use Rattle.pieces.specs.declared.Side.TheVariants as side
use Rattle.refusal.specs.declared.Refusal.TheVariants.{NoRoom, TableFull}
use Rattle.apply.specs.Applied.{applying, applied_to, kept_from, tags_by, size_of, Written, Room}
use Rattle.apply.specs.declared.Size.{Size}
use Rattle.apply.proofs.Stores.{sets-append}

-- the new table by what is kept and what is new
module _ (kept new : List Tag) where
  -- ── It is stored ──

  -- the number of tags, which stands first
  counted : (t : ℕ) (out o : List ℕ) → 4 ≤ length out → o ≡ write_at out 0 4 t → o ≡ sets out 0 (bytes_of 4 t)
  unfolding write_at
  counted t out o h e = e ∙ rw (there out 0 4 (omega arith))

  pub table-kept-room : (t : ℕ) (out o : List ℕ) → Room kept new out → o ≡ write_at out 0 4 t → 4 + length (flat_map tag_bytes kept) ≤ length o
  table-kept-room t out o w f =
      let h = w.room in
      let b : length o ≡ length out = ap length (counted t out o (omega arith) f) ∙ length-sets out 0 (bytes_of 4 t) in
      omega arith

  pub table-new-room : (t end : ℕ) (out o o₁ : List ℕ) → Room kept new out → o ≡ write_at out 0 4 t
      → Written end o o₁ 4 (flat_map tag_bytes kept) → end + length (flat_map tag_bytes new) ≤ length o₁
  table-new-room t end out o o₁ r f w =
      let h = r.room in
      let b : length o ≡ length out = ap length (counted t out o (omega arith) f) ∙ length-sets out 0 (bytes_of 4 t) in
      let c : length o₁ ≡ length o = ap length w.stored ∙ length-sets o 4 (flat_map tag_bytes kept) in
      let i = w.end in
      omega arith

  -- the count, what is kept and what is new, one behind the other
  pub table-stored : (t end last : ℕ) (out o o₁ o₂ : List ℕ) → Room kept new out → o ≡ write_at out 0 4 t
      → Written end o o₁ 4 (flat_map tag_bytes kept) → Written last o₁ o₂ end (flat_map tag_bytes new) → o₂ ≡ sets out 0 (bytes_of 4 t ++ (flat_map tag_bytes kept ++ flat_map tag_bytes new))
  table-stored t end last out o o₁ o₂ r f w x =
      let h = r.room in
      let a = counted t out o (omega arith) f in
      let b : length (bytes_of 4 t) ≡ 4 = length-bytes_of 4 t in
      let c : 4 ≡ 0 + length (bytes_of 4 t) = omega arith in
      x.stored
      ∙ ap (λ (z : List ℕ). sets z end (flat_map tag_bytes new)) w.stored
      ∙ ap (λ (z : ℕ). sets (sets o 4 (flat_map tag_bytes kept)) z (flat_map tag_bytes new)) w.end
      ∙ sets-append o 4 (flat_map tag_bytes kept) (flat_map tag_bytes new)
      ∙ ap (λ (z : List ℕ). sets z 4 (flat_map tag_bytes kept ++ flat_map tag_bytes new)) a
      ∙ ap (λ (z : ℕ). sets (sets out 0 (bytes_of 4 t)) z (flat_map tag_bytes kept ++ flat_map tag_bytes new)) c
      ∙ sets-append out 0 (bytes_of 4 t) (flat_map tag_bytes kept ++ flat_map tag_bytes new)

-- ── What is answered ──

module _ (table : List ℕ) (at : ℕ) (walk : Walk) (sheet places : List ℕ) (K N : Size) (out : List ℕ)
    (e : K ≡ size_of (kept_from table at walk.tags sheet walk.changes)) (f : N ≡ size_of (added_by side.New sheet sheet 1 places)) where
  abbrev result : List Tag
  result = tags_by table at walk sheet places

  abbrev kept : List Tag
  kept = kept_from table at walk.tags sheet walk.changes

  abbrev new : List Tag
  new = added_by side.New sheet sheet 1 places

  kept-length : K.bytes ≡ length (flat_map tag_bytes kept)
  unfolding size_of
  kept-length = ap (λ (z : Size). z.bytes) e

  new-length : N.bytes ≡ length (flat_map tag_bytes new)
  unfolding size_of
  new-length = ap (λ (z : Size). z.bytes) f

  tags-are : K.tags + N.tags ≡ length result
  unfolding size_of tags_by
  tags-are =
      let a = ap (λ (z : Size). z.tags) e in
      let b = ap (λ (z : Size). z.tags) f in
      let c = length-append kept new in
      omega arith

  bytes-are : table_bytes result ≡ bytes_of 4 (length result) ++ (flat_map tag_bytes kept ++ flat_map tag_bytes new)
  unfolding table_bytes tags_by
  bytes-are = ap (λ (l : List ℕ). bytes_of 4 (length result) ++ l) (flat_map-append tag_bytes kept new)

  long : 4 + K.bytes + N.bytes ≡ length (table_bytes result)
  long =
      let a = kept-length in
      let b = new-length in
      let c = length-bytes_of 4 (length result) in
      let d = length-append (bytes_of 4 (length result)) (flat_map tag_bytes kept ++ flat_map tag_bytes new) in
      let g = length-append (flat_map tag_bytes kept) (flat_map tag_bytes new) in
      sym (ap length bytes-are ∙ omega arith)

  pub apply-room : 4 + K.bytes + N.bytes ≤ length out → Room kept new out
  apply-room h =
      let a = kept-length in
      let b = new-length in
      record { room = omega arith }

  pub apply-many : 1000 < K.tags + N.tags → applying (Err TableFull) out ≡ applied_to result out
  unfolding applied_to
  apply-many h = let a = tags-are in rw (lt-ltb most_tags (length result) (omega arith))

  pub apply-no-room : K.tags + N.tags ≤ 1000 → length out < 4 + K.bytes + N.bytes
      → applying (Err NoRoom) out ≡ applied_to result out
  unfolding applied_to
  apply-no-room h l =
      let a = tags-are in
      let b = long in
      rw (le-ltb most_tags (length result) (omega arith), lt-ltb (length out) (length (table_bytes result)) (omega arith))

  pub apply-done : (o : List ℕ) → K.tags + N.tags ≤ 1000 → 4 + K.bytes + N.bytes ≤ length out
      → o ≡ sets out 0 (bytes_of 4 (K.tags + N.tags) ++ (flat_map tag_bytes kept ++ flat_map tag_bytes new))
      → applying (Ok (4 + K.bytes + N.bytes)) o ≡ applied_to result out
  unfolding applied_to filled
  apply-done o h l g =
      let a = tags-are in
      let b = long in
      let i : 0 + length (table_bytes result) ≡ length (table_bytes result) = omega arith in
      let c : o ≡ table_bytes result ++ drop (length (table_bytes result)) out =
      g
      ∙ ap (λ (z : ℕ). sets out 0 (bytes_of 4 z ++ (flat_map tag_bytes kept ++ flat_map tag_bytes new))) a
      ∙ ap (λ (z : List ℕ). sets out 0 z) (sym bytes-are)
      ∙ sets-eq (table_bytes result) out 0 (omega arith)
      ∙ ap (λ (z : ℕ). table_bytes result ++ drop z out) i in
      rw (le-ltb most_tags (length result) (omega arith), le-ltb (length out) (length (table_bytes result)) (omega arith), b)
      (ap (applying (Ok (length (table_bytes result)))) c)

-- as many words as are lent of the list
pub list_count : (list : List ℕ) (n : ℕ) → n ≤ length list → n ≡ length (take n list)
list_count list n h = sym (length-take-le n list h)

pub ruleset laws = (rules, list_count, table-kept-room, table-new-room, table-stored, apply-many, apply-no-room, apply-room, apply-done)
