-- A frame and its index entry, written: what the two functions leave to be shown, and what is written where there is room.
-- Assumes nothing.
use Prim.Native.Nat.{ℕ, ◌+◌, ◌*◌, ◌-◌, ◌≤◌}
use native.Mathlib.Omega.{arith}
use mathlib.Core.Path.{◌≡◌, ap, ◌∙◌}
use mathlib.Core.List.{List, ◌++◌}
use lib.ListN.{length, length-append}
use lib.Seq.{sets, length-sets, take-length}
use borrow.Author.Rules.{rules}
use borrow.Author.Tests.{le-ltb}
use Rattle.number.specs.Number.{bytes_of, write_at}
use Rattle.number.proofs.Bytes.{length-bytes_of}
use Rattle.layout.specs.Recording.{most_frames, index_length, frame_head_bytes}
use Rattle.layout.specs.Recorder.{frame_piece}
use Rattle.layout.proofs.Outputs.{write-is}
use Rattle.layout.proofs.Places.{length-head}
use Rattle.parts.specs.Parts.{copied}
use Rattle.parts.proofs.Output.{write-behind, copy-behind}
use Rattle.times.specs.Times.{since_first}
use Rattle.writing.specs.Writing.{framed, noted_at, noted_in, Lent, lent, frame_added}

pub frame-length : (t e : ℕ) (s : List ℕ) → length (frame_piece t e s) ≡ 16 + length s
unfolding frame_piece
frame-length t e s = length-append (frame_head_bytes t e) s ∙ ap (λ (n : ℕ). n + length s) (length-head t e)

pub frame-sets : (out s a b c d : List ℕ) (t e : ℕ) → 16 + length s ≤ length out → a ≡ write_at out 0 4 3993051903 → b ≡ write_at a 4 8 t
    → c ≡ write_at b 12 4 e → d ≡ copied s 0 c 16 (length s) → d ≡ sets out 0 (frame_piece t e s)
unfolding frame_piece frame_head_bytes
frame-sets out s a b c d t e h p q u v =
    let m = bytes_of 4 3993051903 in
    let w₁ : a ≡ sets out 0 m = p ∙ write-is out 0 4 3993051903 (omega arith) in
    let w₂ : b ≡ sets out 0 (m ++ bytes_of 8 t) = write-behind out a b m 0 4 8 w₁ (simp length-bytes_of) (omega arith) t q in
    let w₃ : c ≡ sets out 0 (m ++ bytes_of 8 t ++ bytes_of 4 e) =
    write-behind out b c (m ++ bytes_of 8 t) 0 12 4 w₂ (simp (length-append, length-bytes_of)) (omega arith) e u in
    copy-behind out c d (m ++ bytes_of 8 t ++ bytes_of 4 e) 0 16 (length s) w₃ (simp (length-append, length-bytes_of)) (omega arith) s 0 (omega arith) v
    ∙ ap (λ (l : List ℕ). sets out 0 (m ++ bytes_of 8 t ++ bytes_of 4 e ++ l)) (take-length s)

pub entry-sets : (notes a b c d : List ℕ) (n since place size : ℕ) → 1 ≤ n → n ≤ 1000000 → 4 + 16 * n ≤ length notes → a ≡ write_at notes 0 4 n
    → b ≡ write_at a (16 * n - 12) 4 since → c ≡ write_at b (16 * n - 12 + 4) 8 place → d ≡ write_at c (16 * n - 12 + 12) 4 size
    → d ≡ noted_at notes n since place size
unfolding noted_at
entry-sets notes a b c d n since place size l m h p q u v =
    let at = 16 * n - 12 in
    let w₀ : a ≡ sets notes 0 (bytes_of 4 n) = p ∙ write-is notes 0 4 n (omega arith) in
    let k : length a ≡ length notes = ap length w₀ ∙ length-sets notes 0 (bytes_of 4 n) in
    let w₁ : b ≡ sets a at (bytes_of 4 since) = q ∙ write-is a at 4 since (omega arith) in
    let w₂ : c ≡ sets a at (bytes_of 4 since ++ bytes_of 8 place) =
    write-behind a b c (bytes_of 4 since) at (at + 4) 8 w₁ (simp length-bytes_of) (omega arith) place u in
    write-behind a c d (bytes_of 4 since ++ bytes_of 8 place) at (at + 12) 4 w₂ (simp (length-append, length-bytes_of)) (omega arith) size v
    ∙ ap (λ (x : List ℕ). sets x at (bytes_of 4 since ++ bytes_of 8 place ++ bytes_of 4 size)) w₀

-- ── A frame ──

-- there is room for it
pub framed_is : (out s : List ℕ) (t e : ℕ) → 16 + length s ≤ length out → framed out t e s ≡ sets out 0 (frame_piece t e s)
unfolding framed
framed_is out s t e h = rw (le-ltb (length out) (16 + length s) h)

-- ── Its entry ──

-- there is room for it
pub noted-is : (notes : List ℕ) (n since place size : ℕ) → 1 ≤ n → n ≤ 1000000 → 4 + 16 * n ≤ length notes
    → noted_in notes n since place size ≡ noted_at notes n since place size
unfolding noted_in
noted-is notes n since place size l m h = rw (le-ltb n 1 l, le-ltb most_frames n m, le-ltb (length notes) (index_length n) h)

-- ── Both ──

-- there is room for both
pub added_is : (s notes out u v : List ℕ) (n first t e place : ℕ)
    → lent u v ≡ frame_added n first t e place s notes out → 1 ≤ n → n ≤ 1000000 → 4 + 16 * n ≤ length notes → 16 + length s ≤ length out
    → (u ≡ noted_at notes n (since_first first t) place (16 + length s)) × (v ≡ sets out 0 (frame_piece t e s))
unfolding frame_added
added_is s notes out u v n first t e place h l m k o = (
  ap (λ (x : Lent). x.notes) h ∙ noted-is notes n (since_first first t) place (16 + length s) l m k,
  ap (λ (x : Lent). x.out) h
      ∙ framed_is out s t e o,
)

pub ruleset laws = (rules, frame-sets, entry-sets)
