-- What a close call refuses: its lines, and what is known where none holds.
-- Assumes nothing.
use Prim.Native.Nat.{ℕ, zero, suc, ◌+◌, ◌≤◌}
use native.Mathlib.Omega.{arith}
use mathlib.Core.Path.{◌≡◌, refl, ap, sym, ◌∙◌}
use mathlib.Core.Bool.{Bool, true, false, not, ◌&&◌, ◌||◌}
use mathlib.Core.List.{List, [], append-nil, flat_map}
use lib.ListN.{length, take, get_or}
use lib.Seq.{length-take-le}
use lib.Dec.{ltb, eqb}
use borrow.Author.Tests.{eq-eqb, ne_eqb, eqb-false, ltb-false}
use Rattle.number.specs.Number.{bytes_of}
use Rattle.number.proofs.Bytes.{length-bytes_of}
use Rattle.layout.specs.Recording.{index_length, table_bytes}
use Rattle.layout.specs.Opening.{first_of}
use Rattle.layout.specs.Recorder.{State, piece, broken_state, piece_number, takes_close, close_lines, closing_pieces, closing_piece, notes_short}
use Rattle.layout.proofs.Lists.{or-false, or_right}
use Rattle.layout.proofs.Lines.{line_clear}
use Rattle.stages.specs.Stages.{stage_of, closing_length}
use Rattle.limits.specs.Limits.{state_in, index_within}
use Rattle.limits.specs.declared.Numbers.{Numbers}
use Rattle.limits.proofs.Sound.{numbers-sound, index-sound}

-- ── Lines 12 and 9 ──

pub empty-table : table_bytes [] ≡ bytes_of 4 0
unfolding table_bytes flat_map
empty-table = append-nil (bytes_of 4 0)

-- the bytes of a piece, but for notes that may be short
length-piece : (st : State) (notes : List ℕ) (p : ℕ) → p ≤ 4
    → length (get_or (closing_pieces st notes) p (piece 0 [])).bytes ≡ closing_length p (length (take (index_length st.frames) notes))
unfolding closing_pieces closing_length
length-piece st notes zero h = refl
length-piece st notes (suc zero) h = ap length empty-table ∙ length-bytes_of 4 0
length-piece st notes (suc (suc zero)) h = length-bytes_of 4 st.frames
length-piece st notes (suc (suc (suc zero))) h = length-bytes_of 8 (st.end + index_length st.frames)
length-piece st notes (suc (suc (suc (suc zero)))) h = length-bytes_of 8 st.end
length-piece st notes (suc (suc (suc (suc (suc p))))) h = absurd (omega arith)

-- where the notes are long enough, or where they do not matter
length-other : (p i j : ℕ) → (p ≡ 0 → ⊥) → closing_length p i ≡ closing_length p j
unfolding closing_length
length-other p i j h = rw (ne_eqb p 0 h)

length-enough : (st : State) (notes : List ℕ) → piece_number st.stage ≤ 4
    → (piece_number st.stage ≡ 0 → index_length st.frames ≤ length notes)
    → length (closing_piece st notes).bytes ≡ closing_length (piece_number st.stage) (index_length st.frames)
unfolding closing_piece
length-enough st notes h k = length-piece st notes (piece_number st.stage) h ∙ go (piece_number st.stage) refl
  where
    go : (p : ℕ) → piece_number st.stage ≡ p → closing_length p (length (take (index_length st.frames) notes)) ≡ closing_length p
        (index_length st.frames)
    go zero e = ap (closing_length 0) (length-take-le (index_length st.frames) notes (k e))
    go (suc p) e = length-other (suc p) (length (take (index_length st.frames) notes)) (index_length st.frames) (λ q. omega arith)

module _ (r : Numbers) (notes : List ℕ) (room : ℕ) (p i n : ℕ) where
  -- the test of 9 by the next piece, the index's length and the piece's
  abbrev late : Bool
  late = ltb room n || (eqb p 0 && ltb (length notes) i)

  pub nine : broken_state (state_in r) ≡ false → p ≡ piece_number (stage_of r.stage) → i ≡ index_within r.frames → n ≡ closing_length p i
      → (ltb room (length (closing_piece (state_in r) notes).bytes) || notes_short (state_in r) notes) ≡ late
  unfolding notes_short state_in
  nine h a b g = go (ltb (length notes) i) refl (eqb p 0) refl
    where
      j : i ≡ index_length r.frames
      j = index-sound r i h b

      bytes : (p ≡ 0 → i ≤ length notes) → length (closing_piece (state_in r) notes).bytes ≡ n
      bytes k =
          let e : (piece_number (stage_of r.stage) ≡ 0 → index_length r.frames ≤ length notes) = λ z. omega (arith, j, k (a ∙ z)) in
          length-enough (state_in r) notes (numbers-sound r h).a_piece e ∙ rw (← a, ← j, g)

      go : (x : Bool) → ltb (length notes) i ≡ x → (y : Bool) → eqb p 0 ≡ y
          → (ltb room (length (closing_piece (state_in r) notes).bytes) || notes_short (state_in r) notes) ≡ late
      go false u y v = rw (bytes (λ z. ltb-false (length notes) i u), ← a, ← j)
      go true u false v = rw (bytes (λ z. absurd (eqb-false p 0 v z)), ← a, ← j)
      go true u true v = rw (← a, ← j, u, v)
          (or_right (ltb room (length (closing_piece (state_in r) notes).bytes)) true refl ∙ sym (or_right (ltb room n) true refl))

-- what is known where nothing is refused
pub record Closable (r : Numbers) (notes : List ℕ) (room : ℕ) : Type 0 where
  pub whole : broken_state (state_in r) ≡ false
  pub fits : length (closing_piece (state_in r) notes).bytes ≤ room
  pub notes_fit : piece_number (stage_of r.stage) ≡ 0 → index_length r.frames ≤ length notes

pub closable : (r : Numbers) (notes : List ℕ) (room : ℕ) → first_of (close_lines (state_in r) notes room) ≡ 0 → Closable r notes room
unfolding close_lines notes_short state_in
closable r notes room h =
    let next = piece_number (stage_of r.stage) in
    let bytes = length (closing_piece (state_in r) notes).bytes in
    let short = eqb next 0 && ltb (length notes) (index_length r.frames) in
    let a = line_clear 11 (not (takes_close (stage_of r.stage)) || broken_state (state_in r)) _ h in
    let b = or-false (not (takes_close (stage_of r.stage))) (broken_state (state_in r)) a.0 in
    let c = line_clear 8 (ltb room bytes || short) [] a.1 in
    let d = or-false (ltb room bytes) short c.0 in
    record {
      whole = b.1;
      fits = ltb-false room bytes d.0;
      notes_fit = λ z. ltb-false (length notes) (index_length r.frames)
          (rest (eqb next 0) (ltb (length notes) (index_length r.frames)) (eq-eqb next 0 z) d.1);
    }
  where
    rest : (x y : Bool) → x ≡ true → x && y ≡ false → y ≡ false
    rest true y p q = q
    rest false y p q = let z : ◌≡◌ {A = ℕ} 0 1 = cc in absurd (omega arith)

pub ruleset closings = (nine)
