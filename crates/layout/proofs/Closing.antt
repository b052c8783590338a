-- A running recording can be closed at any moment, if there is room for each piece: five close calls are accepted, and the file is whole.
-- Assumes nothing.
use Prim.Native.Nat.{ℕ, zero, suc, ◌≤◌}
use native.Mathlib.Omega.{arith}
use mathlib.Core.Path.{◌≡◌, refl, ap, sym, ◌∙◌, subst}
use mathlib.Core.Bool.{Bool, true, false, not, ◌&&◌, ◌||◌}
use mathlib.Core.List.{List, [], ◌∷◌, flat_map}
use lib.ListN.{length, get_or}
use lib.Dec.{ltb, eqb}
use borrow.Author.Tests.{le-ltb}
use Rattle.number.specs.Number.{bytes_of}
use Rattle.number.proofs.Bytes.{length-bytes_of}
use Rattle.layout.specs.Recording.{Recording, index_length, table_bytes, encode}
use Rattle.layout.specs.Opening.{first_of}
use Rattle.layout.specs.Recorder.{Piece, closed, piece, takes_close, broken_state, no_room, piece_number, closing_piece, notes_short, close_lines, close}
use Rattle.layout.specs.Storage.{closes, Session, called, session, writes, stored, file_of}
use Rattle.layout.proofs.Lists.{not-or}
use Rattle.layout.proofs.Lines.{line-pass}
use Rattle.layout.proofs.Orders.{no_lines}
use Rattle.layout.proofs.Encoded.{length-index}
use Rattle.layout.proofs.Answers.{goes_on_lem}
use Rattle.layout.proofs.Trace.{pieces_of, all-five, closings, stage_of, Runs, at_piece, closing-is, close_step, close-runs}
use Rattle.layout.proofs.Filed.{stored-closed}

-- a session that has recorded r and closed holds the whole file
pub closed-file : (ss : Session) (r : Recording) (c : ℕ) → Runs ss r c → ss.state.stage ≡ closed → file_of ss ≡ encode r
unfolding file_of
closed-file ss r c h e =
    let five : c ≡ 5 = all-five c h.at_most_five (sym h.stage_is ∙ e) in
    ap (λ (ps : List Piece). stored [] (writes ps)) (h.pieces_are ∙ ap (pieces_of r) five) ∙ stored-closed r h.no_user_tags

-- each of the five pieces fits a room of 8 bytes that holds the index
closing-fits : (r : Recording) (c room : ℕ) → c ≤ 4 → 8 ≤ room → index_length (length r.frames) ≤ room → length (get_or (closings r) c (piece 0 [])).bytes ≤ room
unfolding closings table_bytes flat_map bytes_of
closing-fits r zero room l h k = rw length-index k
closing-fits r (suc zero) room l h k = omega arith
closing-fits r (suc (suc zero)) room l h k = rw length-bytes_of (omega arith)
closing-fits r (suc (suc (suc zero))) room l h k = rw length-bytes_of h
closing-fits r (suc (suc (suc (suc zero)))) room l h k = rw length-bytes_of h
closing-fits r (suc (suc (suc (suc (suc c))))) room l h k = absurd (omega arith)

and-false : (a b : Bool) → b ≡ false → a && b ≡ false
and-false true b e = e
and-false false b e = refl

-- the next close call is accepted
pub next-closes : (ss : Session) (r : Recording) (c room : ℕ) → Runs ss r c → c ≤ 4 → 8 ≤ room → index_length (length r.frames) ≤ room → Runs (called ss (closes room)) r (suc c)
unfolding called close close_lines notes_short
next-closes ss r c room h l k i =
    let st = ss.state in
    let takes : takes_close st.stage ≡ true = ap takes_close h.stage_is ∙ (at_piece c l).1 in
    let fits : length (closing_piece st ss.notes).bytes ≤ room = rw (closing-is ss r c l h) (closing-fits r c room l k i) in
    let long : ltb (length ss.notes) (index_length st.frames) ≡ false = le-ltb (length ss.notes) (index_length st.frames) (omega arith) in
    let first : not (takes_close st.stage) || broken_state st ≡ false = not-or (not (takes_close st.stage)) (broken_state st) (ap not takes) h.state_holds in
    let second : notes_short st ss.notes ≡ false = and-false (eqb (piece_number st.stage) 0) (no_room (length ss.notes) (index_length st.frames)) long in
    let third : no_room room (length (closing_piece st ss.notes).bytes) || notes_short st ss.notes ≡ false = not-or (no_room room (length (closing_piece st ss.notes).bytes)) (notes_short st ss.notes) (le-ltb room (length (closing_piece st ss.notes).bytes) fits) second in
    let none : first_of (close_lines st ss.notes room) ≡ 0 = line-pass 12 _ _ first ∙ line-pass 9 _ _ third ∙ no_lines in
    subst (λ (next : Session). Runs next r (suc c)) (sym (goes_on_lem ss (first_of (close_lines st ss.notes room)) (close_step st ss.notes) refl none)) (close-runs ss r c l h)

-- five of them close it
pub five-close : (ss : Session) (r : Recording) (room : ℕ) → Runs ss r 0 → 8 ≤ room → index_length (length r.frames) ≤ room → Runs (session ss (closes room ∷ closes room ∷ closes room ∷ closes room ∷ closes room ∷ [])) r 5
unfolding session
five-close ss r room h k i =
    let one = next-closes ss r 0 room h (omega arith) k i in
    let two = next-closes _ r 1 room one (omega arith) k i in
    let three = next-closes _ r 2 room two (omega arith) k i in
    let four = next-closes _ r 3 room three (omega arith) k i in
    next-closes _ r 4 room four (omega arith) k i

-- and its file is the whole one
pub five-file : (ss : Session) (r : Recording) (room : ℕ) → Runs ss r 0 → 8 ≤ room → index_length (length r.frames) ≤ room → ((session ss (closes room ∷ closes room ∷ closes room ∷ closes room ∷ closes room ∷ [])).state.stage ≡ closed) × (file_of (session ss (closes room ∷ closes room ∷ closes room ∷ closes room ∷ closes room ∷ [])) ≡ encode r)
unfolding stage_of
five-file ss r room h k i =
    let runs = five-close ss r room h k i in
    (runs.stage_is, closed-file _ r 5 runs runs.stage_is)
