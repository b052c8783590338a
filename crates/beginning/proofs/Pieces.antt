-- The first piece: its lines of refusal, and its answer.
-- Assumes nothing.
use Rattle.std.specs.Prelude.{Result, Ok, Err, ⊤}
use Prim.Native.Nat.{ℕ, zero, suc, ◌+◌, ◌-◌, ◌^◌, ◌<◌, ◌≤◌}
use native.Mathlib.Omega.{arith}
use mathlib.Core.Path.{◌≡◌, refl, ap, sym, ◌∙◌}
use mathlib.Core.Bool.{Bool, true, false, ◌||◌}
use mathlib.Core.List.{List, [], ◌∷◌}
use lib.ListN.{length}
use lib.Seq.{sets}
use lib.Dec.{ltb}
use borrow.Author.Rules.{rules}
use borrow.Author.Tests.{not-true, not-false, lt-ltb, le-ltb, ltb-false}
use mir.Syntax.{w64}
use mir.Val.{Fits}
use Rattle.number.specs.Number.{read_at}
use Rattle.number.proofs.Bools.{or_left}
use Rattle.layout.specs.Reading.{is_bad, exactly, table}
use Rattle.layout.specs.Opening.{Line, line, first_of}
use Rattle.layout.specs.Recorder.{set_up_list, sections_of, bad_set_up, first_piece, begin_place}
use Rattle.layout.proofs.Lists.{or-false, not-or, or_right}
use Rattle.layout.proofs.Lines.{line-pass, line-holds, line_clear}
use Rattle.layout.proofs.Orders.{no_lines}
use Rattle.layout.proofs.Fronts.{length_front}
use Rattle.layout.proofs.Outputs.{filled_is}
use Rattle.refusal.specs.Refusal.{placed, unless}
use Rattle.refusal.specs.declared.Refusal.{Refusal}
use Rattle.refusal.specs.declared.Refusal.TheVariants as refused
use Rattle.setup.specs.SetUp.{list_refusal, list_refused, system_refusal, system_refused}
use Rattle.beginning.specs.Front.{table_start}
use Rattle.beginning.specs.Pieces.{piece_refusal, piece_refused, made, written, piece_by, first_piece_of}
use Rattle.setup.proofs.SetUp.{legal-list, sections-count}

-- what is refused with no number is not refused, and the other way
pub unless-ok : {A : Type 0} (n p : ℕ) (x y : A) → unless n p x ≡ Ok y → n ≡ 0
unfolding unless
unless-ok zero p x y e = refl
unless-ok (suc n) p x y e = let z : ◌≡◌ {A = ℕ} 0 1 = cc in absurd (omega arith)

pub unless-err : {A : Type 0} (n p : ℕ) (x : A) (r : Refusal) → unless n p x ≡ Err r → (m : ℕ) × (n ≡ suc m) × (r ≡ placed n p)
unfolding unless
unless-err zero p x r e = let z : ◌≡◌ {A = ℕ} 0 1 = cc in absurd (omega arith)
unless-err (suc n) p x r e = (n, refl, cc)

first-length : (s system : List ℕ) → length (first_piece s system) ≡ table_start (sections_of s) + length system
unfolding first_piece table_start
first-length s system = length_front 0 0 0 (sections_of s) system

-- ── The order 10, 3, 4, 9 ──

module _ (s system : List ℕ) (notes room : ℕ) where
  abbrev start : ℕ
  start = table_start (sections_of s)

  abbrev short : Bool
  short = ltb room (start + length system) || ltb notes 4

  abbrev lines9 : List Line
  lines9 = line 9 short ∷ []

  abbrev lines4 : List Line
  lines4 = line 4 (is_bad (exactly table system)) ∷ lines9

  abbrev lines3 : List Line
  lines3 = line 3 (bad_set_up (sections_of s)) ∷ lines4

  piece-lines : first_of (line 10 (is_bad (exactly set_up_list s)) ∷ lines3) ≡ piece_refusal s system notes room
  unfolding piece_refusal
  piece-lines = rw (first-length s system)

  -- the list's own numbers come first
  pub piece-listed : (l r : Result ⊤ Refusal) (x : Refusal) → l ≡ list_refused s → l ≡ Err x → r ≡ Err x → r ≡ piece_refused s system notes room
  unfolding list_refused list_refusal piece_refused begin_place
  piece-listed l r x e h k = k ∙ go (is_bad (exactly set_up_list s)) (bad_set_up (sections_of s)) refl refl
    where
      go : (y z : Bool) → is_bad (exactly set_up_list s) ≡ y → bad_set_up (sections_of s) ≡ z → Err x ≡ piece_refused s system notes room
      go true z f g =
          let a : list_refusal s ≡ 10 = line-holds 10 _ _ f in
          let b : piece_refusal s system notes room ≡ 10 = sym piece-lines ∙ line-holds 10 _ _ f in
          sym h ∙ e ∙ rw (a, b)
      go false true f g =
          let a : list_refusal s ≡ 3 = line-pass 10 _ _ f ∙ line-holds 3 _ _ g in
          let b : piece_refusal s system notes room ≡ 3 = sym piece-lines ∙ line-pass 10 _ _ f ∙ line-holds 3 _ _ g in
          sym h ∙ e ∙ rw (a, b)
      go false false f g =
          let a : list_refusal s ≡ 0 = line-pass 10 _ _ f ∙ line-pass 3 _ _ g ∙ no_lines in
          let (m, n, o) = unless-err (list_refusal s) _ _ x (sym e ∙ h) in
          absurd (omega arith)

  -- the set-up list is complete and legal
  module _ (l : Result ⊤ Refusal) (u : ⊤) (le : l ≡ list_refused s) (lh : l ≡ Ok u) where
    passed : (is_bad (exactly set_up_list s) ≡ false) × (bad_set_up (sections_of s) ≡ false)
    unfolding list_refused list_refusal
    passed =
        let b = line_clear 9 (is_bad (exactly set_up_list s)) _ (unless-ok (list_refusal s) _ _ u (sym le ∙ lh)) in
        let c = line_clear 2 (bad_set_up (sections_of s)) [] b.1 in
        (b.0, c.0)

    pub list-legal : bad_set_up (sections_of s) ≡ false
    list-legal = passed.1

    onward4 : first_of lines4 ≡ piece_refusal s system notes room
    onward4 = sym (line-pass 10 (is_bad (exactly set_up_list s)) lines3 passed.0 ∙ line-pass 3 (bad_set_up (sections_of s)) lines4 passed.1)
        ∙ piece-lines

    -- what the system table is refused with
    module _ (t : Result ⊤ Refusal) (te : t ≡ system_refused system) where
      pub piece-table : (r : Result ⊤ Refusal) (x : Refusal) → t ≡ Err x → r ≡ Err x → r ≡ piece_refused s system notes room
      unfolding system_refused system_refusal piece_refused begin_place
      piece-table r x h k = k ∙ go (is_bad (exactly table system)) refl
        where
          go : (y : Bool) → is_bad (exactly table system) ≡ y → Err x ≡ piece_refused s system notes room
          go true f =
              let a : system_refusal system ≡ 4 = line-holds 4 _ _ f in
              let b : piece_refusal s system notes room ≡ 4 = sym onward4 ∙ line-holds 4 _ _ f in
              sym h ∙ te ∙ rw (a, b)
          go false f =
              let a : system_refusal system ≡ 0 = line-pass 4 _ _ f ∙ no_lines in
              let (m, n, o) = unless-err (system_refusal system) _ _ x (sym te ∙ h) in
              absurd (omega arith)

      -- the system table is a table: what is left is the room
      module _ (w : ⊤) (h : t ≡ Ok w) where
        room-alone : first_of lines9 ≡ piece_refusal s system notes room
        unfolding system_refused system_refusal
        room-alone =
            sym (line-pass 4 (is_bad (exactly table system)) lines9 (line_clear 3 (is_bad (exactly table system)) []
            (unless-ok (system_refusal system) _ _ w (sym te ∙ h))).0) ∙ onward4

        no_room : short ≡ true → Err refused.NoRoom ≡ piece_refused s system notes room
        unfolding piece_refused begin_place unless
        no_room e =
            let n : piece_refusal s system notes room ≡ 9 = sym room-alone ∙ line-holds 9 short [] e in
            rw n

        by-room : room < start + length system → Err refused.NoRoom ≡ piece_refused s system notes room
        by-room e = no_room (or_left (ltb room (start + length system)) (ltb notes 4) (lt-ltb room (start + length system) e))

        pub piece-no-room : room < length system → Err refused.NoRoom ≡ piece_refused s system notes room
        piece-no-room e = by-room (omega arith)

        pub piece-less-room : (p : ℕ) → p ≡ table_start (sections_of s) → room - length system < p → Err refused.NoRoom ≡ piece_refused s system notes room
        piece-less-room p e k = by-room (omega arith)

        pub piece-notes : notes < 4 → Err refused.NoRoom ≡ piece_refused s system notes room
        piece-notes e = no_room (or_right (ltb room (start + length system)) (ltb notes 4) (lt-ltb notes 4 e))

        pub piece-taken : (p : ℕ) → p ≡ table_start (sections_of s) → length system ≤ room → p ≤ room - length system → 4 ≤ notes
            → Ok tt ≡ piece_refused s system notes room
        unfolding piece_refused unless
        piece-taken p e k i o =
            let b : short ≡ false = not-or (ltb room (start + length system)) (ltb notes 4) (le-ltb room (start + length system) (omega arith)) (le-ltb notes 4 o) in
            let n : piece_refusal s system notes room ≡ 0 = sym room-alone ∙ line-pass 9 short [] b ∙ no_lines in
            rw n

-- what is known where no number is given
pub record Writable (s system : List ℕ) (notes room : ℕ) : Type 0 where
  pub legal : bad_set_up (sections_of s) ≡ false
  pub fits : table_start (sections_of s) + length system ≤ room
  pub notes_fit : 4 ≤ notes

pub writable : (s system : List ℕ) (notes room : ℕ) → piece_refusal s system notes room ≡ 0 → Writable s system notes room
writable s system notes room e =
    let b = line_clear 9 (is_bad (exactly set_up_list s)) (lines3 s system notes room) (piece-lines s system notes room ∙ e) in
    let c = line_clear 2 (bad_set_up (sections_of s)) (lines4 s system notes room) b.1 in
    let d = line_clear 3 (is_bad (exactly table system)) (lines9 s system notes room) c.1 in
    let f = line_clear 8 (short s system notes room) [] d.1 in
    let g = or-false (ltb room (start s system notes room + length system)) (ltb notes 4) f.0 in
    record { legal = c.0; fits = ltb-false room (start s system notes room + length system) g.0; notes_fit = ltb-false notes 4 g.1 }

-- ── What is answered ──

module _ (s system : List ℕ) (notes room : ℕ) (r : Result ⊤ Refusal) (e : r ≡ piece_refused s system notes room) where
  module _ (u : ⊤) (h : r ≡ Ok u) where
    none : piece_refusal s system notes room ≡ 0
    unfolding piece_refused
    none = unless-ok (piece_refusal s system notes room) _ _ u (sym e ∙ h)

    can : Writable s system notes room
    can = writable s system notes room none

    pub piece-legal : bad_set_up (sections_of s) ≡ false
    piece-legal = can.legal

    pub piece-fits : (p : ℕ) → p ≡ table_start (sections_of s) → room < 2 ^ 64 → Fits w64 (p + length system)
    piece-fits p f b = let k = can.fits in record { fits = omega arith }

    pub piece-room : (p : ℕ) → p ≡ table_start (sections_of s) → p + length system ≤ room
    piece-room p f = let k = can.fits in omega arith

module _ (s system out : List ℕ) (notes : ℕ) (r : Result ⊤ Refusal) (e : r ≡ piece_refused s system notes (length out)) where
  pub piece-refused : (x : Refusal) → r ≡ Err x → made (Err x) out ≡ first_piece_of s system notes out
  unfolding first_piece_of piece_by piece_refused
  piece-refused x h = go (piece_refusal s system notes (length out)) (sym e ∙ h)
    where
      go : (m : ℕ) → unless m (begin_place m s system) (tt {0}) ≡ Err x → made (Err x) out ≡ piece_by m s system out
      go zero f = let (m, n, o) = unless-err 0 _ _ x f in absurd (omega arith)
      go (suc m) f = let (k, n, o) = unless-err (suc m) _ _ x f in rw o

  pub piece-written : (u : ⊤) (v : List ℕ) (place count : ℕ) → r ≡ Ok u → place ≡ table_start (sections_of s) → v ≡ sets out 0 (first_piece s system)
      → count ≡ read_at s 0 1 → made (written count (place + length system)) v ≡ first_piece_of s system notes out
  unfolding first_piece_of piece_by
  piece-written u v place count h p y c =
      let k = can s system notes (length out) r e u h in
      let i : place + length system ≡ length (first_piece s system) = ap (λ (x : ℕ). x + length system) p ∙ sym (first-length s system) in
      rw (
        none s system notes (length out) r e u h,
        i,
        sections-count s count (legal-list s k.legal).whole c,
        y
            ∙ filled_is out (first_piece s system) (omega (arith, first-length s system, k.fits)),
      )

pub ruleset laws = (rules, not-true, not-false, piece-listed, list-legal, piece-table, piece-no-room, piece-less-room, piece-notes, piece-taken, piece-legal, piece-fits, piece-room, piece-refused, piece-written)
