-- What the card holds after some of the bytes of a piece, or all of them, are stored.
-- Assumes nothing.
use Prim.Native.Nat.{ℕ, zero, suc, ◌+◌, ◌-◌, ◌≤◌, ◌<◌}
use native.Mathlib.Omega.{arith}
use native.Mathlib.Nat.{sub-zero, zero-sub}
use mathlib.Core.Path.{◌≡◌, refl, ap, sym, ◌∙◌}
use mathlib.Core.List.{List, [], ◌∷◌, ◌++◌, append_assoc, append-nil}
use lib.ListN.{length, take, drop, set, length-append, length-set, length-take}
use lib.Seq.{sets, sets-eq, append_snoc, take_at, drop-append-add, drop-append-le}
use Rattle.layout.specs.Recorder.{Piece}
use Rattle.layout.specs.Storage.{Written, write, writes_at, writes, stored}

-- ── Writes in a row ──

-- the first m of two lists in a row
pub take-append : {A : Type 0} (m : ℕ) (xs ys : List A) → take m (xs ++ ys) ≡ take m xs ++ take (m - length xs) ys
take-append zero [] ys = refl
take-append (suc m) [] ys = rw sub-zero
take-append zero (x ∷ xs) ys = rw zero-sub
take-append (suc m) (x ∷ xs) ys =
    let e : suc m - suc (length xs) ≡ m - length xs = omega arith in
    rw e (ap (λ (l : List _). x ∷ l) (take-append m xs ys))

pub stored-append : (f : List ℕ) (ws vs : List Written) → stored f (ws ++ vs) ≡ stored (stored f ws) vs
unfolding stored
stored-append f [] vs = refl
stored-append f (w ∷ ws) vs = stored-append (write f w.place w.byte) ws vs

pub writes-append : (ps qs : List Piece) → writes (ps ++ qs) ≡ writes ps ++ writes qs
unfolding writes
writes-append [] qs = refl
writes-append (p ∷ ps) qs = ap (λ (l : List Written). writes_at p.place p.bytes ++ l) (writes-append ps qs) ∙ sym (append_assoc (writes_at p.place p.bytes) (writes ps) (writes qs))

pub length-writes_at : (p : ℕ) (bytes : List ℕ) → length (writes_at p bytes) ≡ length bytes
unfolding writes_at
length-writes_at p [] = refl
length-writes_at p (b ∷ bs) = ap suc (length-writes_at (suc p) bs)

-- a cut inside a piece leaves the writes of the piece's first bytes
pub take-writes_at : (m p : ℕ) (bytes : List ℕ) → take m (writes_at p bytes) ≡ writes_at p (take m bytes)
unfolding writes_at
take-writes_at zero p [] = refl
take-writes_at (suc m) p [] = refl
take-writes_at zero p (b ∷ bs) = refl
take-writes_at (suc m) p (b ∷ bs) = ap (λ (l : List Written). record { place = p; byte = b } ∷ l) (take-writes_at m (suc p) bs)

-- ── A piece at the end ──

write-end : (f : List ℕ) (b : ℕ) → write f (length f) b ≡ f ++ (b ∷ [])
unfolding write
write-end [] b = refl
write-end (x ∷ xs) b = ap (λ (l : List ℕ). x ∷ l) (write-end xs b)

-- a piece stored where the file ends is appended
pub stored-end : (f : List ℕ) (p : ℕ) (bytes : List ℕ) → p ≡ length f → stored f (writes_at p bytes) ≡ f ++ bytes
unfolding writes_at stored
stored-end f p [] e = sym (append-nil f)
stored-end f p (b ∷ bs) e =
    let w : write f p b ≡ f ++ (b ∷ []) = rw e (write-end f b) in
    ap (λ (g : List ℕ). stored g (writes_at (suc p) bs)) w
    ∙ (stored-end (f ++ (b ∷ [])) (suc p) bs (rw length-append (omega arith)) ∙ append_snoc f b bs)

-- ── A piece inside ──

write-inside : (f : List ℕ) (p b : ℕ) → p < length f → write f p b ≡ set f p b
unfolding write
write-inside [] p b h = absurd (omega arith)
write-inside (x ∷ xs) zero b h = refl
write-inside (x ∷ xs) (suc p) b h = ap (λ (l : List ℕ). x ∷ l) (write-inside xs p b (omega arith))

stored-sets : (f : List ℕ) (p : ℕ) (bytes : List ℕ) → p + length bytes ≤ length f → stored f (writes_at p bytes) ≡ sets f p bytes
unfolding writes_at stored
stored-sets f p [] h = refl
stored-sets f p (b ∷ bs) h =
    let w : write f p b ≡ set f p b = write-inside f p b (omega arith) in
    ap (λ (g : List ℕ). stored g (writes_at (suc p) bs)) w ∙ (stored-sets (set f p b) (suc p) bs (rw length-set (omega arith)))

-- a piece stored inside the file takes the place of as many bytes
pub stored-inside : (f : List ℕ) (p : ℕ) (bytes : List ℕ) → p + length bytes ≤ length f → stored f (writes_at p bytes) ≡ take p f ++ bytes ++ drop (p + length bytes) f
stored-inside f p bytes h = stored-sets f p bytes h ∙ sets-eq bytes f p h

-- ── A cut ──

-- the first m bytes of a piece, at the end of the file and inside it
pub cut-end : (m : ℕ) (f : List ℕ) (p : ℕ) (bytes : List ℕ) → p ≡ length f → stored f (take m (writes_at p bytes)) ≡ f ++ take m bytes
cut-end m f p bytes e = rw take-writes_at (stored-end f p (take m bytes) e)

-- all of a piece and others
pub stored-pieces : (f : List ℕ) (p : Piece) (ps : List Piece) → stored f (writes (p ∷ ps)) ≡ stored (stored f (writes_at p.place p.bytes)) (writes ps)
unfolding writes
stored-pieces f p ps = stored-append f (writes_at p.place p.bytes) (writes ps)

-- ── A part that is replaced ──

-- bytes stored where others stand, no more of them than those, take the place of the first of them
pub stored-middle : (before old after : List ℕ) (p : ℕ) (new : List ℕ) → length before ≡ p → length new ≤ length old → stored (before ++ old ++ after) (writes_at p new) ≡ before ++ (new ++ drop (length new) old) ++ after
stored-middle before old after p new e h =
    let f : List ℕ = before ++ old ++ after in
    let g : f ≡ before ++ (old ++ after) = append_assoc before old after in
    let t : take p f ≡ before = rw g (take_at before (old ++ after) p e) in
    let d : drop (p + length new) f ≡ drop (length new) old ++ after = rw (g, ← e) (drop-append-add before (old ++ after) (length new) ∙ drop-append-le (length new) old after h) in
    stored-inside f p new (rw (length-append, length-append) (omega arith)) ∙ rw (t, d) (simp append_assoc)

-- the same for the first m of them
pub cut-middle : (m : ℕ) (before old after : List ℕ) (p : ℕ) (new : List ℕ) → length before ≡ p → length new ≤ length old → stored (before ++ old ++ after) (take m (writes_at p new)) ≡ before ++ (take m new ++ drop (length (take m new)) old) ++ after
cut-middle m before old after p new e h = rw take-writes_at (stored-middle before old after p (take m new) e (rw length-take (omega arith)))
