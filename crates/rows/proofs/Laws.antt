-- Rows that begin with a name: what the functions over them leave to be shown.
-- Assumes nothing.
use Rattle.std.specs.Prelude.{Option, Some, None}
use Prim.Native.Nat.{ℕ, suc, ◌+◌, ◌*◌, ◌-◌, ◌^◌, ◌<◌, ◌≤◌}
use native.Mathlib.Omega.{arith}
use mathlib.Core.Path.{◌≡◌, refl, ap, sym, ◌∙◌}
use mathlib.Core.Bool.{cond}
use mathlib.Core.List.{List, []}
use lib.ListN.{length, take, drop, get_or}
use lib.Seq.{drop-cons, drop-drop}
use lib.Dec.{eqb}
use mir.Syntax.{w64}
use mir.Val.{Fits}
use borrow.Author.Rules.{rules}
use borrow.Author.Tests.{le-leb, eq-eqb, ne_eqb}
use Rattle.number.specs.Number.{number_of, read_at}
use Rattle.layout.specs.Reading.{Parsed, bad, good, behind, ◌then◌, give, number, block, string, times}
use Rattle.strings.specs.Strings.{text_of}
use Rattle.parts.specs.Parts.{end_of}
use Rattle.rows.specs.Rows.{entry, rest, row_name, row_of, row_whole}
use Rattle.rows.specs.declared.Row.{Row}
use Rattle.rows.specs.declared.Row.TheVariants.{Definition, SetUp, Tag, Change}
use Rattle.strings.proofs.Laws.{string-parts, text-fits, text-place, text_of-broken, part_length}
use Rattle.rows.specs.declared.RowPlace.{RowPlace}
use Rattle.parts.proofs.Times.{times-done, times-stop, times-end}
use Rattle.parts.proofs.Readers.{then-bad, then-onward, then-end, number-there, number_cut, block-cut, block-whole, end-good, end-bad}

-- ── Numbers, blocks and short strings at a place ──

pub ends-broken : (s : List ℕ) (at : ℕ) (r : Option ℕ) → r ≡ text_of (string (drop at s)) → r ≡ None → None ≡ end_of at (string (drop at s))
unfolding end_of
ends-broken s at r e f = rw (text_of-broken (string (drop at s)) (sym e ∙ f)).1

pub ends-whole : (s : List ℕ) (at n : ℕ) (r : Option ℕ) → r ≡ text_of (string (drop at s)) → r ≡ Some n
    → Some (at + 1 + n) ≡ end_of at (string (drop at s))
unfolding end_of
ends-whole s at n r e f = rw (string-parts s at n (sym e ∙ f)).2 (ap Some (omega arith))

pub after-place : (s : List ℕ) (at n : ℕ) (r : Option ℕ) → length s < 2 ^ 64 → r ≡ text_of (string (drop at s)) → r ≡ Some n → Fits w64 (at + 1 + n)
after-place s at n r h e f = let l = text-fits s at n r e f in record { fits = omega arith }

-- ── What follows a name ──

pub sized-cut : (s : List ℕ) (at : ℕ) → length s - at < 2 → None ≡ end_of at ((number 2 then block) (drop at s))
unfolding end_of
sized-cut s at h = rw (then-bad (number 2) block (drop at s) (number_cut 2 s at h))

pub sized-whole : (s : List ℕ) (at n : ℕ) (r : Option ℕ) → at ≤ length s → 2 ≤ length s - at → n ≡ read_at s at 2
    → r ≡ end_of (at + 2) (block n (drop (at + 2) s)) → r ≡ end_of at ((number 2 then block) (drop at s))
sized-whole s at n r l h e f =
    f ∙ sym (then-end (number 2) block s at n 2 (rw e (number-there 2 s at (omega arith) l h)))

-- the kind of an entry, which is one byte
pub entry-kind : (s : List ℕ) (at : ℕ) → at < length s → number 1 (drop at s) ≡ good (get_or s at 0) 1
unfolding number number_of
entry-kind s at h =
    let e : get_or s at 0 + 256 * 0 ≡ get_or s at 0 = omega arith in
    rw (drop-cons s at 0 h, le-leb 1 (suc (length (drop (suc at) s))) (omega arith)) (ap (λ (n : ℕ). good n 1) e)

pub entry_past : (s : List ℕ) (at : ℕ) → length s ≤ at → None ≡ end_of at (entry (drop at s))
unfolding end_of entry
entry_past s at h = rw (then-bad (number 1) (λ kind. cond (eqb kind 1) string (give [])) (drop at s) (number_cut 1 s at (omega arith)))

pub entry_value_lem : (s : List ℕ) (at : ℕ) (r : Option ℕ) → at < length s → get_or s at 0 ≡ 1 → r ≡ end_of (at + 1) (string (drop (at + 1) s))
    → r ≡ end_of at (entry (drop at s))
unfolding entry
entry_value_lem s at r h e f =
    f ∙ sym (then-end (number 1) (λ kind. cond (eqb kind 1) string (give [])) s at (get_or s at 0) 1 (entry-kind s at h)
    ∙ rw (eq-eqb (get_or s at 0) 1 e))

pub entry-none : (s : List ℕ) (at : ℕ) → at < length s → (get_or s at 0 ≡ 1 → ⊥) → Some (at + 1) ≡ end_of at (entry (drop at s))
unfolding entry end_of give
entry-none s at h e =
    sym (then-end (number 1) (λ kind. cond (eqb kind 1) string (give [])) s at (get_or s at 0) 1 (entry-kind s at h)
    ∙ rw (ne_eqb (get_or s at 0) 1 e) (ap Some (omega arith)))

pub entries-broken : (s : List ℕ) (at : ℕ) (r : Option ℕ) → r ≡ end_of at (entry (drop at s)) → r ≡ None
    → None ≡ end_of at ((entry then λ seen. entry) (drop at s))
unfolding end_of
entries-broken s at r e f = rw (then-bad entry (λ seen. entry) (drop at s) (end-bad (entry (drop at s)) at (sym e ∙ f)).1)

pub entries_next : (s : List ℕ) (at next : ℕ) (r t : Option ℕ) → r ≡ end_of at (entry (drop at s)) → r ≡ Some next
    → t ≡ end_of next (entry (drop next s)) → t ≡ end_of at ((entry then λ seen. entry) (drop at s))
entries_next s at next r t e f g =
    let (x, n, p, q) = end-good (entry (drop at s)) at next (sym e ∙ f) in
    g ∙ ap (λ (m : ℕ). end_of m (entry (drop m s))) q ∙ sym (then-end entry (λ seen. entry) s at x n p)

pub rest-definition : (s : List ℕ) (at : ℕ) (k : Row) (r : Option ℕ) → k ≡ Definition → r ≡ end_of at (block 8 (drop at s))
    → r ≡ end_of at (rest k (drop at s))
unfolding rest
rest-definition s at k r e f = rw e f

pub rest-set-up : (s : List ℕ) (at : ℕ) (k : Row) (r : Option ℕ) → k ≡ SetUp → r ≡ end_of at ((number 2 then block) (drop at s))
    → r ≡ end_of at (rest k (drop at s))
unfolding rest
rest-set-up s at k r e f = rw e f

pub rest-tag : (s : List ℕ) (at : ℕ) (k : Row) (r : Option ℕ) → k ≡ Tag → r ≡ end_of at (string (drop at s)) → r ≡ end_of at (rest k (drop at s))
unfolding rest
rest-tag s at k r e f = rw e f

pub rest-change : (s : List ℕ) (at : ℕ) (k : Row) (r : Option ℕ) → k ≡ Change → r ≡ end_of at ((entry then λ seen. entry) (drop at s))
    → r ≡ end_of at (rest k (drop at s))
unfolding rest
rest-change s at k r e f = rw e f

-- ── A row ──

row-bad : (k : Row) (s : List ℕ) (at n : ℕ) (v : List ℕ) {m : ℕ} → string (drop at s) ≡ good v (1 + n) → rest k (drop (at + 1 + n) s) ≡ bad m
    → row_name k (drop at s) ≡ bad (1 + n + m)
unfolding row_name behind
row-bad k s at n v e f =
    let q : at + (1 + n) ≡ at + 1 + n = omega arith in
    then-onward string (λ name. rest k then λ r. give name) (drop at s) v (1 + n) e
    ∙ rw (drop-drop (1 + n) at s, q, then-bad (rest k) (λ r. give v) (drop (at + 1 + n) s) f)

row-good : (k : Row) (s : List ℕ) (at n m : ℕ) (v x : List ℕ) → string (drop at s) ≡ good v (1 + n) → rest k (drop (at + 1 + n) s) ≡ good x m
    → row_name k (drop at s) ≡ good v (1 + n + m)
unfolding row_name behind give
row-good k s at n m v x e f =
    let q : at + (1 + n) ≡ at + 1 + n = omega arith in
    then-onward string (λ name. rest k then λ r. give name) (drop at s) v (1 + n) e
    ∙ rw (drop-drop (1 + n) at s, q, then-onward (rest k) (λ r. give v) (drop (at + 1 + n) s) x m f) (ap (good v) (omega arith))

pub row-no-name : (k : Row) (s : List ℕ) (at : ℕ) (r : Option ℕ) → r ≡ text_of (string (drop at s)) → r ≡ None
    → None ≡ row_of at (row_name k (drop at s))
unfolding row_name row_of
row-no-name k s at r e f = rw (then-bad string (λ name. rest k then λ r. give name) (drop at s) (text_of-broken (string (drop at s)) (sym e ∙ f)).1)

pub row-no-rest : (k : Row) (s : List ℕ) (at n : ℕ) (r : Option ℕ) (t : Option ℕ) → r ≡ text_of (string (drop at s)) → r ≡ Some n
    → t ≡ end_of (at + 1 + n) (rest k (drop (at + 1 + n) s)) → t ≡ None → None ≡ row_of at (row_name k (drop at s))
unfolding row_of
row-no-rest k s at n r t e f g h =
    rw (row-bad k s at n (take n (drop (at + 1) s)) (string-parts s at n (sym e ∙ f)).2
    (end-bad (rest k (drop (at + 1 + n) s)) (at + 1 + n) (sym g ∙ h)).1)

pub row-whole : (k : Row) (s : List ℕ) (at n end : ℕ) (r : Option ℕ) (t : Option ℕ) → r ≡ text_of (string (drop at s)) → r ≡ Some n
    → t ≡ end_of (at + 1 + n) (rest k (drop (at + 1 + n) s)) → t ≡ Some end → row_whole n end ≡ row_of at (row_name k (drop at s))
unfolding row_of
row-whole k s at n end r t e f g h =
    let (l, o, p) = string-parts s at n (sym e ∙ f) in
    let (x, m, u, w) = end-good (rest k (drop (at + 1 + n) s)) (at + 1 + n) end (sym g ∙ h) in
    let i : n ≡ length (take n (drop (at + 1) s)) = sym (part_length s at n l) in
    let j : end ≡ at + (1 + n + m) = omega arith in
    rw (row-good k s at n m (take n (drop (at + 1) s)) x p u)
    (ap (λ (z : ℕ). row_whole z end) i ∙ ap (row_whole (length (take n (drop (at + 1) s)))) j)

-- rows that are the same have names of one length, and end at one place
pub row-same : (n e m d : ℕ) → row_whole n e ≡ row_whole m d → (n ≡ m) × (e ≡ d)
row-same n e m d p =
    let q : ◌≡◌ {A = RowPlace} (record { name = n; end = e }) (record { name = m; end = d }) = cc in
    (ap (λ (r : RowPlace). r.name) q, ap (λ (r : RowPlace). r.end) q)

-- a row that is there: its name stands behind its length byte
pub row-parts : (k : Row) (s : List ℕ) (at n end : ℕ) → row_of at (row_name k (drop at s)) ≡ row_whole n end
    → (at + 1 + n ≤ length s) × (m : ℕ) × (row_name k (drop at s) ≡ good (take n (drop (at + 1) s)) m) × (end ≡ at + m)
unfolding row_of
row-parts k s at n end e = go (text_of (string (drop at s))) refl
  where
    whole : (i m : ℕ) (x : List ℕ) → text_of (string (drop at s)) ≡ Some i → rest k (drop (at + 1 + i) s) ≡ good x m
        → (at + 1 + n ≤ length s) × (m : ℕ) × (row_name k (drop at s) ≡ good (take n (drop (at + 1) s)) m) × (end ≡ at + m)
    whole i m x f g =
        let (l, o, p) = string-parts s at i f in
        let q : row_name k (drop at s) ≡ good (take i (drop (at + 1) s)) (1 + i + m) = row-good k s at i m (take i (drop (at + 1) s)) x p g in
        let h : row_whole (length (take i (drop (at + 1) s))) (at + (1 + i + m)) ≡ row_whole n end = rw q at e in
        let (u, v) = row-same n end (length (take i (drop (at + 1) s))) (at + (1 + i + m)) (sym h) in
        let j : n ≡ i = u ∙ part_length s at i l in
        (omega arith, 1 + i + m, rw j q, v)

    go-rest : (i : ℕ) (t : Option ℕ) → text_of (string (drop at s)) ≡ Some i → end_of (at + 1 + i) (rest k (drop (at + 1 + i) s)) ≡ t
        → (at + 1 + n ≤ length s) × (m : ℕ) × (row_name k (drop at s) ≡ good (take n (drop (at + 1) s)) m) × (end ≡ at + m)
    go-rest i None f g = let z : ◌≡◌ {A = ℕ} 0 1 = cc
        (row-no-rest k s at i (Some i) None (sym f) refl (sym g) refl) in absurd (omega arith)
    go-rest i (Some next) f g =
        let (x, m, u, w) = end-good (rest k (drop (at + 1 + i) s)) (at + 1 + i) next g in
        whole i m x f u

    go : (r : Option ℕ) → text_of (string (drop at s)) ≡ r → (at + 1 + n ≤ length s) × (m : ℕ)
        × (row_name k (drop at s) ≡ good (take n (drop (at + 1) s)) m) × (end ≡ at + m)
    go None f = let z : ◌≡◌ {A = ℕ} 0 1 = cc (row-no-name k s at None (sym f) refl) in absurd (omega arith)
    go (Some i) f = go-rest i (end_of (at + 1 + i) (rest k (drop (at + 1 + i) s))) f refl

pub row-broken : (p : Parsed (List ℕ)) (at : ℕ) → row_of at p ≡ None → (m : ℕ) × (p ≡ bad m)
unfolding row_of
row-broken (bad m) at e = (m, refl)
row-broken (good v n) at e = let z : ◌≡◌ {A = ℕ} 0 1 = cc in absurd (omega arith)

-- ── Rows behind each other ──

module _ (k : Row) (s : List ℕ) (at left : ℕ) (all : Option ℕ) where
  pub rows-done : left ≤ 0 → end_of at (times left (row_name k) (drop at s)) ≡ all → Some at ≡ all
  rows-done h e = sym (times-done (row_name k) left s at h) ∙ e

  pub rows-broken : (r : Option RowPlace) → 0 < left → r ≡ row_of at (row_name k (drop at s)) → r ≡ None
      → end_of at (times left (row_name k) (drop at s)) ≡ all → None ≡ all
  rows-broken r h e f g = sym (times-stop (row_name k) left s at h (row-broken (row_name k (drop at s)) at (sym e ∙ f)).1) ∙ g

  pub rows-next : (next : ℕ) (p : RowPlace) (r : Option RowPlace) → end_of at (times left (row_name k) (drop at s)) ≡ all
      → r ≡ row_of at (row_name k (drop at s)) → r ≡ Some p → left ≡ next + 1 → end_of p.end (times next (row_name k) (drop p.end s)) ≡ all
  rows-next next p r g e f h =
      let (l, m, t, w) = row-parts k s at p.name p.end (sym e ∙ f) in
      let q : next ≡ left - 1 = omega arith in
      rw (w, q) (sym (times-end (row_name k) left s at (take p.name (drop (at + 1) s)) m (omega arith) t) ∙ g)

pub ruleset laws = (
  rules,
  text-fits,
  text-place,
  ends-broken,
  ends-whole,
  after-place,
  sized-cut,
  sized-whole,
  entry_past,
  entry_value_lem,
  entry-none,
  entries-broken,
  entries_next,
  rest-definition,
  rest-set-up,
  rest-tag,
  rest-change,
  row-no-name,
  row-no-rest,
  row-whole,
  block-cut,
  block-whole,
  rows-done,
  rows-broken,
  rows-next,
)
