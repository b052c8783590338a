-- The front of a file: lines 1 to 4, and what they show.
-- Assumes nothing.
use Prim.Native.Nat.{ℕ, suc, ◌+◌, ◌-◌, ◌<◌, ◌≤◌}
use native.Mathlib.Omega.{arith}
use mathlib.Core.Path.{◌≡◌, refl, ap, sym, ◌∙◌}
use mathlib.Core.Bool.{Bool, true, false, not, ◌||◌, cond}
use mathlib.Core.List.{List, [], append-nil}
use lib.ListN.{length, take, drop}
use lib.Dec.{ltb}
use borrow.Author.Rules.{rules}
use borrow.Author.Tests.{le-leb, le-ltb, lt-ltb, ltb-false}
use Rattle.layout.specs.Recording.{Tag, file_mark, same}
use Rattle.layout.specs.Reading.{Parsed, bad, good, is_bad, value_or, taken, fault_of, table}
use Rattle.layout.specs.Opening.{first_of, header_count, index_offset, system_offset, user_offset, defined_in, read_system, walk_start, last_offset, not_fstf, other_revision, bad_sections, far_system, bad_system, sections_fault, system_fault, opening_place, front_lines}
use Rattle.layout.proofs.Lists.{or-false}
use Rattle.layout.proofs.Lines.{line-pass, line-holds, FrontPasses, front-pass}
use Rattle.tables.specs.Tables.{table_whole, table_place_of}
use Rattle.tables.specs.declared.TablePlace.{TablePlace}
use Rattle.std.specs.Prelude.{Option, Some, None, Result, Ok, Err}
use Rattle.parts.specs.Parts.{broken_at}
use Rattle.parts.specs.declared.Fault.{Fault}
use Rattle.refusal.specs.Refusal.{placed, unless}
use Rattle.refusal.specs.declared.Refusal.TheVariants.{NotFstf, Revision, Sections, SystemTable}
use Rattle.front.specs.Front.{sections_of, system_table, front_held, front_of}
use Rattle.header.specs.Header.{header_of}
use Rattle.header.specs.declared.Header.{Header}
use Rattle.front.specs.declared.Sections.{Sections as Defined}

-- ── The header of a file that has one ──

pub fstf-long : (f : List ℕ) → not_fstf f ≡ false → 34 ≤ length f
unfolding not_fstf
fstf-long f e = ltb-false (length f) 34 (or-false (ltb (length f) 34) (not (same (take 4 f) file_mark)) e).0

pub header_is : (f : List ℕ) → not_fstf f ≡ false
    → header_of f ≡ record { count = header_count f; index = index_offset f; system = system_offset f; user = user_offset f }
unfolding header_of
header_is f e = let l = fstf-long f e in rw (le-leb 33 (length f) (omega arith))

-- ── 3 ──

sections-refused : (f : List ℕ) → sections_of f ≡ None → bad_sections f ≡ true
unfolding sections_of
sections-refused f e = go (bad_sections f) e
  where
    go : (b : Bool) → ◌≡◌ {A = Option Defined} (cond b None (Some (record { count = length (defined_in f); last = last_offset 0 (defined_in f) }))) None
        → b ≡ true
    go true q = refl
    go false q = let z : ◌≡◌ {A = ℕ} 0 1 = cc in absurd (omega arith)

sections-pass : (f : List ℕ) (d : Defined) → sections_of f ≡ Some d
    → (bad_sections f ≡ false) × (length (defined_in f) ≡ d.count) × (last_offset 0 (defined_in f) ≡ d.last)
unfolding sections_of
sections-pass f d e = go (bad_sections f) e
  where
    go : (b : Bool) → ◌≡◌ {A = Option Defined} (cond b None (Some (record { count = length (defined_in f); last = last_offset 0 (defined_in f) }))) (Some d)
        → (b ≡ false) × (length (defined_in f) ≡ d.count) × (last_offset 0 (defined_in f) ≡ d.last)
    go true q = let z : ◌≡◌ {A = ℕ} 0 1 = cc in absurd (omega arith)
    go false q =
        let r : ◌≡◌ {A = Defined} (record { count = length (defined_in f); last = last_offset 0 (defined_in f) }) d = cc in
        (refl, ap (λ (x : Defined). x.count) r, ap (λ (x : Defined). x.last) r)

-- ── 4 ──

pub system-early : (f : List ℕ) (system last : ℕ) → system < last → Err (broken_at 17) ≡ system_table f system last
unfolding system_table
system-early f system last h = rw (lt-ltb system last h)

pub system-late : (f : List ℕ) (system last : ℕ) → last ≤ system → 65535 < system - last → Err (broken_at 17) ≡ system_table f system last
unfolding system_table
system-late f system last h l = rw (le-ltb system last h, lt-ltb (last + 65535) system (omega arith))

pub system-there : (f : List ℕ) (system last : ℕ) (r : Result TablePlace Fault) → last ≤ system → system - last ≤ 65535
    → r ≡ table_place_of system (table (drop system f)) → r ≡ system_table f system last
unfolding system_table
system-there f system last r h l e = e ∙ rw (le-ltb system last h, le-ltb (last + 65535) system (omega arith))

-- a table that was found
pub table-found : (f : List ℕ) (at : ℕ) (w : TablePlace) → table_place_of at (table (drop at f)) ≡ Ok w
    → (ts : List Tag) × (m : ℕ) × (table (drop at f) ≡ good ts m) × (length ts ≡ w.tags) × (at + m ≡ w.end)
unfolding table_place_of
table-found f at w q = go (table (drop at f)) refl q
  where
    go : (p : Parsed (List Tag)) → table (drop at f) ≡ p → table_place_of at p ≡ Ok w
        → (ts : List Tag) × (m : ℕ) × (table (drop at f) ≡ good ts m) × (length ts ≡ w.tags) × (at + m ≡ w.end)
    go (bad i) e g = let z : ◌≡◌ {A = ℕ} 0 1 = cc in absurd (omega arith)
    go (good ts m) e g =
        let r : ◌≡◌ {A = TablePlace} (table_whole (length ts) (at + m)) w = cc in
        (ts, m, e, ap (λ (x : TablePlace). x.tags) r, ap (λ (x : TablePlace). x.end) r)

pub table_none : (f : List ℕ) (at : ℕ) (k : Fault) → table_place_of at (table (drop at f)) ≡ Err k
    → (m : ℕ) × (table (drop at f) ≡ bad m) × (at + m ≡ k.place)
unfolding table_place_of
table_none f at k q = go (table (drop at f)) refl q
  where
    go : (p : Parsed (List Tag)) → table (drop at f) ≡ p → table_place_of at p ≡ Err k → (m : ℕ) × (table (drop at f) ≡ bad m) × (at + m ≡ k.place)
    go (bad m) e g = let r : ◌≡◌ {A = Fault} (broken_at (at + m)) k = cc in (m, e, ap (λ (x : Fault). x.place) r)
    go (good ts m) e g = let z : ◌≡◌ {A = ℕ} 0 1 = cc in absurd (omega arith)

system-refused : (f : List ℕ) (k : Fault) → system_table f (system_offset f) (last_offset 0 (defined_in f)) ≡ Err k
    → (bad_system f ≡ true) × (system_fault f ≡ k.place)
unfolding system_table bad_system system_fault read_system fault_of
system-refused f k e = go (far_system f) e
  where
    go : (b : Bool) → cond b (Err (broken_at 17)) (table_place_of (system_offset f) (table (drop (system_offset f) f))) ≡ Err k
        → ((b || is_bad (table (drop (system_offset f) f))) ≡ true) × (cond b 17 (system_offset f + fault_of (table (drop (system_offset f) f))) ≡ k.place)
    go true q = let r : ◌≡◌ {A = Fault} (broken_at 17) k = cc in (refl, ap (λ (x : Fault). x.place) r)
    go false q = let (m, g, h) = table_none f (system_offset f) k q in (rw g, rw g h)

system-pass : (f : List ℕ) (w : TablePlace) → system_table f (system_offset f) (last_offset 0 (defined_in f)) ≡ Ok w
    → (bad_system f ≡ false) × (length (value_or [] (read_system f)) ≡ w.tags) × (walk_start f ≡ w.end)
unfolding system_table bad_system read_system walk_start value_or taken
system-pass f w e = go (ltb (system_offset f) (last_offset 0 (defined_in f)) || ltb (last_offset 0 (defined_in f) + 65535) (system_offset f)) e
  where
    found : ((ts : List Tag) × (m : ℕ) × (table (drop (system_offset f) f) ≡ good ts m) × (length ts ≡ w.tags) × (system_offset f + m ≡ w.end))
        → (is_bad (table (drop (system_offset f) f)) ≡ false) × (length (value_or [] (read_system f)) ≡ w.tags) × (walk_start f ≡ w.end)
    found (ts, m, g, l, s) = rw g ((refl, l, s))

    go : (b : Bool) → cond b (Err (broken_at 17)) (table_place_of (system_offset f) (table (drop (system_offset f) f))) ≡ Ok w
        → ((b || is_bad (table (drop (system_offset f) f))) ≡ false) × (length (value_or [] (read_system f)) ≡ w.tags) × (walk_start f ≡ w.end)
    go true q = let z : ◌≡◌ {A = ℕ} 0 1 = cc in absurd (omega arith)
    go false q = found (table-found f (system_offset f) w q)

-- ── The first of the four that holds ──

front-number : (f : List ℕ) (n : ℕ) → first_of (front_lines f) ≡ suc n → Err (placed (suc n) (opening_place (suc n) f)) ≡ front_of f
unfolding front_of unless
front-number f n e = rw e

module _ (f : List ℕ) (a : Bool) (p : a ≡ not_fstf f) where
  pub front-not-fstf : a ≡ true → Err NotFstf ≡ front_of f
  unfolding front_lines opening_place
  front-not-fstf q = front-number f 0 (line-holds 1 (not_fstf f) _ (sym p ∙ q))

  module _ (b : Bool) (q : a ≡ false) (r : b ≡ other_revision f) where
    pub front-revision : b ≡ true → Err Revision ≡ front_of f
    unfolding front_lines opening_place
    front-revision s = front-number f 1 (line-pass 1 (not_fstf f) _ (sym p ∙ q) ∙ line-holds 2 (other_revision f) _ (sym r ∙ s))

    module _ (c : Option Defined) (s : b ≡ false) (t : c ≡ sections_of f) where
      pub front-sections : (k : ℕ) → c ≡ None → k ≡ sections_fault f → Err (Sections k) ≡ front_of f
      unfolding front_lines opening_place
      front-sections k u v =
          ap (λ (x : ℕ). Err (Sections x)) v ∙ front-number f 2 (line-pass 1 (not_fstf f) _ (sym p ∙ q) ∙ line-pass 2 (other_revision f) _ (sym r ∙ s)
          ∙ line-holds 3 (bad_sections f) _ (sections-refused f (sym t ∙ u)))

      -- the header and the sections that the code found
      module _ (d : Defined) (h : Header) (w : Result TablePlace Fault) (u : c ≡ Some d) (v : h ≡ header_of f) (x : w ≡ system_table f h.system d.last) where
        system-of : system_table f (system_offset f) (last_offset 0 (defined_in f)) ≡ w
        system-of = sym (x ∙ rw (v, header_is f (sym p ∙ q), (sections-pass f d (sym t ∙ u)).2))

        pub front-system : (k : Fault) → w ≡ Err k → Err (SystemTable k.place) ≡ front_of f
        unfolding front_lines opening_place
        front-system k y =
            let (z, i) = system-refused f k (system-of ∙ y) in
            ap (λ (x : ℕ). Err (SystemTable x)) (sym i) ∙ front-number f 3
            (line-pass 1 (not_fstf f) _ (sym p ∙ q) ∙ line-pass 2 (other_revision f) _ (sym r ∙ s)
            ∙ line-pass 3 (bad_sections f) _ (sections-pass f d (sym t ∙ u)).0
            ∙ line-holds 4 (bad_system f) _ z)

        none : FrontPasses f → first_of (front_lines f) ≡ 0
        unfolding first_of
        none p = ap first_of (sym (append-nil (front_lines f))) ∙ front-pass f [] p

        pub front-whole : (m : TablePlace) → w ≡ Ok m
            → Ok (record { sections = d.count; system = h.system; system_tags = m.tags; start = m.end }) ≡ front_of f
        unfolding front_of unless front_held
        front-whole m y =
            let (n, e, k) = sections-pass f d (sym t ∙ u) in
            let (z, i, j) = system-pass f m (system-of ∙ y) in
            let l : first_of (front_lines f) ≡ 0 = none (record { mark = sym p ∙ q; version = sym r ∙ s; sections = n; system = z }) in
            let o : h.system ≡ system_offset f = ap (λ (v : Header). v.system) (v ∙ header_is f (sym p ∙ q)) in
            rw (l, e, i, j, o)

pub ruleset laws = (
  rules,
  system-early,
  system-late,
  system-there,
  front-not-fstf,
  front-revision,
  front-sections,
  front-system,
  front-whole,
)
