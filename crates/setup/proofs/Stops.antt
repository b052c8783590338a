-- Where a set-up list runs out of bytes, section by section.
-- Assumes nothing.
use Rattle.std.specs.Prelude.{Option, Some, None, Result, Ok, Err}
use Prim.Native.Nat.{ℕ, zero, suc, ◌+◌, ◌-◌, ◌^◌, ◌<◌, ◌≤◌}
use native.Mathlib.Omega.{arith}
use mathlib.Core.Path.{◌≡◌, refl, ap, sym, ◌∙◌}
use mathlib.Core.List.{List, ◌∷◌}
use lib.ListN.{length, take, drop, length-drop}
use lib.Seq.{drop-drop}
use mir.Syntax.{w64}
use mir.Val.{Fits}
use borrow.Author.Rules.{rules}
use Rattle.number.specs.Number.{read_at}
use Rattle.layout.specs.Recording.{Section}
use Rattle.layout.specs.Reading.{Parsed, bad, good, Reader, onward, behind, fault_at, placed, ◌then◌, give, times, number, block, string}
use Rattle.layout.specs.Recorder.{configured, set_up_section, set_up_list}
use Rattle.layout.proofs.Readers.{then-takes, block-is}
use Rattle.parts.proofs.Readers.{then-bad, then-onward, number_cut}
use Rattle.parts.proofs.Taken.{number_read, then-give, then-next-bad, block-short, times-first-bad}
use Rattle.strings.specs.Strings.{text_of}
use Rattle.strings.proofs.Laws.{string-past, string-parts, text_of-broken}
use Rattle.setup.specs.SetUp.{section_at, stop_of}
use Rattle.parts.specs.Parts.{broken_at}
use Rattle.parts.specs.declared.Fault.{Fault}
use Rattle.setup.proofs.SetUp.{no-list}

abbrev fault : ℕ → Result ℕ Fault
fault p = Err (broken_at p)

-- ── A section ──

-- a short string of any bytes fails where they run out
string-out : (t : List ℕ) (m : ℕ) → string t ≡ bad m → m ≡ length t
unfolding string placed fault_at
string-out t m e = go ((number 1 then block) t) e
  where
    go : (p : Parsed (List ℕ)) → fault_at (length t) p ≡ bad m → m ≡ length t
    go (bad i) h = cc
    go (good v n) h = let z : ◌≡◌ {A = ℕ} 0 1 = cc in absurd (omega arith)

-- behind a section's name
abbrev after : List ℕ → Reader Section
after v = configured then λ c. give (record { name = v; configuration = c })

module _ (s : List ℕ) (at : ℕ) where
  name_out : text_of (string (drop at s)) ≡ None → section_at at (set_up_section (drop at s)) ≡ Err (broken_at (at + (length s - at)))
  unfolding set_up_section section_at
  name_out e =
      let (m, f) = text_of-broken (string (drop at s)) e in
      let g : m ≡ length s - at = string-out (drop at s) m f ∙ length-drop at s in
      rw (then-bad string after (drop at s) f, g)

  pub section-past : length s ≤ at → Err (broken_at at) ≡ section_at at (set_up_section (drop at s))
  section-past h = ap fault (omega arith) ∙ sym (name_out (sym (string-past s at h)))

  pub section-cut : (r : Option ℕ) → at < length s → r ≡ text_of (string (drop at s)) → r ≡ None
      → Err (broken_at (length s)) ≡ section_at at (set_up_section (drop at s))
  section-cut r h p q = ap fault (omega arith) ∙ sym (name_out (sym p ∙ q))

  module _ (n : ℕ) (r : Option ℕ) (p : r ≡ text_of (string (drop at s))) (q : r ≡ Some n) where
    pub named-inside : at + 1 + n ≤ length s
    named-inside = (string-parts s at n (sym p ∙ q)).0

    pub named_start : length s < 2 ^ 64 → Fits w64 (at + 1)
    named_start h = omega (arith, named-inside)

    pub named_end : length s < 2 ^ 64 → Fits w64 (at + 1 + n)
    named_end h = omega (arith, named-inside)

    -- what stands behind the name says where the section ends
    by-rest : (v : List ℕ) (x : Parsed Section) → v ≡ take n (drop (at + 1) s) → after v (drop (at + 1 + n) s) ≡ x
        → section_at at (set_up_section (drop at s)) ≡ section_at (at + 1 + n) x
    unfolding set_up_section section_at behind
    by-rest v x e f =
        let i : at + (1 + n) ≡ at + 1 + n = omega arith in
        let d : drop (1 + n) (drop at s) ≡ drop (at + 1 + n) s = drop-drop (1 + n) at s ∙ ap (λ (j : ℕ). drop j s) i in
        rw (then-onward string after (drop at s) v (1 + n) ((string-parts s at n (sym p ∙ q)).2 ∙ rw e), d, f) (go x)
      where
        go : (x : Parsed Section) → section_at at (behind (1 + n) x) ≡ section_at (at + 1 + n) x
        go (bad m) = ap fault (omega arith)
        go (good y m) = ap Ok (omega arith)

    pub section-size : length s - (at + 1 + n) < 2 → Err (broken_at (at + 1 + n)) ≡ section_at at (set_up_section (drop at s))
    unfolding section_at configured
    section-size h =
        let v : List ℕ = take n (drop (at + 1) s) in
        let g : after v (drop (at + 1 + n) s) ≡ bad 0 = then-bad configured (λ c. give (record { name = v; configuration = c })) (drop (at + 1 + n) s)
        (then-bad (number 2) block (drop (at + 1 + n) s) (number_cut 2 s (at + 1 + n) h)) in
        ap fault (omega arith) ∙ sym (by-rest v (bad 0) refl g)

    module _ (size : ℕ) (h : 2 ≤ length s - (at + 1 + n)) (e : size ≡ read_at s (at + 1 + n) 2) where
      sized : number 2 (drop (at + 1 + n) s) ≡ good size 2
      sized = rw e (number_read s (at + 1 + n) 2 (omega arith) (omega arith))

      pub section-short : length s - (at + 1 + n + 2) < size → Err (broken_at (at + 1 + n + 2)) ≡ section_at at (set_up_section (drop at s))
      unfolding section_at configured
      section-short f =
          let v : List ℕ = take n (drop (at + 1) s) in
          let b : block size (drop 2 (drop (at + 1 + n) s)) ≡ bad 0 = rw (drop-drop 2 (at + 1 + n) s) (block-short size s (at + 1 + n + 2) f) in
          let g : after v (drop (at + 1 + n) s) ≡ bad (2 + 0) =
          then-bad configured (λ c. give (record { name = v; configuration = c })) (drop (at + 1 + n) s)
          (then-next-bad (number 2) block (drop (at + 1 + n) s) size 2 sized b) in
          sym (by-rest v (bad (2 + 0)) refl g)

      pub section-whole : size ≤ length s - (at + 1 + n + 2) → Ok (at + 1 + n + 2 + size) ≡ section_at at (set_up_section (drop at s))
      unfolding section_at configured
      section-whole f =
          let v : List ℕ = take n (drop (at + 1) s) in
          let t : List ℕ = drop 2 (drop (at + 1 + n) s) in
          let k : size ≤ length t = simp length-drop (omega arith) in
          let c : configured (drop (at + 1 + n) s) ≡ good (take size t) (2 + size) =
          then-takes (number 2) block (drop (at + 1 + n) s) size (take size t) 2 size sized (block-is size t k) in
          let g : after v (drop (at + 1 + n) s) ≡ good (record { name = v; configuration = take size t }) (2 + size) =
          then-give configured (λ c. record { name = v; configuration = c }) (drop (at + 1 + n) s) (take size t) (2 + size) c in
          ap Ok (omega arith) ∙ sym (by-rest v (good (record { name = v; configuration = take size t }) (2 + size)) refl g)

-- ── Section by section ──

stop-behind : {A : Type 0} (x : Parsed A) (n : ℕ) → stop_of (behind n x) ≡ n + stop_of x
unfolding stop_of behind
stop-behind (bad m) n = refl
stop-behind (good a m) n = refl

stop-made : {A B : Type 0} (x : Parsed A) (f : A → B) → stop_of (onward x (λ a m. good (f a) m)) ≡ stop_of x
unfolding stop_of onward
stop-made (bad m) f = refl
stop-made (good a m) f = refl

pub stop-empty : (s : List ℕ) → length s ≡ 0 → 0 ≡ stop_of (set_up_list s)
unfolding stop_of
stop-empty s h = rw (no-list s (omega arith))

pub stop-first : (s : List ℕ) (n : ℕ) → (length s ≡ 0 → ⊥) → n ≡ read_at s 0 1
    → 1 + stop_of (times n set_up_section (drop 1 s)) ≡ stop_of (set_up_list s)
unfolding set_up_list
stop-first s n h e =
    rw (then-onward (number 1) (λ k. times k set_up_section) (drop 0 s) n 1 (rw e (number_read s 0 1 (omega arith) (one (length s) h))))
    (sym (stop-behind (times n set_up_section (drop 1 s)) 1))
  where
    one : (k : ℕ) → (k ≡ 0 → ⊥) → 0 + 1 ≤ k
    one zero h = absurd (h refl)
    one (suc k) h = omega arith

module _ (s : List ℕ) (at left all : ℕ) (e : at + stop_of (times left set_up_section (drop at s)) ≡ all) where
  pub stop-done : left ≤ 0 → at ≡ all
  unfolding times stop_of
  stop-done h = go left h e
    where
      go : (n : ℕ) → n ≤ 0 → at + stop_of (times n set_up_section (drop at s)) ≡ all → at ≡ all
      go zero l f = omega arith
      go (suc n) l f = absurd (omega arith)

  module _ (r : Result ℕ Fault) (f : r ≡ section_at at (set_up_section (drop at s))) where
    pub stop-fault : (x : Fault) → 0 < left → r ≡ Err x → x.place ≡ all
    unfolding section_at stop_of
    stop-fault x h g = go (set_up_section (drop at s)) refl (sym f ∙ g)
      where
        go : (y : Parsed Section) → set_up_section (drop at s) ≡ y → section_at at y ≡ Err x → x.place ≡ all
        go (good y n) i j = let z : ◌≡◌ {A = ℕ} 0 1 = cc in absurd (omega arith)
        go (bad m) i j =
            let a : ◌≡◌ {A = Fault} (broken_at (at + m)) x = cc in
            sym (ap (λ (v : Fault). v.place) a) ∙ rw (times-first-bad set_up_section left (drop at s) h i) at e

    pub stop-next : (end later : ℕ) → r ≡ Ok end → left ≡ later + 1 → end + stop_of (times later set_up_section (drop end s)) ≡ all
    unfolding section_at times onward
    stop-next end later g l = go (set_up_section (drop at s)) refl (sym f ∙ g)
      where
        go : (x : Parsed Section) → set_up_section (drop at s) ≡ x → section_at at x ≡ Ok end
            → end + stop_of (times later set_up_section (drop end s)) ≡ all
        go (bad m) i j = let z : ◌≡◌ {A = ℕ} 0 1 = cc in absurd (omega arith)
        go (good y n) i j =
            let a : end ≡ at + n = cc in
            let b : left ≡ suc later = omega arith in
            let u : times (suc later) set_up_section (drop at s)
            ≡ behind n (onward (times later set_up_section (drop (at + n) s)) (λ xs m. good (y ∷ xs) m)) = rw (i, drop-drop n at s) in
            let v : stop_of (times (suc later) set_up_section (drop at s)) ≡ n + stop_of (times later set_up_section (drop (at + n) s)) =
            ap stop_of u ∙ stop-behind (onward (times later set_up_section (drop (at + n) s)) (λ xs m. good (y ∷ xs) m)) n
            ∙ ap (λ (j : ℕ). n + j) (stop-made (times later set_up_section (drop (at + n) s)) (λ xs. y ∷ xs)) in
            let w : at + stop_of (times (suc later) set_up_section (drop at s)) ≡ all = rw b at e in
            rw a (omega arith)

pub ruleset laws = (
  rules,
  named-inside,
  named_start,
  named_end,
  section-past,
  section-cut,
  section-size,
  section-short,
  section-whole,
  stop-empty,
  stop-first,
  stop-done,
  stop-fault,
  stop-next,
)
