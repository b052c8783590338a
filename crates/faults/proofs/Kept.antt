-- Rows passed one after the other: their places stand in the order of their names, and what is left has the fault of them all.
-- Assumes nothing.
use Prim.Native.Nat.{ℕ, zero, suc, ◌+◌, ◌-◌, ◌<◌, ◌≤◌}
use native.Mathlib.Omega.{arith}
use mathlib.Core.Path.{◌≡◌, refl, ap, sym, ◌∙◌}
use mathlib.Core.Bool.{Bool, true, false, ◌||◌}
use mathlib.Core.List.{List, [], ◌∷◌, ◌++◌}
use lib.ListN.{length, take, drop, get_or}
use lib.Seq.{drop-drop}
use lib.Pow.{are_bytes}
use mir.Syntax.{w8}
use mir.Val.{Fits}
use borrow.Author.Rules.{rules}
use Rattle.number.proofs.Bytes.{slice-bytes}
use Rattle.layout.specs.Recording.{same, among}
use Rattle.layout.specs.Reading.{Parsed, bad, good, Reader, rows_fault}
use Rattle.layout.proofs.Lists.{bytes_take, bytes_drop}
use Rattle.rows.specs.declared.Row.{Row}
use Rattle.order.specs.Order.{key, name_of, name_at, keys, seek, inserted}
use Rattle.order.proofs.Keys.{key-same}
use Rattle.order.proofs.Seats.{ascend, holds, or_swap, seek-met, seek-new, inserted-holds, length_inserted}
use Rattle.faults.specs.Faults.{rule_of, name_by, rest_by, rest_of, passed_by, seated_by, row_passed}
use Rattle.faults.specs.declared.Passed.{Passed}
use Rattle.parts.specs.Parts.{broken_at}
use Rattle.parts.specs.declared.Fault.{Fault}
use Rattle.std.specs.Prelude.{Option, Some, None, Result, Ok, Err}
use Rattle.faults.proofs.Laws.{read-parts}

-- ── The first fault of rows, by the first of them ──

module _ (name : Reader (List ℕ)) (more : ℕ → Reader ℕ) (before : ℕ) (ns : List (List ℕ)) (t : List ℕ) where
  faults-none : (left : ℕ) → left ≤ 0 → rows_fault left name more before ns t ≡ 0
  unfolding rows_fault
  faults-none zero h = refl
  faults-none (suc left) h = absurd (omega arith)

  faults-name : (left m : ℕ) → 0 < left → name t ≡ bad m → rows_fault left name more before ns t ≡ m
  unfolding rows_fault
  faults-name zero m h e = absurd (omega arith)
  faults-name (suc left) m h e = rw (e, rows_fault)

  module _ (v : List ℕ) (m : ℕ) (e : name t ≡ good v m) where
    faults-twice : (left : ℕ) → 0 < left → among v ns ≡ true → rows_fault left name more before ns t ≡ 0
    unfolding rows_fault
    faults-twice zero h a = absurd (omega arith)
    faults-twice (suc left) h a = rw (e, rows_fault) (rw a)

    faults-rest : (left j : ℕ) → 0 < left → among v ns ≡ false → more before (drop m t) ≡ bad j → rows_fault left name more before ns t ≡ m + j
    unfolding rows_fault
    faults-rest zero j h a f = absurd (omega arith)
    faults-rest (suc left) j h a f = rw (e, rows_fault) (rw (a, f))

    faults-suc : (left next j : ℕ) → among v ns ≡ false → more before (drop m t) ≡ good next j
        → rows_fault (suc left) name more before ns t ≡ m + (j + rows_fault left name more next (ns ++ v ∷ []) (drop j (drop m t)))
    unfolding rows_fault
    faults-suc left next j a f = rw (e, rows_fault) (rw (a, f))

    faults-next : (left next j : ℕ) → 0 < left → among v ns ≡ false → more before (drop m t) ≡ good next j
        → rows_fault left name more before ns t ≡ m + (j + rows_fault (left - 1) name more next (ns ++ v ∷ []) (drop j (drop m t)))
    faults-next zero next j h a f = absurd (omega arith)
    faults-next (suc left) next j h a f =
        let q : suc left - 1 ≡ left = omega arith in
        rw q (faults-suc left next j a f)

-- ── The rows that were passed ──

-- the names that were passed, which the first places have in order; and the fault of what is left is that of all
pub record Kept (ps s : List ℕ) (k : Row) (passed place left before all : ℕ) : Type 0 where
  pub room : passed + left ≤ length ps
  pub names : List (List ℕ)
  pub ascending : ascend 0 (keys s (take passed ps)) ≡ true
  pub known : (x : List ℕ) → are_bytes x ≡ true → holds (key x) (keys s (take passed ps)) ≡ among x names
  pub fault : place + rows_fault left (name_by k) (rest_by k) before names (drop place s) ≡ all

pub kept-none : (ps s : List ℕ) (k : Row) (at n left before : ℕ) → n ≤ 1000 → length ps ≡ 1000 → left ≡ n
    → Kept ps s k 0 at left before (at + rows_fault n (name_by k) (rest_by k) before [] (drop at s))
unfolding ascend holds keys among
kept-none ps s k at n left before h l e =
    record { room = omega arith; names = []; ascending = refl; known = λ x b. refl; fault = rw e }

pub kept-done : (ps s : List ℕ) (k : Row) (passed place left before all : ℕ) → Kept ps s k passed place left before all → left ≤ 0 → place ≡ all
kept-done ps s k passed place left before all o h =
    omega (arith, faults-none (name_by k) (rest_by k) before o.names (drop place s) left h, o.fault)

among-more : (x n : List ℕ) (ns : List (List ℕ)) → (same x n || among x ns) ≡ among x (ns ++ n ∷ [])
unfolding among
among-more x n [] = refl
among-more x n (y ∷ ns) = or_swap (same x n) (same x y) (among x ns) ∙ ap (λ (b : Bool). same x y || b) (among-more x n ns)

-- the name at the place of a row is the row's
module _ (s : List ℕ) (k : Row) (place : ℕ) (v : List ℕ) (m : ℕ) (e : name_by k (drop place s) ≡ good v m) where
  named : name_at s place ≡ v
  unfolding name_by name_at name_of
  named = rw (read-parts (rule_of k) s place v m e).3

  bytes-name : ((i : ℕ) → Fits w8 (get_or s i 0)) → are_bytes v ≡ true
  unfolding name_by
  bytes-name b =
      let p : v ≡ take (length v) (drop (place + 1) s) = (read-parts (rule_of k) s place v m e).1 in
      ap are_bytes p ∙ bytes_take (length v) (drop (place + 1) s) (bytes_drop (place + 1) s (slice-bytes s b))

-- how a row was passed
row-fault : (s ps : List ℕ) (passed place : ℕ) (k : Row) (before : ℕ) (p : Fault) {G : Type 0} → row_passed s ps passed place k before ≡ Err p
    → ((m : ℕ) → name_by k (drop place s) ≡ bad m → p.place ≡ place + m → G)
    → ((v : List ℕ) (m : ℕ) → name_by k (drop place s) ≡ good v m → seek s ps passed place ≡ None → p.place ≡ place → G)
    → ((v : List ℕ) (m i j : ℕ) → name_by k (drop place s) ≡ good v m → seek s ps passed place ≡ Some i
    → rest_by k before (drop (place + m) s) ≡ bad j → p.place ≡ place + m + j → G) → G
unfolding row_passed seated_by passed_by rest_of
row-fault s ps passed place k before p {G} e f g h = go (name_by k (drop place s)) refl e
  where
    at-place : (n : ℕ) → ◌≡◌ {A = Result Passed Fault} (Err (broken_at n)) (Err p) → p.place ≡ n
    at-place n e = let q : broken_at n ≡ p = cc in sym (ap (λ (x : Fault). x.place) q)

    behind : (v : List ℕ) (m i : ℕ) (r : Parsed ℕ) → name_by k (drop place s) ≡ good v m → seek s ps passed place ≡ Some i
        → rest_by k before (drop (place + m) s) ≡ r → passed_by i (rest_of (place + m) r) ≡ Err p → G
    behind v m i (bad j) a b c d = h v m i j a b c (at-place (place + m + j) d)
    behind v m i (good n j) a b c d = let z : ◌≡◌ {A = ℕ} 0 1 = cc in absurd (omega arith)

    sat : (v : List ℕ) (m : ℕ) (t : Option ℕ) → name_by k (drop place s) ≡ good v m → seek s ps passed place ≡ t
        → seated_by t place (rest_of (place + m) (rest_by k before (drop (place + m) s))) ≡ Err p → G
    sat v m None a b c = g v m a b (at-place place c)
    sat v m (Some i) a b c = behind v m i (rest_by k before (drop (place + m) s)) a b refl c

    go : (x : Parsed (List ℕ)) → name_by k (drop place s) ≡ x → ◌≡◌ {A = Result Passed Fault} (elim x [
      | bad m ↦ Err (broken_at (place + m))
      | good name m ↦ seated_by (seek s ps passed place) place (rest_of (place + m) (rest_by k before (drop (place + m) s)))
    ]) (Err p) → G
    go (bad m) a b = f m a (at-place (place + m) b)
    go (good v m) a b = sat v m (seek s ps passed place) a refl b

row_on : (s ps : List ℕ) (passed place : ℕ) (k : Row) (before : ℕ) (p : Passed) {G : Type 0} → row_passed s ps passed place k before ≡ Ok p
    → ((v : List ℕ) (m j : ℕ) → name_by k (drop place s) ≡ good v m → seek s ps passed place ≡ Some p.seat
    → rest_by k before (drop (place + m) s) ≡ good p.number j → p.end ≡ place + m + j → G) → G
unfolding row_passed seated_by passed_by rest_of
row_on s ps passed place k before p {G} e h = go (name_by k (drop place s)) refl e
  where
    behind : (v : List ℕ) (m l : ℕ) (r : Parsed ℕ) → name_by k (drop place s) ≡ good v m → seek s ps passed place ≡ Some l
        → rest_by k before (drop (place + m) s) ≡ r → passed_by l (rest_of (place + m) r) ≡ Ok p → G
    behind v m l (bad j) a b c d = let z : ◌≡◌ {A = ℕ} 0 1 = cc in absurd (omega arith)
    behind v m l (good x j) a b c d =
        let q : ◌≡◌ {A = Passed} (record { seat = l; end = place + m + j; number = x }) p = cc in
        h v m j a (b ∙ ap (λ (r : Passed). Some r.seat) q) (c ∙ ap (λ (r : Passed). good r.number j) q) (sym (ap (λ (r : Passed). r.end) q))

    sat : (v : List ℕ) (m : ℕ) (t : Option ℕ) → name_by k (drop place s) ≡ good v m → seek s ps passed place ≡ t
        → seated_by t place (rest_of (place + m) (rest_by k before (drop (place + m) s))) ≡ Ok p → G
    sat v m None a b c = let z : ◌≡◌ {A = ℕ} 0 1 = cc in absurd (omega arith)
    sat v m (Some l) a b c = behind v m l (rest_by k before (drop (place + m) s)) a b refl c

    go : (x : Parsed (List ℕ)) → name_by k (drop place s) ≡ x → ◌≡◌ {A = Result Passed Fault} (elim x [
      | bad m ↦ Err (broken_at (place + m))
      | good name m ↦ seated_by (seek s ps passed place) place (rest_of (place + m) (rest_by k before (drop (place + m) s)))
    ]) (Ok p) → G
    go (bad m) a b = let z : ◌≡◌ {A = ℕ} 0 1 = cc in absurd (omega arith)
    go (good v m) a b = sat v m (seek s ps passed place) a refl b

module _ (ps s : List ℕ) (k : Row) (passed place left before all : ℕ) (b : (i : ℕ) → Fits w8 (get_or s i 0)) (o : Kept ps s k passed place left before all)
  where
    told : (v : List ℕ) (m : ℕ) (c : Bool) → name_by k (drop place s) ≡ good v m → holds (key (name_at s place)) (keys s (take passed ps)) ≡ c
        → among v o.names ≡ c
    told v m c e h =
        let q : holds (key v) (keys s (take passed ps)) ≡ c = rw (named s k place v m e) at h in
        sym (o.known v (bytes-name s k place v m e b)) ∙ q

    met : (v : List ℕ) (m : ℕ) → name_by k (drop place s) ≡ good v m → passed ≤ length ps → seek s ps passed place ≡ None
        → among v o.names ≡ true
    met v m e l h = told v m true e (seek-met s ps passed place l h)

    new : (v : List ℕ) (m i : ℕ) → name_by k (drop place s) ≡ good v m → passed < length ps → seek s ps passed place ≡ Some i
        → among v o.names ≡ false
    new v m i e l h = told v m false e (seek-new s ps passed place i l o.ascending h).1

    stopped : (p : Fault) → 0 < left → row_passed s ps passed place k before ≡ Err p → p.place ≡ all
    stopped p l e =
        let m : passed < length ps = omega (arith, o.room) in
        row-fault s ps passed place k before p e (λ i f g.
        omega (arith, faults-name (name_by k) (rest_by k) before o.names (drop place s) left i l f, o.fault)) (λ v i f g h.
        omega (
          arith,
          faults-twice (name_by k) (rest_by k) before o.names (drop place s) v i f left l (met v i f (omega arith) g),
          o.fault,
        )) (λ v i j c f g h q.
        let r : rest_by k before (drop i (drop place s)) ≡ bad c = rw (drop-drop i place s) h in
        omega (
          arith,
          faults-rest (name_by k) (rest_by k) before o.names (drop place s) v i f left c l (new v i j f m g) r,
          o.fault,
        ))

    onward : (p : Passed) → 0 < left → row_passed s ps passed place k before ≡ Ok p
        → Kept (inserted ps passed p.seat place) s k (passed + 1) p.end (left - 1) p.number all
    onward p l e =
        let m : passed < length ps = omega (arith, o.room) in
        row_on s ps passed place k before p e (λ v c j f g h q.
        let (u, w, x) = seek-new s ps passed place p.seat m o.ascending g in
        let a : rest_by k before (drop c (drop place s)) ≡ good p.number j = rw (drop-drop c place s) h in
        let d : drop j (drop c (drop place s)) ≡ drop p.end s = rw (drop-drop c place s, drop-drop j (place + c) s, q) in
        let y = faults-next (name_by k) (rest_by k) before o.names (drop place s) v c f left p.number j l (new v c p.seat f m g) a in
        let z : rows_fault left (name_by k) (rest_by k) before o.names (drop place s)
        ≡ c + (j + rows_fault (left - 1) (name_by k) (rest_by k) p.number (o.names ++ v ∷ []) (drop p.end s)) = rw d at y in
        record {
          room = omega (arith, length_inserted ps passed p.seat place, o.room);
          names = o.names ++ v ∷ [];
          ascending = x;
          known = λ t bs. inserted-holds s ps passed p.seat place m u (key t)
              ∙ rw (named s k place v c f, key-same t v bs (bytes-name s k place v c f b), o.known t bs) (among-more t v o.names);
          fault = omega (arith, z, o.fault, q);
        })

module _ (ps s : List ℕ) (k : Row) (passed place left before all : ℕ) (r : Result Passed Fault) where
  pub kept-fault : (p : Fault) → Kept ps s k passed place left before all → r ≡ row_passed s ps passed place k before → r ≡ Err p
      → ((i : ℕ) → Fits w8 (get_or s i 0)) → 0 < left → p.place ≡ all
  kept-fault p o e f b l = stopped ps s k passed place left before all b o p l (sym e ∙ f)

  pub kept_next : (next : ℕ) (p : Passed) (after : List ℕ) → Kept ps s k passed place left before all → r ≡ row_passed s ps passed place k before
      → r ≡ Ok p → after ≡ inserted ps passed p.seat place → ((i : ℕ) → Fits w8 (get_or s i 0)) → left ≡ next + 1
      → Kept after s k (passed + 1) p.end next p.number all
  kept_next next p after o e f a b l =
      let q : next ≡ left - 1 = omega arith in
      rw (a, q) (onward ps s k passed place left before all b o p (omega arith) (sym e ∙ f))

pub kept-long : (ps after : List ℕ) (n passed i place : ℕ) → length ps ≡ n → after ≡ inserted ps passed i place → length after ≡ n
kept-long ps after n passed i place h a = ap length a ∙ length_inserted ps passed i place ∙ h

pub ruleset laws = (rules, kept-none, kept-done, kept-fault, kept_next, kept-long)
