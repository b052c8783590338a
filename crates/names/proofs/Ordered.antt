-- Places kept in the order of their names as rows are passed: a name that has a seat among them stands in none of these rows.
-- Assumes nothing.
use Rattle.std.specs.Prelude.{Option, Some, None}
use Prim.Native.Nat.{ℕ, ◌+◌, ◌<◌, ◌≤◌}
use native.Mathlib.Omega.{arith}
use mathlib.Core.Path.{◌≡◌, refl, ap, sym, ◌∙◌}
use mathlib.Core.Bool.{Bool, true, false, ◌||◌}
use mathlib.Core.List.{List, [], ◌∷◌, ◌++◌}
use lib.ListN.{length, take, drop, get_or}
use lib.Pow.{are_bytes}
use mir.Syntax.{w8}
use mir.Val.{Fits}
use Rattle.number.proofs.Bytes.{slice-bytes}
use Rattle.layout.specs.Recording.{same, among}
use Rattle.layout.specs.Reading.{good, ◌then◌, give, string}
use Rattle.layout.proofs.Lists.{bytes_take, bytes_drop}
use Rattle.parts.proofs.Taken.{then-parts, give-parts}
use Rattle.rows.specs.Rows.{rest, row_name, row_of}
use Rattle.order.specs.Order.{key, name_of, name_at, keys, seek, inserted}
use Rattle.order.proofs.Keys.{key-same}
use Rattle.order.proofs.Seats.{ascend, holds, or_swap, seek-met, seek-new, inserted-holds}
use Rattle.names.specs.Names.{names, distinct_names}
use Rattle.rows.specs.declared.Row.{Row}
use Rattle.rows.specs.declared.RowPlace.{RowPlace}
use Rattle.rows.proofs.Laws.{row-parts}
use Rattle.names.proofs.Passed.{Passed, passed-hit, passed-more, names-next, passing}

-- the first places: their names ascend, and are those of the rows that were passed
pub record Ordered (ps s : List ℕ) (k : Row) (at passed : ℕ) : Type 0 where
  pub ascending : ascend 0 (keys s (take passed ps)) ≡ true
  pub known : (x : List ℕ) → are_bytes x ≡ true → holds (key x) (keys s (take passed ps)) ≡ among x (names passed (row_name k) (drop at s))

pub ordered-none : (ps s : List ℕ) (k : Row) (at : ℕ) → Ordered ps s k at 0
unfolding ascend holds keys among names
ordered-none ps s k at = record { ascending = refl; known = λ x b. refl }

-- the name at the place of a row is the row's
row-name : (k : Row) (s : List ℕ) (at m : ℕ) (v : List ℕ) → row_name k (drop at s) ≡ good v m → name_at s at ≡ v
unfolding row_name name_at name_of
row-name k s at m v e =
    then-parts string (λ w. rest k then λ r. give w) (drop at s) v m e (λ w n j f g h.
    give-parts (rest k) (λ r. w) (drop n (drop at s)) v j g (λ x i o. rw f (sym o)))

among-more : (x n : List ℕ) (ns : List (List ℕ)) → (same x n || among x ns) ≡ among x (ns ++ n ∷ [])
unfolding among
among-more x n [] = refl
among-more x n (y ∷ ns) = or_swap (same x n) (same x y) (among x ns) ∙ ap (λ (b : Bool). same x y || b) (among-more x n ns)

module _ (ps s : List ℕ) (k : Row) (at passed place : ℕ) (x : RowPlace) (r : Option RowPlace) (t : Option ℕ) (p : Passed s k at passed place)
    (o : Ordered ps s k at passed) (b : (i : ℕ) → Fits w8 (get_or s i 0)) (f : r ≡ row_of place (row_name k (drop place s))) (g : r ≡ Some x)
    (e : t ≡ seek s ps passed place) where
  named : name_at s place ≡ take x.name (drop (place + 1) s)
  named = let (w, m, y, q) = row-parts k s place x.name x.end (sym f ∙ g) in row-name k s place m (take x.name (drop (place + 1) s)) y

  bytes-name : are_bytes (take x.name (drop (place + 1) s)) ≡ true
  bytes-name = bytes_take x.name (drop (place + 1) s) (bytes_drop (place + 1) s (slice-bytes s b))

  told : (c : Bool) → holds (key (name_at s place)) (keys s (take passed ps)) ≡ c
      → c ≡ among (take x.name (drop (place + 1) s)) (names passed (row_name k) (drop at s))
  told c h = sym h ∙ rw named (o.known (take x.name (drop (place + 1) s)) bytes-name)

  pub ordered-met : (n : ℕ) → t ≡ None → passed < n → n ≤ length ps → false ≡ distinct_names s at n k
  ordered-met n h l z = passed-hit s k at passed place n p x r f g (told true (seek-met s ps passed place (omega arith) (sym e ∙ h))) l

  module _ (i : ℕ) (h : t ≡ Some i) (l : passed < length ps) where
    pub ordered-passed : Passed s k at (passed + 1) x.end
    ordered-passed = passed-more s k at passed place x r p f g (told false (seek-new s ps passed place i l o.ascending (sym e ∙ h)).1)

    pub ordered-more : (after : List ℕ) → after ≡ inserted ps passed i place → Ordered after s k at (passed + 1)
    ordered-more after a =
        let (m, u, w) = seek-new s ps passed place i l o.ascending (sym e ∙ h) in
        rw a (record {
          ascending = w;
          known = λ y c. inserted-holds s ps passed i place l m (key y)
              ∙ rw (named, key-same y (take x.name (drop (place + 1) s)) c bytes-name, o.known y c)
              (among-more y (take x.name (drop (place + 1) s)) (names passed (row_name k) (drop at s)))
              ∙ ap (among y) (sym (names-next s k at passed place x r p f g));
        })

pub ruleset laws = (passing, ordered-met)
