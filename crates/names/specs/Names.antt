-- The names of rows: which row has one, and whether they differ.
use Rattle.std.specs.Prelude.{ℕ, zero, suc, ◌+◌, Bool, true, ◌&&◌, cond, List, [], ◌∷◌, take, drop, Option, Some, None}
use Rattle.number.specs.Number.{has}
use Rattle.marks.specs.Marks.{mark_for, is_marked}
use Rattle.layout.specs.Recording.{same, distinct}
use Rattle.layout.specs.Reading.{bad, good, Reader}
use Rattle.rows.specs.declared.Row.{Row}
use Rattle.names.specs.declared.NameFound.{NameFound}
use Rattle.rows.specs.Rows.{row_name}

-- the names of n rows, up to the first that is broken
unfoldable pub names : ℕ → Reader (List ℕ) → List ℕ → List (List ℕ)
names zero p s = []
names (suc n) p s = elim (p s) [ bad j ↦ [] | good name m ↦ name ∷ names n p (drop m s) ]

abbrev pub found_at : (number place : ℕ) → Option NameFound
found_at i at = Some (record { number = i; place = at })

-- the first of n rows with a name, the first of them having a number and a place
unfoldable pub found : (name : List ℕ) → (n : ℕ) → Reader (List ℕ) → (s : List ℕ) → (number at : ℕ) → Option NameFound
found name zero p s i at = None
found name (suc n) p s i at =
    elim (p (drop at s)) [ bad j ↦ None | good other m ↦ cond (same name other) (found_at i at) (found name n p s (i + 1) (at + m)) ]

-- the first of n rows of s with the name that stands in `a`; nothing where the name is not all there
unfoldable pub find_name : (a : List ℕ) → (here len : ℕ) → (s : List ℕ) → (at n : ℕ) → Row → Option NameFound
find_name a here len s at n k = cond (has a here len) (found (take len (drop here a)) n (row_name k) s 0 at) None

-- every one of these names is marked
unfoldable pub covers : (marks : List ℕ) → List (List ℕ) → Bool
covers ms [] = true
covers ms (n ∷ ns) = is_marked ms (mark_for n) && covers ms ns

-- "no two are equal"
unfoldable pub distinct_names : List ℕ → (at n : ℕ) → Row → Bool
distinct_names s at n k = distinct (names n (row_name k) (drop at s))
