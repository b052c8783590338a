-- Where the tags that a sheet names stand in the table, and where the changes that name a tag stand in the sheet.
use Rattle.std.specs.Prelude.{ℕ, zero, suc, ◌+◌, ◌-◌, ◌<◌, ◌≤◌, ◌≡◌, cond, List, [], ◌∷◌, ◌++◌, map, length, drop, get_or, set, eqb, ltb, true, Option, Some, None}
use Rattle.std.proofs.lemmas.List.Edits.{sets}
use Rattle.marks.specs.Marks.{mark_for, with_mark}
use Rattle.layout.specs.Reading.{bad, good}
use Rattle.layout.specs.Saving.{most_changes}
use Rattle.rows.specs.Rows.{row_name}
use Rattle.names.specs.Names.{names, found, covers}
use Rattle.rows.specs.declared.Row.TheVariants as row
use Rattle.names.specs.declared.NameFound.{NameFound}
use Rattle.places.specs.declared.Change.{Change}

-- ── Places by names ──

unfoldable pub place_found : Option NameFound → ℕ
place_found (Some f) = f.place
place_found None = 0

abbrev pub tag_names_at : (table : List ℕ) → (at n : ℕ) → List (List ℕ)
tag_names_at table at n = names n (row_name row.Tag) (drop at table)

abbrev pub change_names_at : (sheet : List ℕ) → (changes : ℕ) → List (List ℕ)
change_names_at sheet k = names k (row_name row.Change) (drop 1 sheet)

-- the change of a name, and its place; the place of the first tag of a name
abbrev pub change_found : (sheet : List ℕ) → (changes : ℕ) → (name : List ℕ) → Option NameFound
change_found sheet k name = found name k (row_name row.Change) sheet 0 1

unfoldable pub change_place : (sheet : List ℕ) → (changes : ℕ) → (name : List ℕ) → ℕ
change_place sheet k name = place_found (change_found sheet k name)

unfoldable pub tag_place : (table : List ℕ) → (at n : ℕ) → (name : List ℕ) → ℕ
tag_place table at n name = place_found (found name n (row_name row.Tag) table 0 at)

-- for each of n tags, the place of its change
unfoldable pub named_in : (table : List ℕ) → (at n : ℕ) → (sheet : List ℕ) → (changes : ℕ) → List ℕ
named_in table at n sheet k = map (change_place sheet k) (tag_names_at table at n)

-- the places from a number on are those of these names
pub record Lists (place : List ℕ → ℕ) (ps : List ℕ) (i : ℕ) (ns : List (List ℕ)) : Type 0 where
  pub room : i + length ns ≤ length ps
  pub known : (c : ℕ) → c < length ns → get_or ps (i + c) 0 ≡ place (get_or ns c [])

-- for each change, the place of its tag, which is not 0
pub record Placed (table : List ℕ) (at n : ℕ) (sheet : List ℕ) (changes : ℕ) (ps : List ℕ) : Type 0 where
  pub behind : 0 < at
  pub lists : Lists (tag_place table at n) ps 0 (change_names_at sheet changes)

-- ── What the call leaves ──

-- what a walk finds: for each tag that a change names three words, its number, its place and the place of the change; how many tags are whole; where they end
pub record Listed : Type 0 where
  pub words : List ℕ
  pub tags : ℕ
  pub end : ℕ

abbrev pub listing : (words : List ℕ) → (tags end : ℕ) → Listed
listing words tags end = record { words = words; tags = tags; end = end }

-- the words of a tag for which a change was found, or not
unfoldable pub words_for : Option NameFound → (number tag : ℕ) → List ℕ
words_for (Some f) i tag = i ∷ tag ∷ f.place ∷ []
words_for None i tag = []

unfoldable pub ahead : (words : List ℕ) → Listed → Listed
ahead ws l = listing (ws ++ l.words) l.tags l.end

-- n tags, the first of them having a number and a place
unfoldable pub listed_by : (change : List ℕ → Option NameFound) → ℕ → (table : List ℕ) → (at number : ℕ) → Listed
listed_by change zero t at i = listing [] i at
listed_by change (suc n) t at i =
    elim (row_name row.Tag (drop at t)) [ bad j ↦ listing [] i at | good name m ↦ ahead (words_for (change name) i at) (listed_by change n t (at + m) (i + 1)) ]

abbrev pub listed_in : (table : List ℕ) → (at n : ℕ) → (sheet : List ℕ) → (changes : ℕ) → Listed
listed_in table at n sheet k = listed_by (change_found sheet k) n table at 0

-- how many changes have no tag yet
unfoldable pub left_after : Option NameFound → (changes : ℕ) → ℕ
left_after (Some f) k = k - 1
left_after None k = k

-- the words of the first tags that changes name, as many tags as there are changes
unfoldable pub listed_to : (change : List ℕ → Option NameFound) → (changes : ℕ) → ℕ → (table : List ℕ) → (at number : ℕ) → List ℕ
listed_to change k zero t at i = []
listed_to change zero (suc n) t at i = []
listed_to change (suc k) (suc n) t at i =
    elim (row_name row.Tag (drop at t)) [
      | bad j ↦ []
      | good name m ↦ words_for (change name) i at
          ++ listed_to change (left_after (change name) (suc k)) n t (at + m) (i + 1)
    ]

-- a tag's place, stored for the change that was found for it, unless that has one
unfoldable pub noted : (ps : List ℕ) → Option NameFound → (tag : ℕ) → List ℕ
noted ps (Some f) tag = cond (eqb (get_or ps f.number 0) 0) (set ps f.number tag) ps
noted ps None tag = ps

-- the places of these tags, each stored for its change
unfoldable pub walked_to : (change : List ℕ → Option NameFound) → (changes : ℕ) → ℕ → (table : List ℕ) → (at : ℕ) → (ps : List ℕ) → List ℕ
walked_to change k zero t at ps = ps
walked_to change zero (suc n) t at ps = ps
walked_to change (suc k) (suc n) t at ps =
    elim (row_name row.Tag (drop at t)) [
      | bad j ↦ ps
      | good name m ↦ walked_to change (left_after (change name) (suc k)) n t (at + m)
          (noted ps (change name) at)
    ]

-- how many words are listed, the list, and for each change the place of its tag
pub record Placing : Type 0 where
  pub words : ℕ
  pub list : List ℕ
  pub places : List ℕ

abbrev pub placing : (words : ℕ) → (list places : List ℕ) → Placing
placing words list places = record { words = words; list = list; places = places }

-- the tags of the changes that are whole; of the list as much as there is room for; of more than 64 changes nothing is stored
unfoldable pub placed_for : (changes : ℕ) → (table : List ℕ) → (at n : ℕ) → (sheet list places : List ℕ) → Placing
placed_for k table at n sheet list places =
    placing (length (listed_to (change_found sheet k) k n table at 0)) (sets list 0 (listed_to (change_found sheet k) k n table at 0))
    (walked_to (change_found sheet k) k n table at places)

unfoldable pub placed_by : (table : List ℕ) → (at n : ℕ) → (sheet list places : List ℕ) → Placing
placed_by table at n sheet list places =
    cond (ltb most_changes (length places)) (placing 0 list places)
    (placed_for (length (change_names_at sheet (length places))) table at n sheet list places)

-- ── As the code finds them ──

-- the marks with those of these names
unfoldable pub all_marked : List (List ℕ) → (marks : List ℕ) → List ℕ
all_marked [] ms = ms
all_marked (n ∷ ns) ms = all_marked ns (with_mark ms (mark_for n))

-- the whole ones of n changes from a place on: the mark of the name of each, and where it starts
unfoldable pub changes_from : ℕ → (sheet : List ℕ) → (at : ℕ) → List Change
changes_from zero s at = []
changes_from (suc n) s at =
    elim (row_name row.Change (drop at s)) [ bad j ↦ [] | good name m ↦ record { mark = mark_for name; place = at } ∷ changes_from n s (at + m) ]

-- a sheet's changes are all there, and their names are marked
pub record Marked (sheet filter : List ℕ) (changes : List Change) : Type 0 where
  pub covered : covers filter (change_names_at sheet (length changes)) ≡ true
  pub known : changes ≡ changes_from (length changes) sheet 1
