-- What is kept from one listed tag to the next: the tags between them as they stand, and the piece of the listed one.
-- Assumes nothing.
use Rattle.std.specs.Prelude.{Option, Some, None}
use Prim.Native.Nat.{ℕ, zero, suc, ◌+◌, ◌*◌, ◌-◌, ◌^◌, ◌<◌, ◌≤◌}
use native.Mathlib.Omega.{arith}
use mathlib.Core.Path.{◌≡◌, refl, ap, sym, ◌∙◌}
use mathlib.Core.Bool.{Bool, true, false}
use mathlib.Core.List.{List, [], ◌∷◌, ◌++◌, flat_map, append-nil, append_assoc}
use lib.Dec.{ltb}
use borrow.Author.Tests.{ltb-true, ltb-false}
use lib.ListN.{length, take, drop, get_or, length-append, length-drop, drop_of_length-le}
use lib.Seq.{drop-drop, take-add, get_or-drop}
use mir.Syntax.{w8, w64}
use mir.Val.{Fits}
use Rattle.layout.specs.Recording.{Tag, tag_bytes}
use Rattle.layout.specs.Reading.{Parsed, bad, good}
use Rattle.layout.proofs.Lists.{flat_map-append}
use Rattle.rows.specs.Rows.{row_name, row_whole, row_of}
use Rattle.rows.specs.declared.Row.TheVariants as row
use Rattle.rows.proofs.Laws.{row-broken, row-same}
use Rattle.names.specs.declared.NameFound.{NameFound}
use Rattle.places.specs.Places.{place_found, change_found, change_place, named_in, Listed, listing, words_for, ahead, listed_by}
use Rattle.apply.specs.declared.Walk.{Walk}
use Rattle.places.proofs.Finding.{no_names, names-next}
use Rattle.places.proofs.Listed.{list-end, list-broken, list-more}
use Rattle.sheet.proofs.Values.{tag-row-parts}
use Rattle.pieces.specs.Pieces.{piece, piece_at, kept_at, kept_row}
use Rattle.pieces.specs.Added.{walked_in, row_adds, tags_in, piece_bytes, Makes}
use Rattle.pieces.specs.declared.Side.TheVariants as side
use Rattle.pieces.specs.declared.Piece.{Piece}
use Rattle.pieces.proofs.Added.{tags-one, piece-makes, piece-row, piece-no-row, added-done, added_next}
use Rattle.apply.specs.Applied.{kept_from}
use Rattle.apply.specs.Runs.{Leads, Keeps}
use Rattle.apply.specs.declared.Part.{Part}

module _ (t s : List ℕ) (k : ℕ) where
  -- nothing is kept of no tags
  pub kept-none : (at : ℕ) → kept_from t at 0 s k ≡ []
  unfolding kept_from named_in
  kept-none at = rw (no_names (row_name row.Tag) (drop at t)) (added-done side.Kept t s [] at 0 (omega arith))

  -- tags from a place on, up to another, which no change names: they are kept as they stand
  pub record Ran (place n end left : ℕ) : Type 0 where
    pub made : List Tag
    pub adds : kept_from t place n s k ≡ made ++ kept_from t end left s k
    pub bytes : take (end - place) (drop place t) ≡ flat_map tag_bytes made
    pub count : left + length made ≡ n
    pub forward : place ≤ end
    pub there : end ≤ length t
    pub short : end - place ≤ 512 * length made

  ran-none : (place n : ℕ) → place ≤ length t → Ran place n place n
  unfolding flat_map
  ran-none place n h =
      let z : place - place ≡ 0 = omega arith in
      record { made = []; adds = refl; bytes = rw z refl; count = omega arith; forward = omega arith; there = h; short = omega arith }

  module _ (w : (i : ℕ) → Fits w8 (get_or t i 0)) (y : (i : ℕ) → Fits w8 (get_or s i 0)) where
    -- one tag, by its piece
    kept_row_lem : (place n m : ℕ) (name : List ℕ) (p : Piece) (r : Option Piece) → row_name row.Tag (drop place t) ≡ good name m
        → r ≡ piece_at side.Kept t place s (change_place s k name) → r ≡ Some p
        → (p.end ≡ place + m) × (p.end ≤ length t) × (place < p.end)
        × (kept_from t place (suc n) s k ≡ row_adds side.Kept t s place (change_place s k name) ++ kept_from t (place + m) n s k)
        × Makes t place s p.first p.value p.second (row_adds side.Kept t s place (change_place s k name))
    unfolding kept_from named_in row_of walked_in
    kept_row_lem place n m name p r h a b =
        piece-row t s place (change_place s k name) p r a b (λ x g d.
        let o : row_whole (length name) (place + m) ≡ Some x = rw h at g in
        let c : place + m ≡ x.end = (row-same (length name) (place + m) x.name x.end o).1 in
        let q : place + m ≡ p.end = c ∙ d in
        let (i, j, z) = tag-row-parts t place x g in (
          sym q,
          omega arith,
          omega arith,
          rw (names-next n (row_name row.Tag) t place name m h, q) (added_next side.Kept t s
              (change_place s k name ∷ named_in t p.end n s k) place 0 p r a b (omega arith)),
          piece-makes side.Kept t s place (change_place s k name) p r a b w y,
        ))

    -- one more tag ahead of a run
    ran-more : (place n m : ℕ) (name : List ℕ) (end left : ℕ) → row_name row.Tag (drop place t) ≡ good name m → change_found s k name ≡ None
        → Ran (place + m) n end left → Ran place (suc n) end left
    unfolding change_place place_found piece_at kept_at kept_row row_of piece_bytes
    ran-more place n m name end left h e r =
        let o : change_place s k name ≡ 0 = ap place_found e in
        let (a, b, c, d, g) = kept_row_lem place n m name (piece (place + m - place) 0 0 (place + m)) (Some (piece (place + m - place) 0 0 (place + m))) h
        (rw (o, h)) refl in
        let f = r.forward in
        let l : tags_in (place + m - place + 0) ≡ 1 = sym (tags-one _ (omega arith)) in
        let q : length (row_adds side.Kept t s place (change_place s k name)) ≡ 1 = sym g.count ∙ l in
        let u = length-append (row_adds side.Kept t s place (change_place s k name)) r.made in
        let x = r.count in
        let z = r.short in
        let i = g.short in
        let aa : end - place ≡ place + m - place + (end - (place + m)) = omega arith in
        let bb : place + (place + m - place) ≡ place + m = omega arith in
        record {
          made = row_adds side.Kept t s place (change_place s k name) ++ r.made;
          adds = d ∙ ap (λ (l : List Tag). row_adds side.Kept t s place (change_place s k name) ++ l) r.adds
              ∙ sym (append_assoc (row_adds side.Kept t s place (change_place s k name)) r.made (kept_from t end left s k));
          bytes = rw (aa, take-add (place + m - place) (end - (place + m)) (drop place t), drop-drop (place + m - place) place t, bb, r.bytes)
              (ap (λ (l : List ℕ). l ++ flat_map tag_bytes r.made) (sym (append-nil (take (place + m - place) (drop place t))) ∙ g.bytes)
              ∙ sym (flat_map-append tag_bytes (row_adds side.Kept t s place (change_place s k name)) r.made));
          count = omega arith;
          forward = omega arith;
          there = r.there;
          short = omega arith;
        }

    row-there : (place m : ℕ) (name : List ℕ) → row_name row.Tag (drop place t) ≡ good name m → place + m ≤ length t
    unfolding row_of
    row-there place m name e = (tag-row-parts t place (record { name = length name; end = place + m }) (rw e)).1

    -- where nothing is listed, all tags are one run
    ran-all : (n place passed tags end : ℕ) → place ≤ length t → tags ≡ passed + n → listing [] tags end ≡ listed_by (change_found s k) n t place passed
        → Ran place n end 0
    unfolding ahead words_for
    ran-all zero place passed tags end h l e =
        let a : end ≡ place = ap (λ (z : Listed). z.end) (e ∙ list-end (change_found s k) t place passed) in
        rw a (ran-none place 0 h)
    ran-all (suc n) place passed tags end h l e = go (row_name row.Tag (drop place t)) refl (ran-all n)
      where
        go : (r : Parsed (List ℕ)) → row_name row.Tag (drop place t) ≡ r
            → ((place passed tags end : ℕ) → place ≤ length t → tags ≡ passed + n → listing [] tags end ≡ listed_by (change_found s k) n t place passed
            → Ran place n end 0) → Ran place (suc n) end 0
        go (bad j) f ih =
            let a : tags ≡ passed = ap (λ (z : Listed). z.tags) (e ∙ list-broken (change_found s k) n t place passed f) in
            absurd (omega arith)
        go (good name m) f ih = pick (change_found s k name) refl (e ∙ list-more (change_found s k) n t place passed name m f)
          where
            pick : (x : Option NameFound) → change_found s k name ≡ x
                → listing [] tags end ≡ ahead (words_for x passed place) (listed_by (change_found s k) n t (place + m) (passed + 1)) → Ran place (suc n) end 0
            pick None g d =
                ran-more place n m name end 0 f g (ih (place + m) (passed + 1) tags end (row-there place m name f) (omega arith) d)
            pick (Some q) g d = let z = ap (λ (z : Listed). length z.words) d in absurd (omega arith)

    -- the run up to the tag that is listed first, and what is listed behind that
    record Stops (l : List ℕ) (place n passed tags end : ℕ) : Type 0 where
      pub number : ℕ
      pub tag : ℕ
      pub change : ℕ
      pub rest : List ℕ
      pub left : ℕ
      pub name : List ℕ
      pub size : ℕ
      pub words : l ≡ number ∷ tag ∷ change ∷ rest
      pub run : Ran place n tag (suc left)
      pub reached : number + suc left ≡ passed + n
      pub stands : row_name row.Tag (drop tag t) ≡ good name size
      pub named : change ≡ change_place s k name
      pub onward : listing rest tags end ≡ listed_by (change_found s k) left t (tag + size) (number + 1)

    ran_to : (n : ℕ) (l : List ℕ) (place passed tags end : ℕ) → 0 < length l → place ≤ length t
        → listing l tags end ≡ listed_by (change_found s k) n t place passed → Stops l place n passed tags end
    unfolding ahead words_for change_place place_found
    ran_to zero l place passed tags end o h e =
        let a = ap (λ (z : Listed). length z.words) (e ∙ list-end (change_found s k) t place passed) in
        absurd (omega arith)
    ran_to (suc n) l place passed tags end o h e = go (row_name row.Tag (drop place t)) refl (ran_to n l)
      where
        go : (r : Parsed (List ℕ)) → row_name row.Tag (drop place t) ≡ r
            → ((place passed tags end : ℕ) → 0 < length l → place ≤ length t → listing l tags end ≡ listed_by (change_found s k) n t place passed
            → Stops l place n passed tags end) → Stops l place (suc n) passed tags end
        go (bad j) f ih =
            let a = ap (λ (z : Listed). length z.words) (e ∙ list-broken (change_found s k) n t place passed f) in
            absurd (omega arith)
        go (good name m) f ih = pick (change_found s k name) refl (e ∙ list-more (change_found s k) n t place passed name m f)
          where
            pick : (x : Option NameFound) → change_found s k name ≡ x
                → listing l tags end ≡ ahead (words_for x passed place) (listed_by (change_found s k) n t (place + m) (passed + 1))
                → Stops l place (suc n) passed tags end
            pick None g d =
                let r = ih (place + m) (passed + 1) tags end o (row-there place m name f) d in
                let a = r.reached in
                record {
                  number = r.number;
                  tag = r.tag;
                  change = r.change;
                  rest = r.rest;
                  left = r.left;
                  name = r.name;
                  size = r.size;
                  words = r.words;
                  run = ran-more place n m name r.tag (suc r.left) f g r.run;
                  reached = omega arith;
                  stands = r.stands;
                  named = r.named;
                  onward = r.onward;
                }
            pick (Some q) g d =
                let a = ap (λ (z : Listed). z.tags) d in
                let b = ap (λ (z : Listed). z.end) d in
                record {
                  number = passed;
                  tag = place;
                  change = q.place;
                  rest = (listed_by (change_found s k) n t (place + m) (passed + 1)).words;
                  left = n;
                  name = name;
                  size = m;
                  words = ap (λ (z : Listed). z.words) d;
                  run = ran-none place (suc n) h;
                  reached = refl;
                  stands = f;
                  named = sym (ap place_found g);
                  onward = rw (a, b);
                }

-- ── As the code goes from one to the next ──

module _ (t : List ℕ) (place passed : ℕ) (walk : Walk) (s list : List ℕ) (i : ℕ) (g : Leads t place passed walk s list i)
    (w : (i : ℕ) → Fits w8 (get_or t i 0)) (y : (i : ℕ) → Fits w8 (get_or s i 0)) where
  stops : i < length list → Stops t s walk.changes w y (drop i list) place (walk.tags - passed) passed walk.tags walk.end
  stops h = ran_to t s walk.changes w y (walk.tags - passed) (drop i list) place passed walk.tags walk.end (simp length-drop (omega arith)) g.there g.listed

  long : (h : i < length list) → i + 3 ≤ length list
  long h = let a = ap length (stops h).words in let b = length-drop i list in omega arith

  -- less than three words are none
  ended : length list < i + 3 → length list ≤ i
  ended h = go (ltb i (length list)) refl
    where
      go : (b : Bool) → ltb i (length list) ≡ b → length list ≤ i
      go true e = let l = long (ltb-true i (length list) e) in absurd (omega arith)
      go false e = ltb-false i (length list) e

  pub lead-last : length list < i + 3 → Ran t s walk.changes place (walk.tags - passed) walk.end 0
  lead-last h =
      let a = g.within in
      ran-all t s walk.changes w y (walk.tags - passed) place passed walk.tags walk.end g.there (omega arith)
      (sym (ap (λ (l : List ℕ). listing l walk.tags walk.end) (drop_of_length-le list {i = i} (ended h))) ∙ g.listed)

  pub last-forward : length list < i + 3 → place ≤ walk.end
  last-forward h = (lead-last h).forward

  module _ (h : i < length list) where
    abbrev stop : Stops t s walk.changes w y (drop i list) place (walk.tags - passed) passed walk.tags walk.end
    stop = stops h

    word-is : (j : ℕ) → get_or list (i + j) 0 ≡ get_or (stop.number ∷ stop.tag ∷ stop.change ∷ stop.rest) j 0
    word-is j = sym (get_or-drop i list j 0) ∙ ap (λ (l : List ℕ). get_or l j 0) stop.words

    number_is : get_or list i 0 ≡ stop.number
    number_is = let a : i ≡ i + 0 = omega arith in ap (λ (j : ℕ). get_or list j 0) a ∙ word-is 0

    rest-is : drop (i + 3) list ≡ stop.rest
    rest-is = sym (drop-drop 3 i list) ∙ ap (drop 3) stop.words

    pub lead-one : i + 1 < length list
    lead-one = let a = long h in omega arith

    pub lead-two : i + 2 < length list
    lead-two = let a = long h in omega arith

    pub lead-forward : place ≤ get_or list (i + 1) 0
    lead-forward = let a = word-is 1 in let b = stop.run.forward in omega arith

    pub lead-number : passed ≤ get_or list i 0
    lead-number =
        let a = number_is in
        let b = stop.reached in
        let c = stop.run.count in
        let d = g.within in
        omega arith

    pub lead-fits : (z : ℕ) → z ≤ 1 → Fits w64 (get_or list i 0 - passed + z)
    lead-fits z l =
        let a = number_is in
        let b = stop.reached in
        let c = g.few in
        let d = g.within in
        record { fits = omega arith }

    module _ (r : Option Piece) (a : r ≡ piece_at side.Kept t (get_or list (i + 1) 0) s (get_or list (i + 2) 0)) where
      told : r ≡ piece_at side.Kept t stop.tag s (change_place s walk.changes stop.name)
      told = rw (← word-is 1, ← stop.named, ← word-is 2) a

      pub part-broken : r ≡ None → Keeps t place passed walk s list i (record { piece = piece 0 0 0 (get_or list (i + 1) 0); tags = 0 })
      part-broken b =
          let (j, c) = row-broken (row_name row.Tag (drop stop.tag t)) stop.tag
          (piece-no-row t s stop.tag (change_place s walk.changes stop.name) r told b) in
          let d = stop.stands in
          let z : ◌≡◌ {A = ℕ} 0 1 = cc in
          absurd (omega arith)

      module _ (p : Piece) (b : r ≡ Some p) where
        row-parts : (p.end ≡ stop.tag + stop.size) × (p.end ≤ length t) × (stop.tag < p.end)
            × (kept_from t stop.tag (suc stop.left) s walk.changes ≡ row_adds side.Kept t s stop.tag
            (change_place s walk.changes stop.name) ++ kept_from t (stop.tag + stop.size) stop.left s walk.changes)
            × Makes t stop.tag s p.first p.value p.second (row_adds side.Kept t s stop.tag (change_place s walk.changes stop.name))
        row-parts = kept_row_lem t s walk.changes w y stop.tag stop.left stop.size stop.name p r stop.stands told b

        abbrev row-tags : List Tag
        row-tags = row_adds side.Kept t s stop.tag (change_place s walk.changes stop.name)

        pub part-fits : Fits w64 (p.first + p.second)
        part-fits = let a = row-parts.4.short in record { fits = omega arith }

        pub first_fits : length t < 2 ^ 64 → Fits w64 (get_or list (i + 1) 0 - place + p.first)
        first_fits l =
            let a = word-is 1 in
            let d = row-parts.4.first_there in
            let r = stop.run.forward in
            record { fits = omega arith }

        pub part-keeps : (z : ℕ) → z ≡ tags_in (p.first + p.second) → z ≤ 1 → Keeps t place passed walk s list i
            (record { piece = piece (get_or list (i + 1) 0 - place + p.first) p.value p.second p.end; tags = get_or list i 0 - passed + z })
        unfolding piece_bytes
        part-keeps z l few =
            let (ends, there, more, adds, makes) = row-parts in
            let a = number_is in
            let d = word-is 1 in
            let reached = stop.reached in
            let within = g.within in
            let count = stop.run.count in
            let forward = stop.run.forward in
            let short = stop.run.short in
            let short₁ = makes.short in
            let first = makes.first_there in
            let one : z ≡ length row-tags = l ∙ makes.count in
            let both = length-append stop.run.made row-tags in
            let x : walk.tags - (get_or list i 0 + 1) ≡ stop.left = omega arith in
            let n : get_or list (i + 1) 0 - place + p.first ≡ stop.tag - place + p.first = omega arith in
            let m : place + (stop.tag - place) ≡ stop.tag = omega arith in
            record {
              made = stop.run.made ++ row-tags;
              adds = rw (x, ends) (stop.run.adds ∙ ap (λ (l : List Tag). stop.run.made ++ l) adds
                  ∙ sym (append_assoc stop.run.made row-tags (kept_from t (stop.tag + stop.size) stop.left s walk.changes)));
              bytes = rw (n, take-add (stop.tag - place) p.first (drop place t), drop-drop (stop.tag - place) place t, m, stop.run.bytes)
                  (append_assoc (flat_map tag_bytes stop.run.made) (take p.first (drop stop.tag t)) (take p.second (drop p.value s))
                  ∙ ap (λ (l : List ℕ). flat_map tag_bytes stop.run.made ++ l) makes.bytes
                  ∙ sym (flat_map-append tag_bytes stop.run.made row-tags));
              count = omega arith;
              first_there = omega arith;
              second_there = makes.second_there;
              fewer = omega arith;
              short = omega arith;
              onward = record {
                there = there;
                few = g.few;
                within = omega arith;
                listed = rw (x, ends, a, rest-is) stop.onward;
              };
            }

-- ── The loops over the list ──

module _ (t : List ℕ) (place passed : ℕ) (walk : Walk) (s list : List ℕ) (i : ℕ) (part : Part) (g : Keeps t place passed walk s list i part) where
  pub kept-onward : (j : ℕ) → j ≡ i + 3 → Leads t part.piece.end (get_or list i 0 + 1) walk s list j
  kept-onward j e = rw e g.onward
