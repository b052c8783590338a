-- Classes of bytes and short strings: what the functions of this crate leave to be shown.
-- Assumes nothing.
use Rattle.std.specs.Prelude.{Option, Some, None}
use Prim.Native.Nat.{ℕ, zero, suc, ◌+◌, ◌*◌, ◌-◌, ◌^◌, ◌<◌, ◌≤◌}
use native.Mathlib.Omega.{arith}
use mathlib.Core.Path.{◌≡◌, refl, sym, ◌∙◌}
use mathlib.Core.Bool.{Bool, true, false, ◌&&◌, cond}
use mathlib.Core.List.{List, [], ◌∷◌}
use lib.ListN.{length, take, drop, get_or, length-drop, drop_of_length-le}
use lib.Seq.{drop-cons, length-take-le}
use lib.Dec.{leb}
use borrow.Author.Rules.{rules}
use mir.Syntax.{w8, w64}
use mir.Val.{Fits}
use borrow.Author.Tests.{le-leb, lt-leb, leb-true, leb-false, lt-ltb, le-ltb, not-true, not-false}
use Rattle.number.specs.Number.{number_of}
use Rattle.layout.specs.Recording.{within, every, is_name_byte, is_tag_byte, legal_section_name, legal_tag_name, legal_tag_value}
use Rattle.layout.specs.Reading.{Parsed, bad, good, Reader, onward, behind, ◌then◌, only, fault_at, placed, number, block, string, string_fault, section_name, tag_name, tag_value}
use Rattle.strings.specs.Strings.{text_of, in_class, legal_text, text_by}
use Rattle.strings.specs.declared.Class.{Class}
use Rattle.strings.specs.declared.Class.TheVariants as class
use Rattle.number.proofs.Bools.{and-false}
use Rattle.parts.proofs.Readers.{only-bad, only-pass, only-fail}

-- ── Tests ──

-- a number within two bounds, or outside of them
pub inside : (low high n : ℕ) → low ≤ n → n ≤ high → within low high n ≡ true
inside low high n p q = rw (le-leb low n p, le-leb n high q)

below : (low high n : ℕ) → n < low → within low high n ≡ false
below low high n p = rw (lt-leb low n p)

pub above : (low high n : ℕ) → low ≤ n → high < n → within low high n ≡ false
above low high n p q = rw (le-leb low n p, lt-leb n high q)

-- ── Classes of bytes ──

pub name-digit : (b : ℕ) → 48 ≤ b → b < 58 → true ≡ is_name_byte b
unfolding is_name_byte
name-digit b p q = rw (inside 48 57 b p (omega arith))

pub name-capital : (b : ℕ) → 65 ≤ b → b < 91 → true ≡ is_name_byte b
unfolding is_name_byte
name-capital b p q = rw (above 48 57 b (omega arith) (omega arith), inside 65 90 b p (omega arith))

pub name-small : (b : ℕ) → 97 ≤ b → b < 123 → true ≡ is_name_byte b
unfolding is_name_byte
name-small b p q = rw (above 48 57 b (omega arith) (omega arith), above 65 90 b (omega arith) (omega arith), inside 97 122 b p (omega arith))

pub name-low : (b : ℕ) → b < 48 → false ≡ is_name_byte b
unfolding is_name_byte
name-low b p = rw (below 48 57 b (omega arith), below 65 90 b (omega arith), below 97 122 b (omega arith))

pub name-mid : (b : ℕ) → 58 ≤ b → b < 65 → false ≡ is_name_byte b
unfolding is_name_byte
name-mid b p q = rw (above 48 57 b (omega arith) (omega arith), below 65 90 b (omega arith), below 97 122 b (omega arith))

pub name-between : (b : ℕ) → 91 ≤ b → b < 97 → false ≡ is_name_byte b
unfolding is_name_byte
name-between b p q = rw (above 48 57 b (omega arith) (omega arith), above 65 90 b (omega arith) (omega arith), below 97 122 b (omega arith))

pub name-high : (b : ℕ) → 123 ≤ b → false ≡ is_name_byte b
unfolding is_name_byte
name-high b p = rw (above 48 57 b (omega arith) (omega arith), above 65 90 b (omega arith) (omega arith), above 97 122 b (omega arith) (omega arith))

pub tag-inside : (b : ℕ) → 32 ≤ b → b < 127 → true ≡ is_tag_byte b
unfolding is_tag_byte
tag-inside b p q = rw (inside 32 126 b p (omega arith))

pub tag_below : (b : ℕ) → b < 32 → false ≡ is_tag_byte b
unfolding is_tag_byte
tag_below b p = rw (below 32 126 b (omega arith))

pub tag-above : (b : ℕ) → 127 ≤ b → false ≡ is_tag_byte b
unfolding is_tag_byte
tag-above b p = rw (above 32 126 b (omega arith) (omega arith))

pub class-name : (c : Class) (b : ℕ) (r : Bool) → c ≡ class.Name → r ≡ is_name_byte b → r ≡ in_class c b
unfolding in_class
class-name c b r e h = rw e h

pub class-tag : (c : Class) (b : ℕ) (r : Bool) → c ≡ class.Tag → r ≡ is_tag_byte b → r ≡ in_class c b
unfolding in_class
class-tag c b r e h = rw e h

-- ── Short strings ──

pub no-string : string [] ≡ bad 0
unfolding string placed fault_at ◌then◌ onward number
no-string = refl

pub string-cons : (b : ℕ) (t : List ℕ) → string (b ∷ t) ≡ cond (leb b (length t)) (good (take b t) (1 + b)) (bad (suc (length t)))
unfolding string placed fault_at ◌then◌ onward behind number block number_of
string-cons b t =
    let e : b + 256 * 0 ≡ b = omega arith in
    rw (le-leb 1 (suc (length t)) (omega arith), e) (go (leb b (length t)))
  where
    go : (c : Bool) → fault_at (suc (length t)) (behind 1 (cond c (good (take b t) b) (bad 0))) ≡ cond c (good (take b t) (1 + b)) (bad (suc (length t)))
    go true = refl
    go false = refl

-- where a short string is there, and where it is not
string-out : (s : List ℕ) (at : ℕ) → length s ≤ at → string (drop at s) ≡ bad 0
string-out s at h = rw (drop_of_length-le s {i = at} h) no-string

string-in : (s : List ℕ) (at n : ℕ) → at < length s → n ≡ get_or s at 0 → n < length s - at
    → string (drop at s) ≡ good (take n (drop (at + 1) s)) (1 + n)
string-in s at n h e l =
    let p : at + 1 ≡ suc at = omega arith in
    rw (drop-cons s at 0 h, ← e, string-cons n (drop (suc at) s), le-leb n (length (drop (suc at) s)) (simp length-drop (omega arith)), p)

string-cut : (s : List ℕ) (at n : ℕ) → at < length s → n ≡ get_or s at 0 → length s - at ≤ n → string (drop at s) ≡ bad (suc (length (drop (suc at) s)))
string-cut s at n h e l =
    rw (drop-cons s at 0 h, ← e, string-cons n (drop (suc at) s), lt-leb n (length (drop (suc at) s)) (simp length-drop (omega arith)))

pub string-past : (s : List ℕ) (at : ℕ) → length s ≤ at → None ≡ text_of (string (drop at s))
unfolding text_of
string-past s at h = rw (string-out s at h)

pub string-broken : (s : List ℕ) (at n : ℕ) → at < length s → n ≡ get_or s at 0 → length s - at ≤ n → None ≡ text_of (string (drop at s))
unfolding text_of
string-broken s at n h e l = rw (string-cut s at n h e l)

pub string-whole : (s : List ℕ) (at n : ℕ) → at < length s → n ≡ get_or s at 0 → n < length s - at → Some n ≡ text_of (string (drop at s))
unfolding text_of
string-whole s at n h e l =
    rw (string-in s at n h e l, length-take-le n (drop (at + 1) s) (simp length-drop (omega arith)))

-- a short string that is there: its bytes stand behind its length byte
pub string-parts : (s : List ℕ) (at n : ℕ) → text_of (string (drop at s)) ≡ Some n
    → (at + 1 + n ≤ length s) × (n ≡ get_or s at 0) × (string (drop at s) ≡ good (take n (drop (at + 1) s)) (1 + n))
string-parts s at n e = go (leb (length s) at) (leb (length s - at) (get_or s at 0)) refl refl
  where
    go : (b c : Bool) → leb (length s) at ≡ b → leb (length s - at) (get_or s at 0) ≡ c
        → (at + 1 + n ≤ length s) × (n ≡ get_or s at 0) × (string (drop at s) ≡ good (take n (drop (at + 1) s)) (1 + n))
    go true c p q = let z : ◌≡◌ {A = ℕ} 0 1 = cc (string-past s at (leb-true (length s) at p)) in absurd (omega arith)
    go false true p q =
        let l : at < length s = leb-false (length s) at p in
        let z : ◌≡◌ {A = ℕ} 0 1 = cc (string-broken s at (get_or s at 0) l refl (leb-true (length s - at) (get_or s at 0) q)) in
        absurd (omega arith)
    go false false p q =
        let l : at < length s = leb-false (length s) at p in
        let m : get_or s at 0 < length s - at = leb-false (length s - at) (get_or s at 0) q in
        let o : n ≡ get_or s at 0 = cc (string-whole s at (get_or s at 0) l refl m) in
        (omega arith, o, string-in s at n l o (omega arith))

pub text_of-broken : (p : Parsed (List ℕ)) → text_of p ≡ None → (m : ℕ) × (p ≡ bad m)
unfolding text_of
text_of-broken (bad m) e = (m, refl)
text_of-broken (good v n) e = let z : ◌≡◌ {A = ℕ} 0 1 = cc in absurd (omega arith)

-- ── Short strings by a rule ──

pub text-fits : (s : List ℕ) (at n : ℕ) (r : Option ℕ) → r ≡ text_of (string (drop at s)) → r ≡ Some n → at + 1 + n ≤ length s
text-fits s at n r e f = (string-parts s at n (sym e ∙ f)).0

pub text-place : (s : List ℕ) (at n : ℕ) (r : Option ℕ) → length s < 2 ^ 64 → r ≡ text_of (string (drop at s)) → r ≡ Some n → Fits w64 (at + 1)
text-place s at n r h e f = let l = text-fits s at n r e f in record { fits = omega arith }

pub text-broken : (ok : List ℕ → Bool) (s : List ℕ) (at : ℕ) (r : Option ℕ) → r ≡ text_of (string (drop at s)) → r ≡ None
    → None ≡ text_of (only ok string (drop at s))
unfolding text_of
text-broken ok s at r e f = rw (only-bad ok string (drop at s) (text_of-broken (string (drop at s)) (sym e ∙ f)).1)

pub part_length : (s : List ℕ) (at n : ℕ) → at + 1 + n ≤ length s → length (take n (drop (at + 1) s)) ≡ n
part_length s at n h = length-take-le n (drop (at + 1) s) (simp length-drop (omega arith))

legal-short : (least : ℕ) (c : Class) (v : List ℕ) → length v < least → legal_text least c v ≡ false
unfolding legal_text
legal-short least c v h = rw (below least 255 (length v) h)

legal-wrong : (least : ℕ) (c : Class) (v : List ℕ) → every (in_class c) v ≡ false → legal_text least c v ≡ false
unfolding legal_text
legal-wrong least c v h = rw (h, and-false (within least 255 (length v)))

legal-right : (least : ℕ) (c : Class) (v : List ℕ) → least ≤ length v → length v ≤ 255 → every (in_class c) v ≡ true → legal_text least c v ≡ true
unfolding legal_text
legal-right least c v p q h = rw (inside least 255 (length v) p q, h)

text-short : (least : ℕ) (c : Class) (s : List ℕ) (at n : ℕ) (r : Option ℕ) → r ≡ text_of (string (drop at s)) → r ≡ Some n → n < least
    → None ≡ text_of (only (legal_text least c) string (drop at s))
unfolding text_of
text-short least c s at n r e f h =
    let (l, o, p) = string-parts s at n (sym e ∙ f) in
    let k : length (take n (drop (at + 1) s)) ≡ n = part_length s at n l in
    rw (only-fail (legal_text least c) string (drop at s) _ _ p (legal-short least c _ (omega arith)))

text-wrong : (least : ℕ) (c : Class) (s : List ℕ) (at n : ℕ) (r : Option ℕ) (q : Bool) → r ≡ text_of (string (drop at s)) → r ≡ Some n
    → q ≡ every (in_class c) (take n (drop (at + 1) s)) → q ≡ false → None ≡ text_of (only (legal_text least c) string (drop at s))
unfolding text_of
text-wrong least c s at n r q e f g h =
    let (l, o, p) = string-parts s at n (sym e ∙ f) in
    rw (only-fail (legal_text least c) string (drop at s) _ _ p (legal-wrong least c _ (sym g ∙ h)))

text-right : (least : ℕ) (c : Class) (s : List ℕ) (at n : ℕ) (r : Option ℕ) (q : Bool) → ((i : ℕ) → Fits w8 (get_or s i 0))
    → r ≡ text_of (string (drop at s)) → r ≡ Some n → least ≤ n → q ≡ every (in_class c) (take n (drop (at + 1) s)) → q ≡ true
    → Some n ≡ text_of (only (legal_text least c) string (drop at s))
unfolding text_of
text-right least c s at n r q w e f m g h =
    let (l, o, p) = string-parts s at n (sym e ∙ f) in
    let k : length (take n (drop (at + 1) s)) ≡ n = part_length s at n l in
    let b : get_or s at 0 < 256 = (w at).fits in
    rw (only-pass (legal_text least c) string (drop at s) _ _ p (legal-right least c _ (omega arith) (omega arith) (sym g ∙ h)), k)

-- where a fault is leaves the string as it is
pub text-placed : (w : List ℕ → ℕ) (p : Reader (List ℕ)) (l : List ℕ) → text_of (placed w p l) ≡ text_of (p l)
unfolding placed fault_at text_of
text-placed w p l = go (p l)
  where
    go : (x : Parsed (List ℕ)) → text_of (fault_at (w l) x) ≡ text_of x
    go (bad m) = refl
    go (good v n) = refl

text-by : (least : ℕ) (c : Class) (l : List ℕ) → text_of (text_by least c l) ≡ text_of (only (legal_text least c) string l)
unfolding text_by
text-by least c l = text-placed (string_fault least (in_class c)) (only (legal_text least c) string) l

module _ (least : ℕ) (c : Class) (s : List ℕ) (at : ℕ) (r : Option ℕ) (e : r ≡ text_of (string (drop at s))) where
  pub by-broken : r ≡ None → None ≡ text_of (text_by least c (drop at s))
  by-broken f = text-broken (legal_text least c) s at r e f ∙ sym (text-by least c (drop at s))

  pub by-few : (n : ℕ) → r ≡ Some n → n < least → None ≡ text_of (text_by least c (drop at s))
  by-few n f h = text-short least c s at n r e f h ∙ sym (text-by least c (drop at s))

  pub by-wrong : (n : ℕ) (q : Bool) → r ≡ Some n → q ≡ every (in_class c) (take n (drop (at + 1) s)) → q ≡ false
      → None ≡ text_of (text_by least c (drop at s))
  by-wrong n q f g h = text-wrong least c s at n r q e f g h ∙ sym (text-by least c (drop at s))

  pub by-right : (n : ℕ) (q : Bool) → ((i : ℕ) → Fits w8 (get_or s i 0)) → r ≡ Some n → least ≤ n
      → q ≡ every (in_class c) (take n (drop (at + 1) s)) → q ≡ true → Some n ≡ text_of (text_by least c (drop at s))
  by-right n q w f m g h = text-right least c s at n r q w e f m g h ∙ sym (text-by least c (drop at s))

module _ (s : List ℕ) (at : ℕ) (r : Option ℕ) where
  pub section-rule : r ≡ text_of (text_by 1 class.Name (drop at s)) → r ≡ text_of (section_name (drop at s))
  unfolding text_by legal_text section_name legal_section_name in_class
  section-rule e = e

  pub name-rule : r ≡ text_of (text_by 1 class.Tag (drop at s)) → r ≡ text_of (tag_name (drop at s))
  unfolding text_by legal_text tag_name legal_tag_name in_class
  name-rule e = e

  pub value-rule : r ≡ text_of (text_by 0 class.Tag (drop at s)) → r ≡ text_of (tag_value (drop at s))
  unfolding text_by legal_text tag_value legal_tag_value in_class
  value-rule e = e

-- ── All of a class ──

pub every-cons : (ok : ℕ → Bool) (s : List ℕ) (at n : ℕ) → 0 < n → at < length s
    → every ok (take n (drop at s)) ≡ (ok (get_or s at 0) && every ok (take (n - 1) (drop (at + 1) s)))
unfolding every
every-cons ok s at zero z h = elim z [ ]
every-cons ok s at (suc n) z h =
    let p : at + 1 ≡ suc at = omega arith in
    let q : suc n - 1 ≡ n = omega arith in
    rw (drop-cons s at 0 h, p, q)

pub ruleset laws = (
  rules,
  not-true,
  not-false,
  name-digit,
  name-capital,
  name-small,
  name-low,
  name-mid,
  name-between,
  name-high,
  tag-inside,
  tag_below,
  tag-above,
  class-name,
  class-tag,
  string-past,
  string-broken,
  string-whole,
  text-fits,
  text-place,
  by-broken,
  by-few,
  by-wrong,
  by-right,
  section-rule,
  name-rule,
  value-rule,
)
