-- Names and values that were read: their bytes stand behind the length byte.
-- Assumes nothing.
use Rattle.std.specs.Prelude.{Option, Some}
use Prim.Native.Nat.{ℕ, ◌+◌, ◌^◌, ◌<◌, ◌≤◌}
use native.Mathlib.Omega.{arith}
use mathlib.Core.Path.{◌≡◌, refl, ap, sym, ◌∙◌}
use mathlib.Core.Bool.{Bool, true}
use mathlib.Core.List.{List}
use lib.ListN.{length, take, drop}
use mir.Syntax.{w64}
use mir.Val.{Fits}
use Rattle.layout.specs.Recording.{legal_section_name, legal_tag_name, legal_tag_value}
use Rattle.layout.specs.Reading.{Parsed, bad, good, Reader, only, placed, string, section_name, tag_name, tag_value}
use Rattle.layout.proofs.Readers.{placed-good}
use Rattle.strings.specs.Strings.{text_of}
use Rattle.parts.proofs.Taken.{only_parts}
use Rattle.strings.proofs.Laws.{string-parts}

-- what p reads is a short string that keeps a rule
pub record Keeps (ok : List ℕ → Bool) (p : Reader (List ℕ)) : Type 0 where
  pub text : (t v : List ℕ) (n : ℕ) → p t ≡ good v n → string t ≡ good v n
  pub rule : (t v : List ℕ) (n : ℕ) → p t ≡ good v n → ok v ≡ true

keeps : (w : List ℕ → ℕ) (ok : List ℕ → Bool) → Keeps ok (placed w (only ok string))
keeps w ok =
    record {
      text = λ t v n e. (only_parts ok string t v n (placed-good w (only ok string) t v n e)).0;
      rule = λ t v n e. (only_parts ok string t v n (placed-good w (only ok string) t v n e)).1;
    }

pub section-keeps : Keeps legal_section_name section_name
unfolding section_name
section-keeps = keeps _ legal_section_name

pub name-keeps : Keeps legal_tag_name tag_name
unfolding tag_name
name-keeps = keeps _ legal_tag_name

pub value_keeps : Keeps legal_tag_value tag_value
unfolding tag_value
value_keeps = keeps _ legal_tag_value

-- one that is there: its bytes stand behind its length byte
pub kept-parts : {ok : List ℕ → Bool} (p : Reader (List ℕ)) → Keeps ok p → (s : List ℕ) (at n : ℕ) → text_of (p (drop at s)) ≡ Some n
    → (at + 1 + n ≤ length s) × (p (drop at s) ≡ good (take n (drop (at + 1) s)) (1 + n))
unfolding text_of
kept-parts p k s at n e = go (p (drop at s)) refl e
  where
    go : (x : Parsed (List ℕ)) → p (drop at s) ≡ x → text_of x ≡ Some n
        → (at + 1 + n ≤ length s) × (p (drop at s) ≡ good (take n (drop (at + 1) s)) (1 + n))
    go (bad m) f g = let z : ◌≡◌ {A = ℕ} 0 1 = cc in absurd (omega arith)
    go (good v m) f g =
        let q : string (drop at s) ≡ good v m = k.text (drop at s) v m f in
        let (l, o, r) = string-parts s at n (ap text_of q ∙ g) in
        (l, f ∙ sym q ∙ r)

module _ (s : List ℕ) (at n : ℕ) where
  pub section-parts : text_of (section_name (drop at s)) ≡ Some n
      → (at + 1 + n ≤ length s) × (section_name (drop at s) ≡ good (take n (drop (at + 1) s)) (1 + n))
  section-parts e = kept-parts section_name section-keeps s at n e

  pub name-parts : text_of (tag_name (drop at s)) ≡ Some n
      → (at + 1 + n ≤ length s) × (tag_name (drop at s) ≡ good (take n (drop (at + 1) s)) (1 + n))
  name-parts e = kept-parts tag_name name-keeps s at n e

  pub value-parts : text_of (tag_value (drop at s)) ≡ Some n
      → (at + 1 + n ≤ length s) × (tag_value (drop at s) ≡ good (take n (drop (at + 1) s)) (1 + n))
  value-parts e = kept-parts tag_value value_keeps s at n e

  module _ (r : Option ℕ) (h : length s < 2 ^ 64) (f : r ≡ Some n) where
    pub section-place : r ≡ text_of (section_name (drop at s)) → Fits w64 (at + 1)
    section-place e = let l = (section-parts (sym e ∙ f)).0 in record { fits = omega arith }

    pub section-after : r ≡ text_of (section_name (drop at s)) → Fits w64 (at + 1 + n)
    section-after e = let l = (section-parts (sym e ∙ f)).0 in record { fits = omega arith }

    pub name-place : r ≡ text_of (tag_name (drop at s)) → Fits w64 (at + 1)
    name-place e = let l = (name-parts (sym e ∙ f)).0 in record { fits = omega arith }

    pub name-after : r ≡ text_of (tag_name (drop at s)) → Fits w64 (at + 1 + n)
    name-after e = let l = (name-parts (sym e ∙ f)).0 in record { fits = omega arith }

    pub value-place : r ≡ text_of (tag_value (drop at s)) → Fits w64 (at + 1)
    value-place e = let l = (value-parts (sym e ∙ f)).0 in record { fits = omega arith }

    pub value_after : r ≡ text_of (tag_value (drop at s)) → Fits w64 (at + 1 + n)
    value_after e = let l = (value-parts (sym e ∙ f)).0 in record { fits = omega arith }
