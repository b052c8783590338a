-- What finding a name among rows says of the rows that the layout's readers read there.
-- Assumes nothing.
use Rattle.std.specs.Prelude.{None}
use Prim.Native.Nat.{ℕ, zero, suc, ◌+◌, ◌<◌}
use native.Mathlib.Omega.{arith}
use mathlib.Core.Path.{◌≡◌, refl, ap, sym, ◌∙◌}
use mathlib.Core.Bool.{Bool, true, false, cond}
use mathlib.Core.List.{List, [], ◌∷◌, map}
use lib.ListN.{length, take, drop, get_or}
use lib.Seq.{drop-drop}
use Rattle.layout.specs.Recording.{Tag, same, among, tag_names}
use Rattle.layout.specs.Reading.{Reader, good, times}
use Rattle.layout.specs.Items.{no_tag}
use Rattle.layout.specs.Browser.{number_of_tag}
use Rattle.layout.proofs.Lists.{or-false, same_true}
use Rattle.layout.proofs.Readers.{times-suc-takes}
use Rattle.rows.specs.Rows.{row_name}
use Rattle.names.specs.Names.{found_at, found}
use Rattle.rows.specs.declared.Row.{Row}
use Rattle.names.proofs.Laws.{among-found, found-same}
use Rattle.names.proofs.Readers.{names-times}
use Rattle.parts.proofs.Times.{times-parts, times-led}

cond_cases : {A G : Type 0} (b : Bool) (x y z : A) → cond b x y ≡ z → (b ≡ true → x ≡ z → G) → (b ≡ false → y ≡ z → G) → G
cond_cases true x y z e t f = t refl e
cond_cases false x y z e t f = f refl e

module _ {A : Type 0} (k : Row) (p : Reader A) (name : A → List ℕ) (leads : (t : List ℕ) (x : A) (n : ℕ) → p t ≡ good x n
    → row_name k t ≡ good (name x) n) (v s : List ℕ) where
  -- not found: no row has the name
  pub find-nothing : (n i at m : ℕ) (xs : List A) → times n p (drop at s) ≡ good xs m → found v n (row_name k) s i at ≡ None
      → among v (map name xs) ≡ false
  find-nothing n i at m xs e f =
      rw (
        ← names-times n (row_name k) (drop at s) (map name xs) m (times-led p (row_name k) name leads n (drop at s) xs m e),
        among-found v n (row_name k) s i at,
        f,
      )

  -- found: row number b has it, none ahead of it does, and it stands at q
  pub find_at : {G : Type 0} (d : A) (n i at m j q : ℕ) (xs : List A) → times n p (drop at s) ≡ good xs m → found v n (row_name k) s i at ≡ found_at j q
      → ((b u w : ℕ) → j ≡ i + b → b < n → among v (map name (take b xs)) ≡ false → same v (name (get_or xs b d)) ≡ true
      → times b p (drop at s) ≡ good (take b xs) u → q ≡ at + u → p (drop q s) ≡ good (get_or xs b d) w → G) → G
  unfolding found times among
  find_at d zero i at m j q xs e f w = let z : ◌≡◌ {A = ℕ} 0 1 = cc in absurd (omega arith)
  find_at {G} d (suc n) i at m j q xs e f w =
      times-parts p n (drop at s) xs m e (λ x c ys y g h o r.
      cond_cases (same v (name x)) (found_at i at) (found v n (row_name k) s (i + 1) (at + c)) (found_at j q) (sym (rw (leads (drop at s) x c g, found)) ∙ f)
      (λ t l.
      let (a', a) = found-same j q i at (sym l) in
      w 0 0 c (omega arith) (omega arith) refl (rw o t) refl (omega arith) (rw (o, a) g))
      (λ t l.
      find_at d n (i + 1) (at + c) y j q ys (rw (← drop-drop c at s) h) l (λ b u z a l' among' same' times' q' p'.
      w (suc b) (c + u) z (omega arith) (omega arith) (rw (o, t) among') (rw o same')
      (rw o (times-suc-takes p b (drop at s) x (take b ys) c u g (rw (drop-drop c at s) times'))) (omega arith) (rw o p'))))

-- ── Tables and sheets ──

pub same-sym : (a b : List ℕ) → same a b ≡ same b a
same-sym a b = go (same a b) (same b a) refl refl
  where
    go : (x y : Bool) → same a b ≡ x → same b a ≡ y → same a b ≡ same b a
    go true true p q = p ∙ sym q
    go false false p q = p ∙ sym q
    go true false p q = sym (ap (λ (c : List ℕ). same a c) (same_true a b p)) ∙ ap (λ (c : List ℕ). same c a) (same_true a b p)
    go false true p q = sym (ap (λ (c : List ℕ). same c b) (same_true b a q)) ∙ ap (λ (c : List ℕ). same b c) (same_true b a q)

pub number-none : (v : List ℕ) (ts : List Tag) → among v (tag_names ts) ≡ false → number_of_tag v ts ≡ length ts
unfolding among tag_names number_of_tag
number-none v [] e = refl
number-none v (t ∷ ts) e = let (p, q) = or-false (same v t.name) (among v (tag_names ts)) e in rw p (ap suc (number-none v ts q))

pub number_at : (v : List ℕ) (ts : List Tag) (b : ℕ) → b < length ts → among v (tag_names (take b ts)) ≡ false
    → same v (get_or ts b no_tag).name ≡ true → number_of_tag v ts ≡ b
unfolding among tag_names number_of_tag
number_at v [] b l e f = absurd (omega arith)
number_at v (t ∷ ts) zero l e f = rw f
number_at v (t ∷ ts) (suc b) l e f =
    let (p, q) = or-false (same v t.name) (among v (tag_names (take b ts))) e in
    rw p (ap suc (number_at v ts b (omega arith) q f))
