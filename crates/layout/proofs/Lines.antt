-- An order of refusals gives 0 exactly when none of its lines holds; what that says of the lines of opening.
-- Assumes nothing.
use Prim.Native.Nat.{ℕ, suc}
use native.Mathlib.Omega.{arith}
use mathlib.Core.Path.{◌≡◌, refl, ap, sym, ◌∙◌}
use mathlib.Core.Bool.{Bool, true, false}
use mathlib.Core.List.{List, [], ◌∷◌, ◌++◌, append_assoc, append-nil}
use Rattle.layout.specs.Opening.{Line, line, first_of, not_fstf, other_revision, bad_sections, bad_system, not_closed, bad_index, bad_user, front_lines, opening_lines, refusal}

-- a line that does not hold is passed over
pub line-pass : (n : ℕ) (b : Bool) (ls : List Line) → b ≡ false → first_of (line n b ∷ ls) ≡ first_of ls
unfolding first_of
line-pass n b ls e = rw (e, first_of)

-- a line that holds is the answer
pub line-holds : (n : ℕ) (b : Bool) (ls : List Line) → b ≡ true → first_of (line n b ∷ ls) ≡ n
unfolding first_of
line-holds n b ls e = rw (e, first_of)

-- where the answer is 0, no line holds
pub line_clear : (n : ℕ) (b : Bool) (ls : List Line) → first_of (line (suc n) b ∷ ls) ≡ 0 → (b ≡ false) × (first_of ls ≡ 0)
unfolding first_of
line_clear n true ls e = absurd (omega arith)
line_clear n false ls e = (refl, e)

-- the first lines answer for all, where one of them holds
pub lines-first : (front bs : List Line) (n : ℕ) → first_of front ≡ suc n → first_of (front ++ bs) ≡ suc n
unfolding first_of
lines-first [] bs n e = absurd (omega arith)
lines-first (l ∷ ls) bs n e = go l.holds e (lines-first ls bs n)
  where
    go : (b : Bool) → first_of (line l.number b ∷ ls) ≡ suc n → (first_of ls ≡ suc n → first_of (ls ++ bs) ≡ suc n) → first_of (line l.number b ∷ ls ++ bs) ≡ suc n
    go true q i = q
    go false q i = i q

-- none of the lines that opening and repair begin with holds
pub record FrontPasses (f : List ℕ) : Type 0 where
  pub mark : not_fstf f ≡ false
  pub version : other_revision f ≡ false
  pub sections : bad_sections f ≡ false
  pub system : bad_system f ≡ false

-- no line of opening holds
pub record Passes (f : List ℕ) : Type 0 where
  pub front : FrontPasses f
  pub closed : not_closed f ≡ false
  pub index : bad_index f ≡ false
  pub user : bad_user f ≡ false

pub front-pass : (f : List ℕ) (ls : List Line) → FrontPasses f → first_of (front_lines f ++ ls) ≡ first_of ls
unfolding front_lines
front-pass f ls p =
    line-pass 1 (not_fstf f) _ p.mark ∙ line-pass 2 (other_revision f) _ p.version ∙ line-pass 3 (bad_sections f) _ p.sections ∙ line-pass 4 (bad_system f) _ p.system

pub front-clear : (f : List ℕ) (ls : List Line) → first_of (front_lines f ++ ls) ≡ 0 → FrontPasses f × (first_of ls ≡ 0)
unfolding front_lines
front-clear f ls e =
    let a = line_clear 0 (not_fstf f) _ e in
    let b = line_clear 1 (other_revision f) _ a.1 in
    let c = line_clear 2 (bad_sections f) _ b.1 in
    let d = line_clear 3 (bad_system f) _ c.1 in
    (record { mark = a.0; version = b.0; sections = c.0; system = d.0 }, d.1)

pub opening-pass : (f : List ℕ) (ls : List Line) → Passes f → first_of (opening_lines f ++ ls) ≡ first_of ls
unfolding opening_lines
opening-pass f ls p =
    rw append_assoc (front-pass f _ p.front ∙ line-pass 5 (not_closed f) _ p.closed ∙ line-pass 6 (bad_index f) _ p.index ∙ line-pass 7 (bad_user f) _ p.user)

pub opening-clear : (f : List ℕ) (ls : List Line) → first_of (opening_lines f ++ ls) ≡ 0 → Passes f × (first_of ls ≡ 0)
unfolding opening_lines
opening-clear f ls e =
    let a = front-clear f _ (rw append_assoc at e) in
    let b = line_clear 4 (not_closed f) _ a.1 in
    let c = line_clear 5 (bad_index f) _ b.1 in
    let d = line_clear 6 (bad_user f) _ c.1 in
    (record { front = a.0; closed = b.0; index = c.0; user = d.0 }, d.1)

-- a file opens exactly when no line of opening holds
pub passes-opens : (f : List ℕ) → Passes f → refusal f ≡ 0
unfolding refusal first_of
passes-opens f p = ap first_of (sym (append-nil (opening_lines f))) ∙ opening-pass f [] p

pub opens-passes : (f : List ℕ) → refusal f ≡ 0 → Passes f
unfolding refusal
opens-passes f e = (opening-clear f [] (ap first_of (append-nil (opening_lines f)) ∙ e)).0
