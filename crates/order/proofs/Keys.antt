-- Names as numbers: no two names have one, a shorter name has a smaller one, and of two that are equally long the last byte that differs decides.
-- Assumes nothing.
use Rattle.std.specs.declared.cmp.Ordering.TheVariants.{Less, Equal, Greater}
use Rattle.std.specs.Ordering.{nat_cmp}
use Prim.Native.Nat.{ℕ, suc, ◌+◌, ◌*◌, ◌^◌, ◌<◌, ◌≤◌}
use native.Mathlib.Nat.{mul_assoc, mul_comm, pow-suc}
use native.Mathlib.Omega.{arith}
use mathlib.Core.Path.{◌≡◌, refl, ap, sym, ◌∙◌}
use mathlib.Core.Bool.{Bool, true, false}
use mathlib.Core.List.{List, [], ◌∷◌, ◌++◌, append-nil}
use lib.ListN.{length}
use lib.Dec.{ltb, eqb}
use lib.Pow.{are_bytes}
use borrow.Author.Tests.{ltb-true, ltb-false, lt-ltb, le-ltb, eq-eqb, ne_eqb}
use Rattle.number.specs.Number.{number_of}
use Rattle.number.proofs.Bytes.{both_true}
use Rattle.layout.specs.Recording.{same}
use Rattle.layout.proofs.Lists.{same_true, same_refl}
use Rattle.order.specs.Order.{key, turn_of}

-- ── How one number stands to another ──

-- one of three
pub three : {G : Type 0} (x y : ℕ) → (x < y → G) → (x ≡ y → G) → (y < x → G) → G
three {G} x y f g h = go (ltb x y) (ltb y x) refl refl
  where
    go : (a b : Bool) → ltb x y ≡ a → ltb y x ≡ b → G
    go true b p q = f (ltb-true x y p)
    go false true p q = h (ltb-true y x q)
    go false false p q =
        let l = ltb-false x y p in
        let m = ltb-false y x q in
        g (omega arith)

pub turn-cmp : (x y : ℕ) → nat_cmp x y ≡ turn_of x y
unfolding turn_of
turn-cmp x y = refl

pub turn-before : (x y : ℕ) → x < y → Less ≡ turn_of x y
unfolding turn_of
turn-before x y h = rw (lt-ltb x y h)

pub turn-after : (x y : ℕ) → y < x → Greater ≡ turn_of x y
unfolding turn_of
turn-after x y h = rw (le-ltb x y (omega arith), ne_eqb x y (λ e. omega arith))

pub turn-same : (x y : ℕ) → y ≤ x → x ≤ y → Equal ≡ turn_of x y
unfolding turn_of
turn-same x y h l = rw (le-ltb x y h, eq-eqb x y (omega arith))

turn-both : (x y a b : ℕ) → (x < y → a < b) → (x ≡ y → a ≡ b) → (y < x → b < a) → turn_of a b ≡ turn_of x y
turn-both x y a b f g h =
    three x y (λ p. sym (turn-before a b (f p)) ∙ turn-before x y p) (λ p.
    let q = g p in
    sym (turn-same a b (omega arith) (omega arith)) ∙ turn-same x y (omega arith) (omega arith)) (λ p.
    sym (turn-after a b (h p)) ∙ turn-after x y p)

-- ── A name as a number ──

pub key-some : (xs : List ℕ) → 0 < key xs
unfolding key
key-some [] = omega arith
key-some (b ∷ bs) = let i = key-some bs in omega arith

byte-less : (b : ℕ) (bs : List ℕ) → are_bytes (b ∷ bs) ≡ true → (b < 256) × (are_bytes bs ≡ true)
byte-less b bs h = let (p, q) = both_true (ltb b 256) (are_bytes bs) h in (ltb-true b 256 p, q)

-- a shorter name comes first
pub key-longer : (xs ys : List ℕ) → are_bytes xs ≡ true → length xs < length ys → key xs < key ys
unfolding key
key-longer xs [] h l = absurd (omega arith)
key-longer [] (c ∷ cs) h l = let i = key-some cs in omega arith
key-longer (b ∷ bs) (c ∷ cs) h l =
    let (p, q) = byte-less b bs h in
    let i = key-longer bs cs q (omega arith) in
    omega arith

-- no two names have one number
pub key_one : (xs ys : List ℕ) → are_bytes xs ≡ true → are_bytes ys ≡ true → key xs ≡ key ys → xs ≡ ys
unfolding key
key_one [] [] h k e = refl
key_one [] (c ∷ cs) h k e = let i = key-some cs in absurd (omega arith)
key_one (b ∷ bs) [] h k e = let i = key-some bs in absurd (omega arith)
key_one (b ∷ bs) (c ∷ cs) h k e =
    let (p, q) = byte-less b bs h in
    let (l, m) = byte-less c cs k in
    let first : b ≡ c = omega arith in
    let rest : bs ≡ cs = key_one bs cs q m (omega arith) in
    cc

pub key-same : (xs ys : List ℕ) → are_bytes xs ≡ true → are_bytes ys ≡ true → eqb (key xs) (key ys) ≡ same xs ys
key-same xs ys h k = go (same xs ys) refl
  where
    go : (b : Bool) → same xs ys ≡ b → eqb (key xs) (key ys) ≡ b
    go true e = eq-eqb (key xs) (key ys) (ap key (same_true xs ys e))
    go false e = ne_eqb (key xs) (key ys) (λ f. let r : xs ≡ ys = key_one xs ys h k f in
        let t : same xs ys ≡ true = rw r (same_refl ys) in
        let z : ◌≡◌ {A = ℕ} 0 1 = cc in
        omega arith)

-- a name that is put together
key-append : (xs t : List ℕ) → key (xs ++ t) ≡ number_of xs + 256 ^ length xs * key t
unfolding key number_of
key-append [] t = omega arith
key-append (b ∷ bs) t =
    let i : key (bs ++ t) ≡ number_of bs + 256 ^ length bs * key t = key-append bs t in
    let p : 256 ^ suc (length bs) * key t ≡ 256 * (256 ^ length bs * key t) = rw (pow-suc 256 (length bs)) (simp (mul_assoc, mul_comm)) in
    omega arith

key-number : (xs : List ℕ) → key xs ≡ number_of xs + 256 ^ length xs
unfolding key
key-number xs =
    let e : key (xs ++ []) ≡ key xs = ap key (append-nil xs) in
    let f : key (xs ++ []) ≡ number_of xs + 256 ^ length xs * 1 = key-append xs [] in
    omega arith

-- ends that are equal numbers decide nothing
pub same_ends : (xs ys u v : List ℕ) → length xs ≡ length ys → length u ≡ length v → number_of u ≡ number_of v
    → turn_of (key (xs ++ u)) (key (ys ++ v)) ≡ turn_of (key xs) (key ys)
same_ends xs ys u v l m e =
    let p : 256 ^ length xs ≡ 256 ^ length ys = ap (λ (n : ℕ). 256 ^ n) l in
    let q : 256 ^ length u ≡ 256 ^ length v = ap (λ (n : ℕ). 256 ^ n) m in
    let k : key u ≡ key v = omega (arith, key-number u, key-number v) in
    let o : 256 ^ length xs * key u ≡ 256 ^ length ys * key v = ap (λ (n : ℕ). 256 ^ n * key u) l ∙ ap (λ (n : ℕ). 256 ^ length ys * n) k in
    let a = key-append xs u in
    let b = key-append ys v in
    let c = key-number xs in
    let d = key-number ys in
    turn-both (key xs) (key ys) (key (xs ++ u)) (key (ys ++ v)) (λ h. omega arith) (λ h. omega arith) (λ h. omega arith)

-- of two names that are equally long the ends decide
ends-less : (xs ys u v : List ℕ) → are_bytes xs ≡ true → length xs ≡ length ys → key u < key v → key (xs ++ u) < key (ys ++ v)
unfolding key
ends-less [] [] u v h l e = e
ends-less [] (c ∷ cs) u v h l e = absurd (omega arith)
ends-less (b ∷ bs) [] u v h l e = absurd (omega arith)
ends-less (b ∷ bs) (c ∷ cs) u v h l e =
    let (p, q) = byte-less b bs h in
    let i = ends-less bs cs u v q (omega arith) e in
    omega arith

pub other-ends : (xs ys u v : List ℕ) → are_bytes xs ≡ true → are_bytes ys ≡ true → length xs ≡ length ys → length u ≡ length v
    → (number_of u ≡ number_of v → ⊥) → turn_of (number_of u) (number_of v) ≡ turn_of (key (xs ++ u)) (key (ys ++ v))
other-ends xs ys u v h k l m e =
    let q : 256 ^ length u ≡ 256 ^ length v = ap (λ (n : ℕ). 256 ^ n) m in
    let c = key-number u in
    let d = key-number v in
    sym (turn-both (number_of u) (number_of v) (key (xs ++ u)) (key (ys ++ v)) (λ p. ends-less xs ys u v h l (omega arith)) (λ p. absurd (e p))
    (λ p. ends-less ys xs v u k (sym l) (omega arith)))
