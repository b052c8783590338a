-- Names in order, compared as numbers, and the seat of one among them.
use Rattle.std.specs.Prelude.{ℕ, zero, suc, ◌+◌, ◌-◌, ◌*◌, ◌/◌, ◌&&◌, cond, List, [], ◌∷◌, ◌++◌, length, take, drop, get_or, leb, ltb, Option, Some, None}
use Rattle.std.specs.declared.cmp.Ordering.{Ordering}
use Rattle.std.specs.declared.cmp.Ordering.TheVariants.{Less, Equal, Greater}
use Rattle.std.specs.Ordering.{nat_cmp}
use Rattle.layout.specs.Reading.{Parsed, bad, good, string}

-- a name as a number, the low byte first and a 1 behind the last: no two names have one, and a shorter name has a smaller one
unfoldable pub key : List ℕ → ℕ
key [] = 1
key (b ∷ bs) = b + 256 * key bs

-- a name that was read; the empty one where it is not all there
unfoldable pub name_of : Parsed (List ℕ) → List ℕ
name_of (bad m) = []
name_of (good name n) = name

unfoldable pub name_at : List ℕ → (at : ℕ) → List ℕ
name_at s at = name_of (string (drop at s))

-- how one number stands to another
unfoldable pub turn_of : ℕ → ℕ → Ordering
turn_of x y = nat_cmp x y

-- the numbers of the names at these places
unfoldable pub keys : List ℕ → (places : List ℕ) → List ℕ
keys s [] = []
keys s (at ∷ places) = key (name_at s at) ∷ keys s places

abbrev pub middle : (low high : ℕ) → ℕ
middle low high = low + (high - low) / 2

-- where to go on by how a number stands to another; nowhere where it equals it
abbrev pub onward : Ordering → (before after : Option ℕ) → Option ℕ
onward Less before after = before
onward Equal before after = None
onward Greater before after = after

-- the seat of a number among others that ascend, by halves of what lies from `low` to `high`, so often at most
unfoldable pub halves : ℕ → (ks : List ℕ) → (k low high : ℕ) → Option ℕ
halves zero ks k low high = Some low
halves (suc n) ks k low high =
    cond (ltb low high) (onward (turn_of k (get_or ks (middle low high) 0)) (halves n ks k low (middle low high))
    (halves n ks k (middle low high + 1) high)) (Some low)

-- the seat of the name at a place among those at the first `count` of these places; nothing where there are not so many
unfoldable pub seek : List ℕ → (places : List ℕ) → (count place : ℕ) → Option ℕ
seek s places count place =
    cond (leb count (length places)) (halves count (keys s (take count places)) (key (name_at s place)) 0 count) None

-- a place put at its seat among the first `count`, those from there on one later; as it was where there is no room, or no such seat
unfoldable pub inserted : (places : List ℕ) → (count seat place : ℕ) → List ℕ
inserted places count seat place =
    cond (ltb count (length places) && leb seat count)
    ((take seat places ++ (place ∷ take (count - seat) (drop seat places))) ++ drop (count + 1) places) places
