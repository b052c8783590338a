-- What the recorder hands out, stored and closed, opens again to what it was given.
-- Assumes nothing.
use Prim.Native.Nat.{ℕ, ◌≤◌}
use native.Mathlib.Omega.{arith}
use mathlib.Core.Path.{◌≡◌}
use mathlib.Core.Bool.{true}
use mathlib.Core.Logic.{inl, inr}
use mathlib.Core.List.{List, []}
use lib.ListN.{length}
use lib.Pow.{are_bytes}
use Rattle.layout.specs.Recording.{Recording, Legal, index_length, encode, every}
use Rattle.layout.specs.Opening.{refusal, shown}
use Rattle.layout.specs.Recorder.{closed}
use Rattle.layout.specs.Storage.{Call, started, session, file_of, given, nothing_given, call_fits}
use Rattle.layout.proofs.Condition2.{legal-opens, legal-shown}
use Rattle.layout.proofs.Trace.{Reached, traced}
use Rattle.layout.proofs.Closing.{closed-file}
use Rattle.layout.proofs.Calls.{calls_of, calls-fit, calls-record}

-- A recording that was begun, added to and closed, whatever else was tried and refused in between, is a legal recording of what its accepted calls were
-- given; its file is that recording's bytes, opens, and shows it. Premise: what the calls were lent are bytes, a time has 64 bits and an exposure 32,
-- which is what their types say.
pub recorded : (notes : List ℕ) (calls : List Call)
    → every call_fits calls ≡ true
    → (session (started notes) calls).state.stage ≡ closed
    → Legal (given (started notes) calls nothing_given)
    × (file_of (session (started notes) calls) ≡ encode (given (started notes) calls nothing_given))
    × (refusal (file_of (session (started notes) calls)) ≡ 0)
    × (shown (file_of (session (started notes) calls)) ≡ given (started notes) calls nothing_given)
recorded notes calls h c = go (traced notes calls h)
  where
    go : Reached (session (started notes) calls) (given (started notes) calls nothing_given) → Legal (given (started notes) calls nothing_given) × (file_of (session (started notes) calls) ≡ encode (given (started notes) calls nothing_given)) × (refusal (file_of (session (started notes) calls)) ≡ 0) × (shown (file_of (session (started notes) calls)) ≡ given (started notes) calls nothing_given)
    go (inl t) = let z : ◌≡◌ {A = ℕ} 0 1 = cc in absurd (omega arith)
    go (inr t) =
        let l = t.1.legal in
        let f = closed-file (session (started notes) calls) (given (started notes) calls nothing_given) t.0 t.1 c in
        (l, f, rw f (legal-opens (given (started notes) calls nothing_given) l), rw f (legal-shown (given (started notes) calls nothing_given) l))

-- The other half: every legal recording without user tags, whatever its frames, is what some calls record. One call to begin with its sections and system
-- table, one for each frame and five to close are accepted, whatever the notes held; they were given that recording, and the file is its bytes.
-- Premises: its contents are bytes; the notes hold its index; the room of each call is enough for the whole file.
pub recordable : (r : Recording) (notes : List ℕ) (room : ℕ)
    → Legal r
    → r.user ≡ []
    → are_bytes (encode r) ≡ true
    → index_length (length r.frames) ≤ length notes
    → length (encode r) ≤ room
    → (every call_fits (calls_of r room) ≡ true)
    × ((session (started notes) (calls_of r room)).state.stage ≡ closed)
    × (given (started notes) (calls_of r room) nothing_given ≡ r)
    × (file_of (session (started notes) (calls_of r room)) ≡ encode r)
recordable r notes room l u h n o =
    let c = calls-record r notes room l u h n o in
    (calls-fit r room l h, c.0, c.1, c.2)
