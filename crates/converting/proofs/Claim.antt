-- The request's claim about the calls: what a commit of the converted sheet answers and leaves is what a commit of the old sheet answered and left.
-- Assumes nothing.
use Rattle.std.specs.Prelude.{Ok}
use Prim.Native.Nat.{ℕ, zero, suc}
use native.Mathlib.Omega.{arith}
use mathlib.Core.Path.{◌≡◌, refl, ap, sym, ◌∙◌}
use mathlib.Core.Bool.{true}
use mathlib.Core.List.{List}
use lib.ListN.{length, take}
use lib.Seq.{take_at}
use lib.Pow.{are_bytes}
use Rattle.layout.specs.Recorder.{filled}
use Rattle.layout.specs.Saving.{Commit}
use Rattle.layout.specs.OldSheets.{old_commit, Convert, convert}
use Rattle.layout.proofs.Converted.{convert-commits}
use Rattle.saving.specs.Answers.{committed_as, commit_of}
use Rattle.converting.specs.Answers.{converted_as, convert_of}
use Rattle.apply.specs.Applied.{applying}
use Rattle.refusal.specs.Refusal.{unless}

-- an accepted answer stands at the start of the output
stands : (c : Convert) (n : ℕ) (out o : List ℕ) → applying (Ok n) o ≡ converted_as c out → (c.refused ≡ 0) × (take n o ≡ c.sheet)
unfolding converted_as unless filled
stands c n out o e = go c.refused refl (ap (λ x. x.answer) e)
  where
    go : (r : ℕ) → c.refused ≡ r → Ok n ≡ unless r c.place (length c.sheet) → (c.refused ≡ 0) × (take n o ≡ c.sheet)
    go zero h f =
        let l : n ≡ length c.sheet = cc in
        (h, ap (take n) (ap (λ x. x.out) e) ∙ take_at c.sheet _ n (sym l))
    go (suc r) h f = let z : ◌≡◌ {A = ℕ} 0 1 = cc in absurd (omega arith)

-- For every file, every old sheet and every room: where the converter accepts, a commit of the bytes that it wrote, on that file and with any output, answers
-- and leaves what the old commit of the old sheet did: the number, the place, the table and the lent bytes.
pub converted-commits : (f s out o out' : List ℕ) (n : ℕ)
    → are_bytes f ≡ true
    → are_bytes s ≡ true
    → applying (Ok n) o ≡ convert_of f s out
    → commit_of f (take n o) out' ≡ committed_as (old_commit f s (length out')) out'
unfolding convert_of commit_of
converted-commits f s out o out' n h k e =
    let (a, b) = stands (convert f s (length out)) n out o e in
    rw b (ap (λ (c : Commit). committed_as c out') (convert-commits f s (length out) (length out') h k a))
