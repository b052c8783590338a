-- What the functions of this crate leave to be shown, as laws about the definitions.
-- Assumes nothing.
use Prim.Native.Nat.{ℕ}
use mathlib.Core.Path.{◌≡◌, ap, ◌∙◌}
use mathlib.Core.List.{List}
use lib.IntN.{ℤ}
use borrow.Author.Rules.{rules}
use Rattle.recorder.specs.Recorded.{Made, made, begin_of, add_of, close_of}
use Rattle.recorder.specs.declared.Recorder.{Recorder}
use Rattle.recorder.specs.declared.Taken.{Taken}
use Rattle.face_recording.specs.Face.{recorder_asked, taken_flat, recorded, recorded_flat}
use Rattle.face_recording.specs.declared.FstfRecorder.{FstfRecorder}
use Rattle.face_recording.specs.declared.FstfTaken.{FstfTaken}

-- what a call of the recorder answers and leaves, flat
recorded-is : (g : FstfRecorder) (t : Taken) (n o : List ℕ) (m : Made) (r : FstfTaken) → made t n o ≡ m → r ≡ taken_flat g t
    → recorded r n o ≡ recorded_flat g m
unfolding recorded_flat
recorded-is g t n o m r e h = ap (λ (x : FstfTaken). recorded x n o) h ∙ ap (recorded_flat g) e

pub begin-face : (g : FstfRecorder) (a : Recorder) (u v n o n' o' : List ℕ) (t : Taken) (r : FstfTaken) → a ≡ recorder_asked g
    → made t n' o' ≡ begin_of a u v n o → r ≡ taken_flat g t → recorded r n' o' ≡ recorded_flat g (begin_of (recorder_asked g) u v n o)
begin-face g a u v n o n' o' t r e h k = recorded-is g t n' o' (begin_of (recorder_asked g) u v n o) r
    (h ∙ ap (λ (x : Recorder). begin_of x u v n o) e) k

pub add-face : (g : FstfRecorder) (a : Recorder) (time x : ℤ) (exposure : ℕ) (s n o n' o' : List ℕ) (t : Taken) (r : FstfTaken)
    → a ≡ recorder_asked g → made t n' o' ≡ add_of a x exposure s n o → x ≡ time → r ≡ taken_flat g t
    → recorded r n' o' ≡ recorded_flat g (add_of (recorder_asked g) time exposure s n o)
add-face g a time x exposure s n o n' o' t r e h i k = recorded-is g t n' o' (add_of (recorder_asked g) time exposure s n o) r
    (h ∙ ap (λ (y : Recorder). add_of y x exposure s n o) e ∙ ap (λ (z : ℤ). add_of (recorder_asked g) z exposure s n o) i) k

pub close-face : (g : FstfRecorder) (a : Recorder) (n o o' : List ℕ) (t : Taken) (r : FstfTaken) → a ≡ recorder_asked g
    → made t n o' ≡ close_of a n o → r ≡ taken_flat g t → recorded r n o' ≡ recorded_flat g (close_of (recorder_asked g) n o)
close-face g a n o o' t r e h k = recorded-is g t n o' (close_of (recorder_asked g) n o) r (h ∙ ap (λ (x : Recorder). close_of x n o) e) k

pub ruleset laws = (rules, begin-face, add-face, close-face)
