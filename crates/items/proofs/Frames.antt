-- A frame by its number: what its function leaves to be shown.
-- Assumes nothing.
use Prim.Native.Nat.{ℕ, ◌-◌, ◌^◌, ◌<◌}
use native.Mathlib.Omega.{arith}
use mathlib.Core.Path.{◌≡◌, ap, sym, ◌∙◌}
use mathlib.Core.List.{List}
use lib.ListN.{drop}
use borrow.Author.Rules.{rules}
use mir.Syntax.{w32, w64}
use mir.Val.{Fits, to_z, of_z}
use mir.Facts.{of_z-to_z}
use lib.IntN.{ℤ}
use Rattle.number.proofs.Bytes.{slice-bytes}
use Rattle.layout.proofs.Lists.{bytes_drop}
use Rattle.layout.proofs.Exact.{frame-exact, frame-legal}
use Rattle.std.specs.Prelude.{Option, Some, None, Ok, Err}
use Rattle.frames.specs.Frames.{frame_at}
use Rattle.frames.specs.declared.FrameAt.{FrameAt}
use Rattle.frames.proofs.Laws.{found, found-behind}
use Rattle.opening.specs.declared.Held.{Held}
use Rattle.refusal.specs.declared.Refusal.TheVariants.{NoSuchItem}
use Rattle.items.specs.Items.{frame_place, frame_from, frame_behind, held_frame}
use Rattle.items.specs.declared.FrameRead.{FrameRead}
use Rattle.items.proofs.Bytes.{Bytes}

-- ── Frames ──

-- its numbers fit
frame-fits : (f : List ℕ) (p k : ℕ) (x : FrameAt) (r : Option FrameAt) → Bytes f → r ≡ frame_at f p k → r ≡ Some x → (x.time < 2 ^ 64) × (x.exposure < 2 ^ 32)
frame-fits f p k x r b e g =
    let (y, n, q, u, v, w) = found f p k x (sym e ∙ g) in
    let l = (frame-legal k y).1 ((frame-exact k).gives (drop p f) y n (bytes_drop p f (slice-bytes f b)) q).0 in
    (omega (arith, l.0), omega (arith, l.1))

-- the frame that a place leads to
module _ (f : List ℕ) (k : ℕ) (q t : Option ℕ) (e : q ≡ t) where
  pub frame-nowhere : q ≡ None → None ≡ frame_behind f k t
  frame-nowhere g = rw (sym e ∙ g)

  module _ (p : ℕ) (g : q ≡ Some p) where
    pub frame-there : frame_behind f k t ≡ frame_from p (frame_at f p k)
    frame-there = rw (sym e ∙ g)

    module _ (r : Option FrameAt) (u : r ≡ frame_at f p k) where
      pub frame-none : r ≡ None → None ≡ frame_behind f k t
      unfolding frame_from
      frame-none v = sym (frame-there ∙ ap (frame_from p) (sym u ∙ v))

      -- an Int64 is stored by its pattern
      pub frame-some : (x : FrameAt) (z : ℤ) → Bytes f → r ≡ Some x → z ≡ to_z w64 x.time
          → Some (record { place = p; length = x.next - p; time = to_z w64 (of_z w64 z); exposure = x.exposure }) ≡ frame_behind f k t
      unfolding frame_from
      frame-some x z b v w =
          let o : of_z w64 z ≡ x.time = ap (of_z w64) w ∙ of_z-to_z {w = w64} {n = x.time} (record { fits = (frame-fits f p k x r b u v).0 }) in
          ap (λ (n : ℕ). Some (record { place = p; length = x.next - p; time = to_z w64 n; exposure = x.exposure })) o
          ∙ sym (frame-there ∙ ap (frame_from p) (sym u ∙ v))

pub exposure-fits : (f : List ℕ) (p k : ℕ) (x : FrameAt) (r : Option FrameAt) → Bytes f → r ≡ frame_at f p k → r ≡ Some x → Fits w32 x.exposure
exposure-fits f p k x r b e g = record { fits = (frame-fits f p k x r b e g).1 }

module _ (f : List ℕ) (h : Held) (i : ℕ) (r : Option FrameRead) (e : r ≡ frame_behind f h.sections (frame_place f h.frames h.index i)) where
  pub held-none : r ≡ None → Err NoSuchItem ≡ held_frame f h i
  unfolding held_frame
  held-none q = rw (sym e ∙ q)

  pub held-some : (x : FrameRead) → r ≡ Some x → Ok x ≡ held_frame f h i
  unfolding held_frame
  held-some x q = rw (sym e ∙ q)

pub ruleset laws = (rules, found-behind, frame-nowhere, frame-none, frame-some, exposure-fits, held-none, held-some)
