-- A refusal, its number and its place.
-- Assumes nothing.
use Prim.Native.Nat.{ℕ, zero, suc}
use mathlib.Core.Path.{◌≡◌, refl}
use Rattle.refusal.specs.declared.Refusal.{Refusal}
use Rattle.refusal.specs.declared.Refusal.TheVariants.{NotFstf, Revision, NotClosed, Index, NoSuchItem, NoRoom, Stage, Clock, FrameShape, Full, Whole, TableFull}
use Rattle.refusal.specs.Refusal.{number_of, place_of, beside, placed}

beside-number : (r : Refusal) (n p : ℕ) → number_of r ≡ n → number_of (beside r n p) ≡ n
beside-number r n zero e = e
beside-number r n (suc p) e = refl

beside-place : (r : Refusal) (n p : ℕ) → place_of r ≡ 0 → place_of (beside r n p) ≡ p
beside-place r n zero e = e
beside-place r n (suc p) e = refl

-- the refusal of a number and a place has that number
pub number_kept : (n place : ℕ) → number_of (placed n place) ≡ n
number_kept zero p = refl
number_kept (suc zero) p = beside-number NotFstf 1 p refl
number_kept (suc (suc zero)) p = beside-number Revision 2 p refl
number_kept (suc (suc (suc zero))) p = refl
number_kept (suc (suc (suc (suc zero)))) p = refl
number_kept (suc (suc (suc (suc (suc zero))))) p = beside-number NotClosed 5 p refl
number_kept (suc (suc (suc (suc (suc (suc zero)))))) p = beside-number Index 6 p refl
number_kept (suc (suc (suc (suc (suc (suc (suc zero))))))) p = refl
number_kept (suc (suc (suc (suc (suc (suc (suc (suc zero)))))))) p = beside-number NoSuchItem 8 p refl
number_kept (suc (suc (suc (suc (suc (suc (suc (suc (suc zero))))))))) p = beside-number NoRoom 9 p refl
number_kept (suc (suc (suc (suc (suc (suc (suc (suc (suc (suc zero)))))))))) p = refl
number_kept (suc (suc (suc (suc (suc (suc (suc (suc (suc (suc (suc zero))))))))))) p = refl
number_kept (suc (suc (suc (suc (suc (suc (suc (suc (suc (suc (suc (suc zero)))))))))))) p = beside-number Stage 12 p refl
number_kept (suc (suc (suc (suc (suc (suc (suc (suc (suc (suc (suc (suc (suc zero))))))))))))) p = beside-number Clock 13 p refl
number_kept (suc (suc (suc (suc (suc (suc (suc (suc (suc (suc (suc (suc (suc (suc zero)))))))))))))) p = beside-number FrameShape 14 p refl
number_kept (suc (suc (suc (suc (suc (suc (suc (suc (suc (suc (suc (suc (suc (suc (suc zero))))))))))))))) p = beside-number Full 15 p refl
number_kept (suc (suc (suc (suc (suc (suc (suc (suc (suc (suc (suc (suc (suc (suc (suc (suc zero)))))))))))))))) p = beside-number Whole 16 p refl
number_kept (suc (suc (suc (suc (suc (suc (suc (suc (suc (suc (suc (suc (suc (suc (suc (suc (suc zero))))))))))))))))) p = beside-number TableFull 17 p refl
number_kept (suc (suc (suc (suc (suc (suc (suc (suc (suc (suc (suc (suc (suc (suc (suc (suc (suc (suc n)))))))))))))))))) p = refl

-- and that place
pub place_kept : (n place : ℕ) → place_of (placed n place) ≡ place
place_kept zero p = refl
place_kept (suc zero) p = beside-place NotFstf 1 p refl
place_kept (suc (suc zero)) p = beside-place Revision 2 p refl
place_kept (suc (suc (suc zero))) p = refl
place_kept (suc (suc (suc (suc zero)))) p = refl
place_kept (suc (suc (suc (suc (suc zero))))) p = beside-place NotClosed 5 p refl
place_kept (suc (suc (suc (suc (suc (suc zero)))))) p = beside-place Index 6 p refl
place_kept (suc (suc (suc (suc (suc (suc (suc zero))))))) p = refl
place_kept (suc (suc (suc (suc (suc (suc (suc (suc zero)))))))) p = beside-place NoSuchItem 8 p refl
place_kept (suc (suc (suc (suc (suc (suc (suc (suc (suc zero))))))))) p = beside-place NoRoom 9 p refl
place_kept (suc (suc (suc (suc (suc (suc (suc (suc (suc (suc zero)))))))))) p = refl
place_kept (suc (suc (suc (suc (suc (suc (suc (suc (suc (suc (suc zero))))))))))) p = refl
place_kept (suc (suc (suc (suc (suc (suc (suc (suc (suc (suc (suc (suc zero)))))))))))) p = beside-place Stage 12 p refl
place_kept (suc (suc (suc (suc (suc (suc (suc (suc (suc (suc (suc (suc (suc zero))))))))))))) p = beside-place Clock 13 p refl
place_kept (suc (suc (suc (suc (suc (suc (suc (suc (suc (suc (suc (suc (suc (suc zero)))))))))))))) p = beside-place FrameShape 14 p refl
place_kept (suc (suc (suc (suc (suc (suc (suc (suc (suc (suc (suc (suc (suc (suc (suc zero))))))))))))))) p = beside-place Full 15 p refl
place_kept (suc (suc (suc (suc (suc (suc (suc (suc (suc (suc (suc (suc (suc (suc (suc (suc zero)))))))))))))))) p = beside-place Whole 16 p refl
place_kept (suc (suc (suc (suc (suc (suc (suc (suc (suc (suc (suc (suc (suc (suc (suc (suc (suc zero))))))))))))))))) p = beside-place TableFull 17 p refl
place_kept (suc (suc (suc (suc (suc (suc (suc (suc (suc (suc (suc (suc (suc (suc (suc (suc (suc (suc n)))))))))))))))))) p = refl
