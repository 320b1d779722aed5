-- The test of two types says yes where they are the same; what a test of two parts says.
use Rattle.std.proofs.Common.{◌≡◌, Bool, true, false, ◌&&◌, refl, ap, ap₂, eqb-true, nat_eq}
use Rattle.core_terms.specs.Types.{Ty, UnitTy, BoolTy, IntTy, TextTy, PairTy, NamedTy, AuthTy, VecTy, same_type}

pub first_of : (a b : Bool) → a && b ≡ true → a ≡ true
first_of true b e = refl
first_of false b e = cc

pub second_of : (a b : Bool) → a && b ≡ true → b ≡ true
second_of true b e = e
second_of false b e = cc

pub same_sound : (a b : Ty) → same_type a b ≡ true → a ≡ b
same_sound UnitTy UnitTy e = refl
same_sound BoolTy BoolTy e = refl
same_sound IntTy IntTy e = refl
same_sound TextTy TextTy e = refl
same_sound (PairTy a b) (PairTy c d) e = ap₂ PairTy (same_sound a c (first_of _ _ e)) (same_sound b d (second_of (same_type a c) _ e))
same_sound (NamedTy m) (NamedTy n) e = ap NamedTy (eqb-true m n e)
same_sound (AuthTy a) (AuthTy b) e = ap AuthTy (same_sound a b e)
same_sound (VecTy m a) (VecTy n b) e = ap₂ VecTy (eqb-true m n (first_of _ _ e)) (same_sound a b (second_of (nat_eq m n) _ e))
same_sound a b e = cc
