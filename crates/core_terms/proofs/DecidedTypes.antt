-- Types that are compared by a test of numbers, and lists whose items belong to the items of others, one by one.
use Rattle.std.proofs.Common.{◌≡◌, Bool, true, false, IsTrue, List, [], ◌∷◌, ◌++◌, refl, sym, subst}
use Rattle.std.proofs.lemmas.Bool.{false≢true}
use Rattle.std.specs.List.{AllZip}
use Rattle.core_terms.specs.Types.{Ty, same_type}
use Rattle.core_terms.proofs.SameTypes.{same_sound}
use Rattle.core_terms.proofs.TypingComplete.{same_self}

-- two types are the same by the test where a test of numbers says so
pub same_decides : (r : Bool) (s t : Ty) → (IsTrue r → s ≡ t) → (s ≡ t → IsTrue r) → r ≡ same_type s t
same_decides true s t forth back = sym (subst (λ (u : Ty). same_type s u ≡ true) (forth refl) (same_self s))
same_decides false s t forth back = by (same_type s t) (λ same. absurd (false≢true (back (same_sound s t same))))
  where
    by : (b : Bool) → (b ≡ true → ⊥) → false ≡ b
    by true never = absurd (never refl)
    by false never = refl

-- one pair more
pub zip_push : {A B : Type 0} (R : A → B → Type 0) (xs : List A) (ys : List B) (x : A) (y : B) → AllZip R xs ys → R x y → AllZip R (xs ++ x ∷ []) (ys ++ y ∷ [])
zip_push R [] [] x y all one = (one, tt)
zip_push R [] (z ∷ ys) x y all one = absurd all
zip_push R (z ∷ xs) [] x y all one = absurd all
zip_push R (w ∷ xs) (z ∷ ys) x y all one = (all.0, zip_push R xs ys x y all.1 one)
