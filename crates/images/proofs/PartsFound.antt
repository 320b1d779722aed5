-- The search for parts of a type finds each of them, and nothing else.
use Rattle.std.proofs.Common.{◌≡◌, inl, inr, ℕ, zero, suc, true, List, [], length, Option, Some, None, slice_get, unwrap_or, sym, subst}
use Rattle.std.specs.Option.{option_and_then}
use Rattle.core_terms.specs.Types.{Ty, UnitTy, BoolTy, IntTy, TextTy, PairTy, NamedTy, AuthTy, VecTy, Table}
use Rattle.core_terms.proofs.SameTypes.{same_sound}
use Rattle.images.specs.Parts.{is_part}
use Rattle.images.specs.ImageLaws.{IsPartOf, Itself, Authenticated, First, Second, Element, Field, PartsAreFound}
use Rattle.images.proofs.ClosedParts.{field_part, first_part, inner_part, item_part, second_part}
use Rattle.images.proofs.PartLevels.{IsPart, auth_cases, itself, named_cases, pair_cases, vec_cases}

fields_there : (o : Option (List (List Ty))) (tag : ℕ) (fields : List Ty) → option_and_then (λ constructors. slice_get constructors tag) o ≡ Some fields
    → slice_get (unwrap_or o []) tag ≡ Some fields
fields_there None tag fields h = absurd (cc)
fields_there (Some constructors) tag fields h = h

there_fields : (o : Option (List (List Ty))) (tag : ℕ) (fields : List Ty) → slice_get (unwrap_or o []) tag ≡ Some fields
    → option_and_then (λ constructors. slice_get constructors tag) o ≡ Some fields
there_fields None tag fields h = absurd (cc)
there_fields (Some constructors) tag fields h = h

module _ (types : Table) (whole : Ty) where
  found : {t : Ty} → IsPartOf types whole t → is_part types t whole ≡ true
  found Itself = itself types (length types) whole
  found (Authenticated {t = t} h) = inner_part types whole t (found h)
  found (First {a = a} {b = b} h) = first_part types whole a b (found h)
  found (Second {a = a} {b = b} h) = second_part types whole a b (found h)
  found (Element {n = n} {t = t} h) = item_part types whole n t (found h)
  found (Field {t = t} {number = number} h tag place fields there at) =
      field_part types whole t number (tag, fields, fields_there (slice_get types number) tag fields there, place, at) (found h)

  same_part : (t u : Ty) → t ≡ u → IsPartOf types whole u → IsPartOf types whole t
  same_part t u e h = subst (IsPartOf types whole) (sym e) h

  -- what is found in a part is a part
  part : (opened : ℕ) (t u : Ty) → IsPart types opened t u → IsPartOf types whole u → IsPartOf types whole t
  part zero t UnitTy h p = same_part t UnitTy (same_sound t UnitTy h) p
  part (suc opened) t UnitTy h p = same_part t UnitTy (same_sound t UnitTy h) p
  part zero t BoolTy h p = same_part t BoolTy (same_sound t BoolTy h) p
  part (suc opened) t BoolTy h p = same_part t BoolTy (same_sound t BoolTy h) p
  part zero t IntTy h p = same_part t IntTy (same_sound t IntTy h) p
  part (suc opened) t IntTy h p = same_part t IntTy (same_sound t IntTy h) p
  part zero t TextTy h p = same_part t TextTy (same_sound t TextTy h) p
  part (suc opened) t TextTy h p = same_part t TextTy (same_sound t TextTy h) p
  part opened t (PairTy a b) h p =
      elim (pair_cases types opened t a b h) [
        | inl e ↦ same_part t (PairTy a b) e p
        | inr (inl q) ↦ part opened t a q (First p)
        | inr (inr q) ↦ part opened t b q (Second p)
      ]
  part opened t (AuthTy a) h p = elim (auth_cases types opened t a h) [ inl e ↦ same_part t (AuthTy a) e p | inr q ↦ part opened t a q (Authenticated p) ]
  part opened t (VecTy n a) h p = elim (vec_cases types opened t n a h) [ inl e ↦ same_part t (VecTy n a) e p | inr q ↦ part opened t a q (Element p) ]
  part zero t (NamedTy number) h p = same_part t (NamedTy number) (same_sound t (NamedTy number) h) p
  part (suc opened) t (NamedTy number) h p =
      elim (named_cases types opened t number h) [
        | inl e ↦ same_part t (NamedTy number) e p
        | inr found ↦
            part opened t found.0 found.2
            (Field p found.1.0 found.1.3 found.1.1 (there_fields (slice_get types number) found.1.0 found.1.1 found.1.2) found.1.4)
      ]

pub parts_are_found : PartsAreFound
parts_are_found types t whole = (λ h. part types whole (length types) t whole h Itself, λ p. found types whole p)
