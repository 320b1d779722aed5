-- What passes the second pass: its names are declared, and its arrays are arrays that the program may have.
use Rattle.std.proofs.Common.{◌≡◌, ℕ, zero, suc, Bool, true, false, ◌||◌, List, [], ◌∷◌, map, Option, Some, option_map, unwrap_or, slice_index_or, bytes_eq, if◌then◌else◌, refl, sym, ap, ap₂, ◌∙◌}
use Rattle.std.proofs.lemmas.Slice.Eq.{bytes_eq-Decides}
use Rattle.core_terms.specs.ProgramFormats.{arrays_of}
use Rattle.core_terms.specs.Types.{Ty, AuthTy, PairTy, VecTy, is_length}
use Rattle.core_terms.specs.declared.format.Format.{Format}
use Rattle.core_terms.specs.declared.format.Format.TheVariants.{Second}
use Rattle.lexemes.specs.declared.place.Place.{Place}
use Rattle.lexemes.proofs.NumberLemmas.{both_true}
use Rattle.auth_syntax.specs.Syntax.{TypeSyntax, NamedTypeSyntax, AuthTypeSyntax, PairTypeSyntax, VecTypeSyntax, ConstructorDeclaration}
use Rattle.auth_syntax.specs.Grammar.{HasLengths}
use Rattle.declared_types.specs.Checking.{Checking, Sound, FaultAt, then_checked, unless_fault, is_among}
use Rattle.declared_types.specs.WrittenTypes.{number_of, may_have, known_array, array_meant, type_meant, known_type, known_types, known_constructors}
use Rattle.declared_types.specs.declared.fault.TypeKind.{TypeKind}
use Rattle.declared_types.specs.declared.fault.TypeKind.TheVariants.{NotVec, UnknownName}

-- a rule that isn't broken holds, and two parts are known where both are
pub holds : (test : Bool) (kind : TypeKind) (at : Place) → unless_fault {A = Unit {0}} test kind at (Sound tt) ≡ Sound tt → test ≡ true
holds true kind at h = refl
holds false kind at h = absurd (cc)

pub both_known : (first second : Checking (Unit {0})) → then_checked first (λ _. second) ≡ Sound tt → (first ≡ Sound tt) × (second ≡ Sound tt)
both_known (Sound value) second h = (refl, h)
both_known (FaultAt kind at) second h = absurd (cc)

-- the number of a declared name gives back the name
abbrev HasNumber : Option ℕ → List (List ℕ) → List ℕ → Type 0
HasNumber found names name = (number : ℕ) × (found ≡ Some number) × (slice_index_or names number [] ≡ name)

first_or_later : (test : Bool) (later : Option ℕ) (among : Bool) (other : List ℕ) (others : List (List ℕ)) (name : List ℕ) → (test ≡ true → other ≡ name)
    → (among ≡ true → HasNumber later others name) → (test || among) ≡ true
    → HasNumber (if test then Some 0 else option_map suc later) (other ∷ others) name
first_or_later true later among other others name same more h = (zero, refl, same refl)
first_or_later false later among other others name same more h = let (number, found, there) = more h in (suc number, ap (option_map suc) found, there)

number_found : (names : List (List ℕ)) (name : List ℕ) → is_among name names ≡ true → HasNumber (number_of names name) names name
number_found [] name h = absurd (cc)
number_found (other ∷ others) name h =
    first_or_later (bytes_eq other name) (number_of others name) (is_among name others) other others name (bytes_eq-Decides other name).0
    (λ among. number_found others name among) h

module _ (format : Format) where
  -- an array that the program may have is one, also in the second format
  pub array_known : (at : Place) (n : ℕ) → known_array format at n ≡ Sound tt → may_have format n ≡ true
  array_known at n h = holds (may_have format n) NotVec at h

  pub array_is : (n : ℕ) (t : Ty) → may_have format n ≡ true → array_meant format n t ≡ VecTy n t
  array_is n t h = ap (λ (test : Bool). if test then VecTy n t else t) h

  array_length : (n : ℕ) → may_have format n ≡ true → is_length n ≡ true
  array_length n h = (both_true (arrays_of format) (is_length n) h).1

  array_in_second : (n : ℕ) (t : Ty) → may_have format n ≡ true → array_meant format n t ≡ array_meant Second n t
  array_in_second n t h = array_is n t h ∙ sym (ap (λ (test : Bool). if test then VecTy n t else t) (array_length n h))

  module _ (names : List (List ℕ)) where
    pub name_numbered : (at : Place) (name : List ℕ) → known_type format names (NamedTypeSyntax at name) ≡ Sound tt
        → slice_index_or names (unwrap_or (number_of names name) 0) [] ≡ name
    name_numbered at name h =
        let (number, found, there) = number_found names name (holds (is_among name names) UnknownName at h) in
        ap (λ (o : Option ℕ). slice_index_or names (unwrap_or o 0) []) found ∙ there

    pub parts_known : (first second : TypeSyntax) → then_checked (known_type format names first) (λ _. known_type format names second) ≡ Sound tt
        → (known_type format names first ≡ Sound tt) × (known_type format names second ≡ Sound tt)
    parts_known first second h = both_known (known_type format names first) (known_type format names second) h

    pub vec_known : (at : Place) (n : ℕ) (item : TypeSyntax) → known_type format names (VecTypeSyntax at n item) ≡ Sound tt
        → (may_have format n ≡ true) × (known_type format names item ≡ Sound tt)
    vec_known at n item h =
        let parts = both_known (known_array format at n) (known_type format names item) h in
        (array_known at n parts.0, parts.1)

    pub row_known : (t : TypeSyntax) (ts : List TypeSyntax) → known_types format names (t ∷ ts) ≡ Sound tt
        → (known_type format names t ≡ Sound tt) × (known_types format names ts ≡ Sound tt)
    row_known t ts h = both_known (known_type format names t) (known_types format names ts) h

    pub constructors_known : (c : ConstructorDeclaration) (cs : List ConstructorDeclaration) → known_constructors format names (c ∷ cs) ≡ Sound tt
        → (known_types format names c.fields ≡ Sound tt) × (known_constructors format names cs ≡ Sound tt)
    constructors_known c cs h = both_known (known_types format names c.fields) (known_constructors format names cs) h

    -- each array has a length
    pub lengths_known : (t : TypeSyntax) → known_type format names t ≡ Sound tt → HasLengths t
    lengths_known (AuthTypeSyntax at inner) h = lengths_known inner h
    lengths_known (PairTypeSyntax at first second) h =
        let parts = parts_known first second h in
        (lengths_known first parts.0, lengths_known second parts.1)
    lengths_known (VecTypeSyntax at n item) h =
        let parts = vec_known at n item h in
        (array_length n parts.0, lengths_known item parts.1)
    lengths_known t h = tt

    -- what is meant is what would be meant in the second format
    pub meant_in_second : (t : TypeSyntax) → known_type format names t ≡ Sound tt → type_meant format names t ≡ type_meant Second names t
    meant_in_second (AuthTypeSyntax at inner) h = ap AuthTy (meant_in_second inner h)
    meant_in_second (PairTypeSyntax at first second) h =
        let parts = parts_known first second h in
        ap₂ PairTy (meant_in_second first parts.0) (meant_in_second second parts.1)
    meant_in_second (VecTypeSyntax at n item) h =
        let parts = vec_known at n item h in
        array_in_second n (type_meant format names item) parts.0 ∙ ap (array_meant Second n) (meant_in_second item parts.1)
    meant_in_second t h = refl

    pub fields_in_second : (ts : List TypeSyntax) → known_types format names ts ≡ Sound tt
        → map (type_meant format names) ts ≡ map (type_meant Second names) ts
    fields_in_second [] h = refl
    fields_in_second (t ∷ ts) h =
        let parts = row_known t ts h in
        ap₂ (λ (u : Ty) (us : List Ty). u ∷ us) (meant_in_second t parts.0) (fields_in_second ts parts.1)

    pub constructors_in_second : (cs : List ConstructorDeclaration) → known_constructors format names cs ≡ Sound tt
        → map (λ (c : ConstructorDeclaration). map (type_meant format names) c.fields) cs
        ≡ map (λ (c : ConstructorDeclaration). map (type_meant Second names) c.fields) cs
    constructors_in_second [] h = refl
    constructors_in_second (c ∷ cs) h =
        let parts = constructors_known c cs h in
        ap₂ (λ (ts : List Ty) (tss : List (List Ty)). ts ∷ tss) (fields_in_second c.fields parts.0) (constructors_in_second cs parts.1)
