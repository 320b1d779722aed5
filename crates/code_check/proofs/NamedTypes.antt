-- The named types of a list.
use Rattle.std.proofs.Common.{◌≡◌, ◌<◌, ℕ, ◌+◌, List, [], ◌∷◌, ◌++◌, length, map, take, slice_index_or, Vec, refl, sym, ap, ◌∙◌, subst}
use Rattle.std.specs.List.{All, AllZip}
use Rattle.std.specs.declared.alloc.Global.{Global}
use Rattle.std.proofs.lemmas.List.{append-nil}
use Rattle.core_terms.specs.Types.{Ty}
use Rattle.core_terms.specs.declared.term.NamedType.{NamedType}
use Rattle.core_terms.specs.declared.types.TyId.{TyId}
use Rattle.core_terms.proofs.DecidedTypes.{zip_push}
use Rattle.object_meaning.specs.ObjectBodies.{constructor_names, listed_at, named_tables}
use Rattle.object_meaning.specs.Objects as meant
use Rattle.object_meaning.specs.Objects.{ListedUnit, ListedBool, ListedInt, ListedText, ListedPair, ListedNamed, ListedAuth}
use Rattle.object_meaning.specs.ReadObjects.{names_of}
use Rattle.object_reader.specs.ObjectViews.{constructor_of, constructors_of, shape_of, type_of}
use Rattle.object_reader.specs.declared.object.ListedConstructor.{ListedConstructor}
use Rattle.object_reader.specs.declared.object.ListedType.{ListedType}
use Rattle.object_reader.specs.declared.object.ListedType.TheVariants.{Shaped, Named}
use Rattle.object_reader.specs.declared.object.TypeShape.{TypeShape}
use Rattle.object_reader.specs.declared.object.TypeShape.TheVariants.{UnitShape, BoolShape, IntShape, TextShape, PairShape, AuthShape}
use Rattle.code_check.specs.ListedParts.{AreNamedOf, HasConstructorsAmong, IsConstructorAmong, IsNamedOf, constructor_lists}
use Rattle.code_check.proofs.Zips.{all_mapped, at_item, taken_more}

-- the constructors of a named type are among those of the list
pub own_constructors : (n : ℕ) (xs : List ListedType) (i : ℕ) (x : ListedType) (own : Vec ListedConstructor Global) (items : List ListedConstructor) → i < length xs → x ≡ slice_index_or xs i x
    → All (λ (t : ListedType). HasConstructorsAmong n (type_of t)) xs → x ≡ Named own → items ≡ own.items → All (λ (c : ListedConstructor). IsConstructorAmong n (constructor_of c)) items
own_constructors n xs i x own items inside is all named same =
    let here = subst (λ t. HasConstructorsAmong n (type_of t)) named (at_item (λ (t : ListedType). HasConstructorsAmong n (type_of t)) xs i x inside is all) in
    subst (All (λ (c : ListedConstructor). IsConstructorAmong n (constructor_of c))) (sym same) (all_mapped (IsConstructorAmong n) constructor_of own.items here)

lists_append : (ts us : List meant.ListedType) → constructor_lists (ts ++ us) ≡ constructor_lists ts ++ constructor_lists us
lists_append [] us = refl
lists_append (ListedUnit ∷ ts) us = lists_append ts us
lists_append (ListedBool ∷ ts) us = lists_append ts us
lists_append (ListedInt ∷ ts) us = lists_append ts us
lists_append (ListedText ∷ ts) us = lists_append ts us
lists_append (ListedPair a b ∷ ts) us = lists_append ts us
lists_append (ListedNamed constructors ∷ ts) us = ap (λ l. constructors ∷ l) (lists_append ts us)
lists_append (ListedAuth a ∷ ts) us = lists_append ts us

next : (xs : List ListedType) (i : ℕ) (x : ListedType) → i < length xs → x ≡ slice_index_or xs i x
    → constructor_lists (map type_of (take (i + 1) xs)) ≡ constructor_lists (map type_of (take i xs)) ++ constructor_lists (type_of x ∷ [])
next xs i x inside is = ap constructor_lists (taken_more type_of xs i x inside is) ∙ lists_append (map type_of (take i xs)) (type_of x ∷ [])

-- a named type more
pub named_more : (numbers : List TyId) (xs : List ListedType) (i : ℕ) (x : ListedType) (own : Vec ListedConstructor Global) (items : List ListedConstructor) (named : List NamedType) (one : NamedType)
    → i < length xs → x ≡ slice_index_or xs i x → AreNamedOf numbers (map type_of (take i xs)) named → x ≡ Named own → items ≡ own.items → IsNamedOf numbers (constructors_of items) one
    → AreNamedOf numbers (map type_of (take (i + 1) xs)) (named ++ one ∷ [])
named_more numbers xs i x own items named one inside is all same own_items made =
    let whole = next xs i x inside is ∙ ap (λ t. constructor_lists (map type_of (take i xs)) ++ constructor_lists (type_of t ∷ [])) same in
    let last = subst (λ l. IsNamedOf numbers (constructors_of l) one) own_items made in
    subst (λ l. AllZip (IsNamedOf numbers) l (named ++ one ∷ [])) (sym whole) (zip_push (IsNamedOf numbers) (constructor_lists (map type_of (take i xs))) named (constructors_of own.items) one all last)

-- a type of another form
pub named_passed : (numbers : List TyId) (xs : List ListedType) (i : ℕ) (x : ListedType) (named : List NamedType) → i < length xs → x ≡ slice_index_or xs i x
    → ((own : Vec ListedConstructor Global) → x ≡ Named own → ⊥) → AreNamedOf numbers (map type_of (take i xs)) named → AreNamedOf numbers (map type_of (take (i + 1) xs)) named
named_passed numbers xs i x named inside is other all =
    subst (λ l. AllZip (IsNamedOf numbers) l named) (sym (next xs i x inside is ∙ ap (λ l. so_far ++ l) (by x other) ∙ append-nil so_far)) all
  where
    so_far : List (List meant.ListedConstructor)
    so_far = constructor_lists (map type_of (take i xs))

    shaped : (shape : TypeShape) → constructor_lists (shape_of shape ∷ []) ≡ []
    shaped UnitShape = refl
    shaped BoolShape = refl
    shaped IntShape = refl
    shaped TextShape = refl
    shaped (PairShape a b) = refl
    shaped (AuthShape a) = refl

    by : (x : ListedType) → ((own : Vec ListedConstructor Global) → x ≡ Named own → ⊥) → constructor_lists (type_of x ∷ []) ≡ []
    by (Named own) other = absurd (other own refl)
    by (Shaped shape) other = shaped shape

-- the tables and the names of an object are by its lists of constructors
abbrev pub field_types : List Ty → List meant.ListedConstructor → List (List Ty)
field_types trees constructors = map (λ (c : meant.ListedConstructor). map (listed_at trees) c.fields) constructors

pub tables_listed : (trees : List Ty) (ts : List meant.ListedType) → named_tables trees ts ≡ map (field_types trees) (constructor_lists ts)
tables_listed trees [] = refl
tables_listed trees (ListedUnit ∷ ts) = tables_listed trees ts
tables_listed trees (ListedBool ∷ ts) = tables_listed trees ts
tables_listed trees (ListedInt ∷ ts) = tables_listed trees ts
tables_listed trees (ListedText ∷ ts) = tables_listed trees ts
tables_listed trees (ListedPair a b ∷ ts) = tables_listed trees ts
tables_listed trees (ListedNamed constructors ∷ ts) = ap (λ l. field_types trees constructors ∷ l) (tables_listed trees ts)
tables_listed trees (ListedAuth a ∷ ts) = tables_listed trees ts

pub names_listed : (ts : List meant.ListedType) → constructor_names ts ≡ map names_of (constructor_lists ts)
names_listed [] = refl
names_listed (ListedUnit ∷ ts) = names_listed ts
names_listed (ListedBool ∷ ts) = names_listed ts
names_listed (ListedInt ∷ ts) = names_listed ts
names_listed (ListedText ∷ ts) = names_listed ts
names_listed (ListedPair a b ∷ ts) = names_listed ts
names_listed (ListedNamed constructors ∷ ts) = ap (λ l. names_of constructors ∷ l) (names_listed ts)
names_listed (ListedAuth a ∷ ts) = names_listed ts
