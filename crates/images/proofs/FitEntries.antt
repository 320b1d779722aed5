-- Entries that an image may have: the parts of a state that stands over nodes.
use Rattle.std.proofs.Common.{◌≡◌, ℕ, zero, suc, true, List, [], ◌∷◌, ◌++◌, Option, Some, None, slice_get, unwrap_or, refl, sym, subst}
use Rattle.std.specs.List.{All}
use Rattle.std.specs.Option.{option_and_then}
use Rattle.std.proofs.lemmas.List.Elements.{All-append, All-nil, All-push, All-weaker}
use Rattle.core_terms.specs.Types.{Ty, UnitTy, BoolTy, IntTy, TextTy, PairTy, NamedTy, AuthTy, VecTy, fields_at, item_types, OnFields}
use Rattle.core_terms.specs.Values.{Value, UnitV, BoolV, IntV, TextV, PairV, ConV, ItemsV, Values, NoV, AndV, IsIdeal, IsWithin}
use Rattle.core_terms.specs.Terms.{Program}
use Rattle.images.specs.Images.{Entry, entry}
use Rattle.images.specs.Parts.{HasLength, is_part}
use Rattle.images.specs.SavedImages.{walk, walk_all}
use Rattle.value_store.specs.Nodes.{AreSound, Node}
use Rattle.value_store.specs.Standing.{IdealNodes, StandsFor, AllStandFor}
use Rattle.value_store.proofs.StandingNodes.{within_stands}
use Rattle.value_store.proofs.TypedNodes.{ideal_refers, ideal_stands}
use Rattle.images.proofs.NodeEntries.{length_stands}
use Rattle.images.proofs.ClosedParts.{field_part, first_part, inner_part, item_part, second_part}

-- the value is an ideal one, within the limits, and its type is a part of the state's
pub record IsFit (P : Program) (e : Entry) : Type 0 where
  pub ideal : IsIdeal P.types e.of_type e.value
  pub within : IsWithin P.format.limit P.types e.of_type e.value
  pub part : is_part P.types e.of_type P.state ≡ true
  pub has_length : HasLength e.of_type

module _ (P : Program) where
  abbrev PartOfState : Ty → Type 0
  PartOfState t = is_part P.types t P.state ≡ true

  abbrev AllParts : List Ty → Type 0
  AllParts [] = Unit {0}
  AllParts (t ∷ ts) = PartOfState t × AllParts ts

  abbrev FieldParts : Option (List Ty) → Type 0
  FieldParts None = Unit {0}
  FieldParts (Some ts) = AllParts ts

  all_parts : (ts : List Ty) → ((i : ℕ) (t : Ty) → slice_get ts i ≡ Some t → PartOfState t) → AllParts ts
  all_parts [] h = tt
  all_parts (t ∷ ts) h = (h 0 t refl, all_parts ts (λ i u at. h (suc i) u at))

  all_items : (n : ℕ) (t : Ty) → PartOfState t → AllParts (item_types n t)
  all_items zero t h = tt
  all_items (suc n) t h = (h, all_items n t h)

  -- the types of the fields of a part of the state's type are parts of it
  field_parts : (number tag : ℕ) → PartOfState (NamedTy number) → FieldParts (fields_at P.types number tag)
  field_parts number tag h = by (slice_get P.types number) refl
    where
      at_tag : (constructors : List (List Ty)) → slice_get P.types number ≡ Some constructors → (o : Option (List Ty)) → slice_get constructors tag ≡ o → FieldParts o
      at_tag constructors there None at = tt
      at_tag constructors there (Some ts) at =
          all_parts ts (λ i t has. field_part P.types P.state t number (tag, ts, subst (λ o. slice_get (unwrap_or o []) tag ≡ Some ts) (sym there) at, i, has) h)

      by : (o : Option (List (List Ty))) → slice_get P.types number ≡ o → FieldParts (option_and_then (λ constructors. slice_get constructors tag) o)
      by None there = tt
      by (Some constructors) there = at_tag constructors there (slice_get constructors tag) refl

  module _ (nodes : List Node) {kept : ℕ} (sound : AreSound kept nodes) (limit : P.format.limit ≡ kept) where
    abbrev Stands : ℕ → Ty → Value → Type 0
    Stands r t v = StandsFor IdealNodes P.types nodes r t v

    fit : (t : Ty) (v : Value) (r : ℕ) → Stands r t v → PartOfState t → IsFit P (entry t v)
    fit t v r h part =
        record {
          ideal = ideal_stands IdealNodes P.types (ideal_refers P.types) nodes t v r h;
          within = subst (λ n. IsWithin n P.types t v) (sym limit) (within_stands IdealNodes P.types nodes t v r sound h);
          part = part;
          has_length = length_stands P.types nodes r t v h;
        }

    fit_leaf : (t : Ty) (v : Value) (r : ℕ) → Stands r t v → PartOfState t → All (IsFit P) (entry t v ∷ [])
    fit_leaf t v r h part = All-push (IsFit P) [] (entry t v) (All-nil (IsFit P)) (fit t v r h part)

    mutual
      -- all that a walk meets is fit for an image
      pub fit_walk : (t : Ty) (v : Value) (r : ℕ) → Stands r t v → PartOfState t → All (IsFit P) (walk P.types t v)
      fit_walk (AuthTy t) v r h part =
          let inner = ideal_refers P.types h.0 t v (λ r. Stands r t v) h.2 in
          All-push (IsFit P) (walk P.types t v) (entry (AuthTy t) v) (fit_walk t v inner.0 inner.1 (inner_part P.types P.state t part)) (fit (AuthTy t) v r h part)
      fit_walk UnitTy UnitV r h part = fit_leaf UnitTy UnitV r h part
      fit_walk BoolTy (BoolV b) r h part = fit_leaf BoolTy (BoolV b) r h part
      fit_walk IntTy (IntV z) r h part = fit_leaf IntTy (IntV z) r h part
      fit_walk TextTy (TextV bytes) r h part = fit_leaf TextTy (TextV bytes) r h part
      fit_walk (PairTy a b) (PairV x y) r h part =
          All-push (IsFit P) (walk P.types a x ++ walk P.types b y) (entry (PairTy a b) (PairV x y))
          (All-append (IsFit P) (walk P.types a x) (walk P.types b y)
          (fit_walk a x h.0 h.3 (first_part P.types P.state a b part)) (fit_walk b y h.1 h.4 (second_part P.types P.state a b part)))
          (fit (PairTy a b) (PairV x y) r h part)
      fit_walk (NamedTy number) (ConV tag vs) r h part =
          All-push (IsFit P) (walk_all P.types (unwrap_or (fields_at P.types number tag) []) vs) (entry (NamedTy number) (ConV tag vs))
          (fit_fields (fields_at P.types number tag) h.0 vs h.2 (field_parts number tag part)) (fit (NamedTy number) (ConV tag vs) r h part)
      fit_walk (VecTy n t) (ItemsV vs) r h part =
          All-push (IsFit P) (walk_all P.types (item_types n t) vs) (entry (VecTy n t) (ItemsV vs))
          (fit_fields (Some (item_types n t)) h.0 vs h.3 (all_items n t (item_part P.types P.state n t part))) (fit (VecTy n t) (ItemsV vs) r h part)
      fit_walk t v r h part = elim h [ ]

      fit_fields : (o : Option (List Ty)) (rs : List ℕ) (vs : Values) → OnFields o (λ ts. AllStandFor IdealNodes P.types nodes rs ts vs) → FieldParts o
          → All (IsFit P) (walk_all P.types (unwrap_or o []) vs)
      fit_fields (Some []) [] NoV h parts = All-nil (IsFit P)
      fit_fields (Some (t ∷ ts)) (r ∷ rs) (AndV v vs) h parts =
          All-append (IsFit P) (walk P.types t v) (walk_all P.types ts vs) (fit_walk t v r h.0 parts.0) (fit_fields (Some ts) rs vs h.1 parts.1)
      fit_fields o rs vs h parts = elim h [ ]

-- the same program, where spellings may have so many bytes
abbrev with_limit : Program → ℕ → Program
with_limit P limit = record {
  format = record {
    digest = P.format.digest;
    print = P.format.print;
    limit = limit;
    magic = P.format.magic;
    image_magic = P.format.image_magic;
    most_kept = P.format.most_kept;
    arrays = P.format.arrays;
  };
  types = P.types;
  state = P.state;
  functions = P.functions;
  code = P.code;
}

-- The types of all that a walk meets are parts of the state's, whatever the limit of the nodes is.
pub part_walk : (P : Program) (nodes : List Node) {kept : ℕ} → AreSound kept nodes → (v : Value) (r : ℕ) → StandsFor IdealNodes P.types nodes r P.state v
    → is_part P.types P.state P.state ≡ true → All (λ (e : Entry). is_part P.types e.of_type P.state ≡ true) (walk P.types P.state v)
part_walk P nodes {kept = kept} sound v r h whole =
    All-weaker (IsFit (with_limit P kept)) (λ (e : Entry). is_part P.types e.of_type P.state ≡ true) (λ e f. f.part) (walk P.types P.state v)
    (fit_walk (with_limit P kept) nodes sound refl P.state v r h whole)
