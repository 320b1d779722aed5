-- Lemmas of an arm of a match.
use Rattle.std.proofs.Common.{◌≡◌, ◌≢◌, ℕ, ◌+◌, ◌<◌, Bool, List, [], ◌∷◌, length, map, drop, nat_eq, Option, Some, None, Result, slice_index_or, refl, sym, ap, ◌∙◌}
use Rattle.std.proofs.lemmas.Bool.{eq-eqb, ne_eqb}
use Rattle.std.proofs.lemmas.List.{length-map}
use Rattle.core_terms.specs.Types.{Ty}
use Rattle.core_terms.specs.TypeTables.{type_at}
use Rattle.core_terms.specs.ProgramTrees.{types_at}
use Rattle.core_terms.specs.declared.types.TyId.{TyId}
use Rattle.auth_syntax.specs.Syntax.{place_of}
use Rattle.core_terms.specs.declared.term.Constructor.{Constructor}
use Rattle.auth_syntax.specs.Trees.{ArmSyntax, arm_of, expression_of, name_of}
use Rattle.auth_syntax.specs.declared.tree.Arm.{Arm, out-Arm}
use Rattle.lexemes.specs.declared.place.Place.{Place}
use Rattle.declared_types.specs.Checking.{Checking, Sound, FaultAt, then_checked, unless_fault}
use Rattle.auth_types.specs.Bodies.{Local, Typed, bound_names, elaborated, wanted_arm}
use Rattle.declared_types.specs.Signatures.{Scope}
use Rattle.auth_types.specs.Elaborators.{Keeps, fields_of, locals_of, scope_of, typed_of, types_of}
use Rattle.declared_types.specs.Scopes.{AreWithin}
use Rattle.auth_types.specs.declared.bodies.elaborator.Elaborator.{Elaborator}
use Rattle.declared_types.specs.OverTypes.{FindsOver}
use Rattle.declared_types.specs.declared.fault.TypeKind.{TypeKind}
use Rattle.declared_types.specs.declared.fault.TypeKind.TheVariants.{WrongCount}
use Rattle.auth_types.specs.declared.bodies.Typed.{Typed as TypedTerm}
use Rattle.declared_types.specs.Findings.{TypeFault}
use Rattle.auth_types.proofs.FindingSteps.{finds_is}
use Rattle.auth_types.proofs.RowSteps.{next_mapped, one_arm}
use Rattle.declared_types.proofs.ScopeStays.{types_stay_at}
use Rattle.auth_types.proofs.TreeViews.{arm-parts}

module _ (scope : Scope) (locals : List Local) (want : Option Ty) (types : List Ty) (ids : List TyId) (arm : Arm) where
  -- the names that the arm binds, and what is found of its body behind them
  abbrev pub names_bound : Checking (List Local)
  names_bound = bound_names [] locals (map name_of (out-Arm arm).fields.items) (types_at types ids)

  abbrev pub body_in : List Local → Checking Typed
  body_in inner = wanted_arm want (place_of (expression_of (out-Arm arm).body)) (elaborated scope inner (expression_of (out-Arm arm).body))

  abbrev counted : Bool → Checking Typed
  counted b = unless_fault b WrongCount (out-Arm arm).constructor.at (then_checked names_bound body_in)

  arm_is : one_arm scope locals want (types_at types ids) (arm_of arm) ≡ counted
      (nat_eq (length (map name_of (out-Arm arm).fields.items)) (length (types_at types ids)))
  arm_is = ap (one_arm scope locals want (types_at types ids)) (arm-parts arm)

  pub arm_miscounted : length (out-Arm arm).fields.items ≢ length ids
      → one_arm scope locals want (types_at types ids) (arm_of arm) ≡ FaultAt WrongCount (out-Arm arm).constructor.at
  arm_miscounted other =
      let names = length-map (out-Arm arm).fields.items name_of in
      let numbers = length-map ids (type_at types) in
      arm_is ∙ ap counted (ne_eqb (length (map name_of (out-Arm arm).fields.items)) (length (types_at types ids))
      (λ same. other (sym names ∙ same ∙ numbers)))

  module _ (same : length (out-Arm arm).fields.items ≡ length ids) where
    pub arm_behind : one_arm scope locals want (types_at types ids) (arm_of arm) ≡ then_checked names_bound body_in
    arm_behind =
        let names = length-map (out-Arm arm).fields.items name_of in
        let numbers = length-map ids (type_at types) in
        arm_is ∙ ap counted (eq-eqb (length (map name_of (out-Arm arm).fields.items)) (length (types_at types ids)) (names ∙ same ∙ sym numbers))

    pub names_refused : (kind : TypeKind) (at : Place) → names_bound ≡ FaultAt kind at → one_arm scope locals want (types_at types ids)
        (arm_of arm) ≡ FaultAt kind at
    names_refused kind at is = arm_behind ∙ ap (λ found. then_checked found body_in) is

    pub arm_finds : (new : List Ty) (inner : List Local) (r : Result TypedTerm TypeFault) → names_bound ≡ Sound inner
        → FindsOver new typed_of (body_in inner) r
        → FindsOver new typed_of (one_arm scope locals want (types_at types ids) (arm_of arm)) r
    arm_finds new inner r is h =
        finds_is new typed_of (body_in inner) (one_arm scope locals want (types_at types ids) (arm_of arm)) r
        (sym (arm_behind ∙ ap (λ found. then_checked found body_in) is)) h

    pub arm_refused : (inner : List Local) → names_bound ≡ Sound inner → (kind : TypeKind) (at : Place)
        → body_in inner ≡ FaultAt kind at → one_arm scope locals want (types_at types ids) (arm_of arm) ≡ FaultAt kind at
    arm_refused inner names kind at is = arm_behind ∙ ap (λ found. then_checked found body_in) names ∙ is

-- an arm, where an elaborator stands, is the same where it stood
pub arm_kept : (a b : Elaborator) → Keeps a b → (want : Option Ty) (ids : List TyId) → AreWithin (length (types_of a)) ids → (arm : ArmSyntax)
    → one_arm (scope_of b) (locals_of b) want (types_at (types_of b) ids) arm ≡ one_arm (scope_of a) (locals_of a) want (types_at (types_of a) ids)
    arm
arm_kept a b keeps want ids within arm =
    ap (λ s. one_arm s (locals_of b) want (types_at (types_of b) ids) arm) keeps.scope
    ∙ ap (λ ls. one_arm (scope_of a) ls want (types_at (types_of b) ids) arm) keeps.locals
    ∙ ap (λ ts. one_arm (scope_of a) (locals_of a) want ts arm) (types_stay_at (types_of a) (types_of b) keeps.grows ids within)

-- the fields of the next constructor
pub next_fields : (types : List Ty) (cs : List Constructor) (i : ℕ) (c : Constructor) (ids : List TyId) → i < length cs → c ≡ slice_index_or cs i c
    → ids ≡ c.fields.items
    → drop i (fields_of types cs) ≡ types_at types ids ∷ drop (i + 1) (fields_of types cs)
next_fields types cs i c ids inside is same =
    next_mapped (λ (c : Constructor). types_at types c.fields.items) cs i c c inside is
    ∙ ap (λ ids. types_at types ids ∷ drop (i + 1) (fields_of types cs)) (sym same)

-- a body that is refused, whatever type is wanted
pub wanted_arm_fault : (want : Option Ty) (place : Place) (found : Checking Typed) (kind : TypeKind) (at : Place) → found ≡ FaultAt kind at
    → wanted_arm want place found ≡ FaultAt kind at
wanted_arm_fault want place found kind at is = ap (wanted_arm want place) is ∙ by want
  where
    by : (want : Option Ty) → wanted_arm want place (FaultAt kind at) ≡ FaultAt kind at
    by None = refl
    by (Some t) = refl
