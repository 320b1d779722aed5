-- A program of parts that fit is well-typed and within its limits.
use Rattle.std.proofs.Common.{◌≡◌, ℕ, ◌+◌, ◌<◌, ◌≤◌, ◌∙◌, true, List, [], ◌∷◌, length, map, drop, get_or, take, nat_lt, refl, sym, ap, subst, arith, lt-ltb}
use Rattle.std.specs.Prelude.{All}
use Rattle.std.proofs.lemmas.List.{drop_more, length-map, take_all}
use Rattle.std.proofs.lemmas.List.Elements.{All-head, All-more, All-tail, All-map, All-weaker}
use Rattle.core_terms.specs.Types.{Ty}
use Rattle.core_terms.specs.Terms.{Program}
use Rattle.core_terms.specs.Typing.{all_shaped, all_typed, is_shaped, is_typed}
use Rattle.core_terms.specs.ProgramLimits.{IsName, most_constructors, most_fields}
use Rattle.core_terms.specs.ProgramSizes.{expressions_in, expressions_in_all, IsBodyWithin, IsFlatType, IsFunctionWithin, IsWithinLimits}
use Rattle.core_terms.specs.ProgramTrees.{are_below, expression_of, function_of, has_fields_below, has_types_below, is_within, table_of, types_at}
use Rattle.core_terms.specs.Programs.{types_in}
use Rattle.core_terms.specs.TypeNames.{AreNamed}
use Rattle.core_terms.specs.TypeTables.{type_at}
use Rattle.core_terms.specs.declared.types.TyId.{TyId}
use Rattle.core_terms.specs.declared.types.TyTable.{TyTable}
use Rattle.core_terms.specs.declared.term.Constructor.{Constructor}
use Rattle.core_terms.specs.declared.term.Function.{Function}
use Rattle.core_terms.specs.declared.term.NamedType.{NamedType}
use Rattle.core_terms.proofs.Limited.{all_pass}
use Rattle.core_terms.proofs.TypingComplete.{both, type_complete}
use Rattle.term_stage.specs.Fitting.{ConstructorFits, FunctionFits, NamedFits, PartsFit, TypeFits, judged}

-- the first so many have a property, and so has the next one; or there is no next one
pub all_more : {X : Type 0} (P : X → Type 0) (xs : List X) (i : ℕ) (x : X) → i < length xs → All P (take i xs) → x ≡ get_or xs i x → P x → All P (take (i + 1) xs)
all_more P xs i x there all is one = All-more P xs i x there all (subst P is one)

pub all_taken : {X : Type 0} (P : X → Type 0) (xs : List X) (i : ℕ) → length xs ≤ i → All P (take i xs) → All P xs
all_taken P xs i past all = subst (All P) (take_all i xs past) all

-- a function more: its expressions are taken from what is left
pub counted_more : (types : List Ty) (fs : List Function) (i : ℕ) (f : Function) (limit all left rest : ℕ) → i < length fs → f ≡ get_or fs i f
    → expressions_in (expression_of types f.body) + rest ≤ left → all + left ≤ expressions_in_all (map (function_of types) (drop i fs)) + limit
    → all + rest ≤ expressions_in_all (map (function_of types) (drop (i + 1) fs)) + limit
counted_more types fs i f limit all left rest there is taken so_far =
    let next : drop i fs ≡ f ∷ drop (i + 1) fs = drop_more fs i f there ∙ ap (λ f. f ∷ drop (i + 1) fs) (sym is) in
    omega (arith, taken, so_far, ap (λ fs. expressions_in_all (map (function_of types) fs)) next)

-- types that fit are flat
flat_types : (types : List Ty) (ids : List TyId) → All (TypeFits types) ids → All IsFlatType (types_at types ids)
flat_types types ids all = All-map IsFlatType (type_at types) ids (All-weaker (TypeFits types) (λ id. IsFlatType (type_at types id)) (λ id fits. fits.flat) ids all)

types_below : (types : List Ty) (ids : List TyId) → All (TypeFits types) ids → are_below (length types) ids ≡ true
types_below types ids all = all_pass (TypeFits types) (λ (id : TyId). nat_lt id.0 (length types)) (λ id fits. lt-ltb id.0 (length types) fits.below) ids all

fields_below : (types : List Ty) (d : NamedType) → NamedFits types d → has_fields_below (length types) d ≡ true
fields_below types d fits =
    all_pass (ConstructorFits types) (λ (c : Constructor). are_below (length types) c.fields.items) (λ c fits. types_below types c.fields.items fits.fields) d.constructors.items fits.constructors

are_named : (types : List Ty) (named : List NamedType) → All (NamedFits types) named → AreNamed named
are_named types named all = record {
  types = All-map IsName (λ (d : NamedType). d.name) named (All-weaker (NamedFits types) (λ (d : NamedType). IsName d.name) (λ d fits. fits.name) named all);
  constructors = All-map (All IsName) (λ (d : NamedType). map (λ (c : Constructor). c.name) d.constructors.items) named
      (All-weaker (NamedFits types) (λ (d : NamedType). All IsName (map (λ (c : Constructor). c.name) d.constructors.items))
      (λ d fits. All-map IsName (λ (c : Constructor). c.name) d.constructors.items
      (All-weaker (ConstructorFits types) (λ (c : Constructor). IsName c.name) (λ c fits. fits.name) d.constructors.items fits.constructors)) named all);
}

module _ (types : List Ty) where
  -- what holds of the fields of each constructor holds of the table
  of_table : (Q : List Ty → Type 0) → ((c : Constructor) → ConstructorFits types c → Q (types_at types c.fields.items)) → (named : List NamedType) → All (NamedFits types) named
      → All (All Q) (table_of types named)
  of_table Q each named all =
      All-map (All Q) (λ (d : NamedType). map (λ (c : Constructor). types_at types c.fields.items) d.constructors.items) named
      (All-weaker (NamedFits types) (λ (d : NamedType). All Q (map (λ (c : Constructor). types_at types c.fields.items) d.constructors.items))
      (λ d fits. All-map Q (λ (c : Constructor). types_at types c.fields.items) d.constructors.items
      (All-weaker (ConstructorFits types) (λ (c : Constructor). Q (types_at types c.fields.items)) each d.constructors.items fits.constructors)) named all)

  few_constructors : (named : List NamedType) → All (NamedFits types) named → All (λ constructors. length constructors ≤ most_constructors) (table_of types named)
  few_constructors named all =
      All-map (λ constructors. length constructors ≤ most_constructors) (λ (d : NamedType). map (λ (c : Constructor). types_at types c.fields.items) d.constructors.items) named
      (All-weaker (NamedFits types) (λ (d : NamedType). length (map (λ (c : Constructor). types_at types c.fields.items) d.constructors.items) ≤ most_constructors)
      (λ d fits. omega (arith, fits.few, length-map d.constructors.items (λ (c : Constructor). types_at types c.fields.items))) named all)

module _ (P : Program) (types : List Ty) where
  all_typed_in : (fs : List Function) → All (FunctionFits P types) fs → all_typed P (map (function_of types) fs) ≡ true
  all_typed_in [] all = refl
  all_typed_in (f ∷ fs) all =
      both _ _ (type_complete P _ _ _ (All-head (FunctionFits P types) f fs all).typed) (all_typed_in fs (All-tail (FunctionFits P types) f fs all))

  all_shaped_in : (fs : List Function) → All (FunctionFits P types) fs → all_shaped P (map (function_of types) fs) ≡ true
  all_shaped_in [] all = refl
  all_shaped_in (f ∷ fs) all = both _ _ (All-head (FunctionFits P types) f fs all).shaped (all_shaped_in fs (All-tail (FunctionFits P types) f fs all))

  function_within : (f : Function) → FunctionFits P types f → IsFunctionWithin (function_of types f)
  function_within f fits = record { name = fits.name; parameters = omega (arith, fits.few, length-map f.parameters.items (type_at types)) }

  body_within : (f : Function) → FunctionFits P types f → IsBodyWithin P.types (function_of types f)
  body_within f fits = record {
    parameter_types = flat_types types f.parameters.items fits.parameters;
    result_type = fits.result.flat;
    locals = fits.locals;
    levels = fits.flat;
  }

  functions_below : (f : Function) → FunctionFits P types f → has_types_below (length types) f ≡ true
  functions_below f fits = both _ _ (types_below types f.parameters.items fits.parameters) (lt-ltb f.result.0 (length types) fits.result.below)

module _ (types : TyTable) (named : List NamedType) (state : TyId) (functions : List Function) (fit : PartsFit types named state functions) where
  pub parts_typed : is_typed (judged types named state functions) ≡ true
  parts_typed = all_typed_in (judged types named state functions) (types_in types) functions fit.each_function

  pub parts_shaped : is_shaped (judged types named state functions) ≡ true
  parts_shaped = all_shaped_in (judged types named state functions) (types_in types) functions fit.each_function

  pub parts_within : is_within types.forms.keys named state functions ≡ true
  parts_within =
      both _ _ (lt-ltb state.0 (length (types_in types)) fit.state_fits.below)
      (both _ _ (all_pass (NamedFits (types_in types)) (has_fields_below (length (types_in types))) (fields_below (types_in types)) named fit.each_named)
      (all_pass (FunctionFits (judged types named state functions) (types_in types)) (has_types_below (length (types_in types)))
      (functions_below (judged types named state functions) (types_in types)) functions fit.each_function))

  pub parts_named : AreNamed named
  parts_named = are_named (types_in types) named fit.each_named

  pub parts_limited : IsWithinLimits (judged types named state functions)
  parts_limited =
      let T = types_in types in record {
        types = omega (arith, fit.few_named, length-map named (λ (d : NamedType). map (λ (c : Constructor). types_at T c.fields.items) d.constructors.items));
        constructors = few_constructors T named fit.each_named;
        fields = of_table T (λ fields. length fields ≤ most_fields) (λ c fits. omega (arith, fits.few, length-map c.fields.items (type_at T))) named fit.each_named;
        functions = omega (arith, fit.few_functions, length-map functions (function_of T));
        each = All-map IsFunctionWithin (function_of T) functions
            (All-weaker (FunctionFits (judged types named state functions) T) (λ (f : Function). IsFunctionWithin (function_of T f))
            (function_within (judged types named state functions) T) functions fit.each_function);
        written = λ is. record {
          field_types = of_table T (All IsFlatType) (λ c fits. flat_types T c.fields.items fits.fields) named fit.each_named;
          state_type = fit.state_fits.flat;
          bodies = All-map (IsBodyWithin (table_of T named)) (function_of T) functions
              (All-weaker (FunctionFits (judged types named state functions) T) (λ (f : Function). IsBodyWithin (table_of T named) (function_of T f))
              (body_within (judged types named state functions) T) functions fit.each_function);
          expressions = fit.expressions;
        };
        short = omega arith;
      }

-- the same parts, lent
pub parts_same : (types : TyTable) (lent named : List NamedType) (state : TyId) (lent_functions functions : List Function) → lent ≡ named → lent_functions ≡ functions
    → PartsFit types lent state lent_functions → PartsFit types named state functions
parts_same types lent named state lent_functions functions are_named are_functions fit =
    subst (λ fs. PartsFit types named state fs) are_functions (subst (λ ns. PartsFit types ns state lent_functions) are_named fit)
