-- The rows of `specs/TreeRows` hold.
use Rattle.std.proofs.Common.{◌≡◌, List, [], ◌∷◌, ◌&&◌, nat_lt, map, lit<, refl, ap, ap₂, ◌∙◌, subst}
use Rattle.std.specs.Prelude.{All, Bool, true}
use Rattle.std.specs.List.{list_all}
use Rattle.core_terms.specs.Roles.{is_entered}
use Rattle.core_terms.specs.Names.{IsName}
use Rattle.core_terms.specs.Types.{UnitTy, BoolTy, IntTy, AuthTy}
use Rattle.core_terms.specs.TypeTables.{type_at}
use Rattle.core_terms.specs.ProgramTrees.{are_below, kind_of, table_of, types_at}
use Rattle.core_terms.specs.declared.types.TyId.{TyId}
use Rattle.core_terms.specs.declared.term.Constructor.{Constructor}
use Rattle.core_terms.specs.declared.term.Kind.{Kind}
use Rattle.core_terms.specs.declared.term.NamedType.{NamedType}
use Rattle.definition_rows.specs.TreeRows.{TreeRows}

one_field : (declared : NamedType) (constructor : Constructor)
    → declared.constructors.items ≡ constructor ∷ [] → constructor.fields.items ≡ record { 0 = 1 } ∷ []
    → table_of (UnitTy ∷ AuthTy IntTy ∷ []) (declared ∷ []) ≡ ((AuthTy IntTy ∷ []) ∷ []) ∷ []
one_field declared constructor constructors fields =
    let types = UnitTy ∷ AuthTy IntTy ∷ [] in
    ap (λ (cs : List Constructor). map (λ (c : Constructor). types_at types c.fields.items) cs ∷ []) constructors
    ∙ ap (λ (ids : List TyId). (types_at types ids ∷ []) ∷ []) fields

pub tree_rows : TreeRows
tree_rows = record {
  most_that_are_kept = λ format text. refl;
  operands_in_a_row = refl;
  arms_by_tag = refl;
  each_kind = (refl, refl, refl, refl);
  types_of_a_function = λ f parameters result. (ap (types_at (UnitTy ∷ BoolTy ∷ IntTy ∷ [])) parameters, ap (type_at (UnitTy ∷ BoolTy ∷ IntTy ∷ [])) result);
  kind_of_a_function = λ types f query. ap kind_of query;
  body_of_a_function = λ types f. refl;
  inner_function_is_no_role = λ f inner. ap (λ (k : Kind). is_entered (kind_of k)) inner;
  name_of_a_function = λ types f. refl;
  fields_of_a_type = one_field;
  fields_of_program_types = λ t declared constructor named constructors fields types. ap₂ table_of types named ∙ one_field declared constructor constructors fields;
  names_of_constructors = λ first second constructor none one. ap (map (λ (c : Constructor). c.name)) one;
  constructors_are_named = λ declared constructor one h.
      let names : map (λ (c : Constructor). c.name) declared.constructors.items ≡ constructor.name ∷ [] = ap (map (λ (c : Constructor). c.name)) one in
      let all : All IsName (map (λ (c : Constructor). c.name) declared.constructors.items) = h.constructors 0 [] (lit< tt) in
      subst (All IsName) names all 0 [] (lit< tt);
  type_is_named = λ declared h. h.types 0 [] (lit< tt);
  type_of_a_state = (refl, refl);
  type_of_a_field_in_a_program = λ declared field. ap (λ (b : Bool). (b && true) && true) field;
  type_in_a_function_of_a_program = λ f types. ap (λ (b : Bool). b && true) types;
  type_of_a_state_alone = (refl, refl);
  type_of_a_parameter = λ f one. ap (λ (ids : List TyId). are_below 1 ids && nat_lt f.result.0 1) one;
  type_of_a_result = λ f none result. ap (λ (ids : List TyId). are_below 1 ids && nat_lt f.result.0 1) none ∙ ap (λ (id : TyId). nat_lt id.0 1) result;
  type_of_a_field = λ declared constructor constructors fields.
      ap (list_all (λ (c : Constructor). are_below 1 c.fields.items)) constructors ∙ ap (λ (ids : List TyId). are_below 1 ids && true) fields;
  state_of_program_types = λ t functions. refl;
  types_of_program_types = λ t functions. refl;
  functions_of_program_types = λ t functions. refl;
  functions_of_a_program = λ p. refl;
  types_alone_have_no_function = λ t. refl;
  program_without_functions = λ format. refl;
}
