-- The rows of `specs/MarkRows` hold.
use Rattle.std.proofs.Common.{◌≡◌, List, [], ◌∷◌, length, map, false, true, refl, ap, ◌∙◌, arith}
use Rattle.std.specs.Prelude.{◌||◌}
use Rattle.std.specs.List.{list_any}
use Rattle.core_terms.specs.Types.{IntTy, NamedTy, AuthTy, Table}
use Rattle.core_terms.specs.Roles.{argument_place, has_auth, is_entered}
use Rattle.core_terms.specs.ProgramTrees.{kind_of, table_of, types_at}
use Rattle.core_terms.specs.AuthMarks.{is_marked_field}
use Rattle.core_terms.specs.RoleViews.{HasArgument}
use Rattle.core_terms.specs.declared.types.TyId.{TyId}
use Rattle.core_terms.specs.declared.term.Constructor.{Constructor}
use Rattle.core_terms.specs.declared.term.Function.{Function}
use Rattle.core_terms.specs.declared.term.Kind.{Kind}
use Rattle.core_terms.specs.declared.term.Kind.TheVariants.{Query}
use Rattle.definition_rows.specs.MarkRows.{MarkRows}

-- a query has its argument behind the state
one_is_none : (f : Function) → f.kind ≡ Query → f.parameters.items ≡ record { 0 = 0 } ∷ [] → HasArgument f → ⊥
one_is_none f query one h =
    let place : argument_place (kind_of f.kind) ≡ 1 = ap (λ (k : Kind). argument_place (kind_of k)) query in
    let count : length f.parameters.items ≡ 1 = ap length one in
    absurd (omega (arith, h, place, count))

pub mark_rows : MarkRows
mark_rows = record {
  first_part_is_marked = refl;
  second_part_is_marked = refl;
  no_part_is_marked = refl;
  no_such_part_is_marked = refl;
  auth_is_marked = refl;
  named_type_is_marked = (refl, refl);
  leaf_is_not_marked = refl;
  marked_field_marks_a_type = λ declared constructor constructors fields.
      ap (list_any (λ (c : Constructor). list_any (is_marked_field (false ∷ true ∷ [])) c.fields.items)) constructors
      ∙ ap (λ (ids : List TyId). list_any (is_marked_field (false ∷ true ∷ [])) ids || false) fields;
  field_is_opened = λ declared constructor constructors fields h.
      let types = AuthTy IntTy ∷ NamedTy 0 ∷ [] in
      let table : table_of types (declared ∷ []) ≡ ((AuthTy IntTy ∷ []) ∷ []) ∷ [] =
      ap (λ (cs : List Constructor). map (λ (c : Constructor). types_at types c.fields.items) cs ∷ []) constructors
      ∙ ap (λ (ids : List TyId). (types_at types ids ∷ []) ∷ []) fields in
      let found : has_auth (table_of types (declared ∷ [])) (NamedTy 0) ≡ true = ap (λ (it : Table). has_auth it (NamedTy 0)) table in
      let e : false ≡ true = h 1 ∙ found in
      absurd (cc);
  each_kind_of_role = (refl, refl, refl);
  types_of_a_role = refl;
  numbers_of_a_role = (refl, refl, refl);
  one_parameter_is_none = one_is_none;
  roles_have_arguments = λ f query one h. one_is_none f query one (h 0 f refl (ap (λ (k : Kind). is_entered (kind_of k)) query));
}
