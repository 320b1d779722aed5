-- All parts together are those of the object.
use Rattle.std.proofs.Common.{◌≡◌, ℕ, true, List, [], ◌∷◌, codes, length, map, nat_lt, Vec, sym, ap, ◌∙◌, subst, arith, lt-ltb}
use Rattle.std.specs.List.{All, AllZip, list_all}
use Rattle.std.specs.declared.alloc.Global.{Global}
use Rattle.std.proofs.lemmas.List.Elements.{All-nil, All-cons}
use Rattle.core_terms.specs.InstructionViews.{instruction_of}
use Rattle.core_terms.specs.Names.{IsName}
use Rattle.core_terms.specs.ProgramTrees.{are_below, function_of, has_fields_below, has_types_below, table_of, types_at}
use Rattle.core_terms.specs.TypeNames.{all_constructor_names, type_names}
use Rattle.core_terms.specs.Types.{Ty}
use Rattle.core_terms.specs.declared.instruction.Instruction.{Instruction}
use Rattle.core_terms.specs.declared.term.Constructor.{Constructor}
use Rattle.core_terms.specs.declared.term.NamedType.{NamedType}
use Rattle.core_terms.specs.declared.types.TyId.{TyId}
use Rattle.core_terms.proofs.TypingComplete.{both}
use Rattle.object_meaning.specs.ObjectBodies.{code_in, constructor_names, declared_in, listed_at, named_tables, trees_of}
use Rattle.object_meaning.specs.Objects.{ListedConstructor, ListedType}
use Rattle.object_meaning.specs.ReadObjects.{names_of}
use Rattle.object_meaning.specs.WellFormedObjects.{IsObject}
use Rattle.object_reader.specs.ObjectViews.{object_of}
use Rattle.object_reader.specs.declared.object.Object.{Object}
use Rattle.code_check.specs.CodeTypes.{is_listable}
use Rattle.code_check.specs.ListedParts.{AreListedParts, AreNamedOf, IsConstructorOf, IsFunctionCode, IsFunctionOf, IsNamedOf, IsTypeOf, constructor_lists}
use Rattle.code_check.specs.declared.listed.ListedParts.{ListedParts}
use Rattle.code_check.proofs.NamedTypes.{field_types, names_listed, tables_listed}
use Rattle.code_check.proofs.PartsThere.{names_there}
use Rattle.code_check.proofs.Zips.{zip_passes, zip_same}

module _ (types : List Ty) (numbers : List TyId) where
  table_made : (ts : List ListedType) (named : List NamedType) → AreNamedOf numbers ts named → table_of types named ≡ named_tables (types_at types numbers) ts
  table_made ts named all =
      zip_same (IsNamedOf numbers) (field_types (types_at types numbers)) (λ (declared : NamedType). map (λ (c : Constructor). types_at types c.fields.items) declared.constructors.items)
      (λ cs declared is.
      zip_same (IsConstructorOf numbers) (λ (c : ListedConstructor). map (listed_at (types_at types numbers)) c.fields) (λ (c : Constructor). types_at types c.fields.items)
      (λ c made one. one.fields.types types) cs declared.constructors.items is.constructors)
      (constructor_lists ts) named all
      ∙ sym (tables_listed (types_at types numbers) ts)

names_made : (numbers : List TyId) (ts : List ListedType) (named : List NamedType) → AreNamedOf numbers ts named → all_constructor_names named ≡ constructor_names ts
names_made numbers ts named all =
    zip_same (IsNamedOf numbers) names_of (λ (declared : NamedType). map (λ (c : Constructor). c.name) declared.constructors.items)
    (λ cs declared is. zip_same (IsConstructorOf numbers) (λ (c : ListedConstructor). c.name) (λ (c : Constructor). c.name) (λ c made one. one.name) cs declared.constructors.items is.constructors)
    (constructor_lists ts) named all
    ∙ sym (names_listed ts)

fields_below : (count : ℕ) (numbers : List TyId) (ts : List ListedType) (named : List NamedType) → are_below count numbers ≡ true → AreNamedOf numbers ts named
    → list_all (has_fields_below count) named ≡ true
fields_below count numbers ts named below all =
    zip_passes (IsNamedOf numbers) (has_fields_below count)
    (λ cs declared is.
    zip_passes (IsConstructorOf numbers) (λ (c : Constructor). are_below count c.fields.items) (λ c made one. one.fields.within count below) cs declared.constructors.items is.constructors)
    (constructor_lists ts) named all

-- each is named by the keyword
keyword_names : (numbers : List TyId) (lists : List (List ListedConstructor)) (named : List NamedType) → AllZip (IsNamedOf numbers) lists named → All IsName (type_names named)
keyword_names numbers [] [] all = All-nil IsName
keyword_names numbers [] (n ∷ named) all = absurd all
keyword_names numbers (l ∷ lists) [] all = absurd all
keyword_names numbers (l ∷ lists) (n ∷ named) all =
    let is_name : IsName (codes "type") = (omega arith, omega arith) in
    All-cons IsName n.name (type_names named) (subst IsName (sym all.0.name) is_name) (keyword_names numbers lists named all.1)

pub parts_made : (types : List Ty) (o : Object) (numbers : List TyId) (parts : ListedParts) → IsObject (object_of o)
    → types_at types numbers ≡ trees_of (object_of o).types → are_below (length types) numbers ≡ true → AreNamedOf numbers (object_of o).types parts.named.items
    → IsTypeOf numbers (object_of o).state parts.state → AllZip (IsFunctionOf numbers) (object_of o).functions parts.functions.items
    → AllZip (IsFunctionCode types numbers) (object_of o).functions parts.code.items → AreListedParts types (object_of o) parts
parts_made types o numbers parts is listed below named state functions code = record {
  named = table_made types numbers (object_of o).types parts.named.items named ∙ ap (λ trees. named_tables trees (object_of o).types) listed;
  state = state.ty types ∙ ap (λ trees. listed_at trees (object_of o).state) listed;
  functions = zip_same (IsFunctionOf numbers) (declared_in (types_at types numbers)) (function_of types) (λ f made one. one.declared types) (object_of o).functions parts.functions.items functions
      ∙ ap (λ trees. map (declared_in trees) (object_of o).functions) listed;
  code = zip_same (IsFunctionCode types numbers) (code_in (types_at types numbers)) (λ (code : Vec Instruction Global). map (instruction_of types) code.items) (λ f made one. one.meaning)
      (object_of o).functions parts.code.items code
      ∙ ap (λ trees. map (code_in trees) (object_of o).functions) listed;
  constructor_names = names;
  are_named = record {
    types = keyword_names numbers (constructor_lists (object_of o).types) parts.named.items named;
    constructors = subst (All (All IsName)) (sym names) (names_there o is);
  };
  within = both (nat_lt parts.state.0 (length types)) _ (lt-ltb parts.state.0 (length types) (state.within (length types) below))
      (both (list_all (has_fields_below (length types)) parts.named.items) (list_all (has_types_below (length types)) parts.functions.items)
      (fields_below (length types) numbers (object_of o).types parts.named.items below named)
      (zip_passes (IsFunctionOf numbers) (has_types_below (length types)) (λ f made one. one.within (length types) below) (object_of o).functions parts.functions.items functions));
  code_within = zip_passes (IsFunctionCode types numbers) (λ (code : Vec Instruction Global). list_all (is_listable (length types)) code.items) (λ f made one. one.within)
      (object_of o).functions parts.code.items code;
}
  where
    names : all_constructor_names parts.named.items ≡ constructor_names (object_of o).types
    names = names_made numbers (object_of o).types parts.named.items named
