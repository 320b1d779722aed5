-- What a program of the code stands for (`ProgramTrees`, `ProgramTypes`, `Programs`, `TypeNames`).
use Rattle.std.specs.Prelude.{◌≡◌, ℕ, List, [], ◌∷◌, true, false, map, None}
use Rattle.core_terms.specs.Types.{Ty, UnitTy, BoolTy, IntTy, AuthTy}
use Rattle.core_terms.specs.Names.{IsName}
use Rattle.core_terms.specs.Terms.{UnitE, LocalE, NoE, AndE, NoArm, AndArm}
use Rattle.core_terms.specs.Terms as tree
use Rattle.core_terms.specs.TypeTables.{type_at}
use Rattle.core_terms.specs.ProgramTrees.{are_types_within, arms_in_a_row, expression_of, function_of, has_fields_below, has_types_below, in_a_row, is_role, is_within, kind_of, program_of, table_of}
use Rattle.core_terms.specs.ProgramFormats.{format_with}
use Rattle.core_terms.specs.ProgramTypes.{named_table, program_with, types_by_number, types_meaning}
use Rattle.core_terms.specs.Programs.{constructor_names, meaning, types_of}
use Rattle.core_terms.specs.TypeNames.{AreNamed}
use Rattle.core_terms.specs.declared.types.TyForm.TheVariants.{UnitForm, BoolForm}
use Rattle.core_terms.specs.declared.program_types.Types.{Types}
use Rattle.core_terms.specs.declared.format.Format.{Format}
use Rattle.core_terms.specs.declared.program.Program.{Program}
use Rattle.core_terms.specs.declared.term.Constructor.{Constructor}
use Rattle.core_terms.specs.declared.term.Function.{Function}
use Rattle.core_terms.specs.declared.term.Kind.TheVariants.{Inner, Init, Query, Update}
use Rattle.core_terms.specs.declared.term.NamedType.{NamedType}

pub record TreeRows : Type 0 where
  -- a proof may ask that 1,024 pieces are kept, in each format
  pub most_that_are_kept : (format : Format) (text : List ℕ) → (format_with format text).most_kept ≡ 1024
  -- operands and arms, in their order
  pub operands_in_a_row : in_a_row (UnitE ∷ LocalE 1 ∷ []) ≡ AndE UnitE (AndE (LocalE 1) NoE)
  pub arms_by_tag : arms_in_a_row (UnitE ∷ LocalE 1 ∷ []) ≡ AndArm UnitE (AndArm (LocalE 1) NoArm)
  pub each_kind : (kind_of Inner ≡ tree.Inner) × (kind_of Init ≡ tree.Init) × (kind_of Query ≡ tree.Query) × (kind_of Update ≡ tree.Update)
  -- a function has its name, and the types with the numbers of its parameters and of its result
  pub types_of_a_function : (f : Function) → f.parameters.items ≡ record { 0 = 1 } ∷ [] → f.result ≡ record { 0 = 2 }
      → ((function_of (UnitTy ∷ BoolTy ∷ IntTy ∷ []) f).parameters ≡ BoolTy ∷ []) × ((function_of (UnitTy ∷ BoolTy ∷ IntTy ∷ []) f).result ≡ IntTy)
  pub kind_of_a_function : (types : List Ty) (f : Function) → f.kind ≡ Query → (function_of types f).kind ≡ tree.Query
  pub body_of_a_function : (types : List Ty) (f : Function) → (function_of types f).body ≡ expression_of types f.body
  pub inner_function_is_no_role : (f : Function) → f.kind ≡ Inner → is_role f ≡ false
  pub name_of_a_function : (types : List Ty) (f : Function) → (function_of types f).name ≡ f.name
  -- a named type has the types of its constructors' fields
  pub fields_of_a_type : (declared : NamedType) (constructor : Constructor)
      → declared.constructors.items ≡ constructor ∷ [] → constructor.fields.items ≡ record { 0 = 1 } ∷ []
      → table_of (UnitTy ∷ AuthTy IntTy ∷ []) (declared ∷ []) ≡ (((AuthTy IntTy ∷ []) ∷ []) ∷ [])
  pub fields_of_program_types : (t : Types) (declared : NamedType) (constructor : Constructor)
      → t.named.items ≡ declared ∷ [] → declared.constructors.items ≡ constructor ∷ [] → constructor.fields.items ≡ record { 0 = 1 } ∷ []
      → types_by_number t ≡ UnitTy ∷ AuthTy IntTy ∷ [] → named_table t ≡ (((AuthTy IntTy ∷ []) ∷ []) ∷ [])
  -- and names: its own, and those of its constructors
  pub names_of_constructors : (first second : NamedType) (constructor : Constructor)
      → first.constructors.items ≡ [] → second.constructors.items ≡ constructor ∷ [] → constructor_names (first ∷ second ∷ []) 1 ≡ constructor.name ∷ []
  pub constructors_are_named : (declared : NamedType) (constructor : Constructor)
      → declared.constructors.items ≡ constructor ∷ [] → AreNamed (declared ∷ []) → IsName constructor.name
  pub type_is_named : (declared : NamedType) → AreNamed (declared ∷ []) → IsName declared.name
  -- the types of fields, the state's type, and that of a result, are in the table
  pub type_of_a_state : (is_within (UnitForm ∷ []) [] (record { 0 = 0 }) [] ≡ true) × (is_within (UnitForm ∷ []) [] (record { 0 = 1 }) [] ≡ false)
  pub type_of_a_field_in_a_program : (declared : NamedType) → has_fields_below 1 declared ≡ false → is_within (UnitForm ∷ []) (declared ∷ []) (record { 0 = 0 }) [] ≡ false
  pub type_in_a_function_of_a_program : (f : Function) → has_types_below 1 f ≡ false → is_within (UnitForm ∷ []) [] (record { 0 = 0 }) (f ∷ []) ≡ false
  pub type_of_a_state_alone : (are_types_within 1 [] (record { 0 = 0 }) ≡ true) × (are_types_within 1 [] (record { 0 = 1 }) ≡ false)
  pub type_of_a_parameter : (f : Function) → f.parameters.items ≡ record { 0 = 1 } ∷ [] → has_types_below 1 f ≡ false
  pub type_of_a_result : (f : Function) → f.parameters.items ≡ [] → f.result ≡ record { 0 = 1 } → has_types_below 1 f ≡ false
  pub type_of_a_field : (declared : NamedType) (constructor : Constructor)
      → declared.constructors.items ≡ constructor ∷ [] → constructor.fields.items ≡ record { 0 = 1 } ∷ [] → has_fields_below 1 declared ≡ false
  -- a program has the state's type, the named types, and each function
  pub state_of_program_types : (t : Types) (functions : List Function) → (program_with t functions).state ≡ type_at (types_by_number t) t.state
  pub types_of_program_types : (t : Types) (functions : List Function) → (program_with t functions).types ≡ named_table t
  pub functions_of_program_types : (t : Types) (functions : List Function) → (program_with t functions).functions ≡ map (function_of (types_by_number t)) functions
  pub functions_of_a_program : (p : Program) → (meaning p).functions ≡ map (function_of (types_of p)) p.functions.items
  pub types_alone_have_no_function : (t : Types) → (types_meaning t).functions ≡ []
  pub program_without_functions : (format : Format) → program_of format (UnitForm ∷ BoolForm ∷ []) [] (record { 0 = 1 }) [] ≡ record { format = format_with format []; types = []; state = BoolTy; functions = []; code = None }
