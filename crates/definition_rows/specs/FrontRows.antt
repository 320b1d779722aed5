-- Type declarations as they are printed (`TypeDeclarations`, `ProgramTrees`), and the fingerprints that the code keeps (`Fronts`).
use Rattle.std.specs.Prelude.{◌≡◌, ℕ, List, [], ◌∷◌, ◌++◌, codes, Some, None}
use Rattle.core_terms.specs.Types.{UnitTy, IntTy, NamedTy, AuthTy}
use Rattle.core_terms.specs.Formats.{Hash}
use Rattle.core_terms.specs.Fronts.{ArePrints, bytes_or, or_else, print_kept, print_of_form}
use Rattle.core_terms.specs.ProgramFormats.{format_with}
use Rattle.core_terms.specs.ProgramTrees.{declared_text, program_of}
use Rattle.core_terms.specs.ProgramTypes.{text_of, types_by_number}
use Rattle.core_terms.specs.TypeDeclarations.{length_text, type_text}
use Rattle.core_terms.specs.TypeTables.{types_of_forms}
use Rattle.core_terms.specs.declared.digest.Digest.{Digest}
use Rattle.core_terms.specs.declared.format.Format.{Format}
use Rattle.core_terms.specs.declared.fronts.Fronts.{Fronts}
use Rattle.core_terms.specs.declared.program_types.Types.{Types}
use Rattle.core_terms.specs.declared.term.Constructor.{Constructor}
use Rattle.core_terms.specs.declared.term.Function.{Function}
use Rattle.core_terms.specs.declared.term.NamedType.{NamedType}
use Rattle.core_terms.specs.declared.types.TyForm.{TyForm}
use Rattle.core_terms.specs.declared.types.TyForm.TheVariants.{UnitForm, BoolForm, IntForm, TextForm, AuthForm, PairForm, NamedForm, VecForm}
use Rattle.core_terms.specs.declared.types.TyId.{TyId}

pub record FrontRows : Type 0 where
  -- a length is printed in decimal, and a named type by the name with its number
  pub texts_of_lengths : (length_text 9 ≡ codes "9") × (length_text 10 ≡ codes "10") × (length_text 64 ≡ codes "64")
  pub text_of_the_second : type_text (codes "tree" ∷ codes "found" ∷ []) (NamedTy 1) ≡ codes "found"
  -- the declarations of a program are printed with all their names and types
  pub text_of_a_type : (declared : NamedType) (constructor : Constructor)
      → declared.name ≡ codes "box" → declared.constructors.items ≡ constructor ∷ [] → constructor.name ≡ codes "Box" → constructor.fields.items ≡ record { 0 = 1 } ∷ []
      → declared_text (UnitTy ∷ AuthTy IntTy ∷ []) (declared ∷ []) ≡ codes "type box = Box(auth int);\n"
  pub format_of_a_program : (format : Format) (forms : List TyForm) (named : List NamedType) (state : TyId) (functions : List Function)
      → (program_of format forms named state functions).format ≡ format_with format (declared_text (types_of_forms forms) named)
  -- a digest that is there comes before another
  pub bytes_of_a_digest : (digest : Digest) (other : List ℕ) → (bytes_or (Some digest) other ≡ digest.0) × (bytes_or None other ≡ other)
  pub first_of_two : (digest other : Digest) → (or_else (Some digest) (Some other) ≡ Some digest) × (or_else None (Some other) ≡ Some other)
  -- a number that isn't in the table has the fingerprint of `unit`
  pub kept_by_number : (fronts : Fronts) (digest unit : Digest) → fronts.prints.items ≡ digest ∷ [] → fronts.unit ≡ Some unit
      → (print_kept fronts (record { 0 = 0 }) ≡ Some digest) × (print_kept fronts (record { 0 = 1 }) ≡ Some unit)
  -- the fingerprint of a form is from those of its parts
  pub prints_of_leaves : (hash : Hash) (declared : List ℕ) → (print_of_form hash declared [] UnitForm ≡ hash []) × (print_of_form hash declared [] BoolForm ≡ hash (1 ∷ []))
      × (print_of_form hash declared [] IntForm ≡ hash (2 ∷ [])) × (print_of_form hash declared [] TextForm ≡ hash (3 ∷ []))
  pub print_of_a_pair : (hash : Hash) (declared : List ℕ) (first second : Digest)
      → print_of_form hash declared (first ∷ second ∷ []) (PairForm (record { 0 = 0 }) (record { 0 = 1 })) ≡ hash (4 ∷ first.0 ++ second.0)
  pub print_of_a_named_type : (hash : Hash) (declared : List ℕ) → print_of_form hash declared [] (NamedForm (record { 0 = 258 })) ≡ hash (5 ∷ declared ++ 1 ∷ 2 ∷ [])
  pub print_of_an_auth : (hash : Hash) (declared : List ℕ) (part : Digest) → print_of_form hash declared (part ∷ []) (AuthForm (record { 0 = 0 })) ≡ hash (6 ∷ part.0)
  pub print_of_an_array : (hash : Hash) (declared : List ℕ) (part : Digest) → print_of_form hash declared (part ∷ []) (VecForm 64 (record { 0 = 0 })) ≡ hash (7 ∷ 64 ∷ part.0)
  pub print_of_another_number : (hash : Hash) (declared : List ℕ) → print_of_form hash declared [] (AuthForm (record { 0 = 0 })) ≡ hash (6 ∷ hash [])
  -- and over the printed declarations of the program
  pub prints_of_a_program : (hash : Hash) (types : Types) (digest : Digest) → types_by_number types ≡ NamedTy 0 ∷ [] → text_of types ≡ codes "type unit_ = Unit;\n"
      → ArePrints hash types 1 (digest ∷ []) → digest.0 ≡ hash (5 ∷ hash (codes "type unit_ = Unit;\n") ++ 0 ∷ 0 ∷ [])
