-- The text of a program's types, made from its table and printed of its declarations.
use Rattle.std.specs.Prelude.{◌≡◌, ℕ, List, [], ◌∷◌, Option, Some, None, codes, refl}
use Rattle.std.specs.Fmt.{digits}
use Rattle.core_terms.specs.declared.format.Format.{Format}
use Rattle.core_terms.specs.declared.format.Format.TheVariants.{First, Second}
use Rattle.core_terms.specs.Types.{UnitTy, BoolTy, IntTy, TextTy, PairTy, NamedTy, AuthTy, VecTy}
use Rattle.lexemes.specs.Places.{start}
use Rattle.auth_syntax.specs.Syntax.{NameSyntax, TypeSyntax, UnitTypeSyntax, BoolTypeSyntax, IntTypeSyntax, TextTypeSyntax, NamedTypeSyntax, AuthTypeSyntax, PairTypeSyntax, VecTypeSyntax, DeclarationSyntax, TypeDeclaration, StateDeclaration, Program}
use Rattle.printed_syntax.specs.PrintedPrograms.{declarations_text}
use Rattle.declared_types.specs.Checking.{Sound}
use Rattle.declared_types.specs.WrittenTypes.{second_pass}
use Rattle.declared_types.specs.DeclaredPrograms.{table_of_program}
use Rattle.printed_types.specs.Laws.{types_in, types_text_of}

at_start : List ℕ → NameSyntax
at_start name = record { at = start; name = name }

unit_type : TypeSyntax
unit_type = UnitTypeSyntax start

int_type : TypeSyntax
int_type = IntTypeSyntax start

auth_of : TypeSyntax → TypeSyntax
auth_of t = AuthTypeSyntax start t

pair_of : TypeSyntax → TypeSyntax → TypeSyntax
pair_of t u = PairTypeSyntax start t u

array_of : ℕ → TypeSyntax → TypeSyntax
array_of n t = VecTypeSyntax start n t

named : List ℕ → TypeSyntax
named name = NamedTypeSyntax start name

program_of : Option Format → List DeclarationSyntax → Program
program_of format declarations = record { format = format; declarations = declarations; end = start }

abbrev Both : Program → List ℕ → Type 0
Both program text = (second_pass program ≡ Sound tt) × (types_text_of program ≡ text) × (declarations_text (types_in program.declarations) ≡ text)

-- a type with each form of type but arrays, and another one, around the state
forms : Program
forms = program_of None (
    TypeDeclaration start (at_start (codes "all")) (
    record { name = at_start (codes "Leaves"); fields = unit_type ∷ BoolTypeSyntax start ∷ int_type ∷ TextTypeSyntax start ∷ [] }
    ∷ record { name = at_start (codes "No_1"); fields = [] }
    ∷ record { name = at_start (codes "Trees"); fields = named (codes "vec") ∷ auth_of (named (codes "all")) ∷ auth_of (auth_of unit_type) ∷ auth_of (pair_of int_type (auth_of (pair_of unit_type int_type))) ∷ [] }
    ∷ [])
    ∷ StateDeclaration start (named (codes "all"))
    ∷ TypeDeclaration start (at_start (codes "vec")) (record { name = at_start (codes "One"); fields = pair_of (named (codes "vec")) unit_type ∷ [] } ∷ [])
    ∷ [])

all_forms : Both forms (codes "type all = Leaves(unit, bool, int, text) | No_1 | Trees(vec, auth all, auth auth unit, auth(int, auth(unit, int)));\ntype vec = One((vec, unit));\n")
unfolding at_start unit_type int_type auth_of pair_of named program_of forms
all_forms = (refl, refl, refl)

table_of_forms : table_of_program forms ≡
    ((UnitTy ∷ BoolTy ∷ IntTy ∷ TextTy ∷ []) ∷ [] ∷ (NamedTy 1 ∷ AuthTy (NamedTy 0) ∷ AuthTy (AuthTy UnitTy) ∷ AuthTy (PairTy IntTy (AuthTy (PairTy UnitTy IntTy))) ∷ []) ∷ [])
    ∷ ((PairTy (NamedTy 1) UnitTy ∷ []) ∷ [])
    ∷ []
unfolding at_start unit_type int_type auth_of pair_of named program_of forms
table_of_forms = refl

-- arrays, of one digit and of two
arrays : Program
arrays = program_of (Some Second) (
    TypeDeclaration start (at_start (codes "rows")) (
    record { name = at_start (codes "Rows"); fields = array_of 1 (array_of 64 int_type) ∷ pair_of (array_of 10 (pair_of unit_type unit_type)) (array_of 9 (auth_of (array_of 2 (named (codes "rows"))))) ∷ [] }
    ∷ [])
    ∷ [])

arrays_in_types : Both arrays (codes "type rows = Rows(vec[1] vec[64] int, (vec[10] (unit, unit), vec[9] auth vec[2] rows));\n")
unfolding digits at_start unit_type int_type auth_of pair_of array_of named program_of arrays
arrays_in_types = (refl, refl, refl)

table_of_arrays : table_of_program arrays ≡
    ((VecTy 1 (VecTy 64 IntTy) ∷ PairTy (VecTy 10 (PairTy UnitTy UnitTy)) (VecTy 9 (AuthTy (VecTy 2 (NamedTy 0)))) ∷ []) ∷ []) ∷ []
unfolding at_start unit_type int_type auth_of pair_of array_of named program_of arrays
table_of_arrays = refl

-- a program without types
no_types : Both (program_of (Some First) (StateDeclaration start (IntTypeSyntax start) ∷ [])) []
unfolding program_of
no_types = (refl, refl, refl)

-- a type without a constructor is printed with an equals sign, which its text has not
without_constructor : Program
without_constructor = program_of None (TypeDeclaration start (at_start (codes "none")) [] ∷ [])

no_constructor : (second_pass without_constructor ≡ Sound tt) × (types_text_of without_constructor ≡ codes "type none;\n")
    × (declarations_text (types_in without_constructor.declarations) ≡ codes "type none =;\n")
unfolding at_start program_of without_constructor
no_constructor = (refl, refl, refl)
