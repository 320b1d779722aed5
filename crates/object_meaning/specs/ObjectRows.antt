-- Objects of examples. Each equation holds by computing both sides.
use Rattle.std.specs.Prelude.{◌≡◌, ℕ, List, [], ◌∷◌, ◌++◌, codes, length, take, refl}
use Rattle.core_terms.specs.Types.{UnitTy}
use Rattle.core_terms.specs.Terms.{Query}
use Rattle.core_terms.specs.Values.{UnitV}
use Rattle.ideal_meaning.specs.Examples.{toy, bool_program, two_bools_program, nested_program, spin_program}
use Rattle.ideal_meaning.specs.Headline.{call_values}
use Rattle.ideal_meaning.specs.Checked.{verdict, Accepted as Verified}
use Rattle.ideal_meaning.specs.ExampleProofs.{file}
use Rattle.ideal_meaning.specs.Ideal.{ideal, Done}
use Rattle.ideal_meaning.specs.Library.{bst}
use Rattle.ideal_meaning.specs.Run.{Gives}
use Rattle.core_terms.specs.GeneratedCode.{generated}
use Rattle.object_meaning.specs.Objects.{ListedUnit, ListedAuth, Load, Unauth, Return, Object}
use Rattle.object_meaning.specs.ObjectBytes.{object_bytes}
use Rattle.object_meaning.specs.ObjectBodies.{body_in, program_in}
use Rattle.object_meaning.specs.Accepting.{Acceptance, Accepts, FirstFault, Cut, BadField, Leftover, BadShape, BadKind, accepting}
use Rattle.object_meaning.specs.WrittenObjects.{object_of}

-- One query, which opens the state, an authenticated unit.
abbrev pub header_bytes : List ℕ
header_bytes = 0x4C ∷ 0x41 ∷ 0x4F ∷ 0x31 ∷ 0 ∷ 0 ∷ 0 ∷ 2 ∷ 0x00 ∷ 0x06 ∷ 0 ∷ 0 ∷ 0 ∷ 0 ∷ 0 ∷ 0 ∷ 0 ∷ 1 ∷ 0 ∷ 1 ∷ []

abbrev pub open_head : List ℕ
open_head = 2 ∷ 4 ∷ 0x6F ∷ 0x70 ∷ 0x65 ∷ 0x6E ∷ 2 ∷ 0 ∷ 0 ∷ 0 ∷ 1 ∷ 0 ∷ 0 ∷ 0 ∷ 0 ∷ 0 ∷ 0 ∷ 0 ∷ 0 ∷ 0 ∷ 0 ∷ 0 ∷ 3 ∷ []

-- where the first instruction loads this local
abbrev pub open_loads : ℕ → List ℕ
open_loads i = header_bytes ++ (open_head ++ (0x04 ∷ i ∷ 0x11 ∷ 0 ∷ 0 ∷ 0 ∷ 0 ∷ 0x0F ∷ []))

abbrev pub open_object : Object
open_object = record {
  types = ListedUnit ∷ ListedAuth 0 ∷ [];
  state = 1;
  functions = record { kind = Query; name = codes "open"; parameters = 1 ∷ 0 ∷ []; result = 0; code = Load 0 ∷ Unauth 0 ∷ Return ∷ [] } ∷ [];
}

pub open_has_51_bytes : length (open_loads 0) ≡ 51
open_has_51_bytes = refl

pub open_is_accepted : accepting (open_loads 0) ≡ Accepts open_object
open_is_accepted = refl

pub open_is_spelled : object_bytes open_object ≡ open_loads 0
open_is_spelled = refl

-- the argument is no authenticated value
pub argument_is_not_opened : accepting (open_loads 1) ≡ FirstFault (BadKind 0 1)
argument_is_not_opened = refl

-- there is no third local
pub no_local_is_loaded : accepting (open_loads 2) ≡ FirstFault (BadKind 0 0)
no_local_is_loaded = refl

pub open_gives_unit : ideal (program_in open_object) 0 (call_values UnitV UnitV) 1 ≡ Gives UnitV 0 (record { ty = UnitTy; value = UnitV } ∷ [])
open_gives_unit = refl

-- its verdict on a proof with the empty piece, where the state is the digest of no bytes
pub open_is_verified : verdict toy (program_in open_object) UnitTy 0 (toy []) [] 1 (file (0 ∷ 0 ∷ 0 ∷ 0 ∷ 0 ∷ 0 ∷ 0 ∷ [])) ≡ Verified (Done UnitV)
open_is_verified = refl

-- CUT AND LEFTOVER
pub nothing_is_cut : accepting [] ≡ FirstFault (Cut 0)
nothing_is_cut = refl

pub last_byte_is_cut : accepting (take 50 (open_loads 0)) ≡ FirstFault (Cut 50)
last_byte_is_cut = refl

pub name_is_cut : accepting (take 25 (open_loads 0)) ≡ FirstFault (Cut 25)
name_is_cut = refl

pub byte_behind_is_left : accepting (open_loads 0 ++ 0 ∷ []) ≡ FirstFault (Leftover 1)
byte_behind_is_left = refl

-- FIELDS
pub other_magic : accepting (0x4C ∷ 0x41 ∷ 0x4F ∷ 0x32 ∷ []) ≡ FirstFault (BadField 0)
other_magic = refl

-- a second unit; a pair with itself as a part; no seventh tag
pub second_unit : accepting (0x4C ∷ 0x41 ∷ 0x4F ∷ 0x31 ∷ 0 ∷ 0 ∷ 0 ∷ 2 ∷ 0x00 ∷ 0x00 ∷ []) ≡ FirstFault (BadField 9)
second_unit = refl

pub part_of_itself : accepting (0x4C ∷ 0x41 ∷ 0x4F ∷ 0x31 ∷ 0 ∷ 0 ∷ 0 ∷ 2 ∷ 0x00 ∷ 0x04 ∷ 0 ∷ 0 ∷ 0 ∷ 0 ∷ 0 ∷ 0 ∷ 0 ∷ 1 ∷ []) ≡ FirstFault (BadField 14)
part_of_itself = refl

pub no_tag_7 : accepting (0x4C ∷ 0x41 ∷ 0x4F ∷ 0x31 ∷ 0 ∷ 0 ∷ 0 ∷ 1 ∷ 0x07 ∷ []) ≡ FirstFault (BadField 8)
no_tag_7 = refl

-- 100,001 types
pub too_many_types : accepting (0x4C ∷ 0x41 ∷ 0x4F ∷ 0x31 ∷ 0x00 ∷ 0x01 ∷ 0x86 ∷ 0xA1 ∷ []) ≡ FirstFault (BadField 4)
too_many_types = refl

-- a named type without a constructor; a constructor with a small letter, and one that stands twice, each at its length; one that is cut
pub no_constructor : accepting (0x4C ∷ 0x41 ∷ 0x4F ∷ 0x31 ∷ 0 ∷ 0 ∷ 0 ∷ 1 ∷ 0x05 ∷ 0 ∷ []) ≡ FirstFault (BadField 9)
no_constructor = refl

pub small_constructor : accepting (0x4C ∷ 0x41 ∷ 0x4F ∷ 0x31 ∷ 0 ∷ 0 ∷ 0 ∷ 1 ∷ 0x05 ∷ 1 ∷ 1 ∷ 0x61 ∷ []) ≡ FirstFault (BadField 10)
small_constructor = refl

pub constructor_twice : accepting (0x4C ∷ 0x41 ∷ 0x4F ∷ 0x31 ∷ 0 ∷ 0 ∷ 0 ∷ 1 ∷ 0x05 ∷ 2 ∷ 1 ∷ 0x41 ∷ 0 ∷ 1 ∷ 0x41 ∷ []) ≡ FirstFault (BadField 13)
constructor_twice = refl

pub constructor_cut : accepting (0x4C ∷ 0x41 ∷ 0x4F ∷ 0x31 ∷ 0 ∷ 0 ∷ 0 ∷ 1 ∷ 0x05 ∷ 1 ∷ 3 ∷ 0x61 ∷ []) ≡ FirstFault (Cut 12)
constructor_cut = refl

-- a function that is no role has no name; a role's isn't a keyword
pub inner_name : accepting (header_bytes ++ (0 ∷ 1 ∷ [])) ≡ FirstFault (BadField 21)
inner_name = refl

pub keyword_name : accepting (header_bytes ++ (2 ∷ 3 ∷ 0x6C ∷ 0x65 ∷ 0x74 ∷ [])) ≡ FirstFault (BadField 21)
keyword_name = refl

-- no role can be named as the functions are that are none
pub fun_name : accepting (header_bytes ++ (2 ∷ 3 ∷ 0x66 ∷ 0x75 ∷ 0x6E ∷ [])) ≡ FirstFault (BadField 21)
fun_name = refl

-- `vec` is a name: what is cut is the number of parameters behind it
pub array_word_is_name : accepting (header_bytes ++ (2 ∷ 3 ∷ 0x76 ∷ 0x65 ∷ 0x63 ∷ [])) ≡ FirstFault (Cut 25)
array_word_is_name = refl

-- SHAPES
-- an init has one parameter
pub init_of_two : accepting (header_bytes ++ (1 ∷ 4 ∷ 0x6F ∷ 0x70 ∷ 0x65 ∷ 0x6E ∷ 2 ∷ 0 ∷ 0 ∷ 0 ∷ 1 ∷ 0 ∷ 0 ∷ 0 ∷ 0 ∷ 0 ∷ 0 ∷ 0 ∷ 0 ∷ 0 ∷ 0 ∷ 0 ∷ 1 ∷ 0x0F ∷ [])) ≡ FirstFault (BadShape 0)
init_of_two = refl

-- OBJECTS OF PROGRAMS
-- They are accepted, and are the programs' code.
abbrev pub emitted : Acceptance
emitted = accepting (object_bytes (object_of bool_program []))

pub bools_are_accepted : emitted ≡ Accepts (object_of bool_program [])
bools_are_accepted = refl

pub bools_are_the_code : body_in (object_of bool_program []) ≡ generated bool_program
bools_are_the_code = refl

pub spin_is_accepted : accepting (object_bytes (object_of spin_program [])) ≡ Accepts (object_of spin_program [])
spin_is_accepted = refl

pub spin_is_the_code : body_in (object_of spin_program []) ≡ generated spin_program
spin_is_the_code = refl

pub two_bools_are_accepted : accepting (object_bytes (object_of two_bools_program [])) ≡ Accepts (object_of two_bools_program [])
two_bools_are_accepted = refl

pub nested_is_accepted : accepting (object_bytes (object_of nested_program [])) ≡ Accepts (object_of nested_program [])
nested_is_accepted = refl

-- a search tree: two named types
abbrev pub tree_names : List (List (List ℕ))
tree_names = (codes "Leaf" ∷ codes "Node" ∷ []) ∷ ((codes "Missing" ∷ codes "Found" ∷ []) ∷ [])

pub tree_is_accepted : accepting (object_bytes (object_of bst tree_names)) ≡ Accepts (object_of bst tree_names)
tree_is_accepted = refl

pub tree_is_the_code : body_in (object_of bst tree_names) ≡ generated bst
tree_is_the_code = refl
