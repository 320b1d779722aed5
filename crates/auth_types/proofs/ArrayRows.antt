-- Arrays, computed on texts; and on trees that no text has.
use Rattle.std.proofs.Common.{◌≡◌, true, [], Some, refl}
use Rattle.std.specs.Prelude.{codes}
use Rattle.core_terms.specs.Types.{IntTy, VecTy}
use Rattle.core_terms.specs.declared.format.Format.{Format}
use Rattle.core_terms.specs.declared.format.Format.TheVariants.{First, Second}
use Rattle.lexemes.specs.declared.place.Place.{Place}
use Rattle.auth_syntax.specs.Syntax.{IntTypeSyntax, NamedTypeSyntax, VecTypeSyntax, ExpSyntax, LocalSyntax, OperateSyntax, NoExp, AndExp, FillOperation, GetOperation}
use Rattle.declared_types.specs.Checking.{FaultAt, Sound}
use Rattle.declared_types.specs.Signatures.{Scope}
use Rattle.declared_types.specs.WrittenTypes.{known_type, type_meant}
use Rattle.declared_types.specs.declared.fault.TypeKind.TheVariants.{AuthInArgument, NotVec, RoleShape, UnknownName, WrongCount, WrongType}
use Rattle.auth_types.specs.Bodies.{elaborated}
use Rattle.auth_types.specs.CheckedPrograms.{FirstFault, checked}
use Rattle.auth_types.proofs.Rows.{answer, is_program}

-- arrays in bodies
an_element_of_the_state : is_program (codes "format 2; state vec[2] int; query at(s: vec[2] int, i: int): int = vget(s, i);") ≡ true
unfolding checked
an_element_of_the_state = refl

a_fill_is_of_its_type : is_program (codes "format 2; state unit; fun f(x: text): vec[2] text = vfill[2](x);") ≡ true
unfolding checked
a_fill_is_of_its_type = refl

a_put_is_of_the_same_type : is_program (codes "format 2; state unit; fun f(s: vec[2] (int, bool), x: int): vec[2] (int, bool) = vput(s, x, (x, true));") ≡ true
unfolding checked
a_put_is_of_the_same_type = refl

arrays_of_arrays : is_program (codes "format 2; type row = Row(vec[64] vec[1] row); state auth row; fun f(s: vec[64] vec[1] row): row = vget(vget(s, 63), 0);") ≡ true
unfolding checked
arrays_of_arrays = refl

one_length_in_a_condition : is_program (codes "format 2; state unit; fun f(s: vec[3] int): vec[3] int = if true then s else vput(vfill[3](0), 1, 2);") ≡ true
unfolding checked
one_length_in_a_condition = refl

words_of_arrays_are_names_in_the_first_format : is_program (codes "state unit; fun vget(vec: int, vput: int): int = add(vec, vput);") ≡ true
unfolding checked
words_of_arrays_are_names_in_the_first_format = refl

a_told_first_format : is_program (codes "format 1; state unit; fun f(vec: int): int = vec;") ≡ true
unfolding checked
a_told_first_format = refl

-- the first operand
an_int_is_no_array : answer (codes "format 2; state unit; fun f(x: int): int = vget(5, 0);") ≡ Some (FirstFault NotVec 1 49)
unfolding checked
an_int_is_no_array = refl

an_auth_is_no_array : answer (codes "format 2; state unit; fun f(x: auth vec[2] int): int = vget(x, 0);") ≡ Some (FirstFault NotVec 1 61)
unfolding checked
an_auth_is_no_array = refl

no_array_before_the_others : answer (codes "format 2; state unit; fun f(x: (int, int)): (int, int) = vput(x, true, y);") ≡ Some (FirstFault NotVec 1 63)
unfolding checked
no_array_before_the_others = refl

its_own_fault_first : answer (codes "format 2; state unit; fun f(x: int): int = vget(y, true);") ≡ Some (FirstFault UnknownName 1 49)
unfolding checked
its_own_fault_first = refl

-- the others
an_index_of_another_type : answer (codes "format 2; state unit; fun f(s: vec[2] int): int = vget(s, true);") ≡ Some (FirstFault WrongType 1 59)
unfolding checked
an_index_of_another_type = refl

an_element_of_another_type : answer (codes "format 2; state unit; fun f(s: vec[2] int): vec[2] int = vput(s, 0, true);") ≡ Some (FirstFault WrongType 1 69)
unfolding checked
an_element_of_another_type = refl

an_index_before_an_element : answer (codes "format 2; state unit; fun f(s: vec[2] int): vec[2] int = vput(s, (), y);") ≡ Some (FirstFault WrongType 1 66)
unfolding checked
an_index_before_an_element = refl

the_fault_of_an_index : answer (codes "format 2; state unit; fun f(s: vec[2] int): vec[2] int = vput(s, y, true);") ≡ Some (FirstFault UnknownName 1 66)
unfolding checked
the_fault_of_an_index = refl

-- lengths and elements
two_lengths_are_two_types : answer (codes "format 2; state unit; fun f(s: vec[2] int): vec[3] int = s;") ≡ Some (FirstFault WrongType 1 58)
unfolding checked
two_lengths_are_two_types = refl

a_fill_of_another_length : answer (codes "format 2; state unit; fun f(x: int): vec[3] int = vfill[2](x);") ≡ Some (FirstFault WrongType 1 51)
unfolding checked
a_fill_of_another_length = refl

a_fill_of_other_elements : answer (codes "format 2; state unit; fun f(x: int): vec[2] bool = vfill[2](x);") ≡ Some (FirstFault WrongType 1 52)
unfolding checked
a_fill_of_other_elements = refl

-- declarations
an_unknown_element : answer (codes "format 2; state vec[2] a;") ≡ Some (FirstFault UnknownName 1 24)
unfolding checked
an_unknown_element = refl

auth_in_an_array : answer (codes "format 2; state unit; query q(s: unit, x: vec[2] auth int): int = 1;") ≡ Some (FirstFault AuthInArgument 1 43)
unfolding checked
auth_in_an_array = refl

a_state_of_another_length : answer (codes "format 2; state vec[2] int; init f(x: int): vec[3] int = vfill[3](x);") ≡ Some (FirstFault RoleShape 1 34)
unfolding checked
a_state_of_another_length = refl

-- trees that no text has: an array that the program may not have, and operands that aren't as many as the operation takes
abbrev in_format : Format → Scope
in_format format = record { format = format; functions = []; constructors = []; table = [] }

abbrev unknown : Place → ExpSyntax
unknown at = LocalSyntax at (codes "x")

module _ (at place : Place) where
  no_array_in_the_first_format : known_type First [] (VecTypeSyntax at 2 (NamedTypeSyntax place (codes "a"))) ≡ FaultAt NotVec at
  no_array_in_the_first_format = refl

  no_array_of_none : known_type Second [] (VecTypeSyntax at 0 (IntTypeSyntax place)) ≡ FaultAt NotVec at
  no_array_of_none = refl

  no_array_of_65 : known_type Second [] (VecTypeSyntax at 65 (IntTypeSyntax place)) ≡ FaultAt NotVec at
  no_array_of_65 = refl

  an_array_of_64 : known_type Second [] (VecTypeSyntax at 64 (IntTypeSyntax place)) ≡ Sound tt
  an_array_of_64 = refl

  meant_in_the_second_format : type_meant Second [] (VecTypeSyntax at 2 (IntTypeSyntax place)) ≡ VecTy 2 IntTy
  meant_in_the_second_format = refl

  meant_in_the_first_format : type_meant First [] (VecTypeSyntax at 2 (IntTypeSyntax place)) ≡ IntTy
  meant_in_the_first_format = refl

  no_fill_in_the_first_format : elaborated (in_format First) [] (OperateSyntax at (FillOperation 2) (AndExp (unknown place) NoExp)) ≡ FaultAt NotVec at
  no_fill_in_the_first_format = refl

  no_fill_of_65 : elaborated (in_format Second) [] (OperateSyntax at (FillOperation 65) (AndExp (unknown place) NoExp)) ≡ FaultAt NotVec at
  no_fill_of_65 = refl

  no_operand : elaborated (in_format Second) [] (OperateSyntax at GetOperation NoExp) ≡ FaultAt WrongCount at
  no_operand = refl

  too_few_operands : elaborated (in_format Second) [] (OperateSyntax at GetOperation (AndExp (unknown place) NoExp)) ≡ FaultAt WrongCount at
  too_few_operands = refl

  too_many_operands : elaborated (in_format First) [] (OperateSyntax at (FillOperation 2) (AndExp (unknown place) (AndExp (unknown place) NoExp))) ≡ FaultAt
      WrongCount at
  too_many_operands = refl
