-- Pairs, operations on two operands and `let`: what is found of two expressions, of which the second stands behind the first.
use Rattle.std.specs.Prelude.{List, [], ◌∷◌, ◌++◌, length, nat_lt}
use Rattle.core_terms.specs.ProgramLimits.{most_locals}
use Rattle.core_terms.specs.Terms.{LetE, PairE}
use Rattle.core_terms.specs.Types.{Ty, PairTy, same_type}
use Rattle.lexemes.specs.declared.place.Place.{Place}
use Rattle.auth_syntax.specs.Syntax.{ExpSyntax, place_of}
use Rattle.auth_syntax.specs.Trees.{name_of}
use Rattle.declared_types.specs.Checking.{Checking, Sound, then_checked, unless_fault}
use Rattle.declared_types.specs.Signatures.{Scope}
use Rattle.declared_types.specs.declared.fault.TypeKind.TheVariants.{WrongType, Limit}
use Rattle.declared_types.specs.declared.fault.Limited.TheVariants.{Locals}
use Rattle.auth_types.specs.Bodies.{Local, Typed, binary_expression, elaborated, operand_type, result_type, typed, wanted}
use Rattle.auth_types.specs.declared.bodies.joins.Join.{Join}
use Rattle.auth_types.specs.declared.bodies.joins.Join.TheVariants.{Pair, Operation, Let}

-- the locals of the second, where the first, at this place, has this type
abbrev pub inner_locals : Join → List Local → Place → Ty → Checking (List Local)
inner_locals Pair locals at t = Sound locals
inner_locals (Operation operation) locals at t = unless_fault (same_type t (operand_type operation)) WrongType at (Sound locals)
inner_locals (Let name) locals at t =
    unless_fault (nat_lt (length locals) most_locals) (Limit Locals) (name_of name.now).at
    (Sound (locals ++ record { name = (name_of name.now).name; of_type = t } ∷ []))

-- both as one: what is found of the first, and of the second at this place
abbrev pub joined : Join → Typed → Place → Checking Typed → Checking Typed
joined Pair a at second = then_checked second (λ b. typed (PairE a.of_type b.of_type a.expression b.expression) (PairTy a.of_type b.of_type))
joined (Operation operation) a at second =
    then_checked (wanted at (operand_type operation) second) (λ b. typed (binary_expression operation a.expression b) (result_type operation))
joined (Let name) a at second = then_checked second (λ b. typed (LetE a.of_type a.expression b.expression) b.of_type)

abbrev pub two : Scope → List Local → Join → ExpSyntax → ExpSyntax → Checking Typed
two scope locals join x y =
    then_checked (elaborated scope locals x) (λ a.
    then_checked (inner_locals join locals (place_of x) a.of_type) (λ inner.
    joined join a (place_of y) (elaborated scope inner y)))
