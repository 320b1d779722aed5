-- What the trees of the code stand for, and their parts.
use Rattle.auth_syntax.specs.Syntax.{Program}
use Rattle.auth_syntax.specs.declared.tree.Ast.{Ast}
pub use Rattle.auth_syntax.specs.TreeParts.{name_of, names_of, type_of, boxed_type_of, types_of, unary_of, array_of, ArmSyntax, arms_in_a_row, expression_from_parts, arm_from_parts, expression_of, boxed_of, expressions_of, arm_of, arms_of, parameter_of, parameters_of, kind_of, function_of, constructor_of, constructors_of, type_declaration_of, declaration_of, declarations_of}

-- the program
abbrev pub program_of : Ast → Program
program_of ast = record { format = ast.format; declarations = declarations_of ast.declarations; end = ast.end }
