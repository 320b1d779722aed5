-- Arms one by one: behind its bar, an arm is read by itself.
use Rattle.lexemes.specs.declared.token.Mark.TheVariants.{Arrow}
use Rattle.lexemes.specs.Tokens.{Tokens}
use Rattle.auth_syntax.specs.Syntax.{ExpSyntax}
use Rattle.auth_syntax.specs.Trees.{ArmSyntax}
use Rattle.lexemes.specs.Readings.{Reading, Found, then_read, read_mark}
use Rattle.auth_syntax.specs.Parsing.{read_lower, read_upper, read_optional_list}

abbrev pub read_arm : (Tokens → Reading ExpSyntax) → Tokens → Reading ArmSyntax
read_arm part tokens =
    then_read (read_upper tokens) (λ constructor tokens.
    then_read (read_optional_list read_lower tokens) (λ fields tokens.
    then_read (read_mark Arrow tokens) (λ _ tokens.
    then_read (part tokens) (λ body tokens. Found (record { constructor = constructor; fields = fields; body = body }) tokens))))
