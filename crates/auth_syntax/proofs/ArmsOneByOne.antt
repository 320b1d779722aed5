-- Arms are read one by one.
use Rattle.std.proofs.Common.{◌≡◌, ℕ, zero, suc, Bool, true, false, List, ◌∷◌, refl, ap, ◌∙◌}
use Rattle.lexemes.specs.declared.token.Mark.TheVariants.{Arrow}
use Rattle.lexemes.specs.Tokens.{Tokens, Next, End, Faulty}
use Rattle.auth_syntax.specs.Syntax.{NameSyntax, ExpSyntax, ArmsSyntax, AndArmSyntax}
use Rattle.lexemes.specs.Readings.{Reading, Found, FaultAt, then_read, refused, read_mark}
use Rattle.auth_syntax.specs.Parsing.{read_lower, read_upper, read_optional_list, read_arm_separator, read_other_arms, read_others, read_arms}
use Rattle.auth_syntax.specs.Trees.{ArmSyntax, arms_in_a_row}
use Rattle.auth_syntax.specs.Arms.{read_arm}
use Rattle.auth_syntax.proofs.Lists.{read_separated}

-- arms that are read as a list, in a row
abbrev pub rowed : Reading (List ArmSyntax) → Reading ArmsSyntax
rowed reading = then_read reading (λ arms rest. Found (arms_in_a_row arms) rest)

rowed-refused : (tokens : Tokens) → refused tokens ≡ rowed (refused tokens)
rowed-refused (Next at token rest) = refl
rowed-refused (End at) = refl
rowed-refused (Faulty at kind) = refl

module _ (part : Tokens → Reading ExpSyntax) where
  abbrev pub read_arm_list : ℕ → Tokens → Reading (List ArmSyntax)
  read_arm_list most tokens = read_separated read_arm_separator (read_arm part) most tokens

  abbrev AreRead : ℕ → Type 0
  AreRead most = (tokens : Tokens) → read_arms part most tokens ≡ rowed (read_arm_list most tokens)

  module _ (most : ℕ) (others_are : AreRead most) where
    others : (separator : Reading Bool) → read_other_arms separator (read_arms part most) ≡ rowed (read_others separator (read_arm_list most))
    others (FaultAt kind at) = refl
    others (Found true rest) = others_are rest
    others (Found false rest) = refl

    -- the arms behind the first one
    abbrev behind : ArmSyntax → Tokens → Reading (List ArmSyntax)
    behind first tokens = then_read (read_others (read_arm_separator tokens) (read_arm_list most)) (λ others tokens. Found (first ∷ others) tokens)

    abbrev behind_row : NameSyntax → List NameSyntax → ExpSyntax → Tokens → Reading ArmsSyntax
    behind_row constructor fields body tokens =
        then_read (read_other_arms (read_arm_separator tokens) (read_arms part most)) (λ rest tokens.
        Found (AndArmSyntax constructor fields body rest) tokens)

    joined : (first : ArmSyntax) (reading : Reading (List ArmSyntax))
        → then_read (rowed reading) (λ rest tokens. Found (AndArmSyntax first.constructor first.fields first.body rest) tokens)
        ≡ rowed (then_read reading (λ others tokens. Found (first ∷ others) tokens))
    joined first (Found others rest) = refl
    joined first (FaultAt kind at) = refl

    behind-is : (first : ArmSyntax) (tokens : Tokens) → behind_row first.constructor first.fields first.body tokens ≡ rowed (behind first tokens)
    behind-is first tokens =
        ap (λ reading. then_read reading (λ rest tokens. Found (AndArmSyntax first.constructor first.fields first.body rest) tokens))
        (others (read_arm_separator tokens))
        ∙ joined first (read_others (read_arm_separator tokens) (read_arm_list most))

    -- one after another: the body, the arrow, the fields and the constructor
    abbrev arm_of : NameSyntax → List NameSyntax → ExpSyntax → ArmSyntax
    arm_of constructor fields body = record { constructor = constructor; fields = fields; body = body }

    from_body : (constructor : NameSyntax) (fields : List NameSyntax) (reading : Reading ExpSyntax)
        → then_read reading (behind_row constructor fields)
        ≡ rowed (then_read (then_read reading (λ body tokens. Found (arm_of constructor fields body) tokens)) behind)
    from_body constructor fields (Found body tokens) = behind-is (arm_of constructor fields body) tokens
    from_body constructor fields (FaultAt kind at) = refl

    from_arrow : (constructor : NameSyntax) (fields : List NameSyntax) (reading : Reading (Unit {0}))
        → then_read reading (λ _ tokens. then_read (part tokens) (behind_row constructor fields))
        ≡ rowed (then_read (then_read reading (λ _ tokens. then_read (part tokens) (λ body tokens. Found (arm_of constructor fields body) tokens))) behind)
    from_arrow constructor fields (Found u tokens) = from_body constructor fields (part tokens)
    from_arrow constructor fields (FaultAt kind at) = refl

    from_fields : (constructor : NameSyntax) (reading : Reading (List NameSyntax))
        → then_read reading (λ fields tokens. then_read (read_mark Arrow tokens) (λ _ tokens. then_read (part tokens) (behind_row constructor fields)))
        ≡ rowed (then_read (then_read reading (λ fields tokens. then_read (read_mark Arrow tokens) (λ _ tokens.
        then_read (part tokens) (λ body tokens. Found (arm_of constructor fields body) tokens)))) behind)
    from_fields constructor (Found fields tokens) = from_arrow constructor fields (read_mark Arrow tokens)
    from_fields constructor (FaultAt kind at) = refl

    from_constructor : (reading : Reading NameSyntax)
        → then_read reading (λ constructor tokens. then_read (read_optional_list read_lower tokens) (λ fields tokens.
        then_read (read_mark Arrow tokens) (λ _ tokens. then_read (part tokens) (behind_row constructor fields))))
        ≡ rowed (then_read (then_read reading (λ constructor tokens. then_read (read_optional_list read_lower tokens) (λ fields tokens.
        then_read (read_mark Arrow tokens) (λ _ tokens. then_read (part tokens) (λ body tokens. Found (arm_of constructor fields body) tokens))))) behind)
    from_constructor (Found constructor tokens) = from_fields constructor (read_optional_list read_lower tokens)
    from_constructor (FaultAt kind at) = refl

  pub arms_are_read : (most : ℕ) → AreRead most
  arms_are_read zero tokens = rowed-refused tokens
  arms_are_read (suc most) tokens = from_constructor most (arms_are_read most) (read_upper tokens)
