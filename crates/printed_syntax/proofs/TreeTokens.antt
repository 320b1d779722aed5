-- The tokens of the code's trees, printed one behind the other.
use Rattle.std.proofs.Common.{◌≡◌, ℕ, ◌+◌, ◌<◌, List, [], ◌∷◌, ◌++◌, length, map, take, get_or, refl, sym, ap, ◌∙◌, append_assoc, append-nil}
use Rattle.std.proofs.lemmas.List.{take_more, map-append}
use Rattle.lexemes.specs.declared.token.Mark.TheVariants.{Bar, Arrow}
use Rattle.auth_syntax.specs.declared.tree.PlacedName.{PlacedName}
use Rattle.auth_syntax.specs.declared.tree.Declaration.{Declaration}
use Rattle.auth_syntax.specs.declared.tree.ExpTree.{ExpTree}
use Rattle.auth_syntax.specs.declared.tree.Arm.{Arm, out-Arm}
use Rattle.auth_syntax.specs.declared.tree.ExpTree.TheFolds.{fold_out-Arm}
use Rattle.lexemes.specs.Tokens.{MarkToken, UpperToken}
use Rattle.auth_syntax.specs.Syntax.{DeclarationSyntax, ExpSyntax}
use Rattle.auth_syntax.specs.Grammar.{Written, mark, standing, in_parentheses, names_tokens, expression_tokens, arms_tokens, declaration_tokens}
use Rattle.printed_syntax.specs.PrintedPrograms.{declaration_text, declarations_text}
use Rattle.auth_syntax.specs.Trees.{ArmSyntax, arms_in_a_row, expression_from_parts, arm_from_parts, expression_of, arm_of, name_of, names_of, declaration_of}
use Rattle.printed_syntax.specs.LineViews.{Line, arm_tokens, at_line, with_end, with_token, with_tokens}
use Rattle.printed_syntax.proofs.LineLemmas.{with_tokens_append, line_ended}

-- with an expression more
abbrev pub with_expression : Line → ExpTree → Line
with_expression line e = with_tokens line (expression_tokens (expression_of e))

-- an arm of a match
arm_printed : (line : Line) (arm : Arm)
    → with_tokens line (arm_tokens (arm_of arm))
    ≡ with_expression (with_token
    (with_tokens (with_token (with_token line (MarkToken Bar)) (UpperToken (name_of (out-Arm arm).constructor).name)) (in_parentheses (names_tokens (names_of (out-Arm arm).fields))))
    (MarkToken Arrow)) (out-Arm arm).body
arm_printed line arm =
    ap (λ a. with_tokens line (arm_tokens a)) (fold_out-Arm ExpSyntax ArmSyntax expression_from_parts arm_from_parts arm)
    ∙ simp (with_tokens_append, append-nil)

-- step by step
pub arm_written : (line barred named filled arrowed written : Line) (arm : Arm) (fields : List PlacedName)
    → barred ≡ with_token line (MarkToken Bar) → named ≡ with_token barred (UpperToken (out-Arm arm).constructor.name) → fields ≡ (out-Arm arm).fields.items
    → filled ≡ with_tokens named (in_parentheses (names_tokens (map name_of fields))) → arrowed ≡ with_token filled (MarkToken Arrow)
    → written ≡ with_expression arrowed (out-Arm arm).body
    → written ≡ with_tokens line (arm_tokens (arm_of arm))
arm_written line barred named filled arrowed written arm fields e e' are f f' f'' =
    f''
    ∙ ap (λ (l : Line). with_expression l (out-Arm arm).body) (f' ∙ ap (λ (l : Line). with_token l (MarkToken Arrow)) (f
    ∙ ap (λ names. with_tokens named (in_parentheses (names_tokens (map name_of names)))) are
    ∙ ap (λ (l : Line). with_tokens l (in_parentheses (names_tokens (names_of (out-Arm arm).fields)))) (e'
    ∙ ap (λ (l : Line). with_token l (UpperToken (out-Arm arm).constructor.name)) e)))
    ∙ sym (arm_printed line arm)

-- arms in a row, with one more
abbrev arm_alone : ArmSyntax → List Written
arm_alone arm =
    (mark Bar ∷ standing arm.constructor.at (UpperToken arm.constructor.name) ∷ in_parentheses (names_tokens arm.fields))
    ++ mark Arrow ∷ expression_tokens arm.body

arms_append : (arms : List ArmSyntax) (arm : ArmSyntax) → arms_tokens (arms_in_a_row (arms ++ arm ∷ [])) ≡ arms_tokens (arms_in_a_row arms) ++ arm_tokens arm
arms_append [] arm = refl
arms_append (first ∷ rest) arm =
    ap (λ ws. arm_alone first ++ ws) (arms_append rest arm) ∙ sym (append_assoc (arm_alone first) (arms_tokens (arms_in_a_row rest)) (arm_tokens arm))

pub arms_more : (line : Line) (arms : List Arm) (i : ℕ) (arm : Arm) (before after : Line)
    → before ≡ with_tokens line (arms_tokens (arms_in_a_row (map arm_of (take i arms)))) → after ≡ with_tokens before (arm_tokens (arm_of arm))
    → arm ≡ get_or arms i arm → i < length arms
    → after ≡ with_tokens line (arms_tokens (arms_in_a_row (map arm_of (take (i + 1) arms))))
arms_more line arms i arm before after e e' is h =
    let others = map arm_of (take i arms) in
    e'
    ∙ ap (λ (l : Line). with_tokens l (arm_tokens (arm_of arm))) e
    ∙ sym (with_tokens_append line (arms_tokens (arms_in_a_row others)) (arm_tokens (arm_of arm)))
    ∙ ap (with_tokens line) (sym (arms_append others (arm_of arm)))
    ∙ ap (λ (a : Arm). with_tokens line (arms_tokens (arms_in_a_row (others ++ arm_of a ∷ [])))) is
    ∙ ap (λ arms. with_tokens line (arms_tokens (arms_in_a_row arms))) (sym (map-append arm_of (take i arms) (get_or arms i arm ∷ [])))
    ∙ ap (λ (arms : List Arm). with_tokens line (arms_tokens (arms_in_a_row (map arm_of arms)))) (sym (take_more arms i arm h))

-- declarations, each on its line, with one more
declarations_append : (ds : List DeclarationSyntax) (d : DeclarationSyntax) → declarations_text (ds ++ d ∷ []) ≡ declarations_text ds ++ declaration_text d
declarations_append [] d = append-nil (declaration_text d)
declarations_append (first ∷ rest) d =
    ap (λ text. declaration_text first ++ text) (declarations_append rest d)
    ∙ sym (append_assoc (declaration_text first) (declarations_text rest) (declaration_text d))

pub declarations_more : (text : List ℕ) (declarations : List Declaration) (i : ℕ) (d : Declaration) (before middle after : Line)
    → before ≡ at_line (text ++ declarations_text (map declaration_of (take i declarations)))
    → middle ≡ with_tokens before (declaration_tokens (declaration_of d)) → after ≡ with_end middle
    → d ≡ get_or declarations i d → i < length declarations
    → after ≡ at_line (text ++ declarations_text (map declaration_of (take (i + 1) declarations)))
declarations_more text declarations i d before middle after e e' e'' is h =
    let others = map declaration_of (take i declarations) in
    e''
    ∙ ap with_end (e' ∙ ap (λ (l : Line). with_tokens l (declaration_tokens (declaration_of d))) e)
    ∙ line_ended (text ++ declarations_text others) (declaration_tokens (declaration_of d))
    ∙ ap at_line (append_assoc text (declarations_text others) (declaration_text (declaration_of d)))
    ∙ ap (λ lines. at_line (text ++ lines))
    (sym (declarations_append others (declaration_of d))
    ∙ ap (λ (d : Declaration). declarations_text (others ++ declaration_of d ∷ [])) is
    ∙ ap declarations_text (sym (map-append declaration_of (take i declarations) (get_or declarations i d ∷ [])))
    ∙ ap (λ (ds : List Declaration). declarations_text (map declaration_of ds)) (sym (take_more declarations i d h)))
