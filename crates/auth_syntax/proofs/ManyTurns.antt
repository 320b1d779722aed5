-- One turn of the loop that reads as many expressions as an operation wants, and its end.
use Rattle.std.proofs.Common.{◌≡◌, ◌≢◌, ◌∙◌, ℕ, zero, suc, ◌-◌, List, [], ◌∷◌, ◌++◌, map, Result, Err, refl, ap, sym, subst, arith}
use Rattle.std.specs.Prelude.{IsErrAnd}
use Rattle.lexemes.specs.Tokens.{Tokens}
use Rattle.lexemes.specs.Readings.{Reading, Found, SyntaxFault, then_read, read_mark}
use Rattle.lexemes.specs.Remaining.{Reads}
use Rattle.auth_syntax.specs.Syntax.{ExpSyntax}
use Rattle.auth_syntax.specs.Parsing.{read_expression, read_so_many}
use Rattle.auth_syntax.specs.Parts.{behind_operand}
use Rattle.auth_syntax.specs.Trees.{expression_of}
use Rattle.auth_syntax.specs.declared.tree.ExpTree.{ExpTree}
use Rattle.auth_syntax.proofs.Faults.{refused_part}
use Rattle.auth_syntax.proofs.Loops.{followed, followed-joined, pushed}
use Rattle.auth_syntax.proofs.PartsRead.{seen_as}
use Rattle.auth_syntax.proofs.Readers.{in_turn}

-- The expressions that begin these tokens are those read so far, and one and so many others of what is left.
pub record AreManySoFar (levels n : ℕ) (whole : Tokens) (so_far : List ExpSyntax) (left : ℕ) (rest : Tokens) : Type 0 where
  pub reading : read_so_many (read_expression levels) n whole ≡ followed so_far (read_so_many (read_expression levels) left rest)

module _ (part : Tokens → Reading ExpSyntax) where
  -- behind an expression and its mark
  abbrev others_read : ℕ → ExpSyntax → Tokens → Reading (List ExpSyntax)
  others_read zero e tokens = Found (e ∷ []) tokens
  others_read (suc left) e tokens = then_read (read_so_many part left tokens) (λ others tokens. Found (e ∷ others) tokens)

  abbrev mark_read : ℕ → ExpSyntax → Tokens → Reading (List ExpSyntax)
  mark_read left e tokens = then_read (read_mark (behind_operand left) tokens) (λ _ tokens. others_read left e tokens)

  many_is : (left : ℕ) (tokens : Tokens) → read_so_many part left tokens ≡ then_read (part tokens) (mark_read left)
  many_is zero tokens = refl
  many_is (suc left) tokens = refl

module _ (levels n : ℕ) (whole : Tokens) (before : List ExpTree) (left : ℕ) (rest : Tokens)
    (h : AreManySoFar levels n whole (map expression_of before) left rest) where
  abbrev part : Tokens → Reading ExpSyntax
  part = read_expression levels

  abbrev so_far : List ExpSyntax
  so_far = map expression_of before

  whole_is : read_so_many part n whole ≡ followed so_far (then_read (part rest) (mark_read part left))
  whole_is = h.reading ∙ ap (followed so_far) (many_is part left rest)

  -- the next one is refused
  pub no_operand : {D : Type 0} (view_all : D → List ExpSyntax) (r : Result D SyntaxFault) (fault : SyntaxFault) (after : Tokens)
      → IsErrAnd r (λ e. e ≡ fault) → Reads expression_of (part rest) (Err fault) after → Reads view_all (read_so_many part n whole) r after
  no_operand view_all r fault after is refused =
      seen_as view_all r after (whole_is ∙ in_turn (part rest) (mark_read part left) _)
      (refused_part expression_of view_all (part rest) _ fault after r is refused)

  module _ (after behind : Tokens) (e : ExpTree) (found : part rest ≡ Found (expression_of e) after) where
    marked : read_so_many part n whole ≡ followed so_far (mark_read part left (expression_of e) after)
    marked = whole_is ∙ ap (λ reading. followed so_far (then_read reading (mark_read part left))) found

    -- what stands behind it is refused
    pub no_mark : {D : Type 0} (view_all : D → List ExpSyntax) (r : Result D SyntaxFault) (fault : SyntaxFault) → IsErrAnd r (λ e. e ≡ fault)
        → Reads (λ (_ : Unit {0}). tt) (read_mark (behind_operand left) after) (Err fault) behind → Reads view_all (read_so_many part n whole) r behind
    no_mark view_all r fault is refused =
        seen_as view_all r behind (marked ∙ in_turn (read_mark (behind_operand left) after) _ _)
        (refused_part (λ (_ : Unit {0}). tt) view_all (read_mark (behind_operand left) after) _ fault behind r is refused)

    module _ (sign : read_mark (behind_operand left) after ≡ Found tt behind) (items : List ExpTree) (kept : items ≡ before ++ e ∷ []) where
      gone_on : read_so_many part n whole ≡ followed so_far (others_read part left (expression_of e) behind)
      gone_on = marked ∙ ap (λ reading. followed so_far (then_read reading (λ _ tokens. others_read part left (expression_of e) tokens))) sign

      -- it is the last one
      pub many_end : left ≡ 0 → read_so_many part n whole ≡ Found (map expression_of items) behind
      many_end last =
          gone_on ∙ ap (λ left. followed so_far (others_read part left (expression_of e) behind)) last
          ∙ ap (λ es. Found es behind) (sym (pushed expression_of before items e kept))

      -- others follow
      pub many_go_on : left ≢ 0 → AreManySoFar levels n whole (map expression_of items) (left - 1) behind
      many_go_on more =
          let one : left ≡ suc (left - 1) = omega (arith, more) in
          subst (λ (es : List ExpSyntax). AreManySoFar levels n whole es (left - 1) behind) (sym (pushed expression_of before items e kept)) (record {
            reading = gone_on ∙ ap (λ left. followed so_far (others_read part left (expression_of e) behind)) one
                ∙ followed-joined so_far (expression_of e) (read_so_many part (left - 1) behind);
          })
