-- The reader of as many expressions as an operation wants: one and so many others, with commas between them, and the parenthesis that ends
-- them.
use Rattle.std.proofs.Common.{◌≡◌, ℕ, zero, suc, List, [], ◌∷◌, ◌++◌, length, refl, sym, ap, subst, ◌∙◌, arith, append_assoc}
use Rattle.lexemes.specs.declared.token.Mark.TheVariants.{RightParenthesis, Comma}
use Rattle.lexemes.specs.Tokens.{Tokens}
use Rattle.lexemes.specs.Readings.{Reading, Found}
use Rattle.auth_syntax.specs.Syntax.{ExpSyntax}
use Rattle.auth_syntax.specs.Grammar.{Written, mark}
use Rattle.auth_syntax.specs.Parsing.{read_so_many}
use Rattle.auth_syntax.proofs.Beginnings.{Begin}
use Rattle.auth_syntax.proofs.Readers.{IsClear, IsReader, Reader, Row, Done, ThenMark, Then, Last, read_row, row_sound, row_complete}
use Rattle.auth_syntax.proofs.Lists.{IsListed}

module _ (limit : ℕ) (read : ℕ → Tokens → Reading ExpSyntax) (written : ExpSyntax → List Written) (within : ℕ → ExpSyntax → Type 0)
    (is : IsReader limit read written within) (all : List ExpSyntax → List Written) (all_within : ℕ → List ExpSyntax → Type 0)
    (listed : IsListed limit (mark Comma) written within all all_within) where
  abbrev part : Reader limit
  part = record { A = ExpSyntax; read = read; written = written; within = within; is = is }

  abbrev pub many_written : List ExpSyntax → List Written
  many_written es = all es ++ mark RightParenthesis ∷ []

  abbrev pub many_within : ℕ → ℕ → List ExpSyntax → Type 0
  many_within n at_most es = (length es ≡ suc n) × all_within at_most es

  abbrev pub AreManyRead : ℕ → Type 0
  AreManyRead n = IsReader limit (λ at_most. read_so_many (read at_most) n) many_written (many_within n)

  abbrev pub many_reader : (n : ℕ) → AreManyRead n → Reader limit
  many_reader n are =
      record { A = List ExpSyntax; read = λ at_most. read_so_many (read at_most) n; written = many_written; within = many_within n; is = are }

  -- the last one, and one before others
  abbrev pub last_row : Row limit (List ExpSyntax)
  last_row = Then part (λ last. ThenMark RightParenthesis (Done (last ∷ [])))

  abbrev pub others_row : (n : ℕ) → AreManyRead n → Row limit (List ExpSyntax)
  others_row n are = Then part (λ first. ThenMark Comma (Last (many_reader n are) (λ others. first ∷ others)))

  pub last_written : (last : ExpSyntax) → written last ++ mark RightParenthesis ∷ [] ≡ many_written (last ∷ [])
  last_written last = ap (λ ws. ws ++ mark RightParenthesis ∷ []) (sym (listed.single last))

  pub others_written : (n : ℕ) (first : ExpSyntax) (others : List ExpSyntax) → length others ≡ suc n
      → written first ++ mark Comma ∷ many_written others ≡ many_written (first ∷ others)
  others_written n first [] h = absurd (omega (arith, h))
  others_written n first (next ∷ rest) h =
      sym (append_assoc (written first) (mark Comma ∷ all (next ∷ rest)) (mark RightParenthesis ∷ []))
      ∙ ap (λ ws. ws ++ mark RightParenthesis ∷ []) (sym (listed.several first next rest))

  last_found : (tokens : Tokens) (found : List ExpSyntax) (left : Tokens) → read_row last_row limit tokens ≡ Found found left
      → Begin tokens (many_written found) left × many_within zero limit found
  last_found tokens found left e =
      let s = row_sound last_row tokens found left e in
      let last = s.thing.0 in
      subst (λ (es : List ExpSyntax). Begin tokens (many_written es) left × many_within zero limit es) s.is (
        subst (λ (ws : List Written). Begin tokens ws left) (last_written last) s.begin,
        (omega arith, listed.more_within last [] s.fits.0 listed.none_within),
      )

  others_found : (n : ℕ) (are : AreManyRead n) (tokens : Tokens) (found : List ExpSyntax) (left : Tokens)
      → read_row (others_row n are) limit tokens ≡ Found found left → Begin tokens (many_written found) left × many_within (suc n) limit found
  others_found n are tokens found left e =
      let s = row_sound (others_row n are) tokens found left e in
      let first = s.thing.0 in let others = s.thing.1 in
      subst (λ (es : List ExpSyntax). Begin tokens (many_written es) left × many_within (suc n) limit es) s.is (
        subst (λ (ws : List Written). Begin tokens ws left) (others_written n first others s.fits.1.0) s.begin,
        (omega (arith, s.fits.1.0), listed.more_within first others s.fits.0 s.fits.1.1),
      )

  last_complete : (es : List ExpSyntax) (tokens left : Tokens) → Begin tokens (many_written es) left → many_within zero limit es → IsClear left
      → read_row last_row limit tokens ≡ Found es left
  last_complete [] tokens left begin fits clear = absurd (omega (arith, fits.0))
  last_complete (last ∷ []) tokens left begin fits clear =
      row_complete last_row (λ last. (refl, tt)) (last, tt) tokens left
      (subst (λ (ws : List Written). Begin tokens ws left) (sym (last_written last)) begin) (listed.first_within last [] fits.1, tt) clear
  last_complete (first ∷ next ∷ rest) tokens left begin fits clear = absurd (omega (arith, fits.0))

  others_complete : (n : ℕ) (are : AreManyRead n) (es : List ExpSyntax) (tokens left : Tokens) → Begin tokens (many_written es) left
      → many_within (suc n) limit es → IsClear left → read_row (others_row n are) limit tokens ≡ Found es left
  others_complete n are [] tokens left begin fits clear = absurd (omega (arith, fits.0))
  others_complete n are (first ∷ others) tokens left begin fits clear =
      let more : length others ≡ suc n = omega (arith, fits.0) in
      row_complete (others_row n are) (λ first. (refl, tt)) (first, others) tokens left
      (subst (λ (ws : List Written). Begin tokens ws left) (sym (others_written n first others more)) begin)
      (listed.first_within first others fits.1, (more, listed.others_within first others fits.1)) clear

  pub many_are : (n : ℕ) → AreManyRead n
  many_are zero = record { sound = last_found; complete = last_complete }
  many_are (suc n) = record { sound = others_found n (many_are n); complete = others_complete n (many_are n) }

  abbrev pub so_many : ℕ → Reader limit
  so_many n = many_reader n (many_are n)
