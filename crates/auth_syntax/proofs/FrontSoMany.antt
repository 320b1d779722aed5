-- The reader of as many expressions as an operation wants, on tokens that only begin alike.
use Rattle.std.proofs.Common.{ℕ, zero, suc, ◌≤◌, List, [], ◌∷◌, refl, arith}
use Rattle.lexemes.specs.declared.token.Mark.TheVariants.{Comma}
use Rattle.lexemes.specs.Tokens.{Tokens}
use Rattle.lexemes.specs.Readings.{Reading}
use Rattle.auth_syntax.specs.Syntax.{ExpSyntax}
use Rattle.auth_syntax.specs.Grammar.{Written, mark}
use Rattle.auth_syntax.specs.Parsing.{read_so_many}
use Rattle.auth_syntax.proofs.Readers.{IsReader}
use Rattle.auth_syntax.proofs.Lists.{IsListed}
use Rattle.auth_syntax.proofs.SoMany.{many_written, many_within, last_row, others_row, last_written, others_written, many_are}
use Rattle.auth_syntax.proofs.Fronts.{IsLocal}
use Rattle.auth_syntax.proofs.Productions.{row_local}

module _ (limit : ℕ) (read : ℕ → Tokens → Reading ExpSyntax) (written : ExpSyntax → List Written) (within : ℕ → ExpSyntax → Type 0)
    (is : IsReader limit read written within) (all : List ExpSyntax → List Written) (all_within : ℕ → List ExpSyntax → Type 0)
    (listed : (n : ℕ) → IsListed n (mark Comma) written within all all_within) (local : IsLocal limit read written within)
    (widen : (n wider : ℕ) (es : List ExpSyntax) → n ≤ wider → all_within n es → all_within wider es) where
  abbrev are_written : List ExpSyntax → List Written
  are_written = many_written limit read written within is all all_within (listed limit)

  abbrev so_many_within : ℕ → ℕ → List ExpSyntax → Type 0
  so_many_within = many_within limit read written within is all all_within (listed limit)

  abbrev AreManyLocal : ℕ → Type 0
  AreManyLocal n = IsLocal limit (λ at_most. read_so_many (read at_most) n) are_written (so_many_within n)

  so_many_widen : (most n wider : ℕ) (es : List ExpSyntax) → n ≤ wider → so_many_within most n es → so_many_within most wider es
  so_many_widen most n wider es h fits = (fits.0, widen n wider es h fits.1)

  one_more : (n at_most : ℕ) (first : ExpSyntax) (others : List ExpSyntax) → within at_most first → so_many_within n at_most others
      → so_many_within (suc n) at_most (first ∷ others)
  one_more n at_most first others h hs = (omega (arith, hs.0), (listed at_most).more_within first others h hs.1)

  alone : (at_most : ℕ) (last : ExpSyntax) → within at_most last → so_many_within zero at_most (last ∷ [])
  alone at_most last h = (refl, (listed at_most).more_within last [] h (listed at_most).none_within)

  pub many_local : (n : ℕ) → AreManyLocal n
  many_local zero =
      row_local limit (last_row limit read written within is all all_within (listed limit)) are_written (so_many_within zero)
      (local, λ last. tt)
      (λ at_most things fits. (
        last_written limit read written within is all all_within (listed limit) things.0,
        alone at_most things.0 fits.0,
      ))
      (local.some ∷ []) (λ at_most. alone (suc at_most) local.some (local.some_fits at_most)) (so_many_widen zero)
  many_local (suc n) =
      let others = many_local n in
      row_local limit (others_row limit read written within is all all_within (listed limit) n (many_are limit read written within is all all_within (listed limit) n))
      are_written (so_many_within (suc n)) (local, λ first. others)
      (λ at_most things fits. (
        others_written limit read written within is all all_within (listed limit) n things.0 things.1 fits.1.0,
        one_more n at_most things.0 things.1 fits.0 fits.1,
      ))
      (local.some ∷ others.some)
      (λ at_most. one_more n (suc at_most) local.some others.some (local.some_fits at_most) (others.some_fits at_most))
      (so_many_widen (suc n))
