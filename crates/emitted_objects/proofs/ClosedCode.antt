-- Code that names no types but those of a program, by the forms of expressions.
use Rattle.std.proofs.Common.{ℕ, zero, suc, ◌+◌, ◌<◌, List, [], ◌∷◌, ◌++◌, length}
use Rattle.core_terms.specs.Instructions.{Instruction, Branch, Jump}
use Rattle.core_terms.specs.GeneratedCode.{behind, if_code, laid, match_code, unbind_code}
use Rattle.object_meaning.specs.ClosedPrograms.{CodeIsClosed, IsClosedAt}

module _ (n : ℕ) where
  pub closed_both : (xs ys : List Instruction) → CodeIsClosed n xs → CodeIsClosed n ys → CodeIsClosed n (xs ++ ys)
  closed_both [] ys h j = j
  closed_both (x ∷ xs) ys h j = (h.0, closed_both xs ys h.1 j)

  pub closed_last : (xs : List Instruction) (i : Instruction) → CodeIsClosed n xs → IsClosedAt n i → CodeIsClosed n (xs ++ i ∷ [])
  closed_last xs i h j = closed_both xs (i ∷ []) h (j, tt)

  -- two operands, and the instruction behind them
  pub closed_two : (xs ys : List Instruction) (i : Instruction) → CodeIsClosed n xs → CodeIsClosed n ys → IsClosedAt n i → CodeIsClosed n (xs ++ (ys ++ i ∷ []))
  closed_two xs ys i h j k = closed_both xs (ys ++ i ∷ []) h (closed_last ys i j k)

  pub closed_if : (test first other : List Instruction) → CodeIsClosed n test → CodeIsClosed n first → CodeIsClosed n other
      → CodeIsClosed n (if_code test first other)
  closed_if test first other h j k =
      closed_both test (Branch (length first + 1) ∷ first ++ Jump (length other) ∷ other) h
      (tt, closed_both first (Jump (length other) ∷ other) j (tt, k))

  pub closed_unbind : (m : ℕ) → CodeIsClosed n (unbind_code m)
  closed_unbind zero = tt
  closed_unbind (suc m) = (tt, tt)

  -- the code of each arm
  abbrev pub CodesAreClosed : List (List Instruction) → Type 0
  CodesAreClosed [] = Unit {0}
  CodesAreClosed (code ∷ codes) = CodeIsClosed n code × CodesAreClosed codes

  closed_behind : (later : List (List Instruction)) (rest : List Instruction) → CodeIsClosed n rest → CodeIsClosed n (behind later rest)
  closed_behind [] rest h = h
  closed_behind (arm ∷ later) rest h = (tt, h)

  closed_laid : (codes : List (List Instruction)) → CodesAreClosed codes → CodeIsClosed n (laid codes)
  closed_laid [] h = tt
  closed_laid (arm ∷ later) h = closed_both arm (behind later (laid later)) h.0 (closed_behind later (laid later) (closed_laid later h.1))

  pub closed_match : (number : ℕ) (arms : List (List Instruction)) → number < n → CodesAreClosed arms → CodeIsClosed n (match_code number arms)
  closed_match number arms below h = (below, closed_laid arms h)
