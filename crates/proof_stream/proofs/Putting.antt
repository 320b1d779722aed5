-- Bytes that are put behind a buffer.
use Rattle.std.proofs.Common.{◌≡◌, ℕ, List, ◌++◌, length, Result, Ok, Err, is_ok, if◌then◌else◌, sym, ap, ◌∙◌, append_assoc, arith, length-append}
use Rattle.std.proofs.Math.Seq.{take-append_seam}
use Rattle.std.specs.declared.alloc.AllocError.{AllocError}
use Rattle.proof_stream.specs.Written.{Puts}

-- a front was put, and then what is behind it
pub put_behind : (front back shown before middle now : List ℕ) (result : Result (Unit {0}) AllocError) → middle ≡ before ++ front → shown ≡ back
    → now ≡ (if is_ok result then middle ++ shown else middle) → Puts (front ++ back) before now result
put_behind front back shown before middle now (Ok done) first same is =
    is ∙ ap (λ xs. xs ++ shown) first ∙ append_assoc before front shown ∙ ap (λ xs. before ++ (front ++ xs)) same
put_behind front back shown before middle now (Err e) first same is = (
  length front,
  omega (arith, length-append front back),
  is ∙ first ∙ ap (λ xs. before ++ xs) (sym (take-append_seam front back)),
)
