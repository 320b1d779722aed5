use Rattle.std.proofs.Common.{◌≡◌, Option, Some, IfSome, subst}
use Rattle.prover_mode.proofs.turns.Proving.finish.Goals as goal

-- what holds of the value that is there
held : {A : Type 0} (P : A → Type 0) (found : Option A) (x : A) → found ≡ Some x → IfSome found P → P x
held P found x is h = subst (λ found. IfSome found P) is h

pub returns : goal.returns
returns g c f vs k recent has holds = (held _ c.in_ok-told.field-0 c.in-Some.told c.in-Some.is c.in_ok-told.ensures.told f vs k recent has holds).0
