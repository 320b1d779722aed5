-- Histories of a server.
use Rattle.std.specs.Prelude.{◌≡◌, List, [], ◌∷◌}
use Rattle.core_terms.specs.Values.{Value}
use Rattle.core_terms.specs.Terms.{Update, Program}
use Rattle.ideal_meaning.specs.Run.{first_in}
use Rattle.ideal_meaning.specs.Ideal.{Done}
use Rattle.session_meaning.specs.Calls.{role_in, RoleCall, outcome_of}

-- The call, an update, makes version w of version v: its ideal outcome on v is Done, with w as its first component.
pub record Makes (P : Program) (v : Value) (call : RoleCall) (w : Value) : Type 0 where
  pub update : (role_in P call.role).kind ≡ Update
  pub value : Value
  pub done : outcome_of P v call ≡ Done value
  pub first : w ≡ first_in value

-- each version but the first is made of the one before it by its commit, and each commit made one
abbrev pub IsHistory : Program → List Value → List RoleCall → Type 0
IsHistory P (v ∷ []) [] = Unit {0}
IsHistory P (v ∷ w ∷ vs) (c ∷ cs) = Makes P v c w × IsHistory P (w ∷ vs) cs
IsHistory P vs cs = ⊥
