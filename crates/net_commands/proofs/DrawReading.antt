-- What the words tell of a role, whatever the files hold: for `read_drawing`.
use Rattle.std.proofs.Common.{◌≡◌, ℕ, Bool, true, false, List, [], ◌∷◌, cond, Option, Some, None, refl, ap}
use Rattle.core_terms.specs.Roles.{role_named}
use Rattle.core_terms.specs.Terms.{Program, function_at}
use Rattle.printed_lines.specs.declared.refusal.Argument.TheVariants as named
use Rattle.printed_lines.specs.declared.refusal.InputFault.{InputFault}
use Rattle.printed_lines.specs.declared.refusal.InputFault.TheVariants.{Number, RoleKind, RoleUnknown}
use Rattle.command_parts.specs.RoleInputs.{with_role_at}
use Rattle.command_parts.specs.FileInputs.{with_fuel, with_number}
use Rattle.command_parts.specs.AnswerForms.{Answer, says}
use Rattle.command_parts.specs.RefusedAnswers.{input_refused}
use Rattle.command_parts.specs.Arguments.{fuel_of}
use Rattle.command_parts.specs.FueledRoles.{FueledRole, NamedProgram}
use Rattle.command_parts.specs.RoleCalls.{is_called}
use Rattle.command_parts.specs.declared.roles.Callee.TheVariants.{OfState}
use Rattle.command_parts.specs.declared.status.Status.TheVariants.{Done, InputRefused}
use Rattle.net_commands.specs.PreparedDrawings.{TellsRole}

-- an answer that tells a role's number and its fuel
abbrev tells : ℕ → ℕ → Answer
tells f k = says Done (f ∷ k ∷ [])

abbrev tells_role : FueledRole → Option Answer
tells_role r = Some (tells r.role r.fuel)

-- a refusal is none
refused_tells : {A : Type 0} (fault : InputFault) (f k : ℕ) → Some (input_refused fault) ≡ Some (tells f k) → A
refused_tells fault f k is =
    let same : input_refused fault ≡ tells f k = cc in
    let clash : InputRefused ≡ Done = ap (λ (a : Answer). a.status) same in absurd (cc)

same_told : (f k g m : ℕ) → Some (tells g m) ≡ Some (tells f k) → (g ≡ f) × (m ≡ k)
same_told f k g m is =
    let same : tells g m ≡ tells f k = cc in
    let lines : (g ∷ m ∷ []) ∷ [] ≡ (f ∷ k ∷ []) ∷ [] = ap (λ (a : Answer). a.lines) same in
    (cc, cc)

module _ (p : NamedProgram) (fuel : List ℕ) (f k : ℕ) where
  abbrev P : Program
  P = p.digested.program

  abbrev on_fuel : ℕ → ℕ → Option Answer
  on_fuel g m = tells_role (record { program = p; role = g; fuel = m })

  fuel_told : (g : ℕ) (found : Option ℕ) → with_number named.Fuel found (on_fuel g) ≡ Some (tells f k) → (found ≡ Some k) × (g ≡ f)
  fuel_told g None is = refused_tells (Number named.Fuel) f k is
  fuel_told g (Some m) is = let same = same_told f k g m is in (cc (same.1), same.0)

  called_told : (g : ℕ) (called : Bool) → is_called OfState (function_at P g).kind ≡ called → cond called (with_fuel fuel (on_fuel g)) (Some (input_refused RoleKind)) ≡ Some (tells f k)
      → (is_called OfState (function_at P g).kind ≡ true) × (fuel_of fuel ≡ Some k) × (g ≡ f)
  called_told g true same is = let told = fuel_told g (fuel_of fuel) is in (same, told.0, told.1)
  called_told g false same is = refused_tells RoleKind f k is

  pub named_told : (found : Option ℕ) → with_role_at OfState P found (λ g. with_fuel fuel (on_fuel g)) ≡ Some (tells f k)
      → (found ≡ Some f) × (is_called OfState (function_at P f).kind ≡ true) × (fuel_of fuel ≡ Some k)
  named_told None is = refused_tells RoleUnknown f k is
  named_told (Some g) is =
      let told = called_told g (is_called OfState (function_at P g).kind) refl is in
      let same : g ≡ f = told.2 in
      (cc (same), rw same at told.0, told.1)

-- the name is that of the role, which reads a state, and the text tells its fuel
pub role_told : (p : NamedProgram) (role fuel : List ℕ) (r : FueledRole) → TellsRole p role fuel r
    → (role_named p.digested.program role ≡ Some r.role) × (is_called OfState (function_at p.digested.program r.role).kind ≡ true) × (fuel_of fuel ≡ Some r.fuel)
role_told p role fuel r tells = named_told p fuel r.role r.fuel (role_named p.digested.program role) (tells tells_role)
