-- The state behind an accepted outcome, by the types of the program and by the bytes as they are lent: `state_behind`
use Rattle.std.proofs.Common.{◌≡◌, ℕ, List, refl, sym, ap, ◌∙◌, subst}
use Rattle.core_terms.specs.Programs.{meaning, types_of}
use Rattle.core_terms.specs.ProgramTypes.{types_meaning}
use Rattle.core_terms.specs.RoleTypes.{HasRoleShape}
use Rattle.core_terms.specs.RoleViews.{role_kind_of, role_of}
use Rattle.core_terms.specs.Spelling.{Spells, spelling}
use Rattle.core_terms.specs.Terms as tree
use Rattle.core_terms.specs.TypeTables.{type_at}
use Rattle.core_terms.specs.Types.{PairTy, Ty}
use Rattle.core_terms.specs.Values.{IsShallow, PairV, Value}
use Rattle.core_terms.specs.declared.program.Program.{Program}
use Rattle.core_terms.specs.declared.program_types.Types.{Types}
use Rattle.core_terms.specs.declared.roles.Role.{Role}
use Rattle.core_terms.specs.declared.outcome.Outcome.TheVariants as told
use Rattle.ideal_meaning.specs.Ideal as ideal
use Rattle.ideal_meaning.specs.SpelledOutcomes.{SpellsOutcome}
use Rattle.session_meaning.specs.Calls.{state_made}
use Rattle.session_meaning.specs.Client.{state_behind}
use Rattle.shallow_codec.specs.ProgramTypes.{table, ty_of}
use Rattle.verifier_mode.specs.Verdicts.{TellsSomeOutcome}
use Rattle.ask_core.proofs.Called.{update_gives}

module _ (p : Program) (role : Role) (shape : HasRoleShape (meaning p) (role_of (types_of p) role)) where
  abbrev P : tree.Program
  P = meaning p

  abbrev t : Ty
  t = type_at (types_of p) role.result

  -- a role that changes no state leaves it
  pub stays : (state : List ℕ) (o : ideal.Outcome) → ((v : Value) → o ≡ ideal.Done v → role_kind_of role.kind ≡ tree.Update → ⊥)
      → state ≡ state_behind (state_made (role_kind_of role.kind) o) state
  stays state o other = by (role_kind_of role.kind) o other
    where
      by : (kind : tree.Kind) (o : ideal.Outcome) → ((v : Value) → o ≡ ideal.Done v → kind ≡ tree.Update → ⊥) → state ≡ state_behind (state_made kind o) state
      by tree.Update (ideal.Done v) other = absurd (other v refl refl)
      by tree.Update (ideal.Trapped trap) other = refl
      by tree.Update ideal.Out other = refl
      by tree.Query o other = refl
      by tree.Init o other = refl
      by tree.Inner o other = refl

  -- an update's value, by the types and the bytes as they are lent
  module _ (update : role_kind_of role.kind ≡ tree.Update) (types : Types) (same : types ≡ p.types) (bytes lent : List ℕ) (lent_is : lent ≡ bytes) where
    abbrev SpellsLent : Value → Type 0
    SpellsLent v = Spells (types_meaning types).format.limit (table types) lent (ty_of types role.result) v

    pair : (answer : Ty) × (t ≡ PairTy P.state answer)
    pair = update_gives P (role_of (types_of p) role) shape update

    to_lent : (v : Value) → Spells P.format.limit P.types bytes t v → SpellsLent v
    to_lent v spelled =
        subst (λ (types : Types). Spells (types_meaning types).format.limit (table types) lent (ty_of types role.result) v) (sym same)
        (subst (λ bytes. Spells P.format.limit P.types bytes t v) (sym lent_is) spelled)

    pub pair_lent : (answer : Ty) × (ty_of types role.result ≡ PairTy (types_meaning types).state answer)
    pair_lent = (pair.0, subst (λ (types : Types). ty_of types role.result ≡ PairTy (types_meaning types).state pair.0) (sym same) pair.1)

    pub value_lent : TellsSomeOutcome P t (told.Done bytes) → (v : Value) × SpellsLent v
    value_lent (o, (v, done, spelled)) = (v, to_lent v spelled)

    pub state_first : (state first : List ℕ) → ((x y : Value) → SpellsLent (PairV x y) → first ≡ spelling x) → (o : ideal.Outcome) → SpellsOutcome P t o (told.Done bytes)
        → first ≡ state_behind (state_made (role_kind_of role.kind) o) state
    state_first state first spells o (v, done, spelled) =
        by v (subst (λ t. IsShallow P.types t v) pair.1 spelled.shape) spelled
        ∙ ap (λ o. state_behind (state_made (role_kind_of role.kind) o) state) (sym done)
      where
        by : (v : Value) → IsShallow P.types (PairTy P.state pair.0) v → Spells P.format.limit P.types bytes t v
            → first ≡ state_behind (state_made (role_kind_of role.kind) (ideal.Done v)) state
        by (PairV x y) shallow spelled =
            spells x y (to_lent (PairV x y) spelled) ∙ ap (λ kind. state_behind (state_made kind (ideal.Done (PairV x y))) state) (sym update)
        by v shallow spelled = elim shallow [ ]
