-- A call on a version in hand: its value is in hand, and its honest proof is accepted.
use Rattle.std.proofs.Common.{◌≡◌, ℕ, ◌≤◌, true, List, Option, Some, None, subst}
use Rattle.core_terms.specs.Formats.{Hash, IsHash, IsFormat}
use Rattle.core_terms.specs.Values.{Value, IsIdeal}
use Rattle.core_terms.specs.Spelling.{spelling}
use Rattle.core_terms.specs.Terms.{Program}
use Rattle.core_terms.specs.TypingRules.{IsTyped}
use Rattle.core_terms.specs.Typing.{is_shaped}
use Rattle.core_terms.specs.Roles.{Role}
use Rattle.core_terms.specs.RoleTypes.{HasRoleShape, role_result}
use Rattle.core_terms.specs.Projection.{projection, Fits, digest_at}
use Rattle.core_terms.proofs.Plain.{own}
use Rattle.ideal_meaning.specs.Ideal.{outcome_projection}
use Rattle.ideal_meaning.specs.Frames.{frame_bytes}
use Rattle.ideal_meaning.specs.Following.{after_frames, after_bytes}
use Rattle.ideal_meaning.specs.Checked.{Accepted, verdict_on}
use Rattle.ideal_meaning.proofs.InHand.{IsHeld}
use Rattle.ideal_meaning.proofs.Judged.{OnDone}
use Rattle.ideal_meaning.proofs.Companion.{call_held, companion_of_frames}
use Rattle.session_meaning.specs.Calls.{reads_state, role_in, RoleCall, outcome_of, frames_of}
use Rattle.session_meaning.specs.Server.{Running}
use Rattle.session_meaning.specs.Within.{IsStateWithin}
use Rattle.session_meaning.proofs.ToldCalls.{reads_shape, reads_kind}

module _ (P : Program) where
  -- a version in hand, with all that is authenticated in it
  abbrev pub IsGood : Value → Type 0
  IsGood v = IsHeld P (Unit {0}) P.state v

  -- it is one that is within the limits
  pub good_state : (v : Value) → IsStateWithin P v → IsGood v
  good_state v s = record { ideal = s.ideal; within = s.fits; deep = λ l. s.deep }

  pub state_within : (v : Value) → IsGood v → IsStateWithin P v
  state_within v g = record { ideal = g.ideal; fits = g.within; deep = g.deep tt }

  -- a call of a role that reads the state, on an argument of its type
  pub record IsCall (call : RoleCall) : Type 0 where
    pub reads : reads_state (role_in P call.role).kind ≡ true
    pub ideal : IsIdeal P.types (role_in P call.role).argument call.argument
    pub fits : Fits P (role_in P call.role).argument call.argument

  abbrev pub OnCall : Option Running → Type 0
  OnCall None = Unit {0}
  OnCall (Some r) = IsCall r.call

module _ (hash : Hash) (is_hash : IsHash hash) (P : Program) (format : IsFormat P.format) (typed : IsTyped P) (shaped : is_shaped P ≡ true)
    (v : Value) (call : RoleCall) (good : IsGood P v) (is : IsCall P call) where
  abbrev role : Role
  role = role_in P call.role

  abbrev shape : HasRoleShape P role
  shape = reads_shape P shaped call.role is.reads

  -- the value of the outcome, with all that is authenticated in it
  pub held : OnDone (IsHeld P (Unit {0}) (role_result role.kind P.state shape.0)) (outcome_of P v call)
  held =
      call_held hash is_hash P format typed role.function role.kind role.argument shape.0 shape.1 (reads_kind role.kind is.reads) v call.argument
      good.ideal is.ideal good.within is.fits (good.deep tt) call.fuel

  -- the proof is accepted, and leaves both sides with the same new pieces
  abbrev IsAccepted : ℕ → List (List ℕ) → (argument : Value) → Type 0
  IsAccepted n recent argument =
      let frames = frames_of hash P n recent v call in
      (verdict_on hash P role.argument role.function (spelling (projection hash P P.state v)) (spelling argument) call.fuel (frame_bytes frames) n recent
      ≡ Accepted (outcome_projection hash P (role_result role.kind P.state shape.0) (outcome_of P v call)))
      × (after_bytes P.format.limit (frame_bytes frames) n recent ≡ after_frames frames recent)

  pub accepted : (n : ℕ) → n ≤ P.format.most_kept → (recent : List (List ℕ)) → IsAccepted n recent call.argument
  accepted n small recent =
      subst (IsAccepted n recent) (own (digest_at hash P) P.types role.argument call.argument shape.1.plain is.ideal)
      (companion_of_frames hash is_hash P format typed role.function role.kind role.argument shape.0 shape.1 (reads_kind role.kind is.reads) v call.argument
      good.ideal is.ideal good.within is.fits (good.deep tt) call.fuel n small recent)
