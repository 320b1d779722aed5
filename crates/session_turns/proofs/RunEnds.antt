-- How a call that has run ends.
use Rattle.std.proofs.Common.{◌≡◌, ◌⊎◌, inl, inr, ℕ, ◌<◌, ◌≤◌, ◌+◌, List, map, length, take, ◌++◌, Option, Some, None, Ok, Bool, true, false, slice_get, IfSome, leb-true, refl, sym, ap, ◌∙◌, subst, arith}
use Rattle.std.proofs.lemmas.List.{length-append, length-take}
use Rattle.std.specs.List.{All}
use Rattle.core_terms.specs.Formats.{Hash, message_limit}
use Rattle.core_terms.specs.Programs.{meaning, types_of}
use Rattle.core_terms.specs.Projection.{digest_at}
use Rattle.core_terms.specs.RoleViews.{role_kind_of, role_of}
use Rattle.core_terms.specs.Roles.{program_roles}
use Rattle.core_terms.specs.RoleTypes.{HasRoleShape, role_result}
use Rattle.core_terms.specs.Terms as tree
use Rattle.core_terms.specs.Terms.{function_at}
use Rattle.core_terms.specs.Types.{PairTy, Ty}
use Rattle.core_terms.specs.Values.{PairV, Value, Values}
use Rattle.core_terms.specs.declared.outcome.Outcome.{Outcome}
use Rattle.core_terms.specs.declared.outcome.Outcome.TheVariants as told
use Rattle.core_terms.specs.declared.program.Program.{Program}
use Rattle.core_terms.specs.declared.roles.Role.{Role}
use Rattle.core_terms.specs.declared.roles.RoleKind.TheVariants as kinds
use Rattle.code_gen.specs.declared.code.Code.{Code}
use Rattle.ideal_meaning.specs.Following.{after_frames}
use Rattle.ideal_meaning.specs.Frames.{Frame, frame_bytes}
use Rattle.ideal_meaning.specs.Headline.{call_values}
use Rattle.ideal_meaning.specs.Ideal as ideal
use Rattle.ideal_meaning.specs.Run.{first_in}
use Rattle.ideal_meaning.proofs.RoleCalls.{result_is}
use Rattle.mode_vm.specs.IdealRuns.{IsOutcome}
use Rattle.mode_vm.specs.Meanings.{program_of}
use Rattle.prover_mode.specs.Told.{TellsFrames}
use Rattle.prover_mode.specs.Turns.{HasRun, IsIdealOutcome}
use Rattle.reuse_buffer.specs.Kept.{Kept, kept}
use Rattle.session_meaning.specs.Server.{fits_message}
use Rattle.session_meaning.specs.Calls.{RoleCall, frames_of, new_state, outcome_of, role_in, state_made}
use Rattle.value_store.specs.Nodes.{Node}
use Rattle.value_store.specs.Standing.{ProverNodes, StandsFor}
use Rattle.value_store.specs.declared.node.Ref.{Ref}
use Rattle.value_store.proofs.StandingNodes.{there_stands}
use Rattle.session_turns.specs.RoleRuns.{IsRunOf}
use Rattle.session_turns.specs.Running.{StandsAt, nodes_of_call}
use Rattle.session_turns.specs.Settling.{IsMade}
use Rattle.session_turns.specs.declared.commit.Commit.{Commit}
use Rattle.session_turns.specs.declared.running.Running.{Running}
use Rattle.session_turns.proofs.CallTests.{role_is, shape_at}

-- the state that a run made stands among its nodes
pub made_there : (hash : Hash) (P : tree.Program) (nodes : List Node) (made : Option Ref) (v : Option Value) → IsMade hash P nodes made v → IfSome made (λ r. r.0 < length nodes)
made_there hash P nodes (Some r) (Some v) h = there_stands (ProverNodes (digest_at hash P)) P.types nodes P.state v r.0 h
made_there hash P nodes (Some r) None h = elim h [ ]
made_there hash P nodes None v h = tt

module _ (hash : Hash) (p : Program) (roles : List Role) (all : map (role_of (types_of p)) roles ≡ program_roles (meaning p))
    (shapes : All (HasRoleShape (meaning p)) (program_roles (meaning p))) (role : Role) (n : ℕ) (at : slice_get roles n ≡ Some role) (nodes : List Node) where
  abbrev P : tree.Program
  P = meaning p

  abbrev Stands : ℕ → Ty → Value → Type 0
  Stands = StandsFor (ProverNodes (digest_at hash P)) P.types nodes

  is : role_in P n ≡ role_of (types_of p) role
  is = role_is p roles n all role at

  shape : HasRoleShape P (role_of (types_of p) role)
  shape = shape_at p roles n all shapes role at

  -- an update gives a pair of a state and an answer
  pair_type : role.kind ≡ kinds.Update → (function_at P (role_in P n).function).result ≡ PairTy P.state shape.0
  pair_type update =
      ap (λ r. (function_at P r.function).result) is
      ∙ result_is P role.function.0 (role_kind_of role.kind) (role_of (types_of p) role).argument shape.0 shape.1
      ∙ ap (λ k. role_result (role_kind_of k) P.state shape.0) update

  pub pair_stands : (r : Ref) (o : ideal.Outcome) → role.kind ≡ kinds.Update
      → IsOutcome (ProverNodes (digest_at hash P)) P.types nodes (function_at P (role_in P n).function).result (told.Done r) o
      → (answer : Ty) × (v : Value) × Stands r.0 (PairTy P.state answer) v × (o ≡ ideal.Done v)
  pair_stands r o update h = (shape.0, h.0, subst (λ z. Stands r.0 z h.0) (pair_type update) h.1, h.2)

  pub update_made : (r first : Ref) (o : ideal.Outcome) → role.kind ≡ kinds.Update
      → ((a b : Ty) (x y : Value) → Stands r.0 (PairTy a b) (PairV x y) → Stands first.0 a x)
      → IsOutcome (ProverNodes (digest_at hash P)) P.types nodes (function_at P (role_in P n).function).result (told.Done r) o
      → IsMade hash P nodes (Some first) (state_made (role_in P n).kind o)
  update_made r first o update shows h =
      subst (λ k. IsMade hash P nodes (Some first) (state_made k o)) (sym (ap (λ r. r.kind) is ∙ ap role_kind_of update))
      (subst (λ o. IsMade hash P nodes (Some first) (state_made tree.Update o)) (sym h.2) (by h.0 (subst (λ z. Stands r.0 z h.0) (pair_type update) h.1)))
    where
      by : (v : Value) → Stands r.0 (PairTy P.state shape.0) v → Stands first.0 P.state (first_in v)
      by (PairV x y) h = shows P.state shape.0 x y h
      by v h = elim h [ ]

  pub other_made : (o : ideal.Outcome) → (role.kind ≡ kinds.Init) ⊎ (role.kind ≡ kinds.Query) → IsMade hash P nodes None (state_made (role_in P n).kind o)
  other_made o (inl e) = subst (λ k. IsMade hash P nodes None (state_made k o)) (sym (ap (λ r. r.kind) is ∙ ap role_kind_of e)) tt
  other_made o (inr e) = subst (λ k. IsMade hash P nodes None (state_made k o)) (sym (ap (λ r. r.kind) is ∙ ap role_kind_of e)) tt

-- what stands among the first nodes and a call's own
pub made_within : (from : ℕ) (base own : List Node) (made : Option Ref) → from ≤ length base → IfSome made (λ r. r.0 < length (take from base ++ own))
    → IfSome made (λ r. r.0 < from + length own)
made_within from base own None within h = tt
made_within from base own (Some r) within h =
    let all = length-append (take from base) own in
    let first = length-take from base in
    omega (arith, all, first, within, h)

-- a call of a role that has run, with its outcome
module _ (hash : Hash) (code : Code) {A : Type 0} (base : List Node) (run : Running A) (commit : Commit)
    (state : Value) (call : RoleCall) (made : ℕ) (h : IsRunOf hash code base run commit state call made) (outcome : Outcome Ref) (e : run.last ≡ Ok (Some outcome)) where
  abbrev Q : tree.Program
  Q = program_of code

  abbrev f : ℕ
  f = (role_in Q call.role).function

  abbrev vs : Values
  vs = call_values state call.argument

  has_run : HasRun hash code (nodes_of_call base run) run.proving f vs call.fuel × IsIdealOutcome hash code (nodes_of_call base run) f vs call.fuel outcome
  has_run = subst (λ last. StandsAt hash code (nodes_of_call base run) run.proving f vs call.fuel made last) e h.0.stands

  pub run_over : (over : List Node) → over ≡ nodes_of_call base run → HasRun hash code over run.proving f vs call.fuel
  run_over over is = subst (λ nodes. HasRun hash code nodes run.proving f vs call.fuel) (sym is) has_run.0

  pub outcome_over : (over : List Node) → over ≡ nodes_of_call base run
      → IsOutcome (ProverNodes (digest_at hash Q)) Q.types over (function_at Q (role_in Q commit.role.0).function).result outcome (outcome_of Q state call)
  outcome_over over is =
      subst (λ n. IsOutcome (ProverNodes (digest_at hash Q)) Q.types over (function_at Q (role_in Q n).function).result outcome (outcome_of Q state call)) (sym h.1.role)
      (subst (λ nodes. IsOutcome (ProverNodes (digest_at hash Q)) Q.types nodes (function_at Q (role_in Q call.role).function).result outcome (outcome_of Q state call)) (sym is) has_run.1)

  pub made_so : (over behind : List Node) (r : Option Ref) → over ≡ nodes_of_call base run → over ≡ behind
      → ((o : ideal.Outcome) → IsOutcome (ProverNodes (digest_at hash Q)) Q.types over (function_at Q (role_in Q commit.role.0).function).result outcome o
      → IsMade hash Q over r (state_made (role_in Q commit.role.0).kind o))
      → IsMade hash Q behind r (new_state Q call (outcome_of Q state call))
  made_so over behind r is same makes =
      subst (λ nodes. IsMade hash Q nodes r (new_state Q call (outcome_of Q state call))) same
      (subst (λ n. IsMade hash Q over r (state_made (role_in Q n).kind (outcome_of Q state call))) h.1.role
      (makes (outcome_of Q state call) (outcome_over over is)))

-- the frames with a ring of this size
pub tells_so : (hash : Hash) (P : tree.Program) (state : Value) (call : RoleCall) (n size : ℕ) (recent : List (List ℕ)) (bytes : List ℕ) (fresh again : ℕ) (after : Kept) → size ≡ n
    → TellsFrames (frames_of hash P size recent state call) size recent bytes fresh again after
    → (bytes ≡ frame_bytes (frames_of hash P n recent state call)) × (after ≡ kept n (after_frames (frames_of hash P n recent state call) recent))
tells_so hash P state call n size recent bytes fresh again after is h =
    subst (λ m. (bytes ≡ frame_bytes (frames_of hash P m recent state call)) × (after ≡ kept m (after_frames (frames_of hash P m recent state call) recent))) is (h.frames, h.ring)

-- frames with more bytes than a message has for them
pub too_many : (frames : List Frame) → 16777213 < length (frame_bytes frames) → fits_message frames ≡ false
too_many frames h = by (fits_message frames) refl
  where
    by : (b : Bool) → fits_message frames ≡ b → b ≡ false
    by false e = refl
    by true e = let fits = leb-true (3 + length (frame_bytes frames)) message_limit e in absurd (omega (arith, fits, h))
