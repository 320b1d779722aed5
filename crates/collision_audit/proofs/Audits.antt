-- What an audit comes to, by a run of the call and what the proof offers.
use Rattle.std.proofs.Common.{◌≡◌, ℕ, List, map, Option, Some, Result, Ok, Err, sym, ap, ◌∙◌, subst}
use Rattle.core_terms.specs.Formats.{Hash, IsHash, IsFormat}
use Rattle.core_terms.specs.Programs.{meaning}
use Rattle.core_terms.specs.Projection.{digest_at}
use Rattle.core_terms.specs.ProgramTypes.{types_meaning}
use Rattle.core_terms.specs.Roles.{argument_type}
use Rattle.core_terms.specs.RoleTypes.{IsRole, ReadsState}
use Rattle.core_terms.specs.Spelling.{Spells}
use Rattle.core_terms.specs.Terms.{Kind, Program, function_at}
use Rattle.core_terms.specs.TypingRules.{IsTyped}
use Rattle.core_terms.specs.Types.{Ty}
use Rattle.core_terms.specs.Values.{Value, IsIdeal}
use Rattle.core_terms.specs.declared.program.Program.{Program as Coded}
use Rattle.core_terms.specs.declared.program_types.Types.{Types}
use Rattle.core_terms.specs.declared.outcome.Outcome as code_outcome
use Rattle.core_terms.specs.declared.outcome.Outcome.TheVariants as told
use Rattle.core_terms.specs.declared.byte_string.ByteString.{ByteString as Spelling}
use Rattle.ideal_meaning.specs.Checked.{Accepted, Rejected}
use Rattle.ideal_meaning.specs.Frames.{header}
use Rattle.ideal_meaning.specs.Headline.{call_values}
use Rattle.ideal_meaning.specs.Ideal as ideal
use Rattle.ideal_meaning.specs.Ideal.{Outcome, honest_pieces, outcome, outcome_projection}
use Rattle.ideal_meaning.specs.Run.{state_of}
use Rattle.ideal_meaning.specs.Told.{cause_told}
use Rattle.ideal_meaning.proofs.RoleCalls.{result_is}
use Rattle.value_store.specs.Nodes.{AreSound, Node}
use Rattle.value_store.specs.Standing.{ProverNodes}
use Rattle.value_store.specs.declared.node.Ref.{Ref}
use Rattle.prover_mode.specs.Seen.{AreSeen}
use Rattle.prover_mode.specs.declared.opened.Opened.{Opened}
use Rattle.mode_vm.specs.IdealRuns.{IsOutcome}
use Rattle.mode_vm.specs.StateCalls.{IsCalledOn, TakesState}
use Rattle.ideal_meaning.specs.SpelledOutcomes.{SpellsOutcome}
use Rattle.mode_vm.proofs.StateCalls.{argument_fits, argument_ideal, argument_is, is_format, is_typed, state_deep, state_fits, state_ideal}
use Rattle.collision_audit.specs.Audits.{Audit, audit_of, verdict_on_projections}
use Rattle.collision_audit.specs.Splits.{offered_in, rest_behind, split_of}
use Rattle.collision_audit.proofs.AuditHeadline.{agreement_is_true, collides, judges}
use Rattle.collision_audit.proofs.FirstSplits.{no_split_is_found, split_is_found}
use Rattle.collision_audit.specs.AuditsInCode.{TellsAudit, split_told, AuditsTruly}
use Rattle.collision_audit.specs.Comparing.{ComparesAll, TellsDifference}
use Rattle.collision_audit.specs.PieceAudits.{audit_file, outcome_seen, run_audit}
use Rattle.collision_audit.specs.declared.audited.AuditFault.{AuditFault}
use Rattle.collision_audit.specs.declared.audited.Audited.{Audited}
use Rattle.collision_audit.specs.declared.audited.Audited.TheVariants as audited
use Rattle.collision_audit.proofs.ByPieces.{audit_is_by_pieces}

-- an answer that shows a difference tells the audit
pub tells_difference : (P : Program) (f : ℕ) (audit : Audit) (answer : Audited) → TellsDifference audit answer → TellsAudit P f audit (Ok answer)
tells_difference P f audit (audited.Agrees told) h = elim h [ ]
tells_difference P f audit (audited.Collision c) h = h
tells_difference P f audit (audited.Rejected cause) h = h

-- The answer of an audit says what is true.
module _ (hash : Hash) (is_hash : IsHash hash) (P : Program) (format : IsFormat P.format) (typed : IsTyped P) (f : ℕ) (kind : Kind) (t answer : Ty) (role : IsRole P f kind t answer)
    (reads : ReadsState kind)
    (state argument : Value) (state_ideal : IsIdeal P.types P.state state) (argument_ideal : IsIdeal P.types t argument) (k : ℕ) (proof : List ℕ) where
  pub audits_truly : (result : Result Audited AuditFault) → TellsAudit P f (audit_of hash P t f state argument k proof) result → AuditsTruly hash P f state argument k proof result
  audits_truly (Ok (audited.Agrees told)) (o, agreed, spelled) =
      let is_true = agreement_is_true hash is_hash P format typed f kind t answer role reads state argument state_ideal argument_ideal k proof o agreed in
      let none = judges (split_of hash P f state argument k proof) (verdict_on_projections hash P t f state argument k proof) (Accepted o) agreed in
      let here : o ≡ outcome_seen hash P f state argument k = is_true.1 ∙ ap (λ r. outcome_projection hash P r (outcome (ideal.ideal P f (call_values state argument) k))) (sym (result_is P f kind t answer role)) in (
        subst (λ (o : Outcome). SpellsOutcome P (function_at P f).result o told) here spelled,
        is_true.0,
        (no_split_is_found hash P.format (offered_in P.format proof) (honest_pieces hash P f (call_values state argument) k)).0 none.0,
      )
  audits_truly (Ok (audited.Collision c)) told =
      let split = collides (split_of hash P f state argument k proof) (verdict_on_projections hash P t f state argument k proof) (split_told c) told in
      (split_is_found hash P.format (offered_in P.format proof) (honest_pieces hash P f (call_values state argument) k) (split_told c)).0 split
  audits_truly (Ok (audited.Rejected cause)) told =
      let none = judges (split_of hash P f state argument k proof) (verdict_on_projections hash P t f state argument k proof) (Rejected (cause_told cause)) told in
      (no_split_is_found hash P.format (offered_in P.format proof) (honest_pieces hash P f (call_values state argument) k)).0 none.0
  audits_truly (Err e) told = tt

-- a call of the code
module _ (hash : Hash) (is_hash : IsHash hash) (p : Coded) (f : ℕ) (takes : TakesState (meaning p) f) (nodes : List Node) (sound : AreSound (meaning p).format.limit nodes) (state argument : Ref) (s a : Value)
    (call : IsCalledOn hash (meaning p) f nodes state argument s a) (k : ℕ) (bytes : List ℕ) where
  abbrev P : Program
  P = meaning p

  abbrev t : Ty
  t = takes.1

  abbrev Run_audit : Audit
  Run_audit = run_audit hash P f (outcome (ideal.ideal P f (call_values s a) k)) (state_of (ideal.ideal P f (call_values s a) k)) bytes

  s_ideal : IsIdeal P.types P.state s
  s_ideal = state_ideal P f takes hash nodes state argument s a call

  a_ideal : IsIdeal P.types t a
  a_ideal = argument_ideal P f takes hash nodes state argument s a call

  by_run : audit_of hash P t f s a k bytes ≡ Run_audit
  by_run =
      audit_is_by_pieces hash is_hash P (is_format p) (is_typed p) f takes.0 t takes.2 takes.3 takes.4 s a s_ideal a_ideal
      (state_fits hash p f takes nodes sound state argument s a call) (argument_fits hash p f takes nodes sound state argument s a call)
      (state_deep hash p f takes nodes sound state argument s a call) k bytes

  -- what tells the audit by the run, tells the audit
  pub tells : (result : Result Audited AuditFault) → TellsAudit P f Run_audit result → TellsAudit P f (audit_of hash P (argument_type P f) f s a k bytes) result
  tells result h =
      subst (λ t. TellsAudit P f (audit_of hash P t f s a k bytes) result) (sym (argument_is P f takes)) (subst (λ audit. TellsAudit P f audit result) (sym by_run) h)

  pub truly : (result : Result Audited AuditFault) → TellsAudit P f Run_audit result → AuditsTruly hash P f s a k bytes result
  truly result h =
      audits_truly hash is_hash P (is_format p) (is_typed p) f takes.0 t takes.2 takes.3 takes.4 s a s_ideal a_ideal k bytes result
      (subst (λ audit. TellsAudit P f audit result) (sym by_run) h)

-- a value is spelled alike by programs with the same types
pub spells_too : (P Q : Program) (t : Ty) (o : Outcome) (result : code_outcome.Outcome Spelling) → P.types ≡ Q.types → P.format.limit ≡ Q.format.limit → SpellsOutcome P t o result → SpellsOutcome Q t o result
spells_too P Q t o (told.Done bytes) same limit (v, is, spells) = (v, is, subst (λ n. Spells n Q.types bytes t v) limit (subst (λ types. Spells P.format.limit types bytes t v) same spells))
spells_too P Q t o (told.Trapped trap) same limit h = h
spells_too P Q t o told.Out same limit h = h

-- what comparing a file comes to, by the types of a program
module _ (hash : Hash) (nodes : List Node) (left left' : Option (List ℕ)) (result : Result (Option Audited) AuditFault) where
  abbrev pub FileTold : Types → List Opened → Type 0
  FileTold types opened =
      let P = types_meaning types in
      (seen : List ideal.Opened) → AreSeen hash types nodes opened seen → (bytes : List ℕ) → left ≡ Some bytes
      → ComparesAll (λ o. audit_file hash P.format o (map (ideal.honest_piece hash P) seen) (header P.format bytes) bytes) (rest_behind P.format bytes) left' result

  pub file_told : (types types' : Types) (opened opened' : List Opened) → types ≡ types' → opened ≡ opened' → FileTold types opened → FileTold types' opened'
  file_told types types' opened opened' same is h = subst (λ opened. FileTold types' opened) is (subst (λ types. FileTold types opened) same h)

-- the outcome that is told with a spelling, by the types of a program and the type of its result
module _ (hash : Hash) (nodes : List Node) (outcome : code_outcome.Outcome Ref) (result : code_outcome.Outcome Spelling) where
  abbrev pub OutcomeTold : Types → Ty → Type 0
  OutcomeTold types t = let P = types_meaning types in (o : Outcome) → IsOutcome (ProverNodes (digest_at hash P)) P.types nodes t outcome o → SpellsOutcome P t (outcome_projection hash P t o) result

  pub outcome_told : (types types' : Types) (t t' : Ty) → types ≡ types' → t ≡ t' → OutcomeTold types t → OutcomeTold types' t'
  outcome_told types types' t t' same is h = subst (λ t. OutcomeTold types' t) is (subst (λ types. OutcomeTold types t) same h)
