-- The relation of calls of a typed program, written or compiled.
use Rattle.std.proofs.Common.{ℕ, List, [], Option, Some, None, refl, sym, subst}
use Rattle.core_terms.specs.Types.{Ty}
use Rattle.core_terms.specs.Formats.{Hash, IsHash, IsFormat}
use Rattle.core_terms.specs.Values.{Value, Values, IsIdeal, AreIdeal, AuthWithinAll}
use Rattle.core_terms.specs.Instructions.{Instruction}
use Rattle.core_terms.specs.Bodies.{code_at}
use Rattle.core_terms.specs.Terms.{Program, function_at, coded, body_of}
use Rattle.core_terms.specs.TypingRules.{IsTyped, IsTypedAs}
use Rattle.core_terms.specs.Projection.{projection, projections, AllFit}
use Rattle.ideal_meaning.specs.Called.{ran, call_as, call_from}
use Rattle.ideal_meaning.specs.Ideal.{Opened, ideal_mode}
use Rattle.ideal_meaning.specs.PieceForms.{PieceForm, as_spelled}
use Rattle.ideal_meaning.specs.Checked.{Taking, Cause, checked_mode, checked_mode_as}
use Rattle.ideal_meaning.specs.Execution.{Coded, Ran, Stuck, call_code_from}
use Rattle.ideal_meaning.specs.CodeTypes.{Goes, IsMode}
use Rattle.ideal_meaning.specs.ModeKinds.{ideal_kind, digest_kind}
use Rattle.ideal_meaning.proofs.InHand.{IsHeld, held_inputs}
use Rattle.ideal_meaning.proofs.Relation.{Agree}
use Rattle.ideal_meaning.proofs.Opening.{IsFormOf, ReadsBackAs, ReadsBack}
use Rattle.ideal_meaning.proofs.Calls.{calls_agree_written, at_start}
use Rattle.ideal_meaning.proofs.Simulated.{Meets, called}
use Rattle.ideal_meaning.proofs.ModeLaws.{ideal_laws, checked_laws, ideals_are, shallows_are, projections_shallow}
use Rattle.ideal_meaning.proofs.Never.{never}
use Rattle.ideal_meaning.proofs.Coded.{coded_found}

module _ (hash : Hash) (is_hash : IsHash hash) (P : Program) (form : PieceForm) (is_form : IsFormOf hash P form) (keeps : IsMode P.types digest_kind (checked_mode_as hash P form))
    (format : IsFormat P.format) (typed : IsTyped P) (reads_back : (t : Ty) (v : Value) → IsIdeal P.types t v → ReadsBackAs hash P form t v) (Deep : Type 0) (began : Taking) where
  both_ran : (t : Ty) (Q R : Value → Type 0) (c : Coded ⊥ (List Opened)) (d : Coded Cause Taking) (functions : _) (k : ℕ) (s : List Opened) (w : Taking) → Goes Q c → Goes R d
      → Meets hash P form is_form format Deep began functions reads_back t c d → Agree hash P form Deep began (IsHeld P Deep t) (projection hash P t) (ran k s c) (ran k w d)
  both_ran t Q R (Ran r) (Ran q) functions k s w g h m = m r q refl refl
  both_ran t Q R (Ran r) Stuck functions k s w g h m = elim h [ ]
  both_ran t Q R Stuck d functions k s w g h m = elim g [ ]

  pub calls_agree_as : (f : ℕ) (args : Values) (k : ℕ) → AreIdeal P.types (function_at P f).parameters args → AllFit P (function_at P f).parameters args
      → (Deep → AuthWithinAll P.format.limit P.types (function_at P f).parameters args)
      → Agree hash P form Deep began (IsHeld P Deep (function_at P f).result) (projection hash P (function_at P f).result)
      (call_from P ideal_mode f args k []) (call_from P (checked_mode_as hash P form) f (projections hash P (function_at P f).parameters args) k began)
  calls_agree_as f args k ideals fits deep = by P.code typed
    where
      AgreeAs : Option (List (List Instruction)) → List Ty → Ty → Type 0
      AgreeAs o ts t =
          Agree hash P form Deep began (IsHeld P Deep t) (projection hash P t) (call_as P o ideal_mode k f args k []) (call_as P o (checked_mode_as hash P form) k f (projections hash P ts args) k began)

      by : (o : Option (List (List Instruction))) → IsTypedAs P o → AgreeAs o (function_at P f).parameters (function_at P f).result
      by None h = calls_agree_written hash P form is_form format h reads_back Deep began k f args k ideals fits deep
      by (Some codes) h =
          let B = body_of P codes in
          let g = code_at B f in
          let found = coded_found P codes h.each f in
          let ideals' = subst (λ ts. AreIdeal P.types ts args) (sym found.0) ideals in
          let fits' = subst (λ ts. AllFit P ts args) (sym found.0) fits in
          let deep' : Deep → AuthWithinAll P.format.limit P.types g.parameters args = λ d. subst (λ ts. AuthWithinAll P.format.limit P.types ts args) (sym found.0) (deep d) in
          subst (λ ts. AgreeAs (Some codes) ts (function_at P f).result) found.0
          (subst (λ t. AgreeAs (Some codes) g.parameters t) found.1
          (both_ran g.result _ _ (call_code_from B ideal_mode f args k []) (call_code_from B (checked_mode_as hash P form) f (projections hash P g.parameters args) k began) (coded P.functions codes) k [] began
          (never ⊥ (List Opened) B ideal_mode (ideal_kind P.types) (ideal_laws P.types) h.accepted k f args k [] (ideals_are P.types g.parameters args ideals'))
          (never Cause Taking B (checked_mode_as hash P form) digest_kind keeps h.accepted k f (projections hash P g.parameters args) k began
          (shallows_are P.types g.parameters _ (projections_shallow hash is_hash P format g.parameters args ideals')))
          (called hash P form is_form format Deep began (coded P.functions codes) reads_back h.accepted k f args k [] began (held_inputs P Deep g.parameters args ideals' fits' deep')
          (at_start hash P form Deep began))))

-- where the pieces are those of a proof
pub calls_agree : (hash : Hash) → IsHash hash → (P : Program) → IsFormat P.format → IsTyped P → ((t : Ty) (v : Value) → IsIdeal P.types t v → ReadsBack hash P t v)
    → (Deep : Type 0) (began : Taking) (f : ℕ) (args : Values) (k : ℕ) → AreIdeal P.types (function_at P f).parameters args → AllFit P (function_at P f).parameters args
    → (Deep → AuthWithinAll P.format.limit P.types (function_at P f).parameters args)
    → Agree hash P (as_spelled hash P) Deep began (IsHeld P Deep (function_at P f).result) (projection hash P (function_at P f).result)
    (call_from P ideal_mode f args k []) (call_from P (checked_mode hash P) f (projections hash P (function_at P f).parameters args) k began)
calls_agree hash is_hash P format typed reads_back Deep began =
    calls_agree_as hash is_hash P (as_spelled hash P) (λ t bytes. refl) (checked_laws hash P) format typed reads_back Deep began
