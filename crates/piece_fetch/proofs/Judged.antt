-- The verdict over the answers that were given.
use Rattle.std.proofs.Common.{◌≡◌, inl, inr, ℕ, List, [], ◌∷◌, ◌++◌, map, Some, Ok, Err, refl, sym, ap, ap₂, ◌∙◌, subst, append-nil}
use Rattle.core_terms.specs.Formats.{Hash, IsHash, IsFormat}
use Rattle.core_terms.specs.Types.{Ty}
use Rattle.core_terms.specs.Terms.{Program, function_at}
use Rattle.core_terms.specs.TypingRules.{IsTyped}
use Rattle.core_terms.specs.Values.{Value, NoV, AndV, IsIdeal}
use Rattle.core_terms.specs.Projection.{projection, read_at}
use Rattle.core_terms.specs.Spelling.{Spells, spelling}
use Rattle.core_terms.specs.Roles.{argument_type}
use Rattle.core_terms.specs.RoleTypes.{IsRole, role_result}
use Rattle.core_terms.specs.declared.outcome.Outcome.{Outcome}
use Rattle.core_terms.specs.declared.outcome.Outcome.TheVariants as told
use Rattle.core_terms.specs.declared.byte_string.ByteString.{ByteString as Spelling}
use Rattle.ideal_meaning.specs.Run.{Run, state_of}
use Rattle.ideal_meaning.specs.Ideal as ideal
use Rattle.ideal_meaning.specs.Frames.{offered_pieces}
use Rattle.ideal_meaning.specs.Checked as checked
use Rattle.ideal_meaning.specs.Fetched.{Got, IsPiece, IsLack, IsBroken, Gave, GaveLast, Answered, answered, asking, ended, fetched, whole_pieces, from_argument, from_state, verdict_from, TrueFromOrSplit}
use Rattle.ideal_meaning.specs.PieceForms.{IsOfWhole}
use Rattle.ideal_meaning.specs.Headline.{call_values}
use Rattle.ideal_meaning.specs.Told.{trap_told}
use Rattle.ideal_meaning.proofs.Fetching.{fetch_headline}
use Rattle.ideal_meaning.proofs.Opening.{ReadsBack}
use Rattle.ideal_meaning.proofs.Projections.{reads_back}
use Rattle.ideal_meaning.proofs.RoleCalls.{parameters_are, result_is}
use Rattle.value_store.specs.Nodes.{AreSound, Node}
use Rattle.value_store.specs.Standing.{StandsFor, VerifierNodes}
use Rattle.value_store.specs.declared.node.Ref.{Ref}
use Rattle.value_store.proofs.StandingNodes.{within_stands}
use Rattle.value_store.proofs.TypedNodes.{shallow_stands}
use Rattle.mode_vm.specs.Openings.{Came, GaveAll}
use Rattle.mode_vm.specs.StateCalls.{TakesState}
use Rattle.ideal_meaning.specs.SpelledOutcomes.{SpellsOutcome}
use Rattle.mode_vm.proofs.StateCalls.{parameters_of}
use Rattle.mode_vm.specs.declared.mode.Stop.{Stop}
use Rattle.mode_vm.specs.declared.mode.Stop.TheVariants as stop
use Rattle.verifier_mode.specs.CallParts.{ArePut, IsReadAs}
use Rattle.verifier_mode.specs.declared.verdict.CallFault.{CallFault}
use Rattle.verifier_mode.specs.declared.verdict.CallFault.TheVariants as call
use Rattle.verifier_mode.specs.Spelled.{IsSpelledAs}
use Rattle.piece_fetch.specs.Answerings.{MayGive, MayStop}
use Rattle.piece_fetch.specs.FetchedRuns.{IsFetched}
use Rattle.piece_fetch.specs.Faults.{fault_cause}
use Rattle.wire_form.specs.Gots.{wire_meant}
use Rattle.piece_fetch.specs.Verdicts.{Accepts, FetchedTrueOrSplit, Judges, VerdictCause, call_verdict, verdict_of}
use Rattle.piece_fetch.specs.declared.fetcher.FetcherFault.{FetcherFault}
use Rattle.piece_fetch.specs.declared.fetcher.FetcherFault.TheVariants as fault

-- the pieces that were taken, each given to its own digest
module _ {U : Type 0} (hash : Hash) (May : U → List ℕ → Got → U → Type 0) where
  pub gave_pieces : (got : List Got) (old new : U) → GaveAll (λ v a w. MayGive hash May v a w) old got new → (bs : List (List ℕ)) × (got ≡ map IsPiece bs) × Gave hash May old bs new
  gave_pieces [] old new h = ([], refl, h)
  gave_pieces (IsPiece b ∷ got) old new h = let r = gave_pieces got h.0 new h.2 in (b ∷ r.0, ap (λ l. IsPiece b ∷ l) r.1, (h.0, h.1, r.2))
  gave_pieces (IsLack ∷ got) old new h = elim h.1 [ ]
  gave_pieces (IsBroken wire ∷ got) old new h = elim h.1 [ ]

-- what stands in a store is within the limits
spelled_stands : (P : Program) (nodes : List Node) → AreSound P.format.limit nodes → (t : Ty) (r : Ref) (v : Value) (bytes : List ℕ) → StandsFor VerifierNodes P.types nodes r.0 t v → bytes ≡ spelling v
    → Spells P.format.limit P.types bytes t v
spelled_stands P nodes sound t r v bytes stands is = record {
  shape = shallow_stands P.types nodes t v r.0 stands;
  within = within_stands VerifierNodes P.types nodes t v r.0 sound stands;
  is = is;
}

-- an outcome of a run, and that no answer is left
module _ (P : Program) (nodes : List Node) (sound : AreSound P.format.limit nodes) (t : Ty) (run : Run checked.Cause checked.Taking Value) where
  abbrev pub Comes : Outcome Spelling → Type 0
  Comes result = (o : ideal.Outcome) × (ended run ≡ checked.Accepted o) × SpellsOutcome P t o result × (offered_pieces (state_of run).more ≡ [])

  pub comes : (o : Outcome Ref) (result : Outcome Spelling) → IsFetched P nodes t run (Ok o) → IsSpelledAs P.types nodes t o result → Comes result
  comes (told.Done r) (told.Done bytes) (v, k, w, taken, stands, is) e = (
    ideal.Done v,
    ap ended is,
    (v, refl, spelled_stands P nodes sound t r v bytes stands (e v stands)),
    ap (λ (r : Run checked.Cause checked.Taking Value). offered_pieces (state_of r).more) is ∙ ap offered_pieces taken,
  )
  comes (told.Trapped trap) (told.Trapped trap') (k, w, taken, is) e = (
    ideal.Trapped (trap_told trap),
    ap ended is,
    ap (λ trap. ideal.Trapped (trap_told trap)) e,
    ap (λ (r : Run checked.Cause checked.Taking Value). offered_pieces (state_of r).more) is ∙ ap offered_pieces taken,
  )
  comes told.Out told.Out (k, w, taken, is) e =
      (ideal.Out, ap ended is, refl, ap (λ (r : Run checked.Cause checked.Taking Value). offered_pieces (state_of r).more) is ∙ ap offered_pieces taken)
  comes (told.Done r) (told.Trapped trap) h e = absurd e
  comes (told.Done r) told.Out h e = absurd e
  comes (told.Trapped trap) (told.Done bytes) h e = absurd e
  comes (told.Trapped trap) told.Out h e = absurd e
  comes told.Out (told.Done bytes) h e = absurd e
  comes told.Out (told.Trapped trap) h e = absurd e

-- a state and an argument that were read
module _ (hash : Hash) (P : Program) (f : ℕ) (state argument : List ℕ) (k : ℕ) (s a : Value) (state_is : IsReadAs P P.state state s) (argument_is : IsReadAs P (argument_type P f) argument a) where
  pub good_call : (answers : List Got) → verdict_from hash P (argument_type P f) f state argument k answers ≡ ended (fetched hash P f (AndV s (AndV a NoV)) k (asking answers))
  good_call answers = ap (λ r. from_state hash P (argument_type P f) r argument f k answers) state_is.1 ∙ ap (λ r. from_argument hash P s r f k answers) argument_is.1

  -- where they spell projections they are these
  pub same_value : (is_hash : IsHash hash) (format : IsFormat P.format) (t : Ty) (bytes : List ℕ) (x v : Value) → IsReadAs P t bytes x → IsIdeal P.types t v → bytes ≡ spelling (projection hash P t v) → projection hash P t v ≡ x
  same_value is_hash format t bytes x v read ideal is = by (reads_back hash is_hash P format t v ideal)
    where
      by : ReadsBack hash P t v → projection hash P t v ≡ x
      by (inl r) = let e = sym r.1.1 ∙ ap (read_at P t) (sym is) ∙ read.1 in cc
      by (inr r) = let e = sym r.1.1 ∙ ap (read_at P t) (sym is) ∙ read.1 in absurd (cc)

  module _ (is_hash : IsHash hash) (format : IsFormat P.format) (typed : IsTyped P) (whole : IsOfWhole hash P) (takes : TakesState P f) (answers : List Got) (o : ideal.Outcome)
      (accepted : verdict_from hash P (argument_type P f) f state argument k answers ≡ checked.Accepted o)
      (none : offered_pieces (state_of (fetched hash P f (AndV s (AndV a NoV)) k (asking answers))).more ≡ []) where
    no_more : (t : Ty) (v x : Value) (more : List (List ℕ)) → t ≡ (function_at P f).result → more ≡ []
        → TrueFromOrSplit hash P f t (call_values v x) k (offered_pieces (answered answers)) more o → FetchedTrueOrSplit hash P f (call_values v x) k (offered_pieces (answered answers)) o
    no_more t v x more r e (inl h) = inl (
      h.0 ∙ ap (λ m. ideal.bytes_of (whole_pieces hash P f (call_values v x) k) ++ m) e ∙ append-nil (ideal.bytes_of (whole_pieces hash P f (call_values v x) k)),
      h.1 ∙ ap (λ t. ideal.outcome_projection hash P t (ideal.outcome (ideal.ideal P f (call_values v x) k))) r,
    )
    no_more t v x more r e (inr h) = inr h

    -- what is accepted is true, or there is a split
    pub says : (v x : Value) → IsIdeal P.types P.state v → IsIdeal P.types (argument_type P f) x → state ≡ spelling (projection hash P P.state v)
        → argument ≡ spelling (projection hash P (argument_type P f) x) → FetchedTrueOrSplit hash P f (call_values v x) k (offered_pieces (answered answers)) o
    says v x ideal_state ideal_argument state_spelled argument_spelled =
        let t = argument_type P f in
        let kind = takes.0 in
        let answer = takes.2 in
        let lists = sym (parameters_are P f kind takes.1 answer takes.3 takes.4) ∙ parameters_of P f takes in
        let t_is : takes.1 ≡ argument_type P f = cc in
        let role : IsRole P f kind (argument_type P f) answer = subst (λ t. IsRole P f kind t answer) t_is takes.3 in
        let shown = ap₂ (λ st ar. verdict_from hash P t f st ar k answers) state_spelled argument_spelled in
        let h = fetch_headline hash is_hash P format typed whole f kind t answer role takes.4 v x ideal_state ideal_argument k answers o (sym shown ∙ accepted) in
        let same_state = same_value is_hash format P.state state s v state_is ideal_state state_spelled in
        let same_argument = same_value is_hash format t argument a x argument_is ideal_argument argument_spelled in
        let left = ap₂ (λ s a. offered_pieces (state_of (fetched hash P f (AndV s (AndV a NoV)) k (asking answers))).more) same_state same_argument ∙ none in
        no_more (role_result kind P.state answer) v x _ (sym (result_is P f kind t answer role)) left h

  -- the run over these answers
  abbrev run_of : List Got → Run checked.Cause checked.Taking Value
  run_of answers = fetched hash P f (AndV s (AndV a NoV)) k (asking answers)

  module _ {U : Type 0} (May : U → List ℕ → Got → U → Type 0) (old new : U) (nodes : List Node) where
    abbrev t : Ty
    t = (function_at P f).result

    pub accepts : IsHash hash → IsFormat P.format → IsTyped P → IsOfWhole hash P → TakesState P f → AreSound P.format.limit nodes → (o : Outcome Ref) (result : Outcome Spelling)
        → Came (λ v a w. MayGive hash May v a w) (λ v a f w. MayStop hash May v a (fault_cause f) w) fault_cause old new (Ok o) (λ got. IsFetched P nodes (function_at P f).result (fetched hash P f (AndV s (AndV a NoV)) k (asking got)) (Ok o))
        → IsSpelledAs P.types nodes (function_at P f).result o result → Accepts hash May P f state argument k old new result
    accepts is_hash format typed whole takes sound o result came e =
        let given = gave_pieces hash May came.0 old new came.1 in
        let r = comes P nodes sound (function_at P f).result (run_of came.0) o result came.2 e in
        let accepted = good_call came.0 ∙ r.1 in
        record {
          answers = came.0;
          outcome = r.0;
          given = (given.0, given.1, given.2);
          is = accepted;
          spelled = r.2;
          says = says is_hash format typed whole takes came.0 r.0 accepted r.3;
        }

    -- of a run that was stopped
    abbrev Stopped : Stop FetcherFault → Type 0
    Stopped s' = Came {R = Outcome Ref} (λ v a w. MayGive hash May v a w) (λ v a f w. MayStop hash May v a (fault_cause f) w) fault_cause old new (Err s')
        (λ got. IsFetched P nodes (function_at P f).result (fetched hash P f (AndV s (AndV a NoV)) k (asking got)) (Err s'))

    rejected : (fault' : FetcherFault) (c : checked.Cause) → fault_cause fault' ≡ Some c → Stopped (stop.Mode fault') → (answers : List Got) × Answered hash May old answers (checked.Rejected c) new
        × (verdict_from hash P (argument_type P f) f state argument k answers ≡ checked.Rejected c)
    rejected fault' c e came =
        let h = came c e in
        let given = gave_pieces hash May h.0 old h.2 h.3 in
        let last : GaveLast hash May h.2 h.1 c new = subst (λ o. MayStop hash May h.2 h.1 o new) e h.4 in
        (h.0 ++ h.1 ∷ [], (given.0, h.1, h.2, ap (λ l. l ++ h.1 ∷ []) given.1, given.2, last), good_call (h.0 ++ h.1 ∷ []) ∙ ap ended (h.5 c e).2)

    pub stopped : (s' : Stop FetcherFault) → Stopped s' → Judges hash May P f state argument k old new (Err (verdict_of s'))
    stopped (stop.Mode (fault.Missing place want)) came =
        let r = rejected (fault.Missing place want) _ refl came in record { answers = r.0; cause = checked.Missing place want.0; given = r.1; is = r.2; tells = refl }
    stopped (stop.Mode (fault.Broken place want wire)) came =
        let r = rejected (fault.Broken place want wire) _ refl came in record { answers = r.0; cause = checked.Broken place want.0 (wire_meant wire); given = r.1; is = r.2; tells = (want.0, refl) }
    stopped (stop.Mode (fault.WrongPiece place want found)) came =
        let r = rejected (fault.WrongPiece place want found) _ refl came in record { answers = r.0; cause = checked.WrongPiece place want.0 found.0; given = r.1; is = r.2; tells = refl }
    stopped (stop.Mode (fault.BadPiece place offset)) came =
        let r = rejected (fault.BadPiece place offset) _ refl came in record { answers = r.0; cause = checked.BadPiece place offset; given = r.1; is = r.2; tells = refl }
    stopped (stop.Mode fault.Failed) came = tt
    stopped stop.NoMemory came = tt

-- a state or an argument that wasn't put
module _ {U : Type 0} (hash : Hash) (May : U → List ℕ → Got → U → Type 0) (P : Program) (f : ℕ) (state argument : List ℕ) (k : ℕ) (old : U) (nodes : List Node) where
  pub not_put : (refusal : CallFault) → ArePut P nodes (argument_type P f) state argument (Err refusal) → Judges hash May P f state argument k old old (Err (call_verdict refusal))
  not_put (call.BadState offset) h = (refl, λ answers. ap (λ r. from_state hash P (argument_type P f) r argument f k answers) h)
  not_put (call.BadArgument offset) (s, e, h) =
      (refl, λ answers. ap (λ r. from_state hash P (argument_type P f) r argument f k answers) e.1 ∙ ap (λ r. from_argument hash P s r f k answers) h)
  not_put call.NoMemory h = tt

pub put_cause : (T : Type 0) (P : Program) (nodes : List Node) (t : Ty) (state argument : List ℕ) (before : ℕ) (refusal : CallFault) → ArePut P nodes t state argument (Err refusal)
    → VerdictCause {T = T} before before (Err (call_verdict refusal))
put_cause T P nodes t state argument before (call.BadState offset) h = refl
put_cause T P nodes t state argument before (call.BadArgument offset) h = refl
put_cause T P nodes t state argument before call.NoMemory h = refl
