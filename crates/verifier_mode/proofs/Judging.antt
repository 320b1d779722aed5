-- The verdict on a call: from its run and what is left behind it, and from what is read before the run.
use Rattle.std.proofs.Common.{◌≡◌, ◌≢◌, ℕ, zero, suc, min, List, [], ◌∷◌, length, drop, Option, Some, Ok, Err, refl, sym, ap, ap₂, ◌∙◌, arith}
use Rattle.core_terms.specs.Formats.{Hash}
use Rattle.core_terms.specs.Types.{Ty}
use Rattle.core_terms.specs.Terms.{Program}
use Rattle.core_terms.specs.Values.{Value, NoV, AndV}
use Rattle.core_terms.specs.Projection.{read_at}
use Rattle.core_terms.specs.Spelling.{Spells, spelling}
use Rattle.core_terms.specs.Roles.{argument_type}
use Rattle.core_terms.specs.declared.outcome.Outcome.{Outcome}
use Rattle.core_terms.specs.declared.outcome.Outcome.TheVariants as told
use Rattle.core_terms.specs.declared.byte_string.ByteString.{ByteString as Spelling}
use Rattle.ideal_meaning.specs.Run.{Run}
use Rattle.ideal_meaning.specs.Ideal as ideal
use Rattle.ideal_meaning.specs.Frames.{header}
use Rattle.ideal_meaning.specs.Following.{after_bytes}
use Rattle.ideal_meaning.specs.Checked as checked
use Rattle.ideal_meaning.specs.Told.{cause_told, trap_told}
use Rattle.value_store.specs.Nodes.{AreSound, Node}
use Rattle.value_store.specs.Standing.{StandsFor, VerifierNodes}
use Rattle.value_store.specs.declared.node.Ref.{Ref}
use Rattle.value_store.proofs.StandingNodes.{within_stands}
use Rattle.value_store.proofs.TypedNodes.{shallow_stands}
use Rattle.ideal_meaning.specs.SpelledOutcomes.{SpellsOutcome}
use Rattle.mode_vm.specs.declared.mode.Stop.{Stop}
use Rattle.mode_vm.specs.declared.mode.Stop.TheVariants as stop
use Rattle.proof_stream.specs.TakenFrames.{CountsLeft}
use Rattle.reuse_buffer.specs.Kept.{Kept, kept}
use Rattle.verifier_mode.specs.declared.verifier.VerifierFault.{VerifierFault}
use Rattle.verifier_mode.specs.declared.verifier.VerifierFault.TheVariants as fault
use Rattle.verifier_mode.specs.declared.verdict.Verdict.TheVariants.{Rejected}
use Rattle.verifier_mode.specs.declared.verdict.CallFault.{CallFault}
use Rattle.verifier_mode.specs.declared.verdict.CallFault.TheVariants.{BadState, BadArgument, NoMemory}
use Rattle.verifier_mode.specs.CallParts.{ArePut, IsReadAs}
use Rattle.verifier_mode.specs.CheckedRuns.{CameTo, IsChecked, IsLeft}
use Rattle.verifier_mode.specs.Spelled.{IsSpelledAs, OutcomeStands}
use Rattle.verifier_mode.specs.Takings.{HasCome}
use Rattle.verifier_mode.specs.Verdicts.{AnswersVerdict, AnswersWithRing, TellsSomeOutcome, Tells, VerdictCause, call_verdict, verdict_of}
use Rattle.verifier_mode.proofs.Pieces.{some_same}

-- a run that was stopped
pub stopped : (P : Program) (nodes : List Node) (t z : Ty) (n : ℕ) (left : Option (List ℕ)) (all : List (List ℕ)) (run : Run checked.Cause checked.Taking Value) (s : Stop VerifierFault)
    → IsChecked P nodes t n left all run (Err s) → Tells P z (checked.judged run) (Err (verdict_of s))
stopped P nodes t z n left all run (stop.Mode (fault.Rejected cause)) h = let a = h (cause_told cause) refl in ap checked.judged a.2
stopped P nodes t z n left all run (stop.Mode fault.ReadFault) h = tt
stopped P nodes t z n left all run stop.NoMemory h = tt

-- an outcome, where no byte is left
no_byte : (bytes : List ℕ) → 0 ≡ min (length bytes) 65536 → bytes ≡ []
no_byte [] e = refl
no_byte (b ∷ bytes) e = absurd (omega (arith, e))

pub all_taken : (bytes : List ℕ) (left : Option (List ℕ)) (n : ℕ) → n ≡ 0 → CountsLeft bytes left (Ok n) → (bytes ≡ []) × (left ≡ Some [])
all_taken bytes left n zero_is counts =
    let none = no_byte bytes (sym zero_is ∙ counts.0) in
    (none, counts.1 ∙ ap (λ n. Some (drop n bytes)) zero_is ∙ ap Some none)

-- what stands in a store is within the limits
spelled_stands : (P : Program) (nodes : List Node) → AreSound P.format.limit nodes → (t : Ty) (r : Ref) (v : Value) (bytes : List ℕ) → StandsFor VerifierNodes P.types nodes r.0 t v → bytes ≡ spelling v → Spells P.format.limit P.types bytes t v
spelled_stands P nodes sound t r v bytes stands is = record {
  shape = shallow_stands P.types nodes t v r.0 stands;
  within = within_stands VerifierNodes P.types nodes t v r.0 sound stands;
  is = is;
}

-- an outcome that stands there is told by its spelling
pub told_as : (P : Program) (nodes : List Node) → AreSound P.format.limit nodes → (t : Ty) (o : Outcome Ref) (result : Outcome Spelling) → OutcomeStands P nodes t o → IsSpelledAs P.types nodes t o result → TellsSomeOutcome P t result
told_as P nodes sound t (told.Done r) (told.Done bytes) (v, stands) e = (ideal.Done v, (v, refl, spelled_stands P nodes sound t r v bytes stands (e v stands)))
told_as P nodes sound t (told.Trapped trap) (told.Trapped trap') h e = (ideal.Trapped (trap_told trap'), refl)
told_as P nodes sound t told.Out told.Out h e = (ideal.Out, refl)
told_as P nodes sound t (told.Done r) (told.Trapped trap) h e = absurd e
told_as P nodes sound t (told.Done r) told.Out h e = absurd e
told_as P nodes sound t (told.Trapped trap) (told.Done bytes) h e = absurd e
told_as P nodes sound t (told.Trapped trap) told.Out h e = absurd e
told_as P nodes sound t told.Out (told.Done bytes) h e = absurd e
told_as P nodes sound t told.Out (told.Trapped trap) h e = absurd e

module _ (P : Program) (nodes : List Node) (sound : AreSound P.format.limit nodes) (t : Ty) (left : Option (List ℕ)) (run : Run checked.Cause checked.Taking Value) (bytes : List ℕ) (is_told : left ≡ Some bytes) where
  is_left : (w : checked.Taking) → IsLeft left w → w.left ≡ length bytes
  is_left w h = h.2 ∙ ap length (some_same h.0 bytes (sym h.1 ∙ is_told))

  -- the rest of a run by its outcome
  abbrev pub Rests : (o : Outcome Ref) → Type 0
  Rests o = (outcome : ideal.Outcome) × (checked.judged run ≡ checked.with_rest outcome (length bytes))
      × ((result : Outcome Spelling) → IsSpelledAs P.types nodes t o result → SpellsOutcome P t outcome result)

  rests : (o : Outcome Ref) → CameTo P nodes t left run o → Rests o
  rests (told.Done r) (v, k, w, h, stands, is) = (ideal.Done v, ap checked.judged is ∙ ap (checked.with_rest (ideal.Done v)) (is_left w h), spells)
    where
      spells : (result : Outcome Spelling) → IsSpelledAs P.types nodes t (told.Done r) result → SpellsOutcome P t (ideal.Done v) result
      spells (told.Done bytes) e = (v, refl, spelled_stands P nodes sound t r v bytes stands (e v stands))
      spells (told.Trapped trap) e = absurd e
      spells told.Out e = absurd e
  rests (told.Trapped trap) (k, w, h, is) = (ideal.Trapped (trap_told trap), ap checked.judged is ∙ ap (checked.with_rest (ideal.Trapped (trap_told trap))) (is_left w h), spells)
    where
      spells : (result : Outcome Spelling) → IsSpelledAs P.types nodes t (told.Trapped trap) result → SpellsOutcome P t (ideal.Trapped (trap_told trap)) result
      spells (told.Trapped trap') e = ap (λ trap. ideal.Trapped (trap_told trap)) e
      spells (told.Done bytes) e = absurd e
      spells told.Out e = absurd e
  rests told.Out (k, w, h, is) = (ideal.Out, ap checked.judged is ∙ ap (checked.with_rest ideal.Out) (is_left w h), spells)
    where
      spells : (result : Outcome Spelling) → IsSpelledAs P.types nodes t told.Out result → SpellsOutcome P t ideal.Out result
      spells told.Out e = refl
      spells (told.Done bytes) e = absurd e
      spells (told.Trapped trap) e = absurd e

  pub answered : (o : Outcome Ref) (result : Outcome Spelling) → CameTo P nodes t left run o → bytes ≡ [] → IsSpelledAs P.types nodes t o result
      → Tells P t (checked.judged run) (Ok result)
  answered o result came none e =
      let r = rests o came in
      (r.0, r.1 ∙ ap (λ bytes. checked.with_rest r.0 (length bytes)) none, r.2 result e)

  over : (o : ideal.Outcome) (m n : ℕ) → n ≡ min m 65536 → n ≢ 0 → checked.with_rest o m ≡ checked.Rejected (checked.Leftover n)
  over o zero n e some = absurd (some e)
  over o (suc m) n e some = ap (λ n. checked.Rejected (checked.Leftover n)) (sym e)

  -- an outcome, where bytes are left
  pub left_over : (o : Outcome Ref) (after : Option (List ℕ)) (n : ℕ) → CameTo P nodes t left run o → CountsLeft bytes after (Ok n) → n ≢ 0
      → checked.judged run ≡ checked.Rejected (checked.Leftover n)
  left_over o after n came counts some = let r = rests o came in r.1 ∙ over r.0 (length bytes) n counts.0 some

-- the ring, where no byte is left
pub all_kept : (limit n : ℕ) (ring : Kept) (left : Option (List ℕ)) (all : List (List ℕ)) → ring.size ≡ n → (come : HasCome limit ring left all) → come.bytes ≡ [] → ring ≡ kept n all
all_kept limit n ring left all size come none =
    let whole : come.recent ≡ all = ap (λ bytes. after_bytes limit bytes ring.size come.recent) (sym none) ∙ come.same in
    come.holds ∙ ap₂ kept size whole

-- what is read before the run
module _ (hash : Hash) (P : Program) (f : ℕ) (state argument : List ℕ) (k : ℕ) where
  abbrev pub ty : Ty
  ty = argument_type P f

  module _ (bytes : List ℕ) (n : ℕ) (recent : List (List ℕ)) where
    -- of frames alone
    abbrev pub on_frames : checked.Verdict
    on_frames = checked.verdict_on hash P ty f state argument k bytes n recent

    on_good_state : (s : Value) → IsReadAs P P.state state s → on_frames ≡ checked.on_argument hash P s (read_at P ty argument) f k bytes n recent
    on_good_state s e = ap (λ r. checked.on_state hash P ty r argument f k bytes n recent) e.1

    pub on_good_call : (s a : Value) → IsReadAs P P.state state s → IsReadAs P ty argument a
        → on_frames ≡ checked.judge hash P f (AndV s (AndV a NoV)) k bytes n recent
    on_good_call s a e e' = on_good_state s e ∙ ap (λ r. checked.on_argument hash P s r f k bytes n recent) e'.1

    pub refused_on : (nodes : List Node) (refusal : CallFault) → ArePut P nodes ty state argument (Err refusal) → AnswersWithRing P f on_frames (Err (call_verdict refusal))
    refused_on nodes (BadState offset) h = ap (λ r. checked.on_state hash P ty r argument f k bytes n recent) h
    refused_on nodes (BadArgument offset) (s, e, h) = on_good_state s e ∙ ap (λ r. checked.on_argument hash P s r f k bytes n recent) h
    refused_on nodes NoMemory h = tt

  module _ (bytes : List ℕ) where
    -- of a file
    abbrev pub on_file : checked.Verdict
    on_file = checked.verdict hash P ty f state argument k bytes

    good_state : (s : Value) → IsReadAs P P.state state s → on_file ≡ checked.with_argument hash P s (read_at P ty argument) f k bytes
    good_state s e = ap (λ r. checked.with_state hash P ty r argument f k bytes) e.1

    pub good_call : (s a : Value) → IsReadAs P P.state state s → IsReadAs P ty argument a → (found : Option ℕ) → header P.format bytes ≡ found
        → on_file ≡ checked.with_header hash P found f (AndV s (AndV a NoV)) k bytes
    good_call s a e e' found is =
        good_state s e ∙ ap (λ r. checked.with_argument hash P s r f k bytes) e'.1 ∙ ap (λ found. checked.with_header hash P found f (AndV s (AndV a NoV)) k bytes) is

    pub refused : (nodes : List Node) (refusal : CallFault) → ArePut P nodes ty state argument (Err refusal) → AnswersVerdict P f on_file (Err (call_verdict refusal))
    refused nodes (BadState offset) h = ap (λ r. checked.with_state hash P ty r argument f k bytes) h
    refused nodes (BadArgument offset) (s, e, h) = good_state s e ∙ ap (λ r. checked.with_argument hash P s r f k bytes) h
    refused nodes NoMemory h = tt

pub put_cause : (T : Type 0) (P : Program) (nodes : List Node) (t : Ty) (state argument : List ℕ) (before : ℕ) (refusal : CallFault) → ArePut P nodes t state argument (Err refusal)
    → VerdictCause {T = T} before before (Err (call_verdict refusal))
put_cause T P nodes t state argument before (BadState offset) h = refl
put_cause T P nodes t state argument before (BadArgument offset) h = refl
put_cause T P nodes t state argument before NoMemory h = refl
