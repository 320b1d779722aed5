-- Rows for how `draw` ends: the link that was made and the answers on it, the line and the counts by what was judged, and the words. What each word
-- takes, and what it refuses.
use Rattle.std.specs.Prelude.{◌≡◌, ◌⊎◌, ℕ, true, List, [], ◌∷◌, ◌++◌, codes, Option, Some, Ok, Err, refl}
use Rattle.std.specs.List.{concat}
use Rattle.std.specs.Option.{ForSome}
use Rattle.std.proofs.Common.{inl, inr}
use Rattle.sha2.specs.Sha256.{sha256}
use Rattle.code_gen.specs.Programs.{program_in}
use Rattle.command_words.specs.declared.command.Command.TheVariants.{Draw}
use Rattle.core_terms.specs.Projection.{projection}
use Rattle.core_terms.specs.Roles.{argument_type, role_named}
use Rattle.core_terms.specs.Spelling.{spelling}
use Rattle.core_terms.specs.Values.{Value, IsIdeal}
use Rattle.core_terms.specs.declared.outcome.Outcome.{Outcome as Told}
use Rattle.core_terms.specs.declared.byte_string.ByteString.{ByteString as Spelling}
use Rattle.core_terms.specs.declared.program.Program.{Program}
use Rattle.ideal_meaning.specs.Checked.{Verdict, Accepted}
use Rattle.ideal_meaning.specs.Fetched.{Answered, Got, TrueFromOrSplit, answered, asking, fetched, verdict_from}
use Rattle.ideal_meaning.specs.Frames.{offered_pieces}
use Rattle.ideal_meaning.specs.Headline.{call_values}
use Rattle.ideal_meaning.specs.Ideal.{Outcome}
use Rattle.ideal_meaning.specs.Run.{state_of}
use Rattle.lam_outside.specs.Causes.{Rose}
use Rattle.lam_outside.specs.Links.{Linked}
use Rattle.lam_outside.specs.Told.{Contents}
use Rattle.link_ends.specs.MoreLinks.{bytes_on}
use Rattle.piece_fetch.specs.declared.verdict.FetchVerdict.TheVariants as judged
use Rattle.printed_lines.specs.Lines.{link_fault_line}
use Rattle.session_meaning.specs.FetchMessages.{LinkAnswers}
use Rattle.wire_form.specs.MovedBytes.{Moves}
use Rattle.command_parts.specs.Answer.{Drawing, answer_with, with_drawing}
use Rattle.command_parts.specs.AcceptedAnswers.{shallow_told}
use Rattle.command_parts.specs.RoleInputs.{RoleCall, with_fueled_role}
use Rattle.command_parts.specs.AnswerForms.{Answer}
use Rattle.command_parts.specs.RefusedAnswers.{verdict_answer}
use Rattle.command_parts.specs.Arguments.{fuel_of}
use Rattle.command_parts.specs.Ending.{EndsAs}
use Rattle.command_parts.specs.Outsides.{Outside}
use Rattle.command_parts.specs.FetchedCalls.{TellsVerdict}
use Rattle.command_parts.specs.FueledRoles.{FueledRole, NamedProgram}
use Rattle.command_parts.specs.RoleCalls.{is_called, kind_called, program_called, result_called}
use Rattle.command_parts.specs.RolesCalled.{IsCalled}
use Rattle.command_parts.specs.RolesJudged.{call_meant as call_held}
use Rattle.command_parts.specs.FilePrograms.{IsOfTextOrObject}
use Rattle.command_parts.specs.Telling.{TellsText}
use Rattle.command_parts.specs.declared.roles.Callee.TheVariants.{OfState}
use Rattle.command_parts.specs.declared.status.Status.{Status}
use Rattle.command_parts.specs.declared.status.Status.TheVariants.{NoMemory, ReadFault}
use Rattle.net_commands.specs.Asking.{FailsToDial}
use Rattle.net_commands.specs.DrawSteps.{AreGivenOn, EndsOnLink, IsJudgedOn, JudgesAndTells, JudgesOn, TellsAnswer, TellsJudged, TellsLinkFault, TellsNoMemory}
use Rattle.net_commands.specs.Drawing.{BreaksOff, CallsDraw, DrawsTrueOutcomes, EndsDialled, EndsDrawing, IsDialled, IsDraw, IsDrawing, IsDrawnOn, IsJudged, IsOfSources, IsOfWords, LacksMemory, MeansDrawing, drawn_answer, verdict_on}
use Rattle.net_commands.specs.OnlineRuns.{NetSeen}
use Rattle.net_commands.specs.ToldNumbers.{TellsPort}
use Rattle.net_commands.specs.PreparedDrawings.{IsReady, TellsRole, drawing_of, drawn_with, texts_of}
use Rattle.net_commands.specs.declared.drawing.DrawInputs.{DrawInputs}
use Rattle.net_commands.specs.declared.drawing.DrawWords.{DrawWords}
use Rattle.net_commands.specs.declared.drawing.PreparedDrawing.{PreparedDrawing}

-- VERDICTS
module _ (d : Drawing) where
  pub verdict_is : (answers : List Got) → verdict_on d.call answers
      ≡ verdict_from sha256 (program_called d.call.role) (argument_type (program_called d.call.role) d.call.role.role) d.call.role.role d.call.state d.call.argument d.call.role.fuel answers
  verdict_is answers = refl

  pub answer_is : (o : Outcome) → drawn_answer d (Accepted o) ≡ shallow_told d.call.role o
  answer_is o = refl

  pub draws_truth : DrawsTrueOutcomes d.call → let r = d.call.role in let P = program_called r in let t = argument_type P r.role in
      (state argument : Value) → IsIdeal P.types P.state state → IsIdeal P.types t argument
      → d.call.state ≡ spelling (projection sha256 P P.state state) → d.call.argument ≡ spelling (projection sha256 P t argument)
      → (answers : List Got) (o : Outcome) → verdict_on d.call answers ≡ Accepted o
      → TrueFromOrSplit sha256 P r.role (result_called r) (call_values state argument) r.fuel (offered_pieces (answered answers))
      (offered_pieces (state_of (fetched sha256 P r.role (call_values (projection sha256 P P.state state) (projection sha256 P t argument)) r.fuel (asking answers))).more) o
  draws_truth draws = draws

-- LINKS
-- one link more, to the port, and the answers on it
abbrev pub first : Linked
first = record { port = 4711; given = 1 ∷ []; left = 2 ∷ []; sent = []; reads = [] }

pub is_dialled : IsDialled 4711 (Some []) (first ∷ []) first
is_dialled = record { before = []; told = refl; all = refl; at_port = refl }

pub not_dialled : (i : IsDialled 4711 (Some []) [] first) → ⊥
not_dialled i = by i.before i.all
  where
    by : (before : List Linked) → [] ≡ before ++ first ∷ [] → ⊥
    by [] e = cc (e)
    by (link ∷ links) e = cc (e)

pub drawn_on : (answers : List Got) (verdict : Verdict) (links : Option (List Linked)) (after : List Linked) (i : IsDrawnOn 4711 links after answers verdict)
    → IsDialled 4711 links after i.link × Answered sha256 LinkAnswers (record { left = bytes_on i.link; sent = [] }) answers verdict (record { left = i.link.left; sent = i.link.sent })
drawn_on answers verdict links after i = (i.dialled, i.given)

-- ENDS
module _ (d : Drawing) (old new : Outside) (net net' : NetSeen) (status : Status) where
  pub is_judged : (i : IsJudged d old new net net' status) → (verdict_on d.call i.answers ≡ i.verdict) × ForSome net'.links (λ after. IsDrawnOn d.port net.links after i.answers i.verdict)
      × TellsText (drawn_answer d i.verdict).status (concat (drawn_answer d i.verdict).lines) status old.written new.written old.write_faults new.write_faults × (net'.faults ≡ net.faults)
  is_judged i = (i.is, i.drawn, i.told, i.faults)

  pub breaks_off : (b : BreaksOff d old new net net' status) → ForSome net'.links (λ after. (link : Linked) × IsDialled d.port net.links after link)
      × TellsText ReadFault link_fault_line status old.written new.written old.write_faults new.write_faults × Rose net.faults.links net'.faults.links
      × (net'.faults.listens ≡ net.faults.listens) × (net'.faults.accepts ≡ net.faults.accepts) × (net'.faults.dials ≡ net.faults.dials)
  breaks_off b = (b.made, b.told, b.rose, b.listens, b.accepts, b.dials)

  pub lacks_memory : (l : LacksMemory d old new net net' status) → ForSome net'.links (λ after. (link : Linked) × IsDialled d.port net.links after link)
      × TellsText NoMemory (codes "no memory\n") status old.written new.written old.write_faults new.write_faults × (net'.faults ≡ net.faults)
  lacks_memory l = (l.made, l.told, l.faults)

  pub ends_drawing : (e : EndsDrawing d old new net net' status) → (IsJudged d old new net net' status ⊎ (BreaksOff d old new net net' status ⊎ LacksMemory d old new net net' status))
      × (net'.listened ≡ net.listened) × (new.stores ≡ old.stores) × (new.store_faults ≡ old.store_faults) × (new.read_faults ≡ old.read_faults)
  ends_drawing e = (e.went, e.listened, e.stores, e.store_faults, e.reads)

  pub ends_dialled : (FailsToDial old new net net' status → EndsDialled d old new net net' status) × (EndsDrawing d old new net net' status → EndsDialled d old new net net' status)
  ends_dialled = ((λ f. inl f), (λ e. inr e))

  pub is_drawing : (texts : List (List ℕ)) (i : IsDrawing texts old new net net' status) → CallsDraw texts old.contents i.drawing × EndsDialled i.drawing old new net net' status
  is_drawing texts i = (i.calls, i.ends)

  pub is_draw : (texts : List (List ℕ)) → (EndsAs (answer_with Draw texts) old new status → IsDraw texts old new net net status) × (IsDrawing texts old new net net' status → IsDraw texts old new net net' status)
  is_draw texts = ((λ e. inl (e, refl)), (λ i. inr i))

-- WORDS
-- six texts mean what is drawn, and tell its role, its fuel and its port
module _ (program role state argument fuel port : List ℕ) (d : Drawing) where
  pub means_drawing : (files : Contents) → ((go : Drawing → Option Answer) → with_drawing program role state argument fuel port files go ≡ go d)
      → MeansDrawing (program ∷ role ∷ state ∷ argument ∷ fuel ∷ port ∷ []) files d × (MeansDrawing [] files d → ⊥)
  means_drawing files goes = (goes, (λ m. m))

  pub of_words : IsOfWords (program ∷ role ∷ state ∷ argument ∷ fuel ∷ port ∷ []) d
      → (role_named (program_called d.call.role) role ≡ Some d.call.role.role) × (fuel_of fuel ≡ Some d.call.role.fuel) × TellsPort port d.port
  of_words of = of

  pub of_no_words : IsOfWords [] d → ⊥
  of_no_words of = of

pub of_sources : (texts : List (List ℕ)) (d : Drawing) (i : IsOfSources texts d) → IsOfTextOrObject (program_called d.call.role) × (is_called OfState (kind_called d.call.role) ≡ true) × IsOfWords texts d
of_sources texts d i = (i.program, i.called, i.words)

pub calls_draw : (texts : List (List ℕ)) (contents : Option Contents) (d : Drawing) (c : CallsDraw texts contents d)
    → ForSome contents (λ files. MeansDrawing texts files d) × IsOfSources texts d
calls_draw texts contents d c = (c.means, c.of_sources)

-- BEFORE THE LINK
pub texts_are : (words : DrawWords) → texts_of words
    ≡ words.call.program.now ∷ words.call.role.now ∷ words.state.now ∷ words.call.argument.now ∷ words.call.fuel.now ∷ words.port.now ∷ []
texts_are words = refl

pub inputs_are : (p : Program) (inputs : DrawInputs) → drawn_with p inputs ≡ record { call = call_held p inputs.call; port = inputs.port }
inputs_are p inputs = refl

pub held_is : (held : PreparedDrawing) → (drawing_of held ≡ record { call = call_held (program_in held.code) held.call; port = held.port })
    × (IsReady held → IsCalled OfState (program_in held.code) held.call.called)
held_is held = (refl, (λ r. r))

pub tells_role : (p : NamedProgram) (role fuel : List ℕ) (r : FueledRole) → TellsRole p role fuel r → (go : FueledRole → Option Answer) → with_fueled_role OfState p role fuel go ≡ go r
tells_role p role fuel r tells = tells

-- STEPS
module _ (call : RoleCall) (given left sent given' left' sent' : Option (List ℕ)) where
  pub given_on : (answers : List Got) (verdict : Verdict) (rest out : List ℕ) → AreGivenOn answers verdict left sent (Some rest) (Some out)
      → (coming before : List ℕ) × (left ≡ Some coming) × (sent ≡ Some before)
      × Answered sha256 LinkAnswers (record { left = coming; sent = before }) answers verdict (record { left = rest; sent = out })
  given_on answers verdict rest out given = given rest out refl refl

  pub judged_on : (verdict : Verdict) (i : IsJudgedOn call given left sent given' left' sent' verdict) → (verdict_on call i.answers ≡ verdict)
      × AreGivenOn i.answers verdict left sent left' sent' × Moves given left given' left'
  judged_on verdict i = (i.is, i.are_given, i.moves)

  -- nothing is told where the link failed or memory was wanting
  pub judges_on : (told : Told Spelling) → (JudgesOn call given left sent given' left' sent' (Ok told)
      → (verdict : Verdict) × IsJudgedOn call given left sent given' left' sent' verdict × TellsVerdict (program_called call.role) (result_called call.role) verdict (Ok told))
      × JudgesOn call given left sent given' left' sent' (Err judged.FetchFault) × JudgesOn call given left sent given' left' sent' (Err judged.NoMemory)
  judges_on told = ((λ j. j), tt, tt)

  module _ (status : Status) (old new : Option (List ℕ)) (before now : ℕ) where
    pub fault_lines : (TellsLinkFault status old new before now → TellsText ReadFault link_fault_line status old new before now)
        × (TellsNoMemory status old new before now → TellsText NoMemory (codes "no memory\n") status old new before now)
    fault_lines = ((λ t. t), (λ t. t))

    pub answer_told : (verdict : Verdict) → TellsAnswer call verdict status old new before now
        → TellsText (verdict_answer (shallow_told call.role) verdict).status (concat (verdict_answer (shallow_told call.role) verdict).lines) status old new before now
    answer_told verdict told = told

    pub tells_judged : (TellsJudged call (Err judged.FetchFault) status old new before now → TellsLinkFault status old new before now)
        × (TellsJudged call (Err judged.NoMemory) status old new before now → TellsNoMemory status old new before now)
        × ((told : Told Spelling) → TellsJudged call (Ok told) status old new before now → (verdict : Verdict) → TellsVerdict (program_called call.role) (result_called call.role) verdict (Ok told)
        → TellsAnswer call verdict status old new before now ⊎ TellsNoMemory status old new before now)
    tells_judged = ((λ t. t), (λ t. t), (λ told t. t))

    pub judges_and_tells : (faults faults' : ℕ) (j : JudgesAndTells call given left sent given' left' sent' faults faults' status old new before now)
        → IsJudgedOn call given left sent given' left' sent' j.verdict × TellsAnswer call j.verdict status old new before now × (faults' ≡ faults)
    judges_and_tells faults faults' j = (j.on_link, j.told, j.faults_same)

    pub ends_on_link : (faults faults' : ℕ) → EndsOnLink call given left sent given' left' sent' faults faults' status old new before now
        → JudgesAndTells call given left sent given' left' sent' faults faults' status old new before now
        ⊎ ((Rose faults faults' × TellsLinkFault status old new before now) ⊎ ((faults' ≡ faults) × TellsNoMemory status old new before now))
    ends_on_link faults faults' ends = ends
