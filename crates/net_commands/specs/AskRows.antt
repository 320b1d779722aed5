-- Rows for how `ask` ends: the counts, the status and the lines by the end of its play, and what is stored. What each word takes, and what it refuses.
use Rattle.std.specs.Prelude.{◌≡◌, ◌⊎◌, ◌≤◌, ℕ, List, [], ◌∷◌, ◌++◌, map, codes, Option, Some, None, Ok, Err, IfErr, refl, unwrap_or}
use Rattle.std.specs.List.{AllByRecursion}
use Rattle.std.specs.Option.{ForSome}
use Rattle.std.proofs.Common.{arith, inl, inr}
use Rattle.sha2.specs.Sha256.{sha256}
use Rattle.ask_script.specs.Scripts.{Steps, script_of}
use Rattle.command_words.specs.declared.command.Command.TheVariants.{Ask}
use Rattle.lam_outside.specs.Causes.{Rose}
use Rattle.lam_outside.specs.Links.{Linked}
use Rattle.lam_outside.specs.Told.{Contents, Stores}
use Rattle.printed_lines.specs.Lines.{link_fault_line}
use Rattle.script_play.specs.Halting.{BreaksAt}
use Rattle.script_play.specs.HaltingInCode.{BreaksOn}
use Rattle.script_play.specs.PlayRuns.{TellsTruth}
use Rattle.script_play.specs.Playing.{PlaysAs, world}
use Rattle.script_play.specs.Prompt.{IsPromptOn}
use Rattle.script_play.specs.declared.play_stop.PlayStop.TheVariants as play_stop
use Rattle.session_meaning.specs.Messages.{Messages, Reply, messages, reply_of}
use Rattle.command_parts.specs.Answer.{Asking, answer_with, with_asking}
use Rattle.command_parts.specs.AnswerForms.{Answer}
use Rattle.command_parts.specs.Ending.{EndsAs}
use Rattle.command_parts.specs.Outsides.{Outside}
use Rattle.command_parts.specs.FilePrograms.{IsOfTextOrObject}
use Rattle.command_parts.specs.Telling.{TellsText}
use Rattle.net_commands.specs.AskSteps.{IsHaltedFrom, IsPlayedFrom, PlayLinks, PlaysAndStores}
use Rattle.net_commands.specs.Asking.{CallsAsk, EndsAsking, EndsPlay, FailsToDial, IsAsk, IsAsking, IsEndTold, IsOfScript, IsOfSources, IsOfWords, IsPlayedOn, IsStateStored, MeansAsking, PlayEnd, PlayFaults, PlayWrites, TellsTrueOutcomes, asked_play, play_status}
use Rattle.net_commands.specs.NetCounts.{DialCounts, CountsBy}
use Rattle.net_commands.specs.CourseRows.{faults, rose}
use Rattle.net_commands.specs.OnlineRuns.{NetSeen}
use Rattle.net_commands.specs.ToldNumbers.{TellsPort}
use Rattle.command_parts.specs.declared.status.Status.{Status}
use Rattle.command_parts.specs.declared.status.Status.TheVariants.{Done, Rejected, ReadFault, WriteFault, NoMemory}
use Rattle.link_ends.specs.MoreLinks.{bytes_on}

-- BY THE END OF A PLAY
abbrev pub played : PlayEnd
played = Ok tt

pub statuses : map play_status (played ∷ Err play_stop.Ended ∷ Err play_stop.LinkFault ∷ Err play_stop.WriteFault ∷ Err play_stop.NoMemory ∷ []) ≡ Done ∷ Rejected ∷ ReadFault ∷ WriteFault ∷ NoMemory ∷ []
statuses = refl

-- each count rose at its own fault alone
pub link_faults : PlayFaults (Err play_stop.LinkFault) (faults 3 3 3 3) (faults 4 3 3 3) × PlayFaults played (faults 3 3 3 3) (faults 3 3 3 3) × PlayFaults (Err play_stop.Ended) (faults 3 3 3 3) (faults 3 3 3 3)
    × PlayFaults (Err play_stop.WriteFault) (faults 3 3 3 3) (faults 3 3 3 3) × PlayFaults (Err play_stop.NoMemory) (faults 3 3 3 3) (faults 3 3 3 3)
link_faults = ((rose, refl, refl, refl), refl, refl, refl, refl)

pub write_faults : PlayWrites (Err play_stop.WriteFault) 3 4 × PlayWrites played 3 3 × PlayWrites (Err play_stop.Ended) 3 3 × PlayWrites (Err play_stop.LinkFault) 3 3 × PlayWrites (Err play_stop.NoMemory) 3 3
write_faults = (rose, refl, refl, refl, refl)

pub of_the_link : PlayLinks (Err play_stop.LinkFault) 3 4 × PlayLinks played 3 3 × PlayLinks (Err play_stop.WriteFault) 3 3
of_the_link = (rose, refl, refl)

-- a link fault and the want of memory have a line, and all else the status alone
pub ends_told : IsEndTold (Err play_stop.LinkFault) ReadFault (Some []) (Some link_fault_line) 3 3 × IsEndTold (Err play_stop.NoMemory) NoMemory (Some []) (Some (codes "no memory\n")) 3 3
    × IsEndTold played Done (Some []) (Some []) 3 3 × IsEndTold (Err play_stop.Ended) Rejected (Some []) (Some []) 3 3 × IsEndTold (Err play_stop.WriteFault) WriteFault (Some []) (Some []) 3 3
ends_told = (inl (refl, refl, refl), inl (refl, refl, refl), (refl, refl, refl), (refl, refl, refl), (refl, refl, refl))

-- STORING
pub state_is_stored : IsStateStored (7 ∷ []) (8 ∷ []) Done Done (Some []) (Some ((7 ∷ [], 8 ∷ []) ∷ [])) 3 3 × IsStateStored (7 ∷ []) (8 ∷ []) Done WriteFault (Some []) (Some ((7 ∷ [], 8 ∷ []) ∷ [])) 3 4
state_is_stored = (record { handed = refl; ended_so = inl (refl, refl) }, record { handed = refl; ended_so = inr (refl, rose) })

done_is_no_fault : WriteFault ≡ Done → ⊥
done_is_no_fault e = cc (e)

pub no_fault_is_told : (stores stores' : Option Stores) → IsStateStored (7 ∷ []) (8 ∷ []) Done WriteFault stores stores' 3 3 → ⊥
no_fault_is_told stores stores' is = by is.ended_so
  where
    by : ((WriteFault ≡ Done) × (◌≡◌ {A = ℕ} 3 3)) ⊎ ((WriteFault ≡ WriteFault) × Rose 3 3) → ⊥
    by (inl e) = done_is_no_fault e.0
    by (inr r) = let k : 4 ≤ 3 = r.1 in omega (arith, k)

-- WORDS
-- five texts mean what is asked, and its port is that of the words
pub means_asking : (program state port script out : List ℕ) (files : Contents) (a : Asking) → ((go : Asking → Option Answer) → with_asking program state port script files go ≡ go a)
    → MeansAsking (program ∷ state ∷ port ∷ script ∷ out ∷ []) files a out × (MeansAsking [] files a out → ⊥)
means_asking program state port script out files a goes = ((refl, goes), (λ m. m))

pub of_words : (program state port script out : List ℕ) (a : Asking) → TellsPort port a.port → IsOfWords (program ∷ state ∷ port ∷ script ∷ out ∷ []) a out × (IsOfWords [] a out → ⊥)
of_words program state port script out a tells = ((refl, tells), (λ m. m))

pub of_script : (a : Asking) (text : List ℕ) → script_of a.program.digested.program a.program.names text ≡ Steps a.steps → IsOfScript a.program a.steps
of_script a text is = (text, is)

pub of_sources : (a : Asking) (i : IsOfSources a) → IsOfTextOrObject a.program.digested.program × IsOfScript a.program a.steps
of_sources a i = (i.program, i.script)

pub calls_ask : (texts : List (List ℕ)) (contents : Option Contents) (a : Asking) (name : List ℕ) (c : CallsAsk texts contents a name)
    → ForSome contents (λ files. MeansAsking texts files a name) × IsOfSources a
calls_ask texts contents a name c = (c.means, c.of_sources)

-- PLAYS
pub tells_truth : (a : Asking) → TellsTrueOutcomes a
    → (ms : Messages Reply) → let told = asked_play a ms in TellsTruth sha256 a.program.digested.program a.program.digested.digest ms told.coming told.deeds
tells_truth a tells = tells

module _ (a : Asking) (end : PlayEnd) where
  pub played_on : (links : Option (List Linked)) (after : List Linked) (written written' last : Option (List ℕ)) (p : IsPlayedOn a end links after written written' last)
      → (links ≡ Some p.before) × (after ≡ p.before ++ p.link ∷ []) × (p.link.port ≡ a.port)
      × PlaysAs a.program.digested.program a.program.names (λ c. Unit {0}) (Some p.link.left) (world (Some []) written None) (world (Some p.link.sent) written' last)
      (asked_play a (messages reply_of (bytes_on p.link))) end
  played_on links after written written' last p = (p.told, p.all, p.at_port, p.plays)

  pub played_until : (links : Option (List Linked)) (after : List Linked) (written written' last : Option (List ℕ)) (p : IsPlayedOn a end links after written written' last)
      → IfErr end (BreaksAt a.program.digested.program a.program.names (world (Some []) written None) (world (Some p.link.sent) written' last) (asked_play a) p.link.given)
      × AllByRecursion (IsPromptOn (bytes_on p.link) (Some []) (asked_play a)) p.link.reads
  played_until links after written written' last p = (p.halts, p.prompt)

  pub played_from : (bytes : List ℕ) (left' sent sent' written written' last : Option (List ℕ)) → IsPlayedFrom a end (Some bytes) left' sent sent' written written' last
      → PlaysAs a.program.digested.program a.program.names (λ c. Unit {0}) left' (world sent written None) (world sent' written' last) (asked_play a (messages reply_of bytes)) end
  played_from bytes left' sent sent' written written' last p = p bytes refl

  pub halted_from : (bytes : List ℕ) (left' sent sent' written written' last : Option (List ℕ)) → IsHaltedFrom a end (Some bytes) left' sent sent' written written' last
      → IfErr end (BreaksOn a.program.digested.program a.program.names bytes left' (world sent written None) (world sent' written' last) (asked_play a))
  halted_from bytes left' sent sent' written written' last h = h bytes refl

-- WHOLE RUNS
module _ (a : Asking) (name : List ℕ) (old new : Outside) (net net' : NetSeen) (status : Status) where
  pub fails_to_dial : (f : FailsToDial old new net net' status) → Rose net.faults.dials net'.faults.dials × (net'.faults.links ≡ net.faults.links)
      × TellsText ReadFault link_fault_line status old.written new.written old.write_faults new.write_faults × (new.read_faults ≡ old.read_faults)
  fails_to_dial f = (f.rose, f.of_links, f.told, f.reads)

  -- all else is as it was
  pub dials_alone : (f : FailsToDial old new net net' status) → (net'.faults.listens ≡ net.faults.listens) × (net'.faults.accepts ≡ net.faults.accepts) × (net'.links ≡ net.links)
      × (net'.listened ≡ net.listened) × (new.stores ≡ old.stores) × (new.store_faults ≡ old.store_faults)
  dials_alone f = (f.listens, f.accepts, f.links, f.listened, f.stores, f.store_faults)

  pub ends_play : (e : EndsPlay a name old new net net' status) → ForSome net'.links (λ after. IsPlayedOn a e.end net.links after old.written e.written e.last)
      × PlayFaults e.end net.faults net'.faults × PlayWrites e.end old.write_faults e.write_faults × IsEndTold e.end e.told e.written new.written e.write_faults new.write_faults
      × IsStateStored name (unwrap_or e.last a.state) e.told status old.stores new.stores old.store_faults new.store_faults × (net'.listened ≡ net.listened) × (new.read_faults ≡ old.read_faults)
  ends_play e = (e.played, e.faults, e.writes, e.is_told, e.stored, e.listened, e.reads)

  pub ends_asking : (FailsToDial old new net net' status → EndsAsking a name old new net net' status) × (EndsPlay a name old new net net' status → EndsAsking a name old new net net' status)
  ends_asking = ((λ f. inl f), (λ e. inr e))

  pub is_asking : (texts : List (List ℕ)) (i : IsAsking texts old new net net' status) → CallsAsk texts old.contents i.asking i.name × IsOfWords texts i.asking i.name
      × EndsAsking i.asking i.name old new net net' status
  is_asking texts i = (i.calls, i.of_words, i.ends)

  pub is_ask : (texts : List (List ℕ)) → (EndsAs (answer_with Ask texts) old new status → IsAsk texts old new net net status) × (IsAsking texts old new net net' status → IsAsk texts old new net net' status)
  is_ask texts = ((λ e. inl (e, refl)), (λ i. inr i))

  pub ask_counts : (c : DialCounts old new net.faults net'.faults status) → CountsBy old new net.faults net'.faults status × (net'.faults.listens ≡ net.faults.listens)
      × (net'.faults.accepts ≡ net.faults.accepts)
  ask_counts c = (c.by_status, c.listens, c.accepts)

  pub plays_and_stores : (left left' sent sent' : Option (List ℕ)) (links links' : ℕ) (p : PlaysAndStores a name old new left left' sent sent' links links' status)
      → IsPlayedFrom a p.end left left' sent sent' old.written p.written p.last × IsHaltedFrom a p.end left left' sent sent' old.written p.written p.last × PlayLinks p.end links links'
      × PlayWrites p.end old.write_faults p.write_faults × IsEndTold p.end p.told p.written new.written p.write_faults new.write_faults
      × IsStateStored name (unwrap_or p.last a.state) p.told status old.stores new.stores old.store_faults new.store_faults × (new.read_faults ≡ old.read_faults)
  plays_and_stores left left' sent sent' links links' p = (p.plays, p.halts, p.link_faults, p.writes, p.is_told, p.stored, p.reads)
