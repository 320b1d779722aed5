-- Rows for a mirror on links: the links that were made, the lines, the words, and what stands before a link is made. What each word takes, and what it
-- refuses.
use Rattle.std.specs.Prelude.{◌≡◌, ◌≤◌, ◌<◌, ℕ, true, false, List, [], ◌∷◌, ◌++◌, length, codes, Option, Some, None, refl}
use Rattle.std.specs.Fmt.{digits}
use Rattle.std.specs.List.{AllByRecursion}
use Rattle.std.specs.Option.{ForSome}
use Rattle.std.proofs.Common.{arith, inl, inr, lit≤}
use Rattle.sha2.specs.Sha256.{sha256}
use Rattle.command_words.specs.declared.command.Command.TheVariants.{Mirror}
use Rattle.lam_outside.specs.Links.{Linked}
use Rattle.lam_outside.specs.Told.{Contents}
use Rattle.link_ends.specs.declared.end.ServingEnd.TheVariants as end
use Rattle.mirror_links.specs.AnsweredLinks.{AreAnsweredInPart}
use Rattle.piece_mirror.specs.Answers.{given_by}
use Rattle.piece_mirror.specs.Tables.{bytes_of}
use Rattle.printed_lines.specs.Lines.{listening_line}
use Rattle.command_parts.specs.Answer.{Mirroring, answer_with, with_mirroring}
use Rattle.command_parts.specs.AnswerForms.{Answer}
use Rattle.command_parts.specs.Ending.{EndsAs}
use Rattle.command_parts.specs.Outsides.{Outside}
use Rattle.command_parts.specs.declared.status.Status.{Status}
use Rattle.command_parts.specs.declared.status.Status.TheVariants.{Done, ReadFault, WriteFault, NoMemory}
use Rattle.net_commands.specs.CourseRows.{rose}
use Rattle.net_commands.specs.Courses.{Course, HasFaults, NotListening, NotWritten, Served, WithoutMemory, listened_behind}
use Rattle.net_commands.specs.MirrorSteps.{HasAnswered, IsEndTold, TellsMirroring}
use Rattle.net_commands.specs.Mirroring.{AnswersOn, EndsMirroring, HasMirrored, IsMirror, IsMirroring, IsMirroringTold, IsOfWords, MeansMirroring, answers_of, mirroring_lines}
use Rattle.net_commands.specs.OnlineRuns.{NetSeen}
use Rattle.net_commands.specs.PreparedMirrors.{HasGreeting, mirroring_by, mirroring_of}
use Rattle.net_commands.specs.ToldNumbers.{TellMirrorNumbers}
use Rattle.net_commands.specs.declared.mirroring.PreparedMirror.{PreparedMirror}

-- a mirror without pieces, for so many links
abbrev pub mirror_for : (links : ℕ) → Mirroring
mirror_for links = record { pieces = []; port = 4711; links = links }

-- LINKS
pub answers : (m : Mirroring) → answers_of m ≡ given_by sha256 m.pieces
answers m = refl

-- no links are answered on without a fault, and where it couldn't listen none was made
pub answers_on : AnswersOn (mirror_for 0) NotListening [] 3 3 × AnswersOn (mirror_for 0) NotWritten [] 3 3 × AnswersOn (mirror_for 0) (Served false) [] 3 3
answers_on = (refl, refl, (false, refl, inl (refl, refl)))

some_is_none : (link : Linked) (links : List Linked) → link ∷ links ≡ [] → ⊥
some_is_none link links e = cc (e)

pub none_is_made : (link : Linked) → (AnswersOn (mirror_for 9) NotListening (link ∷ []) 3 3 → ⊥) × (AnswersOn (mirror_for 9) NotWritten (link ∷ []) 3 3 → ⊥)
none_is_made link = (some_is_none link [], some_is_none link [])

pub no_fault_is_made : AnswersOn (mirror_for 0) (Served true) [] 3 3 → ⊥
no_fault_is_made (some, answered, inl made) = let one : some ≡ false = answered in let other : true ≡ some = made.1 in cc
no_fault_is_made (some, answered, inr made) = let fewer : 0 < 0 = made.0 in omega (arith, fewer)

-- memory may be wanting on the last of as many links as were to be answered on, and on no other
pub answers_lacking : (made : List Linked) → length made ≤ 9 → AreAnsweredInPart (answers_of (mirror_for 9)) made → AnswersOn (mirror_for 9) WithoutMemory made 3 3
answers_lacking made fewer are = (fewer, are)

pub none_lacks : AnswersOn (mirror_for 9) WithoutMemory [] 3 3 → ⊥
none_lacks lacking = by lacking.1.before lacking.1.last lacking.1.all
  where
    by : (before : List Linked) (last : Linked) → [] ≡ before ++ last ∷ [] → ⊥
    by [] last e = cc (e)
    by (link ∷ before) last e = cc (e)

pub has_answered : HasAnswered (mirror_for 0) NotListening (Some []) [] 3 3
has_answered = record { before = []; made = []; told = refl; all = refl; at_port = tt; makes = refl }

pub answered_at_port : (m : Mirroring) (course : Course) (links : Option (List Linked)) (after : List Linked) (accepts accepts' : ℕ) (h : HasAnswered m course links after accepts accepts')
    → AllByRecursion (λ (link : Linked). link.port ≡ m.port) h.made
answered_at_port m course links after accepts accepts' h = h.at_port

-- LINES
pub lines : (mirroring_lines 4711 NotListening ≡ codes "link fault\n" ∷ []) × (mirroring_lines 4711 NotWritten ≡ codes "listening 4711\n" ∷ [])
    × (mirroring_lines 4711 (Served false) ≡ codes "listening 4711\n" ∷ []) × (mirroring_lines 4711 (Served true) ≡ codes "listening 4711\n" ∷ codes "link fault\n" ∷ [])
    × (mirroring_lines 4711 WithoutMemory ≡ codes "listening 4711\n" ∷ codes "no memory\n" ∷ [])
unfolding digits
lines = (refl, refl, refl, refl, refl)

-- told whole; or the sink failed at a front of the text
pub mirroring_is_told : IsMirroringTold 4711 (Served true) ReadFault (Some []) (Some (codes "listening 4711\nlink fault\n")) 3 3
    × IsMirroringTold 4711 (Served true) WriteFault (Some []) (Some (codes "listening 4711\nlink")) 3 4
unfolding digits
mirroring_is_told = (inl (tt, refl, refl, refl), inr (refl, (19, lit≤ tt, refl), rose))

pub end_is_told : IsEndTold (end.Served true) ReadFault (Some []) (Some (codes "link fault\n")) 3 3 × IsEndTold (end.Served false) Done (Some []) (Some []) 3 3
    × IsEndTold end.Stopped NoMemory (Some []) (Some (codes "no memory\n")) 3 3
end_is_told = (inl (refl, refl, refl), inl (refl, refl, refl), inl (refl, refl, refl))

apart : (Done ≡ NoMemory → ⊥) × (Done ≡ WriteFault → ⊥)
apart = ((λ e. cc (e)), (λ e. cc (e)))

-- the want of memory is not told as done
pub want_is_told : (old new : Option (List ℕ)) (before now : ℕ) → (IsEndTold end.Stopped Done old new before now → ⊥) × (IsMirroringTold 4711 WithoutMemory Done old new before now → ⊥)
want_is_told old new before now = (by_end, by_course)
  where
    by_end : IsEndTold end.Stopped Done old new before now → ⊥
    by_end (inl told) = apart.0 told.0
    by_end (inr told) = apart.1 told.0

    by_course : IsMirroringTold 4711 WithoutMemory Done old new before now → ⊥
    by_course (inl told) = apart.0 told.1
    by_course (inr told) = apart.1 told.0

-- WORDS
-- three texts mean a mirror, and its numbers are those of the words
pub means_mirroring : (mirror port links : List ℕ) (files : Contents) (m : Mirroring) → ((go : Mirroring → Option Answer) → with_mirroring mirror port links files go ≡ go m)
    → MeansMirroring (mirror ∷ port ∷ links ∷ []) files m × (MeansMirroring [] files m → ⊥)
means_mirroring mirror port links files m goes = (goes, (λ m. m))

pub of_words : (mirror port links : List ℕ) (m : Mirroring) → TellMirrorNumbers port links m.port m.links → IsOfWords (mirror ∷ port ∷ links ∷ []) m × (IsOfWords [] m → ⊥)
of_words mirror port links m tell = (tell, (λ m. m))

answer_is_none : (a : Answer) → Some a ≡ None → ⊥
answer_is_none a e = cc (e)

pub numbers_are_told : TellMirrorNumbers (codes "4711") (codes "3") 4711 3
numbers_are_told go = refl

pub no_links_are_told : (port : ℕ) → TellMirrorNumbers (codes "4711") (codes "0") port 0 → ⊥
no_links_are_told port tell = answer_is_none _ (tell (λ n m. None))

-- BEFORE A LINK
pub is_held : (held : PreparedMirror) → (mirroring_of held ≡ mirroring_by (bytes_of held.mirror.pieces) held.port held.connections) × (HasGreeting held → held.greeting.items ≡ listening_line held.port)
is_held held = (refl, (λ greeting. greeting))

pub by_numbers : (pieces : List (List ℕ)) (port links : ℕ) → let m = mirroring_by pieces port links in (m.pieces ≡ pieces) × (m.port ≡ port) × (m.links ≡ links)
by_numbers pieces port links = (refl, refl, refl)

-- WHOLE RUNS
module _ (m : Mirroring) (old new : Outside) (net net' : NetSeen) (status : Status) where
  pub has_mirrored : (course : Course) (g : HasMirrored m net net' course)
      → ForSome net'.links (λ after. HasAnswered m course net.links after net.faults.accepts net'.faults.accepts) × (net'.listened ≡ listened_behind m.port course net.listened)
      × HasFaults course net.faults net'.faults
  has_mirrored course g = (g.links, g.listened, g.faults)

  pub course_of : (told : Status) (was is : Option (List ℕ)) (before now : ℕ) (t : TellsMirroring m net net' told was is before now)
      → HasMirrored m net net' t.course × IsMirroringTold m.port t.course told was is before now
  course_of told was is before now t = (t.gone, t.is_told)

  pub ends_mirroring : (e : EndsMirroring m old new net net' status) → HasMirrored m net net' e.course
      × IsMirroringTold m.port e.course status old.written new.written old.write_faults new.write_faults × (new.stores ≡ old.stores) × (new.store_faults ≡ old.store_faults)
      × (new.read_faults ≡ old.read_faults)
  ends_mirroring e = (e.gone, e.told, e.stores, e.store_faults, e.reads)

  pub is_mirroring : (texts : List (List ℕ)) (i : IsMirroring texts old new net net' status) → ForSome old.contents (λ files. MeansMirroring texts files i.mirroring)
      × IsOfWords texts i.mirroring × EndsMirroring i.mirroring old new net net' status
  is_mirroring texts i = (i.means, i.of_words, i.ends)

  pub is_mirror : (texts : List (List ℕ))
      → (EndsAs (answer_with Mirror texts) old new status → IsMirror texts old new net net status) × (IsMirroring texts old new net net' status → IsMirror texts old new net net' status)
  is_mirror texts = ((λ e. inl (e, refl)), (λ i. inr i))
