-- A run of `mirror`, from what was read and what was answered: how it ends, the counts behind it, and the statuses that it may answer.
use Rattle.std.proofs.Common.{◌≡◌, ◌⊎◌, inl, inr, ℕ, List, true, false, length, Option, refl, sym, subst}
use Rattle.std.specs.Borrow.{Bor}
use Rattle.command_words.specs.Commands.{texts}
use Rattle.command_words.specs.declared.command.Command.TheVariants.{Mirror}
use Rattle.lam_outside.specs.Told.{Contents, Names}
use Rattle.command_parts.specs.Answer.{Mirroring, answer_with, with_mirroring}
use Rattle.command_parts.specs.UnansweredInCode.{unmirrored_answer}
use Rattle.command_parts.specs.AnswerForms.{Answer}
use Rattle.command_parts.specs.Ending.{EndsAs}
use Rattle.command_parts.specs.Outsides.{Outside}
use Rattle.command_parts.specs.Reaching.{IsReached}
use Rattle.command_parts.specs.Statuses.{MayAnswer}
use Rattle.command_parts.specs.declared.status.Status.{Status}
use Rattle.net_commands.specs.Courses.{Course, IsListening, NotListening, NotWritten, Served, WithoutMemory, course_status}
use Rattle.net_commands.specs.Mirroring.{EndsMirroring, IsMirroringTold, IsOfWords, MeansMirroring}
use Rattle.net_commands.specs.NetCounts.{ListenCounts, CountsBy}
use Rattle.net_commands.specs.NetFaults.{NetFaults}
use Rattle.net_commands.specs.OnlineRuns.{NetSeen}
use Rattle.net_commands.specs.ToldNumbers.{TellMirrorNumbers}
use Rattle.net_commands.proofs.Courses.{course_by, no_dials}
use Rattle.command_parts.proofs.Words.{apart, reached_apart, text_at}

-- ---- the words

-- what they mean
pub mirroring_apart : (words : List (Bor (List ℕ))) (files : Contents) (m : Mirroring) → length words ≡ 3
    → ((go : Mirroring → Option Answer) → with_mirroring (text_at words 0) (text_at words 1) (text_at words 2) files go ≡ go m) → MeansMirroring (texts words) files m
mirroring_apart words files m three goes = subst (λ ts. MeansMirroring ts files m) (sym (apart words 3 three)) goes

-- and whatever the files tell
pub mirrored_of_words : (words : List (Bor (List ℕ))) (m : Mirroring) → length words ≡ 3 → TellMirrorNumbers (text_at words 1) (text_at words 2) m.port m.links → IsOfWords (texts words) m
mirrored_of_words words m three told = subst (λ ts. IsOfWords ts m) (sym (apart words 3 three)) told

-- and where a read failed
pub unmirrored_apart : (words : List (Bor (List ℕ))) (contents : Option Contents) (asked : Option Names) (before now : ℕ) → length words ≡ 3
    → (now ≡ before) ⊎ IsReached (unmirrored_answer (text_at words 0) (text_at words 1) (text_at words 2)) contents asked
    → (now ≡ before) ⊎ IsReached (answer_with Mirror (texts words)) contents asked
unmirrored_apart words contents asked before now three (inl same) = inl same
unmirrored_apart words contents asked before now three (inr reached) = inr (reached_apart Mirror words 3 contents asked asked three refl reached)

-- ---- the counts

module _ (m : Mirroring) (old new : Outside) (net net' : NetSeen) (ended : Status) (ends : EndsMirroring m old new net net' ended) where
  abbrev IsTold : Type 0
  IsTold = IsMirroringTold m.port ends.course ended old.written new.written old.write_faults new.write_faults

  pub mirroring_counted : ListenCounts old new net.faults net'.faults ended
  mirroring_counted = record { by_status = by ends.told; dials = no_dials ends.course net.faults net'.faults ends.gone.faults }
    where
      by : IsTold → CountsBy old new net.faults net'.faults ended
      by (inl (listening, is, written, writes)) = subst (CountsBy old new net.faults net'.faults) (sym is)
          (course_by ends.course old new net.faults net'.faults ends.gone.faults ends.reads ends.store_faults writes (λ none. subst IsListening none listening))
      by (inr (is, part, rose)) = subst (CountsBy old new net.faults net'.faults) (sym is) (inl rose)

-- ---- the statuses

course_possible : (course : Course) → MayAnswer Mirror (course_status course)
course_possible NotListening = tt
course_possible NotWritten = tt
course_possible (Served true) = tt
course_possible (Served false) = tt
course_possible WithoutMemory = tt

pub mirroring_possible : (port : ℕ) (course : Course) (ended : Status) (old new : Option (List ℕ)) (before now : ℕ) → IsMirroringTold port course ended old new before now → MayAnswer Mirror ended
mirroring_possible port course ended old new before now (inl told) = subst (MayAnswer Mirror) (sym told.1) (course_possible course)
mirroring_possible port course ended old new before now (inr told) = subst (MayAnswer Mirror) (sym told.0) tt
