-- The course of a mirror on a net, from what `listen` left, and from how the answering on links ended and was told.
use Rattle.std.proofs.Common.{◌≡◌, ℕ, Bool, true, false, List, [], codes, Option, Some, append-nil, refl, sym, ◌∙◌, subst₂, arith}
use Rattle.std.specs.List.{concat}
use Rattle.std.specs.Option.{ForSome}
use Rattle.std.specs.Io.KnownBytes.{append_known}
use Rattle.lam_outside.specs.Causes.{Rose}
use Rattle.lam_outside.specs.Links.{Linked}
use Rattle.link_ends.specs.EndCauses.{ServingCause}
use Rattle.link_ends.specs.declared.end.ServingEnd.{ServingEnd}
use Rattle.link_ends.specs.declared.end.ServingEnd.TheVariants as end
use Rattle.mirror_links.specs.AnsweredLinks.{AnswersLinks}
use Rattle.printed_lines.specs.Lines.{listening_line}
use Rattle.command_parts.specs.Answer.{Mirroring}
use Rattle.command_parts.specs.declared.status.Status.{Status}
use Rattle.net_commands.specs.Courses.{Course, HasFaults, NotListening, NotWritten, Served, WithoutMemory, fault_lines}
use Rattle.net_commands.specs.MirrorSteps.{HasAnswered, IsEndTold, TellsMirroring}
use Rattle.net_commands.specs.Mirroring.{AnswersOn, HasMirrored, answers_of, mirroring_lines}
use Rattle.net_commands.specs.OnlineRuns.{NetSeen}
use Rattle.net_commands.proofs.Courses.{are_made, course_told}
use Rattle.net_commands.proofs.OnlineRuns.{same_faults}

module _ (m : Mirroring) (net net' : NetSeen) where
  abbrev Made : Course → Type 0
  Made course = ForSome net'.links (λ after. HasAnswered m course net.links after net.faults.accepts net'.faults.accepts)

  -- ---- no link was made
  none_made : (course : Course) → AnswersOn m course [] net.faults.accepts net'.faults.accepts → net'.links ≡ net.links → Made course
  none_made course none same = λ after known. record {
    before = after;
    made = [];
    told = sym same ∙ known;
    all = sym (append-nil after);
    at_port = tt;
    makes = none;
  }

  -- it could not listen
  pub not_listening : net'.links ≡ net.links → net'.listened ≡ net.listened → Rose net.faults.listens net'.faults.listens → net'.faults.links ≡ net.faults.links
      → net'.faults.accepts ≡ net.faults.accepts → net'.faults.dials ≡ net.faults.dials → HasMirrored m net net' NotListening
  not_listening links listened rose of_links accepts dials =
      record { links = none_made NotListening refl links; listened = listened; faults = (rose, of_links, accepts, dials) }

  -- the line that says so could not be written
  pub not_written : net'.links ≡ net.links → net'.listened ≡ Some m.port → net'.faults ≡ net.faults → HasMirrored m net net' NotWritten
  not_written links listened same = record { links = none_made NotWritten refl links; listened = listened; faults = same }

  -- ---- links were made, and the mirror answered on them
  abbrev Answers : ServingEnd → Type 0
  Answers e = AnswersLinks (answers_of m) m.port net.links net'.links m.links net.faults.accepts net'.faults.accepts e

  counted_made : (fault : Bool) → Answers (end.Served fault) → Made (Served fault)
  counted_made fault answers = λ after known. let h = answers after known in record {
    before = h.answered.are.before;
    made = h.answered.more;
    told = h.answered.are.told;
    all = h.answered.are.all;
    at_port = h.answered.are.at_port;
    makes = (
      h.faulted,
      h.answered.answered,
      are_made m.links m.links h.count h.answered.more h.faulted fault net.faults.accepts net'.faults.accepts h.answered.number refl h.number,
    );
  }

  lacking_made : Answers end.Stopped → Made WithoutMemory
  lacking_made answers = λ after known. let h = answers after known in record {
    before = h.are.before;
    made = h.more;
    told = h.are.told;
    all = h.are.all;
    at_port = h.are.at_port;
    makes = (h.number, h.answered);
  }

  module _ (listened : net'.listened ≡ Some m.port) (listens : net'.faults.listens ≡ net.faults.listens) (dials : net'.faults.dials ≡ net.faults.dials) (ended : Status)
      (written between written' : Option (List ℕ)) (before mid now : ℕ) (first : between ≡ append_known written (listening_line m.port)) (same : mid ≡ before) where
    abbrev Ends : Type 0
    Ends = TellsMirroring m net net' ended written written' before now

    faults_of : (fault : Bool) → ServingCause net.faults.links net'.faults.links net.faults.accepts net'.faults.accepts (end.Served fault) → HasFaults (Served fault) net.faults net'.faults
    faults_of true cause = (cause, listens, dials)
    faults_of false cause =
        same_faults net.faults.links net'.faults.links net.faults.listens net'.faults.listens net.faults.accepts net'.faults.accepts net.faults.dials net'.faults.dials
        cause.0 listens cause.1 dials

    by_end : (e : ServingEnd) → Answers e → ServingCause net.faults.links net'.faults.links net.faults.accepts net'.faults.accepts e → IsEndTold e ended between written' mid now → Ends
    by_end (end.Served fault) answers cause told = record {
      course = Served fault;
      gone = record { links = counted_made fault answers; listened = listened; faults = faults_of fault cause };
      is_told = course_told m.port (Served fault) (mirroring_lines m.port (Served fault)) (listening_line m.port) (concat (fault_lines fault)) refl tt (omega arith) ended written between written'
          before mid now first same told;
    }
    by_end end.Stopped answers cause told = record {
      course = WithoutMemory;
      gone = record { links = lacking_made answers; listened = listened; faults = (listens, dials) };
      is_told = course_told m.port WithoutMemory (mirroring_lines m.port WithoutMemory) (listening_line m.port) (codes "no memory\n") refl tt (omega arith) ended written between written'
          before mid now first same told;
    }

    -- on a net that listens, and else is as it was
    pub links_told : (links : Option (List Linked)) (faults accepts : ℕ) → links ≡ net.links → faults ≡ net.faults.links → accepts ≡ net.faults.accepts
        → (e : ServingEnd) → AnswersLinks (answers_of m) m.port links net'.links m.links accepts net'.faults.accepts e
        → ServingCause faults net'.faults.links accepts net'.faults.accepts e → IsEndTold e ended between written' mid now → Ends
    links_told links faults accepts a b c e answers cause told =
        by_end e
        (subst₂ (λ (links : Option (List Linked)) (accepts : ℕ). AnswersLinks (answers_of m) m.port links net'.links m.links accepts net'.faults.accepts e) a c answers)
        (subst₂ (λ (faults accepts : ℕ). ServingCause faults net'.faults.links accepts net'.faults.accepts e) b c cause) told
