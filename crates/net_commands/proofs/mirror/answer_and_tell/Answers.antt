use Rattle.std.proofs.Common.{List, [], ◌++◌, take, ℕ, inr, refl, ap, sym, ◌∙◌, append-nil, arith}
use Rattle.std.specs.Io.KnownBytes.{append_known}
use Rattle.printed_lines.specs.Lines.{listening_line}
use Rattle.net_commands.specs.Courses.{NotListening, NotWritten}
use Rattle.net_commands.specs.Mirroring.{mirroring_lines}
use Rattle.net_commands.specs.PreparedMirrors.{mirroring_of}
use Rattle.lam_outside.proofs.Moved.{append_none}
use Rattle.net_commands.proofs.Courses.{course_told}
use Rattle.net_commands.proofs.MirrorCourses.{links_told, not_listening, not_written}
use Rattle.net_commands.proofs.OnlineRuns.{same_faults, same_links}
use Rattle.net_commands.proofs.mirror.answer_and_tell.Goals as goal

pub returns-in-Ok-write_all : goal.returns-in-Ok-write_all
returns-in-Ok-write_all g c =
    let held = c.args.held.now in
    let listens = c.in-Ok.ensures in
    let answered = c.answer_links-end.ensures in
    links_told (mirroring_of held) _ _ (answered.listened ∙ listens.listened) (answered.listens ∙ listens.cause.kept) (answered.dials ∙ listens.dials) c.tell_end.result _ _ _ _ _ _
    (c.in-Ok-write_all.ensures.all ∙ ap (append_known (g.O.Sink.written c.args.out.now)) (c.deref.ensures.value ∙ c.requires)) c.in-Ok-write_all.ensures.cause.kept
    _ _ _ (same_links _ _ _ _ _ _ _ _ _ _ _ _ listens.ended listens.linked listens.given listens.left listens.sent listens.reads) listens.faults listens.accepts
    c.answer_links-end.result (answered.answered held.port listens.listened) answered.cause c.tell_end.ensures

pub returns-in-Err-write_all : goal.returns-in-Err-write_all
returns-in-Err-write_all g c =
    let held = c.args.held.now in
    let listens = c.in-Ok.ensures in
    let written = c.in-Err-write_all.ensures in record {
      course = NotWritten;
      gone = not_written (mirroring_of held) _ _ (same_links _ _ _ _ _ _ _ _ _ _ _ _ listens.ended listens.linked listens.given listens.left listens.sent listens.reads) listens.listened
          (same_faults _ _ _ _ _ _ _ _ listens.faults listens.cause.kept listens.accepts listens.dials);
      is_told = inr (
        refl,
        (
          written.part.0,
          omega arith,
          written.part.2 ∙ ap (λ (line : List ℕ). append_known (g.O.Sink.written c.args.out.now) (take written.part.0 line))
              (c.deref.ensures.value ∙ c.requires ∙ sym (append-nil (listening_line held.port))),
        ),
        written.cause.failed,
      );
    }

pub returns-in-Err : goal.returns-in-Err
returns-in-Err g c =
    let m = mirroring_of c.args.held.now in
    let fails = c.in-Err.ensures in record {
      course = NotListening;
      gone = not_listening m _ _ (same_links _ _ _ _ _ _ _ _ _ _ _ _ fails.ended fails.linked fails.given fails.left fails.sent fails.reads) fails.as_before fails.cause.failed fails.faults
          fails.accepts fails.dials;
      is_told = course_told m.port NotListening (mirroring_lines m.port NotListening) [] c.as_bytes.result.now
          (ap (λ (line : List ℕ). line ++ []) (sym c.link_fault_line.ensures ∙ sym c.as_bytes.ensures.value) ∙ append-nil _) tt (omega arith)
          c.tell_text.result _ _ _ _ _ _ (sym (append_none _)) refl c.tell_text.ensures;
    }
