use Rattle.std.proofs.Common.{List, [], ◌++◌, take, ℕ, Some, inr, refl, ap, sym, ◌∙◌, append-nil, arith}
use Rattle.std.specs.Io.KnownBytes.{append_known}
use Rattle.printed_lines.specs.Lines.{listening_line}
use Rattle.net_commands.specs.Courses.{NotListening, NotWritten}
use Rattle.net_commands.specs.Serving.{course_lines, first_server}
use Rattle.lam_outside.proofs.Moved.{append_none}
use Rattle.session_turns.specs.Keepers.{KeepsBetween}
use Rattle.net_commands.proofs.ServeCourses.{links_served}
use Rattle.net_commands.proofs.Courses.{course_told}
use Rattle.net_commands.proofs.OnlineRuns.{same_faults, same_links}
use Rattle.net_commands.proofs.ServeGone.{not_listening, not_written}
use Rattle.net_commands.proofs.serve.listen_and_serve.Goals as goal

pub returns-in-Ok-write_all-clause-course : goal.returns-in-Ok-write_all-clause-course
returns-in-Ok-write_all-clause-course g c = λ s place prepared keeps.
    let listens = c.in-Ok.ensures in
    let served = c.serve_links.ensures in
    links_served (KeepsBetween (g.K.Keeper.keeps c.serve_links.new.keeper place)) s _ _ c.args.server.now.core c.serve_links.new.core _ _ _ _ served.versions
    (served.listened ∙ (listens.listened ∙ ap Some prepared.port)) (served.listens ∙ listens.cause.kept) (served.dials ∙ listens.dials)
    (c.in-Ok-write_all.ensures.all ∙ ap (append_known (g.O.Sink.written c.args.out.now)) (c.deref.ensures.value ∙ prepared.greeting)) c.in-Ok-write_all.ensures.cause.kept
    c.args.server.now.port c.args.server.now.connections prepared.program prepared.slice prepared.port prepared.links
    _ _ _ (same_links _ _ _ _ _ _ _ _ _ _ _ _ listens.ended listens.linked listens.given listens.left listens.sent listens.reads) listens.faults listens.accepts
    c.serve_links.result served.history (served.served c.args.server.now.port listens.listened (first_server s) place prepared.serves keeps) served.cause

pub returns-in-Err-write_all-clause-course : goal.returns-in-Err-write_all-clause-course
returns-in-Err-write_all-clause-course g c = λ s place prepared keeps.
    let listens = c.in-Ok.ensures in record {
      course = NotWritten;
      server = first_server s;
      gone = not_written (KeepsBetween (g.K.Keeper.keeps c.args.keeper.now place)) s _ _ (same_links _ _ _ _ _ _ _ _ _ _ _ _ listens.ended listens.linked listens.given listens.left listens.sent listens.reads) (listens.listened ∙ ap Some prepared.port)
          (same_faults _ _ _ _ _ _ _ _ listens.faults listens.cause.kept listens.accepts listens.dials);
      server_left = record { serves = prepared.serves; some = prepared.some };
      is_told = (
        tt,
        inr (
          refl,
          (
            c.in-Err-write_all.ensures.part.0,
            omega arith,
            c.in-Err-write_all.ensures.part.2 ∙ ap (λ (line : List ℕ). append_known (g.O.Sink.written c.args.out.now) (take c.in-Err-write_all.ensures.part.0 line))
                (c.deref.ensures.value ∙ prepared.greeting ∙ sym (append-nil (listening_line s.port))),
          ),
          c.in-Err-write_all.ensures.cause.failed,
        ),
      );
      kept = tt;
    }

pub returns-in-Err-clause-course : goal.returns-in-Err-clause-course
returns-in-Err-clause-course g c = λ s place prepared keeps.
    let fails = c.in-Err.ensures in record {
      course = NotListening;
      server = first_server s;
      gone = not_listening (KeepsBetween (g.K.Keeper.keeps c.args.keeper.now place)) s _ _ (same_links _ _ _ _ _ _ _ _ _ _ _ _ fails.ended fails.linked fails.given fails.left fails.sent fails.reads) fails.as_before fails.cause.failed fails.faults fails.accepts fails.dials;
      server_left = record { serves = prepared.serves; some = prepared.some };
      is_told = (
        tt,
        course_told s.port NotListening (course_lines s NotListening (first_server s)) [] c.as_bytes.result.now (ap (λ (line : List ℕ). line ++ []) (sym c.link_fault_line.ensures ∙ sym c.as_bytes.ensures.value) ∙ append-nil _) tt (omega arith)
            c.tell_text.result _ _ _ _ _ _ (sym (append_none _)) refl c.tell_text.ensures,
      );
      kept = tt;
    }
