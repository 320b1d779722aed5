use Rattle.std.proofs.Common.{None, Err, inl, inr, refl}
use Rattle.command_words.specs.declared.command.Command.TheVariants.{Draw}
use Rattle.command_parts.specs.UnansweredInCode.{undrawn_answer}
use Rattle.command_parts.specs.Outsides.{outside}
use Rattle.command_parts.specs.declared.report.Report.{Report}
use Rattle.command_parts.proofs.Ends.{ends_as, judging}
use Rattle.command_parts.proofs.Possible.{found_possible, told_possible}
use Rattle.command_parts.proofs.Words.{ends_apart, text_at}
use Rattle.net_commands.specs.PreparedDrawings.{drawing_of}
use Rattle.net_commands.proofs.DrawCounted.{drawing_counted, drawing_possible}
use Rattle.net_commands.proofs.DrawRuns.{drawing_apart, drawn_from, drawn_of_sources, undrawn_apart}
use Rattle.net_commands.proofs.OnlineRuns.{halted_at, same_seen, undialled_counted}
use Rattle.net_commands.proofs.draw.draw_command.Goals as goal

pub returns-in-Ok-clause-ends : goal.returns-in-Ok-clause-ends
returns-in-Ok-clause-ends g c =
    let words = c.args.words.now in
    let read = c.in-Ok.ensures in
    let d = drawing_of c.in-Ok.held in
    let seen = outside g.F.Files.contents g.F.Files.stores g.F.Source.faults g.F.Files.store_faults g.O.Sink.written g.O.Sink.faults c.read_drawing.new.files c.args.out.now in
    inr (record {
      drawing = d;
      calls = record { means = λ files known. drawing_apart words files d c.requires (read.goes files known); of_sources = drawn_of_sources words d c.requires read.of_sources };
      ends = drawn_from d _ seen _ _ _ c.draw.result (same_seen _ _ _ _ _ _ _ _ _ _ read.contents read.stores read.cause read.store_faults) (c.draw.ensures seen);
    })

pub returns-in-Ok-clause-counts : goal.returns-in-Ok-clause-counts
returns-in-Ok-clause-counts g c =
    let read = c.in-Ok.ensures in
    let d = drawing_of c.in-Ok.held in
    let seen = outside g.F.Files.contents g.F.Files.stores g.F.Source.faults g.F.Files.store_faults g.O.Sink.written g.O.Sink.faults c.read_drawing.new.files c.args.out.now in
    drawing_counted d _ _ _ _ c.draw.result
    (drawn_from d _ seen _ _ _ c.draw.result (same_seen _ _ _ _ _ _ _ _ _ _ read.contents read.stores read.cause read.store_faults) (c.draw.ensures seen))

pub returns-in-Ok-clause-reached : goal.returns-in-Ok-clause-reached
returns-in-Ok-clause-reached g c = inl c.in-Ok.ensures.cause

pub returns-in-Ok-clause-possible : goal.returns-in-Ok-clause-possible
returns-in-Ok-clause-possible g c =
    let seen = outside g.F.Files.contents g.F.Files.stores g.F.Source.faults g.F.Files.store_faults g.O.Sink.written g.O.Sink.faults c.read_drawing.new.files c.args.out.now in
    drawing_possible (drawing_of c.in-Ok.held) _ _ _ _ c.draw.result (c.draw.ensures seen)

pub returns-in-Err-clause-ends : goal.returns-in-Err-clause-ends
returns-in-Err-clause-ends g c =
    let words = c.args.words.now in
    let text = text_at words in
    let halted = c.in-Err.ensures in
    inl (
      ends_apart Draw words 6 _ _ c.tell.result c.requires
          (ends_as (undrawn_answer (text 0) (text 1) (text 2) (text 3) (text 4) (text 5)) _ _ (Err c.in-Err.halt) c.tell.result (λ files known. halted.goes files known (λ d. None))
          (judging {T = Report} _ _ (Err c.in-Err.halt) halted.cause) halted.stores halted.store_faults c.tell.ensures),
      refl,
    )

pub returns-in-Err-clause-counts : goal.returns-in-Err-clause-counts
returns-in-Err-clause-counts g c =
    let text = text_at c.args.words.now in
    let halted = c.in-Err.ensures in
    undialled_counted (undrawn_answer (text 0) (text 1) (text 2) (text 3) (text 4) (text 5)) _ _ _ c.tell.result
    (ends_as (undrawn_answer (text 0) (text 1) (text 2) (text 3) (text 4) (text 5)) _ _ (Err c.in-Err.halt) c.tell.result (λ files known. halted.goes files known (λ d. None))
    (judging {T = Report} _ _ (Err c.in-Err.halt) halted.cause) halted.stores halted.store_faults c.tell.ensures)

pub returns-in-Err-clause-reached : goal.returns-in-Err-clause-reached
returns-in-Err-clause-reached g c =
    let words = c.args.words.now in
    let text = text_at words in
    let at = halted_at (undrawn_answer (text 0) (text 1) (text 2) (text 3) (text 4) (text 5)) _ _ _ _ c.in-Err.halt c.in-Err.ensures.cause c.in-Err.ensures.reached in
    undrawn_apart words _ _ _ _ c.requires at

pub returns-in-Err-clause-possible : goal.returns-in-Err-clause-possible
returns-in-Err-clause-possible g c = told_possible Draw (Err c.in-Err.halt) c.tell.result _ _ _ _ c.tell.ensures (found_possible Draw tt tt _ _ (Err c.in-Err.halt) c.in-Err.ensures.cause tt)
