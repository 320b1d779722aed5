use Rattle.std.proofs.Common.{◌≡◌, Option, None, Err, inl, inr, refl, sym, subst}
use Rattle.command_words.specs.declared.command.Command.TheVariants.{Mirror}
use Rattle.command_parts.specs.Answer.{Mirroring, with_mirroring}
use Rattle.command_parts.specs.UnansweredInCode.{unmirrored_answer}
use Rattle.command_parts.specs.AnswerForms.{Answer}
use Rattle.command_parts.specs.declared.report.Report.{Report}
use Rattle.net_commands.specs.PreparedMirrors.{HasGreeting, mirroring_of}
use Rattle.net_commands.specs.ToldNumbers.{TellMirrorNumbers}
use Rattle.net_commands.specs.declared.mirroring.PreparedMirror.{PreparedMirror}
use Rattle.command_parts.proofs.Ends.{ends_as, judging}
use Rattle.command_parts.proofs.Possible.{told_possible}
use Rattle.command_parts.proofs.Words.{ends_apart, text_at}
use Rattle.net_commands.proofs.MirrorRuns.{mirrored_of_words, mirroring_apart, mirroring_counted, mirroring_possible, unmirrored_apart}
use Rattle.net_commands.proofs.OnlineRuns.{halted_at, unheard_counted}
use Rattle.net_commands.proofs.mirror.mirror_command.Goals as goal

pub answer_and_tell-requires : goal.answer_and_tell-requires
answer_and_tell-requires g c = subst HasGreeting (sym c.deref.ensures) c.in-Ok.ensures.greeting

pub returns-in-Ok-clause-ends : goal.returns-in-Ok-clause-ends
returns-in-Ok-clause-ends g c =
    let words = c.args.words.now in
    let text = text_at words in
    let read = c.in-Ok.ensures in
    let told = c.answer_and_tell.ensures in
    let held = c.deref.result.now in
    let lent = sym c.deref.ensures in
    inr (record {
      mirroring = mirroring_of held;
      means = λ files known. mirroring_apart words files (mirroring_of held) c.requires
          (subst (λ (held : PreparedMirror). (go : Mirroring → Option Answer) → with_mirroring (text 0) (text 1) (text 2) files go ≡ go (mirroring_of held)) lent (read.goes files known));
      of_words = mirrored_of_words words (mirroring_of held) c.requires (subst (λ (held : PreparedMirror). TellMirrorNumbers (text 1) (text 2) held.port held.connections) lent read.numbers);
      ends = record { course = told.course; gone = told.gone; told = told.is_told; stores = read.stores; store_faults = read.store_faults; reads = read.cause };
    })

pub returns-in-Ok-clause-counts : goal.returns-in-Ok-clause-counts
returns-in-Ok-clause-counts g c =
    let read = c.in-Ok.ensures in
    let told = c.answer_and_tell.ensures in
    mirroring_counted (mirroring_of c.deref.result.now) _ _ _ _ c.answer_and_tell.result
    (record { course = told.course; gone = told.gone; told = told.is_told; stores = read.stores; store_faults = read.store_faults; reads = read.cause })

pub returns-in-Ok-clause-possible : goal.returns-in-Ok-clause-possible
returns-in-Ok-clause-possible g c =
    let told = c.answer_and_tell.ensures in
    mirroring_possible c.deref.result.now.port told.course c.answer_and_tell.result _ _ _ _ told.is_told

pub returns-in-Err-clause-ends : goal.returns-in-Err-clause-ends
returns-in-Err-clause-ends g c =
    let words = c.args.words.now in
    let text = text_at words in
    let halted = c.in-Err.ensures in
    inl (
      ends_apart Mirror words 3 _ _ c.tell.result c.requires
          (ends_as (unmirrored_answer (text 0) (text 1) (text 2)) _ _ (Err c.in-Err.halt) c.tell.result (λ files known. halted.goes files known (λ m. None))
          (judging {T = Report} _ _ (Err c.in-Err.halt) halted.cause) halted.stores halted.store_faults c.tell.ensures),
      refl,
    )

pub returns-in-Err-clause-counts : goal.returns-in-Err-clause-counts
returns-in-Err-clause-counts g c =
    let text = text_at c.args.words.now in
    let halted = c.in-Err.ensures in
    unheard_counted (unmirrored_answer (text 0) (text 1) (text 2)) _ _ _ c.tell.result
    (ends_as (unmirrored_answer (text 0) (text 1) (text 2)) _ _ (Err c.in-Err.halt) c.tell.result (λ files known. halted.goes files known (λ m. None))
    (judging {T = Report} _ _ (Err c.in-Err.halt) halted.cause) halted.stores halted.store_faults c.tell.ensures)

pub returns-in-Err-clause-reached : goal.returns-in-Err-clause-reached
returns-in-Err-clause-reached g c =
    let words = c.args.words.now in
    let text = text_at words in
    let at = halted_at (unmirrored_answer (text 0) (text 1) (text 2)) _ _ _ _ c.in-Err.halt c.in-Err.ensures.cause c.in-Err.ensures.reached in
    unmirrored_apart words _ _ _ _ c.requires at

pub returns-in-Err-clause-possible : goal.returns-in-Err-clause-possible
returns-in-Err-clause-possible g c = told_possible Mirror (Err c.in-Err.halt) c.tell.result _ _ _ _ c.tell.ensures c.in-Err.ensures.possible
