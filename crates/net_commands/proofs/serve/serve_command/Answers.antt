use Rattle.std.proofs.Common.{None, Err, inl, inr, refl, sym, subst, ◌∙◌}
use Rattle.command_words.specs.Commands.{texts}
use Rattle.command_words.specs.declared.command.Command.TheVariants.{Serve}
use Rattle.command_parts.specs.UnansweredInCode.{unserved_answer}
use Rattle.net_commands.specs.PreparedServers.{IsPrepared, numbers_held}
use Rattle.net_commands.specs.ToldNumbers.{TellNumbers}
use Rattle.net_commands.specs.Serving.{MeansServing}
use Rattle.command_parts.specs.declared.report.Report.{Report}
use Rattle.command_parts.proofs.Ends.{ends_as, judging}
use Rattle.command_parts.proofs.Possible.{found_possible, told_possible}
use Rattle.net_commands.proofs.ServeCounted.{serving_counted, serving_possible}
use Rattle.net_commands.proofs.OnlineRuns.{halted_at, same_seen, unheard_counted}
use Rattle.net_commands.proofs.ServeRuns.{both, either_apart, from_seen, means_apart, of_words_apart, prepared_at, same_numbers}
use Rattle.command_parts.proofs.Words.{ends_apart, text_at}
use Rattle.net_commands.proofs.serve.serve_command.Goals as goal

pub serve-requires : goal.serve-requires
serve-requires g c = (record { shared = c.type_bounds.sync-R.shared }, prepared_at c.in-Ok.server.value c.deref_mut.result.now c.deref_mut.ensures.value c.in-Ok.ensures.prepared)

pub returns-in-Ok-clause-ends : goal.returns-in-Ok-clause-ends
returns-in-Ok-clause-ends g c =
    let words = c.args.words.now in
    let read = c.in-Ok.ensures in
    let found = both (g.F.Files.contents c.args.files.now) (λ files s. MeansServing (texts words) files s (text_at words 5)) (IsPrepared c.deref_mut.result.now)
    (λ files known. let s = read.goes files known in (s.0, means_apart words files s.0 c.requires s.1, subst (λ server. IsPrepared server s.0) (sym c.deref_mut.ensures.value) s.2))
    (prepared_at c.in-Ok.server.value c.deref_mut.result.now c.deref_mut.ensures.value read.prepared) in
    let held = subst (λ server. TellNumbers (text_at words 2) (text_at words 3) (text_at words 4) (numbers_held server)) (sym c.deref_mut.ensures.value) read.numbers in
    inr (record {
      serving = found.serving;
      name = text_at words 5;
      means = found.means;
      of_words = of_words_apart words found.serving c.requires
          (subst (TellNumbers (text_at words 2) (text_at words 3) (text_at words 4)) (same_numbers c.deref_mut.result.now found.serving found.prepared) held);
      ends = from_seen found.serving (text_at words 5) _ _ _ _ _ c.serve.result (same_seen _ _ _ _ _ _ _ _ _ _ read.contents read.stores read.cause read.store_faults)
          (c.serve.ensures.ends found.serving found.prepared);
    })

pub returns-in-Ok-clause-counts : goal.returns-in-Ok-clause-counts
returns-in-Ok-clause-counts g c =
    let read = c.in-Ok.ensures in
    let s = prepared_at c.in-Ok.server.value c.deref_mut.result.now c.deref_mut.ensures.value read.prepared in
    serving_counted s.0 (text_at c.args.words.now 5) _ _ _ _ c.serve.result
    (from_seen s.0 (text_at c.args.words.now 5) _ _ _ _ _ c.serve.result (same_seen _ _ _ _ _ _ _ _ _ _ read.contents read.stores read.cause read.store_faults)
    (c.serve.ensures.ends s.0 s.1))

pub returns-in-Ok-clause-reached : goal.returns-in-Ok-clause-reached
returns-in-Ok-clause-reached g c = let s = prepared_at c.in-Ok.server.value c.deref_mut.result.now c.deref_mut.ensures.value c.in-Ok.ensures.prepared in inl ((c.serve.ensures.ends s.0 s.1).reads ∙ c.in-Ok.ensures.cause)

pub returns-in-Ok-clause-possible : goal.returns-in-Ok-clause-possible
returns-in-Ok-clause-possible g c = let s = prepared_at c.in-Ok.server.value c.deref_mut.result.now c.deref_mut.ensures.value c.in-Ok.ensures.prepared in serving_possible s.0 _ _ _ _ _ c.serve.result (c.serve.ensures.ends s.0 s.1)

pub returns-in-Err-clause-ends : goal.returns-in-Err-clause-ends
returns-in-Err-clause-ends g c =
    let words = c.args.words.now in
    let text = text_at words in
    let halted = c.in-Err.ensures in
    inl (
      ends_apart Serve words 6 _ _ c.tell.result c.requires
          (ends_as (unserved_answer (text 0) (text 1) (text 2) (text 3) (text 4)) _ _ (Err c.in-Err.halt) c.tell.result (λ files known. halted.goes files known (λ s. None))
          (judging {T = Report} _ _ (Err c.in-Err.halt) halted.cause) halted.stores halted.store_faults c.tell.ensures),
      refl,
    )

pub returns-in-Err-clause-counts : goal.returns-in-Err-clause-counts
returns-in-Err-clause-counts g c =
    let text = text_at c.args.words.now in
    let halted = c.in-Err.ensures in
    unheard_counted (unserved_answer (text 0) (text 1) (text 2) (text 3) (text 4)) _ _ _ c.tell.result
    (ends_as (unserved_answer (text 0) (text 1) (text 2) (text 3) (text 4)) _ _ (Err c.in-Err.halt) c.tell.result (λ files known. halted.goes files known (λ s. None))
    (judging {T = Report} _ _ (Err c.in-Err.halt) halted.cause) halted.stores halted.store_faults c.tell.ensures)

pub returns-in-Err-clause-reached : goal.returns-in-Err-clause-reached
returns-in-Err-clause-reached g c =
    let words = c.args.words.now in
    let text = text_at words in
    let at = halted_at (unserved_answer (text 0) (text 1) (text 2) (text 3) (text 4)) _ _ _ _ c.in-Err.halt c.in-Err.ensures.cause c.in-Err.ensures.reached in
    either_apart words _ _ _ _ c.requires at

pub returns-in-Err-clause-possible : goal.returns-in-Err-clause-possible
returns-in-Err-clause-possible g c = told_possible Serve (Err c.in-Err.halt) c.tell.result _ _ _ _ c.tell.ensures (found_possible Serve tt tt _ _ (Err c.in-Err.halt) c.in-Err.ensures.cause tt)
