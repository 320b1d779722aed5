use Rattle.std.proofs.Common.{◌≡◌, ◌⊎◌, ℕ, ap, sym, subst, ◌∙◌}
use Rattle.command_words.specs.Commands.{texts}
use Rattle.command_words.specs.Invocations.{Invocation, invocation_of}
use Rattle.command_words.specs.declared.command.Command.TheVariants.{Ask, Audit, Draw, Found, Host, Mirror, Prove, Replay, Serve}
use Rattle.command_words.proofs.Judging.{refused_exactly}
use Rattle.command_parts.specs.Answer.{answer}
use Rattle.call_commands.specs.AuditedCalls.{TellsAnAudit}
use Rattle.command_parts.specs.Ending.{IsOfFault}
use Rattle.call_commands.specs.TrueLines.{TellsOutcome}
use Rattle.auth_cli.proofs.AnsweredRuns.{audited_run, prove_tells, proved_run, split_tells}
use Rattle.auth_cli.proofs.Answered.{answered, fault_line, memory_line, part_written, stored, stored_first}
use Rattle.auth_cli.proofs.AskTruths.{asked_truth}
use Rattle.auth_cli.proofs.Called.{refused_code}
use Rattle.auth_cli.proofs.DrawTruths.{drawn_truth}
use Rattle.auth_cli.proofs.NetRuns.{command_is_offline, fetched_run, reached_risen, run_calls, run_dials, run_fault, run_listens, run_offline, run_rose, run_writes, true_run}
use Rattle.auth_cli.proofs.RunCounts.{AreBelow}
use Rattle.command_parts.proofs.Possible.{collision_alone, usage_alone}
use Rattle.command_parts.proofs.Reached.{read_fault_of_code}
use Rattle.auth_cli.proofs.top.run.Goals as goal

pub returns-clause-ends : goal.returns-clause-ends
returns-clause-ends g c = λ offline. (c.ended.result, c.code.ensures, run_offline _ _ _ _ _ _ c.ended.result (texts c.args.words.now) offline c.ended.ensures.ends)

pub returns-clause-serves : goal.returns-clause-serves
returns-clause-serves g c = λ called is serve.
    (c.ended.result, c.code.ensures, (run_calls _ _ _ _ _ _ c.ended.result Serve (invocation_of (texts c.args.words.now)) called is serve c.ended.ensures.ends).0)

pub returns-clause-asks : goal.returns-clause-asks
returns-clause-asks g c = λ called is ask.
    (c.ended.result, c.code.ensures, (run_calls _ _ _ _ _ _ c.ended.result Ask (invocation_of (texts c.args.words.now)) called is ask c.ended.ensures.ends).0)

pub returns-clause-told_truth : goal.returns-clause-told_truth
returns-clause-told_truth g c = λ called is ask asking name calls. asked_truth asking calls.of_sources

pub returns-clause-mirrors : goal.returns-clause-mirrors
returns-clause-mirrors g c = λ called is mirror.
    (c.ended.result, c.code.ensures, (run_calls _ _ _ _ _ _ c.ended.result Mirror (invocation_of (texts c.args.words.now)) called is mirror c.ended.ensures.ends).0)

pub returns-clause-draws : goal.returns-clause-draws
returns-clause-draws g c = λ called is draw.
    (c.ended.result, c.code.ensures, (run_calls _ _ _ _ _ _ c.ended.result Draw (invocation_of (texts c.args.words.now)) called is draw c.ended.ensures.ends).0)

pub returns-clause-drawn_truth : goal.returns-clause-drawn_truth
returns-clause-drawn_truth g c = λ called is draw drawing calls. drawn_truth called.texts drawing calls.of_sources

pub returns-clause-hosts : goal.returns-clause-hosts
returns-clause-hosts g c = λ called is host.
    (c.ended.result, c.code.ensures, (run_calls _ _ _ _ _ _ c.ended.result Host (invocation_of (texts c.args.words.now)) called is host c.ended.ensures.ends).0)

pub returns-clause-founds : goal.returns-clause-founds
returns-clause-founds g c = λ called is found.
    (c.ended.result, c.code.ensures, (run_calls _ _ _ _ _ _ c.ended.result Found (invocation_of (texts c.args.words.now)) called is found c.ended.ensures.ends).0)

pub returns-clause-replays : goal.returns-clause-replays
returns-clause-replays g c = λ called is replay.
    (c.ended.result, c.code.ensures, (run_calls _ _ _ _ _ _ c.ended.result Replay (invocation_of (texts c.args.words.now)) called is replay c.ended.ensures.ends).0)

pub returns-clause-headline : goal.returns-clause-headline
returns-clause-headline g c = rw c.code.ensures (true_run (texts c.args.words.now) _ _ _ _ _ _ c.ended.result c.ended.ensures.ends)

pub returns-clause-fetched : goal.returns-clause-fetched
returns-clause-fetched g c = rw c.code.ensures (fetched_run (texts c.args.words.now) _ _ _ _ _ _ c.ended.result c.ended.ensures.ends)

pub returns-clause-companion : goal.returns-clause-companion
returns-clause-companion g c = λ called is command tells told known.
    let line = texts c.args.words.now in
    let ends = run_offline _ _ _ _ _ _ c.ended.result line (command_is_offline (invocation_of line) called Prove is command (tt, tt)) c.ended.ensures.ends in (
      c.ended.result,
      c.code.ensures,
      proved_run line called is told _ _ known c.ended.result ends command (subst TellsOutcome c.code.ensures tells),
    )

pub returns-clause-proves : goal.returns-clause-proves
returns-clause-proves g c = λ called is told known call n name calls.
    let line = texts c.args.words.now in
    let ends = run_offline _ _ _ _ _ _ c.ended.result line (command_is_offline (invocation_of line) called Prove is (ap (λ (i : Invocation). i.command) calls.words) (tt, tt)) c.ended.ensures.ends in
    subst (λ (number : ℕ). TellsOutcome number ⊎ IsOfFault number) (sym c.code.ensures) (prove_tells line called is told _ _ known c.ended.result ends call n name calls)

pub returns-clause-audited : goal.returns-clause-audited
returns-clause-audited g c = λ called is command tells told known.
    let line = texts c.args.words.now in
    let ends = run_offline _ _ _ _ _ _ c.ended.result line (command_is_offline (invocation_of line) called Audit is command (tt, tt)) c.ended.ensures.ends in (
      c.ended.result,
      c.code.ensures,
      audited_run line called is told _ _ known c.ended.result ends command (subst TellsAnAudit c.code.ensures tells),
    )

pub returns-clause-split : goal.returns-clause-split
returns-clause-split g c = λ called is told known call proof calls split at.
    let line = texts c.args.words.now in
    let ends = run_offline _ _ _ _ _ _ c.ended.result line (command_is_offline (invocation_of line) called Audit is (ap (λ (i : Invocation). i.command) calls.words) (tt, tt)) c.ended.ensures.ends in
    subst (λ (number : ℕ). (number ≡ 11) ⊎ IsOfFault number) (sym c.code.ensures) (split_tells line called is told _ _ known c.ended.result ends call proof calls split at)

pub returns-clause-possible : goal.returns-clause-possible
returns-clause-possible g c = λ called is. (c.ended.result, c.code.ensures, c.ended.ensures.possible called is)

pub returns-clause-collision : goal.returns-clause-collision
returns-clause-collision g c = λ is. collision_alone _ c.ended.result c.ended.ensures.possible c.ended.ensures.refused (sym c.code.ensures ∙ is)

pub returns-clause-usage : goal.returns-clause-usage
returns-clause-usage g c = λ is. (refused_exactly (texts c.args.words.now)).0 (usage_alone _ c.ended.result c.ended.ensures.possible (sym c.code.ensures ∙ is))

pub returns-clause-refused : goal.returns-clause-refused
returns-clause-refused g c = λ refused.
    rw c.code.ensures (refused_code c.ended.result (c.ended.ensures.refused ((refused_exactly (texts c.args.words.now)).1 refused)))

-- what is said of words that call no command on the net or on a disk, by the answer to them
pub returns-clause-answered : goal.returns-clause-answered
returns-clause-answered g c = λ offline none other.
    let ends = run_offline _ _ _ _ _ _ c.ended.result (texts c.args.words.now) offline c.ended.ensures.ends in
    rw c.code.ensures (answered (answer (texts c.args.words.now)) _ _ c.ended.result ends none (λ is. other (c.code.ensures ∙ is)))

pub returns-clause-read_fault_line : goal.returns-clause-read_fault_line
returns-clause-read_fault_line g c = λ offline is.
    let ends = run_offline _ _ _ _ _ _ c.ended.result (texts c.args.words.now) offline c.ended.ensures.ends in
    fault_line (answer (texts c.args.words.now)) _ _ c.ended.result ends (sym c.code.ensures ∙ is)

pub returns-clause-write_part : goal.returns-clause-write_part
returns-clause-write_part g c = λ offline is.
    let ends = run_offline _ _ _ _ _ _ c.ended.result (texts c.args.words.now) offline c.ended.ensures.ends in
    part_written (answer (texts c.args.words.now)) _ _ c.ended.result ends (sym c.code.ensures ∙ is)

pub returns-clause-stored_first : goal.returns-clause-stored_first
returns-clause-stored_first g c = λ offline rose.
    let ends = run_offline _ _ _ _ _ _ c.ended.result (texts c.args.words.now) offline c.ended.ensures.ends in
    stored_first (answer (texts c.args.words.now)) _ _ c.requires.stores_below c.ended.result ends rose

pub returns-clause-no_memory : goal.returns-clause-no_memory
returns-clause-no_memory g c = λ offline is.
    let ends = run_offline _ _ _ _ _ _ c.ended.result (texts c.args.words.now) offline c.ended.ensures.ends in
    memory_line (answer (texts c.args.words.now)) _ _ c.ended.result ends (sym c.code.ensures ∙ is)

pub returns-clause-stored : goal.returns-clause-stored
returns-clause-stored g c = λ offline.
    let ends = run_offline _ _ _ _ _ _ c.ended.result (texts c.args.words.now) offline c.ended.ensures.ends in
    stored (answer (texts c.args.words.now)) _ _ c.ended.result ends

-- what the counts say of all words
pub returns-clause-reached : goal.returns-clause-reached
returns-clause-reached g c = λ is rose.
    reached_risen (answer (texts c.args.words.now)) _ _ _ _ c.ended.result c.requires.reads_below c.ended.ensures.reached (read_fault_of_code c.ended.result (sym c.code.ensures ∙ is)) rose

pub returns-clause-fault : goal.returns-clause-fault
returns-clause-fault g c = λ is. run_fault _ _ _ _ _ _ (invocation_of (texts c.args.words.now)) c.ended.result c.ended.ensures.ends (sym c.code.ensures ∙ is)

pub returns-clause-rose : goal.returns-clause-rose
returns-clause-rose g c = λ rose.
    let below : AreBelow _ = record { links = c.requires.links_below; listens = c.requires.listens_below; accepts = c.requires.accepts_below; dials = c.requires.dials_below } in
    rw c.code.ensures (run_rose _ _ _ _ _ _ c.requires.reads_below below c.requires.disk_reads_below (invocation_of (texts c.args.words.now)) c.ended.result c.ended.ensures.ends rose)

pub returns-clause-write_fault : goal.returns-clause-write_fault
returns-clause-write_fault g c =
    rw c.code.ensures (run_writes _ _ _ _ _ _ c.requires.writes_below c.requires.stores_below c.requires.disk_writes_below (invocation_of (texts c.args.words.now)) c.ended.result c.ended.ensures.ends)

pub returns-clause-dials : goal.returns-clause-dials
returns-clause-dials g c = λ none. run_dials _ _ _ _ _ _ (invocation_of (texts c.args.words.now)) c.ended.result none c.ended.ensures.ends

pub returns-clause-listens : goal.returns-clause-listens
returns-clause-listens g c = λ none. run_listens _ _ _ _ _ _ (invocation_of (texts c.args.words.now)) c.ended.result none c.ended.ensures.ends
