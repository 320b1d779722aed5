use Rattle.std.proofs.Common.{◌≡◌, ◌∙◌, [], Ok, Err, refl, sym, subst, arith}
use Rattle.code_gen.specs.Programs.{program_in}
use Rattle.core_terms.proofs.CodePrograms.{is_format}
use Rattle.mode_vm.specs.Meanings.{program_of}
use Rattle.verifier_mode.proofs.Given.{gives_with}
use Rattle.lam_outside.proofs.Waiting.{none_read}
use Rattle.lam_outside.specs.LinkSteps.{AtEachRead}
use Rattle.session_meaning.specs.Client.{Byes, Calls, Hellos, take_event, waits}
use Rattle.session_meaning.specs.Messages.{messages, reply_of}
use Rattle.session_tables.specs.Tables.{rows_of}
use Rattle.ask_core.specs.Answers.{Asks}
use Rattle.ask_core.specs.Clients.{IsClient}
use Rattle.ask_core.specs.Sessions.{StandsFor}
use Rattle.ask_script.specs.ScriptAnswers.{step_meant}
use Rattle.ask_script.specs.Scripts.{Fits}
use Rattle.script_play.specs.PlayedInCode.{IsPlayed}
use Rattle.script_play.specs.Plays.{asked_play, play_step, rests, take_replies}
use Rattle.script_play.specs.Playing.{world}
use Rattle.script_play.specs.PlayingInCode.{names_of, own_of}
use Rattle.script_play.specs.Prompt.{IsPromptOn}
use Rattle.script_play.proofs.Asked.{answered_stands, answers_any}
use Rattle.script_play.proofs.HaltedLines.{line_alone, line_halts}
use Rattle.script_play.proofs.Played.{asked_fits, asked_halts, asked_stands, core_answers, core_stands}
use Rattle.script_play.proofs.playing.play_step.Goals as goal

pub hello-answered-requires-after_bounds : goal.hello-answered-requires-after_bounds
hello-answered-requires-after_bounds g c κs within = (subst (λ s. Fits (program_of c.args.core.now.code) (step_meant s)) c.in-Open.is c.requires.step).2

pub ask_and_wait-requires-clause-known : goal.ask_and_wait-requires-clause-known
ask_and_wait-requires-clause-known g c κs within =
    core_stands c.args.core.now c.hello-answered.new.self c.hello-answered.ensures.code c.requires.known.0 _ c.hello-answered.result
    (c.hello-answered.ensures.answer c.requires.known.0 c.requires.known.1)

pub ask_and_wait-requires-clause-message : goal.ask_and_wait-requires-clause-message
ask_and_wait-requires-clause-message g c κs within =
    let code = c.args.core.now.code in
    let P = program_of code in
    let new = c.hello-answered.new.self in
    let fits = subst (λ s. Fits P (step_meant s)) c.in-Open.is c.requires.step in
    asked_fits g.H.Hash32.hash P (is_format (program_in code)) (own_of code) c.requires.own c.requires.known.0 (Hellos c.in-Open.session c.in-Open.kept c.args.state.now)
    ((record { least = fits.0; fits = omega (arith, fits.1) }), omega (arith, fits.2))
    (IsClient P new.closed (rows_of new.sessions)) c.hello-answered.result (c.hello-answered.ensures.answer c.requires.known.0 c.requires.known.1)

pub returns-in-Open-clause-played : goal.returns-in-Open-clause-played
returns-in-Open-clause-played g c m is =
    let code = c.args.core.now.code in
    let P = program_of code in
    let hash = g.H.Hash32.hash in
    let own = own_of code in
    let behind = c.hello-answered.new.self in
    let same = c.hello-answered.ensures.code in
    let t = take_event hash P own m (Hellos c.in-Open.session c.in-Open.kept c.args.state.now) in
    let before = g.L.Source.left c.args.link.now in
    let left = g.L.Source.left c.ask_and_wait.new.link in
    let first = world (g.L.Source.sent c.args.link.now) (g.O.Sink.written c.args.out.now) c.args.last.now in
    let later = world (g.L.Source.sent c.ask_and_wait.new.link) (g.O.Sink.written c.ask_and_wait.new.out) c.ask_and_wait.new.last in
    let Is = StandsFor c.ask_and_wait.new.core in
    subst (λ s. IsPlayed code Is before left first later (play_step hash P own c.args.state.now (step_meant s) m) c.ask_and_wait.result) (sym c.in-Open.is)
    (subst (λ k. IsPlayed k Is before left first later
    (λ ms. asked_play t c.in-Open.session ms (take_replies hash (program_of k) (own_of k) (λ x. waits x c.in-Open.session))) c.ask_and_wait.result) same
    (c.ask_and_wait.ensures.played t (core_answers c.args.core.now behind same m t c.hello-answered.result (c.hello-answered.ensures.answer m is))))

pub ask_and_wait-requires-in-Close-clause-known : goal.ask_and_wait-requires-in-Close-clause-known
ask_and_wait-requires-in-Close-clause-known g c κs within =
    core_stands c.args.core.now c.bye-answered.new.self c.bye-answered.ensures.code c.requires.known.0 _ c.bye-answered.result
    (c.bye-answered.ensures.answer c.requires.known.0 c.requires.known.1)

pub ask_and_wait-requires-in-Close-clause-message : goal.ask_and_wait-requires-in-Close-clause-message
ask_and_wait-requires-in-Close-clause-message g c κs within =
    let code = c.args.core.now.code in
    let P = program_of code in
    let new = c.bye-answered.new.self in
    let fits = subst (λ s. Fits P (step_meant s)) c.in-Close.is c.requires.step in
    asked_fits g.H.Hash32.hash P (is_format (program_in code)) (own_of code) c.requires.own c.requires.known.0 (Byes c.in-Close.session)
    (record { least = fits.0; fits = omega (arith, fits.1) })
    (IsClient P new.closed (rows_of new.sessions)) c.bye-answered.result (c.bye-answered.ensures.answer c.requires.known.0 c.requires.known.1)

pub returns-in-Close-clause-played : goal.returns-in-Close-clause-played
returns-in-Close-clause-played g c m is =
    let code = c.args.core.now.code in
    let P = program_of code in
    let hash = g.H.Hash32.hash in
    let own = own_of code in
    let behind = c.bye-answered.new.self in
    let same = c.bye-answered.ensures.code in
    let t = take_event hash P own m (Byes c.in-Close.session) in
    let before = g.L.Source.left c.args.link.now in
    let left = g.L.Source.left c.ask_and_wait-in-Close.new.link in
    let first = world (g.L.Source.sent c.args.link.now) (g.O.Sink.written c.args.out.now) c.args.last.now in
    let later = world (g.L.Source.sent c.ask_and_wait-in-Close.new.link) (g.O.Sink.written c.ask_and_wait-in-Close.new.out) c.ask_and_wait-in-Close.new.last in
    let Is = StandsFor c.ask_and_wait-in-Close.new.core in
    subst (λ s. IsPlayed code Is before left first later (play_step hash P own c.args.state.now (step_meant s) m) c.ask_and_wait-in-Close.result) (sym c.in-Close.is)
    (subst (λ k. IsPlayed k Is before left first later
    (λ ms. asked_play t c.in-Close.session ms (take_replies hash (program_of k) (own_of k) (λ x. waits x c.in-Close.session))) c.ask_and_wait-in-Close.result) same
    (c.ask_and_wait-in-Close.ensures.played t (core_answers c.args.core.now behind same m t c.bye-answered.result (c.bye-answered.ensures.answer m is))))

pub call-answered-requires-after_bounds : goal.call-answered-requires-after_bounds
call-answered-requires-after_bounds g c κs within = omega (arith, (subst (λ s. Fits (program_of c.args.core.now.code) (step_meant s)) c.in-Call.is c.requires.step).3)

pub ask-requires : goal.ask-requires
ask-requires g c =
    let code = c.args.core.now.code in
    let P = program_of code in
    let new = c.call-answered.new.self in
    let fits = subst (λ s. Fits P (step_meant s)) c.in-Call.is c.requires.step in
    record {
      message = asked_fits g.H.Hash32.hash P (is_format (program_in code)) (own_of code) c.requires.own c.requires.known.0
          (Calls c.in-Call.session c.in-Call.role c.in-Call.fuel c.as_bytes.result.now)
          (record { least = fits.0; fits = omega (arith, fits.1) }, omega arith, omega (arith, fits.3))
          (IsClient P new.closed (rows_of new.sessions)) c.call-answered.result (c.call-answered.ensures.answer c.requires.known.0 c.requires.known.1);
    }

pub returns-in_ok-ask-in-Call-clause-played : goal.returns-in_ok-ask-in-Call-clause-played
returns-in_ok-ask-in-Call-clause-played g c m is =
    let code = c.args.core.now.code in
    let P = program_of code in
    let names = names_of code in
    let behind = c.call-answered.new.self in
    let Is = StandsFor behind in
    let t = take_event g.H.Hash32.hash P (own_of code) m (Calls c.in-Call.session c.in-Call.role c.in-Call.fuel c.in-Call.argument) in
    let before = g.L.Source.left c.args.link.now in
    let left = g.L.Source.left c.ask.new.link in
    let first = world (g.L.Source.sent c.args.link.now) (g.O.Sink.written c.args.out.now) c.args.last.now in
    let later = world (g.L.Source.sent c.ask.new.link) (g.O.Sink.written c.ask.new.out) c.ask.new.last in
    let answers = core_answers c.args.core.now behind c.call-answered.ensures.code m t c.call-answered.result
    (subst (λ a. Asks (IsClient P behind.closed (rows_of behind.sessions)) m
    (take_event g.H.Hash32.hash P (own_of code) m (Calls c.in-Call.session c.in-Call.role c.in-Call.fuel a)) c.call-answered.result) c.as_bytes.ensures
    (c.call-answered.ensures.answer m is)) in
    let any = answers_any Is m t c.call-answered.result answers in
    let stands = answered_stands Is m t c.call-answered.result c.in_ok-ask-in-Call.ensures.memory answers in
    subst (λ s. IsPlayed code Is before left first later (play_step g.H.Hash32.hash P (own_of code) c.args.state.now (step_meant s) m) (Ok (tt {0}))) (sym c.in-Call.is)
    (record {
      plays = λ ms comes. asked_stands P names t c.in-Call.session ms rests (tt {0}) c.in_ok-ask-in-Call.field-0 first later Is left stands
          (c.in_ok-ask-in-Call.ensures.plays P names t ms any comes);
      halts = λ bytes told.
          let ms = messages reply_of bytes in
          let plays = c.in_ok-ask-in-Call.ensures.plays P names t ms any (record { bytes = bytes; told = told; are = refl }) in
          line_alone P names t c.in-Call.session bytes left (c.ask.ensures.left ∙ told) Is first later ms plays.0 plays.1 stands;
    })

pub returns-in_ok-ask-in-Call-clause-known : goal.returns-in_ok-ask-in-Call-clause-known
returns-in_ok-ask-in-Call-clause-known g c =
    core_stands c.args.core.now c.call-answered.new.self c.call-answered.ensures.code c.requires.known.0 _ c.call-answered.result
    (c.call-answered.ensures.answer c.requires.known.0 c.requires.known.1)

pub returns-in_err-ask-in-Call-clause-known : goal.returns-in_err-ask-in-Call-clause-known
returns-in_err-ask-in-Call-clause-known g c =
    core_stands c.args.core.now c.call-answered.new.self c.call-answered.ensures.code c.requires.known.0 _ c.call-answered.result
    (c.call-answered.ensures.answer c.requires.known.0 c.requires.known.1)

pub returns-in_err-ask-in-Call-clause-played : goal.returns-in_err-ask-in-Call-clause-played
returns-in_err-ask-in-Call-clause-played g c m is =
    let halt = c.in_err-ask-in-Call.field-0.0 in
    let code = c.args.core.now.code in
    let P = program_of code in
    let names = names_of code in
    let behind = c.call-answered.new.self in
    let Is = StandsFor behind in
    let t = take_event g.H.Hash32.hash P (own_of code) m (Calls c.in-Call.session c.in-Call.role c.in-Call.fuel c.in-Call.argument) in
    let before = g.L.Source.left c.args.link.now in
    let left = g.L.Source.left c.ask.new.link in
    let first = world (g.L.Source.sent c.args.link.now) (g.O.Sink.written c.args.out.now) c.args.last.now in
    let later = world (g.L.Source.sent c.ask.new.link) (g.O.Sink.written c.ask.new.out) c.ask.new.last in
    let answers = core_answers c.args.core.now behind c.call-answered.ensures.code m t c.call-answered.result
    (subst (λ a. Asks (IsClient P behind.closed (rows_of behind.sessions)) m
    (take_event g.H.Hash32.hash P (own_of code) m (Calls c.in-Call.session c.in-Call.role c.in-Call.fuel a)) c.call-answered.result) c.as_bytes.ensures
    (c.call-answered.ensures.answer m is)) in
    let any = answers_any Is m t c.call-answered.result answers in
    gives_with (IsPlayed code Is before left first later (play_step g.H.Hash32.hash P (own_of code) c.args.state.now (step_meant c.args.step.now) m)) halt _ c.from_residual.ensures.1
    (subst (λ s. IsPlayed code Is before left first later (play_step g.H.Hash32.hash P (own_of code) c.args.state.now (step_meant s) m) (Err halt)) (sym c.in-Call.is)
    (record {
      plays = λ ms comes. asked_halts P names t c.in-Call.session ms rests first later (λ x. x ≡ t.client) Is left left halt (c.in_err-ask-in-Call.ensures.plays P names t ms any comes);
      halts = λ bytes told. line_halts P names t c.in-Call.session bytes left (c.ask.ensures.left ∙ told) Is rests first later halt
          (c.in_err-ask-in-Call.ensures.halts P names t (messages reply_of []) any)
          (c.in_err-ask-in-Call.ensures.plays P names t (messages reply_of bytes) any (record { bytes = bytes; told = told; are = refl }));
    }))

pub returns-in-Go-clause-played : goal.returns-in-Go-clause-played
returns-in-Go-clause-played g c m is =
    let code = c.args.core.now.code in
    let first = world (g.L.Source.sent c.args.link.now) (g.O.Sink.written c.args.out.now) c.args.last.now in
    let later = world (g.L.Source.sent c.let_run.new.link) (g.O.Sink.written c.let_run.new.out) c.let_run.new.last in
    subst (λ s. IsPlayed code (StandsFor c.let_run.new.core) (g.L.Source.left c.args.link.now) (g.L.Source.left c.let_run.new.link) first later
    (play_step g.H.Hash32.hash (program_of code) (own_of code) c.args.state.now (step_meant s) m) c.let_run.result) (sym c.in-Go.is) (c.let_run.ensures.played m is)

pub returns-in-Open-clause-prompt : goal.returns-in-Open-clause-prompt
returns-in-Open-clause-prompt g c m bytes is told =
    let code = c.args.core.now.code in
    let P = program_of code in
    let hash = g.H.Hash32.hash in
    let own = own_of code in
    let behind = c.hello-answered.new.self in
    let same = c.hello-answered.ensures.code in
    let t = take_event hash P own m (Hellos c.in-Open.session c.in-Open.kept c.args.state.now) in
    let sent = g.L.Source.sent c.args.link.now in
    let reads = g.L.Source.reads c.args.link.now in
    let reads' = g.L.Source.reads c.ask_and_wait.new.link in
    subst (λ s. AtEachRead (IsPromptOn bytes sent (play_step hash P own c.args.state.now (step_meant s) m)) reads reads') (sym c.in-Open.is)
    (subst (λ k. AtEachRead (IsPromptOn bytes sent
    (λ ms. asked_play t c.in-Open.session ms (take_replies hash (program_of k) (own_of k) (λ x. waits x c.in-Open.session)))) reads reads') same
    (c.ask_and_wait.ensures.prompt t bytes (core_answers c.args.core.now behind same m t c.hello-answered.result (c.hello-answered.ensures.answer m is)) told))

pub returns-in-Close-clause-prompt : goal.returns-in-Close-clause-prompt
returns-in-Close-clause-prompt g c m bytes is told =
    let code = c.args.core.now.code in
    let P = program_of code in
    let hash = g.H.Hash32.hash in
    let own = own_of code in
    let behind = c.bye-answered.new.self in
    let same = c.bye-answered.ensures.code in
    let t = take_event hash P own m (Byes c.in-Close.session) in
    let sent = g.L.Source.sent c.args.link.now in
    let reads = g.L.Source.reads c.args.link.now in
    let reads' = g.L.Source.reads c.ask_and_wait-in-Close.new.link in
    subst (λ s. AtEachRead (IsPromptOn bytes sent (play_step hash P own c.args.state.now (step_meant s) m)) reads reads') (sym c.in-Close.is)
    (subst (λ k. AtEachRead (IsPromptOn bytes sent
    (λ ms. asked_play t c.in-Close.session ms (take_replies hash (program_of k) (own_of k) (λ x. waits x c.in-Close.session)))) reads reads') same
    (c.ask_and_wait-in-Close.ensures.prompt t bytes (core_answers c.args.core.now behind same m t c.bye-answered.result (c.bye-answered.ensures.answer m is)) told))

pub returns-in_ok-ask-in-Call-clause-prompt : goal.returns-in_ok-ask-in-Call-clause-prompt
returns-in_ok-ask-in-Call-clause-prompt g c m bytes is told = none_read _ _ _ c.ask.ensures.reads

pub returns-in_err-ask-in-Call-clause-prompt : goal.returns-in_err-ask-in-Call-clause-prompt
returns-in_err-ask-in-Call-clause-prompt g c m bytes is told = none_read _ _ _ c.ask.ensures.reads

pub returns-in-Go-clause-prompt : goal.returns-in-Go-clause-prompt
returns-in-Go-clause-prompt g c m bytes is told =
    let code = c.args.core.now.code in
    subst (λ s. AtEachRead (IsPromptOn bytes (g.L.Source.sent c.args.link.now) (play_step g.H.Hash32.hash (program_of code) (own_of code) c.args.state.now (step_meant s) m))
    (g.L.Source.reads c.args.link.now) (g.L.Source.reads c.let_run.new.link)) (sym c.in-Go.is) (c.let_run.ensures.prompt m bytes is told)
