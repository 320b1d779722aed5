use Rattle.command_words.specs.Commands.{texts}
use Rattle.command_words.specs.declared.command.Command.TheVariants.{Ask, Draw, Found, Host, Mirror, Replay, Serve}
use Rattle.auth_cli.proofs.NetRuns.{online_read}
use Rattle.auth_cli.proofs.carrying_out.carry_out.Goals as goal

pub returns-in-Serve-clause-reached : goal.returns-in-Serve-clause-reached
returns-in-Serve-clause-reached g c = online_read c.args.command Serve (texts c.args.words.now) _ _ _ _ c.serve_command.result c.in-Serve.is c.serve_command.ensures.reached

pub returns-in-Ask-clause-reached : goal.returns-in-Ask-clause-reached
returns-in-Ask-clause-reached g c = online_read c.args.command Ask (texts c.args.words.now) _ _ _ _ c.ask_command.result c.in-Ask.is c.ask_command.ensures.reached

pub returns-in-Mirror-clause-reached : goal.returns-in-Mirror-clause-reached
returns-in-Mirror-clause-reached g c = online_read c.args.command Mirror (texts c.args.words.now) _ _ _ _ c.mirror_command.result c.in-Mirror.is c.mirror_command.ensures.reached

pub returns-in-Draw-clause-reached : goal.returns-in-Draw-clause-reached
returns-in-Draw-clause-reached g c = online_read c.args.command Draw (texts c.args.words.now) _ _ _ _ c.draw_command.result c.in-Draw.is c.draw_command.ensures.reached

pub returns-in-Host-clause-reached : goal.returns-in-Host-clause-reached
returns-in-Host-clause-reached g c = online_read c.args.command Host (texts c.args.words.now) _ _ _ _ c.host_command.result c.in-Host.is c.host_command.ensures.reached

pub returns-in-Found-clause-reached : goal.returns-in-Found-clause-reached
returns-in-Found-clause-reached g c = online_read c.args.command Found (texts c.args.words.now) _ _ _ _ c.found_command.result c.in-Found.is c.found_command.ensures.reached

pub returns-in-Replay-clause-reached : goal.returns-in-Replay-clause-reached
returns-in-Replay-clause-reached g c = online_read c.args.command Replay (texts c.args.words.now) _ _ _ _ c.replay_command.result c.in-Replay.is c.replay_command.ensures.reached
