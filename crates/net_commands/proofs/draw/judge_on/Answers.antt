use Rattle.std.proofs.Common.{rules}
use Rattle.code_gen.specs.Programs.{program_in}
use Rattle.core_terms.specs.Programs.{meaning, types_of}
use Rattle.core_terms.specs.RoleViews.{role_kind_of}
use Rattle.core_terms.specs.TypeTables.{type_at}
use Rattle.command_parts.specs.declared.roles.Callee.TheVariants.{OfState}
use Rattle.command_parts.proofs.RoleShapes.{calls_reads, function_there}
use Rattle.net_commands.specs.PreparedDrawings.{drawing_of}
use Rattle.net_commands.specs.DrawSteps.{JudgesOn}
use Rattle.net_commands.proofs.DrawLinks.{ends_as, judged_on}
use Rattle.net_commands.proofs.draw.judge_on.Goals as goal

pub verify_from-requires-clause-there : goal.verify_from-requires-clause-there
verify_from-requires-clause-there g c κs within =
    let p = program_in c.args.held.now.code in
    let called = c.args.held.now.call.called in
    function_there (meaning p) called.function.0 (role_kind_of called.kind) (type_at (types_of p) called.argument) c.requires.answer c.requires.shape

pub verify_from-requires-clause-role : goal.verify_from-requires-clause-role
verify_from-requires-clause-role g c κs within =
    let p = program_in c.args.held.now.code in
    let called = c.args.held.now.call.called in
    (role_kind_of called.kind, type_at (types_of p) called.argument, c.requires.answer, c.requires.shape, calls_reads OfState (role_kind_of called.kind) tt c.requires.called)

pub verify_from-requires-clause-fuel_fits : goal.verify_from-requires-clause-fuel_fits
verify_from-requires-clause-fuel_fits g c κs within = c.requires.fuel_fits

pub returns-clause-judges : goal.returns-clause-judges
returns-clause-judges g c =
    let call = (drawing_of c.args.held.now).call in
    ends_as (λ link. JudgesOn call (g.L.Source.given c.args.link.now) (g.L.Source.left c.args.link.now) (g.L.Source.sent c.args.link.now) (g.L.Source.given link) (g.L.Source.left link)
    (g.L.Source.sent link) c.verify_from.result) _ c.verify_from.new.from.link.now
    (judged_on (λ from. g.L.Source.given from.link.now) (λ from. g.L.Source.left from.link.now) (λ from. g.L.Source.sent from.link.now) call _ c.verify_from.new.from c.verify_from.result
    c.deref.result.now c.as_bytes.result.now c.deref.ensures.value c.as_bytes.ensures c.verify_from.ensures.judges) (search rules)
