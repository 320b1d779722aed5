use Rattle.std.proofs.Common.{◌≡◌, sym, ap, subst, ◌∙◌, IfSome}
use Rattle.core_terms.proofs.CodePrograms.{is_format}
use Rattle.core_terms.specs.Programs.{constructor_names, meaning, types_of}
use Rattle.core_terms.specs.TypeTables.{type_at}
use Rattle.core_terms.specs.declared.outcome.Outcome.TheVariants.{Done}
use Rattle.ideal_meaning.specs.SpelledOutcomes.{SpellsOutcome}
use Rattle.script_play.specs.DeedLines.{outcome_line}
use Rattle.script_play.proofs.Steps.{ok_map}
use Rattle.script_play.proofs.Told.{done_line}
use Rattle.script_play.proofs.lines.outcome_line.Goals as goal

pub returns-in-Some : goal.returns-in-Some
returns-in-Some c =
    let p = c.args.program.now in
    ok_map c.named_done_line.result c.named_done_line.ensures (λ line tells t o of_type spells.
    let is = subst (λ called. IfSome called (λ role. type_at (types_of p) role.result ≡ t)) c.in-Some.is of_type in
    let spelled = subst (λ outcome. SpellsOutcome (meaning p) t o outcome) c.in-Done.is spells in
    let spelled' = subst (λ t. SpellsOutcome (meaning p) t o (Done c.in-Done.value)) (sym is) spelled in
    let at_role = done_line (meaning p) (is_format p) (constructor_names p.types.named.items) (type_at (types_of p) c.in-Some.role.result) c.in-Done.value c.as_bytes.result.now line.items
    c.as_bytes.ensures tells o spelled' in
    at_role ∙ ap (λ t. outcome_line (meaning p) (constructor_names p.types.named.items) t o) is)
