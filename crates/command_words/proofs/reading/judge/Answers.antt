use Rattle.std.proofs.Common.{◌≡◌, ap, ◌∙◌, sym, subst, Err}
use Rattle.std.proofs.lemmas.Result.{err_from_is_err_and}
use Rattle.clap.specs.Words.{App, HasKind, Kinds, app_of, fault_of}
use Rattle.clap.specs.Faults.{is_simple_and_free}
use Rattle.command_words.specs.CommandLine.{command_line, naming_one, with_command}
use Rattle.command_words.specs.Commands.{texts}
use Rattle.command_words.specs.Reading.{IsJudged}
use Rattle.command_words.specs.Rows.{row_of}
use Rattle.command_words.proofs.ClapErrors.{fails_as}
use Rattle.command_words.proofs.Judging.{is_free, refuses_as_all}
use Rattle.command_words.proofs.reading.judge.Goals as goal

pub returns-in_err-try_get_matches_from : goal.returns-in_err-try_get_matches_from
returns-in_err-try_get_matches_from c =
    let words = texts c.args.words.now in
    let row = row_of c.args.row.now in
    let is_line : app_of c.in_ok-command_line.field-0 ≡ with_command naming_one row = c.in_ok-command_line.ensures in
    let e = c.in_err-try_get_matches_from.field-0.0 in
    let kinds = c.in_err-try_get_matches_from.ensures.kinds (ap is_simple_and_free is_line ∙ is_free row words c.requires.own c.requires.named) in
    let verdict = ap (λ (a : App). fault_of a words) is_line ∙ refuses_as_all row words c.requires.own c.requires.named in
    let has : HasKind (fault_of command_line words) e = subst (λ (k : Kinds). HasKind k e) verdict kinds in
    let err = err_from_is_err_and c.from_residual-in_err-try_get_matches_from.result c.from_residual-in_err-try_get_matches_from.ensures.1 in
    subst (IsJudged words) (sym (err.1 ∙ ap Err err.2)) (fails_as (Unit {0}) words e has)

pub returns : goal.returns
returns c =
    let words = texts c.args.words.now in
    let row = row_of c.args.row.now in
    let is_line : app_of c.in_ok-command_line.field-0 ≡ with_command naming_one row = c.in_ok-command_line.ensures in
    let kinds = c.in_ok-try_get_matches_from.ensures.kinds (ap is_simple_and_free is_line ∙ is_free row words c.requires.own c.requires.named) in
    sym (ap (λ (a : App). fault_of a words) is_line ∙ refuses_as_all row words c.requires.own c.requires.named) ∙ kinds
