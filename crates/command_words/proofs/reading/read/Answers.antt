use Rattle.std.proofs.Common.{Err, ap, sym, ◌∙◌, subst}
use Rattle.std.proofs.lemmas.Result.{err_from_is_err_and}
use Rattle.command_words.specs.Commands.{texts}
use Rattle.command_words.specs.Reading.{Reads}
use Rattle.command_words.specs.Rows.{row_of}
use Rattle.command_words.proofs.Judging.{called_with, halted}
use Rattle.command_words.proofs.reading.read.Goals as goal

pub returns-in_err-judge-clause-reads : goal.returns-in_err-judge-clause-reads
returns-in_err-judge-clause-reads c =
    let err = err_from_is_err_and c.from_residual.result c.from_residual.ensures.1 in
    subst (Reads (texts c.args.words.now)) (sym (err.1 ∙ ap Err err.2)) (halted (Unit {0}) (texts c.args.words.now) c.in_err-judge.field-0.0 c.in_err-judge.ensures)

pub returns-clause-reads : goal.returns-clause-reads
returns-clause-reads c =
    let own = sym c.is_refused.ensures ∙ c.if-is_refused.false in
    (called_with c.args.words.now (row_of c.in-Some.row.now) own c.in_ok-judge.ensures c.in-len2-up.len_at_least (sym c.in-Some.ensures)).0

pub returns-clause-counted : goal.returns-clause-counted
returns-clause-counted c =
    let own = sym c.is_refused.ensures ∙ c.if-is_refused.false in
    (called_with c.args.words.now (row_of c.in-Some.row.now) own c.in_ok-judge.ensures c.in-len2-up.len_at_least (sym c.in-Some.ensures)).1
