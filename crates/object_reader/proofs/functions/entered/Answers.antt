use Rattle.std.proofs.Common.{◌∙◌, ap, sym, subst}
use Rattle.std.proofs.lemmas.Result.{err_from_is_err_and}
use Rattle.core_terms.specs.RoleViews.{role_kind_of}
use Rattle.object_meaning.specs.Readers.{taken_as}
use Rattle.object_meaning.specs.ReadObjects.{is_lower_name, name_read}
use Rattle.object_reader.specs.Cursors.{Faults, rest_of}
use Rattle.object_reader.specs.NamesRead.{names_in}
use Rattle.object_reader.proofs.Rows.{faults_first}
use Rattle.object_reader.proofs.RolesTaken.{by_keys}
use Rattle.object_reader.proofs.functions.entered.Goals as goal

pub returns-in_err-name-clause-read : goal.returns-in_err-name-clause-read
returns-in_err-name-clause-read c = λ before known.
    let p = err_from_is_err_and c.from_residual.result c.from_residual.ensures.1 in
    rw (p.1, p.2) (subst (λ t. Faults t c.in_err-name.field-0.0) (sym (by_keys (role_kind_of c.args.kind) c.args.names.now.keys before (rest_of c.args.cursor.now) c.args.cursor.now.place known))
    (faults_first (name_read is_lower_name (names_in c.args.names.now.keys) (rest_of c.args.cursor.now) c.args.cursor.now.place) _ c.in_err-name.field-0.0 c.in_err-name.ensures.read))

pub returns-clause-read : goal.returns-clause-read
returns-clause-read c = λ before known.
    by_keys (role_kind_of c.args.kind) c.args.names.now.keys before (rest_of c.args.cursor.now) c.args.cursor.now.place known ∙ ap (taken_as (λ name. (role_kind_of c.args.kind, name))) c.in_ok-name.ensures.read

pub returns-clause-names : goal.returns-clause-names
returns-clause-names c =
    c.in_ok-name.ensures.names
