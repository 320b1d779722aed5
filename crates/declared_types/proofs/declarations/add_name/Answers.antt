use Rattle.std.proofs.Common.{sym, ap, ◌∙◌}
use Rattle.auth_syntax.specs.Trees.{name_of}
use Rattle.declared_types.specs.Checking.{Sound}
use Rattle.declared_types.specs.DeclaredNames.{names_met}
use Rattle.declared_types.proofs.NamesBefore.{name_again, name_too_many, name_stands, names_with}
use Rattle.declared_types.proofs.declarations.add_name.Goals as goal

pub returns-then-not-branch : goal.returns-then-not-branch
returns-then-not-branch c =
    name_again c.args.names.now.keys c.as_bytes.result _ _ _ _ c.as_bytes.ensures.bytes c.in_ok-insert.field-0 c.in_ok-insert.ensures.added
    _ c.in_ok-insert.ensures.len c.if-not-branch.true

pub returns-then-len-most : goal.returns-then-len-most
returns-then-len-most c =
    name_too_many c.args.names.now.keys c.as_bytes.result _ _ _ _ c.as_bytes.ensures.bytes c.in_ok-insert.field-0 c.in_ok-insert.ensures.added c.len.result
    (c.len.ensures.len ∙ c.in_ok-insert.ensures.len) c.if-not-branch.false c.if-len-most.true

pub returns : goal.returns
returns c =
    name_stands c.args.names.now.keys c.as_bytes.result _ _ _ _ c.as_bytes.ensures.bytes c.in_ok-insert.field-0 c.in_ok-insert.ensures.added c.len.result
    (c.len.ensures.len ∙ c.in_ok-insert.ensures.len) c.if-not-branch.false c.if-len-most.false
    ∙ ap Sound (sym (ap names_met c.in_ok-insert.ensures.keys
    ∙ names_with c.args.names.now.keys c.as_bytes.result (name_of c.args.name.now) c.as_bytes.ensures.bytes c.in_ok-insert.field-0
    c.in_ok-insert.ensures.added c.if-not-branch.false))
