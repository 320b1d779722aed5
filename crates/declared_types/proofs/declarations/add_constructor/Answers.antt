use Rattle.std.proofs.Common.{◌∷◌, not, map, sym, ap, ◌∙◌}
use Rattle.auth_syntax.specs.Trees.{constructor_of, name_of, type_of}
use Rattle.declared_types.specs.Checking.{Sound, then_checked}
use Rattle.declared_types.specs.Declarations.{checked_fields}
use Rattle.declared_types.specs.DeclaredNames.{names_met}
use Rattle.declared_types.proofs.Constructors.{constructor_again, constructor_too_many, constructor_fields, finds_then}
use Rattle.declared_types.proofs.NamesBefore.{names_with, new_to}
use Rattle.declared_types.proofs.declarations.add_constructor.Goals as goal

pub returns-then-not-branch : goal.returns-then-not-branch
returns-then-not-branch c =
    let names = names_met c.args.names.now.keys in
    let name = c.args.constructor.now.name.name in
    constructor_again c.args.before names (constructor_of c.args.constructor.now) (Sound (name ∷ names))
    (new_to c.args.names.now.keys c.as_bytes.result name c.as_bytes.ensures.bytes c.in_ok-insert.field-0 c.in_ok-insert.ensures.added
    ∙ ap not c.if-not-branch.true)

pub returns-then-before-ge-MOST_CONSTRUCTORS : goal.returns-then-before-ge-MOST_CONSTRUCTORS
returns-then-before-ge-MOST_CONSTRUCTORS c =
    let names = names_met c.args.names.now.keys in
    let name = c.args.constructor.now.name.name in
    constructor_too_many c.args.before names (constructor_of c.args.constructor.now) (Sound (name ∷ names))
    (new_to c.args.names.now.keys c.as_bytes.result name c.as_bytes.ensures.bytes c.in_ok-insert.field-0 c.in_ok-insert.ensures.added
    ∙ ap not c.if-not-branch.false) c.if-before-ge-MOST_CONSTRUCTORS.true

pub returns : goal.returns
returns c =
    let names = names_met c.args.names.now.keys in
    let name = c.args.constructor.now.name.name in
    let fields = checked_fields 0 (map type_of c.args.constructor.now.fields.items) in
    let met = ap names_met c.in_ok-insert.ensures.keys
    ∙ names_with c.args.names.now.keys c.as_bytes.result (name_of c.args.constructor.now.name) c.as_bytes.ensures.bytes c.in_ok-insert.field-0
    c.in_ok-insert.ensures.added c.if-not-branch.false in
    let may_stand = constructor_fields c.args.before names (constructor_of c.args.constructor.now) (Sound (name ∷ names))
    (new_to c.args.names.now.keys c.as_bytes.result name c.as_bytes.ensures.bytes c.in_ok-insert.field-0 c.in_ok-insert.ensures.added
    ∙ ap not c.if-not-branch.false) c.if-before-ge-MOST_CONSTRUCTORS.false in
    finds_then _ fields _ c.check_fields.result (may_stand ∙ ap (λ ns. then_checked fields (λ _. Sound ns)) (sym met))
    (rw c.deref.ensures.value at c.check_fields.ensures)
