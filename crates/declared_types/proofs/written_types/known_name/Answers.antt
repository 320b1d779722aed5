use Rattle.std.proofs.Common.{◌∙◌, sym, ap}
use Rattle.declared_types.specs.Checking.{Sound, unless_fault}
use Rattle.declared_types.specs.declared.fault.TypeKind.TheVariants.{UnknownName}
use Rattle.declared_types.proofs.NamesBefore.{among_in}
use Rattle.declared_types.proofs.written_types.known_name.Goals as goal

pub returns-then-contains : goal.returns-then-contains
returns-then-contains c =
    ap (λ known. unless_fault known UnknownName c.args.at (Sound tt))
    (among_in c.args.names.now.keys c.as_bytes.result c.args.name.now c.as_bytes.ensures.bytes ∙ sym c.contains.ensures ∙ c.if-contains.true)

pub returns-else-contains : goal.returns-else-contains
returns-else-contains c =
    ap (λ known. unless_fault known UnknownName c.args.at (Sound tt))
    (among_in c.args.names.now.keys c.as_bytes.result c.args.name.now c.as_bytes.ensures.bytes ∙ sym c.contains.ensures ∙ c.if-contains.false)
