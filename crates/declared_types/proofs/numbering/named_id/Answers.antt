use Rattle.std.proofs.Common.{◌∙◌, ap, unwrap_or}
use Rattle.declared_types.proofs.ScopeLookups.{number_in}
use Rattle.declared_types.proofs.numbering.named_id.Goals as goal

pub returns-in-Some : goal.returns-in-Some
returns-in-Some c = ap (λ o. unwrap_or o 0) (c.in-Some.ensures.index
    ∙ number_in c.args.names.now.keys c.as_bytes.result c.args.name.now c.as_bytes.ensures.bytes)

pub returns-in-None : goal.returns-in-None
returns-in-None c = ap (λ o. unwrap_or o 0) (c.in-None.ensures.index
    ∙ number_in c.args.names.now.keys c.as_bytes.result c.args.name.now c.as_bytes.ensures.bytes)
