use Rattle.std.proofs.Common.{◌∙◌, sym}
use Rattle.core_terms.proofs.TypePushing.{length-types}
use Rattle.core_terms.proofs.types.TyTable.len.Goals as goal

pub returns : goal.returns
returns c = c.len.ensures.len ∙ sym (length-types c.args.self.now.forms.keys)
