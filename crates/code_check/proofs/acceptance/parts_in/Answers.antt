use Rattle.std.proofs.Common.{[], length, ap, ◌∙◌}
use Rattle.core_terms.specs.TypeNames.{all_constructor_names}
use Rattle.object_meaning.specs.Accepting.{read_judged}
use Rattle.object_meaning.proofs.ReadsWellFormed.{reads_are_well_formed}
use Rattle.object_reader.specs.ObjectViews.{object_of}
use Rattle.code_check.specs.ObjectParts.{parts_program}
use Rattle.code_check.specs.declared.parts.Parts.{Parts}
use Rattle.core_terms.proofs.ByteLists.{are_bytes}
use Rattle.code_check.proofs.acceptance.parts_in.Goals as goal

pub parts_of-requires : goal.parts_of-requires
parts_of-requires c =
    record { object = reads_are_well_formed c.args.bytes.now _ (object_of c.in_ok-object.object) [] (are_bytes c.args.bytes.now (λ i. (c.type_inv.bytes i).fits)) c.in_ok-object.ensures.1 }

pub returns-clause-parts : goal.returns-clause-parts
returns-clause-parts c = record {
  object = object_of c.in_ok-object.object;
  told = ap (read_judged (length c.args.bytes.now)) c.in_ok-object.ensures.1;
  program = ap parts_program c.in_ok-new.ensures.ok ∙ c.in_ok-parts.ensures.program;
  names = ap (λ (parts : Parts). all_constructor_names parts.named.items) c.in_ok-new.ensures.ok ∙ c.in_ok-parts.ensures.names;
}
