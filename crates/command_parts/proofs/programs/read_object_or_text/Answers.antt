use Rattle.std.proofs.Common.{◌≡◌, ℕ, List, IfOk, sym, ◌∙◌, subst}
use Rattle.core_terms.specs.Programs.{constructor_names, meaning}
use Rattle.core_terms.specs.declared.program.Program.{Program}
use Rattle.command_parts.specs.ReadPrograms.{ReadsProgram}
use Rattle.command_parts.specs.TextPrograms.{FileProgram}
use Rattle.command_parts.proofs.FileReadings.{accepted_names, accepted_reads, as_text, names_as_text, object_fits, refused_reads, text_fits}
use Rattle.command_parts.proofs.programs.read_object_or_text.Goals as goal

pub accept-requires : goal.accept-requires
accept-requires c = record { fits = object_fits c.args.bytes.now c.requires }

pub returns-in_err-accept-clause-answer : goal.returns-in_err-accept-clause-answer
returns-in_err-accept-clause-answer c =
    let begins = sym c.begins_as_object.ensures ∙ c.if-begins_as_object.true in
    refused_reads c.args.bytes.now begins c.in_err-accept.field-0.0 c.in_err-accept.ensures.accepts c.from_residual.result c.from_residual.ensures.1

pub returns-then-begins_as_object-clause-answer : goal.returns-then-begins_as_object-clause-answer
returns-then-begins_as_object-clause-answer c =
    let begins = sym c.begins_as_object.ensures ∙ c.if-begins_as_object.true in
    accepted_reads c.args.bytes.now begins c.in_ok-accept.field-0 c.in_ok-accept.ensures.accepts

pub returns-then-begins_as_object-clause-names : goal.returns-then-begins_as_object-clause-names
returns-then-begins_as_object-clause-names c =
    let begins = sym c.begins_as_object.ensures ∙ c.if-begins_as_object.true in
    accepted_names c.args.bytes.now begins c.in_ok-accept.field-0 c.in_ok-accept.ensures.accepts

pub read_program-requires : goal.read_program-requires
read_program-requires c = text_fits c.args.bytes.now (sym c.begins_as_object.ensures ∙ c.if-begins_as_object.false) c.requires

pub returns-clause-answer : goal.returns-clause-answer
returns-clause-answer c =
    let begins = sym c.begins_as_object.ensures ∙ c.if-begins_as_object.false in
    subst (λ (found : FileProgram). ReadsProgram meaning found c.read_program.result) (sym (as_text c.args.bytes.now begins)) c.read_program.ensures.answer

pub returns-clause-names : goal.returns-clause-names
returns-clause-names c =
    let begins = sym c.begins_as_object.ensures ∙ c.if-begins_as_object.false in
    subst (λ (names : ℕ → List (List ℕ)). IfOk c.read_program.result (λ (p : Program). constructor_names p.types.named.items ≡ names)) (sym (names_as_text c.args.bytes.now begins))
    c.read_program.ensures.names
