use Rattle.std.proofs.Common.{◌∙◌, None, Some, sym}
use Rattle.core_terms.specs.Programs.{constructor_names, meaning, types_of}
use Rattle.core_terms.specs.TypeTables.{type_at}
use Rattle.ask_script.proofs.Forms.{call_form, call_told}
use Rattle.ask_script.proofs.calls.read_call.Goals as goal

pub returns-in_default-read_called : goal.returns-in_default-read_called
returns-in_default-read_called c =
    let P = meaning c.args.program.now in
    let names = constructor_names c.args.program.now.types.named.items in
    let words = c.in-Some.words in
    sym (call_form P names c.args.words.now words.session.now words.role.now words.fuel.now words.argument.now c.in-Some.ensures.cut
    ∙ c.in_default-read_called.ensures.refused (cc) names words.argument.now)

pub returns-in_default-2 : goal.returns-in_default-2
returns-in_default-2 c =
    let words = c.in-Some.words in
    let called = c.in-Some-read_called.called in
    let told = c.in-Some-read_called.ensures in
    call_told (meaning c.args.program.now) (constructor_names c.args.program.now.types.named.items) c.args.words.now
    words.session.now words.role.now words.fuel.now words.argument.now called.session called.role called.fuel
    (type_at (types_of c.args.program.now) called.argument) None
    c.in-Some.ensures.cut told.session told.role told.argument told.fuel (sym c.in_default-2.is ∙ c.in_ok-argument.ensures)

pub returns : goal.returns
returns c =
    let words = c.in-Some.words in
    let called = c.in-Some-read_called.called in
    let told = c.in-Some-read_called.ensures in
    call_told (meaning c.args.program.now) (constructor_names c.args.program.now.types.named.items) c.args.words.now
    words.session.now words.role.now words.fuel.now words.argument.now called.session called.role called.fuel
    (type_at (types_of c.args.program.now) called.argument) (Some c.in-Some-2.argument)
    c.in-Some.ensures.cut told.session told.role told.argument told.fuel (sym c.in-Some-2.is ∙ c.in_ok-argument.ensures)
