use Rattle.wire_form.specs.MessageViews.{request_meant}
use Rattle.serve_links.proofs.Stopping.{bad_next, cut_next, end_next, fault_next, lacking_next, long_next, request_next}
use Rattle.serve_links.proofs.Prompting.{waits_for_one}
use Rattle.serve_links.proofs.message.next_heard.Goals as goal

pub returns-in-Ok-clause-hears : goal.returns-in-Ok-clause-hears
returns-in-Ok-clause-hears g c = λ bytes told.
    let read = c.in-Ok.ensures.reads bytes told in request_next bytes read.0 (g.L.Source.left c.read_request.new.link) (request_meant c.in-Ok.request) read.1 read.2

pub returns-in-Err-BadMessage-clause-hears : goal.returns-in-Err-BadMessage-clause-hears
returns-in-Err-BadMessage-clause-hears g c = λ bytes told.
    bad_next bytes (g.L.Source.left c.read_request.new.link) c.in-Err-BadMessage.field-0 _ _ c.in-Err-BadMessage.field-0-is (c.in-Err-BadMessage.ensures.reads bytes told)

pub returns-in-Err-TooLong-clause-hears : goal.returns-in-Err-TooLong-clause-hears
returns-in-Err-TooLong-clause-hears g c = λ bytes told.
    long_next bytes (g.L.Source.left c.read_request.new.link) c.in-Err-TooLong.field-0 _ c.in-Err-TooLong.field-0-is (c.in-Err-TooLong.ensures.reads bytes told)

pub returns-in-Err-End-clause-hears : goal.returns-in-Err-End-clause-hears
returns-in-Err-End-clause-hears g c = λ bytes told.
    end_next bytes (g.L.Source.left c.read_request.new.link) c.in-Err-End.field-0 c.in-Err-End.field-0-is (c.in-Err-End.ensures.reads bytes told)

pub returns-in-Err-Cut-clause-hears : goal.returns-in-Err-Cut-clause-hears
returns-in-Err-Cut-clause-hears g c = λ bytes told.
    cut_next bytes (g.L.Source.left c.read_request.new.link) c.in-Err-Cut.field-0 c.in-Err-Cut.field-0-is (c.in-Err-Cut.ensures.reads bytes told)

pub returns-in-Err-LinkFault-clause-hears : goal.returns-in-Err-LinkFault-clause-hears
returns-in-Err-LinkFault-clause-hears g c = λ bytes told.
    fault_next bytes (g.L.Source.left c.read_request.new.link) c.in-Err-LinkFault.field-0 c.in-Err-LinkFault.field-0-is (c.in-Err-LinkFault.ensures.reads bytes told)

pub returns-in-Err-NoMemory-clause-hears : goal.returns-in-Err-NoMemory-clause-hears
returns-in-Err-NoMemory-clause-hears g c = λ bytes told.
    lacking_next bytes (g.L.Source.left c.read_request.new.link) c.in-Err-NoMemory.field-0 c.in-Err-NoMemory.field-0-is (c.in-Err-NoMemory.ensures.reads bytes told)

pub returns-in-Ok-clause-waits : goal.returns-in-Ok-clause-waits
returns-in-Ok-clause-waits g c = λ bytes told. waits_for_one bytes _ _ _ (c.read_request.ensures.waits bytes told)

pub returns-in-Err-BadMessage-clause-waits : goal.returns-in-Err-BadMessage-clause-waits
returns-in-Err-BadMessage-clause-waits g c = λ bytes told. waits_for_one bytes _ _ _ (c.read_request.ensures.waits bytes told)

pub returns-in-Err-TooLong-clause-waits : goal.returns-in-Err-TooLong-clause-waits
returns-in-Err-TooLong-clause-waits g c = λ bytes told. waits_for_one bytes _ _ _ (c.read_request.ensures.waits bytes told)

pub returns-in-Err-End-clause-waits : goal.returns-in-Err-End-clause-waits
returns-in-Err-End-clause-waits g c = λ bytes told. waits_for_one bytes _ _ _ (c.read_request.ensures.waits bytes told)

pub returns-in-Err-Cut-clause-waits : goal.returns-in-Err-Cut-clause-waits
returns-in-Err-Cut-clause-waits g c = λ bytes told. waits_for_one bytes _ _ _ (c.read_request.ensures.waits bytes told)

pub returns-in-Err-LinkFault-clause-waits : goal.returns-in-Err-LinkFault-clause-waits
returns-in-Err-LinkFault-clause-waits g c = λ bytes told. waits_for_one bytes _ _ _ (c.read_request.ensures.waits bytes told)

pub returns-in-Err-NoMemory-clause-waits : goal.returns-in-Err-NoMemory-clause-waits
returns-in-Err-NoMemory-clause-waits g c = λ bytes told. waits_for_one bytes _ _ _ (c.read_request.ensures.waits bytes told)
