use Rattle.mirror_links.proofs.Asking.{bad_next, cut_next, digest_next, end_next, fault_next, lacking_next, long_next}
use Rattle.mirror_links.proofs.connection.next_asked.Goals as goal

pub returns-in-Ok-clause-asks : goal.returns-in-Ok-clause-asks
returns-in-Ok-clause-asks g c = λ bytes told.
    let read = c.in-Ok.ensures.reads bytes told in digest_next bytes read.0 (g.L.Source.left c.read_fetch.new.link) c.in-Ok.digest.0 read.1 read.2

pub returns-in-Err-BadMessage-clause-asks : goal.returns-in-Err-BadMessage-clause-asks
returns-in-Err-BadMessage-clause-asks g c = λ bytes told.
    bad_next bytes (g.L.Source.left c.read_fetch.new.link) c.in-Err-BadMessage.field-0 _ _ c.in-Err-BadMessage.field-0-is (c.in-Err-BadMessage.ensures.reads bytes told)

pub returns-in-Err-TooLong-clause-asks : goal.returns-in-Err-TooLong-clause-asks
returns-in-Err-TooLong-clause-asks g c = λ bytes told.
    long_next bytes (g.L.Source.left c.read_fetch.new.link) c.in-Err-TooLong.field-0 _ c.in-Err-TooLong.field-0-is (c.in-Err-TooLong.ensures.reads bytes told)

pub returns-in-Err-End-clause-asks : goal.returns-in-Err-End-clause-asks
returns-in-Err-End-clause-asks g c = λ bytes told.
    end_next bytes (g.L.Source.left c.read_fetch.new.link) c.in-Err-End.field-0 c.in-Err-End.field-0-is (c.in-Err-End.ensures.reads bytes told)

pub returns-in-Err-Cut-clause-asks : goal.returns-in-Err-Cut-clause-asks
returns-in-Err-Cut-clause-asks g c = λ bytes told.
    cut_next bytes (g.L.Source.left c.read_fetch.new.link) c.in-Err-Cut.field-0 c.in-Err-Cut.field-0-is (c.in-Err-Cut.ensures.reads bytes told)

pub returns-in-Err-LinkFault-clause-asks : goal.returns-in-Err-LinkFault-clause-asks
returns-in-Err-LinkFault-clause-asks g c = λ bytes told.
    fault_next bytes (g.L.Source.left c.read_fetch.new.link) c.in-Err-LinkFault.field-0 c.in-Err-LinkFault.field-0-is (c.in-Err-LinkFault.ensures.reads bytes told)

pub returns-in-Err-NoMemory-clause-asks : goal.returns-in-Err-NoMemory-clause-asks
returns-in-Err-NoMemory-clause-asks g c = λ bytes told.
    lacking_next bytes (g.L.Source.left c.read_fetch.new.link) c.in-Err-NoMemory.field-0 c.in-Err-NoMemory.field-0-is (c.in-Err-NoMemory.ensures.reads bytes told)
