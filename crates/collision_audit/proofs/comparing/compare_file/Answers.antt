use Rattle.std.proofs.Common.{Ok, [], drop, length, map, subst}
use Rattle.core_terms.specs.ProgramTypes.{types_meaning}
use Rattle.ideal_meaning.specs.Frames.{header, offered}
use Rattle.ideal_meaning.specs.Ideal.{honest_piece}
use Rattle.proof_stream.specs.Readers.{limit_of}
use Rattle.collision_audit.specs.Comparing.{Opens}
use Rattle.collision_audit.proofs.Parting.{ahead_first, bad_file, good_file}
use Rattle.collision_audit.proofs.comparing.compare_file.Goals as goal

pub returns-in-Some-clause-compares : goal.returns-in-Some-clause-compares
returns-in-Some-clause-compares g c seen h bytes told =
    let hash = g.H.Hash32.hash in
    let P = types_meaning c.args.types.now in
    let format = P.format in
    let honest = map (honest_piece hash P) seen in
    let left = g.S.Source.left c.open.new.proof in
    let offers = c.in-Some.offers in
    let opens = subst (λ r. Opens format.limit (header format bytes) bytes left (Ok r)) c.in-Some.is (c.in_ok-offers.ensures.opens bytes told) in
    let o = offered P.format.limit (drop 6 bytes) offers.ring.size [] in
    good_file hash P.format honest bytes (g.S.Source.left c.compare_to_end.new.proof) (header format bytes) offers.ring.size c.compare_to_end.result opens.0
    (c.compare_to_end.ensures.compares seen (length (drop 6 bytes)) o h
    (ahead_first P.format.limit (limit_of offers.reader) offers.ring left (drop 6 bytes) opens.2 opens.1 opens.3))

pub returns-in-None-clause-compares : goal.returns-in-None-clause-compares
returns-in-None-clause-compares g c seen h bytes told =
    let hash = g.H.Hash32.hash in
    let P = types_meaning c.args.types.now in
    let format = P.format in
    let left = g.S.Source.left c.open.new.proof in
    let opens = subst (λ r. Opens format.limit (header format bytes) bytes left (Ok r)) c.in-None.is (c.in_ok-offers.ensures.opens bytes told) in
    bad_file hash P.format (map (honest_piece hash P) seen) bytes left (header format bytes) opens
