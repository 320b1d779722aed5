use Rattle.std.proofs.Common.{◌≤◌, ◌+◌, ◌++◌, ◌∷◌, [], ℕ, List, length, take, arith, sym, ap, ◌∙◌, subst}
use Rattle.core_terms.specs.Formats.{IsHash}
use Rattle.core_terms.specs.ProgramTypes.{types_meaning}
use Rattle.prover_mode.specs.Seen.{pieces_of}
use Rattle.prover_mode.specs.Written.{HasWritten}
use Rattle.prover_mode.proofs.FrameLengths.{seen_first, too_long}
use Rattle.prover_mode.proofs.Pieces.{is_honest, no_piece, one_counted, seen_at, seen_ends, seen_whole, short_spelling, shows, stands_at}
use Rattle.prover_mode.proofs.frames.write_frames.Goals as goal

pub loop-ty-init : goal.loop-ty-init
loop-ty-init g c = record {
  short = let none = ap (λ (bytes : List ℕ). length bytes) c.new-writer.ensures.empty in omega (arith, none);
  count = c.new-writer.ensures.count;
  written = λ seen recent h holds.
      subst (λ (ps : List (List ℕ)). HasWritten c.args.ring.size recent ps c.new-writer.result)
      (sym (no_piece g.H.Hash32.hash c.args.types.now (g.N.Nodes.nodes c.args.store.now) seen h)) (c.new-writer.ensures.written recent holds);
}

pub spell_into-requires : goal.spell_into-requires
spell_into-requires g c =
    let hash = g.H.Hash32.hash in
    let is_hash : IsHash hash = (g.met.H.Hash32 g.world.𝓛 g.world.𝓜 g.world.𝓡 ((λ s x. x), (λ x. x), (λ x. x), (λ x. x))).digest_length in
    let types = c.args.types.now in
    let nodes = g.N.Nodes.nodes c.args.store.now in
    let s = seen_at hash types nodes c.args.opened.now c.requires.seen.0 c.loop-ty.ty-index _ c.requires.seen.1 c.loop-ty-test.true in
    (_, shows hash types nodes is_hash _ s.0 s.1)

pub put-requires-clause-short : goal.put-requires-clause-short
put-requires-clause-short g c =
    let hash = g.H.Hash32.hash in
    let is_hash : IsHash hash = (g.met.H.Hash32 g.world.𝓛 g.world.𝓜 g.world.𝓡 ((λ s x. x), (λ x. x), (λ x. x), (λ x. x))).digest_length in
    let types = c.args.types.now in
    let nodes = g.N.Nodes.nodes c.args.store.now in
    let s = seen_at hash types nodes c.args.opened.now c.requires.seen.0 c.loop-ty.ty-index _ c.requires.seen.1 c.loop-ty-test.true in
    let shown = shows hash types nodes is_hash _ s.0 s.1 in
    short_spelling (g.met.N.Nodes.greatest c.args.store.now) (types_meaning types).types nodes _ _ _ (g.met.N.Nodes.sound c.args.store.now) shown c.spell_into.new.buffer.items
    (c.in_ok-spell_into.ensures.spelling _ shown)

pub loop-ty-preserved : goal.loop-ty-preserved
loop-ty-preserved g c =
    let hash = g.H.Hash32.hash in
    let is_hash : IsHash hash = (g.met.H.Hash32 g.world.𝓛 g.world.𝓜 g.world.𝓡 ((λ s x. x), (λ x. x), (λ x. x), (λ x. x))).digest_length in
    let types = c.args.types.now in
    let nodes = g.N.Nodes.nodes c.args.store.now in
    record {
      short = omega arith;
      count = one_counted (c.put.new.self.fresh + c.put.new.self.again) (c.loop-ty.writer.fresh + c.loop-ty.writer.again) c.loop-ty.ty-index c.in_ok-put.ensures.count c.loop-ty.invariant.count;
      written = λ seen recent h holds.
          let e = seen_ends hash types nodes c.args.opened.now c.loop-ty.ty-index _ seen h c.loop-ty-test.true in
          let spelled = c.in_ok-spell_into.ensures.projected hash _ is_hash (stands_at hash types nodes is_hash _ e.last e.is_seen) in
          let piece = is_honest hash types nodes is_hash _ e.last e.is_seen c.spell_into.new.buffer.items spelled in
          let n = c.args.ring.size in
          let more = c.in_ok-put.ensures.written n recent (pieces_of hash types e.front) (c.loop-ty.invariant.written e.front recent e.before holds) in
          subst (λ (ps : List (List ℕ)). HasWritten n recent ps c.put.new.self) (ap (λ (p : List ℕ). pieces_of hash types e.front ++ p ∷ []) piece ∙ sym e.pieces) more;
    }

pub returns-then-len-most-clause-written : goal.returns-then-len-most-clause-written
returns-then-len-most-clause-written g c seen recent h holds =
    let hash = g.H.Hash32.hash in
    let is_hash : IsHash hash = (g.met.H.Hash32 g.world.𝓛 g.world.𝓜 g.world.𝓡 ((λ s x. x), (λ x. x), (λ x. x), (λ x. x))).digest_length in
    let types = c.args.types.now in
    let nodes = g.N.Nodes.nodes c.args.store.now in
    let i = c.loop-ty.ty-index in
    let first = seen_first hash types nodes c.args.opened.now (i + 1) seen h in
    let e = seen_ends hash types nodes c.args.opened.now i _ (take (i + 1) seen) first c.loop-ty-test.true in
    let spelled = c.in_ok-spell_into.ensures.projected hash _ is_hash (stands_at hash types nodes is_hash _ e.last e.is_seen) in
    let piece = is_honest hash types nodes is_hash _ e.last e.is_seen c.spell_into.new.buffer.items spelled in
    let n = c.args.ring.size in
    let more = c.in_ok-put.ensures.written n recent (pieces_of hash types e.front) (c.loop-ty.invariant.written e.front recent e.before holds) in
    let written = subst (λ (ps : List (List ℕ)). HasWritten n recent ps c.put.new.self) (ap (λ (p : List ℕ). pieces_of hash types e.front ++ p ∷ []) piece ∙ sym e.pieces) more in
    too_long hash types nodes n c.args.most (i + 1) recent seen c.put.new.self written (omega arith)

pub returns-clause-written : goal.returns-clause-written
returns-clause-written g c seen recent h holds =
    let whole : length c.args.opened.now ≤ c.loop-ty.ty-index = omega (arith, c.loop-ty-test.false) in (
      c.loop-ty.invariant.written seen recent (seen_whole g.H.Hash32.hash c.args.types.now (g.N.Nodes.nodes c.args.store.now) c.args.opened.now c.loop-ty.ty-index seen whole h) holds,
      c.loop-ty.invariant.short,
    )
