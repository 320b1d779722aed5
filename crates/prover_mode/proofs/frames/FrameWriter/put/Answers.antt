use Rattle.std.proofs.Common.{[], ◌∷◌, ◌++◌, ◌+◌, ◌≡◌, refl, sym, ap, subst, ◌∙◌, arith}
use Rattle.ideal_meaning.specs.Frames.{New, frame_bytes, place_of}
use Rattle.reuse_buffer.specs.Index.{IsBucketOf}
use Rattle.prover_mode.proofs.Writing.{writes_new, writes_use}
use Rattle.prover_mode.proofs.frames.FrameWriter.put.Goals as goal

pub place_in-requires : goal.place_in-requires
place_in-requires c =
    let same = c.deref.ensures.value ∙ sym c.deref-2.ensures.value in
    subst (λ bytes. IsBucketOf c.args.self.now.ring.size bytes c.bucket-bucket.result) same c.bucket-bucket.ensures

pub push_in-unused-requires : goal.push_in-unused-requires
push_in-unused-requires c = subst (λ bytes. IsBucketOf c.args.self.now.ring.size bytes c.bucket-bucket.result) c.deref.ensures.value c.bucket-bucket.ensures

pub returns-in_ok-put_use-in-Some-clause-written : goal.returns-in_ok-put_use-in-Some-clause-written
returns-in_ok-put_use-in-Some-clause-written c n recent pieces h =
    let p = c.args.piece.items in
    let old = c.args.self.now in
    let found = ap (λ p. place_of p old.ring.pieces) (sym c.deref-2.ensures.value) ∙ sym c.place_in.ensures ∙ c.in-Some.is in
    let none : old.fresh ≡ old.fresh + 0 = omega arith in
    writes_use n recent pieces p old _ h c.in-Some.k found c.in_ok-put_use-in-Some.ensures none refl refl

pub returns-in_ok-put_new-in-None-clause-written : goal.returns-in_ok-put_new-in-None-clause-written
returns-in_ok-put_new-in-None-clause-written c n recent pieces h =
    let p = c.args.piece.items in
    let old = c.args.self.now in
    let none = ap (λ p. place_of p old.ring.pieces) (sym c.deref-2.ensures.value) ∙ sym c.place_in.ensures ∙ c.in-None.is in
    let bytes = c.in_ok-put_new-in-None.ensures ∙ ap (λ p. old.bytes.items ++ frame_bytes (New p ∷ [])) c.deref-in-None.ensures.value in
    let same : old.again ≡ old.again + 0 = omega arith in
    writes_new n recent pieces p old _ h none bytes refl same c.push_in-unused.ensures.last
