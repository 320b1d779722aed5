-- A frame that was taken, against the honest piece.
use Rattle.std.proofs.Common.{◌≡◌, ℕ, List, [], ◌∷◌, length, Option, Some, None, option_map, slice_get, Result, Ok, Err, refl, sym, ap, ◌∙◌}
use Rattle.ideal_meaning.specs.Checked.{cause_of}
use Rattle.ideal_meaning.specs.Frames.{End, NoMore, Offer, Offers, UseIs, offered, used_piece}
use Rattle.ideal_meaning.specs.Told.{cause_told}
use Rattle.proof_stream.specs.TakenFrames.{EndsBy, OffersBack, TakesFrame}
use Rattle.proof_stream.specs.declared.frame.Frame.TheVariants.{New, Back}
use Rattle.proof_stream.specs.declared.frame.FrameEnd.{FrameEnd}
use Rattle.proof_stream.specs.declared.frame.FrameEnd.TheVariants as frame_end
use Rattle.reuse_buffer.specs.Kept.{Kept, kept}
use Rattle.verifier_mode.specs.Faults.{end_told}
use Rattle.collision_audit.specs.Comparing.{ComparesKept, ComparesNew, EndsAs, IsAhead, TakesPiece}
use Rattle.collision_audit.specs.declared.audited.AuditFault.{AuditFault}
use Rattle.collision_audit.specs.declared.offers.Offered.{Offered}
use Rattle.collision_audit.specs.declared.offers.Offered.TheVariants.{Same, Other, Ended}

-- a ring that holds the last of these pieces holds them whatever its size is called
pub holds_last : (ring : Kept) (n : ℕ) (recent : List (List ℕ)) → ring ≡ kept n recent → ring ≡ kept ring.size recent
holds_last ring n recent e = e ∙ ap (λ m. kept m recent) (sym (ap (λ (r : Kept). r.size) e))

module _ (limit : ℕ) (ring : Kept) (left : Option (List ℕ)) (count : ℕ) (o : Offer) (ahead : IsAhead limit ring left count o) (place : ℕ) (honest : List ℕ) (limit' : ℕ) (same : limit' ≡ limit)
    (left' : Option (List ℕ)) where
  abbrev n : ℕ
  n = ring.size

  -- a new piece
  pub takes_new : (piece : List ℕ) (ring' : Kept) (found : Offered) → TakesFrame limit ahead.bytes piece left' (Ok New) → ComparesNew piece honest ring ring' found
      → TakesPiece place honest o limit' ring' left' (Ok found)
  takes_new piece ring' Same (rest, new, told) h =
      let more = offered limit rest n (piece ∷ ahead.recent) in
      let holds = h.2 ahead.recent ahead.holds in
      let size : ring'.size ≡ n = ap (λ (r : Kept). r.size) holds in
      let here : o ≡ Offers piece (length rest) more = ahead.is ∙ (new n ahead.recent).0 in (
        length rest,
        more,
        here ∙ ap (λ bytes. Offers bytes (length rest) more) h.0,
        record {
          bytes = rest;
          recent = piece ∷ ahead.recent;
          told = told;
          holds = holds_last ring' n (piece ∷ ahead.recent) holds;
          counted = refl;
          is = ap (λ limit. offered limit rest n (piece ∷ ahead.recent)) (sym same) ∙ ap (λ n. offered limit' rest n (piece ∷ ahead.recent)) (sym size);
        },
      )
  takes_new piece ring' (Other other) (rest, new, told) h =
      let more = offered limit rest n (piece ∷ ahead.recent) in
      let here : o ≡ Offers piece (length rest) more = ahead.is ∙ (new n ahead.recent).0 in
      (length rest, more, here ∙ ap (λ bytes. Offers bytes (length rest) more) (sym h.0), λ e. h.1 (sym h.0 ∙ e), (rest, told, refl))
  takes_new piece ring' (Ended cause) took h = elim h [ ]

  -- a frame that names a kept piece
  at_kept : (k : ℕ) (rest : List ℕ) → OffersBack limit ahead.bytes k rest → (found : Option (List ℕ)) → slice_get ring.pieces k ≡ found
      → o ≡ used_piece found k (length ring.pieces) rest (λ rest. offered limit rest n ahead.recent)
  at_kept k rest back found e =
      ahead.is
      ∙ ((back n ahead.recent).0
      ∙ (ap (λ (pieces : List (List ℕ)). used_piece (slice_get pieces k) k (length pieces) rest (λ rest. offered limit rest n ahead.recent)) (sym (ap (λ (r : Kept). r.pieces) ahead.holds))
      ∙ ap (λ o. used_piece o k (length ring.pieces) rest (λ rest. offered limit rest n ahead.recent)) e))

  pub takes_kept : (k : ℕ) (piece : List ℕ) (found : Result Offered AuditFault) → TakesFrame limit ahead.bytes piece left' (Ok (Back k)) → ComparesKept place k honest ring found
      → TakesPiece place honest o limit' ring left' found
  takes_kept k piece (Ok Same) (rest, back, told) h = (
    length rest,
    offered limit rest n ahead.recent,
    at_kept k rest back (Some honest) h,
    record {
      bytes = rest;
      recent = ahead.recent;
      told = told;
      holds = ahead.holds;
      counted = refl;
      is = ap (λ limit. offered limit rest n ahead.recent) (sym same);
    },
  )
  takes_kept k piece (Ok (Other other)) (rest, back, told) h =
      (length rest, offered limit rest n ahead.recent, at_kept k rest back (Some other.items) h.0, h.1, (rest, told, refl))
  takes_kept k piece (Ok (Ended cause)) (rest, back, told) h = (UseIs k (length ring.pieces), at_kept k rest back None h.0, λ want. h.1)
  takes_kept k piece (Err e) took h = tt

  -- no frame
  nothing : (end : FrameEnd) (e : End) → EndsBy limit ahead.bytes left' end → end_told end ≡ Some e → o ≡ NoMore e
  nothing frame_end.End e h q = let is : _ ≡ e = cc in ahead.is ∙ ((h.0 n ahead.recent).0 ∙ ap NoMore is)
  nothing frame_end.Cut e h q = let is : _ ≡ e = cc in ahead.is ∙ ((h.0 n ahead.recent).0 ∙ ap NoMore is)
  nothing (frame_end.BadKind kind) e h q = let is : _ ≡ e = cc in ahead.is ∙ ((h.0 n ahead.recent).0 ∙ ap NoMore is)
  nothing (frame_end.PieceLong len) e h q = let is : _ ≡ e = cc in ahead.is ∙ ((h.0 n ahead.recent).0 ∙ ap NoMore is)
  nothing frame_end.ReadFault e h q = absurd (cc (q))
  nothing frame_end.NoMemory e h q = absurd (cc (q))

  pub takes_none : (end : FrameEnd) (ring' : Kept) (found : Result Offered AuditFault) → EndsBy limit ahead.bytes left' end → EndsAs end place found
      → TakesPiece place honest o limit' ring' left' found
  takes_none end ring' (Ok (Ended cause)) ends told = by (end_told end) refl told
    where
      by : (e : Option End) → end_told end ≡ e → ((want : List ℕ) → option_map (λ e. cause_of e place want) e ≡ Some (cause_told cause)) → TakesPiece place honest o limit' ring' left' (Ok (Ended cause))
      by (Some e) q h = (e, nothing end e ends q, λ want. let here = h want in let is : cause_of e place want ≡ cause_told cause = cc in sym is)
      by None q h = let here = h [] in absurd (cc (here))
  takes_none end ring' (Ok Same) ends told = elim told [ ]
  takes_none end ring' (Ok (Other other)) ends told = elim told [ ]
  takes_none end ring' (Err e) ends told = tt
