-- Frames of some of the pieces are no longer than those of all.
use Rattle.std.proofs.Common.{◌≡◌, ℕ, zero, suc, ◌<◌, ◌≤◌, List, [], ◌∷◌, ◌++◌, length, take, drop, Option, Some, None, refl, sym, ap, subst, arith, length-append}
use Rattle.std.specs.Int.{w16, w32, to_be_bytes}
use Rattle.core_terms.specs.declared.program_types.Types.{Types}
use Rattle.core_terms.specs.Formats.{Hash}
use Rattle.core_terms.specs.ProgramTypes.{types_meaning}
use Rattle.ideal_meaning.specs.Frames.{place_of, frame_at, honest_frames, frame_bytes}
use Rattle.ideal_meaning.specs.Ideal as ideal
use Rattle.value_store.specs.Nodes.{Node}
use Rattle.prover_mode.specs.Seen.{AreSeen, pieces_of}
use Rattle.prover_mode.specs.Written.{HasWritten}
use Rattle.prover_mode.specs.declared.frames.FrameWriter.{FrameWriter}
use Rattle.prover_mode.specs.declared.opened.Opened.{Opened}

-- bytes behind the same ones
longer_behind : (xs ys zs : List ℕ) → length ys ≤ length zs → length (xs ++ ys) ≤ length (xs ++ zs)
longer_behind xs ys zs h =
    let a = length-append xs ys in
    let b = length-append xs zs in
    omega (arith, a, b, h)

module _ (n : ℕ) (qs : List (List ℕ)) where
  abbrev IsNoLonger : List (List ℕ) → (recent : List (List ℕ)) → Type 0
  IsNoLonger ps recent = length (frame_bytes (honest_frames n recent ps)) ≤ length (frame_bytes (honest_frames n recent (ps ++ qs)))

  one_first : (o : Option ℕ) (p : List ℕ) (ps recent : List (List ℕ)) → ((recent : List (List ℕ)) → IsNoLonger ps recent)
      → length (frame_bytes (frame_at o p recent (λ recent. honest_frames n recent ps))) ≤ length (frame_bytes (frame_at o p recent (λ recent. honest_frames n recent (ps ++ qs))))
  one_first (Some k) p ps recent h =
      longer_behind (1 ∷ to_be_bytes w16 k) (frame_bytes (honest_frames n recent ps)) (frame_bytes (honest_frames n recent (ps ++ qs))) (h recent)
  one_first None p ps recent h =
      let some = frame_bytes (honest_frames n (p ∷ recent) ps) in
      let more = frame_bytes (honest_frames n (p ∷ recent) (ps ++ qs)) in
      longer_behind (0 ∷ to_be_bytes w32 (length p)) (p ++ some) (p ++ more) (longer_behind p some more (h (p ∷ recent)))

  no_longer : (ps recent : List (List ℕ)) → IsNoLonger ps recent
  no_longer [] recent = omega arith
  no_longer (p ∷ ps) recent = one_first (place_of p (take n recent)) p ps recent (λ recent. no_longer ps recent)

module _ (hash : Hash) (types : Types) (nodes : List Node) where
  -- the first of those that were opened
  pub seen_first : (os : List Opened) (i : ℕ) (seen : List ideal.Opened) → AreSeen hash types nodes os seen → AreSeen hash types nodes (take i os) (take i seen)
  seen_first os zero seen h = tt
  seen_first [] (suc i) [] h = tt
  seen_first (o ∷ os) (suc i) (s ∷ seen) h = (h.0, seen_first os i seen h.1)
  seen_first [] (suc i) (s ∷ seen) h = elim h [ ]
  seen_first (o ∷ os) (suc i) [] h = elim h [ ]

  pieces_first : (i : ℕ) (seen : List ideal.Opened) → pieces_of hash types seen ≡ pieces_of hash types (take i seen) ++ pieces_of hash types (drop i seen)
  pieces_first zero seen = refl
  pieces_first (suc i) [] = refl
  pieces_first (suc i) (s ∷ seen) = ap (λ (ps : List (List ℕ)). ideal.honest_bytes hash (types_meaning types) s ∷ ps) (pieces_first i seen)

  -- where the frames of the first pieces have more bytes, those of all have
  pub too_long : (n most i : ℕ) (recent : List (List ℕ)) (seen : List ideal.Opened) (writer : FrameWriter)
      → HasWritten n recent (pieces_of hash types (take i seen)) writer → most < length writer.bytes.items
      → most < length (frame_bytes (honest_frames n recent (pieces_of hash types seen)))
  too_long n most i recent seen writer h more =
      let written = ap (λ (bytes : List ℕ). length bytes) h.bytes in
      let longer = no_longer n (pieces_of hash types (drop i seen)) (pieces_of hash types (take i seen)) recent in
      let first : most < length (frame_bytes (honest_frames n recent (pieces_of hash types (take i seen) ++ pieces_of hash types (drop i seen)))) = omega (arith, written, longer, more) in
      subst (λ (ps : List (List ℕ)). most < length (frame_bytes (honest_frames n recent ps))) (sym (pieces_first i seen)) first
