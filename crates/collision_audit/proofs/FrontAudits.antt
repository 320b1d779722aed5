-- A collision depends on no byte behind its frame.
use Rattle.std.proofs.Common.{◌≡◌, ℕ, zero, suc, ◌≤◌, List, [], ◌∷◌, ◌++◌, length, take, drop, Option, Some, None, slice_get, nat_le, refl, sym, ap, ◌∙◌, subst, arith, le-leb, le_refl, length-append, length-drop}
use Rattle.std.proofs.lemmas.List.{take-append-le, drop-append-le}
use Rattle.std.specs.Option.{option_and_then}
use Rattle.core_terms.specs.Types.{Ty}
use Rattle.core_terms.specs.Formats.{Format}
use Rattle.core_terms.specs.Projection.{digest_at}
use Rattle.ideal_meaning.specs.SplitPieces.{IsSplitAt}
use Rattle.ideal_meaning.specs.Frames.{header, offered, offered_pieces}
use Rattle.ideal_meaning.specs.Headline.{call_values}
use Rattle.ideal_meaning.specs.Ideal.{Piece, honest_pieces}
use Rattle.collision_audit.specs.AuditLaws.{EndsWithItsFrame}
use Rattle.collision_audit.specs.Audits.{unless_split, verdict_on_projections}
use Rattle.collision_audit.specs.Splits.{IsSplit, left_behind, offered_behind, offered_in, split_of}
use Rattle.collision_audit.proofs.AuditHeadline.{collides}
use Rattle.collision_audit.proofs.FirstSplits.{split_is_found}
use Rattle.collision_audit.proofs.FrontOffers.{fewer, front_alike}

-- a split is one of each list that begins alike
splits_alike : (digest : Ty → List ℕ → List ℕ) (i : ℕ) (xs ys : List (List ℕ)) (honest : List Piece) → take (suc i) xs ≡ take (suc i) ys → IsSplitAt digest xs honest i → IsSplitAt digest ys honest i
splits_alike digest i [] ys honest same at = elim at [ ]
splits_alike digest i (x ∷ xs) [] honest same at = absurd (cc (same))
splits_alike digest i (x ∷ xs) (y ∷ ys) [] same at = elim at [ ]
splits_alike digest zero (x ∷ xs) (y ∷ ys) (b ∷ honest) same at =
    let e : x ≡ y = cc in
    subst (λ (x : List ℕ). IsSplitAt digest (x ∷ ys) (b ∷ honest) zero) e at
splits_alike digest (suc i) (x ∷ xs) (y ∷ ys) (b ∷ honest) same at =
    let e : x ≡ y = cc in
    let later : take (suc i) xs ≡ take (suc i) ys = cc in
    (sym e ∙ at.0, splits_alike digest i xs ys honest later at.1)

-- and so is the piece there
piece_alike : (i : ℕ) (xs ys : List (List ℕ)) (a : List ℕ) → take (suc i) xs ≡ take (suc i) ys → slice_get xs i ≡ Some a → slice_get ys i ≡ Some a
piece_alike i [] ys a same at = absurd (cc (at))
piece_alike i (x ∷ xs) [] a same at = absurd (cc (same))
piece_alike zero (x ∷ xs) (y ∷ ys) a same at = let e : x ≡ y = cc in ap Some (sym e) ∙ at
piece_alike (suc i) (x ∷ xs) (y ∷ ys) a same at = let later : take (suc i) xs ≡ take (suc i) ys = cc in piece_alike i xs ys a later at

-- a header is in the first 6 bytes
header_in_front : (format : Format) (front more : List ℕ) → 6 ≤ length front → header format (front ++ more) ≡ header format front
header_in_front format front more h =
    let magic : take 4 (front ++ more) ≡ take 4 front = take-append-le 4 front more (omega (arith, h)) in
    let size : take 2 (drop 4 (front ++ more)) ≡ take 2 (drop 4 front) = ap (take 2) (drop-append-le 4 front more (omega (arith, h))) ∙ take-append-le 2 (drop 4 front) more (omega (arith, h, length-drop 4 front)) in
    let long : nat_le 6 (length (front ++ more)) ≡ nat_le 6 (length front) = le-leb 6 (length (front ++ more)) (omega (arith, h, length-append front more)) ∙ sym (le-leb 6 (length front) h) in
    rw (magic, size, long) refl

-- what is there behind a good header
pub behind_header : {A : Type 0} (o : Option ℕ) (f : ℕ → Option A) (a : A) → option_and_then f o ≡ Some a → (n : ℕ) × (o ≡ Some n) × (f n ≡ Some a)
behind_header None f a e = absurd (cc (e))
behind_header (Some n) f a e = (n, refl, e)

module _ (format : Format) (front more other : List ℕ) (i n : ℕ) (good : header format (front ++ more) ≡ Some n) (left : left_behind (offered format.limit (drop 6 (front ++ more)) n []) i ≡ Some (length more)) where
  long : 6 ≤ length front
  long =
      omega (arith, fewer format.limit (length (drop 6 (front ++ more))) n [] (drop 6 (front ++ more)) i (length more) left, length-drop 6 (front ++ more), length-append front more)

  offers : (behind : List ℕ) → offered_in format (front ++ behind) ≡ offered_pieces (offered format.limit (drop 6 front ++ behind) n [])
  offers behind =
      ap (λ h. offered_behind format h (front ++ behind)) (header_in_front format front behind long ∙ (sym (header_in_front format front more long) ∙ good))
      ∙ ap (λ bytes. offered_pieces (offered format.limit bytes n [])) (drop-append-le 6 front behind long)

  -- the header is the same, and so are the pieces up to that place, whatever follows
  pub same_header : header format (front ++ other) ≡ Some n
  same_header = header_in_front format front other long ∙ (sym (header_in_front format front more long) ∙ good)

  pub same_pieces : take (suc i) (offered_in format (front ++ more)) ≡ take (suc i) (offered_in format (front ++ other))
  same_pieces =
      let at = subst (λ (bytes : List ℕ). left_behind (offered format.limit bytes n []) i ≡ Some (length more)) (drop-append-le 6 front more long) left in
      ap (take (suc i)) (offers more)
      ∙ (front_alike format.limit (length (drop 6 front ++ more)) (length (drop 6 front ++ other)) n [] (drop 6 front) more other i (le_refl (length (drop 6 front ++ other))) at
      ∙ sym (ap (take (suc i)) (offers other)))

pub ends_with_its_frame : EndsWithItsFrame
ends_with_its_frame hash P t f state argument k front more other s shown left =
    let honest = honest_pieces hash P f (call_values state argument) k in
    let found = collides (split_of hash P f state argument k (front ++ more)) (verdict_on_projections hash P t f state argument k (front ++ more)) s shown in
    let split = (split_is_found hash P.format (offered_in P.format (front ++ more)) honest s).0 found in
    let head = behind_header (header P.format (front ++ more)) (λ n. left_behind (offered P.format.limit (drop 6 (front ++ more)) n []) s.place) (length more) left in
    let same = same_pieces P.format front more other s.place head.0 head.1 head.2 in
    let again : IsSplit hash P.format (offered_in P.format (front ++ other)) honest s =
    record {
      at = splits_alike (digest_at hash P) s.place (offered_in P.format (front ++ more)) (offered_in P.format (front ++ other)) honest same split.at;
      offered_there = piece_alike s.place (offered_in P.format (front ++ more)) (offered_in P.format (front ++ other)) s.offered same split.offered_there;
      honest_there = split.honest_there;
      print_there = split.print_there;
    } in
    ap (λ found. unless_split found (verdict_on_projections hash P t f state argument k (front ++ other))) ((split_is_found hash P.format (offered_in P.format (front ++ other)) honest s).1 again)
