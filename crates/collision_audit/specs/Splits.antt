-- Where the offered pieces of a proof part from the honest ones in two pieces with one digest.
use Rattle.std.specs.Prelude.{◌≡◌, ℕ, zero, suc, List, [], ◌∷◌, drop, Option, Some, None, option_and_then, option_map, slice_get, bytes_eq, if◌then◌else◌}
use Rattle.core_terms.specs.Formats.{Format, Hash}
use Rattle.core_terms.specs.Terms.{Program}
use Rattle.core_terms.specs.Values.{Value}
use Rattle.ideal_meaning.specs.SplitPieces.{IsSplitAt}
use Rattle.ideal_meaning.specs.Frames.{Offer, NoMore, Offers, header, offered, offered_pieces}
use Rattle.ideal_meaning.specs.Headline.{call_values}
use Rattle.ideal_meaning.specs.Ideal.{Piece, bytes_of, honest_pieces}
use Rattle.core_terms.specs.Projection.{digest_at}
use Rattle.ideal_meaning.specs.SplitPieces as split_pieces

-- a place at which the two pieces differ and have one digest, these pieces, and the fingerprint that the digest tells, where it tells one
pub record Split : Type 0 where
  pub place : ℕ
  pub offered : List ℕ
  pub honest : List ℕ
  pub print : Option (List ℕ)

module _ (hash : Hash) (format : Format) where
  -- an offered piece against the honest one at a place, as a split
  abbrev pub split_with : (place : ℕ) → Piece → List ℕ → Split
  split_with place b a = record { place = place; offered = a; honest = b.bytes; print = format.print hash b.ty }

  -- The first pieces that differ, where both lists have a piece there and the two have one digest, at the type at which the
  -- honest one is opened. The pieces are numbered from `place`.
  abbrev pub split_from : (place : ℕ) → List (List ℕ) → List Piece → Option Split
  split_from place (a ∷ offered) (b ∷ honest) =
      if bytes_eq a b.bytes then split_from (suc place) offered honest
      else (if bytes_eq (format.digest hash b.ty a) (format.digest hash b.ty b.bytes) then Some (split_with place b a) else None)
  split_from place offered honest = None

  -- the same of whole lists, whose pieces are numbered from 0
  abbrev pub first_split : List (List ℕ) → List Piece → Option Split
  first_split offered honest = split_from 0 offered honest

  -- The lists split at the place, in the words of the headline, these are the two pieces there, and the fingerprint is that of the type
  -- at which the honest one is opened.
  pub record IsSplit (offered_list : List (List ℕ)) (honest_list : List Piece) (s : Split) : Type 0 where
    pub at : IsSplitAt (format.digest hash) offered_list honest_list s.place
    pub offered_there : slice_get offered_list s.place ≡ Some s.offered
    pub honest_there : slice_get (bytes_of honest_list) s.place ≡ Some s.honest
    pub print_there : option_map (λ (b : Piece). format.print hash b.ty) (slice_get honest_list s.place) ≡ Some s.print

-- what the bytes of a proof file offer behind this header; a faulty header offers nothing
abbrev pub offered_behind : Format → Option ℕ → List ℕ → List (List ℕ)
offered_behind format None bytes = []
offered_behind format (Some n) bytes = offered_pieces (offered format.limit (drop 6 bytes) n [])

-- the pieces that the bytes of a proof file offer
abbrev pub offered_in : Format → List ℕ → List (List ℕ)
offered_in format bytes = offered_behind format (header format bytes) bytes

-- The split of the pieces that a proof file offers for a call of function f with fuel k, and of the honest ones, where there is one.
abbrev pub split_of : Hash → Program → ℕ → (state argument : Value) → ℕ → List ℕ → Option Split
split_of hash P f state argument k bytes = first_split hash P.format (offered_in P.format bytes) (honest_pieces hash P f (call_values state argument) k)

-- how many bytes are left behind the offered piece at a place, where there is one
abbrev pub left_behind : Offer → (place : ℕ) → Option ℕ
left_behind (NoMore e) place = None
left_behind (Offers bytes left more) zero = Some left
left_behind (Offers bytes left more) (suc place) = left_behind more place

-- how many bytes of a proof file are left behind the frame of the piece at a place, where the header is good and the frame is there
abbrev pub rest_behind : Format → List ℕ → (place : ℕ) → Option ℕ
rest_behind format bytes place = option_and_then (λ n. left_behind (offered format.limit (drop 6 bytes) n []) place) (header format bytes)

-- nowhere do the pieces that the proof offers split from the honest ones
abbrev pub HasNoSplit : Hash → Program → ℕ → (state argument : Value) → ℕ → List ℕ → Type 0
HasNoSplit hash P f state argument k proof =
    (i : ℕ) → split_pieces.IsSplitAt (digest_at hash P) (offered_in P.format proof) (honest_pieces hash P f (call_values state argument) k) i → ⊥
