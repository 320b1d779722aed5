-- How a ring finds a piece by its bytes: pieces stand in buckets by their hash, and each leads to the next older one of its bucket.
-- No contract of a ring speaks of this, but for `IsBucketOf`.
use Rattle.std.specs.Prelude.{◌≡◌, ◌≢◌, ℕ, ◌+◌, ◌-◌, ◌<◌, ◌≤◌, ◌%◌, List, [], ◌∷◌, length, map, Some, slice_get, slice_index, nat_le, nat_lt, if◌then◌else◌}
use Rattle.std.specs.Hash.FoldHasher.{initial, write, finish}
use Rattle.reuse_buffer.specs.declared.held_piece.HeldPiece.{HeldPiece}
use Rattle.reuse_buffer.specs.declared.ring.Bucket.{Bucket}

-- the bucket of a piece, of `count`
unfoldable pub bucket_of : (count : ℕ) → List ℕ → ℕ
bucket_of count bytes = finish (write initial bytes) % count

-- in a ring of this size, it is the bucket of a piece with these bytes
abbrev pub IsBucketOf : (size : ℕ) → List ℕ → Bucket → Type 0
IsBucketOf size bytes bucket = 0 < size → (bucket.0 ≡ bucket_of size bytes) × (bucket.0 < size)

abbrev pub buckets_in : List HeldPiece → List ℕ
buckets_in pieces = map (λ p. p.bucket) pieces

abbrev pub bytes_in : List HeldPiece → List (List ℕ)
bytes_in pieces = map (λ p. p.bytes.items) pieces

-- The place is the first one of the bucket; or the bucket has no place, and this one is beyond the list.
pub record IsFirstOf (bucket place : ℕ) (buckets : List ℕ) : Type 0 where
  pub there : place < length buckets → slice_get buckets place ≡ Some bucket
  pub before : (k : ℕ) → k < place → slice_get buckets k ≢ Some bucket

-- each piece knows its bucket, and how many pieces stand between it and the next one of its bucket
abbrev pub AreLinked : (count : ℕ) → List HeldPiece → Type 0
AreLinked count [] = Unit {0}
AreLinked count (p ∷ ps) = (p.bucket ≡ bucket_of count p.bytes.items) × IsFirstOf p.bucket p.between (buckets_in ps) × AreLinked count ps

-- Pieces are pushed in turns, which are counted up to `count` and then from 0 again: the place, the last piece being at 0, of the
-- piece that was pushed at a turn, where the last one was pushed at the turn `now`.
abbrev pub place_at : (count now turn : ℕ) → ℕ
place_at count now turn = if nat_le turn now then now - turn else (now + count) - turn

abbrev pub next_turn : (count now : ℕ) → ℕ
next_turn count now = if nat_lt (now + 1) count then now + 1 else 0

-- the turn is that of the first piece of the bucket, where the bucket has one
abbrev pub LeadsTo : (count now turn bucket : ℕ) → List ℕ → Type 0
LeadsTo count now turn bucket buckets =
    (k : ℕ) → slice_get buckets k ≡ Some bucket → (place_at count now turn ≤ k) × (slice_get buckets (place_at count now turn) ≡ Some bucket)

-- of each bucket the turn of its first piece is known
pub record AreNewest (count now : ℕ) (newest buckets : List ℕ) : Type 0 where
  pub turn : (bucket : ℕ) → bucket < count → slice_index newest bucket < count
  pub leads : (bucket : ℕ) → bucket < count → LeadsTo count now (slice_index newest bucket) bucket buckets

-- The index of these pieces, with one bucket for each place of the ring.
pub record IsIndex (count now : ℕ) (newest : List ℕ) (pieces : List HeldPiece) : Type 0 where
  pub small : count ≤ 1024
  pub each : length newest ≡ count
  pub within : 0 < count → now < count
  pub linked : AreLinked count pieces
  pub first : AreNewest count now newest (buckets_in pieces)

-- So many of the pieces are held, the last ones; the others are forgotten.
pub record AreHeld (count held : ℕ) (pieces : List HeldPiece) : Type 0 where
  pub there : held ≤ length pieces
  pub within : held ≤ count

-- room for an index, with one bucket for each place of the ring
pub record HasRoom (count now : ℕ) (newest : List ℕ) : Type 0 where
  pub small : count ≤ 1024
  pub each : length newest ≡ count
  pub within : 0 < count → now < count
  pub turn : (bucket : ℕ) → bucket < count → slice_index newest bucket < count
