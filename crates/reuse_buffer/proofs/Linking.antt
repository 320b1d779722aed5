-- Pieces that lead to the next ones of their buckets.
use Rattle.std.proofs.Common.{◌≡◌, ◌≢◌, inl, inr, ℕ, zero, suc, ◌+◌, ◌-◌, ◌<◌, ◌≤◌, List, [], ◌∷◌, length, take, min, Some, slice_get, slice_index, set, refl, sym, ap, subst, ◌∙◌, arith, length-set, length-take, take-take, take_all, le_refl, zero-add, get_or-set_same, get_or-set_other}
use Rattle.std.proofs.lemmas.Bool.{cases_eq, cases_lt}
use Rattle.std.proofs.lemmas.Option.{slice_get_within}
use Rattle.reuse_buffer.specs.declared.held_piece.HeldPiece.{HeldPiece}
use Rattle.reuse_buffer.specs.Index.{AreHeld, AreLinked, AreNewest, HasRoom, IsFirstOf, IsIndex, LeadsTo, bucket_of, buckets_in, bytes_in, next_turn, place_at}
use Rattle.reuse_buffer.specs.Kept.{Kept, kept, kept_as}
use Rattle.reuse_buffer.proofs.Places.{front_within, in_front, kept_again, none_past, of_front}
use Rattle.reuse_buffer.proofs.Turning.{last_place, next_within, oldest_place, other_place}

buckets_front : (n : ℕ) (ps : List HeldPiece) → take n (buckets_in ps) ≡ buckets_in (take n ps)
buckets_front zero ps = refl
buckets_front (suc n) [] = refl
buckets_front (suc n) (p ∷ ps) = ap (λ bs. p.bucket ∷ bs) (buckets_front n ps)

pub bytes_front : (n : ℕ) (ps : List HeldPiece) → take n (bytes_in ps) ≡ bytes_in (take n ps)
bytes_front zero ps = refl
bytes_front (suc n) [] = refl
bytes_front (suc n) (p ∷ ps) = ap (λ bs. p.bytes.items ∷ bs) (bytes_front n ps)

count_buckets : (ps : List HeldPiece) → length (buckets_in ps) ≡ length ps
count_buckets [] = refl
count_buckets (p ∷ ps) = ap suc (count_buckets ps)

pub count_bytes : (ps : List HeldPiece) → length (bytes_in ps) ≡ length ps
count_bytes [] = refl
count_bytes (p ∷ ps) = ap suc (count_bytes ps)

bucket_at : (place : ℕ) (held : HeldPiece) (ps : List HeldPiece) → slice_get ps place ≡ Some held → slice_get (buckets_in ps) place ≡ Some held.bucket
bucket_at place held [] e = absurd (cc)
bucket_at zero held (p ∷ ps) e = let s : p ≡ held = cc in ap (λ (p : HeldPiece). Some p.bucket) s
bucket_at (suc place) held (p ∷ ps) e = bucket_at place held ps e

pub bytes_at : (place : ℕ) (held : HeldPiece) (ps : List HeldPiece) → slice_get ps place ≡ Some held → slice_get (bytes_in ps) place ≡ Some held.bytes.items
bytes_at place held [] e = absurd (cc)
bytes_at zero held (p ∷ ps) e = let s : p ≡ held = cc in ap (λ (p : HeldPiece). Some p.bytes.items) s
bytes_at (suc place) held (p ∷ ps) e = bytes_at place held ps e

-- the first place of a bucket in the front of a list
first_in_front : (n bucket place : ℕ) (buckets : List ℕ) → IsFirstOf bucket place buckets → IsFirstOf bucket place (take n buckets)
first_in_front n bucket place buckets first = record {
  there = λ h.
      let short : place < n = omega (arith, h, length-take n buckets) in
      let within : place < length buckets = omega (arith, h, length-take n buckets) in
      of_front n place buckets short ∙ first.there within;
  before = λ k h e. first.before k h (in_front n k bucket buckets e);
}

linked_front : (count n : ℕ) (ps : List HeldPiece) → AreLinked count ps → AreLinked count (take n ps)
linked_front count zero ps linked = tt
linked_front count (suc n) [] linked = tt
linked_front count (suc n) (p ∷ ps) linked = (
  linked.0,
  subst (IsFirstOf p.bucket p.between) (buckets_front n ps) (first_in_front n p.bucket p.between (buckets_in ps) linked.1),
  linked_front count n ps linked.2,
)

-- a piece that is held stands in its bucket
pub in_its_bucket : (count k : ℕ) (bytes : List ℕ) (ps : List HeldPiece) → AreLinked count ps → slice_get (bytes_in ps) k ≡ Some bytes
    → slice_get (buckets_in ps) k ≡ Some (bucket_of count bytes)
in_its_bucket count k bytes [] linked e = absurd (cc)
in_its_bucket count zero bytes (p ∷ ps) linked e = let s : p.bytes.items ≡ bytes = cc in ap Some (linked.0 ∙ ap (bucket_of count) s)
in_its_bucket count (suc k) bytes (p ∷ ps) linked e = in_its_bucket count k bytes ps linked.2 e

-- the pieces behind one: between it and the next of its bucket, and at that one
pub between_not : (count place j : ℕ) (held : HeldPiece) (ps : List HeldPiece) → AreLinked count ps → slice_get ps place ≡ Some held → j < held.between
    → slice_get (buckets_in ps) (suc (place + j)) ≢ Some held.bucket
between_not count place j held [] linked e h = absurd (cc)
between_not count zero j held (p ∷ ps) linked e h =
    let s : p ≡ held = cc in
    let first : IsFirstOf held.bucket held.between (buckets_in ps) = subst (λ (p : HeldPiece). IsFirstOf p.bucket p.between (buckets_in ps)) s linked.1 in
    λ q. first.before j h (ap (slice_get (buckets_in ps)) (sym (zero-add j)) ∙ q)
between_not count (suc place) j held (p ∷ ps) linked e h =
    let at : suc place + j ≡ suc (place + j) = omega arith in
    λ q. between_not count place j held ps linked.2 e h (ap (slice_get (buckets_in ps)) (sym at) ∙ q)

pub next_there : (count place : ℕ) (held : HeldPiece) (ps : List HeldPiece) → AreLinked count ps → slice_get ps place ≡ Some held → suc (place + held.between) < length ps
    → slice_get (buckets_in ps) (suc (place + held.between)) ≡ Some held.bucket
next_there count place held [] linked e h = absurd (cc)
next_there count zero held (p ∷ ps) linked e h =
    let s : p ≡ held = cc in
    let first : IsFirstOf held.bucket held.between (buckets_in ps) = subst (λ (p : HeldPiece). IsFirstOf p.bucket p.between (buckets_in ps)) s linked.1 in
    let within : held.between < length (buckets_in ps) = omega (arith, h, count_buckets ps) in
    ap (slice_get (buckets_in ps)) (zero-add held.between) ∙ first.there within
next_there count (suc place) held (p ∷ ps) linked e h =
    let at : suc place + held.between ≡ suc (place + held.between) = omega arith in
    let within : suc (place + held.between) < length ps = omega (arith, h) in
    ap (slice_get (buckets_in ps)) at ∙ next_there count place held ps linked.2 e within

-- The search in a bucket has come to a place: no piece before it has these bytes, and at it stands one of the bucket, or none.
pub record HasCome (bucket : ℕ) (bytes : List ℕ) (place : ℕ) (ps : List HeldPiece) : Type 0 where
  pub there : place < length ps → slice_get (buckets_in ps) place ≡ Some bucket
  pub before : (k : ℕ) → k < place → slice_get (bytes_in ps) k ≢ Some bytes

pub begun : (count place : ℕ) (bytes : List ℕ) (ps : List HeldPiece) → AreLinked count ps → IsFirstOf (bucket_of count bytes) place (buckets_in ps) → HasCome (bucket_of count bytes) bytes place ps
begun count place bytes ps linked first = record {
  there = λ h. first.there (omega (arith, h, count_buckets ps));
  before = λ k h e. first.before k h (in_its_bucket count k bytes ps linked e);
}

pub gone_on : (count place : ℕ) (bytes : List ℕ) (held : HeldPiece) (ps : List HeldPiece) → AreLinked count ps → slice_get ps place ≡ Some held → held.bytes.items ≢ bytes
    → HasCome (bucket_of count bytes) bytes place ps → HasCome (bucket_of count bytes) bytes (place + (held.between + 1)) ps
gone_on count place bytes held ps linked e other come = record { there = there; before = before }
  where
    bucket : held.bucket ≡ bucket_of count bytes
    bucket =
        let at : slice_get (buckets_in ps) place ≡ Some held.bucket = bucket_at place held ps e in
        let here = come.there (slice_get_within ps place held e) in
        let same : Some held.bucket ≡ Some (bucket_of count bytes) = sym at ∙ here in
        cc

    there : place + (held.between + 1) < length ps → slice_get (buckets_in ps) (place + (held.between + 1)) ≡ Some (bucket_of count bytes)
    there h =
        let at : place + (held.between + 1) ≡ suc (place + held.between) = omega arith in
        let within : suc (place + held.between) < length ps = omega (arith, h) in
        ap (slice_get (buckets_in ps)) at ∙ next_there count place held ps linked e within ∙ ap Some bucket

    here : slice_get (bytes_in ps) place ≢ Some bytes
    here q =
        let at : slice_get (bytes_in ps) place ≡ Some held.bytes.items = bytes_at place held ps e in
        let same : Some held.bytes.items ≡ Some bytes = sym at ∙ q in
        other (cc)

    behind : (j : ℕ) → j < held.between → slice_get (bytes_in ps) (suc (place + j)) ≢ Some bytes
    behind j h q = between_not count place j held ps linked e h (in_its_bucket count (suc (place + j)) bytes ps linked q ∙ ap Some (sym bucket))

    before : (k : ℕ) → k < place + (held.between + 1) → slice_get (bytes_in ps) k ≢ Some bytes
    before k h =
        elim (cases_lt k place) [
          | inl sooner ↦ come.before k sooner
          | inr later ↦
              elim (cases_eq k place) [
                | inl same ↦ subst (λ k. slice_get (bytes_in ps) k ≢ Some bytes) (sym same) here
                | inr other ↦
                    let j = k - suc place in
                    let e : suc (place + j) ≡ k = omega (arith, later, other) in
                    let within : j < held.between = omega (arith, h, later, other) in
                    subst (λ k. slice_get (bytes_in ps) k ≢ Some bytes) e (behind j within)
              ]
        ]

-- no piece has these bytes
pub all_passed : (bucket place : ℕ) (bytes : List ℕ) (ps : List HeldPiece) → HasCome bucket bytes place ps → length ps ≤ place → (k : ℕ) → slice_get (bytes_in ps) k ≢ Some bytes
all_passed bucket place bytes ps come past k =
    elim (cases_lt k place) [
      | inl sooner ↦ come.before k sooner
      | inr later ↦ none_past k bytes (bytes_in ps) (omega (arith, later, past, count_bytes ps))
    ]

-- what is held of the pieces, where n of them were and one more is pushed
pub still_held : (size n k : ℕ) (held : HeldPiece) (ps : List HeldPiece) → k ≡ min size (n + 1) → take k (take size (held ∷ ps)) ≡ take size (held ∷ take n ps)
still_held size n k held ps e =
    elim (cases_lt size (suc n)) [
      | inl full ↦
          let is : k ≡ size = omega (arith, e, full) in
          ap (λ k. take k (take size (held ∷ ps))) is ∙ take-take size size (held ∷ ps) (le_refl size) ∙ sym (take-take size (suc n) (held ∷ ps) (omega (arith, full)))
      | inr room ↦
          let is : k ≡ suc n = omega (arith, e, room) in
          let all : length (take (suc n) (held ∷ ps)) ≤ size = omega (arith, length-take (suc n) (held ∷ ps), room) in
          ap (λ k. take k (take size (held ∷ ps))) is ∙ take-take (suc n) size (held ∷ ps) room ∙ sym (take_all size (take (suc n) (held ∷ ps)) all)
    ]

-- what a contract sees of them
pub seen : (size n k : ℕ) (held : HeldPiece) (ps : List HeldPiece) (old : Kept) → k ≡ min size (n + 1) → kept_as (bytes_in (take n ps)) size ≡ old
    → kept_as (bytes_in (take k (take size (held ∷ ps)))) size ≡ kept old.size (held.bytes.items ∷ old.pieces)
seen size n k held ps old is e =
    ap (λ ps. kept_as (bytes_in ps) size) (still_held size n k held ps is)
    ∙ ap (λ ps. kept_as ps size) (sym (bytes_front size (held ∷ take n ps))) ∙ ap (λ (old : Kept). kept old.size (held.bytes.items ∷ old.pieces)) e

-- so many pieces are there
pub held_behind : (size n k : ℕ) (held : HeldPiece) (ps : List HeldPiece) → k ≡ min size (n + 1) → AreHeld size n ps → AreHeld size k (take size (held ∷ ps))
held_behind size n k held ps is h = record {
  there = omega (arith, is, h.there, length-take size (held ∷ ps));
  within = omega (arith, is);
}

pub seen_last : (old : Kept) (bytes : List ℕ) (recent : List (List ℕ)) → old ≡ kept old.size recent → kept old.size (bytes ∷ old.pieces) ≡ kept old.size (bytes ∷ recent)
seen_last old bytes recent e =
    let pieces : old.pieces ≡ take old.size recent = ap (λ (old : Kept). old.pieces) e in
    ap (λ ps. kept old.size (bytes ∷ ps)) pieces ∙ ap (λ ps. kept_as ps old.size) (kept_again old.size bytes recent)

-- One more piece is pushed.
module _ (count now : ℕ) (newest : List ℕ) (held : HeldPiece) (ps : List HeldPiece) (index : IsIndex count now newest ps) (h : held.bucket < count) where
  some : now < count
  some = index.within (omega (arith, h))

  abbrev turn : ℕ
  turn = next_turn count now

  abbrev after : List ℕ
  after = take count (held.bucket ∷ buckets_in ps)

  first_after : slice_get after 0 ≡ Some held.bucket
  first_after = of_front count 0 (held.bucket ∷ buckets_in ps) (omega (arith, h))

  its_own : LeadsTo count turn turn held.bucket after
  its_own k e =
      let zeroth = last_place count turn in
      (subst (λ place. place ≤ k) (sym zeroth) (omega arith), ap (slice_get after) zeroth ∙ first_after)

  another : (bucket : ℕ) → bucket < count → bucket ≢ held.bucket → LeadsTo count turn (slice_index newest bucket) bucket after
  another bucket b other zero e = absurd (let same : Some held.bucket ≡ Some bucket = sym first_after ∙ e in other (cc))
  another bucket b other (suc j) e =
      let led = index.first.leads bucket b j (in_front count (suc j) bucket (held.bucket ∷ buckets_in ps) e) in
      let short : suc j < count = front_within count (suc j) bucket (held.bucket ∷ buckets_in ps) e in
      let soon = led.0 in
      let old = oldest_place count now some in
      let differs : slice_index newest bucket ≢ turn = λ same.
      let last : suc (place_at count now (slice_index newest bucket)) ≡ count = ap (λ t. suc (place_at count now t)) same ∙ old in
      absurd (omega (arith, last, soon, short)) in
      let moved = other_place count now some (slice_index newest bucket) (index.first.turn bucket b) differs in
      let near : suc (place_at count now (slice_index newest bucket)) ≤ suc j = omega (arith, soon) in
      let within : suc (place_at count now (slice_index newest bucket)) < count = omega (arith, soon, short) in (
        subst (λ place. place ≤ suc j) (sym moved) near,
        ap (slice_get after) moved ∙ of_front count (suc (place_at count now (slice_index newest bucket))) (held.bucket ∷ buckets_in ps) within ∙ led.1,
      )

  is_set : slice_index (set newest held.bucket turn) held.bucket ≡ turn
  is_set = get_or-set_same newest held.bucket turn 0 (omega (arith, h, index.each))

  is_kept : (bucket : ℕ) → bucket ≢ held.bucket → slice_index (set newest held.bucket turn) bucket ≡ slice_index newest bucket
  is_kept bucket other = get_or-set_other newest held.bucket bucket turn 0 other

  first_of_each : AreNewest count turn (set newest held.bucket turn) after
  first_of_each = record {
    turn = λ bucket b.
        elim (cases_eq bucket held.bucket) [
          | inl same ↦ subst (λ t. t < count) (sym (ap (slice_index (set newest held.bucket turn)) same ∙ is_set)) (next_within count now some)
          | inr other ↦ subst (λ t. t < count) (sym (is_kept bucket other)) (index.first.turn bucket b)
        ];
    leads = λ bucket b.
        elim (cases_eq bucket held.bucket) [
          | inl same ↦
              subst (λ bucket. LeadsTo count turn (slice_index (set newest held.bucket turn) bucket) bucket after) (sym same)
              (subst (λ t. LeadsTo count turn t held.bucket after) (sym is_set) its_own)
          | inr other ↦ subst (λ t. LeadsTo count turn t bucket after) (sym (is_kept bucket other)) (another bucket b other)
        ];
  }

  pub pushed : held.bucket ≡ bucket_of count held.bytes.items → IsFirstOf held.bucket held.between (buckets_in ps)
      → IsIndex count turn (set newest held.bucket turn) (take count (held ∷ ps))
  pushed own first = record {
    small = index.small;
    each = length-set newest held.bucket turn ∙ index.each;
    within = λ some. next_within count now (index.within some);
    linked = linked_front count count (held ∷ ps) (own, first, index.linked);
    first = subst (AreNewest count turn (set newest held.bucket turn)) (buckets_front count (held ∷ ps)) first_of_each;
  }

-- the room of an index
pub room_of : (count now : ℕ) (newest : List ℕ) (ps : List HeldPiece) → IsIndex count now newest ps → HasRoom count now newest
room_of count now newest ps index = record { small = index.small; each = index.each; within = index.within; turn = index.first.turn }

-- the index of a ring that holds nothing
pub none_held : (count now : ℕ) (newest : List ℕ) → HasRoom count now newest → IsIndex count now newest []
none_held count now newest room = record {
  small = room.small;
  each = room.each;
  within = room.within;
  linked = tt;
  first = record { turn = room.turn; leads = λ bucket b k e. absurd (cc) };
}
