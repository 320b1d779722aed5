-- What is asked for in the bytes that a read takes: for next_asked.
use Rattle.std.proofs.Common.{inl, inr, ◌≡◌, ◌⊎◌, ◌≤◌, ℕ, ◌+◌, Bool, true, false, List, [], ◌∷◌, ◌++◌, length, take, drop, Option, Some, None, Ok, Err, nat_lt, if◌then◌else◌, refl, sym, ap, subst, ◌∙◌, arith, append-nil, ltb-false}
use Rattle.std.proofs.lemmas.Grind.{common_steps}
use Rattle.std.proofs.lemmas.List.{drop_all, take-take}
use Rattle.core_terms.specs.Formats.{message_limit}
use Rattle.session_meaning.specs.FetchMessages.{fetch_of, read_fetch}
use Rattle.session_meaning.specs.Messages as meant
use Rattle.session_meaning.specs.Messages.{Body, FaultAt, Got, IsCut, Read, Says, Stop, Stops, read_body, read_message, said, u32_in}
use Rattle.session_meaning.proofs.WholeMessages.{message_read}
use Rattle.wire_form.specs.Gots.{digest_meant}
use Rattle.wire_form.specs.Incoming.{length_field}
use Rattle.wire_form.specs.ReadMessages.{ReadsMessage, StopsShort}
use Rattle.wire_form.specs.declared.message.ReadStop.{ReadStop}
use Rattle.wire_form.specs.declared.message.ReadStop.TheVariants.{BadMessage, TooLong, End, Cut, LinkFault, NoMemory}
use Rattle.link_ends.specs.MoreLinks.{TakesBytes}
use Rattle.link_ends.specs.declared.link_stop.LinkStop.TheVariants as link_stop
use Rattle.link_ends.proofs.Taken.{took, took_all}
use Rattle.mirror_links.specs.Steps.{AsksNext, AsksNothing, IsAskedBy}

-- behind a message that was read stand the bytes behind those that its length field tells
behind_message : {A : Type 0} (of : ℕ → List ℕ → Body A) (bytes : List ℕ) (a : A) (rest : List ℕ) → read_message of bytes ≡ Got a rest
    → (4 ≤ length bytes) × (rest ≡ drop (length_field bytes) (drop 4 bytes))
behind_message of [] a rest e = absurd (cc (e))
behind_message {A = A} of (b ∷ bs) a rest e = by (nat_lt (length (b ∷ bs)) 4) (nat_lt message_limit len) (nat_lt (length (drop 4 (b ∷ bs))) len) refl e
  where
    len : ℕ
    len = u32_in (take 4 (b ∷ bs))

    behind : List ℕ
    behind = drop len (drop 4 (b ∷ bs))

    by_said : (q : Body A) (kind : ℕ) → said q kind behind ≡ Got a rest → rest ≡ behind
    by_said (Says v) kind e = cc
    by_said (FaultAt offset) kind e = absurd (cc (e))

    by_body : (body : List ℕ) → read_body of body behind ≡ Got a rest → rest ≡ behind
    by_body [] e = absurd (cc (e))
    by_body (kind ∷ body) e = by_said (of kind body) kind e

    by : (x y z : Bool) → nat_lt (length (b ∷ bs)) 4 ≡ x
        → (if x then Stops IsCut else (if y then Stops (meant.TooLong len) else (if z then Stops IsCut else read_body of (take len (drop 4 (b ∷ bs))) behind))) ≡ Got a rest
        → (4 ≤ length (b ∷ bs)) × (rest ≡ behind)
    by true y z f e = absurd (cc (e))
    by false true z f e = absurd (cc (e))
    by false false true f e = absurd (cc (e))
    by false false false f e = (ltb-false _ _ f, by_body (take len (drop 4 (b ∷ bs))) e)

-- no byte stands behind it, where no more were taken than it has
none_behind : {A : Type 0} (of : ℕ → List ℕ → Body A) (k : ℕ) (bytes : List ℕ) (a : A) (rest : List ℕ) → k ≤ 4 + length_field bytes → read_message of (take k bytes) ≡ Got a rest → rest ≡ []
none_behind of k bytes a rest few e =
    let t = take k bytes in
    let behind = behind_message of t a rest e in
    let four : 4 ≤ length t = behind.0 in
    let least : 4 ≤ k = grind (arith, common_steps) in
    let field : length_field t ≡ length_field bytes = ap u32_in (take-take 4 k bytes least) in
    let short : length (drop 4 t) ≤ length_field bytes = grind (arith, common_steps) in
    behind.1 ∙ drop_all (length_field t) (drop 4 t) (subst (λ n. length (drop 4 t) ≤ n) (sym field) short)

-- a message that asks was read
pub digest_next : (bytes rest : List ℕ) (left' : Option (List ℕ)) (digest : List ℕ) → read_fetch bytes ≡ Got digest rest → left' ≡ Some rest
    → (taken : List ℕ) × TakesBytes bytes taken left' × IsAskedBy taken digest
digest_next bytes rest left' digest read told = let on = message_read fetch_of bytes digest rest read in (on.0, (rest, on.1, told), on.2)

at_most_one : (k : ℕ) (bytes : List ℕ) → k ≤ 4 + length_field bytes → AsksNothing (take k bytes) ⊎ ((digest : List ℕ) × IsAskedBy (take k bytes) digest)
at_most_one k bytes few = by (read_fetch (take k bytes)) refl
  where
    by : (found : Read (List ℕ)) → read_fetch (take k bytes) ≡ found → AsksNothing (take k bytes) ⊎ ((digest : List ℕ) × IsAskedBy (take k bytes) digest)
    by (Stops stop) e = inl (stop, e)
    by (Got digest rest) e =
        let on = message_read fetch_of (take k bytes) digest rest e in
        let none : rest ≡ [] = none_behind fetch_of k bytes digest rest few e in
        let same : take k bytes ≡ on.0 = on.1 ∙ ap (λ r. on.0 ++ r) none ∙ append-nil on.0 in
        inr (digest, subst (λ t. IsAskedBy t digest) (sym same) on.2)

-- inside of a message nothing is asked for
pub short_asks : (taken : List ℕ) → StopsShort (read_fetch taken) → AsksNothing taken
short_asks taken (inl none) = (meant.AtEnd, none)
short_asks taken (inr none) = (meant.IsCut, none)

module _ (bytes : List ℕ) (left' : Option (List ℕ)) (stop : ReadStop) where
  abbrev Reads : ReadStop → Type 0
  Reads stop = ReadsMessage digest_meant read_fetch bytes left' (Err stop)

  pub bad_next : (kind offset : ℕ) → stop ≡ BadMessage kind offset → Reads stop → AsksNext bytes left' (Ok None)
  bad_next kind offset is reads =
      let read = subst Reads is reads in
      (take (4 + length_field bytes) bytes, took (4 + length_field bytes) bytes left' read.1, (meant.BadMessage kind offset, read.0))

  pub long_next : (len : ℕ) → stop ≡ TooLong len → Reads stop → AsksNext bytes left' (Ok None)
  long_next len is reads = let read = subst Reads is reads in (take 4 bytes, took 4 bytes left' read.1, (meant.TooLong len, read.0))

  pub end_next : stop ≡ End → Reads stop → AsksNext bytes left' (Ok None)
  end_next is reads = let read = subst Reads is reads in (bytes, took_all bytes left' read.1, (meant.AtEnd, read.0))

  pub cut_next : stop ≡ Cut → Reads stop → AsksNext bytes left' (Ok None)
  cut_next is reads = let read = subst Reads is reads in (bytes, took_all bytes left' read.1, (meant.IsCut, read.0))

  -- the link failed
  pub fault_next : stop ≡ LinkFault → Reads stop → AsksNext bytes left' (Err link_stop.LinkFault)
  fault_next is reads =
      let read = subst Reads is reads in (take read.0 bytes, took read.0 bytes left' read.1, short_asks (take read.0 bytes) read.2)

  -- memory was wanting
  pub lacking_next : stop ≡ NoMemory → Reads stop → AsksNext bytes left' (Err link_stop.Stopped)
  lacking_next is reads =
      let read = subst Reads is reads in (take read.0 bytes, took read.0 bytes left' read.2, at_most_one read.0 bytes read.1)
