-- What is heard of the bytes that a read takes: for next_heard.
use Rattle.std.proofs.Common.{inl, inr, ◌≡◌, ℕ, ◌+◌, List, [], ◌∷◌, take, drop, Option, Some, Err, refl, sym, ap, subst, ◌∙◌, append-nil}
use Rattle.std.proofs.lemmas.List.{drop-drop}
use Rattle.session_meaning.specs.Messages as meant
use Rattle.session_meaning.specs.Messages.{Request as TheRequest, Got, NoMore, Stops, left_by, messages, request_of}
use Rattle.session_meaning.specs.MessageFields.{read_request}
use Rattle.session_meaning.specs.Server.{Hears, HearsBad, HearsEnd}
use Rattle.session_meaning.proofs.WholeMessages.{message_long, message_refused, request_goes_on, requests_stop}
use Rattle.wire_form.specs.Incoming.{length_field}
use Rattle.wire_form.specs.MessageViews.{request_meant}
use Rattle.wire_form.specs.ReadMessages.{ReadsMessage, StopsShort}
use Rattle.wire_form.specs.declared.message.ReadStop.{ReadStop}
use Rattle.wire_form.specs.declared.message.ReadStop.TheVariants.{BadMessage, TooLong, End, Cut, LinkFault, NoMemory}
use Rattle.link_ends.specs.MoreLinks.{TakesBytes}
use Rattle.link_ends.proofs.Taken.{took, took_all}
use Rattle.serve_links.specs.Connections.{heard_in, heard_on}
use Rattle.serve_links.specs.Messages.{ComesNext}

-- a request was read
pub request_next : (bytes rest : List ℕ) (left' : Option (List ℕ)) (r : TheRequest) → read_request bytes ≡ Got r rest → left' ≡ Some rest → ComesNext bytes left' (Hears r)
request_next bytes rest left' r read told =
    let on = request_goes_on bytes r rest read in (on.0, (rest, on.1, told), on.2)

module _ (bytes : List ℕ) (left' : Option (List ℕ)) (stop : ReadStop) where
  abbrev Reads : ReadStop → Type 0
  Reads stop = ReadsMessage request_meant read_request bytes left' (Err stop)

  pub bad_next : (kind offset : ℕ) → stop ≡ BadMessage kind offset → Reads stop → ComesNext bytes left' HearsBad
  bad_next kind offset is reads =
      let read = subst Reads is reads in
      let none = meant.BadMessage kind offset in
      let refused = message_refused request_of bytes kind offset read.0 in
      let behind : drop (4 + length_field bytes) bytes ≡ left_by none bytes = sym (drop-drop (length_field bytes) 4 bytes) in
      let again : read_request refused.0 ≡ Stops none = ap read_request (sym (append-nil refused.0)) ∙ refused.2 [] in (
        refused.0,
        (left_by none bytes, refused.1, read.1 ∙ ap Some behind),
        (none, requests_stop bytes none read.0, requests_stop refused.0 none again, refl),
      )

  pub long_next : (len : ℕ) → stop ≡ TooLong len → Reads stop → ComesNext bytes left' HearsBad
  long_next len is reads =
      let read = subst Reads is reads in
      let none = meant.TooLong len in
      let again : read_request (take 4 bytes) ≡ Stops none =
      ap read_request (sym (append-nil (take 4 bytes))) ∙ message_long request_of bytes len read.0 [] in
      (take 4 bytes, took 4 bytes left' read.1, (none, requests_stop bytes none read.0, requests_stop (take 4 bytes) none again, refl))

  pub end_next : stop ≡ End → Reads stop → ComesNext bytes left' HearsEnd
  end_next is reads =
      let read = subst Reads is reads in
      let none = requests_stop bytes meant.AtEnd read.0 in
      (bytes, took_all bytes left' read.1, (meant.AtEnd, none, none, refl))

  pub cut_next : stop ≡ Cut → Reads stop → ComesNext bytes left' HearsEnd
  cut_next is reads =
      let read = subst Reads is reads in
      let none = requests_stop bytes meant.IsCut read.0 in
      (bytes, took_all bytes left' read.1, (meant.IsCut, none, none, refl))

  -- the link failed
  pub fault_next : stop ≡ LinkFault → Reads stop → (taken : List ℕ) × TakesBytes bytes taken left' × (heard_in taken ≡ HearsEnd ∷ [])
  fault_next is reads =
      let read = subst Reads is reads in
      (take read.0 bytes, took read.0 bytes left' read.1, short (take read.0 bytes) read.2)
    where
      short : (taken : List ℕ) → StopsShort (read_request taken) → heard_in taken ≡ HearsEnd ∷ []
      short taken (inl none) = ap heard_on (requests_stop taken meant.AtEnd none)
      short taken (inr none) = ap heard_on (requests_stop taken meant.IsCut none)

  -- memory was wanting
  pub lacking_next : stop ≡ NoMemory → Reads stop → (taken : List ℕ) × TakesBytes bytes taken left'
  lacking_next is reads =
      let read = subst Reads is reads in (take read.0 bytes, took read.0 bytes left' read.2)
