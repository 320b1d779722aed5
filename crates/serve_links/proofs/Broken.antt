-- Connections that go on behind a message, and that end at one: for serve_message and serve_link.
use Rattle.std.proofs.Common.{inl, inr, ◌≡◌, ◌⊎◌, ℕ, ◌+◌, ◌≤◌, true, false, List, [], ◌∷◌, ◌++◌, length, take, Option, refl, sym, ap, ◌∙◌, arith, append_assoc, append-nil, length-append}
use Rattle.std.proofs.Math.Seq.{take-append-add}
use Rattle.std.proofs.lemmas.List.{take_all}
use Rattle.core_terms.specs.Formats.{Hash}
use Rattle.core_terms.specs.Terms.{Program}
use Rattle.session_meaning.specs.Calls.{RoleCall}
use Rattle.session_meaning.specs.Connections.{heard_stop, served, if_closing, Served}
use Rattle.session_meaning.specs.Messages.{Request, Reply, reply_bytes, Stop, NoMore, Then, request_of, messages}
use Rattle.session_meaning.specs.Server.{Server, Heard, Hears, HearsBad, HearsEnd, Step, handle, replies_of}
use Rattle.session_meaning.specs.Stopped.{IsStopped}
use Rattle.link_ends.specs.MoreLinks.{but_last}
use Rattle.link_ends.specs.declared.end.ConnectionEnd.{ConnectionEnd}
use Rattle.link_ends.specs.declared.end.ConnectionEnd.TheVariants.{Over, LinkFault, Stopped}
use Rattle.serve_links.specs.Connections.{bytes_of, heard_in, heard_on, replied, GoOn, IsBrokenOff, IsCutAt, IsSentPart, IsServed, LeavesStopped}
use Rattle.serve_links.specs.Messages.{ComesNext, IsReadAs}

pub bytes_more : (a b : List Reply) → bytes_of (a ++ b) ≡ bytes_of a ++ bytes_of b
bytes_more [] b = refl
bytes_more (r ∷ a) b = ap (λ l. reply_bytes r ++ l) (bytes_more a b) ∙ sym (append_assoc (reply_bytes r) (bytes_of a) (bytes_of b))

-- the first message of bytes that begin with one
first_request : (bytes taken rest : List ℕ) (r : Request) → bytes ≡ taken ++ rest → IsReadAs taken r → messages request_of bytes ≡ Then r (messages request_of rest)
first_request bytes taken rest r all came = ap (messages request_of) all ∙ came rest

module _ (hash : Hash) (P : Program) (own : List ℕ) (ending : ℕ → ℕ) where
  abbrev step : Server → Heard → Step
  step server m = handle hash P own ending server m

  abbrev said : Server → Heard → List ℕ
  said server m = bytes_of (step server m).replies

  -- what is replied to a message and to those behind it
  replied_more : (server : Server) (m : Heard) (ms : List Heard) → replied hash P own ending server (m ∷ ms) ≡ said server m ++ replied hash P own ending (step server m).server ms
  replied_more server m ms = bytes_more (step server m).replies (replies_of hash P own ending (step server m).server ms)

  replied_one : (server : Server) (m : Heard) → replied hash P own ending server (m ∷ []) ≡ said server m
  replied_one server m = ap bytes_of (append-nil (step server m).replies)

  -- a front of what is sent is one with more before it
  part_more : (server : Server) (m : Heard) (ms : List Heard) (out : List ℕ) → IsSentPart hash P own ending (step server m).server ms out
      → IsSentPart hash P own ending server (m ∷ ms) (said server m ++ out)
  part_more server m [] out part =
      let none : part.0 ≡ 0 = omega (arith, part.2) in
      let nothing : out ≡ [] = part.3 ∙ ap (λ n. take n []) none in
      let whole = replied_one server m in (
        length (said server m),
        omega arith,
        rw whole (omega arith),
        ap (λ o. said server m ++ o) nothing ∙ append-nil (said server m) ∙ sym (ap (take (length (said server m))) whole ∙ take_all (length (said server m)) (said server m) (omega arith)),
      )
  part_more server m (next ∷ more) out part =
      let before = replied_more server m (but_last (next ∷ more)) in
      let whole = replied_more server m (next ∷ more) in
      let first = said server m in (
        length first + part.0,
        rw (before, length-append first (replied hash P own ending (step server m).server (but_last (next ∷ more)))) (omega (arith, part.1)),
        rw (whole, length-append first (replied hash P own ending (step server m).server (next ∷ more))) (omega (arith, part.2)),
        ap (λ o. first ++ o) part.3
            ∙ sym (ap (take (length first + part.0)) whole ∙ take-append-add first (replied hash P own ending (step server m).server (next ∷ more)) part.0),
      )

  open_more : (server : Server) (m : Heard) (ms : List Heard) → (step server m).closing ≡ false → GoOn hash P own ending (step server m).server ms
      → GoOn hash P own ending server (m ∷ ms)
  open_more server m [] stays on = tt
  open_more server m (next ∷ more) stays on = (stays, on)

  -- what comes behind a request
  heard_more : (bytes rest : List ℕ) (r : Request) → messages request_of bytes ≡ Then r (messages request_of rest) → heard_in bytes ≡ Hears r ∷ heard_in rest
  heard_more bytes rest r came = ap heard_on came

  broken_more : (server : Server) (bytes rest : List ℕ) (r : Request) (ms : List Heard) (out : List ℕ) → messages request_of bytes ≡ Then r (messages request_of rest)
      → (step server (Hears r)).closing ≡ false → IsBrokenOff hash P own ending (step server (Hears r)).server rest ms out
      → IsBrokenOff hash P own ending server bytes (Hears r ∷ ms) (said server (Hears r) ++ out)
  broken_more server bytes rest r ms out came stays broken = record {
    others = broken.others;
    came = heard_more bytes rest r came ∙ ap (λ l. Hears r ∷ l) broken.came;
    go_on = open_more server (Hears r) ms stays broken.go_on;
    part = part_more server (Hears r) ms out broken.part;
  }

  -- the same of the bytes that were taken
  cut_more : (server : Server) (taken more : List ℕ) (r : Request) (ms : List Heard) (out : List ℕ) → IsReadAs taken r
      → (step server (Hears r)).closing ≡ false → IsCutAt hash P own ending (step server (Hears r)).server more ms out
      → IsCutAt hash P own ending server (taken ++ more) (Hears r ∷ ms) (said server (Hears r) ++ out)
  cut_more server taken more r ms out came stays cut = record {
    came = by cut.came;
    go_on = open_more server (Hears r) ms stays cut.go_on;
    part = part_more server (Hears r) ms out cut.part;
  }
    where
      by : (heard_in more ≡ ms) ⊎ (heard_in more ≡ ms ++ HearsEnd ∷ []) → (heard_in (taken ++ more) ≡ Hears r ∷ ms) ⊎ (heard_in (taken ++ more) ≡ Hears r ∷ (ms ++ HearsEnd ∷ []))
      by (inl is) = inl (ap heard_on (came more) ∙ ap (λ l. Hears r ∷ l) is)
      by (inr is) = inr (ap heard_on (came more) ∙ ap (λ l. Hears r ∷ l) is)

  stopped_more : (server : Server) (bytes rest : List ℕ) (r : Request) (ms : List Heard) (out : List ℕ) (behind : Server)
      → messages request_of bytes ≡ Then r (messages request_of rest) → (step server (Hears r)).closing ≡ false
      → LeavesStopped hash P own ending (step server (Hears r)).server rest ms out behind
      → LeavesStopped hash P own ending server bytes (Hears r ∷ ms) (said server (Hears r) ++ out) behind
  stopped_more server bytes rest r ms out behind came stays (inl is) = inl is
  stopped_more server bytes rest r ms out behind came stays (inr (inl is)) = inr (inl is)
  stopped_more server bytes rest r ms out behind came stays (inr (inr without)) = inr (inr (record {
    next = without.next;
    others = without.others;
    came = heard_more bytes rest r came ∙ ap (λ l. Hears r ∷ l) without.came;
    go_on = open_more server (Hears r) (ms ++ without.next ∷ []) stays without.go_on;
    whole = ap (λ o. said server (Hears r) ++ o) without.whole ∙ sym (replied_more server (Hears r) ms);
    stopped = without.stopped;
  }))

  -- all that is served goes on behind a request that doesn't close the connection
  served_more : (server : Server) (bytes rest : List ℕ) (r : Request) → messages request_of bytes ≡ Then r (messages request_of rest)
      → (step server (Hears r)).closing ≡ false
      → (let s = served hash P own ending server (messages request_of bytes) in
      let more = served hash P own ending (step server (Hears r)).server (messages request_of rest) in
      s ≡ record { server = more.server; replies = (step server (Hears r)).replies ++ more.replies })
  served_more server bytes rest r came stays =
      let s = step server (Hears r) in
      ap (served hash P own ending server) came
      ∙ ap (λ b. if_closing hash P own ending b s.replies s.server (λ server. served hash P own ending server (messages request_of rest))) stays

  pub goes_on : (Kept : (told made : List RoleCall) → Type 0) (server : Server) (bytes taken rest : List ℕ) (r : Request) → bytes ≡ taken ++ rest → IsReadAs taken r
      → (step server (Hears r)).closing ≡ false → (more out : List ℕ) (end : ConnectionEnd) (behind : Server)
      → IsServed hash P own ending Kept (step server (Hears r)).server rest more out end behind
      → IsServed hash P own ending Kept server bytes (taken ++ more) (said server (Hears r) ++ out) end behind
  goes_on Kept server bytes taken rest r parts read stays more out Over behind is =
      let came = first_request bytes taken rest r parts read in
      let all = served_more server bytes rest r came stays in
      let others = served hash P own ending (step server (Hears r)).server (messages request_of rest) in (
        ap (λ o. said server (Hears r) ++ o) is.0 ∙ sym (ap (λ (s : Served). bytes_of s.replies) all ∙ bytes_more (step server (Hears r)).replies others.replies),
        is.1 ∙ sym (ap (λ (s : Served). s.server) all),
      )
  goes_on Kept server bytes taken rest r parts read stays more out LinkFault behind is =
      (Hears r ∷ is.0, cut_more server taken more r is.0 out read stays is.1, is.2)
  goes_on Kept server bytes taken rest r parts read stays more out Stopped behind is =
      let came = first_request bytes taken rest r parts read in
      (Hears r ∷ is.0, broken_more server bytes rest r is.0 out came stays is.1, stopped_more server bytes rest r is.0 out behind came stays is.2, is.3)

  -- nothing was heard yet
  pub none_heard : (server : Server) (bytes : List ℕ) → IsBrokenOff hash P own ending server bytes [] []
  none_heard server bytes = record { others = heard_in bytes; came = refl; go_on = tt; part = (0, omega arith, omega arith, refl) }

  -- nothing stands whole in the bytes that were taken
  pub none_cut : (server : Server) (taken : List ℕ) → heard_in taken ≡ HearsEnd ∷ [] → IsCutAt hash P own ending server taken [] []
  none_cut server taken is = record { came = inr is; go_on = tt; part = (0, omega arith, omega arith, refl) }

  -- what is heard first
  heard_first : (bytes : List ℕ) (left' : Option (List ℕ)) (m : Heard) → ComesNext bytes left' m → (others : List Heard) × (heard_in bytes ≡ m ∷ others)
  heard_first bytes left' (Hears r) next = (heard_in next.1.0, heard_more bytes next.1.0 r (first_request bytes next.0 next.1.0 r next.1.1 next.2))
  heard_first bytes left' HearsBad next = ([], ap heard_on next.2.1 ∙ ap (λ m. m ∷ []) next.2.3)
  heard_first bytes left' HearsEnd next = ([], ap heard_on next.2.1 ∙ ap (λ m. m ∷ []) next.2.3)

  -- and of the bytes that were taken
  heard_first_taken : (bytes : List ℕ) (left' : Option (List ℕ)) (m : Heard) → (next : ComesNext bytes left' m)
      → (heard_in next.0 ≡ m ∷ []) ⊎ (heard_in next.0 ≡ m ∷ HearsEnd ∷ [])
  heard_first_taken bytes left' (Hears r) next = inr (ap heard_in (sym (append-nil next.0)) ∙ ap heard_on (next.2 []))
  heard_first_taken bytes left' HearsBad next = inl (ap heard_on next.2.2 ∙ ap (λ m. m ∷ []) next.2.3)
  heard_first_taken bytes left' HearsEnd next = inl (ap heard_on next.2.2 ∙ ap (λ m. m ∷ []) next.2.3)

  -- a front of the replies to it was sent
  pub first_part : (server : Server) (bytes : List ℕ) (left' : Option (List ℕ)) (m : Heard) (n : ℕ) → ComesNext bytes left' m → n ≤ length (said server m)
      → IsBrokenOff hash P own ending server bytes (m ∷ []) (take n (said server m))
  first_part server bytes left' m n next within =
      let first = heard_first bytes left' m next in
      let whole = replied_one server m in
      record { others = first.0; came = first.1; go_on = tt; part = (n, omega arith, rw whole within, sym (ap (take n) whole)) }

  pub first_cut : (server : Server) (bytes : List ℕ) (left' : Option (List ℕ)) (m : Heard) (n : ℕ) → (next : ComesNext bytes left' m) → n ≤ length (said server m)
      → IsCutAt hash P own ending server next.0 (m ∷ []) (take n (said server m))
  first_cut server bytes left' m n next within =
      let whole = replied_one server m in
      record { came = heard_first_taken bytes left' m next; go_on = tt; part = (n, omega arith, rw whole within, sym (ap (take n) whole)) }

  -- the server was stopped at it
  pub first_stopped : (Kept : (told made : List RoleCall) → Type 0) (server : Server) (bytes taken : List ℕ) (left' : Option (List ℕ)) (m : Heard) (behind : Server) → ComesNext bytes left' m
      → IsStopped hash P ending server m behind → Kept server.shared.commits behind.shared.commits → IsServed hash P own ending Kept server bytes taken [] Stopped behind
  first_stopped Kept server bytes taken left' m behind next stopped kept =
      let first = heard_first bytes left' m next in
      ([], none_heard server bytes, inr (inr (record { next = m; others = first.0; came = first.1; go_on = tt; whole = refl; stopped = stopped })), kept)

  over_stop : (Kept : (told made : List RoleCall) → Type 0) (server : Server) (bytes taken : List ℕ) (m : Heard) (stop : Stop) → messages request_of bytes ≡ NoMore stop → heard_stop stop ≡ m
      → IsServed hash P own ending Kept server bytes taken (said server m) Over (step server m).server
  over_stop Kept server bytes taken m stop came is = (
    sym (ap (λ ms. bytes_of (served hash P own ending server ms).replies) came ∙ ap (λ m. bytes_of (step server m).replies) is),
    sym (ap (λ ms. (served hash P own ending server ms).server) came ∙ ap (λ m. (step server m).server) is),
  )

  -- the connection is over behind it
  pub over_at : (Kept : (told made : List RoleCall) → Type 0) (server : Server) (bytes : List ℕ) (left' : Option (List ℕ)) (m : Heard) → (next : ComesNext bytes left' m)
      → ((r : Request) → m ≡ Hears r → (step server m).closing ≡ true)
      → IsServed hash P own ending Kept server bytes next.0 (said server m) Over (step server m).server
  over_at Kept server bytes left' (Hears r) next closes =
      let s = step server (Hears r) in
      let rest = next.1.0 in
      let all : served hash P own ending server (messages request_of bytes) ≡ record { server = s.server; replies = s.replies } =
      ap (served hash P own ending server) (first_request bytes next.0 rest r next.1.1 next.2)
      ∙ ap (λ b. if_closing hash P own ending b s.replies s.server (λ server. served hash P own ending server (messages request_of rest))) (closes r refl) in
      (sym (ap (λ (s : Served). bytes_of s.replies) all), sym (ap (λ (s : Served). s.server) all))
  over_at Kept server bytes left' HearsBad next closes = over_stop Kept server bytes next.0 HearsBad next.2.0 next.2.1 next.2.3
  over_at Kept server bytes left' HearsEnd next closes = over_stop Kept server bytes next.0 HearsEnd next.2.0 next.2.1 next.2.3
