-- Where a link may break a play off, and where it may not; and what a read and a line that couldn't be written wait for: scripts that open a session.
use Rattle.std.proofs.Common.{inl, inr, ◌≡◌, ℕ, suc, ◌<◌, List, [], ◌∷◌, ◌++◌, codes, length, take, drop, Some, None, refl, sym, ap, ◌∙◌, subst, arith}
use Rattle.std.proofs.lemmas.List.{length-take-le}
use Rattle.std.specs.Fmt.{digits}
use Rattle.std.specs.Io.KnownBytes.{append_known}
use Rattle.core_terms.specs.Roles.{Role}
use Rattle.ideal_meaning.specs.Examples.{bool_program}
use Rattle.session_meaning.specs.Calls.{no_role}
use Rattle.session_meaning.specs.Client as client
use Rattle.session_meaning.specs.Messages.{AtEnd, IsCut, Go, Hello, Call, Bye, BadMessage, Request, Stop, TooLong, Welcome, messages, reply_bytes, reply_of, request_bytes}
use Rattle.session_meaning.specs.MessageRows.{text_digest}
use Rattle.ask_script.specs.Scripts.{Calls, Closes, Goes, Opens}
use Rattle.script_play.specs.DeedLines.{bytes_sent, deed_bytes, lines_told}
use Rattle.script_play.specs.Halting.{HaltsAt, IsLeast, IsUnmet, StopsWithin}
use Rattle.script_play.specs.PlayRows.{no_names, opened, played, state}
use Rattle.script_play.specs.Playing.{World, done, world}
use Rattle.script_play.specs.Plays.{Deed, Sends, Stops, Tells}
use Rattle.script_play.specs.Prompt.{IsPromptOn}

-- WHAT A LINK KEEPS FROM BEING DONE
-- of the 7 bytes of a message that leaves a session, 6 were sent; had all been, it were done
unsent : IsUnmet (Sends (Bye 1)) 6
unsent = omega arith

sent_whole : IsUnmet (Sends (Bye 1)) 7 → ⊥
sent_whole unmet = omega (arith, unmet)

-- a reply of which nothing came, or a part; but no reply that came, and no bytes that are none
none_came : IsUnmet (Stops AtEnd) 0
none_came = inl refl

part_came : IsUnmet (Stops IsCut) 0
part_came = inr refl

one_came : IsUnmet (Tells 1 no_role client.TellsWelcome) 0 → ⊥
one_came unmet = unmet

bad_came : IsUnmet (Stops (BadMessage 4 0)) 0 → ⊥
bad_came (inl e) = cc
bad_came (inr e) = cc

long_came : IsUnmet (Stops (TooLong 16777217)) 0 → ⊥
long_came (inl e) = cc
long_came (inr e) = cc

-- THE GREETING CAME, AND TWO BYTES OF THE NEXT MESSAGE
abbrev came : List ℕ
came = reply_bytes (Welcome 1) ++ 0 ∷ 0 ∷ []

abbrev deeds : List Deed
deeds = (played (Opens 1 1 ∷ Calls 1 2 1 [] ∷ Goes ∷ []) (messages reply_of came)).deeds

deeds_are : deeds ≡ opened 1 ++ (Sends (Call 1 2 1 []) ∷ Sends (Go 4294967295) ∷ Stops IsCut ∷ [])
deeds_are = refl

abbrev hello : List ℕ
hello = request_bytes (Hello 1 text_digest 1 state)

abbrev start : World
start = world (Some []) (Some []) None

-- it is told, and what the lines behind it ask is sent
greeting_told : HaltsAt bool_program no_names start
    (world (Some (hello ++ (request_bytes (Call 1 2 1 []) ++ request_bytes (Go 4294967295)))) (Some (codes "1 welcome\n")) None) deeds
unfolding digits
greeting_told = record {
  front = opened 1 ++ (Sends (Call 1 2 1 []) ∷ Sends (Go 4294967295) ∷ []);
  next = Stops IsCut;
  left = [];
  parted = refl;
  count = 0;
  unmet = inr refl;
  sent = refl;
  written = refl;
  last = refl;
}

never_whole : (xs : List ℕ) (n : ℕ) → n < length xs → xs ≡ take n xs → ⊥
never_whole xs n h e = omega (arith, h, ap length e, length-take-le n xs (omega (arith, h)))

welcome_told : (front : List Deed) → lines_told bool_program no_names (Sends (Hello 1 text_digest 1 state) ∷ (Tells 1 no_role client.TellsWelcome ∷ front))
    ≡ codes "1 welcome\n" ++ lines_told bool_program no_names front
unfolding digits
welcome_told front = refl

-- a link that fails behind the first request can't keep the greeting from being told
greeting_untold : HaltsAt bool_program no_names start (world (Some hello) (Some []) None) deeds → ⊥
greeting_untold h = by h.front h.next h.left h.count h.parted h.unmet h.sent h.written
  where
    greets : Deed
    greets = Sends (Hello 1 text_digest 1 state)

    welcomes : Deed
    welcomes = Tells 1 no_role client.TellsWelcome

    by : (front : List Deed) (next : Deed) (left : List Deed) (count : ℕ) → deeds ≡ front ++ next ∷ left → IsUnmet next count
        → Some hello ≡ append_known (done bool_program no_names start front).sent (take count (deed_bytes next))
        → Some (let none : List ℕ = [] in none) ≡ (done bool_program no_names start front).written → ⊥
    by [] next left count parted unmet sent written =
        let is : next ≡ greets = let p : greets ∷ (welcomes ∷ (Sends (Call 1 2 1 []) ∷ Sends (Go 4294967295) ∷ Stops IsCut ∷ [])) ≡ next ∷ left = parted in cc in
        let same : Some hello ≡ Some (take count hello) = sent ∙ ap (λ d. Some (take count (deed_bytes d))) is in
        never_whole hello count (subst (λ d. IsUnmet d count) is unmet) (cc)
    by (a ∷ []) next left count parted unmet sent written =
        let is : next ≡ welcomes = let p : greets ∷ (welcomes ∷ (Sends (Call 1 2 1 []) ∷ Sends (Go 4294967295) ∷ Stops IsCut ∷ [])) ≡ a ∷ (next ∷ left) = parted in cc in
        subst (λ d. IsUnmet d count) is unmet
    by (a ∷ (b ∷ front)) next left count parted unmet sent written =
        let p : greets ∷ (welcomes ∷ (Sends (Call 1 2 1 []) ∷ Sends (Go 4294967295) ∷ Stops IsCut ∷ [])) ≡ a ∷ (b ∷ (front ++ next ∷ left)) = parted in
        let first : a ≡ greets = cc in
        let second : b ≡ welcomes = cc in
        let told : Some (let none : List ℕ = [] in none) ≡ Some (codes "1 welcome\n" ++ lines_told bool_program no_names front) =
        written ∙ ap (λ d. Some (lines_told bool_program no_names (d ∷ (b ∷ front)))) first ∙ ap (λ d. Some (lines_told bool_program no_names (greets ∷ (d ∷ front)))) second ∙ ap Some (welcome_told front) in
        let clash : [] ≡ codes "1 welcome\n" ++ lines_told bool_program no_names front = cc in
        let sizes : 0 ≡ suc (length (codes " welcome\n" ++ lines_told bool_program no_names front)) = ap length clash in
        omega (arith, sizes)

-- AT A READ
-- What stops behind a request has sent it.
sent_first : (r : Request) (x : ℕ) (xs : List ℕ) (tail front : List Deed) (stop : Stop) (behind : List Deed) → request_bytes r ≡ x ∷ xs
    → Sends r ∷ tail ≡ front ++ Stops stop ∷ behind → Some [] ≡ Some (bytes_sent front) → ⊥
sent_first r x xs tail [] stop behind begins parted sent = let e : Sends r ∷ tail ≡ Stops stop ∷ behind = parted in cc
sent_first r x xs tail (a ∷ front) stop behind begins parted sent =
    let same : a ≡ Sends r = let e : Sends r ∷ tail ≡ a ∷ (front ++ Stops stop ∷ behind) = parted in cc in
    let e : Some [] ≡ Some ((x ∷ xs) ++ bytes_sent front) =
    sent ∙ ap (λ (d : Deed). Some (deed_bytes d ++ bytes_sent front)) same ∙ ap (λ (b : List ℕ). Some (b ++ bytes_sent front)) begins in
    cc

-- no reply is waited for before the first request was sent
read_unsent : IsPromptOn [] (Some []) (played (Opens 1 1 ∷ [])) (record { left = Some []; sent = Some [] }) → ⊥
read_unsent on = by on.taken on.rest on.parted on.awaits.front on.awaits.stop on.awaits.behind on.awaits.parted on.awaits.sent_is
  where
    by : (taken rest : List ℕ) → [] ≡ taken ++ rest → (front : List Deed) (stop : Stop) (behind : List Deed)
        → (played (Opens 1 1 ∷ []) (messages reply_of taken)).deeds ≡ front ++ Stops stop ∷ behind → Some [] ≡ Some (bytes_sent front) → ⊥
    by [] rest all front stop behind parted sent = sent_first (Hello 1 text_digest 1 state) 0 (drop 1 hello) (Stops AtEnd ∷ []) front stop behind refl parted sent
    by (x ∷ taken) rest all front stop behind parted sent = absurd (let e : [] ≡ x ∷ (taken ++ rest) = all in cc)

read_sent : IsPromptOn [] (Some []) (played (Opens 1 1 ∷ [])) (record { left = Some []; sent = Some hello })
read_sent = record {
  taken = [];
  rest = [];
  parted = refl;
  left = refl;
  awaits = record { front = Sends (Hello 1 text_digest 1 state) ∷ []; stop = AtEnd; short = inl refl; behind = []; parted = refl; sent_is = refl };
}

-- A LINE THAT COULDN'T BE WRITTEN
-- what was told stands in front of where a play stops
told_within : (r : Request) (session : ℕ) (called : Role) (answer : client.Answer) (tail : List Deed) → StopsWithin (Sends r ∷ []) (Sends r ∷ Tells session called answer ∷ tail) → ⊥
told_within r session called answer tail s = by s.before s.more s.within s.parted
  where
    by : (before more : List Deed) → Sends r ∷ [] ≡ before ++ more → Sends r ∷ Tells session called answer ∷ tail ≡ before ++ Stops s.stop ∷ s.behind → ⊥
    by [] more within parted = let e : Sends r ∷ Tells session called answer ∷ tail ≡ Stops s.stop ∷ s.behind = parted in cc
    by (a ∷ []) more within parted = let e : Sends r ∷ Tells session called answer ∷ tail ≡ a ∷ Stops s.stop ∷ s.behind = parted in cc
    by (a ∷ (b ∷ before)) more within parted = let e : Sends r ∷ [] ≡ a ∷ (b ∷ (before ++ more)) = within in cc

-- where the first line couldn't be written, no byte behind its reply had been taken
none_further : IsLeast (played (Opens 1 1 ∷ Closes 1 ∷ [])) (reply_bytes (Welcome 1) ++ 0 ∷ []) (Sends (Hello 1 text_digest 1 state) ∷ []) → ⊥
none_further least =
    told_within (Hello 1 text_digest 1 state) 1 no_role client.TellsWelcome (Sends (Bye 1) ∷ Stops AtEnd ∷ []) (least (reply_bytes (Welcome 1)) 0 refl)
