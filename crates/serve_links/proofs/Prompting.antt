-- Replies that are sent before more is waited for: for next_heard and serve_link.
use Rattle.std.proofs.Common.{◌≡◌, ◌∙◌, ℕ, false, List, [], ◌∷◌, ◌++◌, take, Option, inl, inr, refl, sym, ap, append_assoc, append-nil}
use Rattle.std.specs.Io.KnownBytes.{append_known}
use Rattle.core_terms.specs.Formats.{Hash}
use Rattle.core_terms.specs.Terms.{Program}
use Rattle.lam_outside.specs.Moments.{Moment}
use Rattle.lam_outside.specs.LinkSteps.{AtEachRead}
use Rattle.lam_outside.proofs.Waiting.{reads_weaken}
use Rattle.session_meaning.specs.Connections.{bytes_sent, if_closing, served}
use Rattle.session_meaning.specs.Messages.{Request, Messages, NoMore, Then, AtEnd, IsCut, TooLong, BadMessage, messages, request_of}
use Rattle.session_meaning.specs.MessageFields.{read_request}
use Rattle.session_meaning.specs.Server.{Server, Hears, HearsBad, HearsEnd, handle}
use Rattle.session_meaning.proofs.WholeMessages.{requests_stop}
use Rattle.wire_form.specs.ReadMessages.{StopsShort}
use Rattle.wire_form.specs.Waits.{WaitsInside}
use Rattle.wire_form.proofs.Coming.{short_read}
use Rattle.link_ends.proofs.Taken.{took}
use Rattle.serve_links.specs.Connections.{bytes_of, heard_in, heard_on}
use Rattle.serve_links.specs.Messages.{IsReadAs}
use Rattle.serve_links.specs.Prompt.{IsPrompt, WaitsForOne}
use Rattle.serve_links.proofs.Broken.{bytes_more}

-- inside of a message nothing is heard but an end
short_heard : (taken : List ℕ) → StopsShort (read_request taken) → heard_in taken ≡ HearsEnd ∷ []
short_heard taken (inl none) = ap heard_on (requests_stop taken AtEnd none)
short_heard taken (inr none) = ap heard_on (requests_stop taken IsCut none)

pub waits_for_one : (bytes : List ℕ) (sent : Option (List ℕ)) (reads reads' : Option (List Moment)) → AtEachRead (WaitsInside bytes sent) reads reads' → AtEachRead (WaitsForOne bytes sent) reads reads'
waits_for_one bytes sent reads reads' waits =
    reads_weaken (WaitsInside bytes sent) (WaitsForOne bytes sent) (λ m stood. (
      stood.0,
      (
        take stood.1.taken bytes,
        took stood.1.taken bytes m.left stood.1.left,
        short_heard (take stood.1.taken bytes) (short_read request_of (take stood.1.taken bytes) stood.1.unfinished),
      ),
    )) reads reads' waits

module _ (hash : Hash) (P : Program) (own : List ℕ) (ending : ℕ → ℕ) where
  none_replied : (server : Server) (ms : Messages Request) → heard_on ms ≡ HearsEnd ∷ [] → bytes_of (served hash P own ending server ms).replies ≡ []
  none_replied server (NoMore AtEnd) is = refl
  none_replied server (NoMore IsCut) is = refl
  none_replied server (NoMore (TooLong len)) is = absurd (let clash : HearsBad ∷ [] ≡ HearsEnd ∷ [] = is in cc)
  none_replied server (NoMore (BadMessage kind offset)) is = absurd (let clash : HearsBad ∷ [] ≡ HearsEnd ∷ [] = is in cc)
  none_replied server (Then r more) is = absurd (let clash : Hears r ∷ heard_on more ≡ HearsEnd ∷ [] = is in cc)

  -- behind a message, of the bytes behind it
  pub replied_on : (server : Server) (taken further : List ℕ) (r : Request) → IsReadAs taken r → (handle hash P own ending server (Hears r)).closing ≡ false
      → bytes_sent hash P own ending server (taken ++ further)
      ≡ bytes_of (handle hash P own ending server (Hears r)).replies ++ bytes_sent hash P own ending (handle hash P own ending server (Hears r)).server further
  replied_on server taken further r came stays =
      let step = handle hash P own ending server (Hears r) in
      let on = served hash P own ending step.server (messages request_of further) in
      ap (λ ms. bytes_of (served hash P own ending server ms).replies) (came further)
      ∙ ap (λ closing. bytes_of (if_closing hash P own ending closing step.replies step.server (λ server. served hash P own ending server (messages request_of further))).replies) stays
      ∙ bytes_more step.replies on.replies

  -- a message is waited for behind others, to which all was replied
  pub prompt_now : (server current : Server) (bytes taken rest out : List ℕ) (sent sent' : Option (List ℕ)) → bytes ≡ taken ++ rest → sent' ≡ append_known sent out
      → ((further : List ℕ) → bytes_sent hash P own ending server (taken ++ further) ≡ out ++ bytes_sent hash P own ending current further)
      → (m : Moment) → WaitsForOne rest sent' m → IsPrompt hash P own ending server bytes sent m
  prompt_now server current bytes taken rest out sent sent' all sends replied m waits =
      let t = waits.1.0 in
      let none : bytes_sent hash P own ending current t ≡ [] = none_replied current (messages request_of t) waits.1.2 in
      let so_far : bytes_sent hash P own ending server (taken ++ t) ≡ out = replied t ∙ ap (λ more. out ++ more) none ∙ append-nil out in (
        taken ++ t,
        (waits.1.1.0, all ∙ ap (λ l. taken ++ l) waits.1.1.1 ∙ sym (append_assoc taken t waits.1.1.0), waits.1.1.2),
        waits.0 ∙ sends ∙ ap (append_known sent) (sym so_far),
      )
