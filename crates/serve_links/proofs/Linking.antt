-- Links that were served, and one more: for serve_next and serve_links.
use Rattle.std.proofs.Common.{inl, inr, ◌≡◌, ℕ, ◌+◌, ◌<◌, Bool, true, false, ◌||◌, List, [], ◌∷◌, ◌++◌, Option, Some, Result, refl, sym, ap, subst, ◌∙◌, arith, length-append}
use Rattle.std.specs.List.{AllByRecursion}
use Rattle.std.proofs.lemmas.List.{append_cancel_right}
use Rattle.std.specs.Io.KnownBytes.{prepend_known}
use Rattle.core_terms.specs.Formats.{Hash}
use Rattle.core_terms.specs.Terms.{Program}
use Rattle.code_gen.specs.declared.code.Code.{Code}
use Rattle.code_gen.specs.Programs.{program_in}
use Rattle.mode_vm.specs.Meanings.{program_of}
use Rattle.lam_outside.specs.Causes.{Rose}
use Rattle.lam_outside.specs.Links.{Linked, links_so_far, IsMade}
use Rattle.lam_outside.specs.Moments.{Moment}
use Rattle.lam_outside.specs.LinkSteps.{AtEachRead}
use Rattle.session_meaning.specs.Calls.{RoleCall}
use Rattle.session_meaning.specs.Server.{Server, last_turn}
use Rattle.wire_form.specs.MovedBytes.{Moves}
use Rattle.serve_core.specs.Serving.{Serves}
use Rattle.serve_core.specs.declared.server.ServeCore.{ServeCore}
use Rattle.link_ends.specs.declared.link_stop.LinkStop.{LinkStop}
use Rattle.link_ends.specs.declared.end.ConnectionEnd.{ConnectionEnd}
use Rattle.link_ends.specs.declared.end.ConnectionEnd.TheVariants as connection
use Rattle.link_ends.specs.MoreLinks.{bytes_on}
use Rattle.link_ends.proofs.FaultsTold.{or_others}
use Rattle.link_ends.proofs.OneMore.{are_more}
use Rattle.link_ends.proofs.StandingLink.{all_stood, from_nothing, nothing_sent, told}
use Rattle.serve_links.specs.Connections.{AnyKept, IsServed}
use Rattle.serve_links.specs.HistoriesInCode.{HasSameCode, own_digest, program_served, turns_of}
use Rattle.serve_links.specs.Messages.{Ends}
use Rattle.serve_links.specs.Prompt.{IsPrompt}
use Rattle.serve_links.specs.ServedLinks.{AreServed, IsLinkServed, IsServedOn}
use Rattle.serve_links.specs.ServedLinksInCode.{AreCounted, AreMoreInPart, AreMoreServed, IsOneServed, IsOneWhole, ServesNext}

module _ (hash : Hash) (Kept : (told made : List RoleCall) → Type 0) {A G : Type 0} (old new : ServeCore A G) (server : Server) (port : ℕ) where
  abbrev IsPromptOn : List ℕ → Option (List ℕ) → Moment → Type 0
  IsPromptOn = IsPrompt hash (program_served old) (own_digest old) (turns_of old) server

  -- A link was made and served.
  pub one_served : (links ended1 ended2 : Option (List Linked)) (port1 port2 : Option ℕ) (given0 sent0 given1 left1 sent1 given2 left2 sent2 : Option (List ℕ))
      (reads1 reads2 : Option (List Moment)) (end : ConnectionEnd) (after : List Linked)
      → IsMade port links ended1 port1 given0 sent0 given1 sent1 reads1 → ended2 ≡ ended1 → port2 ≡ port1 → Moves given1 left1 given2 left2
      → ((bytes : List ℕ) → left1 ≡ Some bytes → Ends hash Kept old new server sent1 sent2 bytes left2 end)
      → ((bytes : List ℕ) → left1 ≡ Some bytes → AtEachRead (IsPromptOn bytes sent1) reads1 reads2)
      → links_so_far ended2 port2 given2 left2 sent2 reads2 ≡ Some after → IsOneServed hash Kept old new server port links after end
  one_served links ended1 ended2 port1 port2 given0 sent0 given1 left1 sent1 given2 left2 sent2 reads1 reads2 end after made same at moves ends prompt is =
      let told_now = told ended2 port given2 left2 sent2 reads2 after (ap (λ (p : Option ℕ). links_so_far ended2 p given2 left2 sent2 reads2) (sym (at ∙ made.at_port)) ∙ is) in
      let came : left1 ≡ Some (moves.0 ++ told_now.rest) = moves.1 ∙ ap (prepend_known moves.0) told_now.left_is in
      let e = ends (moves.0 ++ told_now.rest) came in
      let read : told_now.read ≡ moves.0 = from_nothing given1 given0 moves.0 told_now.read made.none_given (sym told_now.given_is ∙ moves.2) in
      let out : told_now.out ≡ e.out = from_nothing sent1 sent0 e.out told_now.out made.none_sent (sym told_now.sent_is ∙ e.sends) in
      let rest : e.takes.0 ≡ told_now.rest = let both : Some e.takes.0 ≡ Some told_now.rest = sym e.takes.2 ∙ told_now.left_is in cc in
      let taken : e.taken ≡ moves.0 = append_cancel_right e.taken moves.0 told_now.rest (ap (λ r. e.taken ++ r) (sym rest) ∙ sym e.takes.1) in
      let Served : List ℕ → List ℕ → List ℕ → Type 0 =
      λ bytes taken out. IsServed hash (program_served old) (own_digest old) (turns_of old) Kept server (bytes ++ told_now.rest) taken out end e.behind in
      let WithTaken : List ℕ → Type 0 = λ taken. Served moves.0 taken e.out in
      let WithOut : List ℕ → Type 0 = λ out. Served moves.0 moves.0 out in
      let WithRead : List ℕ → Type 0 = λ read. Served read read told_now.out in
      let first : sent1 ≡ Some [] = nothing_sent sent1 sent0 told_now.out e.out made.none_sent (sym told_now.sent_is ∙ e.sends) in
      let Prompt : List ℕ → Option (List ℕ) → Type 0 = λ read sent. AllByRecursion (IsPromptOn (read ++ told_now.rest) sent) told_now.begun in
      let stood : Prompt moves.0 sent1 =
      all_stood (IsPromptOn (moves.0 ++ told_now.rest) sent1) reads1 reads2 told_now.begun made.none_begun told_now.reads_are (prompt (moves.0 ++ told_now.rest) came) in
      let from_first : Prompt moves.0 (Some []) = subst (λ sent. Prompt moves.0 sent) first stood in
      record {
        before = told_now.before;
        link = record { port = port; given = told_now.read; left = told_now.rest; sent = told_now.out; reads = told_now.begun };
        behind = e.behind;
        told = sym made.others_ended ∙ sym same ∙ told_now.ended_is;
        all = told_now.all;
        at_port = refl;
        served = record {
          served = subst WithRead (sym read) (subst WithOut (sym out) (subst WithTaken taken e.served));
          prompt = subst (λ read. Prompt read (Some [])) (sym read) from_first;
        };
        serves = e.serves;
      }

-- served links, and one behind them
module _ (hash : Hash) (P : Program) (own : List ℕ) (ending : ℕ → ℕ) where
  -- of one that wasn't stopped nothing is said of how commits are kept
  served_so : (Kept Also : (told made : List RoleCall) → Type 0) (server : Server) (bytes taken sent : List ℕ) (end : ConnectionEnd) (behind : Server)
      → (end ≡ connection.Stopped → ⊥) → IsServed hash P own ending Kept server bytes taken sent end behind → IsServed hash P own ending Also server bytes taken sent end behind
  served_so Kept Also server bytes taken sent connection.Over behind unstopped is = is
  served_so Kept Also server bytes taken sent connection.LinkFault behind unstopped is = is
  served_so Kept Also server bytes taken sent connection.Stopped behind unstopped is = absurd (unstopped refl)

  link_so : (Kept Also : (told made : List RoleCall) → Type 0) (server : Server) (link : Linked) (faulted : Bool) (behind : Server)
      → IsLinkServed hash P own ending Kept server link faulted behind → IsLinkServed hash P own ending Also server link faulted behind
  link_so Kept Also server link faulted behind is = record {
    end = is.end;
    served = record {
      served = served_so Kept Also server (bytes_on link) link.given link.sent is.end behind is.unstopped is.served.served;
      prompt = is.served.prompt;
    };
    unstopped = is.unstopped;
    fault = is.fault;
  }

  pub links_so : (Kept Also : (told made : List RoleCall) → Type 0) (server : Server) (links : List Linked) (faulted : Bool) (behind : Server)
      → AreServed hash P own ending Kept server links faulted behind → AreServed hash P own ending Also server links faulted behind
  links_so Kept Also server [] faulted behind are = are
  links_so Kept Also server (link ∷ links) faulted behind are = (
    are.0,
    are.1,
    are.2,
    link_so Kept Also server link are.0 are.2 are.3,
    links_so Kept Also are.2 links are.1 behind are.4,
    are.5,
  )

  -- one more link behind those that were served
  pub all_served : (links : List Linked) (link : Linked) (server next behind : Server) (faulted fault : Bool) → AreServed hash P own ending AnyKept server links faulted next
      → IsLinkServed hash P own ending AnyKept next link fault behind → AreServed hash P own ending AnyKept server (links ++ link ∷ []) (faulted || fault) behind
  all_served [] link server next behind faulted fault are one =
      let Whole : Bool → Type 0 = λ f. AreServed hash P own ending AnyKept server (link ∷ []) f behind in
      let Of : Server → Type 0 = λ s. IsLinkServed hash P own ending AnyKept s link fault behind in
      let none : fault || false ≡ faulted || fault = rest fault ∙ ap (λ (f : Bool). f || fault) (sym are.0) in
      subst Whole none (fault, false, behind, subst Of are.1 one, (refl, refl), refl)
    where
      rest : (b : Bool) → (b || false) ≡ b
      rest true = refl
      rest false = refl
  all_served (first ∷ links) link server next behind faulted fault are one = (
    are.0,
    are.1 || fault,
    are.2,
    are.3,
    all_served links link are.2 next behind are.1 fault are.4 one,
    ap (λ (f : Bool). f || fault) are.5 ∙ or_others are.0 are.1 fault,
  )

module _ (hash : Hash) (Kept : (told made : List RoleCall) → Type 0) {A G : Type 0} (old now new : ServeCore A G) (same : HasSameCode old now) (server : Server) (port : ℕ) where
  abbrev IsServedBy : Code → ℕ → Server → Linked → ConnectionEnd → Server → Type 0
  IsServedBy code slice = IsServedOn hash (program_of code) (program_in code).text_digest.0 (last_turn slice) Kept

  -- what was served by the core now was so by one of the code of that at first
  served_by_old : (s : Server) (link : Linked) (end : ConnectionEnd) (behind : Server) → IsServedBy now.code now.slice s link end behind → IsServedBy old.code old.slice s link end behind
  served_by_old s link end behind is =
      let OfCode : Code → Type 0 = λ code. IsServedBy code now.slice s link end behind in
      let OfSlice : ℕ → Type 0 = λ slice. IsServedBy old.code slice s link end behind in
      subst OfSlice same.slice (subst OfCode same.code is)

  -- One link more was served.
  pub link_more : (links between : Option (List Linked)) (after : List Linked) (faulted fault flag : Bool) (count : ℕ) → flag ≡ (faulted || fault)
      → ((links' : List Linked) → between ≡ Some links' → AreMoreServed hash AnyKept old now server port links links' faulted count)
      → ((s : Server) → Serves hash now s → IsOneWhole hash Kept now new s port between after fault)
      → (current : Server) → Serves hash now current
      → AreMoreServed hash AnyKept old new server port links after flag (count + 1)
  link_more links between after faulted fault flag count told so_far whole current serves =
      let first = (whole current serves).one in
      let served = so_far first.before first.told in
      let last = whole served.behind served.serves in
      let next = last.one in
      let same_before : first.before ≡ next.before = let e : Some first.before ≡ Some next.before = sym first.told ∙ next.told in cc in
      let more = are_more port links first.before after served.more next.link served.are (next.all ∙ ap (λ l. l ++ next.link ∷ []) (sym same_before)) next.at_port in
      let OfFlag : Bool → Type 0 = λ flag. AreMoreServed hash AnyKept old new server port links after flag (count + 1) in
      subst OfFlag (sym told) (record {
        more = served.more ++ next.link ∷ [];
        behind = next.behind;
        are = more;
        number = length-append served.more (next.link ∷ []) ∙ ap (λ n. n + 1) served.number;
        served = all_served hash (program_served old) (own_digest old) (turns_of old) served.more next.link server served.behind next.behind faulted fault served.served
            (link_so hash (program_served old) (own_digest old) (turns_of old) Kept AnyKept served.behind next.link fault next.behind
            (record { end = last.end; served = served_by_old served.behind next.link last.end next.behind next.served; unstopped = last.unstopped; fault = last.fault }));
        serves = next.serves;
      })

  -- Serving was stopped on the next one.
  pub link_in_part : (links between : Option (List Linked)) (after : List Linked) (faulted : Bool) (count most : ℕ)
      → count < most → ((links' : List Linked) → between ≡ Some links' → AreMoreServed hash AnyKept old now server port links links' faulted count)
      → ((s : Server) → Serves hash now s → IsOneServed hash Kept now new s port between after connection.Stopped)
      → (current : Server) → Serves hash now current
      → AreMoreInPart hash Kept old new server port links after most
  link_in_part links between after faulted count most fewer so_far one current serves =
      let first = one current serves in
      let served = so_far first.before first.told in
      let next = one served.behind served.serves in
      let same_before : first.before ≡ next.before = let e : Some first.before ≡ Some next.before = sym first.told ∙ next.told in cc in
      let more = are_more port links first.before after served.more next.link served.are (next.all ∙ ap (λ l. l ++ next.link ∷ []) (sym same_before)) next.at_port in
      let size = length-append served.more (next.link ∷ []) in
      record {
        more = served.more ++ next.link ∷ [];
        behind = next.behind;
        are = more;
        number = omega (arith, size, served.number, fewer);
        served = record {
          before = served.more;
          last = next.link;
          all = refl;
          faulted = faulted;
          next = served.behind;
          served = links_so hash (program_served old) (own_digest old) (turns_of old) AnyKept Kept server served.more faulted served.behind served.served;
          broken = served_by_old served.behind next.link connection.Stopped next.behind next.served;
        };
        serves = next.serves;
      }

-- what the next link's result says, where it is known
pub next_at : (hash : Hash) (Kept : (told made : List RoleCall) → Type 0) {A G : Type 0} (old new : ServeCore A G) (server : Server) (port : ℕ) (links links' : Option (List Linked)) (r known : Result Bool LinkStop) → r ≡ known
    → ServesNext hash Kept old new server port links links' r → ServesNext hash Kept old new server port links links' known
next_at hash Kept old new server port links links' r known is serves =
    let Of : Result Bool LinkStop → Type 0 = λ r. ServesNext hash Kept old new server port links links' r in subst Of is serves

-- those so far, and whatever is said of how commits are kept
pub more_so : (hash : Hash) (Kept Also : (told made : List RoleCall) → Type 0) {A G : Type 0} (old new : ServeCore A G) (server : Server) (port : ℕ) (links : Option (List Linked))
    (after : List Linked) (faulted : Bool) (count : ℕ) → AreMoreServed hash Kept old new server port links after faulted count → AreMoreServed hash Also old new server port links after faulted count
more_so hash Kept Also old new server port links after faulted count so_far = record {
  more = so_far.more;
  behind = so_far.behind;
  are = so_far.are;
  number = so_far.number;
  served = links_so hash (program_served old) (own_digest old) (turns_of old) Kept Also server so_far.more faulted so_far.behind so_far.served;
  serves = so_far.serves;
}

-- There were as many as there were to be.
pub all_counted : (hash : Hash) (Kept : (told made : List RoleCall) → Type 0) {A G : Type 0} (old new : ServeCore A G) (server : Server) (port : ℕ) (links : Option (List Linked))
    (after : List Linked) (faulted : Bool) (count connections accepts accepts' : ℕ) → count ≡ connections
    → AreMoreServed hash AnyKept old new server port links after faulted count → AreCounted hash Kept old new server port links after connections faulted accepts accepts'
all_counted hash Kept old new server port links after faulted count connections accepts accepts' number so_far =
    record { faulted = faulted; count = count; served = more_so hash AnyKept Kept old new server port links after faulted count so_far; number = inl (number, refl) }

-- No link was accepted: those so far are all.
pub no_more : (hash : Hash) (Kept : (told made : List RoleCall) → Type 0) {A G : Type 0} (old now new : ServeCore A G) (server : Server) (port : ℕ) (links : Option (List Linked)) (after : List Linked) (faulted : Bool)
    (count connections accepts before accepts' : ℕ) → new ≡ now → count < connections → before ≡ accepts → Rose before accepts'
    → AreMoreServed hash AnyKept old now server port links after faulted count → AreCounted hash Kept old new server port links after connections true accepts accepts'
no_more hash Kept {A = A} {G = G} old now new server port links after faulted count connections accepts before accepts' kept fewer same rose so_far =
    let OfCore : ServeCore A G → Type 0 = λ core. AreMoreServed hash AnyKept old core server port links after faulted count in
    let From : ℕ → Type 0 = λ n. Rose n accepts' in
    record { faulted = faulted; count = count; served = more_so hash AnyKept Kept old new server port links after faulted count (subst OfCore (sym kept) so_far); number = inr (fewer, refl, subst From same rose) }
