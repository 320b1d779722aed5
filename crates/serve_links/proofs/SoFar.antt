-- A connection that goes on, message by message: for serve_link.
use Rattle.std.proofs.Common.{inl, inr, ◌≡◌, ℕ, Bool, List, [], ◌++◌, Option, Some, Result, Err, refl, sym, ap, subst, subst₂, ◌∙◌, append_assoc}
use Rattle.std.specs.Io.KnownBytes.{append_known}
use Rattle.lam_outside.proofs.Moved.{append_none, append_twice}
use Rattle.core_terms.specs.Formats.{Hash}
use Rattle.code_gen.specs.declared.code.Code.{Code}
use Rattle.code_gen.specs.Programs.{program_in}
use Rattle.mode_vm.specs.Meanings.{program_of}
use Rattle.session_meaning.specs.Calls.{RoleCall}
use Rattle.session_meaning.specs.Server.{Server, Hears, HearsEnd, last_turn, server_after}
use Rattle.serve_core.specs.Serving.{Serves}
use Rattle.serve_core.specs.declared.server.ServeCore.{ServeCore}
use Rattle.link_ends.specs.declared.end.ConnectionEnd.{ConnectionEnd}
use Rattle.link_ends.specs.declared.end.ConnectionEnd.TheVariants.{Over, LinkFault, Stopped}
use Rattle.link_ends.specs.declared.link_stop.LinkStop.{LinkStop}
use Rattle.link_ends.specs.declared.link_stop.LinkStop.TheVariants as link_stop
use Rattle.serve_links.specs.Connections.{IsServed, bytes_of, left_by_end}
use Rattle.serve_links.specs.Ends.{IsBroken, StaysServer}
use Rattle.serve_links.specs.HistoriesInCode.{HasSameCode, HasServed, own_digest, program_served, step_of, turns_of}
use Rattle.serve_links.specs.Messages.{BreaksOff, Ends, ServingGoesOn, ServesMessage, StaysServing}
use Rattle.serve_links.proofs.Broken.{goes_on}
use Rattle.serve_links.proofs.Prompting.{prompt_now, replied_on}
use Rattle.lam_outside.specs.Moments.{Moment}
use Rattle.lam_outside.specs.LinkSteps.{AtEachRead}
use Rattle.lam_outside.proofs.Waiting.{reads_on, reads_weaken}
use Rattle.session_meaning.specs.Connections.{bytes_sent}
use Rattle.serve_links.specs.Prompt.{IsPrompt, WaitsForOne}
use Rattle.serve_links.proofs.Serving.{served_more}

module _ (hash : Hash) (Kept : (told made : List RoleCall) → Type 0) where
  -- what a server of this code and these turns sends, and leaves
  abbrev IsServedBy : Code → ℕ → Server → (bytes taken sent : List ℕ) → ConnectionEnd → (behind : Server) → Type 0
  IsServedBy code slice = IsServed hash (program_of code) (program_in code).text_digest.0 (last_turn slice) Kept

-- To these bytes is replied this, and then what another server replies to others.
abbrev IsRepliedBy : Hash → Code → ℕ → Server → (bytes out : List ℕ) → Server → List ℕ → Type 0
IsRepliedBy hash code slice server bytes out next further =
    bytes_sent hash (program_of code) (program_in code).text_digest.0 (last_turn slice) server bytes
    ≡ out ++ bytes_sent hash (program_of code) (program_in code).text_digest.0 (last_turn slice) next further

module _ (hash : Hash) {A G : Type 0} where
  -- a core that heard an end at a fault
  pub stays_at_end : (old new : ServeCore A G) → HasSameCode old new → HasServed hash old
      → ((server : Server) → Serves hash old server → Serves hash new (step_of hash old server HearsEnd).server) → (end : ConnectionEnd) → StaysServer hash new end
  stays_at_end old new same h ended Over = served_more hash old new same h.server HearsEnd h.history tt (ended h.server h.serves)
  stays_at_end old new same h ended LinkFault = served_more hash old new same h.server HearsEnd h.history tt (ended h.server h.serves)
  stays_at_end old new same h ended Stopped = ((step_of hash old h.server HearsEnd).server, ended h.server h.serves)

  pub stays_halted_fault : (core : ServeCore A G) (stop : LinkStop) → stop ≡ link_stop.LinkFault → StaysServing {T = Bool} hash core (Err stop) → HasServed hash core
  stays_halted_fault core stop is stays = let Of : LinkStop → Type 0 = λ stop. StaysServing {T = Bool} hash core (Err stop) in subst Of is stays

  pub code_more : (old now new : ServeCore A G) → HasSameCode old now → HasSameCode now new → HasSameCode old new
  code_more old now new first more = record { code = more.code ∙ first.code; slice = more.slice ∙ first.slice }

module _ (hash : Hash) (Kept : (told made : List RoleCall) → Type 0) {A G : Type 0} where
  -- A core served this server as the bytes began to come, and serves one now that goes on with those that are left: whatever that
  -- one sends then was sent on the whole connection, behind what was sent by now.
  pub record IsSoFar (old now : ServeCore A G) (server : Server) (sent sent' : Option (List ℕ)) (bytes : List ℕ) (left' : Option (List ℕ)) : Type 0 where
    pub out : List ℕ
    pub taken : List ℕ
    pub rest : List ℕ
    pub current : Server
    pub sends : sent' ≡ append_known sent out
    pub all : bytes ≡ taken ++ rest
    pub told : left' ≡ Some rest
    pub serves : Serves hash now current
    pub replied : (further : List ℕ) → IsRepliedBy hash old.code old.slice server (taken ++ further) out current further
    pub behind : (further more : List ℕ) (end : ConnectionEnd) (last : Server) → IsServedBy hash Kept old.code old.slice current rest further more end last
        → IsServedBy hash Kept old.code old.slice server bytes (taken ++ further) (out ++ more) end last

  -- what a message's result says, where it is known
  pub served_at : (old new : ServeCore A G) (server : Server) (sent sent' : Option (List ℕ)) (bytes : List ℕ) (left' : Option (List ℕ)) (r known : Result Bool LinkStop) → r ≡ known
      → ServesMessage hash Kept old new server sent sent' bytes left' r → ServesMessage hash Kept old new server sent sent' bytes left' known
  served_at old new server sent sent' bytes left' r known is served =
      let Of : Result Bool LinkStop → Type 0 = λ r. ServesMessage hash Kept old new server sent sent' bytes left' r in subst Of is served

  pub at_first : (core : ServeCore A G) (server : Server) (sent : Option (List ℕ)) (bytes : List ℕ) (left : Option (List ℕ)) → left ≡ Some bytes → Serves hash core server
      → IsSoFar core core server sent sent bytes left
  at_first core server sent bytes left told serves = record {
    out = [];
    taken = [];
    rest = bytes;
    current = server;
    sends = sym (append_none sent);
    all = refl;
    told = told;
    serves = serves;
    replied = λ further. refl;
    behind = λ further more end last served. served;
  }

  module _ (old now : ServeCore A G) (same : HasSameCode old now) where
    -- what is said of the core now is said of the one at first
    abbrev of_code : (P : Code → ℕ → Type 0) → P now.code now.slice → P old.code old.slice
    of_code P is =
        let OfCode : Code → Type 0 = λ code. P code now.slice in
        let OfSlice : ℕ → Type 0 = λ slice. P old.code slice in
        subst OfSlice same.slice (subst OfCode same.code is)

    module _ (server : Server) (sent sent' sent'' : Option (List ℕ)) (bytes : List ℕ) (left' : Option (List ℕ)) (so_far : IsSoFar old now server sent sent' bytes left') where
      sent_behind : (more : List ℕ) → sent'' ≡ append_known sent' more → sent'' ≡ append_known sent (so_far.out ++ more)
      sent_behind more sends = sends ∙ ap (λ w. append_known w more) so_far.sends ∙ append_twice sent so_far.out more

      -- one message more
      pub one_more : (Also : (told made : List RoleCall) → Type 0) (new : ServeCore A G) (left'' : Option (List ℕ)) → ServingGoesOn hash Also now new so_far.current sent' sent'' so_far.rest left''
          → IsSoFar old new server sent sent'' bytes left''
      one_more Also new left'' on = record {
        out = so_far.out ++ bytes_of (step_of hash now so_far.current (Hears on.request)).replies;
        taken = so_far.taken ++ on.taken;
        rest = on.rest;
        current = (step_of hash now so_far.current (Hears on.request)).server;
        sends = sent_behind (bytes_of (step_of hash now so_far.current (Hears on.request)).replies) on.sends;
        all = so_far.all ∙ ap (λ l. so_far.taken ++ l) on.all ∙ sym (append_assoc so_far.taken on.taken on.rest);
        told = on.told;
        serves = on.serves;
        replied = λ further.
            let said = bytes_of (step_of hash now so_far.current (Hears on.request)).replies in
            let next = (step_of hash now so_far.current (Hears on.request)).server in
            let one = replied_on hash (program_served now) (own_digest now) (turns_of now) so_far.current on.taken further on.request on.came on.stays_open in
            let first : IsRepliedBy hash old.code old.slice so_far.current (on.taken ++ further) said next further =
            of_code (λ code slice. IsRepliedBy hash code slice so_far.current (on.taken ++ further) said next further) one in
            let B = bytes_sent hash (program_of old.code) (program_in old.code).text_digest.0 (last_turn old.slice) in
            ap (B server) (append_assoc so_far.taken on.taken further) ∙ so_far.replied (on.taken ++ further) ∙ ap (λ l. so_far.out ++ l) first
            ∙ sym (append_assoc so_far.out said (B next further));
        behind = λ further more end last served.
            let said = bytes_of (step_of hash now so_far.current (Hears on.request)).replies in
            let next = (step_of hash now so_far.current (Hears on.request)).server in
            let there : IsServedBy hash Kept now.code now.slice next on.rest further more end last =
            of_now (λ code slice. IsServedBy hash Kept code slice next on.rest further more end last) served in
            let one : IsServedBy hash Kept now.code now.slice so_far.current so_far.rest (on.taken ++ further) (said ++ more) end last =
            goes_on hash (program_served now) (own_digest now) (turns_of now) Kept so_far.current so_far.rest on.taken on.rest on.request on.all on.came on.stays_open further more end last there in
            let Whole : List ℕ → List ℕ → Type 0 = λ taken sent. IsServedBy hash Kept old.code old.slice server bytes taken sent end last in
            subst₂ Whole (sym (append_assoc so_far.taken on.taken further)) (sym (append_assoc so_far.out said more))
            (so_far.behind (on.taken ++ further) (said ++ more) end last
            (of_code (λ code slice. IsServedBy hash Kept code slice so_far.current so_far.rest (on.taken ++ further) (said ++ more) end last) one));
      }
        where
          of_now : (P : Code → ℕ → Type 0) → P old.code old.slice → P now.code now.slice
          of_now P is =
              let OfCode : Code → Type 0 = λ code. P code old.slice in
              let OfSlice : ℕ → Type 0 = λ slice. P now.code slice in
              subst OfSlice (sym same.slice) (subst OfCode (sym same.code) is)

      -- as the next message is waited for, all was replied
      pub waits_more : (reads reads' reads'' : Option (List Moment))
          → AtEachRead (IsPrompt hash (program_served old) (own_digest old) (turns_of old) server bytes sent) reads reads'
          → AtEachRead (WaitsForOne so_far.rest sent') reads' reads''
          → AtEachRead (IsPrompt hash (program_served old) (own_digest old) (turns_of old) server bytes sent) reads reads''
      waits_more reads reads' reads'' before waits =
          let Q = IsPrompt hash (program_served old) (own_digest old) (turns_of old) server bytes sent in
          reads_on Q reads reads' reads'' before (reads_weaken (WaitsForOne so_far.rest sent') Q
          (prompt_now hash (program_served old) (own_digest old) (turns_of old) server so_far.current bytes so_far.taken so_far.rest so_far.out sent sent' so_far.all so_far.sends so_far.replied)
          reads' reads'' waits)

      -- the connection ends at the next message
      pub ends_now : (new : ServeCore A G) (left'' : Option (List ℕ)) (end : ConnectionEnd) → Ends hash Kept now new so_far.current sent' sent'' so_far.rest left'' end
          → Ends hash Kept old new server sent sent'' bytes left'' end
      ends_now new left'' end ended = record {
        taken = so_far.taken ++ ended.taken;
        out = so_far.out ++ ended.out;
        behind = ended.behind;
        takes = (
          ended.takes.0,
          so_far.all ∙ ap (λ l. so_far.taken ++ l) ended.takes.1 ∙ sym (append_assoc so_far.taken ended.taken ended.takes.0),
          ended.takes.2,
        );
        sends = sent_behind ended.out ended.sends;
        served = so_far.behind ended.taken ended.out end ended.behind
            (of_code (λ code slice. IsServedBy hash Kept code slice so_far.current so_far.rest ended.taken ended.out end ended.behind) ended.served);
        serves = ended.serves;
      }

      -- it broke off, and the server heard the end
      pub breaks_now : (broken ended : ServeCore A G) (left'' : Option (List ℕ)) (end : ConnectionEnd) → IsBroken end
          → (off : BreaksOff hash Kept now broken so_far.current sent' sent'' so_far.rest left'')
          → Serves hash ended (left_by_end hash (program_served now) (own_digest now) (turns_of now) so_far.current off.heard)
          → (let told = (server_after hash (program_served now) (own_digest now) (turns_of now) so_far.current off.heard).shared.commits in Kept told told)
          → Ends hash Kept old ended server sent sent'' bytes left'' end
      breaks_now broken ended left'' end is off serves kept = ends_now ended left'' end (record {
        taken = off.taken;
        takes = off.takes;
        out = off.out;
        behind = left_by_end hash (program_served now) (own_digest now) (turns_of now) so_far.current off.heard;
        sends = off.sends;
        served = by end is;
        serves = serves;
      })
        where
          by : (end : ConnectionEnd) → IsBroken end
              → IsServedBy hash Kept now.code now.slice so_far.current so_far.rest off.taken off.out end (left_by_end hash (program_served now) (own_digest now) (turns_of now) so_far.current off.heard)
          by Over is = absurd is
          by LinkFault is = (off.heard, off.cut, refl)
          by Stopped is = (off.heard, off.broken, inr (inl refl), kept)
