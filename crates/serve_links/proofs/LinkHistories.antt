-- Links keep the history of a server: by what is heard on them, and by the steps at which it is stopped.
use Rattle.std.proofs.Common.{inl, inr, ℕ, Bool, List, [], ◌∷◌, sym, subst}
use Rattle.core_terms.specs.Formats.{Hash}
use Rattle.core_terms.specs.Terms.{Program}
use Rattle.lam_outside.specs.Links.{Linked}
use Rattle.session_meaning.specs.ServerLaws.{ConnectionsAreHeard, HistoryGoesOn, StopsKeepHistory}
use Rattle.session_meaning.specs.Messages.{messages, request_of}
use Rattle.session_meaning.specs.Server.{Server as TheServer, Heard, HearsEnd, server_after}
use Rattle.link_ends.specs.MoreLinks.{bytes_on}
use Rattle.link_ends.specs.declared.end.ConnectionEnd.{ConnectionEnd}
use Rattle.link_ends.specs.declared.end.ConnectionEnd.TheVariants as connection
use Rattle.serve_links.specs.Connections.{AnyKept, IsServed, LeavesStopped, left_by_end}
use Rattle.serve_links.specs.LinkLaws.{KeepsHistory, LinksKeepHistory, PartsKeepHistory}
use Rattle.serve_links.specs.ServedLinks.{AreServed}

module _ (goes_on : HistoryGoesOn) (stopped : StopsKeepHistory) (heard_on : ConnectionsAreHeard) where
  module _ (hash : Hash) (P : Program) (own : List ℕ) (ending : ℕ → ℕ) where
    heard_keeps : (server : TheServer) (heard : List Heard) → KeepsHistory P server → KeepsHistory P (server_after hash P own ending server heard)
    heard_keeps server heard h = goes_on hash P own ending server heard h

    end_keeps : (server : TheServer) (heard : List Heard) → KeepsHistory P server → KeepsHistory P (left_by_end hash P own ending server heard)
    end_keeps server heard h = goes_on hash P own ending (server_after hash P own ending server heard) (HearsEnd ∷ []) (heard_keeps server heard h)

    stopped_keeps : (server : TheServer) (bytes : List ℕ) (heard : List Heard) (sent : List ℕ) (behind : TheServer) → KeepsHistory P server
        → LeavesStopped hash P own ending server bytes heard sent behind → KeepsHistory P behind
    stopped_keeps server bytes heard sent behind h (inl e) = subst (KeepsHistory P) (sym e) (heard_keeps server heard h)
    stopped_keeps server bytes heard sent behind h (inr (inl e)) = subst (KeepsHistory P) (sym e) (end_keeps server heard h)
    stopped_keeps server bytes heard sent behind h (inr (inr w)) =
        stopped hash P own ending (server_after hash P own ending server heard) w.next behind (heard_keeps server heard h) w.stopped

    link_keeps : (server : TheServer) (bytes taken sent : List ℕ) (end : ConnectionEnd) (behind : TheServer) → KeepsHistory P server
        → IsServed hash P own ending AnyKept server bytes taken sent end behind → KeepsHistory P behind
    link_keeps server bytes taken sent connection.Over behind h is =
        let as_heard = (heard_on hash P own ending server (messages request_of bytes)).0 in
        subst (KeepsHistory P) (sym is.1) (subst (KeepsHistory P) (sym as_heard.1) (heard_keeps server as_heard.0 h))
    link_keeps server bytes taken sent connection.LinkFault behind h is = subst (KeepsHistory P) (sym is.2) (end_keeps server is.0 h)
    link_keeps server bytes taken sent connection.Stopped behind h is = stopped_keeps server bytes is.0 sent behind h is.2

    links_keep : (server : TheServer) (links : List Linked) (faulted : Bool) (behind : TheServer) → KeepsHistory P server
        → AreServed hash P own ending AnyKept server links faulted behind → KeepsHistory P behind
    links_keep server [] faulted behind h are = subst (KeepsHistory P) (sym are.1) h
    links_keep server (link ∷ links) faulted behind h (first, others, next, is, are, e) =
        links_keep next links others behind (link_keeps server (bytes_on link) link.given link.sent is.end next h is.served.served) are

  pub links_keep_history : LinksKeepHistory
  links_keep_history = links_keep

  pub parts_keep_history : PartsKeepHistory
  parts_keep_history hash P own ending server links behind h are =
      link_keeps hash P own ending are.next (bytes_on are.last) are.last.given are.last.sent connection.Stopped behind
      (links_keep hash P own ending server are.before are.faulted are.next h are.served) are.broken.served
