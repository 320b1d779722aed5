-- Rows for how a connection ends and how links are served: a server of `unit_program`, a greeting and a leave. What each word takes, and what it
-- refuses.
use Rattle.std.specs.Prelude.{◌≡◌, ◌⊎◌, ℕ, zero, suc, Bool, true, false, List, [], ◌∷◌, ◌++◌, Option, Some, Ok, Err, refl, take}
use Rattle.std.proofs.Common.{arith, inl, inr, lit<, lit≤}
use Rattle.core_terms.specs.Formats.{Hash}
use Rattle.core_terms.specs.Values.{UnitV}
use Rattle.ideal_meaning.specs.Examples.{toy, bool_program, unit_program}
use Rattle.lam_outside.specs.Causes.{Rose}
use Rattle.lam_outside.specs.Links.{Linked}
use Rattle.session_meaning.specs.HistoryRows.{history, serving}
use Rattle.session_meaning.specs.Messages.{Hello, Bye}
use Rattle.session_meaning.specs.MessageRows.{bye_bytes, hello_bytes, text_digest}
use Rattle.session_meaning.specs.Server.{Server, Heard, Hears, HearsBad, HearsEnd, last_turn, new_server, server_after}
use Rattle.serve_core.specs.Serving.{Serves}
use Rattle.serve_core.specs.declared.server.ServeCore.{ServeCore}
use Rattle.link_ends.specs.MoreLinks.{AreMore}
use Rattle.link_ends.specs.declared.end.ConnectionEnd.{ConnectionEnd}
use Rattle.link_ends.specs.declared.end.ConnectionEnd.TheVariants.{Over, LinkFault, Stopped}
use Rattle.link_ends.specs.declared.link_stop.LinkStop.TheVariants as link_stop
use Rattle.link_ends.specs.declared.end.ServingEnd.TheVariants as serving_end
use Rattle.serve_links.specs.Connections.{AnyKept, GoOn, IsBrokenOff, IsCutAt, IsSentPart, IsServed, IsStoppedOn, LeavesStopped}
use Rattle.serve_links.specs.Ends.{IsBroken, StaysServer}
use Rattle.serve_links.specs.HistoriesInCode.{HasServed, own_digest, program_served, turns_of}
use Rattle.serve_links.specs.LinkLaws.{KeepsHistory}
use Rattle.serve_links.specs.ServedLinks.{AreServed, AreServedInPart, IsLinkServed, IsServedOn}
use Rattle.serve_links.specs.ServedLinksInCode.{AreCounted, AreMoreInPart, AreMoreServed, IsOneServed, IsOneWhole, ServesLinks, ServesNext, StaysOn}

-- The server before the first connection, and behind any that went so far: it has no sessions then. A greeting that it welcomes, and its reply; and
-- a leave, and the reply to that.
abbrev pub first : Server
first = new_server UnitV

abbrev pub greeting : Heard
greeting = Hears (Hello 1 text_digest 0 (toy []))

abbrev pub leave : Heard
leave = Hears (Bye 1)

abbrev pub welcome : List ℕ
welcome = 0 ∷ 0 ∷ 0 ∷ 3 ∷ 0x81 ∷ 0 ∷ 1 ∷ []

abbrev pub farewell : List ℕ
farewell = 0 ∷ 0 ∷ 0 ∷ 4 ∷ 0x85 ∷ 0 ∷ 1 ∷ 0 ∷ []

-- WHAT GOES ON
abbrev pub DoGoOn : List Heard → Type 0
DoGoOn heard = GoOn toy unit_program text_digest (last_turn 1) first heard

pub goes_on : DoGoOn [] × DoGoOn (HearsBad ∷ []) × DoGoOn (greeting ∷ leave ∷ HearsEnd ∷ [])
goes_on = (tt, tt, (refl, (refl, tt)))

-- behind what is no message nothing is heard
pub bad_ends : DoGoOn (HearsBad ∷ leave ∷ []) → ⊥
bad_ends g = let closes : true ≡ false = g.0 in cc (closes)

-- A PART IS SENT
-- of the replies to a greeting and a leave: the first whole, and of the second nothing, a part, or all
abbrev pub IsPart : List ℕ → Type 0
IsPart sent = IsSentPart toy unit_program text_digest (last_turn 1) first (greeting ∷ leave ∷ []) sent

pub parts_are_sent : IsPart welcome × IsPart (welcome ++ 0 ∷ 0 ∷ []) × IsPart (welcome ++ farewell)
parts_are_sent = ((7, lit≤ tt, lit≤ tt, refl), (9, lit≤ tt, lit≤ tt, refl), (15, lit≤ tt, lit≤ tt, refl))

-- and no other bytes
starts_so : (x y : ℕ) (xs ys : List ℕ) → x ∷ xs ≡ y ∷ ys → x ≡ y
starts_so x y xs ys e = cc (e)

pub no_others_are_sent : IsPart (9 ∷ []) → ⊥
no_others_are_sent (zero, least, most, is) = omega (arith, least)
no_others_are_sent (suc n, least, most, is) = let same : 9 ≡ 0 = starts_so 9 0 _ (take n (0 ∷ 0 ∷ 3 ∷ 0x81 ∷ 0 ∷ 1 ∷ farewell)) is in omega (arith, same)

-- HOW A CONNECTION ENDS
-- The link failed inside of the message behind both; and behind what is no message.
abbrev pub IsCut : (taken : List ℕ) → List Heard → (sent : List ℕ) → Type 0
IsCut taken heard sent = IsCutAt toy unit_program text_digest (last_turn 1) first taken heard sent

abbrev pub no_message : List ℕ
no_message = 0 ∷ 0 ∷ 0 ∷ 1 ∷ 9 ∷ []

pub cut_inside : IsCut (hello_bytes ++ (bye_bytes ++ 0 ∷ 0 ∷ [])) (greeting ∷ leave ∷ []) (welcome ++ 0 ∷ 0 ∷ [])
cut_inside = record { came = inr refl; go_on = (refl, tt); part = (9, lit≤ tt, lit≤ tt, refl) }

pub cut_behind_bad : IsCut (hello_bytes ++ no_message) (greeting ∷ HearsBad ∷ []) welcome
cut_behind_bad = record { came = inl refl; go_on = (refl, tt); part = (7, lit≤ tt, lit≤ tt, refl) }

-- A message of the bytes that were taken is heard, and none that they end inside of.
shorter : (a b : Heard) (more : List Heard) → a ∷ b ∷ more ≡ a ∷ [] → ⊥
shorter a b more e = cc (e)

leave_is_end : leave ∷ HearsEnd ∷ [] ≡ HearsEnd ∷ [] → ⊥
leave_is_end e = cc (e)

behind_first : (a : Heard) (xs ys : List Heard) → a ∷ xs ≡ a ∷ ys → xs ≡ ys
behind_first a xs ys e = cc (e)

pub leave_is_heard : IsCut (hello_bytes ++ bye_bytes) (greeting ∷ []) welcome → ⊥
leave_is_heard cut = by cut.came
  where
    by : (greeting ∷ leave ∷ HearsEnd ∷ [] ≡ greeting ∷ []) ⊎ (greeting ∷ leave ∷ HearsEnd ∷ [] ≡ greeting ∷ HearsEnd ∷ []) → ⊥
    by (inl e) = shorter greeting leave (HearsEnd ∷ []) e
    by (inr e) = leave_is_end (behind_first greeting (leave ∷ HearsEnd ∷ []) (HearsEnd ∷ []) e)

pub part_is_not_heard : IsCut (hello_bytes ++ 0 ∷ 0 ∷ []) (greeting ∷ leave ∷ []) welcome → ⊥
part_is_not_heard cut = by cut.came
  where
    by : (greeting ∷ HearsEnd ∷ [] ≡ greeting ∷ leave ∷ []) ⊎ (greeting ∷ HearsEnd ∷ [] ≡ greeting ∷ leave ∷ HearsEnd ∷ []) → ⊥
    by (inl e) = let is : HearsEnd ∷ [] ≡ leave ∷ [] = behind_first greeting (HearsEnd ∷ []) (leave ∷ []) e in cc (is)
    by (inr e) = let is : HearsEnd ∷ [] ≡ leave ∷ HearsEnd ∷ [] = behind_first greeting (HearsEnd ∷ []) (leave ∷ HearsEnd ∷ []) e in cc (is)

pub broken_off : IsBrokenOff toy unit_program text_digest (last_turn 1) first (hello_bytes ++ (bye_bytes ++ bye_bytes)) (greeting ∷ leave ∷ []) (welcome ++ 0 ∷ [])
broken_off = record { others = leave ∷ HearsEnd ∷ []; came = refl; go_on = (refl, tt); part = (8, lit≤ tt, lit≤ tt, refl) }

-- It was stopped at the leave: to the greeting all is replied, and no session is left.
pub stopped_at_leave : IsStoppedOn toy unit_program text_digest (last_turn 1) first (hello_bytes ++ bye_bytes) (greeting ∷ []) welcome first
stopped_at_leave = record { next = leave; others = HearsEnd ∷ []; came = refl; go_on = (refl, tt); whole = refl; stopped = (refl, refl, refl) }

-- or as it read, or at a reply, or at the end that is heard at a link fault
abbrev pub IsLeft : (behind : Server) → Type 0
IsLeft behind = LeavesStopped toy unit_program text_digest (last_turn 1) first (hello_bytes ++ bye_bytes) (greeting ∷ []) welcome behind

pub left_before : IsLeft (server_after toy unit_program text_digest (last_turn 1) first (greeting ∷ [])) × IsLeft first
left_before = (inl refl, inr (inl refl))

pub left_at_leave : IsLeft first
left_at_leave = inr (inr stopped_at_leave)

-- Where it is over, all was sent; where the link failed, or it was stopped, as above.
abbrev pub IsServedTo : (bytes taken sent : List ℕ) → (end : ConnectionEnd) → (behind : Server) → Type 0
IsServedTo bytes taken sent end behind = IsServed toy unit_program text_digest (last_turn 1) AnyKept first bytes taken sent end behind

pub served_over : IsServedTo (hello_bytes ++ bye_bytes) (hello_bytes ++ bye_bytes) (welcome ++ farewell) Over first
served_over = (refl, refl)

pub served_cut : IsServedTo (hello_bytes ++ (bye_bytes ++ bye_bytes)) (hello_bytes ++ (bye_bytes ++ 0 ∷ 0 ∷ [])) (welcome ++ 0 ∷ 0 ∷ []) LinkFault first
served_cut = (greeting ∷ leave ∷ [], cut_inside, refl)

pub served_stopped : IsServedTo (hello_bytes ++ bye_bytes) hello_bytes welcome Stopped first
served_stopped = (greeting ∷ [], record { others = leave ∷ HearsEnd ∷ []; came = refl; go_on = tt; part = (7, lit≤ tt, lit≤ tt, refl) }, left_at_leave, tt)

pub not_over_unsent : IsServedTo hello_bytes hello_bytes [] Over first → ⊥
not_over_unsent served = let none : [] ≡ welcome = served.0 in cc (none)

-- SERVED LINKS
-- A link on which a greeting came: at its two reads nothing was owed. And one that failed behind it.
abbrev pub link : Linked
link = record {
  port = 4711;
  given = hello_bytes;
  left = [];
  sent = welcome;
  reads = record { left = Some hello_bytes; sent = Some [] } ∷ record { left = Some []; sent = Some welcome } ∷ [];
}

abbrev pub failed : Linked
failed = record { port = 4711; given = hello_bytes; left = bye_bytes; sent = []; reads = [] }

abbrev pub IsOn : Linked → ConnectionEnd → Server → Type 0
IsOn link end behind = IsServedOn toy unit_program text_digest (last_turn 1) AnyKept first link end behind

pub link_is_served : IsOn link Over first
link_is_served = record { served = (refl, refl); prompt = (([], (hello_bytes, refl, refl), refl), ((hello_bytes, ([], refl, refl), refl), tt)) }

pub failed_is_served : IsOn failed LinkFault first
failed_is_served = record { served = (greeting ∷ [], record { came = inr refl; go_on = tt; part = (0, lit≤ tt, lit≤ tt, refl) }, refl); prompt = tt }

pub failed_stops : IsOn failed Stopped first
failed_stops = record {
  served = (greeting ∷ [], record { others = leave ∷ HearsEnd ∷ []; came = refl; go_on = tt; part = (0, lit≤ tt, lit≤ tt, refl) }, inr (inl refl), tt);
  prompt = tt;
}

over_is_not_stopped : Over ≡ Stopped → ⊥
over_is_not_stopped e = cc (e)

fault_is_not_stopped : LinkFault ≡ Stopped → ⊥
fault_is_not_stopped e = cc (e)

abbrev pub IsLink : Linked → (faulted : Bool) → Type 0
IsLink link faulted = IsLinkServed toy unit_program text_digest (last_turn 1) AnyKept first link faulted first

pub link_went : IsLink link false
link_went = record { end = Over; served = link_is_served; unstopped = over_is_not_stopped; fault = refl }

pub failed_went : IsLink failed true
failed_went = record { end = LinkFault; served = failed_is_served; unstopped = fault_is_not_stopped; fault = refl }

abbrev pub AreLinks : List Linked → (faulted : Bool) → Type 0
AreLinks links faulted = AreServed toy unit_program text_digest (last_turn 1) AnyKept first links faulted first

pub both_went : AreLinks (failed ∷ link ∷ []) true
both_went = (true, false, first, failed_went, (false, false, first, link_went, (refl, refl), refl), refl)

pub one_in_part : AreServedInPart toy unit_program text_digest (last_turn 1) AnyKept first (link ∷ failed ∷ []) first
one_in_part = record { before = link ∷ []; last = failed; all = refl; faulted = false; next = first; served = (false, false, first, link_went, (refl, refl), refl); broken = failed_stops }

-- a fault of one of them is told
pub fault_is_told : AreLinks [] true → ⊥
fault_is_told are = let e : true ≡ false = are.0 in cc (e)

-- of two versions the second is made by a commit
pub history_is_kept : KeepsHistory bool_program serving
history_is_kept = history

-- LINKS OF A NET
-- the links so far are one that failed and one that was served
pub more_links : AreMore 4711 (Some (failed ∷ [])) (failed ∷ link ∷ []) (link ∷ [])
more_links = record { before = failed ∷ []; told = refl; all = refl; at_port = (refl, tt) }

-- A core that served a link, or links, and stands behind them.
module _ (hash : Hash) {A G : Type 0} (old new : ServeCore A G) (server behind : Server) (serves : Serves hash new behind) where
  abbrev pub OnCode : Linked → ConnectionEnd → Type 0
  OnCode link end = IsServedOn hash (program_served old) (own_digest old) (turns_of old) AnyKept server link end behind

  pub one_served : (link : Linked) (end : ConnectionEnd) → OnCode link end → IsOneServed hash AnyKept old new server link.port (Some []) (link ∷ []) end
  one_served link end on = record { before = []; link = link; behind = behind; told = refl; all = refl; at_port = refl; served = on; serves = serves }

  pub one_whole : (link : Linked) → OnCode link Over → IsOneWhole hash AnyKept old new server link.port (Some []) (link ∷ []) false
  one_whole link on = record { end = Over; one = one_served link Over on; unstopped = over_is_not_stopped; fault = refl }

  pub one_faulted : (link : Linked) → OnCode link LinkFault → IsOneWhole hash AnyKept old new server link.port (Some []) (link ∷ []) true
  one_faulted link on = record { end = LinkFault; one = one_served link LinkFault on; unstopped = fault_is_not_stopped; fault = refl }

  abbrev pub AreOnCode : List Linked → (faulted : Bool) → Type 0
  AreOnCode links faulted = AreServed hash (program_served old) (own_digest old) (turns_of old) AnyKept server links faulted behind

  pub more_served : AreOnCode (link ∷ []) false → AreMoreServed hash AnyKept old new server 4711 (Some (failed ∷ [])) (failed ∷ link ∷ []) false 1
  more_served are = record { more = link ∷ []; behind = behind; are = more_links; number = refl; served = are; serves = serves }

  pub more_in_part : AreServedInPart hash (program_served old) (own_digest old) (turns_of old) AnyKept server (link ∷ []) behind
      → AreMoreInPart hash AnyKept old new server 4711 (Some (failed ∷ [])) (failed ∷ link ∷ []) 1
  more_in_part are = record { more = link ∷ []; behind = behind; are = more_links; number = lit≤ tt; served = are; serves = serves }

  -- as many as there were to be; or fewer, since an accept failed
  pub all_counted : AreOnCode (link ∷ []) false → AreCounted hash AnyKept old new server 4711 (Some (failed ∷ [])) (failed ∷ link ∷ []) 1 false 0 0
  all_counted are = record { faulted = false; count = 1; served = more_served are; number = inl (refl, refl) }

  pub fewer_counted : Rose 0 1 → AreOnCode (link ∷ []) false → AreCounted hash AnyKept old new server 4711 (Some (failed ∷ [])) (failed ∷ link ∷ []) 2 true 0 1
  fewer_counted rose are = record { faulted = false; count = 1; served = more_served are; number = inr (lit< tt, refl, rose) }

  -- the core goes on as a server; where it was stopped without a history
  pub stays : HasServed hash new → StaysOn hash new (serving_end.Served false) × StaysServer hash new Over × StaysServer hash new LinkFault
  stays served = (served, served, served)

  pub stays_server : StaysOn hash new serving_end.Stopped × StaysServer hash new Stopped
  stays_server = ((behind, serves), (behind, serves))

-- what a step of the serving says, by its answer
module _ (hash : Hash) {A G : Type 0} (old new : ServeCore A G) (server : Server) (links links' : Option (List Linked)) where
  pub next_served : (faulted : Bool) → ((after : List Linked) → links' ≡ Some after → IsOneWhole hash AnyKept old new server 4711 links after faulted)
      → ServesNext hash AnyKept old new server 4711 links links' (Ok faulted)
  next_served faulted one = one

  pub next_stops : ((after : List Linked) → links' ≡ Some after → IsOneServed hash AnyKept old new server 4711 links after Stopped)
      → ServesNext hash AnyKept old new server 4711 links links' (Err link_stop.Stopped)
  next_stops one = one

  pub none_accepted : ServesNext hash AnyKept old old server 4711 links links (Err link_stop.LinkFault)
  none_accepted = (refl, refl)

  pub links_served : (faulted : Bool) → ((after : List Linked) → links' ≡ Some after → AreCounted hash AnyKept old new server 4711 links after 9 faulted 0 0)
      → ServesLinks hash AnyKept old new server 4711 links links' 9 0 0 (serving_end.Served faulted)
  links_served faulted are = are

  pub links_stop : ((after : List Linked) → links' ≡ Some after → AreMoreInPart hash AnyKept old new server 4711 links after 9)
      → ServesLinks hash AnyKept old new server 4711 links links' 9 0 0 serving_end.Stopped
  links_stop are = are

-- a connection that broke off
pub breaks_off : IsBroken LinkFault × IsBroken Stopped × (IsBroken Over → ⊥)
breaks_off = (tt, tt, (λ b. b))
