-- Rows for where a link or a sink that fails breaks a play off, and for what is taken by then. What each word takes, and what it refuses.
use Rattle.std.specs.Prelude.{◌≡◌, ℕ, true, List, [], ◌∷◌, ◌++◌, Option, Some, None, Result, Ok, Err, refl}
use Rattle.std.proofs.Common.{inr}
use Rattle.core_terms.specs.Formats.{Hash}
use Rattle.core_terms.specs.Terms.{Program}
use Rattle.code_gen.specs.declared.code.Code.{Code}
use Rattle.ideal_meaning.specs.Examples.{bool_program}
use Rattle.mode_vm.specs.Meanings.{program_of}
use Rattle.printed_syntax.specs.Literals.{ConstructorNames}
use Rattle.session_meaning.specs.Client as meant
use Rattle.session_meaning.specs.MessageRows.{text_digest}
use Rattle.session_meaning.specs.Messages.{Hello, Welcome, IsCut, Messages, NoMore, Reply, Stop, Then, messages, reply_bytes, reply_of, request_bytes}
use Rattle.ask_script.specs.Scripts.{Opens}
use Rattle.script_play.specs.Halting.{BreaksAt, FailsAt, HaltsAt, IsLeast, TakesNone}
use Rattle.script_play.specs.HaltingInCode.{BreaksOn, FailsOn, HaltsOn, IsWhole, OnLinkFault, PlaysTo, TakesNext, TakesReply, TakesSoFar, TakesTold}
use Rattle.script_play.specs.PlayRows.{no_names, played, state}
use Rattle.script_play.specs.PlayedInCode.{IsPlayed}
use Rattle.script_play.specs.Playing.{AreComing, PlaysAs, World, done, world}
use Rattle.script_play.specs.PlayingInCode.{IsTelling, names_of, take_one}
use Rattle.script_play.specs.Plays.{Play, Sends, Stops, behind, goes_behind, hears, rests, told_of}
use Rattle.script_play.specs.Prompt.{WaitsForReply}
use Rattle.script_play.specs.declared.play_stop.PlayStop.{PlayStop}
use Rattle.script_play.specs.declared.play_stop.PlayStop.TheVariants.{Ended, LinkFault, WriteFault, NoMemory}
use Rattle.script_play.specs.declared.telling.Telling.{Telling}

-- A REPLY THAT HADN'T COME WHOLE
-- A script that opens a session: three bytes of the greeting's reply came before the link failed.
abbrev pub opens : Messages Reply → Play
opens ms = played (Opens 1 1 ∷ []) ms

abbrev pub start : World
start = world (Some []) (Some []) None

abbrev pub greeted : World
greeted = world (Some (request_bytes (Hello 1 text_digest 1 state))) (Some []) None

abbrev pub came : List ℕ
came = 0 ∷ 0 ∷ 0 ∷ []

pub halts_at : HaltsAt bool_program no_names start greeted (opens (messages reply_of came)).deeds
halts_at = record {
  front = Sends (Hello 1 text_digest 1 state) ∷ [];
  next = Stops IsCut;
  left = [];
  parted = refl;
  count = 0;
  unmet = inr refl;
  sent = refl;
  written = refl;
  last = refl;
}

pub halts_on : HaltsOn bool_program no_names (reply_bytes (Welcome 1)) (Some (3 ∷ 0x81 ∷ 0 ∷ 1 ∷ [])) start greeted opens
halts_on = record { taken = came; rest = 3 ∷ 0x81 ∷ 0 ∷ 1 ∷ []; parted = refl; left = refl; halts = halts_at }

-- it is so told of a link fault, and of nothing else
pub breaks_at_halt : BreaksAt bool_program no_names start greeted opens came LinkFault
    × BreaksOn bool_program no_names (reply_bytes (Welcome 1)) (Some (3 ∷ 0x81 ∷ 0 ∷ 1 ∷ [])) start greeted opens LinkFault
breaks_at_halt = (halts_at, halts_on)

-- of an end that was told, and of want of memory, nothing is said
pub others_say_nothing : (bytes : List ℕ) (left : Option (List ℕ)) (w w' : World) (plays : Messages Reply → Play) →
    BreaksAt bool_program no_names w w' plays bytes Ended × BreaksAt bool_program no_names w w' plays bytes NoMemory
    × BreaksOn bool_program no_names bytes left w w' plays Ended × BreaksOn bool_program no_names bytes left w w' plays NoMemory
others_say_nothing bytes left w w' plays = (tt, tt, tt, tt)

-- where the sink failed, fewer bytes would not have done
module _ (P : Program) (names : ConstructorNames) (w w' : World) (plays : Messages Reply → Play) where
  pub fails_at : (taken : List ℕ) (f : FailsAt P names w w' plays taken) → IsLeast plays taken f.fails.front
  fails_at taken f = f.least

  pub breaks_at_fail : (taken : List ℕ) → FailsAt P names w w' plays taken → BreaksAt P names w w' plays taken WriteFault
  breaks_at_fail taken f = f

  pub fails_on : (taken rest : List ℕ) → FailsAt P names w w' plays taken → FailsOn P names (taken ++ rest) (Some rest) w w' plays
  fails_on taken rest f = record { taken = taken; rest = rest; parted = refl; left = refl; fails = f }

  pub breaks_on_fail : (taken rest : List ℕ) → FailsAt P names w w' plays taken → BreaksOn P names (taken ++ rest) (Some rest) w w' plays WriteFault
  breaks_on_fail taken rest f = fails_on taken rest f

  -- where it goes on, what is played of the bytes that were taken is done, whatever comes behind them
  pub takes_so_far : (Is : meant.Client → Type 0) (bytes : List ℕ) (left : Option (List ℕ)) (more : meant.Client → Messages Reply → Play)
      (t : TakesSoFar P names Is bytes left w w' plays more) → (bytes ≡ t.taken ++ t.rest) × (left ≡ Some t.rest) × Is t.client × (w' ≡ done P names w t.deeds)
      × ((x : List ℕ) → plays (messages reply_of (t.taken ++ x)) ≡ behind t.deeds (more t.client (messages reply_of x))) × IsLeast plays t.taken t.deeds
  takes_so_far Is bytes left more t = (t.parted, t.left, t.stands, t.worlds, t.plays_on, t.least)

  pub plays_to : (Is : meant.Client → Type 0) (bytes : List ℕ) (left : Option (List ℕ)) → (TakesSoFar P names Is bytes left w w' plays rests → PlaysTo P names {T = Unit {0}} Is bytes left w w' plays (Ok tt))
      × ((halt : PlayStop) → BreaksOn P names bytes left w w' plays halt → PlaysTo P names {T = Unit {0}} Is bytes left w w' plays (Err halt))
  plays_to Is bytes left = ((λ t. t), (λ halt b. b))

-- what is played is told of the replies that come, and of the bytes
pub is_played : (code : Code) (Is : meant.Client → Type 0) (left left' : Option (List ℕ)) (w w' : World) (play : Messages Reply → Play) (result : Result (Unit {0}) PlayStop)
    → IsPlayed code Is left left' w w' play result → ((ms : Messages Reply) → AreComing left ms → PlaysAs (program_of code) (names_of code) Is left' w w' (play ms) result)
    × ((bytes : List ℕ) → left ≡ Some bytes → PlaysTo (program_of code) (names_of code) Is bytes left' w w' play result)
is_played code Is left left' w w' play result p = (p.plays, p.halts)

-- what is said where the link failed is said there alone
pub on_link_fault : (X : Type 0) → X → OnLinkFault {T = Unit {0}} (Err LinkFault) X × OnLinkFault {T = Unit {0}} (Ok tt) ⊥ × OnLinkFault {T = Unit {0}} (Err Ended) ⊥
    × OnLinkFault {T = Unit {0}} (Err WriteFault) ⊥ × OnLinkFault {T = Unit {0}} (Err NoMemory) ⊥
on_link_fault X x = (x, tt, tt, tt, tt)

-- ONE REPLY
-- without its last byte none can be read
pub whole_reply : IsWhole (reply_bytes (Welcome 1)) → (stop : Stop) × (messages reply_of (0 ∷ 0 ∷ 0 ∷ 3 ∷ 0x81 ∷ 0 ∷ []) ≡ NoMore stop)
whole_reply whole = whole (0 ∷ 0 ∷ 0 ∷ 3 ∷ 0x81 ∷ 0 ∷ []) 1 refl

pub takes_none : TakesNone (reply_bytes (Welcome 1)) (Some (3 ∷ 0x81 ∷ 0 ∷ 1 ∷ []))
takes_none = record { taken = came; rest = 3 ∷ 0x81 ∷ 0 ∷ 1 ∷ []; parted = refl; left = refl; stop = IsCut; short = inr refl; are_none = refl }

pub waits_for_reply : WaitsForReply (reply_bytes (Welcome 1)) (Some (9 ∷ [])) (record { left = Some (3 ∷ 0x81 ∷ 0 ∷ 1 ∷ []); sent = Some (9 ∷ []) })
waits_for_reply = (refl, takes_none)

module _ (hash : Hash) (P : Program) (names : ConstructorNames) (own : List ℕ) (Is : meant.Client → Type 0) (bytes : List ℕ) (left : Option (List ℕ)) (c : meant.Client) (telling : Telling) where
  pub takes_reply : (t : TakesReply hash P names own Is bytes left c telling) → (bytes ≡ t.taken ++ t.rest) × (left ≡ Some t.rest) × ((x : List ℕ) → messages reply_of (t.taken ++ x) ≡ Then t.reply (messages reply_of x))
      × (goes_behind (hears hash P own c t.reply).answer ≡ true) × IsTelling P names (told_of hash P own c t.reply) true telling × IsWhole t.taken × Is (hears hash P own c t.reply).client
  takes_reply t = (t.parted, t.left, t.is_first, t.goes, t.tells, t.whole, t.stands)

  pub takes_told : (t : TakesTold hash P names own bytes left c telling) → (bytes ≡ t.taken ++ t.rest) × (left ≡ Some t.rest) × ((take_one hash P own c (messages reply_of t.taken)).deeds ≡ t.deed ∷ [])
      × IsTelling P names t.deed telling.goes_on telling × IsWhole t.taken
  takes_told t = (t.parted, t.left, t.alone, t.tells, t.whole)

  pub takes_next : TakesNext hash P names own Is bytes left c (Ok telling)
      → TakesTold hash P names own bytes left c telling × (telling.goes_on ≡ true → TakesReply hash P names own Is bytes left c telling)
  takes_next t = t

  pub takes_next_none : TakesNone bytes left → TakesNext hash P names own Is bytes left c (Err LinkFault)
  takes_next_none t = t

  pub takes_nothing : TakesNext hash P names own Is bytes left c (Err Ended) × TakesNext hash P names own Is bytes left c (Err NoMemory) × (TakesNext hash P names own Is bytes left c (Err WriteFault) → ⊥)
  takes_nothing = (tt, tt, (λ t. t))
