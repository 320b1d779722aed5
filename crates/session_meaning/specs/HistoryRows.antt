-- Rows for what the laws of the server say: of versions, commits and proofs, of what becomes of a session, of its limits, and of a step that memory is
-- wanting for. What each word takes, and what it refuses.
use Rattle.std.specs.Prelude.{◌≡◌, ◌<◌, ◌≤◌, ℕ, true, false, List, [], ◌∷◌, map, replicate, Option, Some, None, refl, length, nat_le, ◌+◌}
use Rattle.std.proofs.Common.{arith, inl, inr, lit<, lit≤, T, ap, bytes_eq, subst, sym, ◌∙◌}
use Rattle.core_terms.specs.Values.{Value, UnitV, BoolV, PairV}
use Rattle.core_terms.specs.Terms.{Init, Query, Update}
use Rattle.ideal_meaning.specs.Run.{DivZero, first_in}
use Rattle.ideal_meaning.specs.Ideal.{Done, Trapped, Out, Outcome}
use Rattle.ideal_meaning.specs.Frames.{Frame, frame_bytes}
use Rattle.ideal_meaning.specs.Examples.{toy, bool_program}
use Rattle.session_meaning.specs.Calls.{RoleCall, changes_state, frames_of, reads_state, role_in, state_made}
use Rattle.session_meaning.specs.Messages.{Go, Bye, Reply, Welcome, Proof, Stale, Refused, Closed}
use Rattle.session_meaning.specs.Tables.{Numbered, Ascend, find, put, remove}
use Rattle.session_meaning.specs.Fates.{Becomes, RunsOn, IsProved, MovesTo, answered, replies_to}
use Rattle.session_meaning.specs.Server.{Heard, Hears, Running, Session, Shared, Server, last_turn, messages_limit, new_server, new_session, one_session, version_at, fits_message, frames_turn}
use Rattle.session_meaning.specs.ServerLaws.{IsHonestReply, IsLimited}
use Rattle.session_meaning.specs.ServedHistories.{IsHistory, Makes}
use Rattle.session_meaning.specs.Stopped.{IsStopped, Reaches}
use Rattle.session_meaning.specs.RunRows.{seen_twice}

-- CALLS
-- a query and an update read the state, and an update changes it
pub kinds : (map reads_state (Init ∷ Query ∷ Update ∷ []) ≡ false ∷ true ∷ true ∷ []) × (map changes_state (Init ∷ Query ∷ Update ∷ []) ≡ false ∷ false ∷ true ∷ [])
kinds = (refl, refl)

-- past the last role stands one that can't be called
pub roles : ((role_in bool_program 2).function ≡ 2) × (reads_state (role_in bool_program 4).kind ≡ false) × ((role_in bool_program 4).function ≡ 0)
roles = (refl, refl, refl)

-- only an update's value makes a state: its first component
pub states_made : (map (λ o. state_made Update o) (Done (PairV UnitV (BoolV true)) ∷ Trapped DivZero ∷ Out ∷ []) ≡ Some UnitV ∷ None ∷ None ∷ [])
    × (state_made Query (Done (PairV UnitV (BoolV true))) ≡ None)
states_made = (refl, refl)

-- the update that makes a bool its opposite, and the query that reads it twice
abbrev pub flips : RoleCall
flips = record { role = 2; argument = UnitV; fuel = 1 }

abbrev pub sees : RoleCall
sees = record { role = 1; argument = UnitV; fuel = 1 }

-- TABLES
-- numbers ascend from the least on, none twice
abbrev pub at : ℕ → Numbered ℕ
at number = record { number = number; value = number }

pub ascending : Ascend 1 (at 1 ∷ at 2 ∷ at 9 ∷ [])
ascending = (lit≤ tt, (lit≤ tt, (lit≤ tt, tt)))

pub not_below_the_least : Ascend 2 (at 1 ∷ []) → ⊥
not_below_the_least a = omega (arith, a.0)

pub not_twice : Ascend 1 (at 1 ∷ at 1 ∷ []) → ⊥
not_twice a = omega (arith, a.1.0)

pub puts : (put 5 0 (at 3 ∷ at 7 ∷ []) ≡ at 3 ∷ record { number = 5; value = 0 } ∷ at 7 ∷ []) × (put 3 0 (at 3 ∷ at 7 ∷ []) ≡ record { number = 3; value = 0 } ∷ at 7 ∷ [])
puts = (refl, refl)

pub removes : remove 3 (at 3 ∷ at 5 ∷ at 3 ∷ []) ≡ at 5 ∷ []
removes = refl

pub finds : (find 5 (at 3 ∷ at 5 ∷ []) ≡ Some 5) × (find 4 (at 3 ∷ at 5 ∷ []) ≡ None)
finds = (refl, refl)

-- VERSIONS
-- an update makes the opposite bool, and not the same; a query makes none
pub made : Makes bool_program (BoolV true) flips (BoolV false)
made = record { update = refl; value = PairV (BoolV false) (BoolV true); done = refl; first = refl }

abbrev first_done : Outcome → Value
first_done (Done v) = first_in v
first_done o = UnitV

pub not_the_same : Makes bool_program (BoolV true) flips (BoolV true) → ⊥
not_the_same m = let other : BoolV true ≡ BoolV false = m.first ∙ sym (ap first_done m.done) in cc (other)

pub not_by_a_query : (w : Value) → Makes bool_program (BoolV true) sees w → ⊥
not_by_a_query w m = let e : Query ≡ Update = m.update in cc (e)

pub not_by_a_trap : (w : Value) → Makes bool_program (BoolV true) (record { role = 2; argument = UnitV; fuel = 0 }) w → ⊥
not_by_a_trap w m = let e : Out ≡ Done m.value = m.done in cc (e)

-- two versions and one commit, and no other number of either; a server has a version
pub history : IsHistory bool_program (BoolV true ∷ BoolV false ∷ []) (flips ∷ [])
history = (made, tt)

pub first_history : (v : Value) → IsHistory bool_program (v ∷ []) []
first_history v = tt

pub no_commit_too_many : (v : Value) → IsHistory bool_program (v ∷ []) (flips ∷ []) → ⊥
no_commit_too_many v h = h

pub no_version_too_many : (v w : Value) → IsHistory bool_program (v ∷ w ∷ []) [] → ⊥
no_version_too_many v w h = h

pub no_version : IsHistory bool_program [] [] → ⊥
no_version h = h

pub each_is_made : IsHistory bool_program (BoolV true ∷ BoolV true ∷ []) (flips ∷ []) → ⊥
each_is_made h = not_the_same h.0

pub later_is_made : IsHistory bool_program (BoolV false ∷ BoolV true ∷ BoolV true ∷ []) (flips ∷ flips ∷ []) → ⊥
later_is_made h = not_the_same h.1.0

-- PROOFS
-- a session that calls for both bools, at the second of two versions
abbrev pub running : Running
running = record { call = sees; turns = 0 }

abbrev pub calling : Session
calling = record { version = 1; kept = 0; recent = []; running = Some running }

abbrev pub serving : Server
serving = record { shared = record { versions = BoolV true ∷ BoolV false ∷ []; commits = flips ∷ [] }; heard = 9; sessions = one_session 1 calling }

pub honest : IsHonestReply toy bool_program serving (Proof 1 (seen_twice (0 ∷ [])))
honest = (calling, running, refl, refl, refl)

-- It isn't that of another version, or of a session that isn't there. Other replies are no proofs.
abbrev running_in : Option Session → Option Running
running_in (Some s) = s.running
running_in None = None

abbrev frames_in : Option Session → Option Running → List ℕ
frames_in (Some s) (Some r) = frame_bytes (frames_of toy bool_program s.kept s.recent (version_at serving.shared.versions s.version) r.call)
frames_in found runs = []

pub no_proof_of_another : IsHonestReply toy bool_program serving (Proof 1 (seen_twice (1 ∷ []))) → ⊥
no_proof_of_another (s, r, found, runs, frames) =
    let same : seen_twice (1 ∷ []) ≡ seen_twice (0 ∷ []) =
    frames ∙ ap (frames_in (Some s)) (sym runs) ∙ ap (λ o. frames_in o (running_in o)) (sym found) in
    subst (λ bytes. T (bytes_eq bytes (seen_twice (1 ∷ [])))) same tt

pub no_proof_of_none : IsHonestReply toy bool_program serving (Proof 2 (seen_twice (0 ∷ []))) → ⊥
no_proof_of_none (s, r, found, runs, frames) = let e : None ≡ Some s = found in cc (e)

pub others_are_no_proofs : (session cause : ℕ) (state : List ℕ) → IsHonestReply toy bool_program serving (Welcome session) × IsHonestReply toy bool_program serving (Stale session state)
    × IsHonestReply toy bool_program serving (Refused session cause) × IsHonestReply toy bool_program serving (Closed session cause)
others_are_no_proofs session cause state = (tt, tt, tt, tt)

-- a proof that is as long as a message may be is sent; a longer one is refused, and ends its session
pub longest_proof_fits : (frames : List Frame) → 3 + length (frame_bytes frames) ≡ 16777216 → fits_message frames ≡ true
longest_proof_fits frames is = ap (λ n. nat_le n 16777216) is

pub longer_proof_does_not : (frames : List Frame) → 3 + length (frame_bytes frames) ≡ 16777217 → fits_message frames ≡ false
longer_proof_does_not frames is = ap (λ n. nat_le n 16777216) is

pub long_proof_is_refused : (made : Option Value) (number : ℕ) (s : Session) (frames : List Frame) (shared : Shared)
    → frames_turn toy bool_program false made number s flips frames shared ≡ record { sessions = []; shared = shared; replies = Refused number 13 ∷ [] }
long_proof_is_refused made number s frames shared = refl

-- LIMITS
-- each limit may be reached, and no more
abbrev pub counting : (messages sessions versions : ℕ) → Server
counting messages sessions versions =
    record { shared = record { versions = replicate versions UnitV; commits = [] }; heard = messages; sessions = replicate sessions (record { number = 1; value = new_session 0 0 }) }

pub limited : IsLimited (counting 1000000 64 4096)
limited = record { messages = lit≤ tt; sessions = lit≤ tt; versions = lit≤ tt }

pub no_message_more : IsLimited (counting 1000001 64 4096) → ⊥
no_message_more l = let k : 1000001 ≤ 1000000 = l.messages in omega (arith, k)

pub no_session_more : IsLimited (counting 0 65 1) → ⊥
no_session_more l = let k : 65 ≤ 64 = l.sessions in omega (arith, k)

pub no_version_more : IsLimited (counting 0 0 4097) → ⊥
no_version_more l = let k : 4097 ≤ 4096 = l.versions in omega (arith, k)

-- FATES
-- the replies to a session are its own, in their order
pub own_replies : replies_to 1 (Welcome 1 ∷ Welcome 2 ∷ Proof 1 [] ∷ Refused 0 11 ∷ Stale 1 [] ∷ Closed 1 0 ∷ []) ≡ Welcome 1 ∷ Proof 1 [] ∷ Stale 1 [] ∷ Closed 1 0 ∷ []
own_replies = refl

-- what made a state moves to the next version, which has that value; what made none stays
pub moves : MovesTo calling (Some UnitV) (BoolV true ∷ BoolV false ∷ UnitV ∷ []) 2
moves = (refl, lit< tt, refl)

pub moves_by_one : MovesTo calling (Some UnitV) (BoolV true ∷ UnitV ∷ UnitV ∷ []) 1 → ⊥
moves_by_one m = let k : 1 ≡ 2 = m.0 in omega (arith, k)

pub moves_to_none : MovesTo calling (Some UnitV) (BoolV true ∷ BoolV false ∷ []) 2 → ⊥
moves_to_none m = let k : 2 < 2 = m.1 in omega (arith, k)

pub moves_to_another : MovesTo calling (Some UnitV) (BoolV true ∷ BoolV false ∷ BoolV true ∷ []) 2 → ⊥
moves_to_another m = let e : BoolV true ≡ UnitV = m.2 in cc (e)

pub stays : MovesTo calling None [] 1
stays = refl

pub stays_there : MovesTo calling None [] 2 → ⊥
stays_there m = let k : 2 ≡ 1 = m in omega (arith, k)

-- In n rounds of turns of one call, the call of `calling`, which makes one, has ended in one round, and not in none. Of a session without a call
-- nothing becomes, and none becomes of none.
abbrev pub BecomesOf : ℕ → Option Session → Option Session → List Reply → Type 0
BecomesOf n session behind replies = Becomes toy bool_program (last_turn 1) n 1 session serving.shared.versions serving.shared.versions behind replies

pub proved : BecomesOf 1 (Some calling) (Some (answered toy bool_program calling sees (BoolV false) 1)) (Proof 1 (seen_twice (0 ∷ [])) ∷ [])
proved = IsProved (lit≤ tt) (lit≤ tt) refl 1 refl refl refl

pub runs_on : BecomesOf 0 (Some calling) (Some calling) []
runs_on = RunsOn 0 refl (inl refl) refl refl

pub at_rest : BecomesOf 9 (Some (new_session 0 3)) (Some (new_session 0 3)) []
at_rest = (refl, refl)

abbrev version_in : Option Session → ℕ
version_in None = 0
version_in (Some s) = s.version

pub rest_is_unchanged : BecomesOf 9 (Some (new_session 0 3)) (Some (new_session 1 3)) [] → ⊥
rest_is_unchanged b = let k : 1 ≡ 0 = ap version_in b.0 in omega (arith, k)

pub rest_has_no_reply : BecomesOf 9 (Some (new_session 0 3)) (Some (new_session 0 3)) (Closed 1 0 ∷ []) → ⊥
rest_has_no_reply b = cc (b.1)

pub none_of_none : BecomesOf 9 None None []
none_of_none = (refl, refl)

pub no_session_of_none : (s : Session) → BecomesOf 9 None (Some s) [] → ⊥
no_session_of_none s b = cc (b.0)

pub no_reply_to_none : BecomesOf 9 None None (Closed 1 0 ∷ []) → ⊥
no_reply_to_none b = cc (b.1)

-- WANT OF MEMORY
-- A round of one session that flips a bool reaches what was shared before it, and what is shared behind its turn. No more rounds are reached than were
-- asked for, and a message too many has none.
abbrev pub flipping : Server
flipping = record (new_server (BoolV true)) { sessions = one_session 1 (record { version = 0; kept = 0; recent = []; running = Some (record { call = flips; turns = 0 }) }) }

abbrev pub flipped : Shared
flipped = record { versions = BoolV true ∷ BoolV false ∷ []; commits = flips ∷ [] }

abbrev pub ReachedBy : Server → Heard → Shared → Type 0
ReachedBy server m reached = Reaches toy bool_program (last_turn 1) server m reached

pub before_its_turn : ReachedBy flipping (Hears (Go 1)) flipping.shared
before_its_turn = inl (inl refl)

pub behind_its_turn : ReachedBy flipping (Hears (Go 1)) flipped
behind_its_turn = inl (inr refl)

pub behind_a_round : ReachedBy flipping (Hears (Go 1)) flipped
behind_a_round = inr (refl, refl)

two_are_one : {A : Type 0} {a b : A} {more : List A} → a ∷ b ∷ more ≡ a ∷ [] → ⊥
two_are_one e = cc (e)

pub no_round : ReachedBy flipping (Hears (Go 0)) flipped → ⊥
no_round reached = two_are_one (ap (λ (shared : Shared). shared.versions) reached)

pub one_too_many : ReachedBy (record flipping { heard = messages_limit }) (Hears (Go 1)) flipped → ⊥
one_too_many reached = two_are_one (ap (λ (shared : Shared). shared.versions) reached)

pub no_turn : ReachedBy flipping (Hears (Bye 1)) flipped → ⊥
no_turn reached = two_are_one (ap (λ (shared : Shared). shared.versions) reached)

-- behind it no session is left, and no message is counted
pub no_session_stays : (server : Server) (m : Heard) → IsStopped toy bool_program (last_turn 1) server m serving → ⊥
no_session_stays server m stopped = cc (stopped.1)

pub no_message_stays : (server : Server) (m : Heard) → IsStopped toy bool_program (last_turn 1) server m (record (new_server UnitV) { heard = 1 }) → ⊥
no_message_stays server m stopped = let k : 1 ≡ 0 = stopped.2 in omega (arith, k)
