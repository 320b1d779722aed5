-- Rows for what the law of the client says: which calls are told, which of them are true, and where there is a split. What each word takes, and what
-- it refuses.
use Rattle.std.specs.Prelude.{◌≡◌, ℕ, zero, suc, true, false, List, [], ◌∷◌, map, None, Some, refl}
use Rattle.std.proofs.Common.{inl, inr, lit<, T, bytes_eq, subst}
use Rattle.core_terms.specs.Reading.{Good, BadAt}
use Rattle.core_terms.specs.Values.{UnitV, BoolV, PairV, DigestV}
use Rattle.core_terms.proofs.LawProofs.{first_format_is_format, typing_test_is_exact}
use Rattle.ideal_meaning.specs.Ideal.{Done, Out}
use Rattle.ideal_meaning.specs.Examples.{toy, bool_program}
use Rattle.ideal_meaning.specs.ExampleProofs.{toy_gives_32_bytes}
use Rattle.session_meaning.specs.Messages.{Welcome, Proof, Refused, Closed}
use Rattle.session_meaning.specs.Client.{Known, Asked, Idle, Calling, Client, Event, Hellos, Calls, Byes, Hears, Forgets, Tells, TellsWelcome, client_after, new_client}
use Rattle.session_meaning.specs.ClientLaws.{ToldIsTrue}
use Rattle.session_meaning.specs.ToldCalls.{ToldCall, IsTrueCall, IsSplitCall, TrueUpToSplit, call_asked, event_session, pieces_offered, state_after, told_by, told_calls, value_read}
use Rattle.session_meaning.specs.MessageRows.{text_digest}
use Rattle.session_meaning.specs.RunRows.{seen_twice}

pub sessions_of_events : (n role fuel : ℕ) (bytes : List ℕ) →
    map event_session (Hellos 1 n bytes ∷ Calls 2 role fuel bytes ∷ Byes 3 ∷ Hears (Refused 4 n) ∷ Forgets 5 ∷ []) ≡ 1 ∷ 2 ∷ 3 ∷ 4 ∷ 5 ∷ []
sessions_of_events n role fuel bytes = refl

-- TOLD CALLS
-- An update of a session at the state `true`, with a ring of one, and behind it a query.
abbrev pub first_known : Known
first_known = record { state = toy (1 ∷ []); kept = 1; recent = [] }

abbrev pub flips : Asked
flips = record { role = 2; argument = []; fuel = 1 }

abbrev pub first_told : ToldCall
first_told = record { known = first_known; asked = flips; frames = 0 ∷ 0 ∷ 0 ∷ 0 ∷ 1 ∷ 1 ∷ []; outcome = Done (PairV (DigestV (toy (0 ∷ []))) (BoolV true)) }

abbrev pub second_told : ToldCall
second_told = record {
  known = record { state = toy (0 ∷ []); kept = 1; recent = (1 ∷ []) ∷ [] };
  asked = record { role = 1; argument = []; fuel = 1 };
  frames = 0 ∷ 0 ∷ 0 ∷ 0 ∷ 1 ∷ 0 ∷ 1 ∷ 0 ∷ 0 ∷ [];
  outcome = Done (PairV (BoolV false) (BoolV false));
}

-- what a greeted session hears, another beside it, and what it is asked; behind its end it is told nothing
abbrev pub greeted : Client
greeted = client_after toy bool_program text_digest new_client (Hellos 1 1 (toy (1 ∷ [])) ∷ Hellos 2 0 (toy (1 ∷ [])) ∷ [])

abbrev pub heard : List Event
heard =
    Hears (Welcome 1) ∷ Hears (Welcome 2) ∷ Calls 1 2 1 [] ∷ Calls 2 1 1 [] ∷ Hears (Proof 2 (seen_twice (1 ∷ []))) ∷ Hears (Proof 1 first_told.frames)
    ∷ Calls 1 1 1 [] ∷ Hears (Proof 1 second_told.frames) ∷ Byes 1 ∷ Hears (Closed 1 0) ∷ Hellos 1 0 (toy (0 ∷ [])) ∷ Hears (Welcome 1) ∷ Calls 1 1 1 []
    ∷ Hears (Proof 1 (seen_twice (0 ∷ []))) ∷ []

pub both_are_told : told_calls toy bool_program text_digest 1 greeted heard ≡ first_told ∷ second_told ∷ []
both_are_told = refl

-- no reply but a proof tells of a call, and none does to a session that doesn't call
pub none_told : (session : ℕ) → (told_by (Some (Calling first_known flips)) (Hears (Welcome session)) TellsWelcome ≡ []) × (told_by (Some (Idle first_known)) (Hears (Proof session [])) (Tells Out) ≡ [])
    × (told_by None (Hears (Proof session [])) (Tells Out) ≡ [])
none_told session = (refl, refl, refl)

pub value_of_an_argument : (rest : List ℕ) (end : ℕ) → (value_read (Good (BoolV true) rest end) ≡ BoolV true) × (value_read (BadAt 3) ≡ UnitV)
value_of_an_argument rest end = (refl, refl)

pub a_call_asked : call_asked toy bool_program flips ≡ record { role = 2; argument = UnitV; fuel = 1 }
a_call_asked = refl

-- a kept piece is offered again, where the ring keeps it
pub offered_again : pieces_offered toy bool_program second_told ≡ (0 ∷ []) ∷ (0 ∷ []) ∷ []
offered_again = refl

pub offered_without_a_ring : pieces_offered toy bool_program (record second_told { known = record first_known { kept = 0 } }) ≡ (0 ∷ []) ∷ []
offered_without_a_ring = refl

-- TRUE CALLS
-- each is true on the state that those before it leave, and on no other
pub first_is_true : IsTrueCall toy bool_program (BoolV true) first_told
first_is_true = record { pieces = refl; outcome = refl }

pub second_is_true : IsTrueCall toy bool_program (BoolV false) second_told
second_is_true = record { pieces = refl; outcome = refl }

abbrev first_of : List (List ℕ) → List ℕ
first_of [] = []
first_of (piece ∷ pieces) = piece

other_piece : ◌≡◌ {A = List (List ℕ)} ((1 ∷ []) ∷ []) ((0 ∷ []) ∷ []) → ⊥
other_piece same = subst (λ pieces. T (bytes_eq (first_of pieces) (1 ∷ []))) same tt

pub not_on_another_state : IsTrueCall toy bool_program (BoolV false) first_told → ⊥
not_on_another_state call = other_piece call.pieces

pub not_another_outcome : IsTrueCall toy bool_program (BoolV true) (record first_told { outcome = Out }) → ⊥
not_another_outcome call = let e : Out ≡ Done (PairV (DigestV (toy (0 ∷ []))) (BoolV true)) = call.outcome in cc (e)

-- the state behind an update is the first component, behind a query the same
pub states_behind : (state_after toy bool_program (BoolV true) first_told ≡ BoolV false) × (state_after toy bool_program (BoolV false) second_told ≡ BoolV false)
states_behind = (refl, refl)

-- SPLITS
-- A piece of two bytes with the digest of the honest one: there is a split at it. At the honest piece itself there is none.
abbrev pub forged : ToldCall
forged = record first_told { frames = 0 ∷ 0 ∷ 0 ∷ 0 ∷ 2 ∷ 1 ∷ 0 ∷ [] }

pub forged_is_split : IsSplitCall toy bool_program (BoolV true) forged
forged_is_split = (0, ((λ same. subst (λ bytes. T (bytes_eq bytes (1 ∷ 0 ∷ []))) same tt), refl))

pub honest_is_not_split : IsSplitCall toy bool_program (BoolV true) first_told → ⊥
honest_is_not_split (zero, h) = h.0 refl
honest_is_not_split (suc i, h) = h.1

pub other_digest_is_not_split : IsSplitCall toy bool_program (BoolV false) first_told → ⊥
other_digest_is_not_split (zero, h) = subst (λ bytes. T (bytes_eq bytes (toy (1 ∷ [])))) h.1 tt
other_digest_is_not_split (suc i, h) = h.1

-- UP TO A SPLIT
pub none_are_true : TrueUpToSplit toy bool_program (BoolV true) []
none_are_true = tt

pub both_are_true : TrueUpToSplit toy bool_program (BoolV true) (first_told ∷ second_told ∷ [])
both_are_true = inl (first_is_true, inl (second_is_true, tt))

pub true_up_to_a_split : TrueUpToSplit toy bool_program (BoolV true) (forged ∷ second_told ∷ [])
true_up_to_a_split = inr forged_is_split

pub not_true_on_another : TrueUpToSplit toy bool_program (BoolV false) (first_told ∷ []) → ⊥
not_true_on_another (inl told) = not_on_another_state told.0
not_true_on_another (inr split) = other_digest_is_not_split split

-- the second is told of the state that the first one leaves
pub not_true_twice : TrueUpToSplit toy bool_program (BoolV true) (first_told ∷ first_told ∷ []) → ⊥
not_true_twice (inl told) = not_true_on_another told.1
not_true_twice (inr split) = honest_is_not_split split

-- the law, on this session
pub told_is_true : ToldIsTrue → TrueUpToSplit toy bool_program (BoolV true) (first_told ∷ second_told ∷ [])
told_is_true law = law toy toy_gives_32_bytes bool_program (first_format_is_format 1024 (lit< tt)) ((typing_test_is_exact bool_program).0 refl) refl text_digest greeted 1 first_known refl
    (BoolV true) tt refl heard (tt, (tt, (tt, (tt, (tt, (tt, (tt, (tt, (tt, (tt, (tt, (tt, (tt, (tt, tt))))))))))))))
