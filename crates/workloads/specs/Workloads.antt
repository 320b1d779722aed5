-- Workloads: puts and gets of keys and values from a generator, and the sums over their honest proofs.
use Rattle.std.specs.Prelude.{ℕ, zero, suc, ◌+◌, ◌%◌, List, [], length, pos}
use Rattle.core_terms.specs.Formats.{Hash}
use Rattle.core_terms.specs.Terms.{Program}
use Rattle.core_terms.specs.Values.{Value, IntV, PairV}
use Rattle.ideal_meaning.specs.Frames.{Frame, proof_file}
use Rattle.ideal_meaning.specs.Headline.{call_values}
use Rattle.ideal_meaning.specs.Ideal.{Done, Outcome, bytes_of, honest_pieces, ideal, outcome}
use Rattle.ideal_meaning.specs.Run.{first_in}
use Rattle.ideal_meaning.specs.RunFrames.{run_frames, again_in, fresh_in}
use Rattle.ads_library.specs.Recurrence.{next_state, number_of}
use Rattle.workloads.specs.declared.tally.Tally.{Tally}
use Rattle.workloads.specs.declared.workload.Workload.{Workload}

-- the fuel of each call
abbrev pub call_fuel : ℕ
call_fuel = 1000000

-- the sums before the first call
abbrev pub no_calls : Tally
no_calls = record { calls = 0; done = 0; fresh = 0; again = 0; bytes = 0 }

-- 1 for a call that ended with a value, 0 for another
abbrev pub done_in : Outcome → ℕ
done_in (Done v) = 1
done_in o = 0

-- the state behind an update of a state: the first component of its value, and without a value the state as it was
abbrev pub state_behind : Value → Outcome → Value
state_behind s (Done v) = first_in v
state_behind s o = s

-- how a call of function f on a state and an argument ends
abbrev pub outcome_of : Program → (f : ℕ) → (state argument : Value) → Outcome
outcome_of P f s a = outcome (ideal P f (call_values s a) call_fuel)

-- Calls whose proof files ask for n pieces to be kept.
module _ (hash : Hash) (P : Program) (n : ℕ) where
  -- the frames of the honest proof of a call, with no piece that was kept before, and its proof file
  abbrev pub frames_of : (f : ℕ) → (state argument : Value) → List Frame
  frames_of f s a = run_frames hash P f (call_values s a) call_fuel n []

  abbrev pub file_of : (f : ℕ) → (state argument : Value) → List ℕ
  file_of f s a = proof_file P.format n (bytes_of (honest_pieces hash P f (call_values s a) call_fuel))

  -- the sums with this call added
  abbrev pub add_call : Tally → (f : ℕ) → (state argument : Value) → Tally
  add_call t f s a = record {
    calls = suc t.calls;
    done = t.done + done_in (outcome_of P f s a);
    fresh = t.fresh + fresh_in (frames_of f s a);
    again = t.again + again_in (frames_of f s a);
    bytes = t.bytes + length (file_of f s a);
  }

-- The numbers that a generator in a state gives a round: the key, one of so many, and the value. Then it is in another state.
abbrev pub key_in : (keys : ℕ) → ℕ → ℕ
key_in keys x = number_of (next_state x) % keys

abbrev pub value_in : ℕ → ℕ
value_in x = number_of (next_state (next_state x))

abbrev pub behind_round : ℕ → ℕ
behind_round x = next_state (next_state x)

module _ (hash : Hash) (P : Program) (w : Workload) where
  -- what is put in a round, and what is got
  abbrev pub put_argument : ℕ → Value
  put_argument x = PairV (IntV (pos (key_in w.keys x))) (IntV (pos (value_in x)))

  abbrev pub get_argument : ℕ → Value
  get_argument x = IntV (pos (key_in w.keys x))

  -- the state behind the round: that behind its put
  abbrev pub state_after : ℕ → Value → Value
  state_after x s = state_behind s (outcome_of P w.put.0 s (put_argument x))

  -- the sums behind the round: its put is a call on the state before, and its get a call on the state behind the put
  abbrev pub tally_after : ℕ → Value → Tally → Tally
  tally_after x s t =
      add_call hash P w.kept (add_call hash P w.kept t w.put.0 s (put_argument x)) w.get.0 (state_after x s) (get_argument x)

  -- The sums and the state behind so many rounds, where the generator is in state x before them.
  abbrev pub after_rounds : (rounds : ℕ) → (x : ℕ) → (state : Value) → Tally → Tally × Value
  after_rounds zero x s t = (t, s)
  after_rounds (suc rounds) x s t = after_rounds rounds (behind_round x) (state_after x s) (tally_after x s t)
