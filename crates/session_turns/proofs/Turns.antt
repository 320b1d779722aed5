-- The turns of a call over a store that is lent.
use Rattle.std.proofs.Common.{◌≡◌, ℕ, suc, ◌+◌, ◌*◌, ◌<◌, ◌≤◌, List, ◌++◌, take, length, Option, Some, None, Result, Ok, Err, IfOk, Bool, true, false, is_some, nat_le, refl, sym, ap, ◌∙◌, subst, arith, leb-true, le-leb}
use Rattle.std.proofs.Math.Seq.{take-length}
use Rattle.std.proofs.lemmas.Bool.{leb-false}
use Rattle.std.proofs.lemmas.List.{length-take}
use Rattle.std.specs.declared.alloc.AllocError.{AllocError}
use Rattle.core_terms.specs.Formats.{Hash}
use Rattle.core_terms.specs.Projection.{digest_at}
use Rattle.core_terms.specs.Values.{Value, Values}
use Rattle.core_terms.specs.declared.outcome.Outcome.{Outcome}
use Rattle.code_gen.specs.declared.code.Code.{Code}
use Rattle.ideal_meaning.specs.Headline.{call_values}
use Rattle.mode_vm.specs.Meanings.{program_of}
use Rattle.mode_vm.specs.StateCalls.{IsCalledOn}
use Rattle.prover_mode.specs.Turns.{IsProving, TurnEnds, calls_made}
use Rattle.prover_mode.specs.declared.turns.Proving.{Proving}
use Rattle.session_meaning.specs.Calls.{role_in}
use Rattle.session_meaning.specs.Server.{last_turn}
use Rattle.session_meaning.proofs.TurnCounts.{turns_by_calls}
use Rattle.value_store.specs.Nodes.{AreSound, Node}
use Rattle.value_store.specs.Overs.{own_nodes}
use Rattle.value_store.specs.declared.node.Ref.{Ref}
use Rattle.value_store.specs.declared.over.Own.{Own}
use Rattle.value_store.specs.Standing.{Grows, ProverNodes, StandsFor}
use Rattle.value_store.proofs.Moved.{kept_before}
use Rattle.session_turns.specs.Granting.{HoldsCall}
use Rattle.session_turns.specs.Running.{IsRunning, StandsAt, nodes_of_call}
use Rattle.session_turns.specs.Versions.{IsVersion}
use Rattle.session_turns.specs.declared.grants.Granted.{Granted}
use Rattle.session_turns.specs.declared.running.Running.{Running}
use Rattle.session_turns.proofs.Sharing.{first_stay}

pub not_most : (n m : ℕ) → m < n → nat_le n m ≡ false
not_most n m l = by (nat_le n m) refl
  where
    by : (b : Bool) → nat_le n m ≡ b → nat_le n m ≡ false
    by true e = absurd (omega (arith, leb-true n m e, l))
    by false e = e

-- sound, among the same nodes with the same limit
pub sound_as : (m n : ℕ) (ms ns own : List Node) → m ≡ n → ms ≡ ns → AreSound m (ms ++ own) → AreSound n (ns ++ own)
sound_as m n ms ns own is same h = subst (λ (k : ℕ). AreSound k (ns ++ own)) is (subst (λ (nodes : List Node). AreSound m (nodes ++ own)) same h)

-- what has grown is no shorter
long : (old new : List Node) → Grows old new → (n : ℕ) → n ≤ length old → n ≤ length new
long old new grows n within =
    let most = length-take (length old) new in
    let same = ap length grows in
    omega (arith, most, same, within)

one_more : (t s : ℕ) → suc t * s ≡ s + t * s
one_more t s = omega arith

-- the last turn comes where so many turns may make all calls
pub same_turn : (slice calls turns : ℕ) → 1 ≤ slice → nat_le calls (turns * slice + slice) ≡ nat_le (last_turn slice calls) (suc turns)
same_turn slice calls turns some = by (nat_le calls (turns * slice + slice)) (nat_le (last_turn slice calls) (suc turns)) refl refl
  where
    by : (b d : Bool) → nat_le calls (turns * slice + slice) ≡ b → nat_le (last_turn slice calls) (suc turns) ≡ d
        → nat_le calls (turns * slice + slice) ≡ nat_le (last_turn slice calls) (suc turns)
    by true true e h = e ∙ sym h
    by false false e h = e ∙ sym h
    by true false e h =
        let few = (turns_by_calls slice calls (suc turns) some).1 (omega arith, omega (arith, leb-true _ _ e, one_more turns slice)) in
        absurd (omega (arith, few, leb-false _ _ h))
    by false true e h =
        let few = ((turns_by_calls slice calls (suc turns) some).0 (leb-true _ _ h)).1 in
        absurd (omega (arith, few, leb-false _ _ e, one_more turns slice))

-- A call that runs stands where it stood, and one that has run has run, where nodes are put behind those of the store.
pub running_stays : (hash : Hash) (code : Code) {A : Type 0} (old new : List Node) (run : Running A) (f : ℕ) (vs : Values) (k made : ℕ) → Grows old new
    → IsRunning hash code old run f vs k made → IsRunning hash code new run f vs k made
running_stays hash code old new run f vs k made grows h =
    let same = sym (first_stay run.from old new (own_nodes run.own) h.within grows) in
    record {
      within = long old new grows run.from h.within;
      sound = subst (λ nodes. AreSound (program_of code).format.limit nodes) same h.sound;
      stands = subst (λ nodes. StandsAt hash code nodes run.proving f vs k made run.last) same h.stands;
    }

module _ (hash : Hash) (code : Code) where
  -- where a turn ends
  ended_so : {A : Type 0} (nodes : List Node) (proving : Proving A) (f : ℕ) (vs : Values) (k made : ℕ) (last : Result (Option (Outcome Ref)) AllocError)
      → IfOk last (λ told. TurnEnds hash code nodes proving f vs k made told)
      → StandsAt hash code nodes proving f vs k made last × IfOk last (λ told. is_some told ≡ nat_le (calls_made (program_of code) f vs k) made)
  ended_so nodes proving f vs k made (Ok None) h = (h.0, sym (not_most (calls_made (program_of code) f vs k) made h.1))
  ended_so nodes proving f vs k made (Ok (Some outcome)) h = ((h.0, h.2), sym (le-leb (calls_made (program_of code) f vs k) made h.1))
  ended_so nodes proving f vs k made (Err e) h = (tt, tt)

  -- a granted call before its first turn
  pub begun : {A : Type 0} (base : List Node) (granted : Granted) (role : ℕ) (s a : Value) (version : Ref) (proving : Proving A) (fuel : ℕ)
      → HoldsCall hash (program_of code) base granted role a → IsVersion hash (program_of code) base version s
      → ((nodes : List Node) (s a : Value) → IsCalledOn hash (program_of code) granted.function.0 nodes version granted.argument s a
      → IsProving hash code nodes proving granted.function.0 (call_values s a) fuel 0)
      → IsRunning hash code base (record { own = granted.own; from = granted.from; proving = proving; last = Ok None }) (role_in (program_of code) role).function (call_values s a) fuel 0
  begun base granted role s a version proving fuel h is go =
      let P = program_of code in
      let kind = ProverNodes (digest_at hash P) in
      let own = own_nodes granted.own in
      let nodes = take granted.from base ++ own in
      let all = h.all in
      let first : take granted.from base ≡ base = ap (λ n. take n base) all ∙ take-length base in
      let stands =
      subst (λ ns. StandsFor kind P.types (ns ++ own) version.0 P.state s) (sym first) (kept_before base own kind P.types version.0 P.state s is) in
      record {
        within = omega (arith, all);
        sound = h.sound;
        stands =
            subst (λ f. IsProving hash code nodes proving f (call_values s a) fuel 0) h.of_role
            (go nodes s a (record { state_stands = stands; argument_stands = h.stands }));
      }

  module _ (base : List Node) {A : Type 0} (before : Running A) (goes_on : before.last ≡ Ok None) (f : ℕ) (vs : Values) (k made : ℕ) (h : IsRunning hash code base before f vs k made) where
    pub proving_there : (nodes : List Node) → nodes ≡ nodes_of_call base before → IsProving hash code nodes before.proving f vs k made
    proving_there nodes is =
        subst (λ ns. IsProving hash code ns before.proving f vs k made) (sym is)
        (subst (λ last. StandsAt hash code (nodes_of_call base before) before.proving f vs k made last) goes_on h.stands)

    pub turned : (units : ℕ) (own : Own) (proving : Proving A) (last : Result (Option (Outcome Ref)) AllocError) (nodes lent : List Node) → nodes ≡ lent ++ own_nodes own
        → lent ≡ take before.from base → AreSound (program_of code).format.limit (take before.from base ++ own_nodes own) → IfOk last (λ told. TurnEnds hash code nodes proving f vs k (made + units) told)
        → IsRunning hash code base (record { own = own; from = before.from; proving = proving; last = last }) f vs k (made + units)
        × IfOk last (λ told. is_some told ≡ nat_le (calls_made (program_of code) f vs k) (made + units))
    turned units own proving last nodes lent is first sound ends =
        let same = is ∙ ap (λ ns. ns ++ own_nodes own) first in
        let stands =
        ended_so (take before.from base ++ own_nodes own) proving f vs k (made + units) last
        (subst (λ ns. IfOk last (λ told. TurnEnds hash code ns proving f vs k (made + units) told)) same ends) in
        (record { within = h.within; sound = sound; stands = stands.0 }, stands.1)
