-- Commits of a server may be written behind its first version: so a journal that spells them is read back.
use Rattle.std.specs.List.{AllByRecursion}
use Rattle.std.proofs.Common.{◌≡◌, ℕ, suc, true, List, [], ◌∷◌, ◌++◌, length, take, replicate, Some, refl, sym, ap, ◌∙◌, subst, arith, length-append}
use Rattle.core_terms.specs.Formats.{IsFormat}
use Rattle.core_terms.specs.Projection.{Fits}
use Rattle.core_terms.specs.RoleTypes.{IsPlain}
use Rattle.core_terms.specs.Spelling.{Spells, spelling}
use Rattle.core_terms.specs.Terms.{Kind, Program, Update}
use Rattle.core_terms.specs.Types.{Ty}
use Rattle.core_terms.specs.Typing.{is_shaped}
use Rattle.core_terms.specs.Values.{IsIdeal, IsShallow, Value}
use Rattle.core_terms.proofs.Plain.{own}
use Rattle.core_terms.proofs.ReadBack.{shallow_is}
use Rattle.core_terms.proofs.Spelled.{length_spelling, spells_read}
use Rattle.ideal_meaning.specs.Ideal.{Outcome}
use Rattle.session_meaning.specs.Calls.{RoleCall, changes_state, outcome_of, reads_state, role_in, state_made}
use Rattle.session_meaning.specs.ServedHistories.{IsHistory, Makes}
use Rattle.session_meaning.specs.Within.{IsCallWithin}
use Rattle.session_meaning.proofs.ToldCalls.{reads_shape}
use Rattle.version_journal.specs.JournalLaws.{AreWritable, IsWritable, ServedJournalsAreReadBack}
use Rattle.version_journal.proofs.ReadBack.{journals_are_read_back}

-- some digest, since no digest stands in a value of a plain type
abbrev some_digest : Ty → List ℕ → List ℕ
some_digest t bytes = replicate 32 0

pub history_length : (P : Program) (v : Value) (versions : List Value) (commits : List RoleCall) → IsHistory P (v ∷ versions) commits → length versions ≡ length commits
history_length P v [] [] h = refl
history_length P v (w ∷ versions) (call ∷ commits) h = ap suc (history_length P w versions commits h.1)
history_length P v versions commits h = elim h [ ]

module _ (P : Program) (format : IsFormat P.format) (shaped : is_shaped P ≡ true) where
  ideal_spells : (t : Ty) (a : Value) → IsPlain P.types t → IsIdeal P.types t a → Fits P t a → Spells P.format.limit P.types (spelling a) t a
  ideal_spells t a plain ideal fits = record {
    shape = subst (IsShallow P.types t) (own some_digest P.types t a plain ideal) (shallow_is some_digest (λ t bytes. refl) P.types t a ideal);
    within = fits;
    is = refl;
  }

  makes_so : (v : Value) (call : RoleCall) (w : Value) → Makes P v call w → state_made (role_in P call.role).kind (outcome_of P v call) ≡ Some w
  makes_so v call w m =
      ap (λ (kind : Kind). state_made kind (outcome_of P v call)) m.update ∙ ap (λ (o : Outcome). state_made Update o) m.done ∙ ap Some (sym m.first)

  writable : (v : Value) (call : RoleCall) (w : Value) → Makes P v call w → IsCallWithin P call → IsWritable P v call w
  writable v call w m is =
      let t = (role_in P call.role).argument in
      let shape = reads_shape P shaped call.role (ap reads_state m.update) in
      let spells = ideal_spells t call.argument shape.1.plain is.ideal is.fits in
      let read = spells_read P.types P.format.limit format.limit_fits (spelling call.argument) t call.argument spells in
      let long = length_spelling P.types t call.argument spells.shape in
      record {
        role_fits = is.role_fits;
        update = ap changes_state m.update;
        fuel_fits = is.fuel_fits;
        length_fits = omega (arith, long, spells.within.size_fits, format.limit_fits);
        place = read.0;
        back = read.1;
        makes = makes_so v call w m;
      }

  front_writable : (v : Value) (versions : List Value) (calls more : List RoleCall) → IsHistory P (v ∷ versions) (calls ++ more) → AllByRecursion (IsCallWithin P) (calls ++ more)
      → AreWritable P v calls (take (length calls) versions)
  front_writable v versions [] more made asked = tt
  front_writable v [] (call ∷ calls) more made asked = elim made [ ]
  front_writable v (w ∷ versions) (call ∷ calls) more made asked = (writable v call w made.0 asked.0, front_writable w versions calls more made.1 asked.1)

pub served_journals_are_read_back : ServedJournalsAreReadBack
served_journals_are_read_back P format shaped own image v versions commits calls more bytes digest long root begun is spells =
    let made = subst (IsHistory P (v ∷ versions)) is begun.made in
    let asked = subst (AllByRecursion (IsCallWithin P)) is begun.asked in
    let many = history_length P v versions commits begun.made in
    let front = ap length is ∙ length-append calls more in
    journals_are_read_back P own image v calls (take (length calls) versions) bytes digest long root (front_writable P format shaped v versions calls more made asked)
    (omega (arith, begun.few, many, front)) spells
