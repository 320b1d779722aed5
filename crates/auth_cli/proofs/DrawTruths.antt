-- What is accepted of a drawing is true, whoever answers: for `run`, clause `drawn_truth`.
use Rattle.std.proofs.Common.{◌≡◌, ℕ, List, [], ◌∷◌, Some, sym, subst}
use Rattle.sha2.specs.Sha256.{sha256}
use Rattle.sha2.proofs.Facts256.{length-sha256}
use Rattle.core_terms.specs.Projection.{projection}
use Rattle.core_terms.specs.Roles.{argument_type, role_named}
use Rattle.core_terms.specs.Spelling.{spelling}
use Rattle.core_terms.specs.Terms.{function_at}
use Rattle.ideal_meaning.specs.Checked.{Accepted}
use Rattle.ideal_meaning.specs.Fetched.{TrueFromOrSplit, answered, asking, fetched, verdict_from}
use Rattle.ideal_meaning.specs.Frames.{offered_pieces}
use Rattle.ideal_meaning.specs.Headline.{call_values}
use Rattle.ideal_meaning.specs.Run.{state_of}
use Rattle.ideal_meaning.proofs.Fetching.{fetch_headline}
use Rattle.command_parts.specs.Answer.{Drawing}
use Rattle.command_parts.specs.RoleCalls.{kind_called, program_called}
use Rattle.command_parts.specs.declared.roles.Callee.TheVariants.{OfState}
use Rattle.command_parts.proofs.RoleShapes.{calls_reads}
use Rattle.call_commands.proofs.RolesByName.{role_within}
use Rattle.call_commands.proofs.SoundRoles.{reader, sound_whole}
use Rattle.command_parts.proofs.SoundFiles.{file_is_sound}
use Rattle.net_commands.specs.Drawing.{DrawsTrueOutcomes, IsOfSources, IsOfWords}

-- the role is one that the texts name
named : (texts : List (List ℕ)) (d : Drawing) → IsOfWords texts d → (name : List ℕ) × (role_named (program_called d.call.role) name ≡ Some d.call.role.role)
named (program ∷ role ∷ state ∷ argument ∷ fuel ∷ port ∷ []) d words = (role, words.0)
named [] d words = absurd words
named (a ∷ []) d words = absurd words
named (a ∷ b ∷ []) d words = absurd words
named (a ∷ b ∷ c ∷ []) d words = absurd words
named (a ∷ b ∷ c ∷ e ∷ []) d words = absurd words
named (a ∷ b ∷ c ∷ e ∷ f ∷ []) d words = absurd words
named (a ∷ b ∷ c ∷ e ∷ f ∷ g ∷ h ∷ more) d words = absurd words

pub drawn_truth : (texts : List (List ℕ)) (d : Drawing) → IsOfSources texts d → DrawsTrueOutcomes d.call
drawn_truth texts d of = λ state argument ideal_state ideal_argument state_is argument_is answers o accepted.
    let r = d.call.role in
    let P = program_called r in
    let f = r.role in
    let t = argument_type P f in
    let name = named texts d of.words in
    let sound = file_is_sound of.program.bytes P of.program.program in
    let reads = reader P f sound (role_within P name.0 f name.1) (calls_reads OfState (kind_called r) tt of.called) in
    let on_state = subst (λ s. verdict_from sha256 P t f s d.call.argument r.fuel answers ≡ Accepted o) state_is accepted in
    let on_both = subst (λ a. verdict_from sha256 P t f (spelling (projection sha256 P P.state state)) a r.fuel answers ≡ Accepted o) argument_is on_state in
    let more = offered_pieces (state_of (fetched sha256 P f (call_values (projection sha256 P P.state state) (projection sha256 P t argument)) r.fuel (asking answers))).more in
    subst (λ t. TrueFromOrSplit sha256 P f t (call_values state argument) r.fuel (offered_pieces (answered answers)) more o) (sym reads.result)
    (fetch_headline sha256 length-sha256 P reads.format reads.typed (sound_whole P sound) f (function_at P f).kind t reads.answer reads.role reads.reads state
    argument ideal_state ideal_argument r.fuel answers o on_both)
