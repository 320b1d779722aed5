-- Commits of a server with a history can be kept: for answer.
use Rattle.std.proofs.Common.{◌≡◌, ℕ, suc, ◌+◌, ◌<◌, ◌≤◌, ◌^◌, true, List, [], ◌∷◌, length, refl, sym, ap, subst, ◌∙◌, arith, lit≤}
use Rattle.std.specs.List.{AllByRecursion}
use Rattle.std.proofs.lemmas.List.Elements.{All-from_recursion}
use Rattle.core_terms.specs.Formats.{Hash, IsFormat, IsHash}
use Rattle.core_terms.specs.ProgramFormats.{format_with}
use Rattle.core_terms.specs.ProgramTypes.{text_of}
use Rattle.core_terms.specs.Projection.{digest_at}
use Rattle.core_terms.specs.Spelling.{spelling}
use Rattle.core_terms.specs.Terms.{Program}
use Rattle.core_terms.specs.Typing.{is_shaped}
use Rattle.core_terms.specs.Values.{Value, size}
use Rattle.core_terms.specs.declared.format.Format.{Format}
use Rattle.core_terms.specs.declared.format.Format.TheVariants.{First, Second}
use Rattle.core_terms.proofs.CodePrograms.{is_format}
use Rattle.core_terms.proofs.Plain.{own}
use Rattle.ideal_meaning.proofs.Projections.{length_piece}
use Rattle.code_gen.specs.declared.code.Code.{Code}
use Rattle.code_gen.specs.Programs.{program_in}
use Rattle.mode_vm.specs.Meanings.{program_of}
use Rattle.session_meaning.specs.Begun.{IsBegun}
use Rattle.session_meaning.specs.Calls.{RoleCall, reads_state, role_in}
use Rattle.session_meaning.specs.Server.{Shared}
use Rattle.session_meaning.specs.ServedHistories.{IsHistory, Makes}
use Rattle.session_meaning.specs.Within.{IsCallWithin}
use Rattle.session_meaning.proofs.ToldCalls.{reads_shape}
use Rattle.session_turns.specs.Keepers.{AreKeepable, FitsRecord}
use Rattle.session_turns.specs.Rows.{AreAlike}
use Rattle.session_turns.specs.Sharing.{IsCommit}
use Rattle.session_turns.specs.declared.commit.Commit.{Commit}
use Rattle.session_turns.proofs.Rows.{alike_length}

-- the limit of each format
limit_most : (format : Format) (text : List ℕ) → (format_with format text).limit ≤ 1048576
limit_most First text = lit≤ tt
limit_most Second text = lit≤ tt

-- each version but the first has a commit
history_length : (P : Program) (vs : List Value) (cs : List RoleCall) → IsHistory P vs cs → length vs ≡ suc (length cs)
history_length P (v ∷ []) [] h = refl
history_length P (v ∷ w ∷ vs) (c ∷ cs) h = ap suc (history_length P (w ∷ vs) cs h.1)
history_length P vs cs h = elim h [ ]

module _ (hash : Hash) (is_hash : IsHash hash) (P : Program) (format : IsFormat P.format) (shaped : is_shaped P ≡ true) (most : P.format.limit ≤ 1048576) where
  -- no `auth` stands in the argument of an update, so its spelling is as long as it is great
  argument_fits : (v w : Value) (call : RoleCall) → Makes P v call w → IsCallWithin P call → length (spelling call.argument) < 2 ^ 20 + 1
  argument_fits v w call made within =
      let role = role_in P call.role in
      let shape = reads_shape P shaped call.role (ap reads_state made.update) in
      let same = own (digest_at hash P) P.types role.argument call.argument shape.1.plain within.ideal in
      let long : length (spelling call.argument) ≡ size P.types role.argument call.argument =
      sym (ap (λ v. length (spelling v)) same) ∙ length_piece hash is_hash P format role.argument call.argument within.ideal in
      let few = within.fits.size_fits in omega (arith, long, few, most)

  each_fits : (vs : List Value) (cs : List RoleCall) (commits : List Commit) → IsHistory P vs cs → AllByRecursion (IsCallWithin P) cs → AreAlike IsCommit commits cs
      → AllByRecursion FitsRecord commits
  each_fits vs cs [] h all alike = tt
  each_fits (v ∷ w ∷ vs) (c ∷ cs) (x ∷ xs) h all alike = (
    record {
      role = subst (λ n. n < 2 ^ 16) (sym alike.0.role) all.0.role_fits;
      argument = subst (λ l. length l < 2 ^ 20 + 1) (sym alike.0.argument) (argument_fits v w c h.0 all.0);
    },
    each_fits (w ∷ vs) cs xs h.1 all.1 alike.1,
  )
  each_fits [] (c ∷ cs) (x ∷ xs) h all alike = elim h [ ]
  each_fits (v ∷ []) (c ∷ cs) (x ∷ xs) h all alike = elim h [ ]
  each_fits vs [] (x ∷ xs) h all alike = elim alike [ ]

  keepable : (shared : Shared) (commits : List Commit) → IsBegun P shared → AreAlike IsCommit commits shared.commits → AreKeepable commits
  keepable shared commits begun alike =
      let some = history_length P shared.versions shared.commits begun.made in
      let few = begun.few in
      let same = alike_length IsCommit commits shared.commits alike in
      record {
        few = omega (arith, some, few, same);
        each = All-from_recursion FitsRecord commits (each_fits shared.versions shared.commits commits begun.made begun.asked alike);
      }

-- those of the program of code
pub commits_fit : (hash : Hash) → IsHash hash → (code : Code) (shared : Shared) (commits : List Commit) → IsBegun (program_of code) shared → AreAlike IsCommit commits shared.commits
    → AreKeepable commits
commits_fit hash is_hash code shared commits begun alike =
    let p = program_in code in
    keepable hash is_hash (program_of code) (is_format p) p.shaped (limit_most p.types.table.format (text_of p.types)) shared commits begun alike
