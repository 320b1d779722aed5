-- Programs of which each state of the one is a state of the other, and what is answered for a state that is moved.
use Rattle.std.proofs.Common.{◌≡◌, ℕ, ◌≤◌, Bool, true, false, ◌&&◌, List, Option, Some, None, Result, Ok, Err, if◌then◌else◌, not, refl, sym, ap, ◌∙◌, subst, arith}
use Rattle.std.specs.Prelude.{bytes_eq, nat_le, length}
use Rattle.std.proofs.lemmas.Slice.Eq.{bytes_eq-Decides}
use Rattle.core_terms.specs.Limits.{most_file_bytes}
use Rattle.core_terms.specs.ProgramFormats.{arrays_of, limit_of}
use Rattle.core_terms.specs.ProgramTypes.{text_of}
use Rattle.core_terms.specs.Programs.{meaning}
use Rattle.core_terms.specs.Types.{same_type}
use Rattle.core_terms.specs.Values.{Value}
use Rattle.core_terms.specs.declared.format.Format.{Format}
use Rattle.core_terms.specs.declared.format.Format.TheVariants.{First, Second}
use Rattle.core_terms.specs.declared.program.Program.{Program}
use Rattle.core_terms.proofs.CodePrograms.{is_format}
use Rattle.core_terms.proofs.SameTypes.{same_sound}
use Rattle.images.specs.Images.{Image, Root, image_of}
use Rattle.images.specs.Images as images
use Rattle.lam_outside.specs.Told.{Contents}
use Rattle.printed_lines.specs.declared.refusal.Argument.TheVariants as named
use Rattle.printed_lines.specs.declared.refusal.InputFault.TheVariants.{TooLong}
use Rattle.printed_lines.specs.declared.refusal.MigrationKind.TheVariants as migration
use Rattle.printed_lines.specs.declared.refusal.Refusal.TheVariants as refusal
use Rattle.printed_types.specs.Laws.{EqualTextsAreEqualTables}
use Rattle.command_parts.specs.Answer.{migrated_answer, migration_fault, moved_answer, with_migration, with_no_fault}
use Rattle.command_parts.specs.FileInputs.{image_kind, image_read, with_declared_file, with_image, with_image_bytes, with_image_file, with_root}
use Rattle.command_parts.specs.AnswerForms.{Answer}
use Rattle.command_parts.specs.RefusedAnswers.{input_refused}
use Rattle.command_parts.specs.FueledRoles.{DeclaredProgram, DigestedProgram}
use Rattle.command_parts.specs.Halting.{StepGivesFor, InHand}
use Rattle.file_commands.specs.MovedStates.{KeepsStates}
use Rattle.command_parts.specs.Reaching.{without}
use Rattle.command_parts.specs.ReadPrograms.{declared_of, digested_of, named_of}
use Rattle.command_parts.specs.SoundPrograms.{IsOfDeclared}
use Rattle.command_parts.specs.Storing.{FindsOutput}
use Rattle.command_parts.specs.declared.report.Halt.{Halt}
use Rattle.command_parts.specs.declared.report.Halt.TheVariants.{Usage, Refused, ReadFault, NoMemory}
use Rattle.command_parts.specs.declared.report.Output.{Output}
use Rattle.file_commands.proofs.EqualTables.{same_types}
use Rattle.command_parts.proofs.Reached.{behind, is_missing}
use Rattle.command_parts.proofs.Steps.{image_goes}

-- ---- where no fault is found, the other keeps the states of the one

both_true : (a b : Bool) → (a && b) ≡ true → (a ≡ true) × (b ≡ true)
both_true true b is = (refl, is)
both_true false b is = absurd (cc)

not_true : (b : Bool) → not b ≡ true → b ≡ false
not_true true is = absurd (cc)
not_true false is = refl

none_found : (formats types : Bool) → (if formats then (if types then None else Some migration.Types) else Some migration.Format) ≡ None → (formats ≡ true) × (types ≡ true)
none_found true true is = (refl, refl)
none_found true false is = absurd (cc)
none_found false types is = absurd (cc)

limit_without : (format : Format) → arrays_of format ≡ false → limit_of format ≡ 65536
limit_without First none = refl
limit_without Second none = absurd (cc)

pub keeps_states : EqualTextsAreEqualTables → (p q : Program) → migration_fault (declared_of p) (declared_of q) ≡ None → IsOfDeclared (text_of p.types) (meaning p) → IsOfDeclared (text_of q.types) (meaning q)
    → KeepsStates (meaning p) (meaning q)
unfolding migration_fault
keeps_states law p q none of_p of_q =
    let P = meaning p in
    let Q = meaning q in
    let tests = none_found (not P.format.arrays && Q.format.arrays) (bytes_eq (text_of p.types) (text_of q.types) && same_type P.state Q.state) none in
    let formats = both_true (not P.format.arrays) Q.format.arrays tests.0 in
    let same = both_true (bytes_eq (text_of p.types) (text_of q.types)) (same_type P.state Q.state) tests.1 in
    let texts : text_of p.types ≡ text_of q.types = (bytes_eq-Decides (text_of p.types) (text_of q.types)).0 same.0 in
    let arrays = not_true P.format.arrays formats.0 in
    let first : P.format.limit ≡ 65536 = limit_without p.types.table.format arrays in
    let holds : 65536 ≤ Q.format.limit = (is_format q).limit_holds in
    record {
      types = sym (same_types law P Q (text_of q.types) (subst (λ text. IsOfDeclared text P) texts of_p) of_q);
      state = sym (same_sound P.state Q.state same.1);
      limit = omega (arith, first, holds);
      arrays = arrays;
    }

-- ---- what stands behind the files of the two programs

abbrev pub behind_both : (image name : List ℕ) → Contents → DeclaredProgram → DeclaredProgram → Option Answer
behind_both image name files p q = with_migration p q (with_image_file p.named.digested (files image) (λ v. Some (moved_answer q.named v name)))

abbrev pub behind_one : (image other name : List ℕ) → Contents → DeclaredProgram → Option Answer
behind_one image other name files p = with_declared_file named.Other (files other) (behind_both image name files p)

module _ (program image other name : List ℕ) (files : Contents) (p q : DeclaredProgram)
    (one : (go : DeclaredProgram → Option Answer) → with_declared_file named.Program (files program) go ≡ go p)
    (second : (go : DeclaredProgram → Option Answer) → with_declared_file named.Other (files other) go ≡ go q) where
  comes_to_both : migrated_answer program image other name files ≡ behind_both image name files p q
  comes_to_both = one (behind_one image other name files) ∙ second (behind_both image name files p)

  module _ (none : migration_fault p q ≡ None) where
    pub comes_to_image : migrated_answer program image other name files ≡ with_image_file p.named.digested (files image) (λ v. Some (moved_answer q.named v name))
    comes_to_image = comes_to_both ∙ ap (λ fault. with_no_fault fault (with_image_file p.named.digested (files image) (λ v. Some (moved_answer q.named v name)))) none

    pub without_image : migrated_answer program image other name (without image files) ≡ None
    without_image =
        behind (with_declared_file named.Program) program image files p (behind_one image other name (without image files)) refl one
        (behind (with_declared_file named.Other) other image files q (behind_both image name (without image files) p) refl second
        (ap (λ fault. with_no_fault fault (with_image_file p.named.digested (without image files image) (λ v. Some (moved_answer q.named v name)))) none
        ∙ ap (λ file. with_image_file p.named.digested file (λ v. Some (moved_answer q.named v name))) (is_missing image files)))

-- ---- the state in the image's bytes

module _ (p : DigestedProgram) (go : Value → Option Answer) where
  twice : (image : Image) → with_root image go ≡ with_root image (λ v. with_root image go)
  twice (Root v) = refl
  twice (images.Refused fault) = refl

  within_limit : (short : Bool) (bytes : List ℕ) → (if short then with_image p bytes go else Some (input_refused (TooLong named.Image)))
      ≡ (if short then with_image p bytes (λ v. with_image p bytes go) else Some (input_refused (TooLong named.Image)))
  within_limit true bytes = twice (image_read p bytes)
  within_limit false bytes = refl

  -- bytes that are judged and then read as an image are read
  pub bytes_then_state : (file : Option (List ℕ)) → with_image_file p file go ≡ with_image_bytes p file (λ bytes. with_image p bytes go)
  bytes_then_state None = refl
  bytes_then_state (Some bytes) = within_limit (nat_le (length bytes) most_file_bytes) bytes

-- bytes that are an image are loaded, unless memory is wanting
pub not_loaded : {T : Type 0} (q : DigestedProgram) (bytes : List ℕ) (v : Value) (Stands : T → Value → Type 0) (name : List ℕ) (answer : Option Answer) (halt : Halt) (result : Result Output Halt)
    → result ≡ Err halt → image_of q.program q.digest bytes ≡ Root v → InHand (StepGivesFor (with_image q bytes) Stands) (Err halt) → InHand (FindsOutput name answer) result
not_loaded {T = T} q bytes v Stands name answer halt result err is goes = subst (InHand (FindsOutput name answer)) (sym err) (by halt goes)
  where
    none : (a : Answer) → with_image q bytes (λ v. None) ≡ Some a → ⊥
    none a some = let nothing : with_image q bytes (λ v. None) ≡ None = image_goes q bytes v is (λ v. None) in absurd (cc)

    by : (halt : Halt) → InHand (StepGivesFor (with_image q bytes) Stands) (Err halt) → InHand (FindsOutput name answer) (Err halt)
    by Usage goes = absurd goes
    by (Refused (refusal.Program kind line column)) goes = absurd (none _ (goes (λ v. None)))
    by (Refused (refusal.Object kind)) goes = absurd (none _ (goes (λ v. None)))
    by (Refused (refusal.Input fault)) goes = absurd (none _ (goes (λ v. None)))
    by (Refused (refusal.Proof cause)) goes = absurd goes
    by ReadFault goes = absurd goes
    by NoMemory goes = tt

-- what is found of the value that was loaded is found of the image's
pub of_root : (q : Program) (bytes : List ℕ) (v w : Value) → image_of (meaning q) q.text_digest.0 bytes ≡ Root v → ((go : Value → Option Answer) → with_image (digested_of q) bytes go ≡ go w)
    → (name : List ℕ) (result : Result Output Halt) → InHand (FindsOutput name (Some (moved_answer (named_of q) w name))) result → InHand (FindsOutput name (Some (moved_answer (named_of q) v name))) result
of_root q bytes v w is loads name result finds =
    let moved : Value → Option Answer = λ v. Some (moved_answer (named_of q) v name) in
    subst (λ answer. InHand (FindsOutput name answer) result) (sym (loads moved) ∙ image_goes (digested_of q) bytes v is moved) finds
