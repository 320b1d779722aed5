-- A tree that passes: that it passes the first two passes, and the format and the types of its program, which is written.
use Rattle.std.proofs.Common.{◌≡◌, ℕ, List, None, refl, ap, subst}
use Rattle.core_terms.specs.Terms.{Program}
use Rattle.auth_syntax.specs.Syntax as syntax
use Rattle.auth_syntax.specs.Parsing.{Parsed, Tree, FirstFault, parsed}
use Rattle.auth_types.specs.CheckedPrograms.{Checked, all_passes, as_checked, checked, declared_text_of, fourth_pass, program_format, table_of_program, third_pass}
use Rattle.auth_types.specs.CheckedPrograms as checking
use Rattle.declared_types.specs.Checking.{Checking, Sound, FaultAt, then_checked}
use Rattle.declared_types.specs.Declarations.{first_pass}
use Rattle.declared_types.specs.WrittenTypes.{second_pass}
use Rattle.command_parts.specs.TextPrograms.{IsProgram, of_checked, of_parsed, program_of_text, types_text_of_parsed, types_text_of_text}

pub record Passes (tree : syntax.Program) (P : Program) : Type 0 where
  pub first : first_pass tree ≡ Sound tt
  pub second : second_pass tree ≡ Sound tt
  pub format : P.format ≡ program_format tree
  pub types : P.types ≡ table_of_program tree
  pub written : P.code ≡ None

-- a tree that gives a program
checked_is : (found : Checked) (P : Program) → of_checked found ≡ IsProgram P → found ≡ checking.IsProgram P
checked_is (checking.IsProgram Q) P e = ap checking.IsProgram (cc)
checked_is (checking.FirstFault kind line column) P e = absurd (cc)

passed_is : (found : Checking Program) (P : Program) → as_checked found ≡ checking.IsProgram P → found ≡ Sound P
passed_is (Sound Q) P e = ap Sound (cc)
passed_is (FaultAt kind at) P e = absurd (cc)

module _ (tree : syntax.Program) (P : Program) where
  -- what a pass gives that is gone on behind
  behind : {A : Type 0} (pass : Checking A) (go : A → Checking Program) → then_checked pass go ≡ Sound P → (a : A) × (pass ≡ Sound a) × (go a ≡ Sound P)
  behind (Sound a) go is = (a, refl, is)
  behind (FaultAt kind at) go is = absurd (cc)

  abbrev IsMade : Checking Program → Type 0
  IsMade (Sound P) = (P.format ≡ program_format tree) × (P.types ≡ table_of_program tree) × (P.code ≡ None)
  IsMade (FaultAt kind at) = Unit {0}

  pub passes : all_passes tree ≡ Sound P → Passes tree P
  passes is =
      let first = behind (first_pass tree) _ is in
      let second = behind (second_pass tree) _ first.2 in
      let third = behind (third_pass tree) _ second.2 in
      let fourth = behind (fourth_pass tree) _ third.2 in
      let made = subst IsMade fourth.2 (refl, refl, refl) in
      record { first = first.1; second = second.1; format = made.0; types = made.1; written = made.2 }

  pub checked_passes : checked tree ≡ checking.IsProgram P → all_passes tree ≡ Sound P
  unfolding checked
  checked_passes is = passed_is (all_passes tree) P is

-- what the text of a program has: a tree that passes, whose type declarations are those of the text
pub record IsTextOf (text : List ℕ) (P : Program) : Type 0 where
  pub tree : syntax.Program
  pub parsed : parsed text ≡ Tree tree
  pub checked : checked tree ≡ checking.IsProgram P
  pub passed : all_passes tree ≡ Sound P
  pub declared : types_text_of_text text ≡ declared_text_of tree

pub text_of_program : (text : List ℕ) (P : Program) → program_of_text text ≡ IsProgram P → IsTextOf text P
unfolding program_of_text types_text_of_text
text_of_program text P e = by (parsed text) refl e
  where
    by : (found : Parsed) → parsed text ≡ found → of_parsed found ≡ IsProgram P → IsTextOf text P
    by (Tree tree) is e =
        let found = checked_is (checked tree) P e in
        record { tree = tree; parsed = is; checked = found; passed = checked_passes tree P found; declared = ap types_text_of_parsed is }
    by (FirstFault kind at) is e = absurd (cc)

-- it is no compiled program
pub text_is_written : (text : List ℕ) (P : Program) → program_of_text text ≡ IsProgram P → P.code ≡ None
text_is_written text P e = let found = text_of_program text P e in (passes found.tree P found.passed).written
