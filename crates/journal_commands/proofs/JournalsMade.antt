-- The journal that is made in the file of a name, and what ended the work early.
use Rattle.std.proofs.Common.{◌≡◌, List, [], ℕ, Option, Some, Result, Ok, Err, OnOk, inl, sym, ap, ◌∙◌, subst, None}
use Rattle.core_terms.specs.ProgramFormats.{format_with}
use Rattle.core_terms.specs.Types.{UnitTy}
use Rattle.core_terms.specs.declared.format.Format.TheVariants.{First}
use Rattle.lam_outside.specs.Told.{Contents}
use Rattle.command_parts.specs.Answer.{Founding}
use Rattle.command_parts.specs.FileInputs.{with_image_bytes, with_program_file}
use Rattle.command_parts.specs.AnswerForms.{Answer}
use Rattle.command_parts.specs.FueledRoles.{NamedProgram}
use Rattle.command_parts.specs.Halting.{HaltsAs}
use Rattle.command_parts.specs.declared.report.Halt.{Halt}
use Rattle.journal_commands.specs.DisksSeen.{DiskSeen, file_in}
use Rattle.journal_commands.specs.Founding.{MeansFounding}
use Rattle.journal_commands.specs.FoundingInCode.{LeavesOn, founding_of}
use Rattle.journal_commands.specs.JournalAnswers.{making_answer}
use Rattle.journal_commands.specs.Works.{FindsMade}
use Rattle.journal_commands.specs.declared.stop.DiskStop.{DiskStop}
use Rattle.journal_commands.specs.declared.stop.DiskStop.TheVariants.{Halts}

-- ---- the journal that the words and the files mean

pub means_founding : (program image : List ℕ) (files : Contents) (p : NamedProgram) (meant bytes : List ℕ) → ((go : NamedProgram → Option Answer) → with_program_file (files program) go ≡ go p)
    → ((go : List ℕ → Option Answer) → with_image_bytes p.digested (files image) go ≡ go meant) → bytes ≡ meant → MeansFounding program image files (founding_of p.digested bytes)
means_founding program image files p meant bytes of_program of_image same = λ go.
    of_program (λ p. with_image_bytes p.digested (files image) (λ bytes. go (founding_of p.digested bytes)))
    ∙ of_image (λ bytes. go (founding_of p.digested bytes))
    ∙ ap (λ bytes. go (founding_of p.digested bytes)) (sym same)

-- ---- what ended the work early

pub halted_made : (answer behind : Option Answer) (result : Result (Unit {0}) DiskStop) (halt : Halt) → result ≡ Err (Halts halt) → answer ≡ behind → HaltsAs behind halt → FindsMade answer result
halted_made answer behind result halt is same halts = subst (FindsMade answer) (sym is) (subst (λ a. HaltsAs a halt) (sym same) halts)

pub made_as : (answer behind : Option Answer) (result : Result (Unit {0}) DiskStop) → answer ≡ behind → FindsMade behind result → FindsMade answer result
made_as answer behind result same finds = subst (λ a. FindsMade a result) (sym same) finds

pub found_on : (contents : Option Contents) (files : Contents) (name : List ℕ) (result : Result (Unit {0}) DiskStop) → contents ≡ Some files
    → FindsMade (Some (making_answer (file_in (Some files) name))) result → FindsMade (Some (making_answer (file_in contents name))) result
found_on contents files name result known finds = subst (λ contents. FindsMade (Some (making_answer (file_in contents name))) result) (sym known) finds

on_ok : {T E : Type 0} (result : Result T E) (X : Type 0) → X → OnOk result X
on_ok (Ok done) X x = x
on_ok (Err e) X x = tt

-- a journal that was not made, of whatever program
abbrev no_founding : Founding
no_founding = founding_of (record { program = record { format = format_with First []; types = []; state = UnitTy; functions = []; code = None }; digest = [] }) []

module _ (Means : Founding → Type 0) (name : List ℕ) (disk disk' : DiskSeen) (result : Result (Unit {0}) DiskStop) where
  pub unchosen : (halt : Halt) → result ≡ Err (Halts halt) → disk'.moments ≡ disk.moments → (f : Founding) × OnOk result (Means f) × LeavesOn f name disk disk' result
  unchosen halt is same = subst (λ result. (f : Founding) × OnOk result (Means f) × LeavesOn f name disk disk' result) (sym is) (no_founding, tt, inl same)

  pub left_so : (f : Founding) → Means f → LeavesOn f name disk disk' result → (f : Founding) × OnOk result (Means f) × LeavesOn f name disk disk' result
  left_so f means left = (f, on_ok result (Means f) means, left)
