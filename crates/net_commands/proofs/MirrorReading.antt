-- The steps that read what is answered from.
use Rattle.std.proofs.Common.{◌≡◌, ℕ, List, Option, Some, None, sym, ap}
use Rattle.lam_outside.specs.Told.{Contents}
use Rattle.printed_lines.specs.declared.refusal.Argument.{Argument}
use Rattle.printed_lines.specs.declared.refusal.Argument.TheVariants.{Connections}
use Rattle.printed_lines.specs.declared.refusal.InputFault.TheVariants.{Number}
use Rattle.command_parts.specs.Answer.{Mirroring, with_mirror_file}
use Rattle.command_parts.specs.FileInputs.{with_number}
use Rattle.command_parts.specs.AnswerForms.{Answer}
use Rattle.command_parts.specs.RefusedAnswers.{input_refused}
use Rattle.command_parts.specs.Arguments.{most_links, positive_within}
use Rattle.command_parts.specs.declared.status.Status.TheVariants.{InputRefused}
use Rattle.net_commands.specs.PreparedMirrors.{mirroring_by}

-- what stands behind the number of connections, and what behind the port
abbrev pub on_mirror : (mirror : List ℕ) → Contents → (port links : ℕ) → (Mirroring → Option Answer) → Option Answer
on_mirror mirror files port links go = with_mirror_file (files mirror) (λ pieces. go (mirroring_by pieces port links))

abbrev pub on_links : (mirror links : List ℕ) → Contents → (port : ℕ) → (Mirroring → Option Answer) → Option Answer
on_links mirror links files port go = with_number Connections (positive_within most_links links) (λ m. on_mirror mirror files port m go)

-- a number that is not allowed is refused as an input
pub number_inputs : (word : Argument) (found : Option ℕ) (a : Answer) → with_number word found (λ n. None) ≡ Some a → a.status ≡ InputRefused
number_inputs word None a is = let same : input_refused (Number word) ≡ a = cc in ap (λ (a : Answer). a.status) (sym same)
number_inputs word (Some n) a is = absurd (cc)
