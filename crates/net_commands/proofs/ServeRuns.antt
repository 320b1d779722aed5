-- A run of `serve`, from what was read and what was served.
use Rattle.std.proofs.Common.{◌≡◌, ◌⊎◌, inl, inr, ℕ, List, length, Option, Some, None, refl, sym, subst}
use Rattle.std.specs.Borrow.{Bor}
use Rattle.std.specs.Option.{ForSome}
use Rattle.command_words.specs.Commands.{texts}
use Rattle.command_words.specs.declared.command.Command.TheVariants.{Serve}
use Rattle.lam_outside.specs.Told.{Contents, Names}
use Rattle.command_parts.specs.Answer.{Serving, ServingNumbers, answer_with, with_serving}
use Rattle.command_parts.specs.UnansweredInCode.{unserved_answer}
use Rattle.command_parts.specs.AnswerForms.{Answer}
use Rattle.command_parts.specs.Outsides.{Outside}
use Rattle.command_parts.specs.Reaching.{IsReached}
use Rattle.net_commands.specs.PreparedServers.{IsPrepared, numbers_held}
use Rattle.net_commands.specs.ToldNumbers.{TellNumbers, numbers_served}
use Rattle.net_commands.specs.OnlineRuns.{NetSeen}
use Rattle.net_commands.specs.Serving.{EndsServing, IsOfWords, MeansServing}
use Rattle.net_commands.specs.declared.serving.PreparedServer.{PreparedServer}
use Rattle.command_parts.specs.declared.status.Status.{Status}
use Rattle.command_parts.proofs.Words.{apart, reached_apart, text_at}

-- one serving for both: what was prepared, and what the files mean where they tell
pub record IsBoth (contents : Option Contents) (Means : Contents → Serving → Type 0) (Prepared : Serving → Type 0) : Type 0 where
  pub serving : Serving
  pub prepared : Prepared serving
  pub means : ForSome contents (λ files. Means files serving)

pub both : (contents : Option Contents) (Means : Contents → Serving → Type 0) (Prepared : Serving → Type 0) → ForSome contents (λ files. (s : Serving) × Means files s × Prepared s)
    → ((s : Serving) × Prepared s) → IsBoth contents Means Prepared
both None Means Prepared told some = record { serving = some.0; prepared = some.1; means = λ files known. absurd (cc) }
both (Some files) Means Prepared told some =
    let s = told files refl in record {
      serving = s.0;
      prepared = s.2;
      means = λ other known. let same : files ≡ other = cc in subst (λ files. Means files s.0) same s.1;
    }

-- ---- the words of `serve`

-- what they mean
pub means_apart : (words : List (Bor (List ℕ))) (files : Contents) (s : Serving) → length words ≡ 6
    → ((go : Serving → Option Answer) → with_serving (text_at words 0) (text_at words 1) (text_at words 2) (text_at words 3) (text_at words 4) files go ≡ go s)
    → MeansServing (texts words) files s (text_at words 5)
means_apart words files s six goes = subst (λ ts. MeansServing ts files s (text_at words 5)) (sym (apart words 6 six)) (refl, goes)

-- and whatever the files tell
pub of_words_apart : (words : List (Bor (List ℕ))) (s : Serving) → length words ≡ 6 → TellNumbers (text_at words 2) (text_at words 3) (text_at words 4) (numbers_served s)
    → IsOfWords (texts words) s (text_at words 5)
of_words_apart words s six told = subst (λ ts. IsOfWords ts s (text_at words 5)) (sym (apart words 6 six)) (refl, told)

abbrev numbers_as : (port links slice : ℕ) → ServingNumbers
numbers_as port links slice = record { port = port; links = links; slice = slice }

numbers_alike : (port port' links links' slice slice' : ℕ) → port ≡ port' → links ≡ links' → slice ≡ slice' → numbers_as port links slice ≡ numbers_as port' links' slice'
numbers_alike port port' links links' slice slice' a b c = rw (a, b, c) refl

-- the server holds the numbers of what it serves
pub same_numbers : (server : PreparedServer) (s : Serving) → IsPrepared server s → numbers_held server ≡ numbers_served s
same_numbers server s prepared = numbers_alike server.port s.port server.connections s.links server.core.slice s.slice prepared.port prepared.links prepared.slice

-- and where a read failed
pub either_apart : (words : List (Bor (List ℕ))) (contents : Option Contents) (asked : Option Names) (before now : ℕ) → length words ≡ 6
    → (now ≡ before) ⊎ IsReached (unserved_answer (text_at words 0) (text_at words 1) (text_at words 2) (text_at words 3) (text_at words 4)) contents asked
    → (now ≡ before) ⊎ IsReached (answer_with Serve (texts words)) contents asked
either_apart words contents asked before now six (inl same) = inl same
either_apart words contents asked before now six (inr reached) = inr (reached_apart Serve words 6 contents asked asked six refl reached)

-- a server that is lent is prepared too
pub prepared_at : (held lent : PreparedServer) → lent ≡ held → ((s : Serving) × IsPrepared held s) → (s : Serving) × IsPrepared lent s
prepared_at held lent same prepared = (prepared.0, subst (λ server. IsPrepared server prepared.0) (sym same) prepared.1)

-- a serving behind what left the files as they were
pub from_seen : (s : Serving) (name : List ℕ) (old mid new : Outside) (net net' : NetSeen) (ended : Status) → mid ≡ old → EndsServing s name mid new net net' ended
    → EndsServing s name old new net net' ended
from_seen s name old mid new net net' ended same ends = subst (λ old. EndsServing s name old new net net' ended) same ends
