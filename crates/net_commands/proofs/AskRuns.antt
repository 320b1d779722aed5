-- A run of `ask`, from what was read and what was asked.
use Rattle.std.proofs.Common.{◌≡◌, ◌⊎◌, inl, inr, ℕ, List, length, Option, refl, sym, subst}
use Rattle.std.specs.Borrow.{Bor}
use Rattle.command_words.specs.Commands.{texts}
use Rattle.command_words.specs.declared.command.Command.TheVariants.{Ask}
use Rattle.lam_outside.specs.Told.{Contents, Names}
use Rattle.command_parts.specs.Answer.{Asking, answer_with, with_asking}
use Rattle.command_parts.specs.UnansweredInCode.{unasked_answer}
use Rattle.command_parts.specs.AnswerForms.{Answer}
use Rattle.net_commands.specs.Asking.{EndsAsking, IsOfWords, MeansAsking}
use Rattle.command_parts.specs.Outsides.{Outside}
use Rattle.net_commands.specs.OnlineRuns.{NetSeen}
use Rattle.net_commands.specs.ToldNumbers.{TellsPort}
use Rattle.command_parts.specs.Reaching.{IsReached}
use Rattle.command_parts.specs.declared.status.Status.{Status}
use Rattle.command_parts.proofs.Words.{apart, reached_apart, text_at}

-- what the words mean
pub asking_apart : (words : List (Bor (List ℕ))) (files : Contents) (a : Asking) → length words ≡ 5
    → ((go : Asking → Option Answer) → with_asking (text_at words 0) (text_at words 1) (text_at words 2) (text_at words 3) files go ≡ go a)
    → MeansAsking (texts words) files a (text_at words 4)
asking_apart words files a five goes = subst (λ ts. MeansAsking ts files a (text_at words 4)) (sym (apart words 5 five)) (refl, goes)

-- and whatever the files tell
pub asked_of_words : (words : List (Bor (List ℕ))) (a : Asking) → length words ≡ 5 → TellsPort (text_at words 2) a.port → IsOfWords (texts words) a (text_at words 4)
asked_of_words words a five told = subst (λ ts. IsOfWords ts a (text_at words 4)) (sym (apart words 5 five)) (refl, told)

-- and where a read failed
pub unasked_apart : (words : List (Bor (List ℕ))) (contents : Option Contents) (asked : Option Names) (before now : ℕ) → length words ≡ 5
    → (now ≡ before) ⊎ IsReached (unasked_answer (text_at words 0) (text_at words 1) (text_at words 2) (text_at words 3)) contents asked
    → (now ≡ before) ⊎ IsReached (answer_with Ask (texts words)) contents asked
unasked_apart words contents asked before now five (inl same) = inl same
unasked_apart words contents asked before now five (inr reached) = inr (reached_apart Ask words 5 contents asked asked five refl reached)

-- what was asked behind what left the files as they were
pub asked_from : (a : Asking) (name : List ℕ) (old mid new : Outside) (net net' : NetSeen) (ended : Status) → mid ≡ old → EndsAsking a name mid new net net' ended
    → EndsAsking a name old new net net' ended
asked_from a name old mid new net net' ended same ends = subst (λ old. EndsAsking a name old new net net' ended) same ends
