-- A run of `draw`, from what was read and what was judged: for `draw_command`.
use Rattle.std.proofs.Common.{◌≡◌, ◌⊎◌, inl, inr, ℕ, List, length, Option, refl, sym, subst}
use Rattle.std.specs.Borrow.{Bor}
use Rattle.command_words.specs.Commands.{texts}
use Rattle.command_words.specs.declared.command.Command.TheVariants.{Draw}
use Rattle.lam_outside.specs.Told.{Contents, Names}
use Rattle.command_parts.specs.Answer.{Drawing, answer_with, with_drawing}
use Rattle.command_parts.specs.UnansweredInCode.{undrawn_answer}
use Rattle.command_parts.specs.AnswerForms.{Answer}
use Rattle.command_parts.specs.Outsides.{Outside}
use Rattle.command_parts.specs.Reaching.{IsReached}
use Rattle.command_parts.specs.declared.status.Status.{Status}
use Rattle.command_parts.proofs.Words.{apart, reached_apart, text_at, texts_from}
use Rattle.net_commands.specs.Drawing.{EndsDialled, IsOfSources, MeansDrawing}
use Rattle.net_commands.specs.OnlineRuns.{NetSeen}

-- what the words mean
pub drawing_apart : (words : List (Bor (List ℕ))) (files : Contents) (d : Drawing) → length words ≡ 6
    → ((go : Drawing → Option Answer) → with_drawing (text_at words 0) (text_at words 1) (text_at words 2) (text_at words 3) (text_at words 4) (text_at words 5) files go ≡ go d)
    → MeansDrawing (texts words) files d
drawing_apart words files d six goes = subst (λ ts. MeansDrawing ts files d) (sym (apart words 6 six)) goes

-- and whatever the files tell
pub drawn_of_sources : (words : List (Bor (List ℕ))) (d : Drawing) → length words ≡ 6 → IsOfSources (texts_from words 6 0) d → IsOfSources (texts words) d
drawn_of_sources words d six of = subst (λ ts. IsOfSources ts d) (sym (apart words 6 six)) of

-- and where a read failed
pub undrawn_apart : (words : List (Bor (List ℕ))) (contents : Option Contents) (asked : Option Names) (before now : ℕ) → length words ≡ 6
    → (now ≡ before) ⊎ IsReached (undrawn_answer (text_at words 0) (text_at words 1) (text_at words 2) (text_at words 3) (text_at words 4) (text_at words 5)) contents asked
    → (now ≡ before) ⊎ IsReached (answer_with Draw (texts words)) contents asked
undrawn_apart words contents asked before now six (inl same) = inl same
undrawn_apart words contents asked before now six (inr reached) = inr (reached_apart Draw words 6 contents asked asked six refl reached)

-- what was judged behind what left the files as they were
pub drawn_from : (d : Drawing) (old mid new : Outside) (net net' : NetSeen) (ended : Status) → mid ≡ old → EndsDialled d mid new net net' ended → EndsDialled d old new net net' ended
drawn_from d old mid new net net' ended same ends = subst (λ old. EndsDialled d old new net net' ended) same ends
