-- The law of plays: whatever replies come, what is told is true.
use Rattle.std.specs.Prelude.{◌≡◌, ℕ, true, List}
use Rattle.std.specs.List.{All}
use Rattle.core_terms.specs.Formats.{Hash, IsFormat, IsHash}
use Rattle.core_terms.specs.Terms.{Program}
use Rattle.core_terms.specs.TypingRules.{IsTyped}
use Rattle.core_terms.specs.Typing.{is_shaped}
use Rattle.session_meaning.specs.Client.{new_client}
use Rattle.session_meaning.specs.Messages.{Messages, Reply}
use Rattle.ask_script.specs.Scripts.{HasByteArgument, UserStep}
use Rattle.script_play.specs.Plays.{play}
use Rattle.script_play.specs.PlayRuns.{TellsTruth}

-- Whatever replies come, a play of a script of a sound program tells what is true. The arguments that it passes are of bytes, as those that are read of
-- a text.
abbrev pub PlaysTellTruth : Type 0
PlaysTellTruth = (hash : Hash) → IsHash hash → (P : Program) → IsFormat P.format → IsTyped P → is_shaped P ≡ true
    → (own state : List ℕ) (steps : List UserStep) → All HasByteArgument steps → (ms : Messages Reply)
    → let p = play hash P own state steps new_client ms in TellsTruth hash P own ms p.coming p.deeds
