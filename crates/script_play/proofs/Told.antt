-- What is told of an answer: for `hear`, `telling_of` and the lines.
use Rattle.std.proofs.Common.{◌≡◌, ℕ, ◌<◌, ◌^◌, true, List, Option, Some, None, Result, Ok, Err, IfSome, IsSome, length, refl, sym, ap, ◌∙◌, subst, arith}
use Rattle.core_terms.proofs.LawProofs.{size_is_length}
use Rattle.core_terms.specs.Formats.{IsFormat}
use Rattle.core_terms.specs.Spelling.{spelling}
use Rattle.core_terms.specs.Terms.{Program}
use Rattle.core_terms.specs.TypeTables.{type_at}
use Rattle.core_terms.specs.Types.{Ty}
use Rattle.core_terms.specs.Values.{IsShallow, Value}
use Rattle.core_terms.specs.declared.outcome.Outcome.{Outcome}
use Rattle.core_terms.specs.declared.outcome.Outcome.TheVariants as told
use Rattle.core_terms.specs.declared.byte_string.ByteString.{ByteString as Spelling}
use Rattle.ideal_meaning.specs.Ideal as ideal
use Rattle.ideal_meaning.specs.SpelledOutcomes.{SpellsOutcome}
use Rattle.printed_lines.specs.OutcomeLines.{named_done_line}
use Rattle.printed_syntax.specs.Literals.{ConstructorNames}
use Rattle.printed_lines.specs.SessionLines.{session_line}
use Rattle.session_meaning.specs.Client as meant
use Rattle.session_meaning.specs.Messages.{BadMessage, TooLong}
use Rattle.wire_form.specs.declared.message.ReadStop.{ReadStop}
use Rattle.wire_form.specs.declared.message.ReadStop.TheVariants as stop
use Rattle.ask_core.specs.Replies.{IsAnswer, called_type}
use Rattle.ask_core.specs.Sessions.{IsCalledRole}
use Rattle.session_meaning.specs.Waiting.{called_in, is_calling}
use Rattle.ask_core.specs.declared.seen.CalledRole.{CalledRole}
use Rattle.ask_core.specs.declared.told.AskFault.{AskFault}
use Rattle.ask_core.specs.declared.told.Told.{Told}
use Rattle.ask_core.specs.declared.told.Told.TheVariants as tells
use Rattle.script_play.specs.DeedLines.{answer_line, outcome_line}
use Rattle.script_play.specs.Tellings.{IsStop, is_outcome}

-- the line of a value, by its bytes as they are lent
pub done_line : (P : Program) → IsFormat P.format → (names : ConstructorNames) (t : Ty) (bytes lent line : List ℕ) → lent ≡ bytes
    → ((v : Value) → IsShallow P.types t v → length lent < 2 ^ 32 → lent ≡ spelling v → line ≡ named_done_line P.types names t v)
    → (o : ideal.Outcome) → SpellsOutcome P t o (told.Done bytes) → line ≡ outcome_line P names t o
done_line P format names t bytes lent line same tells o (v, done, spelled) =
    let is = same ∙ spelled.is in
    let count : length lent ≡ length (spelling v) = ap length is in
    let fits = spelled.within.size_fits in
    let size = size_is_length P.types t v spelled.shape in
    let limit = format.limit_fits in
    tells v spelled.shape (omega (arith, count, size, fits, limit)) is ∙ ap (outcome_line P names t) (sym done)

module _ (P : Program) where
  pub called_result : (found : Option meant.Standing) → (called_in P found).result ≡ called_type P found
  called_result None = refl
  called_result (Some (meant.Greeting k)) = refl
  called_result (Some (meant.Idle k)) = refl
  called_result (Some (meant.Leaving k)) = refl
  called_result (Some (meant.Calling k a)) = refl
  called_result (Some (meant.FailedBy cause)) = refl
  called_result (Some (meant.BrokenBy kind)) = refl

  -- an outcome is told of a call alone
  pub outcome_called : (types : List Ty) (found : Option meant.Standing) (called : Option CalledRole) (t : Ty) (answer : meant.Answer) (r : Result Told AskFault)
      → IsCalledRole types P found called → IsAnswer P t answer r → ((x : ideal.Outcome) → answer ≡ meant.Tells x → is_calling found ≡ true)
      → is_outcome r ≡ true → IsSome called
  outcome_called types found (Some role) t answer r h a calls e = refl
  outcome_called types found None t answer (Ok (tells.Outcome outcome)) h a calls e =
      let c : is_calling found ≡ true = calls a.0 a.1 in absurd (cc)
  outcome_called types found None t answer (Ok tells.Welcome) h a calls e = absurd (cc)
  outcome_called types found None t answer (Ok (tells.Stale state)) h a calls e = absurd (cc)
  outcome_called types found None t answer (Ok (tells.Refused cause)) h a calls e = absurd (cc)
  outcome_called types found None t answer (Ok tells.Ended) h a calls e = absurd (cc)
  outcome_called types found None t answer (Err fault) h a calls e = absurd (cc)

  -- the line of an outcome stands behind the number of its session
  pub outcome_told : (names : ConstructorNames) (types : List Ty) (session : ℕ) (found : Option meant.Standing) (called : Option CalledRole) (answer : meant.Answer)
      (r : Told) (outcome : Outcome Spelling) (line whole : List ℕ) → r ≡ tells.Outcome outcome → (is_outcome (Ok r) ≡ true → IsSome called)
      → IsCalledRole types P found called → IsAnswer P (called_type P found) answer (Ok r)
      → ((t : Ty) (o : ideal.Outcome) → IfSome called (λ role. type_at types role.result ≡ t) → SpellsOutcome P t o outcome → line ≡ outcome_line P names t o)
      → whole ≡ session_line session line → whole ≡ answer_line P names session (called_in P found) answer
  outcome_told names types session found called answer r outcome line whole e there is answered tells_line whole_is =
      let a = subst (λ (r : Told). IsAnswer P (called_type P found) answer (Ok r)) e answered in
      let some : IsSome called = there (ap (λ (r : Told). is_outcome (Ok r)) e) in
      let line_is = tells_line (called_type P found) a.0 (by called is some) a.2 in
      let role_line : line ≡ outcome_line P names (called_in P found).result a.0 = line_is ∙ ap (λ t. outcome_line P names t a.0) (sym (called_result found)) in
      whole_is ∙ ap (session_line session) role_line ∙ ap (answer_line P names session (called_in P found)) (sym a.1)
    where
      by : (called : Option CalledRole) → IsCalledRole types P found called → IsSome called → IfSome called (λ role. type_at types role.result ≡ called_type P found)
      by (Some role) is some = is.1 ∙ called_result found
      by None is some = absurd (cc)

-- why no more replies are read
pub bad_stop : (s : ReadStop) (kind offset : ℕ) → s ≡ stop.BadMessage kind offset → IsStop s (BadMessage kind offset)
bad_stop s kind offset e = subst (λ x. IsStop x (BadMessage kind offset)) (sym e) refl

pub long_stop : (s : ReadStop) (len : ℕ) → s ≡ stop.TooLong len → IsStop s (TooLong len)
long_stop s len e = subst (λ x. IsStop x (TooLong len)) (sym e) refl
