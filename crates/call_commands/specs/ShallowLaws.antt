-- The law of what `shallow` stores for a client of `prove`.
use Rattle.std.specs.Prelude.{◌≡◌, ℕ, List, [], ◌∷◌, Option, Some}
use Rattle.command_words.specs.Invocations.{Invocation}
use Rattle.lam_outside.specs.Told.{Contents}
use Rattle.command_parts.specs.Answer.{spelled_answer}
use Rattle.command_parts.specs.AnswerForms.{Answer}
use Rattle.command_parts.specs.IdealCalls.{IdealCall}
use Rattle.call_commands.specs.ProvedCalls.{CallsProve, client_call}
use Rattle.command_parts.specs.declared.status.Status.TheVariants.{Done}

-- the answer is that the command was carried out, with these bytes stored under this name, and nothing else stored
pub record StoresAlone (found : Option Answer) (name bytes : List ℕ) : Type 0 where
  pub answer : Answer
  pub answered : found ≡ Some answer
  pub done : answer.status ≡ Done
  pub stored : answer.stored ≡ (name, bytes) ∷ []

-- Whatever files hold the bytes of the program and the image that a command of `prove` named: `shallow` on these two is done, and stores
-- just the state that the client of this call holds.
abbrev pub ShallowStoresTheClientsState : Type 0
ShallowStoresTheClientsState =
    (invocation : Invocation) (files : Contents) (call : IdealCall) (n : ℕ) (proof : List ℕ) (calls : CallsProve invocation files call n proof)
    → (program image out : List ℕ) (later : Contents) → later program ≡ Some calls.role.program_file.bytes → later image ≡ Some calls.inputs.image_file.image
    → StoresAlone (spelled_answer program image out later) out (client_call call).state
