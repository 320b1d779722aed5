-- What follows of a reply to a session that waits for one: `waiting_replied`, `greeting_replied`, `leaving_replied`, `calling_replied`, and those that it calls
use Rattle.std.proofs.Common.{◌≡◌, ℕ, true, false, List, Option, Some, None, Result, Ok, Err, refl, sym, ap, ◌∙◌, subst}
use Rattle.core_terms.specs.Formats.{Hash}
use Rattle.core_terms.specs.Terms.{Program}
use Rattle.session_meaning.specs.Calls.{changes_state, role_in}
use Rattle.session_meaning.specs.Client as meant
use Rattle.session_meaning.specs.Messages as message
use Rattle.session_tables.specs.Related.{AreSame}
use Rattle.ask_core.specs.Clients.{IsAsked, IsKnown, Stands}
use Rattle.ask_core.specs.Replies.{StepFollows, IsAnswer, IsReplied, called_type, step_taken, step_to}
use Rattle.ask_core.specs.declared.asked.Asked.{Asked}
use Rattle.ask_core.specs.declared.replied.Replied.{Replied}
use Rattle.ask_core.specs.declared.standing.Known.{Known}
use Rattle.ask_core.specs.declared.standing.Standing.{Standing}
use Rattle.ask_core.specs.declared.standing.Standing.TheVariants.{Greeting, Idle, Calling, Leaving, BrokenBy}
use Rattle.ask_core.specs.declared.told.AskFault.{AskFault}
use Rattle.ask_core.specs.declared.told.AskFault.TheVariants.{WrongReply}
use Rattle.ask_core.specs.declared.told.Told.{Told}
use Rattle.ask_core.specs.declared.told.Told.TheVariants.{Welcome, Stale, Refused, Ended}

module _ (hash : Hash) (P : Program) (m : meant.Standing) (c : meant.Client) (reply : message.Reply) (replied : Replied) where
  abbrev steps : Option meant.Standing → meant.Answer → Type 0
  steps standing answer = meant.reply_step hash P (Some m) c (message.session_of reply) reply ≡ step_to c (message.session_of reply) standing answer

  -- it stands so and this is told
  pub follows : (standing : Option meant.Standing) (answer : meant.Answer) → steps standing answer
      → (s : Option Standing) (told : Result Told AskFault) → replied.standing ≡ s → replied.told ≡ told → AreSame (Stands P) s standing
      → IsAnswer P (called_type P (Some m)) answer told → ((hears forgets : meant.Taken) → step_taken hears forgets told ≡ hears)
      → StepFollows hash P m c reply replied
  follows standing answer step s told stands_so told_so stands tells memory = record {
    standing = standing;
    answer = answer;
    step = step;
    stands = subst (λ s. AreSame (Stands P) s standing) (sym stands_so) stands;
    tells = subst (IsAnswer P (called_type P (Some m)) answer) (sym told_so) tells;
    has_memory = subst (λ t. (hears forgets : meant.Taken) → step_taken hears forgets t ≡ hears) (sym told_so) memory;
  }

  -- a wrong reply
  pub follows_wrong : (kind : ℕ) → replied.standing ≡ Some (BrokenBy kind) → replied.told ≡ Err (WrongReply kind)
      → steps (Some (meant.BrokenBy kind)) (meant.IsWrongReply kind) → StepFollows hash P m c reply replied
  follows_wrong kind stands_so told_so step =
      follows (Some (meant.BrokenBy kind)) (meant.IsWrongReply kind) step (Some (BrokenBy kind)) (Err (WrongReply kind)) stands_so told_so refl refl (λ h f. refl)

  -- the session is idle, or absent
  pub follows_idle : (known : Known) (k : meant.Known) (told : Told) (answer : meant.Answer) → replied.standing ≡ Some (Idle known) → replied.told ≡ Ok told → IsKnown known k
      → steps (Some (meant.Idle k)) answer → IsAnswer P (called_type P (Some m)) answer (Ok told) → StepFollows hash P m c reply replied
  follows_idle known k told answer stands_so told_so is step tells =
      follows (Some (meant.Idle k)) answer step (Some (Idle known)) (Ok told) stands_so told_so is tells (λ h f. refl)

  pub follows_absent : (told : Told) (answer : meant.Answer) → replied.standing ≡ None → replied.told ≡ Ok told
      → steps None answer → IsAnswer P (called_type P (Some m)) answer (Ok told) → StepFollows hash P m c reply replied
  follows_absent told answer stands_so told_so step tells = follows None answer step None (Ok told) stands_so told_so tt tells (λ h f. refl)

-- ONE THAT IS GREETED
module _ (hash : Hash) (P : Program) (known : Known) (replied : Replied) where
  pub welcomed : (session : ℕ) → replied.standing ≡ Some (Idle known) → replied.told ≡ Ok Welcome → IsReplied hash P (Greeting known) (message.Welcome session) replied
  welcomed session stands_so told_so c (meant.Greeting k) is =
      follows_idle hash P (meant.Greeting k) c (message.Welcome session) replied known k Welcome meant.TellsWelcome stands_so told_so is refl refl
  welcomed session stands_so told_so c m is = elim is [ ]

  pub greeting_refused : (session cause : ℕ) → replied.standing ≡ None → replied.told ≡ Ok (Refused cause)
      → IsReplied hash P (Greeting known) (message.Refused session cause) replied
  greeting_refused session cause stands_so told_so c (meant.Greeting k) is =
      follows_absent hash P (meant.Greeting k) c (message.Refused session cause) replied (Refused cause) (meant.TellsRefused cause) stands_so told_so refl refl
  greeting_refused session cause stands_so told_so c m is = elim is [ ]

  pub greeting_wrong : (reply : message.Reply) (kind : ℕ)
      → ((c : meant.Client) (k : meant.Known) → meant.reply_step hash P (Some (meant.Greeting k)) c (message.session_of reply) reply ≡ meant.wrong_step c (message.session_of reply) kind)
      → replied.standing ≡ Some (BrokenBy kind) → replied.told ≡ Err (WrongReply kind) → IsReplied hash P (Greeting known) reply replied
  greeting_wrong reply kind wrong stands_so told_so c (meant.Greeting k) is =
      follows_wrong hash P (meant.Greeting k) c reply replied kind stands_so told_so (wrong c k)
  greeting_wrong reply kind wrong stands_so told_so c m is = elim is [ ]

  -- ONE THAT LEAVES
  pub left : (session cause : ℕ) → replied.standing ≡ None → replied.told ≡ Ok Ended → IsReplied hash P (Leaving known) (message.Closed session cause) replied
  left session cause stands_so told_so c (meant.Leaving k) is =
      follows_absent hash P (meant.Leaving k) c (message.Closed session cause) replied Ended meant.TellsEnded stands_so told_so refl refl
  left session cause stands_so told_so c m is = elim is [ ]

  pub leaving_wrong : (reply : message.Reply) (kind : ℕ)
      → ((c : meant.Client) (k : meant.Known) → meant.reply_step hash P (Some (meant.Leaving k)) c (message.session_of reply) reply ≡ meant.wrong_step c (message.session_of reply) kind)
      → replied.standing ≡ Some (BrokenBy kind) → replied.told ≡ Err (WrongReply kind) → IsReplied hash P (Leaving known) reply replied
  leaving_wrong reply kind wrong stands_so told_so c (meant.Leaving k) is =
      follows_wrong hash P (meant.Leaving k) c reply replied kind stands_so told_so (wrong c k)
  leaving_wrong reply kind wrong stands_so told_so c m is = elim is [ ]

-- ONE THAT CALLS
module _ (hash : Hash) (P : Program) (known : Known) (asked : Asked) (replied : Replied) where
  pub calling_wrong : (reply : message.Reply) (kind : ℕ)
      → ((c : meant.Client) (k : meant.Known) (a : meant.Asked) → IsAsked P asked a
      → meant.reply_step hash P (Some (meant.Calling k a)) c (message.session_of reply) reply ≡ meant.wrong_step c (message.session_of reply) kind)
      → replied.standing ≡ Some (BrokenBy kind) → replied.told ≡ Err (WrongReply kind) → IsReplied hash P (Calling known asked) reply replied
  calling_wrong reply kind wrong stands_so told_so c (meant.Calling k a) is =
      follows_wrong hash P (meant.Calling k a) c reply replied kind stands_so told_so (wrong c k a is.1)
  calling_wrong reply kind wrong stands_so told_so c m is = elim is [ ]

  -- a stale update
  pub stale : (role session : ℕ) (state : List ℕ) → asked.role ≡ role → changes_state (role_in P role).kind ≡ true → replied.standing ≡ None → replied.told ≡ Ok (Stale state)
      → IsReplied hash P (Calling known asked) (message.Stale session state) replied
  stale role session state of_role changes stands_so told_so c (meant.Calling k a) is =
      follows_absent hash P (meant.Calling k a) c (message.Stale session state) replied (Stale state) (meant.TellsStale state) stands_so told_so
      (ap (λ b. meant.stale_step b c session state) (ap (λ n. changes_state (role_in P n).kind) (is.1.role ∙ of_role) ∙ changes)) refl
  stale role session state of_role changes stands_so told_so c m is = elim is [ ]

  pub not_stale : (role session : ℕ) (state : List ℕ) → asked.role ≡ role → changes_state (role_in P role).kind ≡ false → replied.standing ≡ Some (BrokenBy 0x83)
      → replied.told ≡ Err (WrongReply 0x83) → IsReplied hash P (Calling known asked) (message.Stale session state) replied
  not_stale role session state of_role changes =
      calling_wrong (message.Stale session state) 0x83
      (λ c k a is. ap (λ b. meant.stale_step b c session state) (ap (λ n. changes_state (role_in P n).kind) (is.role ∙ of_role) ∙ changes))

  -- a refusal
  pub refusal_ends : (session cause : ℕ) → meant.ends_session cause ≡ true → replied.standing ≡ None → replied.told ≡ Ok (Refused cause)
      → IsReplied hash P (Calling known asked) (message.Refused session cause) replied
  refusal_ends session cause ends stands_so told_so c (meant.Calling k a) is =
      follows_absent hash P (meant.Calling k a) c (message.Refused session cause) replied (Refused cause) (meant.TellsRefused cause) stands_so told_so
      (ap (λ b. meant.refused_step b c session k cause) ends) refl
  refusal_ends session cause ends stands_so told_so c m is = elim is [ ]

  pub refusal_stays : (session cause : ℕ) → meant.ends_session cause ≡ false → replied.standing ≡ Some (Idle known) → replied.told ≡ Ok (Refused cause)
      → IsReplied hash P (Calling known asked) (message.Refused session cause) replied
  refusal_stays session cause ends stands_so told_so c (meant.Calling k a) is =
      follows_idle hash P (meant.Calling k a) c (message.Refused session cause) replied known k (Refused cause) (meant.TellsRefused cause) stands_so told_so is.0
      (ap (λ b. meant.refused_step b c session k cause) ends) refl
  refusal_stays session cause ends stands_so told_so c m is = elim is [ ]
