-- How the play of a script is broken off, as its functions tell it.
use Rattle.std.specs.Prelude.{◌≡◌, ℕ, true, List, [], ◌∷◌, ◌++◌, Option, Some, Result, Ok, Err, ⊤}
use Rattle.core_terms.specs.Formats.{Hash}
use Rattle.core_terms.specs.Terms.{Program}
use Rattle.printed_syntax.specs.Literals.{ConstructorNames}
use Rattle.session_meaning.specs.Client as meant
use Rattle.session_meaning.specs.Messages.{Messages, NoMore, Reply, Stop, Then, messages, reply_of}
use Rattle.script_play.specs.Playing.{World, done}
use Rattle.script_play.specs.PlayingInCode.{IsTelling, take_one}
use Rattle.script_play.specs.Plays.{Deed, Play, behind, goes_behind, hears, rests, told_of}
use Rattle.script_play.specs.declared.play_stop.PlayStop.{PlayStop}
use Rattle.script_play.specs.declared.play_stop.PlayStop.TheVariants.{Ended, LinkFault, WriteFault, NoMemory}
use Rattle.script_play.specs.declared.telling.Telling.{Telling}
use Rattle.script_play.specs.Halting.{FailsAt, HaltsAt, IsLeast, TakesNone}

-- without the last one of these bytes none can be read
abbrev pub IsWhole : (taken : List ℕ) → Type 0
IsWhole taken = (before : List ℕ) (last : ℕ) → taken ≡ before ++ last ∷ [] → (stop : Stop) × (messages reply_of before ≡ NoMore stop)

module _ (P : Program) (names : ConstructorNames) where
  -- Of the bytes that come these were taken, and what is played of them is done, whatever comes behind them; what is played then is `more`. Of fewer
  -- bytes less is played.
  pub record TakesSoFar (Is : meant.Client → Type 0) (bytes : List ℕ) (left' : Option (List ℕ)) (w w' : World) (plays : Messages Reply → Play)
      (more : meant.Client → Messages Reply → Play) : Type 0 where
    pub taken : List ℕ
    pub rest : List ℕ
    pub parted : bytes ≡ taken ++ rest
    pub left : left' ≡ Some rest
    pub deeds : List Deed
    pub client : meant.Client
    pub stands : Is client
    pub worlds : w' ≡ done P names w deeds
    pub plays_on : (x : List ℕ) → plays (messages reply_of (taken ++ x)) ≡ behind deeds (more client (messages reply_of x))
    pub least : IsLeast plays taken deeds

  -- Of the bytes that come these were taken before the link failed. What is done is what is played of them, up to what the link kept from being done.
  pub record HaltsOn (bytes : List ℕ) (left' : Option (List ℕ)) (w w' : World) (plays : Messages Reply → Play) : Type 0 where
    pub taken : List ℕ
    pub rest : List ℕ
    pub parted : bytes ≡ taken ++ rest
    pub left : left' ≡ Some rest
    pub halts : HaltsAt P names w w' (plays (messages reply_of taken)).deeds

  -- The same of a sink that failed.
  pub record FailsOn (bytes : List ℕ) (left' : Option (List ℕ)) (w w' : World) (plays : Messages Reply → Play) : Type 0 where
    pub taken : List ℕ
    pub rest : List ℕ
    pub parted : bytes ≡ taken ++ rest
    pub left : left' ≡ Some rest
    pub fails : FailsAt P names w w' plays taken

  -- the same where these bytes come
  abbrev pub BreaksOn : (bytes : List ℕ) → (left' : Option (List ℕ)) → (w w' : World) → (Messages Reply → Play) → PlayStop → Type 0
  BreaksOn bytes left' w w' plays LinkFault = HaltsOn bytes left' w w' plays
  BreaksOn bytes left' w w' plays WriteFault = FailsOn bytes left' w w' plays
  BreaksOn bytes left' w w' plays Ended = ⊤
  BreaksOn bytes left' w w' plays NoMemory = ⊤

  -- what a play takes of the bytes that come, where it goes on, and where it is broken off
  abbrev pub PlaysTo : {T : Type 0} → (Is : meant.Client → Type 0) → (bytes : List ℕ) → (left' : Option (List ℕ)) → (w w' : World)
      → (Messages Reply → Play) → Result T PlayStop → Type 0
  PlaysTo Is bytes left' w w' plays (Ok done) = TakesSoFar Is bytes left' w w' plays rests
  PlaysTo Is bytes left' w w' plays (Err halt) = BreaksOn bytes left' w w' plays halt

-- it holds where the link failed
abbrev pub OnLinkFault : {T : Type 0} → Result T PlayStop → Type 0 → Type 0
OnLinkFault (Ok done) X = ⊤
OnLinkFault (Err LinkFault) X = X
OnLinkFault (Err Ended) X = ⊤
OnLinkFault (Err WriteFault) X = ⊤
OnLinkFault (Err NoMemory) X = ⊤

-- ONE REPLY
-- The bytes that were taken are a reply, whatever comes behind them, behind which the script goes on, and this is told of it.
pub record TakesReply (hash : Hash) (P : Program) (names : ConstructorNames) (own : List ℕ) (Is : meant.Client → Type 0) (bytes : List ℕ) (left' : Option (List ℕ))
    (c : meant.Client) (telling : Telling) : Type 0 where
  pub taken : List ℕ
  pub rest : List ℕ
  pub parted : bytes ≡ taken ++ rest
  pub left : left' ≡ Some rest
  pub reply : Reply
  pub is_first : (x : List ℕ) → messages reply_of (taken ++ x) ≡ Then reply (messages reply_of x)
  pub goes : goes_behind (hears hash P own c reply).answer ≡ true
  pub tells : IsTelling P names (told_of hash P own c reply) true telling
  pub whole : IsWhole taken
  pub stands : Is (hears hash P own c reply).client

-- The bytes that were taken are a reply, or none can be read of them, and this is told of it; fewer would not have done.
pub record TakesTold (hash : Hash) (P : Program) (names : ConstructorNames) (own : List ℕ) (bytes : List ℕ) (left' : Option (List ℕ)) (c : meant.Client) (telling : Telling) : Type 0 where
  pub taken : List ℕ
  pub rest : List ℕ
  pub parted : bytes ≡ taken ++ rest
  pub left : left' ≡ Some rest
  pub deed : Deed
  pub alone : (take_one hash P own c (messages reply_of taken)).deeds ≡ deed ∷ []
  pub tells : IsTelling P names deed telling.goes_on telling
  pub whole : IsWhole taken

-- what is taken of the bytes that come where a reply is waited for
abbrev pub TakesNext : Hash → Program → ConstructorNames → (own : List ℕ) → (Is : meant.Client → Type 0) → (bytes : List ℕ) → (left' : Option (List ℕ))
    → meant.Client → Result Telling PlayStop → Type 0
TakesNext hash P names own Is bytes left' c (Ok telling) =
    TakesTold hash P names own bytes left' c telling × (telling.goes_on ≡ true → TakesReply hash P names own Is bytes left' c telling)
TakesNext hash P names own Is bytes left' c (Err LinkFault) = TakesNone bytes left'
TakesNext hash P names own Is bytes left' c (Err Ended) = ⊤
TakesNext hash P names own Is bytes left' c (Err WriteFault) = ⊥
TakesNext hash P names own Is bytes left' c (Err NoMemory) = ⊤
