-- What a function that plays does of a play, as it tells it.
use Rattle.std.specs.Prelude.{◌≡◌, ℕ, List, Option, Some, Result}
use Rattle.code_gen.specs.declared.code.Code.{Code}
use Rattle.mode_vm.specs.Meanings.{program_of}
use Rattle.session_meaning.specs.Client.{Client}
use Rattle.session_meaning.specs.Messages.{Messages, Reply}
use Rattle.script_play.specs.HaltingInCode.{PlaysTo}
use Rattle.script_play.specs.Playing.{AreComing, PlaysAs, World}
use Rattle.script_play.specs.PlayingInCode.{names_of}
use Rattle.script_play.specs.Plays.{Play}
use Rattle.script_play.specs.declared.play_stop.PlayStop.{PlayStop}

-- The play of the replies that come is played, to its end or to where it is broken off; and of the bytes that come no more were taken than it needs.
pub record IsPlayed (code : Code) (Is : Client → Type 0) (left left' : Option (List ℕ)) (w w' : World) (play : Messages Reply → Play)
    (result : Result (Unit {0}) PlayStop) : Type 0 where
  pub plays : (ms : Messages Reply) → AreComing left ms → PlaysAs (program_of code) (names_of code) Is left' w w' (play ms) result
  pub halts : (bytes : List ℕ) → left ≡ Some bytes → PlaysTo (program_of code) (names_of code) Is bytes left' w w' play result
