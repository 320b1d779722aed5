-- The laws of scripts: what a reader may hold their definition to.
use Rattle.std.specs.Prelude.{◌≡◌, ℕ, ◌<◌, ◌^◌, true, List}
use Rattle.std.specs.List.{All}
use Rattle.core_terms.specs.Terms.{Program}
use Rattle.core_terms.specs.Types.{has_tags}
use Rattle.printed_syntax.specs.Literals.{ConstructorNames}
use Rattle.ask_script.specs.Scripts.{HasByteArgument, Steps, UserStep, script_of}

-- The arguments of a script's calls are of bytes, in a format whose limit fits the length field of a text, and where each constructor has a tag of one
-- byte: they spell values of literals, and no literal has a digest.
abbrev pub ArgumentsAreBytes : Type 0
ArgumentsAreBytes =
    (P : Program) → P.format.limit < 2 ^ 32 → has_tags P.types ≡ true → (names : ConstructorNames) (text : List ℕ) (steps : List UserStep)
    → script_of P names text ≡ Steps steps → All HasByteArgument steps
