-- What commands on the net or on a disk answer where they never come to listen, to dial or to a journal, as their functions tell it.
use Rattle.std.specs.Prelude.{ℕ, List, Option, None}
use Rattle.lam_outside.specs.Told.{Contents}
use Rattle.command_parts.specs.AnswerForms.{Answer}
use Rattle.command_parts.specs.FileInputs.{with_program_file}
use Rattle.command_parts.specs.Answer.{with_asking, with_drawing, with_founding, with_mirroring, with_serving, with_serving_numbers}

-- `serve P IMG PORT CONNS SLICE OUT`
abbrev pub unserved_answer : (program image port links slice : List ℕ) → Contents → Option Answer
unserved_answer program image port links slice files = with_serving program image port links slice files (λ serving. None)

-- `found P IMG JOURNAL`, `host P JOURNAL PORT CONNS SLICE` and `replay P JOURNAL OUT`
abbrev pub unfounded_answer : (program image : List ℕ) → Contents → Option Answer
unfounded_answer program image files = with_founding program image files (λ f. None)

abbrev pub unhosted_answer : (program port links slice : List ℕ) → Contents → Option Answer
unhosted_answer program port links slice files =
    with_program_file (files program) (λ p. with_serving_numbers port links slice (λ numbers. None))

abbrev pub unreplayed_answer : (program : List ℕ) → Contents → Option Answer
unreplayed_answer program files = with_program_file (files program) (λ p. None)

-- `ask P STATE PORT SCRIPT OUT`
abbrev pub unasked_answer : (program state port script : List ℕ) → Contents → Option Answer
unasked_answer program state port script files = with_asking program state port script files (λ asking. None)

-- `mirror MIRROR PORT CONNS`
abbrev pub unmirrored_answer : (mirror port links : List ℕ) → Contents → Option Answer
unmirrored_answer mirror port links files = with_mirroring mirror port links files (λ m. None)

-- `draw P ROLE STATE ARG FUEL PORT`
abbrev pub undrawn_answer : (program role state argument fuel port : List ℕ) → Contents → Option Answer
undrawn_answer program role state argument fuel port files = with_drawing program role state argument fuel port files (λ d. None)
