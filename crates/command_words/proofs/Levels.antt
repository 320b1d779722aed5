-- What clap makes of a command's name, and of a name that no command has.
use Rattle.std.proofs.Common.{◌≡◌, ◌≢◌, ℕ, List, [], ◌∷◌, Option, Some, None, false, refl, sym, ◌∙◌, ap, ap₂, codes, is_some, find, fold, option_map}
use Rattle.std.specs.Option.{option_map_or}
use Rattle.std.specs.Str.{bytes_eq}
use Rattle.clap.specs.Words.{Kinds, Text, fault_of}
use Rattle.clap.specs.Walk.{Held, Names, Walk, answers_to, finished, idle, nothing_held, settled, subcommand_met, value, walk, walk_from, walked, word_met}
use Rattle.clap.specs.Simple.{Shape, entered, label_of, rows_at}
use Rattle.clap.specs.Kinds.{or_else}
use Rattle.clap.specs.Faults.{check_fault, defaults_fault, entered_fault, level_fault, settle_fault, step_fault, turn_fault, walk_fault}
use Rattle.clap.specs.declared.error.kind.ErrorKind.TheVariants as kind
use Rattle.clap.proofs.WalkLemmas.{walk_stopped}
use Rattle.clap.proofs.FaultLemmas.{stopped_fault}
use Rattle.clap.proofs.OnLiterals.{clap_on_literals}
use Rattle.command_words.proofs.Leaves.{line, line_of, names}
use Rattle.command_words.proofs.PlainWords.{IsPlainWord}
use Rattle.command_words.specs.Commands.{Row}

-- the walk once it has met a command's name, and behind it these words
abbrev pub at_name : Text → List Text → Walk
at_name name ws = record { held = nothing_held; waiting = idle; position = 1; is_trailing = false; stopped = Some (name, ws) }

-- a word that names a command, and isn't `help`
module _ (s : Shape) (names : Names) (w : Text) (met : subcommand_met names idle w ≡ Some w) where
  pub enters : walked s.rules names (walk_from nothing_held) w ≡ at_name w []
  unfolding walked
  enters = rw met refl

  pub passes : bytes_eq w (codes "help") ≡ false → turn_fault s names (walk_from nothing_held) w ≡ []
  passes other = rw (met, other) refl

-- a word that names no command, and isn't a flag, goes to a positional
module _ (s : Shape) (names : Names) (i : ℕ) (w : Text) (h : Held) (none : subcommand_met names idle w ≡ None) (p : IsPlainWord w) where
  meets_none : word_met s.rules names false idle i w h ≡ (h, value)
  meets_none = rw (none, p.1, p.0, p.0) refl

  goes_on : turn_fault s names (record { held = h; waiting = idle; position = i; is_trailing = false; stopped = None }) w ≡ step_fault s i h value
  goes_on = rw (meets_none, none, p.1, p.0, p.0) refl

or_nothing : (k : Kinds) → or_else k [] ≡ k
or_nothing [] = refl
or_nothing (x ∷ xs) = refl

-- the command line of these rows
module _ (rows : List Row) where
  abbrev top : Shape
  top = (line rows).top

  -- what a parse refuses behind its walk over the words
  abbrev after : Walk → Kinds
  after v = or_else (entered_fault (line rows) v.stopped) (or_else (settle_fault top.rules top.args_override_self v.held)
      (or_else (defaults_fault (settled top.rules v.held).rows top.rules) (check_fault top (finished top.rules v.held) (is_some (entered (line rows) v.stopped)))))

  -- the same of a walk that met a command's name, by the command that was found
  abbrev parse_at : List Text → Option Shape → Kinds
  parse_at ws found = or_else (option_map_or (λ s. level_fault s [] nothing_held ws false []) found [])
      (or_else (defaults_fault [] top.rules) (check_fault top (finished top.rules nothing_held) (is_some (option_map (λ s. rows_at s ws) found))))

  -- a name that clap finds to be that of this command
  module _ (name : Text) (s : Shape) (met : subcommand_met (names rows) idle name ≡ Some name) (other : bytes_eq name (codes "help") ≡ false)
      (finds : find (λ s. answers_to name (label_of s)) (line rows).subs ≡ Some s) where
    by_walk : (ws : List Text) → walk_fault top (names rows) (walk_from nothing_held) (name ∷ ws) ≡ []
    unfolding walk_fault
    by_walk ws = rw (passes top (names rows) name met other, enters top (names rows) name met) (stopped_fault top (names rows) (at_name name []) (name, []) ws)

    stands : (ws : List Text) → at_name name ws ≡ fold (walked top.rules (names rows)) (walked top.rules (names rows) (walk_from nothing_held) name) ws
    stands ws = rw (enters top (names rows) name met) (walk_stopped top.rules (names rows) (at_name name []) name [] ws)

    -- the faults are those of the texts behind it
    pub faults_behind : (program : Text) (ws : List Text) → fault_of (line_of rows) (program ∷ name ∷ ws) ≡ level_fault s [] nothing_held ws false []
    unfolding clap_on_literals
    faults_behind program ws =
        ap₂ (λ f v. or_else f (after v)) (by_walk ws) (sym (stands ws)) ∙ ap (parse_at ws) finds ∙ or_nothing (level_fault s [] nothing_held ws false [])

  -- a name that no command has
  pub unknown_refused : (program name : Text) (ws : List Text) → IsPlainWord name → subcommand_met (names rows) idle name ≡ None
      → fault_of (line_of rows) (program ∷ name ∷ ws) ≢ []
  unfolding clap_on_literals
  unknown_refused program name ws p none h = cc (sym (ap (λ k. or_else (or_else k rest) (after (walk top.rules (names rows) nothing_held (name ∷ ws)))) strays) ∙ h)
    where
      rest : Kinds
      rest = walk_fault top (names rows) (walked top.rules (names rows) (walk_from nothing_held) name) ws

      strays : turn_fault top (names rows) (walk_from nothing_held) name ≡ kind.UnknownArgument ∷ kind.InvalidSubcommand ∷ []
      strays = goes_on top (names rows) 1 name nothing_held none p

  pub no_words_refused : fault_of (line_of rows) [] ≢ []
  unfolding clap_on_literals
  no_words_refused h = cc h

  pub no_name_refused : (program : Text) → fault_of (line_of rows) (program ∷ []) ≢ []
  unfolding clap_on_literals
  no_name_refused program h = cc h
