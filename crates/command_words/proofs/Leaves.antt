-- The commands of a line as clap builds them, and how it finds one by its name.
use Rattle.std.proofs.Common.{◌≡◌, ℕ, List, [], ◌∷◌, ◌++◌, map, max, length, Option, Some, None, Bool, true, false, ◌||◌, refl, sym, ◌∙◌, ap, codes, find, if◌then◌else◌, option_map}
use Rattle.std.specs.Str.{bytes_eq}
use Rattle.clap.specs.Words.{App, Rule, Text, built, new_app, new_rule, with_rule}
use Rattle.clap.specs.Walk.{Names, answers_to, idle, subcommand_met}
use Rattle.clap.specs.Simple.{Shape, built_leaf, help_shape, inherited, label_of, marked_built, names_of, on_top, with_leaf_noted}
use Rattle.clap.proofs.WalkLemmas.{find-map}
use Rattle.command_words.specs.CommandLine.{command, naming_one}
use Rattle.command_words.specs.Commands.{Row}

-- the command line of these rows
abbrev pub line_of : List Row → App
line_of rows = record { top = record naming_one.top { is_leaf = false }; subs = map (λ row. (command row).top) rows }

abbrev pub line : List Row → App
line rows = built (line_of rows)

abbrev pub names : List Row → Names
names rows = names_of (line rows)

-- the one of this name
abbrev pub row_in : List Row → Text → Option Row
row_in rows name = find (λ row. bytes_eq row.name name) rows

-- the argument of a command with n names of arguments that takes from `least` to `most` texts
abbrev pub text_argument : (least most n : ℕ) → Rule
text_argument least most n = record (new_rule (codes "ARGUMENTS")) {
  required = true;
  range = Some (record { start_inclusive = least; end_inclusive = most });
  value_names = n;
}

-- a command of this name with such an argument, as built
abbrev pub leaf : Text → (least most n : ℕ) → Shape
leaf name least most n =
    built_leaf (inherited (on_top with_leaf_noted (on_top marked_built (line_of []))).top (with_rule (new_app name) (text_argument least most n)).top)

-- the most texts of a row's command, as clap counts them
abbrev pub most_of : Row → ℕ
most_of row = max (length row.arguments) row.least

abbrev pub leaf_of : Row → Shape
leaf_of row = leaf row.name row.least (most_of row) (length row.arguments)

leaves : (rows : List Row) → (line rows).subs ≡ map leaf_of rows ++ built_leaf help_shape ∷ []
leaves [] = refl
leaves (row ∷ rows) = ap (λ ss. leaf_of row ∷ ss) (leaves rows)

-- a name other than `help` is that of a row's command, or of none
by_name : (name : Text) → bytes_eq (codes "help") name ≡ false → (rows : List Row)
    → find (λ s. answers_to name (label_of s)) (map leaf_of rows ++ built_leaf help_shape ∷ []) ≡ option_map leaf_of (row_in rows name)
by_name name other [] = rw other refl
by_name name other (row ∷ rows) = go (bytes_eq row.name name) (by_name name other rows)
  where
    others : Option Shape
    others = find (λ s. answers_to name (label_of s)) (map leaf_of rows ++ built_leaf help_shape ∷ [])

    go : (b : Bool) → others ≡ option_map leaf_of (row_in rows name)
        → (if b || false then Some (leaf_of row) else others) ≡ option_map leaf_of (if b then Some row else row_in rows name)
    go true rest = refl
    go false rest = rest

pub finds : (rows : List Row) (name : Text) → bytes_eq (codes "help") name ≡ false
    → find (λ s. answers_to name (label_of s)) (line rows).subs ≡ option_map leaf_of (row_in rows name)
finds rows name other = ap (find (λ s. answers_to name (label_of s))) (leaves rows) ∙ by_name name other rows

pub meets : (rows : List Row) (name : Text) → bytes_eq (codes "help") name ≡ false
    → subcommand_met (names rows) idle name ≡ option_map (λ row. row.name) (row_in rows name)
meets rows name other =
    ap (option_map (λ s. s.0)) (sym (find-map (answers_to name) label_of (line rows).subs) ∙ ap (option_map label_of) (finds rows name other)) ∙ named (row_in rows name)
  where
    named : (o : Option Row) → option_map (λ s. s.0) (option_map label_of (option_map leaf_of o)) ≡ option_map (λ row. row.name) o
    named None = refl
    named (Some row) = refl
