-- What clap makes of words that don't begin with `-`, at a command with no subcommand: each goes to a positional argument.
use Rattle.std.proofs.Common.{◌≡◌, ℕ, List, [], ◌∷◌, None, false, true, Bool, ◌||◌, ◌==◌, refl, if◌then◌else◌}
use Rattle.std.specs.List.{list_any}
use Rattle.std.specs.Str.{bytes_eq}
use Rattle.clap.specs.Words.{Text, Rule}
use Rattle.clap.specs.Walk.{Held, Walk, idle, positional, value, word_met, walked, to_positional, arg_by_index}
use Rattle.clap.specs.Simple.{Shape}
use Rattle.clap.specs.Lexer.{strip_byte}
use Rattle.clap.specs.Faults.{turn_fault, step_fault}
use Rattle.command_words.specs.Invocations.{is_refused_word}

-- a word that is no flag, and isn't `--`
abbrev pub IsPlainWord : Text → Type 0
IsPlainWord w = (strip_byte 45 w ≡ None) × (bytes_eq w (45 ∷ 45 ∷ []) ≡ false)

abbrev pub ArePlain : List Text → Type 0
ArePlain [] = Unit {0}
ArePlain (w ∷ ws) = IsPlainWord w × ArePlain ws

pub either_false : (a b : Bool) → (a || b) ≡ false → (a ≡ false) × (b ≡ false)
either_false true b e = absurd (cc)
either_false false b e = (refl, e)

-- words that the program's own test lets through
pub plain_word : (w : Text) → is_refused_word w ≡ false → IsPlainWord w
plain_word [] e = absurd (cc)
plain_word (c ∷ cs) e = by (c == 45) refl
  where
    by : (b : Bool) → (c == 45) ≡ b → IsPlainWord (c ∷ cs)
    by true t = absurd (cc)
    by false t = (rw t refl, rw t refl)

pub plain_words : (ws : List Text) → list_any is_refused_word ws ≡ false → ArePlain ws
plain_words [] e = tt
plain_words (w ∷ ws) e =
    let both = either_false (is_refused_word w) (list_any is_refused_word ws) e in
    (plain_word w both.0, plain_words ws both.1)

-- where a walk stands that waits for no option's value: behind values of a positional that takes several, or not
abbrev pub at : Held → Bool → ℕ → Walk
at h m i = record { held = h; waiting = if m then positional else idle; position = i; is_trailing = false; stopped = None }

-- what one plain word comes to, whatever the rules
met : (rules : List Rule) (m : Bool) (i : ℕ) (w : Text) (h : Held) → IsPlainWord w → word_met rules [] false (if m then positional else idle) i w h ≡ (h, value)
met rules true i w h p = rw (p.1, p.0, p.0) refl
met rules false i w h p = rw (p.1, p.0, p.0) refl

pub walked_plain : (rules : List Rule) (m : Bool) (i : ℕ) (w : Text) (h : Held) → IsPlainWord w
    → walked rules [] (at h m i) w ≡ to_positional rules (arg_by_index rules i) w (at h m i) h
unfolding walked
walked_plain rules m i w h p = rw (met rules m i w h p) refl

pub turn_plain : (s : Shape) (m : Bool) (i : ℕ) (w : Text) (h : Held) → IsPlainWord w → turn_fault s [] (at h m i) w ≡ step_fault s i h value
turn_plain s true i w h p = rw (met s.rules true i w h p, p.1, p.0, p.0) refl
turn_plain s false i w h p = rw (met s.rules false i w h p, p.1, p.0, p.0) refl
