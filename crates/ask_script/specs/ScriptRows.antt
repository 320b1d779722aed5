-- Scripts of a small program, computed.
use Rattle.std.specs.Prelude.{◌≡◌, ℕ, List, [], ◌∷◌, ◌++◌, codes, refl}
use Rattle.std.specs.Str.{is_utf8, chars}
use lib.Utf8.{encode}
use Rattle.core_terms.specs.Formats.{first_format}
use Rattle.core_terms.specs.Terms.{Program}
use Rattle.core_terms.specs.RoleRows.{five}
use Rattle.printed_syntax.specs.Literals.{ConstructorNames}
use Rattle.ask_script.specs.Scripts.{Script, Steps, FaultyLine, Opens, Calls, Goes, Closes, script_of}

-- the roles of the program are the init `make` of ints, the query `ask` of texts and the update `put` of units
P : Program
P = record five { format = first_format 1024 }

names : ConstructorNames
names number = []

line : List ℕ → Script
line text = script_of P names text

with_next : List ℕ → List ℕ → List ℕ
with_next text behind = text ++ 10 ∷ behind

-- the forms, and the greatest numbers; the argument may hold blanks, and a text is spelled with its length first
opens : line (codes "open 65535 1024") ≡ Steps (Opens 65535 1024 ∷ [])
unfolding line P names is_utf8 chars encode
opens = refl

asks : line (codes "call 1 ask 1000000000000  \"a b\" ") ≡ Steps (Calls 1 1 1000000000000 (0 ∷ 0 ∷ 0 ∷ 3 ∷ codes "a b") ∷ [])
unfolding line P names is_utf8 chars encode
asks = refl

puts : line (codes "call 07 put 0 ()") ≡ Steps (Calls 7 2 0 [] ∷ [])
unfolding line P names is_utf8 chars encode
puts = refl

-- lines in order, blank ones skipped, the last one with its end or without
in_order : line (with_next (codes "open 1 0") (with_next [] (with_next (32 ∷ 9 ∷ 13 ∷ []) (with_next (codes "go") (codes "close 1"))))) ≡ Steps (Opens 1 0 ∷ Goes ∷ Closes 1 ∷ [])
unfolding line with_next P names is_utf8 chars encode
in_order = refl

ended : line (with_next (codes "go") []) ≡ Steps (Goes ∷ [])
unfolding line with_next P names is_utf8 chars encode
ended = refl

nothing : line [] ≡ Steps []
unfolding line
nothing = refl

-- the first line at fault is told, and blank lines count
third : line (with_next (codes "go") (with_next [] (with_next (codes "went") (codes "gone")))) ≡ FaultyLine 3
unfolding line with_next P names is_utf8 chars encode
third = refl

-- faults of one line: two blanks between words, numbers that are too small or too great, a role that is none, an init, and a literal
abbrev Fails : List ℕ → Type 0
Fails text = line text ≡ FaultyLine 1

two_blanks : Fails (codes "open  1 5")
unfolding line P names is_utf8 chars encode
two_blanks = refl

blank_behind : Fails (codes "go ")
unfolding line P names is_utf8 chars encode
blank_behind = refl

session_zero : Fails (codes "open 0 0")
unfolding line P names is_utf8 chars encode
session_zero = refl

session_great : Fails (codes "close 65536")
unfolding line P names is_utf8 chars encode
session_great = refl

pieces_great : Fails (codes "open 1 1025")
unfolding line P names is_utf8 chars encode
pieces_great = refl

fuel_great : Fails (codes "call 1 put 1000000000001 ()")
unfolding line P names is_utf8 chars encode
fuel_great = refl

no_role : Fails (codes "call 1 help 5 ()")
unfolding line P names is_utf8 chars encode
no_role = refl

init : Fails (codes "call 1 make 5 7")
unfolding line P names is_utf8 chars encode
init = refl

no_literal : Fails (codes "call 1 put 5 (")
unfolding line P names is_utf8 chars encode
no_literal = refl

no_argument : Fails (codes "call 1 put 5")
unfolding line P names is_utf8 chars encode
no_argument = refl

-- a byte of no UTF-8, in a comment behind the literal too
no_text : Fails (codes "call 1 put 5 () #" ++ 0xFF ∷ [])
unfolding line P names is_utf8 chars encode
no_text = refl
