-- Texts that have a program, of which the law says that it is well-typed.
use Rattle.std.proofs.Common.{◌≡◌, ℕ, Bool, true, false, List, ◌++◌, refl}
use Rattle.std.specs.Prelude.{codes}
use Rattle.std.specs.Str.{is_utf8, chars}
use lib.Utf8.{encode}
use Rattle.core_terms.specs.Terms as tree
use Rattle.core_terms.specs.Typing.{is_typed, is_shaped}
use Rattle.auth_syntax.specs.Syntax.{Program}
use Rattle.auth_syntax.specs.Parsing.{Parsed, Tree, FirstFault, parsed}
use Rattle.auth_types.specs.CheckedPrograms.{Checked, IsProgram, FirstFault as CheckFault, checked}
use Rattle.auth_types.proofs.SoundPrograms.{parsed_is_typed}

-- a text has a tree, and the tree a program
abbrev gives_program : Checked → Bool
gives_program (IsProgram P) = true
gives_program (CheckFault kind line column) = false

abbrev passes : Parsed → Bool
passes (Tree program) = gives_program (checked program)
passes (FirstFault kind at) = false

-- the program of a text, which is well-typed
record HasTypedProgram (text : List ℕ) : Type 0 where
  program : Program
  P : tree.Program
  has_tree : parsed text ≡ Tree program
  has_program : checked program ≡ IsProgram P
  typed : is_typed P ≡ true
  shaped : is_shaped P ≡ true

by_law : (text : List ℕ) → passes (parsed text) ≡ true → HasTypedProgram text
by_law text passed = of_tree (parsed text) refl passed
  where
    of_program : (program : Program) (found : Checked) → parsed text ≡ Tree program → checked program ≡ found
        → gives_program found ≡ true → HasTypedProgram text
    of_program program (IsProgram P) tree given is =
        let (typed, shaped) = parsed_is_typed text program P tree given in
        record { program = program; P = P; has_tree = tree; has_program = given; typed = typed; shaped = shaped }
    of_program program (CheckFault kind line column) tree given is = absurd (cc)

    of_tree : (found : Parsed) → parsed text ≡ found → passes found ≡ true → HasTypedProgram text
    of_tree (Tree program) tree is = of_program program (checked program) tree refl is
    of_tree (FirstFault kind at) tree is = absurd (cc)

-- a list of named ints, newest first
abbrev ledger : List ℕ
ledger =
    codes "type list = Nil | Cons(text, int, auth list);\n"
    ++ codes "type found = Missing | Found(int);\n"
    ++ codes "state auth list;\n"
    ++ codes "fun look(l: auth list, name: text): found = match unauth(l) with | Nil -> Missing\n"
    ++ codes "  | Cons(n, v, rest) -> if teq(n, name) then Found(v) else look(rest, name) end;\n"
    ++ codes "init start(x: int): auth list = auth(Cons(\"first\", x, auth(Nil)));\n"
    ++ codes "query get(l: auth list, name: text): found = look(l, cat(name, \"\"));\n"
    ++ codes "update put(l: auth list, e: (text, int)): (auth list, int) = let v = add(snd(e), 1) in (auth(Cons(fst(e), v, l)), v);\n"

ledger_is_typed : HasTypedProgram ledger
unfolding checked is_utf8 chars encode
ledger_is_typed = by_law ledger refl
