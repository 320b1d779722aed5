-- What the limits of a tree count, computed on texts.
use Rattle.std.proofs.Common.{◌≡◌, refl}
use Rattle.std.specs.Prelude.{ℕ, List, [], ◌∷◌, ◌++◌, map, codes}
use Rattle.std.specs.Str.{is_utf8, chars}
use lib.Utf8.{encode}
use Rattle.auth_syntax.specs.Syntax.{DeclarationSyntax}
use Rattle.auth_syntax.specs.Grammar.{type_levels, expression_levels}
use Rattle.auth_syntax.specs.Parsing.{Parsed, Tree, FirstFault, parsed}
use Rattle.auth_syntax.specs.TreeLimits.{names_in_program, texts_in_program, types_in_program, bodies_in_program, expressions_in_program}
use Rattle.auth_syntax.proofs.GrammarRows.{repeated}

-- the declarations of a text, where it is a program
abbrev declarations_of : Parsed → List DeclarationSyntax
declarations_of (Tree program) = program.declarations
declarations_of (FirstFault kind at) = []

abbrev read : List ℕ → List DeclarationSyntax
read text = declarations_of (parsed text)

-- a type and a function with some of each
abbrev sample : List ℕ
sample = codes "type t = A | B(u, int); fun f(x: (t, v)): auth w = let y = g(x, 1) in match y with | A -> fst((\"a\", \"\")) | B(p, q) -> C(p, ()) end;"

names : names_in_program (read sample)
    ≡ codes "t" ∷ codes "A" ∷ codes "B" ∷ codes "u" ∷ codes "f" ∷ codes "x" ∷ codes "t" ∷ codes "v" ∷ codes "w" ∷ codes "y" ∷ codes "g" ∷ codes "x"
    ∷ codes "y" ∷ codes "A" ∷ codes "B" ∷ codes "p" ∷ codes "q" ∷ codes "C" ∷ codes "p" ∷ []
unfolding is_utf8 chars encode
names = refl

texts : texts_in_program (read sample) ≡ codes "a" ∷ [] ∷ []
unfolding is_utf8 chars encode
texts = refl

-- the `let`, the call and its two arguments, the `match` and its subject; `fst`, the pair and two texts; `C`, a local and `()`
expressions : expressions_in_program (read sample) ≡ 13
unfolding is_utf8 chars encode
expressions = refl

levels : map expression_levels (bodies_in_program (read sample)) ≡ 5 ∷ []
unfolding is_utf8 chars encode
levels = refl

levels_of_types : map type_levels (types_in_program (read sample)) ≡ 1 ∷ 1 ∷ 2 ∷ 2 ∷ []
unfolding is_utf8 chars encode
levels_of_types = refl

-- arrays: what is told of the format is no name of the program
abbrev arrays : List DeclarationSyntax
arrays = read (codes "format 2; state vec[2] t; query f(x: vec[3] u): int = vget(vfill[4](g(x)), 1);")

array_names : names_in_program arrays ≡ codes "t" ∷ codes "f" ∷ codes "x" ∷ codes "u" ∷ codes "g" ∷ codes "x" ∷ []
array_names = refl

array_expressions : expressions_in_program arrays ≡ 5
array_expressions = refl

array_levels : map expression_levels (bodies_in_program arrays) ≡ 4 ∷ []
array_levels = refl

array_levels_of_types : map type_levels (types_in_program arrays) ≡ 2 ∷ 2 ∷ 1 ∷ []
array_levels_of_types = refl

-- as far nested as they may be
deepest : List DeclarationSyntax
deepest = read (codes "fun f(x: " ++ repeated 99 (codes "auth ") ++ codes "int): int = " ++ repeated 99 (codes "not(") ++ codes "x" ++ repeated 99 (codes ")") ++ codes ";")

deepest_body : map expression_levels (bodies_in_program deepest) ≡ 100 ∷ []
unfolding deepest
deepest_body = refl

deepest_expressions : expressions_in_program deepest ≡ 100
unfolding deepest
deepest_expressions = refl

deepest_type : map type_levels (types_in_program deepest) ≡ 100 ∷ 1 ∷ []
unfolding deepest
deepest_type = refl
