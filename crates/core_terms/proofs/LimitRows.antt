-- Which values are within limits: of what is authenticated, of each of some values, and in a program's format. Which formats and names are
-- none, and what the limits of a program come to in numbers.
use Rattle.std.proofs.Common.{ℕ, ◌≤◌, ◌<◌, ◌≡◌, [], ◌∷◌, length, true, arith, None, false, unwrap_or}
use Rattle.std.specs.Prelude.{All, pos, replicate}
use Rattle.core_terms.specs.Types.{Table, BoolTy, IntTy, TextTy, PairTy, NamedTy, AuthTy}
use Rattle.core_terms.specs.Formats.{Format, IsFormat, first_format}
use Rattle.core_terms.specs.Names.{IsName}
use Rattle.core_terms.specs.Terms.{Function, Program}
use Rattle.core_terms.specs.ProgramSizes.{IsBodyWithin, IsFunctionWithin, IsWithinLimits, expressions_in_all, instructions_in_all, levels_of, levels_of_type, locals_in}
use Rattle.core_terms.specs.Values.{Value, BoolV, IntV, TextV, PairV, NoV, AndV, AreWithin, AuthWithin}
use Rattle.core_terms.specs.Projection.{AllFit, Fits}
use Rattle.core_terms.specs.FormatRows.{other_program}
use Rattle.core_terms.specs.ValueRows.{of_three, two_types}

-- texts of one byte and of 40
abbrev short : Value
short = TextV (0x61 ∷ [])

abbrev long : Value
long = TextV (replicate 40 0x61)

-- each authenticated value counts, wherever it stands; what isn't authenticated doesn't
authenticated_are_within : AuthWithin 5 two_types (PairTy (AuthTy BoolTy) (NamedTy 1)) (PairV (BoolV true) (of_three short))
authenticated_are_within =
    ((record { size_fits = omega arith; depth_fits = omega arith }, tt), (tt, (tt, ((record { size_fits = omega arith; depth_fits = omega arith }, tt), tt))))

first_is_beyond : AuthWithin 4 [] (PairTy (AuthTy TextTy) (AuthTy BoolTy)) (PairV short (BoolV true)) → ⊥
first_is_beyond h = let k : 5 ≤ 4 = h.0.0.size_fits in absurd (omega (arith, k))

second_is_beyond : AuthWithin 4 [] (PairTy (AuthTy BoolTy) (AuthTy TextTy)) (PairV (BoolV true) short) → ⊥
second_is_beyond h = let k : 5 ≤ 4 = h.1.0.size_fits in absurd (omega (arith, k))

inner_is_beyond : AuthWithin 32 [] (AuthTy (AuthTy TextTy)) long → ⊥
inner_is_beyond h = let k : 44 ≤ 32 = h.1.0.size_fits in absurd (omega (arith, k))

field_is_beyond : AuthWithin 4 two_types (NamedTy 1) (of_three short) → ⊥
field_is_beyond h = let k : 5 ≤ 4 = h.1.1.0.0.size_fits in absurd (omega (arith, k))

-- each of some values
all_are_within : AreWithin 8 [] (IntTy ∷ BoolTy ∷ []) (AndV (IntV (pos 5)) (AndV (BoolV true) NoV))
all_are_within = (record { size_fits = omega arith; depth_fits = omega arith }, (record { size_fits = omega arith; depth_fits = omega arith }, tt))

later_is_beyond : AreWithin 4 [] (BoolTy ∷ TextTy ∷ []) (AndV (BoolV true) (AndV short NoV)) → ⊥
later_is_beyond h = let k : 5 ≤ 4 = h.1.0.size_fits in absurd (omega (arith, k))

-- in a format of at most 9 bytes
nine_bytes_fit : Fits other_program (PairTy BoolTy IntTy) (PairV (BoolV true) (IntV (pos 5)))
nine_bytes_fit = record { size_fits = omega arith; depth_fits = omega arith }

ten_bytes_do_not : Fits other_program (PairTy (PairTy BoolTy BoolTy) IntTy) (PairV (PairV (BoolV true) (BoolV true)) (IntV (pos 5))) → ⊥
ten_bytes_do_not h = let k : 10 ≤ 9 = h.size_fits in absurd (omega (arith, k))

nor_in_a_row : AllFit other_program (BoolTy ∷ TextTy ∷ []) (AndV (BoolV true) (AndV long NoV)) → ⊥
nor_in_a_row h = let k : 44 ≤ 9 = h.1.0.size_fits in absurd (omega (arith, k))

-- no format: where a text literal is too long for a spelling, where a spelling is too long for a message, and where a ring's size has no field
abbrev of_limit : ℕ → Format
of_limit limit = record { digest = λ hash t bytes. hash bytes; print = λ hash t. None; limit = limit; magic = replicate 4 0; image_magic = replicate 4 0; most_kept = 0; arrays = false }

too_short_a_limit : IsFormat (of_limit 65535) → ⊥
too_short_a_limit h = let k : 65536 ≤ 65535 = h.limit_holds in absurd (omega (arith, k))

too_long_a_limit : IsFormat (of_limit 16777180) → ⊥
too_long_a_limit h = let k : 16777217 ≤ 16777216 = h.message_fits in absurd (omega (arith, k))

too_great_a_ring : IsFormat (first_format 65536) → ⊥
too_great_a_ring h = let k : 65536 < 65536 = h.kept_fits in absurd (omega (arith, k))

-- names: of one byte and of 64
one_byte_is_a_name : IsName (0x61 ∷ [])
one_byte_is_a_name = (omega arith, omega arith)

sixty_four_are_a_name : IsName (replicate 64 0x61)
sixty_four_are_a_name = (omega arith, omega arith)

no_byte_is_no_name : IsName [] → ⊥
no_byte_is_no_name h = let k : 1 ≤ 0 = h.0 in absurd (omega (arith, k))

sixty_five_are_no_name : IsName (replicate 65 0x61) → ⊥
sixty_five_are_no_name h = let k : 65 ≤ 64 = h.1 in absurd (omega (arith, k))

-- the limits of a function by itself, and of a program
limits_of_a_function : (g : Function) → IsFunctionWithin g → (1 ≤ length g.name) × (length g.name ≤ 64) × (length g.parameters ≤ 8)
limits_of_a_function g h = (h.name.0, h.name.1, h.parameters)

limits_of_a_body : (types : Table) (g : Function) → IsBodyWithin types g
    → All (λ t. levels_of_type t ≤ 100) g.parameters × (levels_of_type g.result ≤ 100) × (locals_in types (length g.parameters) g.body ≤ 255) × (levels_of g.body ≤ 100)
limits_of_a_body types g h = (h.parameter_types, h.result_type, h.locals, h.levels)

limits_of_a_program : (P : Program) → IsWithinLimits P
    → (length P.types ≤ 256) × All (λ constructors. length constructors ≤ 255) P.types × All (All (λ fields. length fields ≤ 8)) P.types
    × (length P.functions ≤ 1024) × All IsFunctionWithin P.functions × (instructions_in_all (unwrap_or P.code []) ≤ 4194304)
limits_of_a_program P h = (h.types, h.constructors, h.fields, h.functions, h.each, h.short)

limits_of_what_is_written : (P : Program) → IsWithinLimits P → P.code ≡ None
    → All (All (All (λ t. levels_of_type t ≤ 100))) P.types × (levels_of_type P.state ≤ 100) × All (IsBodyWithin P.types) P.functions × (expressions_in_all P.functions ≤ 262144)
limits_of_what_is_written P h is = let w = h.written is in (w.field_types, w.state_type, w.bodies, w.expressions)
