-- Names, expressions and programs at their limits, and the limits of calls and files. Each equation holds by computing both sides.
use Rattle.std.specs.Prelude.{◌≡◌, ℕ, zero, suc, true, false, List, [], ◌∷◌, map, nat_le, refl}
use Rattle.core_terms.specs.Types.{UnitTy, IntTy, BoolTy, PairTy, AuthTy, NamedTy, Table}
use Rattle.core_terms.specs.Terms.{Expression, UnitE, BoolE, LocalE, PairE, FstE, SndE, NotE, LenE, AuthE, UnauthE, ConE, ArithE, CompareE, TextCompareE, CatE, LetE, IfE, MatchE, CallE, NoE, AndE, NoArm, AndArm, Function, Inner}
use Rattle.core_terms.specs.declared.term.Arith.TheVariants.{Add}
use Rattle.core_terms.specs.declared.term.Compare.TheVariants.{Lt}
use Rattle.core_terms.specs.declared.term.TextCompare.TheVariants.{Lt as TLt}
use Rattle.core_terms.specs.Limits.{most_file_bytes, most_fuel, most_program_bytes}
use Rattle.core_terms.specs.ProgramLimits.{longest_name, most_constructors, most_expressions, most_fields, most_functions, most_levels, most_locals, most_parameters, most_types}
use Rattle.core_terms.specs.ProgramSizes.{expressions_in, expressions_in_all, levels_of, levels_of_type, locals_in}

-- so many negations, one of another
abbrev pub negations : ℕ → Expression
negations zero = BoolE true
negations (suc n) = NotE (negations n)

pub a_hundred_levels : (levels_of (negations 99) ≡ 100) × (nat_le (levels_of (negations 99)) most_levels ≡ true)
a_hundred_levels = (refl, refl)

pub a_hundred_and_one_levels : nat_le (levels_of (negations 100)) most_levels ≡ false
a_hundred_and_one_levels = refl

pub a_hundred_expressions : expressions_in (negations 99) ≡ 100
a_hundred_expressions = refl

-- each part counts, and so does what stands around the parts
pub parts_of_a_condition : (expressions_in (IfE (NotE (BoolE true)) UnitE (NotE (NotE UnitE))) ≡ 7) × (levels_of (IfE (NotE (BoolE true)) UnitE (NotE (NotE UnitE))) ≡ 4)
parts_of_a_condition = (refl, refl)

pub parts_of_a_call : (expressions_in (CallE 0 (AndE UnitE (AndE (NotE UnitE) NoE))) ≡ 4) × (levels_of (CallE 0 (AndE UnitE (AndE (NotE UnitE) NoE))) ≡ 3)
parts_of_a_call = (refl, refl)

pub a_constructor_without_fields : (expressions_in (ConE 0 0 NoE) ≡ 1) × (levels_of (ConE 0 0 NoE) ≡ 1)
a_constructor_without_fields = (refl, refl)

-- a type with a constructor of two fields, and one of none
abbrev pub two_constructors : Table
two_constructors = ((IntTy ∷ IntTy ∷ []) ∷ [] ∷ []) ∷ []

-- A `let` binds one more in its body alone, and an arm two more where its constructor has two fields.
pub locals_of_a_let : (locals_in two_constructors 254 (LetE BoolTy UnitE (LocalE 0)) ≡ 255) × (locals_in two_constructors 3 (LetE BoolTy (LetE BoolTy UnitE UnitE) UnitE) ≡ 4)
locals_of_a_let = (refl, refl)

pub locals_of_arms : locals_in two_constructors 254 (MatchE 0 UnitE (AndArm UnitE (AndArm UnitE NoArm))) ≡ 256
locals_of_arms = refl

pub locals_too_many : nat_le (locals_in two_constructors 254 (MatchE 0 UnitE (AndArm UnitE (AndArm UnitE NoArm)))) most_locals ≡ false
locals_too_many = refl

pub levels_of_types : (levels_of_type IntTy ≡ 1) × (levels_of_type (PairTy (AuthTy (AuthTy IntTy)) IntTy) ≡ 4)
levels_of_types = (refl, refl)

pub levels_of_other_types : (levels_of_type (PairTy IntTy (PairTy IntTy IntTy)) ≡ 3) × (levels_of_type (AuthTy (NamedTy 0)) ≡ 2)
levels_of_other_types = (refl, refl)

-- the limits themselves
pub limits_of_programs : (most_types ≡ 256) × (most_constructors ≡ 255) × (most_fields ≡ 8) × (most_functions ≡ 1024) × (most_parameters ≡ 8)
limits_of_programs = (refl, refl, refl, refl, refl)

pub limits_of_bodies : (most_locals ≡ 255) × (most_levels ≡ 100) × (most_expressions ≡ 262144) × (longest_name ≡ 64)
limits_of_bodies = (refl, refl, refl, refl)

pub limits_of_calls_and_files : (most_fuel ≡ 1000000000000) × (most_file_bytes ≡ 67108864) × (most_program_bytes ≡ 262144)
limits_of_calls_and_files = (refl, refl, refl)

-- Each form that has parts, with these two.
abbrev pub forms : Expression → Expression → List Expression
forms x y =
    PairE UnitTy UnitTy x y ∷ FstE UnitTy UnitTy x ∷ SndE UnitTy UnitTy x ∷ NotE x ∷ LenE x ∷ AuthE UnitTy x ∷ UnauthE UnitTy x
    ∷ ConE 0 0 (AndE x (AndE y NoE)) ∷ ArithE Add x y ∷ CompareE Lt x y ∷ TextCompareE TLt x y ∷ CatE x y
    ∷ LetE UnitTy x y ∷ IfE x y UnitE ∷ IfE UnitE x y ∷ MatchE 0 x (AndArm y (AndArm UnitE NoArm)) ∷ MatchE 0 UnitE (AndArm x (AndArm y NoArm))
    ∷ CallE 0 (AndE x (AndE y NoE)) ∷ []

pub expressions_of_forms : map expressions_in (forms (negations 1) (negations 2))
    ≡ 6 ∷ 3 ∷ 3 ∷ 3 ∷ 3 ∷ 3 ∷ 3 ∷ 6 ∷ 6 ∷ 6 ∷ 6 ∷ 6 ∷ 6 ∷ 7 ∷ 7 ∷ 7 ∷ 7 ∷ 6 ∷ []
expressions_of_forms = refl

-- the deeper part counts, whichever it is
pub levels_of_forms : map levels_of (forms (negations 1) (negations 2)) ≡ 4 ∷ 3 ∷ 3 ∷ 3 ∷ 3 ∷ 3 ∷ 3 ∷ 4 ∷ 4 ∷ 4 ∷ 4 ∷ 4 ∷ 4 ∷ 4 ∷ 4 ∷ 4 ∷ 4 ∷ 4 ∷ []
levels_of_forms = refl

pub levels_of_turned_forms : map levels_of (forms (negations 2) (negations 1)) ≡ 4 ∷ 4 ∷ 4 ∷ 4 ∷ 4 ∷ 4 ∷ 4 ∷ 4 ∷ 4 ∷ 4 ∷ 4 ∷ 4 ∷ 4 ∷ 4 ∷ 4 ∷ 4 ∷ 4 ∷ 4 ∷ []
levels_of_turned_forms = refl

-- an expression that binds one local, and one that binds two
abbrev pub bind_one : Expression
bind_one = LetE UnitTy UnitE UnitE

abbrev pub bind_two : Expression
bind_two = LetE UnitTy UnitE bind_one

-- the part with more locals counts, whichever it is; those of a `let` and of an arm come to what is bound in their bodies
pub locals_of_forms : map (locals_in two_constructors 0) (forms bind_one bind_two) ≡ 2 ∷ 1 ∷ 1 ∷ 1 ∷ 1 ∷ 1 ∷ 1 ∷ 2 ∷ 2 ∷ 2 ∷ 2 ∷ 2 ∷ 3 ∷ 2 ∷ 2 ∷ 4 ∷ 3 ∷ 2 ∷ []
locals_of_forms = refl

pub locals_of_turned_forms : map (locals_in two_constructors 0) (forms bind_two bind_one) ≡ 2 ∷ 2 ∷ 2 ∷ 2 ∷ 2 ∷ 2 ∷ 2 ∷ 2 ∷ 2 ∷ 2 ∷ 2 ∷ 2 ∷ 2 ∷ 2 ∷ 2 ∷ 3 ∷ 4 ∷ 2 ∷ []
locals_of_turned_forms = refl

pub of_a_leaf : (expressions_in (LocalE 3) ≡ 1) × (levels_of (LocalE 3) ≡ 1) × (locals_in two_constructors 5 (LocalE 3) ≡ 5)
of_a_leaf = (refl, refl, refl)

-- all bodies of a program count together
abbrev pub with_body : Expression → Function
with_body body = record { name = []; kind = Inner; parameters = []; result = UnitTy; body = body }

pub expressions_of_bodies : expressions_in_all (with_body (negations 2) ∷ with_body (negations 1) ∷ []) ≡ 5
expressions_of_bodies = refl
