-- Programs whose types an object can list: the named ones among them are all there, and there is no array.
use Rattle.std.specs.Prelude.{ℕ, ◌<◌, List, [], ◌∷◌, length}
use Rattle.core_terms.specs.Types.{Ty, PairTy, NamedTy, AuthTy, VecTy, Table}
use Rattle.core_terms.specs.Terms.{Program}
use Rattle.core_terms.specs.Instructions.{Instruction, Make, Switch, Auth, Unauth, VecFill, VecGet, VecPut}
use Rattle.core_terms.specs.Bodies.{FunctionCode}
use Rattle.object_meaning.specs.WrittenObjects.{codes_in}

-- the named types in a type are among so many, and no array stands in it
abbrev pub IsClosed : ℕ → Ty → Type 0
IsClosed n (PairTy a b) = IsClosed n a × IsClosed n b
IsClosed n (NamedTy number) = number < n
IsClosed n (AuthTy t) = IsClosed n t
IsClosed n (VecTy m t) = ⊥
IsClosed n t = Unit {0}

abbrev pub AreClosed : ℕ → List Ty → Type 0
AreClosed n [] = Unit {0}
AreClosed n (t ∷ ts) = IsClosed n t × AreClosed n ts

abbrev pub FieldsAreClosed : ℕ → List (List Ty) → Type 0
FieldsAreClosed n [] = Unit {0}
FieldsAreClosed n (ts ∷ cs) = AreClosed n ts × FieldsAreClosed n cs

abbrev pub TableIsClosed : ℕ → Table → Type 0
TableIsClosed n [] = Unit {0}
TableIsClosed n (cs ∷ types) = FieldsAreClosed n cs × TableIsClosed n types

-- so it is of what an instruction names, and it is none of arrays
abbrev pub IsClosedAt : ℕ → Instruction → Type 0
IsClosedAt n (Make number tag) = number < n
IsClosedAt n (Switch number places) = number < n
IsClosedAt n (Auth t) = IsClosed n t
IsClosedAt n (Unauth t) = IsClosed n t
IsClosedAt n (VecFill m) = ⊥
IsClosedAt n VecGet = ⊥
IsClosedAt n VecPut = ⊥
IsClosedAt n i = Unit {0}

abbrev pub CodeIsClosed : ℕ → List Instruction → Type 0
CodeIsClosed n [] = Unit {0}
CodeIsClosed n (i ∷ is) = IsClosedAt n i × CodeIsClosed n is

pub record FunctionIsClosed (n : ℕ) (g : FunctionCode) : Type 0 where
  pub parameters : AreClosed n g.parameters
  pub result : IsClosed n g.result
  pub code : CodeIsClosed n g.code

abbrev pub FunctionsAreClosed : ℕ → List FunctionCode → Type 0
FunctionsAreClosed n [] = Unit {0}
FunctionsAreClosed n (g ∷ gs) = FunctionIsClosed n g × FunctionsAreClosed n gs

-- The named types that stand in a program's fields, state, parameters, results and code are among its own, and no array stands there.
pub record IsClosedProgram (P : Program) : Type 0 where
  pub fields : TableIsClosed (length P.types) P.types
  pub state : IsClosed (length P.types) P.state
  pub functions : FunctionsAreClosed (length P.types) (codes_in P)
