-- The laws that say which trees pass, and what a fault that is told says.
use Rattle.std.specs.Prelude.{◌≡◌, ◌↔◌, ℕ, List, length, map}
use Rattle.core_terms.specs.Types.{Ty}
use Rattle.core_terms.specs.Terms.{Expression}
use Rattle.core_terms.specs.Terms as tree
use Rattle.auth_syntax.specs.Syntax.{ExpSyntax, Program}
use Rattle.lexemes.specs.declared.place.Place.{Place}
use Rattle.declared_types.specs.Checking.{Sound, FaultAt}
use Rattle.auth_types.specs.Bodies.{Local, elaborated}
use Rattle.declared_types.specs.Signatures.{Scope}
use Rattle.auth_types.specs.TypingRules.{Elaborates}
use Rattle.auth_types.specs.BrokenRules.{Breaks}
use Rattle.auth_types.specs.CheckedPrograms.{FirstFault, IsProgram, checked}
use Rattle.auth_types.specs.ProgramRules.{BreaksProgram, Denotes}
use Rattle.declared_types.specs.declared.fault.TypeKind.{TypeKind}

-- each constructor of a scope has its name and its fields
abbrev pub IsWhole : Scope → Type 0
IsWhole scope = map length scope.constructors ≡ map length scope.table

-- An expression passes exactly where the typing rules give it a meaning and a type.
abbrev pub PassesByTheRules : Type 0
PassesByTheRules =
    (scope : Scope) → IsWhole scope → (locals : List Local) (tree : ExpSyntax) (e : Expression) (t : Ty)
    → (elaborated scope locals tree ≡ Sound (record { expression = e; of_type = t })) ↔ Elaborates scope locals tree e t

-- A fault is told of an expression exactly where that rule is broken at that place, and what is judged before has its type.
abbrev pub TellsWhatBreaks : Type 0
TellsWhatBreaks =
    (scope : Scope) → IsWhole scope → (locals : List Local) (tree : ExpSyntax) (kind : TypeKind) (at : Place)
    → (elaborated scope locals tree ≡ FaultAt kind at) ↔ Breaks scope locals tree kind at

-- A tree passes exactly where it stands for a program.
abbrev pub DenotesWhatPasses : Type 0
DenotesWhatPasses = (program : Program) (P : tree.Program) → (checked program ≡ IsProgram P) ↔ Denotes program P

-- A fault is told of a tree exactly where it is the first of the first pass that has one: at a place of this line and column.
abbrev pub TellsTheFirst : Type 0
TellsTheFirst =
    (program : Program) (kind : TypeKind) (line column : ℕ)
    → (checked program ≡ FirstFault kind line column) ↔ ((at : Place) × (at.line ≡ line) × (at.column ≡ column) × BreaksProgram program kind at)
