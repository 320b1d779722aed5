-- What an operand stands for: a value of a type.
use Rattle.std.specs.Prelude.{◌≡◌, List, [], ◌∷◌, map}
use Rattle.core_terms.specs.Types.{Ty, UnitTy, BoolTy, IntTy, Table}
use Rattle.core_terms.specs.Values.{Value, UnitV, BoolV, IntV, Values, NoV, AndV}
use Rattle.value_store.specs.Nodes.{Node}
use Rattle.value_store.specs.Standing.{Kind, StandsFor}
use Rattle.value_store.specs.declared.node.Ref.{Ref}
use Rattle.mode_vm.specs.declared.operand.Operand.{Operand}
use Rattle.mode_vm.specs.declared.operand.Operand.TheVariants.{Unit as UnitIn, Bool as BoolIn, Int as IntIn, At}

module _ (kind : Kind) (types : Table) (nodes : List Node) where
  -- a scalar is the value itself, and any other operand is the node that stands for it
  abbrev pub IsHeld : Operand → Ty → Value → Type 0
  IsHeld (At r) t v = StandsFor kind types nodes r.0 t v
  IsHeld UnitIn UnitTy UnitV = Unit {0}
  IsHeld (BoolIn b) BoolTy (BoolV c) = b ≡ c
  IsHeld (IntIn z) IntTy (IntV y) = z ≡ y
  IsHeld o t v = ⊥

  abbrev pub AllHeld : List Operand → List Ty → Values → Type 0
  AllHeld [] [] NoV = Unit {0}
  AllHeld (o ∷ os) (t ∷ ts) (AndV v vs) = IsHeld o t v × AllHeld os ts vs
  AllHeld os ts vs = ⊥

-- nodes as operands
abbrev pub all_at : List Ref → List Operand
all_at = map At
