-- What an operand of a scalar type is, whatever holds it; and which operands are nodes.
use Rattle.std.proofs.Common.{◌≡◌, ℕ, ℤ, Bool, List, refl}
use Rattle.core_terms.specs.Types.{Ty, BoolTy, IntTy, TextTy, PairTy, NamedTy, AuthTy, VecTy, Table}
use Rattle.core_terms.specs.Values.{Value, Values, BoolV, IntV, TextV, PairV, ItemsV}
use Rattle.value_store.specs.Nodes.{Node}
use Rattle.value_store.specs.Standing.{Kind, StandsFor}
use Rattle.value_store.specs.declared.node.Ref.{Ref}
use Rattle.mode_vm.specs.Operands.{IsHeld}
use Rattle.mode_vm.specs.declared.operand.Operand.{Operand}
use Rattle.mode_vm.specs.declared.operand.Operand.TheVariants.{Bool as BoolIn, Int as IntIn, At}

module _ (kind : Kind) (types : Table) (nodes : List Node) where
  pub on_int : (Q : Value → Type 0) → ((z : ℤ) → Q (IntV z)) → (o : Operand) (v : Value) → IsHeld kind types nodes o IntTy v → Q v
  on_int Q q (IntIn z) (IntV y) h = q y
  on_int Q q (At r) (IntV y) h = q y
  on_int Q q (At r) v h = elim h [ ]
  on_int Q q o v h = elim h [ ]

  pub on_bool : (Q : Value → Type 0) → ((b : Bool) → Q (BoolV b)) → (o : Operand) (v : Value) → IsHeld kind types nodes o BoolTy v → Q v
  on_bool Q q (BoolIn b) (BoolV c) h = q c
  on_bool Q q (At r) (BoolV c) h = q c
  on_bool Q q (At r) v h = elim h [ ]
  on_bool Q q o v h = elim h [ ]

  pub on_text : (Q : Value → Type 0) → ((bytes : List ℕ) → Q (TextV bytes)) → (o : Operand) (v : Value) → IsHeld kind types nodes o TextTy v → Q v
  on_text Q q (At r) (TextV bytes) h = q bytes
  on_text Q q (At r) v h = elim h [ ]
  on_text Q q o v h = elim h [ ]

  pub on_pair : (Q : Value → Type 0) → ((x y : Value) → Q (PairV x y)) → (a b : Ty) (o : Operand) (v : Value) → IsHeld kind types nodes o (PairTy a b) v → Q v
  on_pair Q q a b (At r) (PairV x y) h = q x y
  on_pair Q q a b (At r) v h = elim h [ ]
  on_pair Q q a b o v h = elim h [ ]

  pub on_items : (Q : Value → Type 0) → ((vs : Values) → Q (ItemsV vs)) → (n : ℕ) (t : Ty) (o : Operand) (v : Value) → IsHeld kind types nodes o (VecTy n t) v → Q v
  on_items Q q n t (At r) (ItemsV vs) h = q vs
  on_items Q q n t (At r) v h = elim h [ ]
  on_items Q q n t o v h = elim h [ ]

  -- the node of an operand
  abbrev pub IsNode : Operand → Ty → Value → Type 0
  IsNode o t v = (r : Ref) × (o ≡ At r) × StandsFor kind types nodes r.0 t v

  pub pair_node : (a b : Ty) (o : Operand) (v : Value) → IsHeld kind types nodes o (PairTy a b) v → IsNode o (PairTy a b) v
  pair_node a b (At r) v h = (r, refl, h)
  pair_node a b o v h = elim h [ ]

  pub named_node : (n : ℕ) (o : Operand) (v : Value) → IsHeld kind types nodes o (NamedTy n) v → IsNode o (NamedTy n) v
  named_node n (At r) v h = (r, refl, h)
  named_node n o v h = elim h [ ]

  pub auth_node : (t : Ty) (o : Operand) (v : Value) → IsHeld kind types nodes o (AuthTy t) v → IsNode o (AuthTy t) v
  auth_node t (At r) v h = (r, refl, h)
  auth_node t o v h = elim h [ ]

  pub vec_node : (n : ℕ) (t : Ty) (o : Operand) (v : Value) → IsHeld kind types nodes o (VecTy n t) v → IsNode o (VecTy n t) v
  vec_node n t (At r) v h = (r, refl, h)
  vec_node n t o v h = elim h [ ]
