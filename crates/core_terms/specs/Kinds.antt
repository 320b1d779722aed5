-- The kinds of code: at each instruction the types of the locals and of the operands are known, or the instruction is at fault. Instructions are
-- gone over once, in their order, since jumps go forward alone.
use Rattle.std.specs.Prelude.{ℕ, zero, suc, ◌-◌, Bool, true, false, ◌&&◌, List, [], ◌∷◌, ◌++◌, length, map, take, nat_eq, nat_le, nat_lt, Option, Some, None, option_map, slice_get, unwrap_or, if◌then◌else◌}
use Rattle.std.specs.Option.{option_and_then, is_none}
use Rattle.std.specs.List.{list_all}
use Rattle.std.specs.Str.{is_utf8}
use Rattle.core_terms.specs.Types.{Ty, UnitTy, BoolTy, IntTy, TextTy, PairTy, NamedTy, AuthTy, VecTy, fields_at, is_length, same_type}
use Rattle.core_terms.specs.ProgramLimits.{most_locals}
use Rattle.core_terms.specs.Values.{int_fits}
use Rattle.core_terms.specs.Instructions.{Instruction, PushUnit, PushBool, PushInt, PushText, Load, Bind, Unbind, Pair, Fst, Snd, Make, Switch, Branch, Jump, Call, Return, Auth, Unauth, ArithOp, CompareOp, TextCompareOp, Cat, Len, Not, VecFill, VecGet, VecPut}
use Rattle.core_terms.specs.Bodies.{FunctionCode, Body, code_at}
use Rattle.core_terms.specs.CodeShapes.{Shape, shape}

-- the lists have the same types
abbrev pub same_types : List Ty → List Ty → Bool
same_types [] [] = true
same_types (a ∷ ts) (b ∷ us) = same_type a b && same_types ts us
same_types ts us = false

abbrev pub same_shape : Shape → Shape → Bool
same_shape r s = same_types r.locals s.locals && same_types r.operands s.operands

-- A way on from an instruction: how many of the instructions behind it are passed over, and the types of the locals and of the operands then.
pub record Way : Type 0 where
  pub passed : ℕ
  pub at : Shape

abbrev pub way : ℕ → List Ty → List Ty → Way
way n ls os = record { passed = n; at = shape ls os }

-- the only way on is to the next instruction
abbrev pub next : List Ty → List Ty → Option (List Way)
next ls os = Some (way 0 ls os ∷ [])

abbrev pub next_if : Bool → List Ty → List Ty → Option (List Way)
next_if b ls os = if b then next ls os else None

-- the operands without the top one, which has this type; and without those that have the types of a list, the last of them being the top
abbrev pub without_one : Ty → List Ty → Option (List Ty)
without_one t [] = None
without_one t (u ∷ os) = if same_type t u then Some os else None

abbrev pub without : List Ty → List Ty → Option (List Ty)
without [] os = Some os
without (t ∷ ts) os = option_and_then (without_one t) (without ts os)

-- behind operands of these types, in the place of which stands one of type t
abbrev pub behind_operands : List Ty → Ty → List Ty → List Ty → Option (List Way)
behind_operands ts t ls os = option_and_then (λ under. next ls (t ∷ under)) (without ts os)

-- the ways behind a switch: to the place of each constructor, whose fields are the next locals
abbrev pub ways_by_tag : List Ty → List Ty → List (List Ty) → List ℕ → Option (List Way)
ways_by_tag ls os [] [] = Some []
ways_by_tag ls os (ts ∷ cs) (n ∷ places) = option_map (λ ws. way n (ls ++ ts) os ∷ ws) (ways_by_tag ls os cs places)
ways_by_tag ls os cs places = None

-- The ways on from an instruction of a function with result type z, where the locals have the types ls and the operands the types os, the
-- top one first; none where an operand or a local isn't there, or has another type. Behind a return there is no way.
abbrev pub ways : Body → Ty → Instruction → List Ty → List Ty → Option (List Way)
ways B z PushUnit ls os = next ls (UnitTy ∷ os)
ways B z (PushBool b) ls os = next ls (BoolTy ∷ os)
ways B z (PushInt n) ls os = next ls (IntTy ∷ os)
ways B z (PushText bytes) ls os = next ls (TextTy ∷ os)
ways B z (Load i) ls os = option_and_then (λ t. next ls (t ∷ os)) (slice_get ls i)
ways B z Bind ls (t ∷ os) = next (ls ++ t ∷ []) os
ways B z (Unbind n) ls os = next_if (nat_le n (length ls)) (take (length ls - n) ls) os
ways B z Pair ls (b ∷ (a ∷ os)) = next ls (PairTy a b ∷ os)
ways B z Fst ls (PairTy a b ∷ os) = next ls (a ∷ os)
ways B z Snd ls (PairTy a b ∷ os) = next ls (b ∷ os)
ways B z (Make number tag) ls os = option_and_then (λ ts. behind_operands ts (NamedTy number) ls os) (fields_at B.types number tag)
ways B z (Switch number places) ls (NamedTy m ∷ os) =
    if nat_eq m number then ways_by_tag ls os (unwrap_or (slice_get B.types number) []) places else None
ways B z (Branch n) ls (BoolTy ∷ os) = Some (way 0 ls os ∷ way n ls os ∷ [])
ways B z (Jump n) ls os = Some (way n ls os ∷ [])
ways B z (Call f) ls os = behind_operands (code_at B f).parameters (code_at B f).result ls os
ways B z Return ls (t ∷ []) = if same_type t z then Some [] else None
ways B z (Auth t) ls os = behind_operands (t ∷ []) (AuthTy t) ls os
ways B z (Unauth t) ls os = behind_operands (AuthTy t ∷ []) t ls os
ways B z (ArithOp op) ls os = behind_operands (IntTy ∷ (IntTy ∷ [])) IntTy ls os
ways B z (CompareOp op) ls os = behind_operands (IntTy ∷ (IntTy ∷ [])) BoolTy ls os
ways B z (TextCompareOp op) ls os = behind_operands (TextTy ∷ (TextTy ∷ [])) BoolTy ls os
ways B z Cat ls os = behind_operands (TextTy ∷ (TextTy ∷ [])) TextTy ls os
ways B z Len ls os = behind_operands (TextTy ∷ []) IntTy ls os
ways B z Not ls os = behind_operands (BoolTy ∷ []) BoolTy ls os
ways B z (VecFill n) ls (t ∷ os) = next_if (is_length n) ls (VecTy n t ∷ os)
ways B z VecGet ls (IntTy ∷ (VecTy n t ∷ os)) = next ls (t ∷ os)
ways B z VecPut ls (u ∷ (IntTy ∷ (VecTy n t ∷ os))) = next_if (same_type u t) ls (VecTy n t ∷ os)
ways B z _ ls os = None

-- What the instructions before it say of an instruction: none leads to it; those that do agree on its types; two of them differ.
pub data Known : Type 0 where
  Unreached : Known
  Reached : (at : Shape) → Known
  Clashing : Known

abbrev pub met : Known → Shape → Known
met Unreached s = Reached s
met (Reached r) s = if same_shape r s then Reached r else Clashing
met Clashing s = Clashing

-- what is known of the instructions behind one, from which a way leads on; none where it leads past the last of them
abbrev pub reach : ℕ → Shape → List Known → Option (List Known)
reach n s [] = None
reach zero s (k ∷ ks) = Some (met k s ∷ ks)
reach (suc n) s (k ∷ ks) = option_map (λ ks. k ∷ ks) (reach n s ks)

-- by each of its ways; none also where one leaves too many locals
abbrev pub reach_all : List Way → List Known → Option (List Known)
reach_all [] ks = Some ks
reach_all (w ∷ ws) ks = if nat_le (length w.at.locals) most_locals then option_and_then (reach_all ws) (reach w.passed w.at ks) else None

module _ (B : Body) (z : Ty) where
  -- what is known of the instructions behind one of which this is known; none where it is at fault
  abbrev pub behind : Instruction → Known → List Known → Option (List Known)
  behind i Unreached ks = None
  behind i (Reached s) ks = option_and_then (λ ws. reach_all ws ks) (ways B z i s.locals s.operands)
  behind i Clashing ks = None

  abbrev pub fault_or : Option (List Known) → ℕ → (List Known → Option ℕ) → Option ℕ
  fault_or None place go = Some place
  fault_or (Some ks) place go = go ks

  -- the number of the first instruction at fault, of those that begin at a place, where this is known of each
  abbrev pub first_fault : List Instruction → ℕ → List Known → Option ℕ
  first_fault (i ∷ is) place (k ∷ ks) = fault_or (behind i k ks) place (first_fault is (suc place))
  first_fault is place ks = None

-- at the first instruction of a function its parameters are the locals, and there is no operand; no other is reached yet
abbrev pub at_start : FunctionCode → List Instruction → List Known
at_start g is = Reached (shape g.parameters []) ∷ map (λ (i : Instruction). Unreached) is

-- the first instruction at fault of a function; of one without instructions it is the first that would be there
abbrev pub fault_in : Body → FunctionCode → List Instruction → Option ℕ
fault_in B g [] = Some 0
fault_in B g (i ∷ is) = first_fault B g.result (i ∷ is) 0 (at_start g is)

abbrev pub function_fault : Body → FunctionCode → Option ℕ
function_fault B g = fault_in B g g.code

-- an instruction of a function, by their numbers
pub record Spot : Type 0 where
  pub function : ℕ
  pub instruction : ℕ

abbrev pub fault_at : Option ℕ → ℕ → Option Spot → Option Spot
fault_at (Some i) f later = Some (record { function = f; instruction = i })
fault_at None f later = later

-- the first fault of functions of which the first has number f
abbrev pub kind_fault_from : Body → ℕ → List FunctionCode → Option Spot
kind_fault_from B f [] = None
kind_fault_from B f (g ∷ gs) = fault_at (function_fault B g) f (kind_fault_from B (suc f) gs)

abbrev pub kind_fault : Body → Option Spot
kind_fault B = kind_fault_from B 0 B.functions

-- What an instruction names is there, and its literal is one of the language.
abbrev pub is_there : Body → Instruction → Bool
is_there B (PushInt z) = int_fits z
is_there B (PushText bytes) = is_utf8 bytes && nat_le (length bytes) 65532
is_there B (Call f) = nat_lt f (length B.functions)
is_there B i = true

abbrev pub is_there_in : Body → FunctionCode → Bool
is_there_in B g = list_all (is_there B) g.code

-- All that is named is there, and no instruction is at fault.
abbrev pub kinds_test : Body → Bool
kinds_test B = list_all (is_there_in B) B.functions && is_none (kind_fault B)
