-- Which instructions change the running frame alone, and which ask nothing of the mode; and a frame that stands before one.
use Rattle.std.proofs.Common.{◌≡◌, true, false, List, MatchOption, None, Option, Some, refl, subst}
use Rattle.core_terms.specs.Terms.{Program}
use Rattle.core_terms.specs.Types.{Ty}
use Rattle.value_store.specs.Markings.{Marking}
use Rattle.value_store.specs.Nodes.{Node}
use Rattle.core_terms.specs.declared.program.FunctionId.{FunctionId}
use Rattle.core_terms.specs.declared.types.TyId.{TyId}
use Rattle.core_terms.specs.InstructionViews.{instruction_of}
use Rattle.core_terms.specs.declared.instruction.Instruction.{Instruction}
use Rattle.core_terms.specs.declared.instruction.Instruction.TheVariants.{Call, Return, Auth, Unauth}
use Rattle.mode_vm.specs.Machines.{Before, ValueFrame, is_own, is_plain}
use Rattle.mode_vm.specs.declared.frame.Frame.{Frame}
use Rattle.mode_vm.specs.NodesPut.{works_in_hand}

-- what is said of none, where there is none
pub none_told : {A P : Type 0} (Q : A → Type 0) (o : Option A) → ((x : A) → o ≡ Some x → ⊥) → MatchOption o P Q → P
none_told Q None never told = told
none_told Q (Some x) never told = absurd (never x refl)

-- what is no call and no return, and asks nothing of the mode, changes the running frame alone
pub own : (types : List Ty) (i : Instruction) → ((f : FunctionId) → i ≡ Call f → ⊥) → (i ≡ Return → ⊥) → is_plain (instruction_of types i) ≡ true
    → is_own (instruction_of types i) ≡ true
own types (Call f) call back plain = absurd (call f refl)
own types Return call back plain = absurd (back refl)
own types i call back plain = plain

-- what is no `auth` and no `unauth` asks nothing of the mode
pub plain : (types : List Ty) (i : Instruction) → ((t : TyId) → i ≡ Auth t → ⊥) → ((t : TyId) → i ≡ Unauth t → ⊥) → is_plain (instruction_of types i) ≡ true
plain types (Auth t) auth unauth = absurd (auth t refl)
plain types (Unauth t) auth unauth = absurd (unauth t refl)
plain types i auth unauth = refl

-- an `auth` or an `unauth` doesn't work in hand
pub asked : (types : List Ty) (i : Instruction) (t : TyId) → i ≡ Auth t → works_in_hand (instruction_of types i) ≡ true → ⊥
asked types i t is in_hand = let clash : false ≡ true = subst (λ i. works_in_hand (instruction_of types i) ≡ true) is in_hand in cc

pub opened : (types : List Ty) (i : Instruction) (t : TyId) → i ≡ Unauth t → works_in_hand (instruction_of types i) ≡ true → ⊥
opened types i t is in_hand = let clash : false ≡ true = subst (λ i. works_in_hand (instruction_of types i) ≡ true) is in_hand in cc

-- the frame stands before the instruction that it is
pub before : (P : Program) (types : List Ty) (m : Marking) (nodes : List Node) (frame : Frame) (values : ValueFrame) (i j : Instruction) → i ≡ j
    → Before m P nodes frame (instruction_of types i) values → Before m P nodes frame (instruction_of types j) values
before P types m nodes frame values i j is b = subst (λ i. Before m P nodes frame (instruction_of types i) values) is b
