-- The state of the virtual machine, as that of the definitions.
use Rattle.std.specs.Prelude.{◌≡◌, ℕ, zero, suc, ◌+◌, ◌*◌, ◌≤◌, ◌<◌, ◌^◌, Bool, true, false, List, [], ◌∷◌, length, take, drop, reverse, Some, slice_get}
use Rattle.core_terms.specs.Types.{Ty}
use Rattle.core_terms.specs.Values.{Values}
use Rattle.core_terms.specs.Terms.{Program, function_at}
use Rattle.ideal_meaning.specs.Run.{Ends, IsOut}
use Rattle.core_terms.specs.Instructions.{Instruction, PushText, Unbind, Jump, Call, Return, Auth, Unauth, TextCompareOp, Cat, Len, VecFill, VecGet, VecPut}
use Rattle.core_terms.specs.Bodies.{code_at}
use Rattle.core_terms.specs.GeneratedCode.{generated}
use Rattle.code_gen.specs.CodeSizes.{code_size}
use Rattle.ideal_meaning.specs.Execution.{Coded, Ran, tie, then_coded}
use Rattle.code_meaning.specs.Steps as steps
use Rattle.core_terms.specs.Accepted.{IsFine}
use Rattle.core_terms.specs.CodeShapes.{Shape, shape}
use Rattle.value_store.specs.Nodes.{Node}
use Rattle.value_store.specs.Standing.{AllStandFor}
use Rattle.value_store.specs.Markings.{Marking, kind_of}
use Rattle.value_store.specs.CodeNodes.{numbers_of}
use Rattle.value_store.specs.declared.node.Ref.{Ref}
use Rattle.mode_vm.specs.Operands.{AllHeld}
use Rattle.mode_vm.specs.Meanings.{CauseOf, StateOf, mode_of}
use Rattle.mode_vm.specs.StateParts.{frame_in}
use Rattle.mode_vm.specs.declared.frame.Frame.{Frame}
use Rattle.mode_vm.specs.declared.frame.Waiting.{Waiting}
use Rattle.mode_vm.specs.declared.operand.Operand.{Operand}
use Rattle.mode_vm.specs.declared.state.State.{State}

-- A frame by its values: how deep its calls may nest (never below the fuel, and no part of the machine), the instructions left with the
-- shapes before them, the type of what the function gives, and the locals and the operands, the top one first, with their types.
pub record ValueFrame : Type 0 where
  pub depth : ℕ
  pub left : List Instruction
  pub shapes : List Shape
  pub result : Ty
  pub local_types : List Ty
  pub locals : Values
  pub operand_types : List Ty
  pub operands : Values

-- the running frame, and those that wait, the innermost first
pub record ValueStack : Type 0 where
  pub top : ValueFrame
  pub waits : List ValueFrame

abbrev pub frame_of : ValueFrame → steps.Frame
frame_of c = record { depth = c.depth; left = c.left; locals = tie c.local_types c.locals; operands = tie c.operand_types c.operands }

-- the frames that wait, the innermost for a value of this type
abbrev pub waiting_of : Ty → List ValueFrame → List steps.Waiting
waiting_of t [] = []
waiting_of t (c ∷ cs) = record { frame = frame_of c; ty = t } ∷ waiting_of c.result cs

abbrev pub all_left : List ValueFrame → ℕ
all_left [] = 0
all_left (c ∷ cs) = length c.left + all_left cs

abbrev pub left_if : Bool → ℕ → ℕ
left_if true n = n
left_if false n = 0

-- a bound on the steps that are still to come: each unit of fuel may enter a function, and jumps go forward alone
abbrev pub stack_steps : Program → Bool → ℕ → ValueStack → ℕ
stack_steps P entered k cs = k * (code_size (generated P).functions + 1) + (left_if entered (length cs.top.left) + all_left cs.waits)

-- the same of a machine
abbrev pub frame_left : Program → Frame → ℕ
frame_left P frame = length (drop frame.place (code_at (generated P) frame.function.0).code)

abbrev pub frames_left : Program → List Waiting → ℕ
frames_left P [] = 0
frames_left P (f ∷ fs) = length (drop f.place (code_at (generated P) f.function.0).code) + frames_left P fs

abbrev pub steps_left : Program → State → ℕ
steps_left P state = state.fuel * (code_size (generated P).functions + 1) + (left_if state.entered (frame_left P state.top) + frames_left P (reverse state.waiting.items))

-- these nodes stand for these values, as arguments of a function of the program
abbrev pub AreArguments : Marking → Program → List Node → ℕ → List Ref → Values → Type 0
AreArguments m P nodes f args vs = AllStandFor (kind_of m P) P.types nodes (numbers_of args) (function_at P f).parameters vs

-- Few enough values will have been opened where so many were: each step that is still to come opens one more at most.
abbrev pub OpensFew : ℕ → Program → State → Type 0
OpensFew opened P state = opened + steps_left P state < 2 ^ 63

module _ (m : Marking) (P : Program) where
  abbrev pub runs_on : ValueFrame → ℕ → StateOf m → Coded (CauseOf m) (StateOf m)
  runs_on c k w = steps.left_of (generated P) (mode_of m P) (frame_of c) 0 (tie c.local_types c.locals) (tie c.operand_types c.operands) k w

  -- a frame that was not entered yet takes one unit of fuel first
  abbrev pub enters : ValueFrame → ℕ → StateOf m → Coded (CauseOf m) (StateOf m)
  enters c zero w = Ran (Ends IsOut zero w)
  enters c (suc k) w = runs_on c k w

  abbrev pub goes : Bool → ValueFrame → ℕ → StateOf m → Coded (CauseOf m) (StateOf m)
  goes true c k w = runs_on c k w
  goes false c k w = enters c k w

  -- how the machine will end, with this fuel, from a state of the mode
  abbrev pub end_of : Bool → ValueStack → ℕ → StateOf m → Coded (CauseOf m) (StateOf m)
  end_of entered cs k w = then_coded (goes entered cs.top k w) (steps.rest_of (generated P) (mode_of m P) (waiting_of cs.top.result cs.waits))

  module _ (nodes : List Node) where
    pub record IsFrame (frame : Frame) (c : ValueFrame) : Type 0 where
      pub there : frame.function.0 < length (generated P).functions
      pub result : c.result ≡ (code_at (generated P) frame.function.0).result
      pub left : c.left ≡ drop frame.place (code_at (generated P) frame.function.0).code
      pub fine : IsFine (generated P) c.result c.left c.shapes
      pub locals : AllHeld (kind_of m P) P.types nodes frame.locals.items c.local_types c.locals
      pub operands : AllHeld (kind_of m P) P.types nodes (reverse frame.operands.items) c.operand_types c.operands

    -- the frame goes on with these operands
    pub record IsTop (frame : Frame) (c : ValueFrame) : Type 0 where
      pub is : IsFrame frame c
      pub starts : slice_get c.shapes 0 ≡ Some (shape c.local_types c.operand_types)

    -- Over these locals and operands, which lie below the frames further in, the frame goes on with one operand more, of type t.
    pub record IsWaiting (t : Ty) (locals operands : List Operand) (frame : Waiting) (c : ValueFrame) : Type 0 where
      pub local_base : frame.local_base ≤ length locals
      pub operand_base : frame.operand_base ≤ length operands
      pub is : IsFrame (frame_in frame locals operands) c
      pub starts : slice_get c.shapes 0 ≡ Some (shape c.local_types (t ∷ c.operand_types))

    -- The frames that wait have these locals and operands: the innermost has those from its bases on, and those that wait for it have
    -- what lies below. The outermost of them gives a value of type z.
    abbrev pub AreWaiting : Ty → Ty → (locals operands : List Operand) → List Waiting → List ValueFrame → Type 0
    AreWaiting z t ls os [] [] = t ≡ z
    AreWaiting z t ls os (f ∷ fs) (c ∷ cs) = IsWaiting t ls os f c × AreWaiting z c.result (take f.local_base ls) (take f.operand_base os) fs cs
    AreWaiting z t ls os fs cs = ⊥

-- the fuel isn't above how deep calls may nest
abbrev pub AreDeep : ℕ → List ValueFrame → Type 0
AreDeep k [] = Unit {0}
AreDeep k (c ∷ cs) = (k ≤ c.depth) × AreDeep k cs

abbrev pub IsDeep : Bool → ℕ → ValueFrame → Type 0
IsDeep true k c = k ≤ c.depth
IsDeep false k c = k ≤ suc c.depth

module _ (m : Marking) (P : Program) (z : Ty) (nodes : List Node) where
  -- the machine is in this state of the definitions, over these nodes, and will give a value of type z
  pub record Represents (state : State) (cs : ValueStack) : Type 0 where
    pub top : IsTop m P nodes state.top cs.top
    pub waits : AreWaiting m P nodes z cs.top.result state.top.locals.below state.top.operands.below (reverse state.waiting.items) cs.waits
    pub deep : IsDeep state.entered state.fuel cs.top
    pub deep_below : AreDeep state.fuel cs.waits

-- the frame's next instruction is this one
pub record IsNext (i : Instruction) (c : ValueFrame) : Type 0 where
  pub rest : List Instruction
  pub is : c.left ≡ i ∷ rest

-- The frame stands before this instruction, over these nodes.
pub record Before (m : Marking) (P : Program) (nodes : List Node) (frame : Frame) (i : Instruction) (c : ValueFrame) : Type 0 where
  pub top : IsTop m P nodes frame c
  pub next : IsNext i c

-- it is the same call of the same function
pub record IsSameCall (c after : ValueFrame) : Type 0 where
  pub depth : after.depth ≡ c.depth
  pub result : after.result ≡ c.result
  pub shorter : length after.left < length c.left

-- All that the instructions left do, of which so many are passed over first, is to give the top operand back: but for jumps, and locals
-- that are dropped, a return comes next.
abbrev pub GivesBack : List Instruction → (skip : ℕ) → Type 0
GivesBack [] skip = ⊥
GivesBack (i ∷ is) (suc skip) = GivesBack is skip
GivesBack (Return ∷ is) zero = Unit {0}
GivesBack (Unbind n ∷ is) zero = GivesBack is 0
GivesBack (Jump n ∷ is) zero = GivesBack is n
GivesBack (i ∷ is) zero = ⊥

-- an instruction that asks nothing of the mode
abbrev pub is_plain : Instruction → Bool
is_plain (Auth t) = false
is_plain (Unauth t) = false
is_plain i = true

-- one that changes the running frame alone
abbrev pub is_own : Instruction → Bool
is_own (Call f) = false
is_own Return = false
is_own i = is_plain i

-- one that works on texts or on arrays, which is rare
abbrev pub is_rare : Instruction → Bool
is_rare (PushText bytes) = true
is_rare (TextCompareOp op) = true
is_rare Cat = true
is_rare Len = true
is_rare (VecFill n) = true
is_rare VecGet = true
is_rare VecPut = true
is_rare i = false
