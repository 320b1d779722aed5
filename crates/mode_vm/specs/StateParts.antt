-- How an instruction changes the parts of a frame.
use Rattle.std.specs.Prelude.{◌≡◌, ◌<◌, ◌≤◌, ◌-◌, ℕ, Bool, true, false, ◌+◌, List, [], ◌∷◌, ◌++◌, length, Result, Ok, Err, Option, Some, None}
use Rattle.core_terms.specs.declared.outcome.Trap.{Trap}
use Rattle.value_store.specs.declared.node.Ref.{Ref}
use Rattle.mode_vm.specs.Operands.{all_at}
use Rattle.mode_vm.specs.declared.operand.Operand.{Operand}
use Rattle.mode_vm.specs.Stacks.{cut_at}
use Rattle.mode_vm.specs.declared.frame.Frame.{Frame}
use Rattle.mode_vm.specs.declared.frame.Waiting.{Waiting}
use Rattle.mode_vm.specs.declared.state.State.{State}

-- a frame that waits, where the frames further in have these locals and operands below them
abbrev pub frame_in : Waiting → (locals operands : List Operand) → Frame
frame_in w ls os = record { function = w.function; place = w.place; locals = cut_at w.local_base ls; operands = cut_at w.operand_base os }

-- what lies below the frame is as before
pub record IsOver (old new : Frame) : Type 0 where
  pub locals : new.locals.below ≡ old.locals.below
  pub operands : new.operands.below ≡ old.operands.below

-- the frame of the same function at this place, with these locals and operands
pub record IsAt (old : Frame) (at : ℕ) (has : List Operand) (works_on : List Operand) (new : Frame) : Type 0 where
  pub function : new.function ≡ old.function
  pub place : new.place ≡ at
  pub locals : new.locals.items ≡ has
  pub operands : new.operands.items ≡ works_on
  pub over : IsOver old new

-- the frame went one instruction further, with what was made on these operands; or it traps
abbrev pub FinishesOn : {E : Type 0} → (old : Frame) (kept : List Operand) → Result Operand Trap → (new : Frame) → Result (Option Trap) E → Type 0
FinishesOn old kept (Ok r) new (Ok None) = IsAt old (old.place + 1) old.locals.items (kept ++ r ∷ []) new
FinishesOn old kept (Err trap) new (Ok (Some told)) = told ≡ trap
FinishesOn old kept made new (Err e) = Unit {0}
FinishesOn old kept made new (Ok o) = ⊥

abbrev pub Finishes : {E : Type 0} → (old : Frame) → Result Operand Trap → (new : Frame) → Result (Option Trap) E → Type 0
Finishes old = FinishesOn old old.operands.items

-- the frame became that of a function which is called on as many of the topmost operands
pub record BecomesCall (old : Frame) (callee count : ℕ) (new : Frame) : Type 0 where
  pub args : List Operand
  pub kept : List Operand
  pub many : length args ≡ count
  pub from : old.operands.items ≡ kept ++ args
  pub function : new.function.0 ≡ callee
  pub place : new.place ≡ 0
  pub locals : new.locals.items ≡ args
  pub no_operands : new.operands.items ≡ []
  pub over : IsOver old new

-- the frame that waits under these locals and operands is the one from before, behind its call, with what was kept of its operands
pub record Waits (old : Frame) (kept locals operands : List Operand) (caller : Waiting) : Type 0 where
  pub is : IsAt old (old.place + 1) old.locals.items kept (frame_in caller locals operands)
  pub local_base : caller.local_base ≤ length locals
  pub operand_base : caller.operand_base ≤ length operands

-- the frame became that of such a function, and waits below it, as this caller, for what it gives
pub record BeginsCall (old : Frame) (callee count : ℕ) (caller : Waiting) (new : Frame) : Type 0 where
  pub args : List Operand
  pub kept : List Operand
  pub many : length args ≡ count
  pub from : old.operands.items ≡ kept ++ args
  pub function : new.function.0 ≡ callee
  pub place : new.place ≡ 0
  pub locals : new.locals.items ≡ args
  pub no_operands : new.operands.items ≡ []
  pub waits : Waits old kept new.locals.below new.operands.below caller

-- a call was begun: the running frame waits behind its call, and the function called runs from its beginning
pub record Begins (old : State) (callee : ℕ) (args kept : List Operand) (new : State) : Type 0 where
  pub operands : old.top.operands.items ≡ kept ++ args
  pub entered : new.entered ≡ false
  pub fuel : new.fuel ≡ old.fuel
  pub function : new.top.function.0 ≡ callee
  pub place : new.top.place ≡ 0
  pub locals : new.top.locals.items ≡ args
  pub no_operands : new.top.operands.items ≡ []
  pub caller : Waiting
  pub waiting : new.waiting.items ≡ old.waiting.items ++ caller ∷ []
  pub waits : Waits old.top kept new.top.locals.below new.top.operands.below caller

-- a last call was begun: the function called runs from its beginning in the place of the running one
pub record BeginsLast (old : State) (callee : ℕ) (args kept : List Operand) (new : State) : Type 0 where
  pub operands : old.top.operands.items ≡ kept ++ args
  pub entered : new.entered ≡ false
  pub fuel : new.fuel ≡ old.fuel
  pub function : new.top.function.0 ≡ callee
  pub place : new.top.place ≡ 0
  pub locals : new.top.locals.items ≡ args
  pub no_operands : new.top.operands.items ≡ []
  pub over : IsOver old.top new.top
  pub waiting : new.waiting.items ≡ old.waiting.items

-- all but the running frame is as before
pub record IsElseSame (old new : State) : Type 0 where
  pub entered : new.entered ≡ old.entered
  pub fuel : new.fuel ≡ old.fuel
  pub waiting : new.waiting ≡ old.waiting

-- a function is to be called on these arguments, with this much fuel
pub record Starts (callee : ℕ) (args : List Ref) (units : ℕ) (state : State) : Type 0 where
  pub fuel : state.fuel ≡ units
  pub entered : state.entered ≡ false
  pub function : state.top.function.0 ≡ callee
  pub place : state.top.place ≡ 0
  pub locals : state.top.locals.items ≡ all_at args
  pub no_operands : state.top.operands.items ≡ []
  pub nothing_waits : state.waiting.items ≡ []

-- a further call is due, fuel is left, and this many calls were made since there was so much fuel
pub record Spent (units start : ℕ) (new : State) : Type 0 where
  pub due : new.entered ≡ false
  pub some : 0 < new.fuel
  pub made : start ≡ new.fuel + units

-- the fuel after a step: that of a frame which is not entered yet is taken
abbrev pub fuel_after : Bool → ℕ → ℕ
fuel_after true k = k
fuel_after false k = k - 1

-- At most so many calls were made, and where one was due with fuel left, one was made.
pub record Calls (units : ℕ) (old new : State) : Type 0 where
  pub down : new.fuel ≤ old.fuel
  pub most : old.fuel ≤ new.fuel + units
  pub some : old.entered ≡ false → 0 < old.fuel → new.fuel < old.fuel
