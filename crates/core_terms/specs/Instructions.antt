-- The instructions of a function's code. A frame has locals and a stack of operands; a call works on a frame of its own.
use Rattle.std.specs.Prelude.{ℕ, Bool, List, ℤ}
use Rattle.core_terms.specs.Types.{Ty}
use Rattle.core_terms.specs.declared.term.Arith.{Arith}
use Rattle.core_terms.specs.declared.term.Compare.{Compare}
use Rattle.core_terms.specs.declared.term.TextCompare.{TextCompare}

-- An instruction pops its operands, the last one first, and pushes what it gives. Jumps go forward alone: `n` says how many of
-- the instructions behind the jump are passed over.
pub data Instruction : Type 0 where
  -- literals
  PushUnit : Instruction
  PushBool : (b : Bool) → Instruction
  PushInt : (z : ℤ) → Instruction
  PushText : (bytes : List ℕ) → Instruction
  -- pushes a local; pops an operand, which becomes the next local; drops the last n locals
  Load : (i : ℕ) → Instruction
  Bind : Instruction
  Unbind : (n : ℕ) → Instruction
  Pair Fst Snd : Instruction
  -- a constructor of a named type, of as many operands as it has fields
  Make : (number tag : ℕ) → Instruction
  -- pops a value of a named type, whose fields become the next locals, and jumps by its tag
  Switch : (number : ℕ) (places : List ℕ) → Instruction
  -- pops a bool, and jumps where it is false
  Branch Jump : (n : ℕ) → Instruction
  -- calls a function on as many operands as it has parameters; gives back the one operand
  Call : (f : ℕ) → Instruction
  Return : Instruction
  -- at the type of what is authenticated
  Auth Unauth : (t : Ty) → Instruction
  ArithOp : (op : Arith) → Instruction
  CompareOp : (op : Compare) → Instruction
  TextCompareOp : (op : TextCompare) → Instruction
  -- joins two texts; counts the bytes of a text; negates a bool
  Cat Len Not : Instruction
  -- an array of n times a value; the element of an array at an int; the array with its element at an int replaced
  VecFill : (n : ℕ) → Instruction
  VecGet VecPut : Instruction
  deriving IsSet as instructions_set
