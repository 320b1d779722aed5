-- The operands of an instruction that takes two are there.
use Rattle.std.proofs.Common.{◌<◌, List, length, reverse, ap, arith}
use Rattle.std.proofs.lemmas.List.{length-reverse}
use Rattle.core_terms.specs.Types.{Ty}
use Rattle.core_terms.specs.Terms.{Program}
use Rattle.core_terms.specs.declared.term.Arith.{Arith}
use Rattle.core_terms.specs.declared.term.Compare.{Compare}
use Rattle.core_terms.specs.declared.term.TextCompare.{TextCompare}
use Rattle.core_terms.specs.Instructions.{Instruction, ArithOp, CompareOp, TextCompareOp, Cat, Pair, VecGet}
use Rattle.core_terms.specs.GeneratedCode.{generated}
use Rattle.value_store.specs.Nodes.{Node}
use Rattle.value_store.specs.Markings.{Marking, kind_of}
use Rattle.mode_vm.specs.Machines.{ValueFrame, Before}
use Rattle.mode_vm.specs.declared.frame.Frame.{Frame}
use Rattle.mode_vm.proofs.Frames.{ToNext, fits_next}
use Rattle.mode_vm.proofs.Operands.{TakesTwo, as_many, arith_parts, compare_parts, text_compare_parts, concat_parts, get_parts, pair_parts}

module _ (m : Marking) (P : Program) (nodes : List Node) (frame : Frame) (c : ValueFrame) where
  two_there : (i : Instruction) (b : Before m P nodes frame i c) (s t u : Ty) → TakesTwo (generated P) c.result c.local_types (ToNext (generated P) c.result c.shapes) s t u c.operand_types
      → 1 < length frame.operands.items
  two_there i b s t u takes =
      let a = as_many (kind_of m P) P.types nodes (reverse frame.operands.items) c.operand_types c.operands b.top.is.operands in
      let r = length-reverse frame.operands.items in
      let p = ap length takes.is in
      omega (arith, a, r, p)

  pub arith_enough : (op : Arith) → Before m P nodes frame (ArithOp op) c → 1 < length frame.operands.items
  arith_enough op b = two_there (ArithOp op) b _ _ _ (arith_parts (generated P) c.result c.local_types (ToNext (generated P) c.result c.shapes) op c.operand_types (fits_next m P nodes frame (ArithOp op) c b))

  pub compare_enough : (op : Compare) → Before m P nodes frame (CompareOp op) c → 1 < length frame.operands.items
  compare_enough op b =
      two_there (CompareOp op) b _ _ _ (compare_parts (generated P) c.result c.local_types (ToNext (generated P) c.result c.shapes) op c.operand_types (fits_next m P nodes frame (CompareOp op) c b))

  pub text_compare_enough : (op : TextCompare) → Before m P nodes frame (TextCompareOp op) c → 1 < length frame.operands.items
  text_compare_enough op b =
      two_there (TextCompareOp op) b _ _ _
      (text_compare_parts (generated P) c.result c.local_types (ToNext (generated P) c.result c.shapes) op c.operand_types (fits_next m P nodes frame (TextCompareOp op) c b))

  pub concat_enough : Before m P nodes frame Cat c → 1 < length frame.operands.items
  concat_enough b = two_there Cat b _ _ _ (concat_parts (generated P) c.result c.local_types (ToNext (generated P) c.result c.shapes) c.operand_types (fits_next m P nodes frame Cat c b))

  pub pair_enough : Before m P nodes frame Pair c → 1 < length frame.operands.items
  pair_enough b =
      let parts = pair_parts (generated P) c.result c.local_types (ToNext (generated P) c.result c.shapes) c.operand_types (fits_next m P nodes frame Pair c b) in
      two_there Pair b parts.0 parts.1 _ parts.2

  pub get_enough : Before m P nodes frame VecGet c → 1 < length frame.operands.items
  get_enough b =
      let parts = get_parts (generated P) c.result c.local_types (ToNext (generated P) c.result c.shapes) c.operand_types (fits_next m P nodes frame VecGet c b) in
      two_there VecGet b _ _ _ parts.2
