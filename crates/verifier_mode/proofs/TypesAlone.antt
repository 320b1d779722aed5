-- What is put and spelled by the types of a program alone is so by the program.
use Rattle.std.proofs.Common.{◌≡◌, ℕ, List, Option, Vec, Result, Ok, Err, sym, subst}
use Rattle.std.specs.declared.alloc.Global.{Global}
use Rattle.core_terms.specs.Programs.{meaning, types_of}
use Rattle.core_terms.specs.ProgramTypes.{named_table, types_by_number, types_meaning}
use Rattle.core_terms.specs.ProgramParts.{program_of_parts}
use Rattle.core_terms.specs.Roles.{argument_type}
use Rattle.core_terms.specs.Types.{Ty}
use Rattle.core_terms.specs.TypeTables.{type_at}
use Rattle.core_terms.specs.declared.instruction.Instruction.{Instruction}
use Rattle.core_terms.specs.declared.types.TyId.{TyId}
use Rattle.core_terms.specs.declared.byte_string.ByteString.{ByteString as Spelling}
use Rattle.core_terms.specs.declared.outcome.Outcome.{Outcome}
use Rattle.core_terms.specs.declared.outcome.Outcome.TheVariants.{Done, Trapped, Out}
use Rattle.core_terms.specs.declared.term.Function.{Function}
use Rattle.core_terms.specs.declared.program.Program.{Program}
use Rattle.core_terms.specs.declared.program_types.Types.{Types}
use Rattle.value_store.specs.Nodes.{Node}
use Rattle.value_store.specs.declared.node.Ref.{Ref}
use Rattle.verifier_mode.specs.CallParts.{ArePut}
use Rattle.verifier_mode.specs.Spelled.{IsSpelledAs, OutcomeStands}
use Rattle.verifier_mode.specs.declared.verdict.CallFault.{CallFault}
use Rattle.verifier_mode.specs.declared.verdict.CallFault.TheVariants.{BadState, BadArgument, NoMemory}

abbrev Codes : Type 0
Codes = Option (Vec (Vec Instruction Global) Global)

module _ (t : Types) (fs : List Function) (code : Codes) (nodes : List Node) (u : Ty) where
  put_in : (state argument : List ℕ) (result : Result (List Ref) CallFault) → ArePut (types_meaning t) nodes u state argument result
      → ArePut (program_of_parts t fs code) nodes u state argument result
  put_in state argument (Ok refs) h = h
  put_in state argument (Err (BadState offset)) h = h
  put_in state argument (Err (BadArgument offset)) h = h
  put_in state argument (Err NoMemory) h = h

  stands_in : (o : Outcome Ref) → OutcomeStands (program_of_parts t fs code) nodes u o → OutcomeStands (types_meaning t) nodes u o
  stands_in (Done r) h = h
  stands_in (Trapped trap) h = h
  stands_in Out h = h

-- The code gives the types of its program.
module _ (p : Program) (given : Types) (is : given ≡ p.types) (nodes : List Node) (id : TyId) (u : Ty) (at : type_at (types_of p) id ≡ u) where
  pub put_by : (state argument : List ℕ) (result : Result (List Ref) CallFault) → ArePut (types_meaning given) nodes (type_at (types_by_number given) id) state argument result
      → ArePut (meaning p) nodes u state argument result
  put_by state argument result h =
      subst (λ u. ArePut (meaning p) nodes u state argument result) at
      (put_in p.types p.functions.items p.code nodes (type_at (types_of p) id) state argument result
      (subst (λ t. ArePut (types_meaning t) nodes (type_at (types_by_number t) id) state argument result) is h))

  pub spelled_by : (o : Outcome Ref) (told : Outcome Spelling) → IsSpelledAs (named_table given) nodes (type_at (types_by_number given) id) o told
      → IsSpelledAs (meaning p).types nodes u o told
  spelled_by o told h =
      subst (λ u. IsSpelledAs (named_table p.types) nodes u o told) at (subst (λ t. IsSpelledAs (named_table t) nodes (type_at (types_by_number t) id) o told) is h)

  pub stands_by : (o : Outcome Ref) → OutcomeStands (meaning p) nodes u o → OutcomeStands (types_meaning given) nodes (type_at (types_by_number given) id) o
  stands_by o h =
      subst (λ t. OutcomeStands (types_meaning t) nodes (type_at (types_by_number t) id) o) (sym is)
      (stands_in p.types p.functions.items p.code nodes (type_at (types_of p) id) o (subst (λ u. OutcomeStands (meaning p) nodes u o) (sym at) h))

-- the type of the argument, by the program that the code gives
pub argument_by : (p given : Program) (f : ℕ) (id : TyId) → given ≡ p → type_at (types_of given) id ≡ argument_type (meaning given) f → type_at (types_of p) id ≡ argument_type (meaning p) f
argument_by p given f id same at = subst (λ p. type_at (types_of p) id ≡ argument_type (meaning p) f) same at
