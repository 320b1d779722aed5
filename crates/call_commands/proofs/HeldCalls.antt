-- What a call that is held is to the prover and to the audit.
use Rattle.std.proofs.Common.{ℕ, ◌<◌, ◌≡◌, length, slice_index_or, sym, ap, subst}
use Rattle.sha2.specs.Sha256.{sha256}
use Rattle.core_terms.specs.Programs.{meaning, types_of}
use Rattle.core_terms.specs.RoleViews.{role_kind_of}
use Rattle.core_terms.specs.Roles.{argument_type}
use Rattle.core_terms.specs.RoleTypes.{ReadsState}
use Rattle.core_terms.specs.Terms as tree
use Rattle.core_terms.specs.TypeTables.{type_at}
use Rattle.core_terms.specs.Types.{Ty, UnitTy}
use Rattle.core_terms.specs.declared.program.Program.{Program}
use Rattle.mode_vm.specs.StateCalls.{IsCalledOn, TakesState}
use Rattle.value_store.specs.Standing.{StandsFor}
use Rattle.value_store.specs.Stores.{nodes_in}
use Rattle.command_parts.specs.CallsInStores.{HoldsCall}
use Rattle.command_parts.specs.IdealCalls as meant
use Rattle.command_parts.specs.RolesCalled.{CallsOnStates, prover_nodes}
use Rattle.command_parts.specs.declared.ideal_calls.IdealCall.{IdealCall}
use Rattle.command_parts.specs.declared.roles.Callee.{Callee}
use Rattle.command_parts.proofs.RoleShapes.{calls_reads, function_there, reader_takes}

module _ (callee : Callee) (p : Program) (held : IdealCall) (call : meant.IdealCall) (calls : CallsOnStates callee) (h : HoldsCall callee p held call) where
  abbrev f : ℕ
  f = held.called.function.0

  abbrev kind : tree.Kind
  kind = role_kind_of held.called.kind

  abbrev argument : Ty
  argument = type_at (types_of p) held.called.argument

  pub there : f < length (meaning p).functions
  there = function_there (meaning p) f kind argument h.called.answer h.called.shape

  reads : ReadsState kind
  reads = calls_reads callee kind calls h.called.called

  pub takes : TakesState (meaning p) f
  takes = (kind, argument, h.called.answer, h.called.shape, reads)

  argument_is : argument_type (meaning p) f ≡ argument
  argument_is = ap (λ ts. slice_index_or ts 1 UnitTy) (reader_takes (meaning p) f kind argument h.called.answer h.called.shape reads)

  pub called_on : IsCalledOn sha256 (meaning p) f (nodes_in held.store) held.state held.argument call.state call.argument
  called_on = record {
    state_stands = h.state;
    argument_stands = subst (λ t. StandsFor (prover_nodes p) (meaning p).types (nodes_in held.store) held.argument.0 t call.argument) (sym argument_is) h.argument;
  }
