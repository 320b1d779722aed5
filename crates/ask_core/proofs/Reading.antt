-- What is read of bytes before they are sent: `check_state`, `spelled_call`.
use Rattle.std.proofs.Common.{◌≡◌, ℕ, true, List, Err, sym, ap, ◌∙◌, subst}
use Rattle.code_gen.specs.Programs.{program_in}
use Rattle.code_gen.specs.declared.code.Code.{Code}
use Rattle.core_terms.specs.Programs.{meaning, types_of}
use Rattle.core_terms.specs.ProgramTypes.{types_by_number, types_meaning}
use Rattle.core_terms.specs.Projection.{read_at}
use Rattle.core_terms.specs.Reading.{Read, BadAt}
use Rattle.core_terms.specs.RoleViews.{role_of}
use Rattle.core_terms.specs.Roles as definition
use Rattle.core_terms.specs.TypeTables.{type_at}
use Rattle.core_terms.specs.Values.{Value}
use Rattle.core_terms.specs.declared.program.Program.{Program}
use Rattle.core_terms.specs.declared.program_types.Types.{Types}
use Rattle.core_terms.specs.declared.roles.Role.{Role}
use Rattle.core_terms.specs.declared.types.TyId.{TyId}
use Rattle.mode_vm.specs.Meanings.{program_of}
use Rattle.session_meaning.specs.Calls.{reads_state, role_in}
use Rattle.shallow_codec.specs.Unspelled.{IsRead}
use Rattle.shallow_codec.specs.declared.fault.UnspellFault.{UnspellFault}
use Rattle.shallow_codec.specs.declared.fault.UnspellFault.TheVariants as unspell

-- bytes that are refused, at the offset of the fault
pub bad_at : (read : Read Value) (fault : UnspellFault) (offset : ℕ) → fault ≡ unspell.Bad offset → IsRead {A = Unit {0}} read (Err fault) → read ≡ BadAt offset
bad_at read fault offset e bad = subst (λ f. IsRead {A = Unit {0}} read (Err f)) e bad

module _ (code : Code) (types : Types) (same : types ≡ (program_in code).types) (bytes : List ℕ) where
  -- a type of the program is read by its types alone
  at_type : (id : TyId) → read_at (program_of code) (type_at (types_of (program_in code)) id) bytes ≡ read_at (types_meaning types) (type_at (types_by_number types) id) bytes
  at_type id = ap (λ (types : Types). read_at (types_meaning types) (type_at (types_by_number types) id) bytes) (sym same)

  pub at_state : (id : TyId) → type_at (types_by_number types) id ≡ (types_meaning types).state
      → read_at (program_of code) (program_of code).state bytes ≡ read_at (types_meaning types) (type_at (types_by_number types) id) bytes
  at_state id is =
      ap (λ (types : Types). read_at (types_meaning types) (types_meaning types).state bytes) (sym same)
      ∙ ap (λ t. read_at (types_meaning types) t bytes) (sym is)

  module _ (program : Program) (is : program ≡ program_in code) (number : ℕ) (role : Role)
      (called : (role_of (types_of program) role ≡ role_in (meaning program) number) × (reads_state (role_in (meaning program) number).kind ≡ true)) where
    pub role_reads : reads_state (role_in (program_of code) number).kind ≡ true
    role_reads = subst (λ (p : Program). reads_state (role_in (meaning p) number).kind ≡ true) is called.1

    pub at_argument : read_at (program_of code) (role_in (program_of code) number).argument bytes ≡ read_at (types_meaning types) (type_at (types_by_number types) role.argument) bytes
    at_argument =
        let there = subst (λ (p : Program). role_of (types_of p) role ≡ role_in (meaning p) number) is called.0 in
        ap (λ (r : definition.Role). read_at (program_of code) r.argument bytes) (sym there) ∙ at_type role.argument
