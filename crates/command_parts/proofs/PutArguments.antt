-- The value of a literal, put into a store: it stands there over the prover's nodes, since nothing in it is authenticated.
use Rattle.std.proofs.Common.{◌≡◌, ℕ, List, [], Option, Result, Ok, Err, IsErrAnd, sym, ap, ◌∙◌, subst}
use Rattle.core_terms.specs.Programs.{constructor_names, meaning}
use Rattle.core_terms.specs.ProgramTypes.{types_meaning}
use Rattle.core_terms.specs.Projection.{read_at}
use Rattle.core_terms.specs.Reading.{BadAt, Good}
use Rattle.core_terms.specs.RoleTypes.{IsPlain}
use Rattle.core_terms.specs.Types.{Ty}
use Rattle.core_terms.specs.Values.{Value}
use Rattle.core_terms.specs.declared.fault.Fault.TheVariants as literal_fault
use Rattle.core_terms.specs.declared.types.TyId.{TyId}
use Rattle.core_terms.specs.declared.program.Program.{Program}
use Rattle.core_terms.specs.declared.program_types.Types.{Types}
use Rattle.core_terms.proofs.CodePrograms.{is_format}
use Rattle.printed_syntax.specs.LiteralAnswers.{LiteralFault, ReadsLiteral, SpellsLiteral}
use Rattle.printed_syntax.specs.LiteralLaws.{IsLiteralValue}
use Rattle.printed_syntax.specs.Literals.{ConstructorNames, literal_in}
use Rattle.printed_syntax.proofs.LiteralsReadBack.{literals_are_read_back}
use Rattle.value_store.specs.Nodes.{Node}
use Rattle.value_store.specs.Standing.{StandsFor, VerifierNodes}
use Rattle.value_store.specs.declared.node.Ref.{Ref}
use Rattle.shallow_codec.specs.ProgramTypes.{table, ty_of}
use Rattle.shallow_codec.specs.Unspelled.{IsUnspelled}
use Rattle.shallow_codec.specs.declared.fault.UnspellFault.{UnspellFault}
use Rattle.shallow_codec.specs.declared.fault.UnspellFault.TheVariants.{Bad}
use Rattle.shallow_codec.proofs.LawProofs.{plain_stands}
use Rattle.command_parts.specs.FileInputs.{with_literal}
use Rattle.command_parts.specs.AnswerForms.{Answer}
use Rattle.command_parts.specs.FueledRoles.{NamedProgram}
use Rattle.command_parts.specs.Halting.{StepGivesFor, InHand, of_literal_fault}
use Rattle.command_parts.specs.ReadPrograms.{named_of}
use Rattle.command_parts.specs.RoleCalls.{named_literal}
use Rattle.command_parts.specs.RolesCalled.{prover_nodes}
use Rattle.command_parts.specs.declared.report.Halt.{Halt}

-- what was read by the types of a program was read by the program
pub read_by_types : (p : Program) (types : Types) → types ≡ p.types → (nodes : List Node) (ty : TyId) (bytes : List ℕ) (result : Result Ref UnspellFault)
    → IsUnspelled (table types) nodes (ty_of types ty) (read_at (types_meaning types) (ty_of types ty) bytes) result
    → IsUnspelled (meaning p).types nodes (ty_of p.types ty) (read_at (meaning p) (ty_of p.types ty) bytes) result
read_by_types p types is nodes ty bytes result h =
    subst (λ (t : Types). IsUnspelled (table t) nodes (ty_of t ty) (read_at (types_meaning t) (ty_of t ty) bytes) result) is h

-- a text that is no literal of a type is refused
pub literal_refused_for : {T : Type 0} (p : NamedProgram) (t : Ty) (text : List ℕ) (Stands : T → Value → Type 0) (fault : LiteralFault) (result : Result T Halt)
    → IsErrAnd result (λ halt. halt ≡ of_literal_fault fault) → ReadsLiteral (literal_in p.digested.program p.names t text) (Err fault)
    → InHand (StepGivesFor (with_literal (named_literal p t text)) Stands) result
unfolding named_literal
literal_refused_for p t text Stands fault (Ok v) halt is = absurd halt
literal_refused_for p t text Stands (literal_fault.At kind offset) (Err h) halt is =
    subst (λ h. InHand (StepGivesFor (with_literal (named_literal p t text)) Stands) (Err h)) (sym halt) (λ go. ap (λ found. with_literal found go) is)
literal_refused_for p t text Stands literal_fault.NoMemory (Err h) halt is =
    subst (λ h. InHand (StepGivesFor (with_literal (named_literal p t text)) Stands) (Err h)) (sym halt) (λ go. tt)

abbrev names_of : Program → ConstructorNames
names_of p = constructor_names p.types.named.items

module _ (p : Program) (t : Ty) (text bytes : List ℕ) (spelled : SpellsLiteral (literal_in (meaning p) (names_of p) t text) bytes) where
  read_back : (place : ℕ) × (read_at (meaning p) t bytes ≡ Good spelled.0 [] place)
  read_back =
      let written : IsLiteralValue (meaning p) t spelled.0 = literals_are_read_back (meaning p) (is_format p).limit_fits (names_of p) t text spelled.0 spelled.1 in
      (written.read_back.0, ap (λ bs. read_at (meaning p) t bs) (sym spelled.2) ∙ written.read_back.1)

  -- its spelling is not refused
  not_bad : (offset : ℕ) → read_at (meaning p) t bytes ≡ BadAt offset → ⊥
  not_bad offset is = let good = read_back.1 in absurd (cc)

  pub put_refused : (nodes : List Node) (lent : List ℕ) (fault : UnspellFault) (offset : ℕ) → lent ≡ bytes → fault ≡ Bad offset
      → IsUnspelled (meaning p).types nodes t (read_at (meaning p) t lent) (Err fault) → ⊥
  put_refused nodes lent fault offset same is told =
      not_bad offset (ap (λ bs. read_at (meaning p) t bs) (sym same) ∙ subst (λ fault. IsUnspelled (meaning p).types nodes t (read_at (meaning p) t lent) (Err fault)) is told)

  -- what stands for it over the verifier's nodes does so over the prover's
  pub put_stands : (nodes : List Node) (r : ℕ) (v : Value) (place : ℕ) → IsPlain (meaning p).types t → read_at (meaning p) t bytes ≡ Good v [] place
      → StandsFor VerifierNodes (meaning p).types nodes r t v → StandsFor (prover_nodes p) (meaning p).types nodes r t spelled.0
  put_stands nodes r v place plain is stands =
      let good = read_back.1 in
      let same : v ≡ spelled.0 = cc in
      plain_stands VerifierNodes (prover_nodes p) (meaning p).types nodes t spelled.0 r plain (subst (λ v. StandsFor VerifierNodes (meaning p).types nodes r t v) same stands)

  -- it is what is gone on with
  pub literal_goes_on : (go : Value → Option Answer) → with_literal (named_literal (named_of p) t text) go ≡ go spelled.0
  unfolding named_literal
  literal_goes_on go = ap (λ found. with_literal found go) spelled.1
