-- Lemmas of what is read of bytes, and of its judgement.
use Rattle.std.proofs.Common.{◌≡◌, ◌<◌, ◌≤◌, ℕ, suc, List, [], ◌∷◌, length, get_or, Result, Ok, Err, Option, None, option_map, sym, ap, ◌∙◌, subst, arith}
use Rattle.core_terms.specs.ProgramSizes.{IsWithinLimits}
use Rattle.core_terms.specs.Kinds.{kind_fault}
use Rattle.core_terms.specs.Programs.{meaning}
use Rattle.core_terms.specs.Terms as terms
use Rattle.core_terms.specs.TypeNames.{all_constructor_names}
use Rattle.core_terms.specs.declared.program.Program.{Program}
use Rattle.core_terms.specs.declared.term.NamedType.{NamedType}
use Rattle.core_terms.specs.GeneratedCode.{generated}
use Rattle.object_meaning.specs.Accepting as meant
use Rattle.object_meaning.specs.Accepting.{accepting, read_judged, shape_fault, shapes_judged, kinds_judged, Accepts, FirstFault}
use Rattle.object_meaning.specs.ObjectBodies.{body_in, program_in}
use Rattle.object_meaning.specs.Objects.{Object}
use Rattle.object_meaning.specs.ObjectLaws.{IsSoundProgram}
use Rattle.object_meaning.proofs.ObjectPrograms.{objects_are_bodies, objects_are_sound}
use Rattle.object_meaning.proofs.ReadWithin.{objects_are_within}
use Rattle.object_reader.specs.WholeObjects.{ReadsObject}
use Rattle.object_reader.specs.declared.fault.ObjectFault.{ObjectFault as ReadFault}
use Rattle.object_reader.specs.declared.fault.ObjectFault.TheVariants as read
use Rattle.code_check.specs.Acceptances.{AcceptsAs, AreParts, JudgesAs}
use Rattle.code_check.specs.Faults.{FaultsAs, of_read_fault}
use Rattle.code_check.specs.ObjectParts.{parts_program, spot_of}
use Rattle.code_check.specs.declared.fault.ObjectFault.{ObjectFault}
use Rattle.code_check.specs.declared.kinds.Spot.{Spot}
use Rattle.code_check.specs.declared.parts.Parts.{Parts}

-- a fault of reading is the first one
pub read_faults : (bytes : List ℕ) (fault : ReadFault) → ReadsObject bytes (Err fault) → FaultsAs (accepting bytes) (of_read_fault fault)
read_faults bytes (read.Cut size) h = ap (read_judged (length bytes)) h.0 ∙ ap (λ n. FirstFault (meant.Cut n)) (sym h.1)
read_faults bytes (read.BadField offset) h = ap (read_judged (length bytes)) h
read_faults bytes (read.Leftover size) h = ap (read_judged (length bytes)) h.3 ∙ by h.1 h.4 h.5
  where
    by : (rest : List ℕ) → size ≡ length rest → 0 < size → meant.end_judged h.0 rest ≡ FirstFault (meant.Leftover size)
    by [] is some = absurd (omega (arith, is, some))
    by (b ∷ rest) is some = ap (λ n. FirstFault (meant.Leftover n)) (sym is)
read_faults bytes read.NoMemory h = tt

-- JUDGEMENT
module _ (o : Object) (P : terms.Program) (is : P ≡ program_in o) where
  -- where each role has its shape, kinds are judged
  pub kinds_left : (s : Option ℕ) → s ≡ shape_fault P → s ≡ None → (r : Result (Unit {0}) ObjectFault) → JudgesAs o (kinds_judged o (kind_fault (body_in o))) r → JudgesAs o (shapes_judged o (shape_fault (program_in o))) r
  kinds_left s told none r h =
      let here : None ≡ shape_fault (program_in o) = sym none ∙ told ∙ ap shape_fault is in
      subst (λ s. JudgesAs o (shapes_judged o s) r) here h

  pub kinds_told : (k : Option Spot) → option_map spot_of k ≡ kind_fault (generated P) → kinds_judged o (kind_fault (body_in o)) ≡ kinds_judged o (option_map spot_of k)
  kinds_told k told = ap (kinds_judged o) (ap kind_fault (sym (objects_are_bodies o)) ∙ ap (λ P. kind_fault (generated P)) (sym is) ∙ sym told)

module _ (bytes : List ℕ) (parts : Parts) (a : AreParts bytes parts) (passed : shapes_judged a.object (shape_fault (program_in a.object)) ≡ Accepts a.object) where
  accepted : accepting bytes ≡ Accepts a.object
  accepted = a.told ∙ passed

  pub is_sound : IsSoundProgram (parts_program parts)
  is_sound = subst IsSoundProgram (sym a.program) (objects_are_sound bytes a.object accepted)

  pub is_within : length bytes ≤ 4194304 → IsWithinLimits (parts_program parts)
  is_within fits = subst IsWithinLimits (sym a.program) (objects_are_within bytes a.object fits accepted)

  pub is_accepted : (program : Program) → meaning program ≡ parts_program parts → program.types.named.items ≡ parts.named.items → AcceptsAs (accepting bytes) (Ok program)
  is_accepted program means named = (a.object, accepted, record { meaning = means ∙ a.program; names = ap (λ (named : List NamedType). all_constructor_names named) named ∙ a.names })
