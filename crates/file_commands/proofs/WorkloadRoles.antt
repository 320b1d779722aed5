-- What a workload calls: its roles, by their kinds and the types of their arguments.
use Rattle.std.proofs.Common.{◌≡◌, ℕ, Bool, true, false, Option, Some, cond, refl, ap, ap₂, ◌∙◌, subst, slice_index_or}
use Rattle.core_terms.specs.Roles.{argument_type}
use Rattle.core_terms.specs.RoleTypes.{IsRole, ReadsState}
use Rattle.core_terms.specs.Terms.{Kind, Inner, Init, Query, Update, Program}
use Rattle.core_terms.specs.Types.{Ty, UnitTy, BoolTy, IntTy, TextTy, PairTy, NamedTy, AuthTy, VecTy}
use Rattle.printed_lines.specs.declared.refusal.InputFault.TheVariants.{RoleKind}
use Rattle.command_parts.specs.WorkloadAnswers.{is_entry, is_get, is_key, is_put, with_shape}
use Rattle.command_parts.specs.AnswerForms.{Answer}
use Rattle.command_parts.specs.RefusedAnswers.{input_refused}
use Rattle.command_parts.proofs.RoleShapes.{kind_is, reader_takes}

module _ (test : Kind → Ty → Bool) (P : Program) (f : ℕ) (kind : Kind) (argument answer : Ty) (role : IsRole P f kind argument answer) (reads : ReadsState kind)
    (go : ℕ → Option Answer) where
  -- the type of the role's argument
  argument_is : argument_type P f ≡ argument
  argument_is = ap (λ ts. slice_index_or ts 1 UnitTy) (reader_takes P f kind argument answer role reads)

  tested : (b : Bool) → test kind argument ≡ b → with_shape test P f go ≡ cond b (go f) (Some (input_refused RoleKind))
  tested b is =
      ap (λ t. cond t (go f) (Some (input_refused RoleKind)))
      (ap₂ test (kind_is P f kind argument answer role) argument_is ∙ is)

  pub shape_goes : test kind argument ≡ true → with_shape test P f go ≡ go f
  shape_goes is = tested true is

  pub shape_refused : test kind argument ≡ false → with_shape test P f go ≡ Some (input_refused RoleKind)
  shape_refused is = tested false is

-- what passes the tests
pub key_is : (t : Ty) → is_key t ≡ true → t ≡ IntTy
key_is IntTy is = refl
key_is UnitTy is = absurd (cc)
key_is BoolTy is = absurd (cc)
key_is TextTy is = absurd (cc)
key_is (PairTy a b) is = absurd (cc)
key_is (NamedTy n) is = absurd (cc)
key_is (AuthTy t) is = absurd (cc)
key_is (VecTy n t) is = absurd (cc)

both : (a b : Bool) → cond a b false ≡ true → (a ≡ true) × (b ≡ true)
both true b is = (refl, is)
both false b is = absurd (cc)

entry_is : (t : Ty) → is_entry t ≡ true → t ≡ PairTy IntTy IntTy
entry_is (PairTy a b) is = let keys = both (is_key a) (is_key b) is in ap₂ PairTy (key_is a keys.0) (key_is b keys.1)
entry_is IntTy is = absurd (cc)
entry_is UnitTy is = absurd (cc)
entry_is BoolTy is = absurd (cc)
entry_is TextTy is = absurd (cc)
entry_is (NamedTy n) is = absurd (cc)
entry_is (AuthTy t) is = absurd (cc)
entry_is (VecTy n t) is = absurd (cc)

module _ (P : Program) (f : ℕ) where
  pub put_shape : (kind : Kind) (argument answer : Ty) → is_put kind argument ≡ true → IsRole P f kind argument answer → IsRole P f Update (PairTy IntTy IntTy) answer
  put_shape Update argument answer is role = subst (λ t. IsRole P f Update t answer) (entry_is argument is) role
  put_shape Inner argument answer is role = absurd (cc)
  put_shape Init argument answer is role = absurd (cc)
  put_shape Query argument answer is role = absurd (cc)

  pub get_shape : (kind : Kind) (argument answer : Ty) → is_get kind argument ≡ true → IsRole P f kind argument answer → IsRole P f Query IntTy answer
  get_shape Query argument answer is role = subst (λ t. IsRole P f Query t answer) (key_is argument is) role
  get_shape Inner argument answer is role = absurd (cc)
  get_shape Init argument answer is role = absurd (cc)
  get_shape Update argument answer is role = absurd (cc)
