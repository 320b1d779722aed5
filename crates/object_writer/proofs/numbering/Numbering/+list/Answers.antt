use Rattle.std.proofs.Common.{◌≤◌, ◌∙◌, length, ap, sym, subst, arith}
use Rattle.std.proofs.lemmas.Result.{err_from_is_err_and}
use Rattle.core_terms.specs.ProgramTypes.{types_by_number}
use Rattle.core_terms.specs.TypeTables.{type_at}
use Rattle.core_terms.specs.Types.{AuthTy, PairTy}
use Rattle.object_meaning.specs.WrittenObjects.{with_type}
use Rattle.object_writer.specs.Numberings.{AreTooMany, HasListedParts, IsListed, listed}
use Rattle.object_writer.proofs.ListedParts.{once_grows, too_many_more, type_grows, type_in, type_keeps, type_there}
use Rattle.object_writer.proofs.numbering.Numbering.+list.Goals as goal

pub returns-then-is_listed : goal.returns-then-is_listed
returns-then-is_listed t c =
    let listing = listed c.args.types.now c.args.self.now in
    record { right = c.requires; all = sym (type_there listing (type_at (types_by_number c.args.types.now) c.args.ty) c.requires.parts (sym c.is_listed.ensures ∙ c.if-is_listed.true)) }

pub returns-in_err-list-in-AuthForm : goal.returns-in_err-list-in-AuthForm
returns-in_err-list-in-AuthForm t c =
    let p = err_from_is_err_and c.from_residual.result c.from_residual.ensures.1 in
    let listing = listed c.args.types.now c.args.self.now in
    let part = type_at (types_by_number c.args.types.now) c.in-AuthForm.inner in
    rw (p.1, p.2) (subst (λ t. AreTooMany (with_type listing t) c.in_err-list-in-AuthForm.field-0.0) c.in-AuthForm.ensures.form
    (too_many_more (with_type listing part) (with_type listing (AuthTy part)) _ (once_grows (with_type listing part) (AuthTy part)) c.in_err-list-in-AuthForm.ensures))

pub list_once-requires-clause-parts : goal.list_once-requires-clause-parts
list_once-requires-clause-parts t c =
    let listing = listed c.args.types.now c.args.self.now in
    let part = type_at (types_by_number c.args.types.now) c.in-AuthForm.inner in
    let now = listed c.args.types.now c.list.new.self in
    subst (HasListedParts now) c.in-AuthForm.ensures.form (subst (λ l. IsListed l part) (sym c.in_ok-list-in-AuthForm.ensures.all) (type_in listing part))

pub returns-in_err-list-in-PairForm : goal.returns-in_err-list-in-PairForm
returns-in_err-list-in-PairForm t c =
    let p = err_from_is_err_and c.from_residual-in_err-list-in-PairForm.result c.from_residual-in_err-list-in-PairForm.ensures.1 in
    let listing = listed c.args.types.now c.args.self.now in
    let a = type_at (types_by_number c.args.types.now) c.in-PairForm.first in
    let b = type_at (types_by_number c.args.types.now) c.in-PairForm.second in
    let first = with_type listing a in
    let second = with_type first b in
    let grows : length first ≤ length (with_type listing (PairTy a b)) = omega (arith, type_grows first b, once_grows second (PairTy a b)) in
    rw (p.1, p.2) (subst (λ t. AreTooMany (with_type listing t) c.in_err-list-in-PairForm.field-0.0) c.in-PairForm.ensures.form
    (too_many_more first (with_type listing (PairTy a b)) _ grows c.in_err-list-in-PairForm.ensures))

pub returns-in_err-list-in-PairForm-2 : goal.returns-in_err-list-in-PairForm-2
returns-in_err-list-in-PairForm-2 t c =
    let p = err_from_is_err_and c.from_residual-in_err-list-in-PairForm-2.result c.from_residual-in_err-list-in-PairForm-2.ensures.1 in
    let listing = listed c.args.types.now c.args.self.now in
    let a = type_at (types_by_number c.args.types.now) c.in-PairForm.first in
    let b = type_at (types_by_number c.args.types.now) c.in-PairForm.second in
    let second = with_type (with_type listing a) b in
    let many = subst (λ l. AreTooMany (with_type l b) c.in_err-list-in-PairForm-2.field-0.0) c.in_ok-list-in-PairForm.ensures.all c.in_err-list-in-PairForm-2.ensures in
    rw (p.1, p.2) (subst (λ t. AreTooMany (with_type listing t) c.in_err-list-in-PairForm-2.field-0.0) c.in-PairForm.ensures.form
    (too_many_more second (with_type listing (PairTy a b)) _ (once_grows second (PairTy a b)) many))

pub list_once-requires-in-PairForm-clause-parts : goal.list_once-requires-in-PairForm-clause-parts
list_once-requires-in-PairForm-clause-parts t c =
    let listing = listed c.args.types.now c.args.self.now in
    let a = type_at (types_by_number c.args.types.now) c.in-PairForm.first in
    let b = type_at (types_by_number c.args.types.now) c.in-PairForm.second in
    let now = listed c.args.types.now c.list-in-PairForm-2.new.self in
    let is = c.in_ok-list-in-PairForm-2.ensures.all ∙ ap (λ l. with_type l b) c.in_ok-list-in-PairForm.ensures.all in
    subst (HasListedParts now) c.in-PairForm.ensures.form
    (subst (λ l. IsListed l a) (sym is) (type_keeps (with_type listing a) b a (type_in listing a)), subst (λ l. IsListed l b) (sym is) (type_in (with_type listing a) b))
