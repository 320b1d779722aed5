use Rattle.std.proofs.Common.{◌≡◌, ℕ, ◌<◌, ◌∙◌, List, Some, length, slice_get, slice_index_or, sym, ap, arith}
use Rattle.std.proofs.lemmas.Option.{slice_get-get_or}
use Rattle.core_terms.specs.ProgramTypes.{types_by_number}
use Rattle.core_terms.proofs.Constructors.{constructor_place, constructor_fields, tag_fits}
use Rattle.core_terms.proofs.program_types.Types.constructor.Goals as goal

-- an element that is there
found : {A : Type 0} (xs : List A) (n : ℕ) (x : A) → n < length xs → x ≡ slice_index_or xs n x → slice_get xs n ≡ Some x
found xs n x h e = slice_get-get_or xs n x h ∙ ap Some (sym e)

pub returns-in_err-place-clause-tag : goal.returns-in_err-place-clause-tag
returns-in_err-place-clause-tag c =
    let lookup = rw c.deref.ensures.value at c.in_ok-declared.ensures.lookup in
    let there : slice_get c.args.self.now.named.items c.args.named.0 ≡ Some c.in_ok-declared.declared.now =
    found c.args.self.now.named.items c.args.named.0 c.in_ok-declared.declared.now lookup.3.0 lookup.1 in
    rw c.from_residual-in_err-place.ensures ((rw c.deref-2.ensures.value at c.in_err-place.ensures.place)
    ∙ constructor_place c.args.self.now.named.items c.args.named.0 c.in_ok-declared.declared.now c.args.name.now there)

pub overflow_cast-result : goal.overflow_cast-result
overflow_cast-result c =
    let lookup = rw c.deref.ensures.value at c.in_ok-declared.ensures.lookup in
    let there : slice_get c.args.self.now.named.items c.args.named.0 ≡ Some c.in_ok-declared.declared.now =
    found c.args.self.now.named.items c.args.named.0 c.in_ok-declared.declared.now lookup.3.0 lookup.1 in
    let within : c.in_ok-place.place < length c.in_ok-declared.declared.now.constructors.items = rw c.deref-2.ensures.value at c.in_ok-place.ensures.within in
    omega (arith, within, tag_fits (types_by_number c.args.self.now) c.args.self.now.named.items c.args.named.0 c.in_ok-declared.declared.now there c.args.self.now.tags)

pub returns-clause-tag : goal.returns-clause-tag
returns-clause-tag c =
    let lookup = rw c.deref.ensures.value at c.in_ok-declared.ensures.lookup in
    let there : slice_get c.args.self.now.named.items c.args.named.0 ≡ Some c.in_ok-declared.declared.now =
    found c.args.self.now.named.items c.args.named.0 c.in_ok-declared.declared.now lookup.3.0 lookup.1 in
    (rw c.deref-2.ensures.value at c.in_ok-place.ensures.place)
    ∙ constructor_place c.args.self.now.named.items c.args.named.0 c.in_ok-declared.declared.now c.args.name.now there

pub returns-clause-fields : goal.returns-clause-fields
returns-clause-fields c =
    let lookup = rw c.deref.ensures.value at c.in_ok-declared.ensures.lookup in
    let there : slice_get c.args.self.now.named.items c.args.named.0 ≡ Some c.in_ok-declared.declared.now =
    found c.args.self.now.named.items c.args.named.0 c.in_ok-declared.declared.now lookup.3.0 lookup.1 in
    let within : c.in_ok-place.place < length c.in_ok-declared.declared.now.constructors.items = rw c.deref-2.ensures.value at c.in_ok-place.ensures.within in
    let at : slice_get c.in_ok-declared.declared.now.constructors.items c.in_ok-place.place ≡ Some c.index.result.now =
    found c.in_ok-declared.declared.now.constructors.items c.in_ok-place.place c.index.result.now within c.index.ensures in
    rw c.deref-3.ensures.value
    (constructor_fields (types_by_number c.args.self.now) c.args.self.now.named.items c.args.named.0 c.in_ok-place.place c.in_ok-declared.declared.now c.index.result.now there at)
