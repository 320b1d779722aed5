-- The records of a whole program's image, by their first bytes.
use Rattle.std.proofs.Common.{◌≡◌, ℕ, zero, suc, ◌+◌, ◌<◌, ◌≤◌, true, List, [], ◌∷◌, length, take, drop, Option, Some, None, slice_get, slice_index_or, refl, sym, ap, ◌∙◌, subst, arith, le-leb, get_or-drop}
use Rattle.std.proofs.lemmas.Option.{slice_get-get_or}
use Rattle.std.specs.List.{list_all}
use Rattle.std.specs.Int.{w16, from_be_bytes}
use Rattle.core_terms.specs.ProgramTrees.{are_below, has_fields_below}
use Rattle.core_terms.specs.declared.term.Constructor.{Constructor}
use Rattle.core_terms.specs.declared.term.NamedType.{NamedType}
use Rattle.core_terms.proofs.SameTypes.{first_of, second_of}
use Rattle.images.specs.Records.{NoRecord, con_record}
use Rattle.images.proofs.PartMarking.{fields_below_at}

-- an element that is there
pub found : {A : Type 0} (xs : List A) (n : ℕ) (x : A) → n < length xs → x ≡ slice_index_or xs n x → slice_get xs n ≡ Some x
found xs n x h e = slice_get-get_or xs n x h ∙ ap Some (sym e)

-- the types of the fields of a constructor are in the table
pub fields_below : (count : ℕ) (named : List NamedType) (n tag : ℕ) (d : NamedType) (c : Constructor) → list_all (has_fields_below count) named ≡ true → slice_get named n ≡ Some d
    → slice_get d.constructors.items tag ≡ Some c → are_below count c.fields.items ≡ true
fields_below count [] n tag d c h there at = absurd (cc)
fields_below count (x ∷ xs) zero tag d c h there at =
    let same : x ≡ d = cc in
    fields_below_at count d.constructors.items tag c (subst (λ d. has_fields_below count d ≡ true) same (first_of _ _ h)) at
fields_below count (x ∷ xs) (suc n) tag d c h there at = fields_below count xs n tag d c (second_of (has_fields_below count x) _ h) there at

-- no such constructor
pub no_constructor : (count : ℕ → ℕ → Option ℕ) (bytes head behind rest : List ℕ) (number tag : ℕ) → head ≡ take 2 bytes → behind ≡ drop 2 bytes → length behind + 2 ≡ length bytes
    → behind ≡ tag ∷ rest → number ≡ from_be_bytes w16 head → count number tag ≡ None → con_record count bytes ≡ NoRecord
no_constructor count bytes head behind rest number tag is_head is_behind long is_tagged is_number none =
    let one : 1 ≤ length behind = rw is_tagged (one_more rest) in
    let three = le-leb 3 (length bytes) (omega (arith, long, one)) in
    let said : from_be_bytes w16 (take 2 bytes) ≡ number = sym (is_number ∙ ap (from_be_bytes w16) is_head) in
    let told : slice_index_or bytes 2 0 ≡ tag = sym (get_or-drop 2 bytes 0 0) ∙ ap (λ bs. slice_index_or bs 0 0) (sym is_behind ∙ is_tagged) in
    rw (three, said, told, none) refl
  where
    one_more : (rest : List ℕ) → 1 ≤ suc (length rest)
    one_more rest = omega arith
