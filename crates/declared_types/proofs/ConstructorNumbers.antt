-- The constructors of named types are numbered one after another.
use Rattle.std.proofs.Common.{◌≡◌, ℕ, suc, ◌+◌, ◌<◌, List, [], ◌∷◌, ◌++◌, length, map, drop, slice_index_or, sym, ap, ◌∙◌, add-one, append_assoc, drop-cons}
use Rattle.std.proofs.lemmas.List.{map-append}
use Rattle.core_terms.specs.declared.term.Constructor.{Constructor}
use Rattle.core_terms.specs.declared.term.NamedType.{NamedType}
use Rattle.declared_types.specs.Signatures.{Numbered}
use Rattle.declared_types.specs.ScopeNames.{constructor_meant, constructors_meant, numbered, tagged}
use Rattle.declared_types.specs.declared.scope.ConstructorId.{ConstructorId}
use Rattle.declared_types.proofs.SoundNames.{there_within}

abbrev names_of : List Constructor → List (List ℕ)
names_of cs = map (λ (c : Constructor). c.name) cs

-- a constructor more of one type
pub tag_next : (n t : ℕ) (cs : List Constructor) (ids : List ConstructorId) (id : ConstructorId) (whole : List (Numbered ℕ)) → t < length cs
    → constructor_meant id ≡ record { number = n; value = t }
    → map constructor_meant ids ++ tagged n t (names_of (drop t cs)) ≡ whole
    → map constructor_meant (ids ++ id ∷ []) ++ tagged n (t + 1) (names_of (drop (t + 1) cs)) ≡ whole
tag_next n t cs ids id whole inside is so_far =
    let c : Constructor = (there_within cs t inside).0 in
    let next : drop t cs ≡ slice_index_or cs t c ∷ drop (t + 1) cs = rw add-one (drop-cons cs t c inside) in
    let rest = tagged n (t + 1) (names_of (drop (t + 1) cs)) in
    let one : Numbered ℕ = record { number = n; value = t } in
    ap (λ l. l ++ rest) (map-append constructor_meant ids (id ∷ [])) ∙ append_assoc (map constructor_meant ids) (constructor_meant id ∷ []) rest
    ∙ ap (λ (m : Numbered ℕ). map constructor_meant ids ++ (m ∷ rest)) is
    ∙ ap (λ l. map constructor_meant ids ++ tagged n t (names_of l)) (sym next)
    ∙ so_far

-- those of a type more
pub ids_next : (i : ℕ) (named : List NamedType) (t : NamedType) (ids new : List ConstructorId) (whole : List (Numbered ℕ)) → i < length named
    → t ≡ slice_index_or named i t
    → map constructor_meant new ≡ map constructor_meant ids ++ tagged i 0 (names_of t.constructors.items)
    → map constructor_meant ids ++ numbered i (constructors_meant (drop i named)) ≡ whole
    → map constructor_meant new ++ numbered (i + 1) (constructors_meant (drop (i + 1) named)) ≡ whole
ids_next i named t ids new whole inside is added so_far =
    let next : drop i named ≡ t ∷ drop (i + 1) named = rw add-one (drop-cons named i t inside ∙ ap (λ u. u ∷ drop (suc i) named) (sym is)) in
    let rest = numbered (i + 1) (constructors_meant (drop (i + 1) named)) in
    ap (λ l. l ++ rest) added ∙ append_assoc (map constructor_meant ids) (tagged i 0 (names_of t.constructors.items)) rest
    ∙ ap (λ l. map constructor_meant ids ++ numbered i (constructors_meant l)) (sym next) ∙ so_far
