-- A scope stands for the same over more types.
use Rattle.std.proofs.Common.{◌≡◌, ℕ, ◌+◌, ◌<◌, ◌≤◌, List, [], ◌∷◌, length, map, slice_index_or, refl, ap, ◌∙◌, arith, length-append}
use Rattle.std.specs.Prelude.{All}
use Rattle.std.proofs.Math.ListN.{get_or-append}
use Rattle.std.proofs.lemmas.List.Elements.{All-head, All-tail, All-weaker}
use Rattle.core_terms.specs.Types.{Ty, UnitTy}
use Rattle.core_terms.specs.declared.format.Format.{Format}
use Rattle.core_terms.specs.TypeTables.{type_at}
use Rattle.core_terms.specs.ProgramTrees.{table_of, types_at}
use Rattle.core_terms.specs.declared.types.TyId.{TyId}
use Rattle.core_terms.specs.declared.term.Constructor.{Constructor}
use Rattle.core_terms.specs.declared.term.NamedType.{NamedType}
use Rattle.declared_types.specs.OverTypes.{Grows}
use Rattle.declared_types.specs.Scopes.{AreWithin, IsConstructorWithin, IsHeadWithin, IsNamedWithin, IsWithin, scope_meant, signature_meant}
use Rattle.declared_types.specs.declared.scope.Head.{Head}
use Rattle.declared_types.specs.declared.scope.Scope.{Scope}

-- two functions that agree on each element
pub map_same : {A B : Type 0} (f g : A → B) (xs : List A) → All (λ x. f x ≡ g x) xs → map f xs ≡ map g xs
map_same f g [] same = refl
map_same f g (x ∷ xs) same =
    let here : f x ≡ g x = All-head (λ x. f x ≡ g x) x xs same in
    let rest : map f xs ≡ map g xs = map_same f g xs (All-tail (λ x. f x ≡ g x) x xs same) in
    cc

module _ (a b : List Ty) (grows : Grows a b) where
  -- a number within stands for its type
  pub type_stays_at : (id : TyId) → id.0 < length a → type_at b id ≡ type_at a id
  type_stays_at id inside = ap (λ types. slice_index_or types id.0 UnitTy) grows.1 ∙ get_or-append a grows.0 UnitTy id.0 inside

  pub types_stay_at : (ids : List TyId) → AreWithin (length a) ids → types_at b ids ≡ types_at a ids
  types_stay_at ids within = map_same (type_at b) (type_at a) ids
      (All-weaker (λ (id : TyId). id.0 < length a) (λ id. type_at b id ≡ type_at a id) type_stays_at ids within)

  pub signature_stays : (head : Head) → IsHeadWithin (length a) head → signature_meant b head ≡ signature_meant a head
  signature_stays head within =
      let parameters = types_stay_at head.parameters.items within.parameters in
      let result = type_stays_at head.result within.result in
      cc

  constructors_stay : (cs : List Constructor) → All (IsConstructorWithin (length a)) cs
      → map (λ (c : Constructor). types_at b c.fields.items) cs ≡ map (λ (c : Constructor). types_at a c.fields.items) cs
  constructors_stay cs within =
      map_same (λ (c : Constructor). types_at b c.fields.items) (λ (c : Constructor). types_at a c.fields.items) cs
      (All-weaker (IsConstructorWithin (length a)) (λ (c : Constructor). types_at b c.fields.items ≡ types_at a c.fields.items)
      (λ c h. types_stay_at c.fields.items h) cs within)

  pub table_stays : (named : List NamedType) → All (IsNamedWithin (length a)) named → table_of b named ≡ table_of a named
  table_stays [] within = refl
  table_stays (t ∷ named) within =
      let here = constructors_stay t.constructors.items (All-head (IsNamedWithin (length a)) t named within) in
      let rest = table_stays named (All-tail (IsNamedWithin (length a)) t named within) in
      cc

  pub scope_stays : (format : Format) (scope : Scope) → IsWithin (length a) scope → scope_meant format b scope ≡ scope_meant format a scope
  scope_stays format scope within =
      let functions = map_same (signature_meant b) (signature_meant a) scope.heads.items
      (All-weaker (IsHeadWithin (length a)) (λ (head : Head). signature_meant b head ≡ signature_meant a head) signature_stays scope.heads.items
      within.heads) in
      let table = table_stays scope.named.items within.named in
      cc

-- what is within is within more
ids_more : (m n : ℕ) (ids : List TyId) → m ≤ n → AreWithin m ids → AreWithin n ids
ids_more m n ids more within = λ k d inside. let below = within k d inside in omega (arith, below)

head_more : (m n : ℕ) (head : Head) → m ≤ n → IsHeadWithin m head → IsHeadWithin n head
head_more m n head more within = record {
  parameters = ids_more m n head.parameters.items more within.parameters;
  result = let below = within.result in omega (arith, below);
}

pub within_more : (m n : ℕ) (scope : Scope) → m ≤ n → IsWithin m scope → IsWithin n scope
within_more m n scope more within = record {
  heads = All-weaker (IsHeadWithin m) (IsHeadWithin n) (λ head h. head_more m n head more h) scope.heads.items within.heads;
  named = All-weaker (IsNamedWithin m) (IsNamedWithin n) (λ (t : NamedType) h. All-weaker (IsConstructorWithin m) (IsConstructorWithin n)
      (λ (c : Constructor) h. ids_more m n c.fields.items more h) t.constructors.items h) scope.named.items within.named;
}

-- a table that grows is as long or longer
pub grows_length : (a b : List Ty) → Grows a b → length a ≤ length b
grows_length a b (more, is) = let whole : length b ≡ length a + length more = ap length is ∙ length-append a more in omega (arith, whole)
