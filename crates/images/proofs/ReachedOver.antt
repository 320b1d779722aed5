-- A node that is met from one that stands over the prover's nodes stands over them too.
use Rattle.std.proofs.Common.{◌≡◌, ℕ, zero, suc, List, [], ◌∷◌, Option, Some, None, slice_get, sym, ap, ◌∙◌, subst}
use Rattle.std.specs.Option.{option_map_or}
use Rattle.core_terms.specs.Types.{Ty, UnitTy, BoolTy, IntTy, TextTy, PairTy, NamedTy, AuthTy, VecTy, Table, fields_at, item_types, OnFields}
use Rattle.core_terms.specs.Values.{Value, UnitV, BoolV, IntV, TextV, PairV, ConV, ItemsV, Values, NoV, AndV}
use Rattle.value_store.specs.Nodes.{Held, InnerHeld, BothHeld, OnlyHeld, Form, UnitNode, BoolNode, IntNode, TextNode, PairNode, ConNode, AuthNode, VecNode, Node, form_at, inner_refs, refs_in}
use Rattle.value_store.specs.Standing.{AllStandFor, Holds, IdealNodes, ProverNodes, StandsFor}
use Rattle.value_store.proofs.ProverNodes.{shown_ideal}
use Rattle.images.specs.Images.{Entry, entry}
use Rattle.images.specs.Reached.{Itself, PartOf, Reaches}
use Rattle.images.proofs.NodeEntries.{refs_at}
use Rattle.images.proofs.SavingWalk.{same_entries}

module _ (digest_of : Ty → List ℕ → List ℕ) (types : Table) (nodes : List Node) where
  -- the node stands for some value of some type
  pub record Stood (r : ℕ) : Type 0 where
    pub of_type : Ty
    pub value : Value
    pub stands : StandsFor (ProverNodes digest_of) types nodes r of_type value

  stood : (r : ℕ) (t : Ty) (v : Value) → StandsFor (ProverNodes digest_of) types nodes r t v → Stood r
  stood r t v h = record { of_type = t; value = v; stands = h }

  in_form : (r : ℕ) (form : Form) (i p : ℕ) → form_at nodes r ≡ Some form → slice_get (refs_at nodes r) i ≡ Some p → slice_get (refs_in form) i ≡ Some p
  in_form r form i p is at = ap (λ o. slice_get (option_map_or refs_in o []) i) (sym is) ∙ at

  one_of : (r : ℕ) (i p : ℕ) → Stood r → slice_get (r ∷ []) i ≡ Some p → Stood p
  one_of r zero p h at = let same : r ≡ p = cc in subst Stood same h
  one_of r (suc i) p h at = absurd (cc)

  two_of : (a b i p : ℕ) → Stood a → Stood b → slice_get (a ∷ b ∷ []) i ≡ Some p → Stood p
  two_of a b zero p h j at = let same : a ≡ p = cc in subst Stood same h
  two_of a b (suc i) p h j at = one_of b i p j at

  none_of : (i p : ℕ) → slice_get [] i ≡ Some p → Stood p
  none_of i p at = absurd (cc)

  held_of : (held : Held) (t : Ty) (v : Value) (i p : ℕ) → Holds (ProverNodes digest_of) types held t v (λ r. StandsFor (ProverNodes digest_of) types nodes r t v)
      → slice_get (inner_refs held) i ≡ Some p → Stood p
  held_of (BothHeld digest inner) t v i p h at = one_of inner i p (stood inner t v h.0) at
  held_of (InnerHeld inner) t v i p h at = elim h [ ]
  held_of (OnlyHeld digest) t v i p h at = elim h [ ]

  all_of : (rs : List ℕ) (ts : List Ty) (vs : Values) (i p : ℕ) → AllStandFor (ProverNodes digest_of) types nodes rs ts vs → slice_get rs i ≡ Some p → Stood p
  all_of [] [] NoV i p h at = absurd (cc)
  all_of (r ∷ rs) (t ∷ ts) (AndV v vs) zero p h at = let same : r ≡ p = cc in subst Stood same (stood r t v h.0)
  all_of (r ∷ rs) (t ∷ ts) (AndV v vs) (suc i) p h at = all_of rs ts vs i p h.1 at
  all_of rs ts vs i p h at = elim h [ ]

  fields_of : (o : Option (List Ty)) (rs : List ℕ) (vs : Values) (i p : ℕ) → OnFields o (λ ts. AllStandFor (ProverNodes digest_of) types nodes rs ts vs)
      → slice_get rs i ≡ Some p → Stood p
  fields_of (Some ts) rs vs i p h at = all_of rs ts vs i p h at
  fields_of None rs vs i p h at = elim h [ ]

  part_of : (r : ℕ) (t : Ty) (v : Value) (i p : ℕ) → StandsFor (ProverNodes digest_of) types nodes r t v → slice_get (refs_at nodes r) i ≡ Some p → Stood p
  part_of r (AuthTy t) v i p h at = held_of h.0 t v i p h.2 (in_form r (AuthNode h.0) i p h.1 at)
  part_of r UnitTy UnitV i p h at = none_of i p (in_form r UnitNode i p h at)
  part_of r BoolTy (BoolV b) i p h at = none_of i p (in_form r (BoolNode b) i p h at)
  part_of r IntTy (IntV z) i p h at = none_of i p (in_form r (IntNode z) i p h.0 at)
  part_of r TextTy (TextV bytes) i p h at = none_of i p (in_form r (TextNode bytes) i p h.0 at)
  part_of r (PairTy a b) (PairV x y) i p h at =
      two_of h.0 h.1 i p (stood h.0 a x h.3) (stood h.1 b y h.4) (in_form r (PairNode h.0 h.1) i p h.2 at)
  part_of r (NamedTy number) (ConV tag vs) i p h at =
      fields_of (fields_at types number tag) h.0 vs i p h.2 (in_form r (ConNode number tag h.0) i p h.1 at)
  part_of r (VecTy n t) (ItemsV vs) i p h at = all_of h.0 (item_types n t) vs i p h.3 (in_form r (VecNode h.0) i p h.1 at)
  part_of r t v i p h at = elim h [ ]

  module _ (root : ℕ) (t : Ty) (v : Value) (h : StandsFor (ProverNodes digest_of) types nodes root t v) where
    pub met_stands : (r : ℕ) → Reaches nodes root r → Stood r
    met_stands r Itself = stood root t v h
    met_stands r (PartOf s i p met at) = let before = met_stands s met in part_of s before.of_type before.value i p before.stands at

    -- what stands for an entry over ideal nodes, and is met, stands for it over the prover's
    pub met_over : (r : ℕ) (e : Entry) → Reaches nodes root r → StandsFor IdealNodes types nodes r e.of_type e.value → StandsFor (ProverNodes digest_of) types nodes r e.of_type e.value
    met_over r e met stands =
        let s = met_stands r met in
        let same : entry s.of_type s.value ≡ e =
        same_entries types nodes r (entry s.of_type s.value) e (shown_ideal digest_of types nodes s.of_type s.value r s.stands) stands in
        subst (λ (e : Entry). StandsFor (ProverNodes digest_of) types nodes r e.of_type e.value) same s.stands
