-- All that is authenticated in what a prover's node stands for is within the limits: each node put under an authenticated one is.
use Rattle.std.proofs.Common.{ℕ, List, [], ◌∷◌, Option, Some, None}
use Rattle.core_terms.specs.Types.{Ty, PairTy, NamedTy, AuthTy, Table, fields_at, OnFields, VecTy, item_types}
use Rattle.core_terms.specs.Values.{Value, PairV, ConV, Values, NoV, AndV, AuthWithin, AuthWithinAll, ItemsV}
use Rattle.value_store.specs.Nodes.{Held, InnerHeld, BothHeld, OnlyHeld, Node, AreSound}
use Rattle.value_store.specs.Standing.{ProverNodes, Holds, StandsFor, AllStandFor}
use Rattle.value_store.specs.Laws.{StandingIsDeep}
use Rattle.value_store.proofs.StandingNodes.{within_stands}

module _ {limit : ℕ} (digest : Ty → List ℕ → List ℕ) (types : Table) (nodes : List Node) (sound : AreSound limit nodes) where
  held_inner : (held : Held) (t : Ty) (v : Value) (Stands : ℕ → Type 0) → Holds (ProverNodes digest) types held t v Stands → (inner : ℕ) × Stands inner
  held_inner (InnerHeld inner) t v Stands h = elim h [ ]
  held_inner (BothHeld d inner) t v Stands h = (inner, h.0)
  held_inner (OnlyHeld d) t v Stands h = elim h [ ]

  mutual
    deep : (t : Ty) (v : Value) (r : ℕ) → StandsFor (ProverNodes digest) types nodes r t v → AuthWithin limit types t v
    deep (AuthTy t) v r h =
        let i = held_inner h.0 t v (λ inner. StandsFor (ProverNodes digest) types nodes inner t v) h.2 in
        (within_stands (ProverNodes digest) types nodes t v i.0 sound i.1, deep t v i.0 i.1)
    deep (PairTy a b) (PairV x y) r h = (deep a x h.0 h.3, deep b y h.1 h.4)
    deep (NamedTy number) (ConV tag vs) r h = deeps (fields_at types number tag) vs h.0 h.2
    deep (VecTy n t) (ItemsV vs) r h = deeps (Some (item_types n t)) vs h.0 h.3
    deep t v r h = tt

    deeps : (o : Option (List Ty)) (vs : Values) (rs : List ℕ) → OnFields o (λ ts. AllStandFor (ProverNodes digest) types nodes rs ts vs) → OnFields o (λ ts. AuthWithinAll limit types ts vs)
    deeps (Some (t ∷ ts)) (AndV v vs) (r ∷ rs) h = (deep t v r h.0, deeps (Some ts) vs rs h.1)
    deeps (Some []) vs rs h = tt
    deeps (Some (t ∷ ts)) NoV rs h = tt
    deeps (Some (t ∷ ts)) (AndV v vs) [] h = elim h [ ]
    deeps None vs rs h = elim h [ ]

pub standing_is_deep : StandingIsDeep
standing_is_deep limit digest types nodes r t v sound h = deep digest types nodes sound t v r h
