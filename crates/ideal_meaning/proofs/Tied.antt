-- Values in hand of code, with their types: locals and operands that both runs have, the checked one in projection.
use Rattle.std.proofs.Common.{◌≡◌, ℕ, zero, suc, ◌+◌, List, [], ◌∷◌, ◌++◌, length, Some, slice_get, refl, ap, ◌∙◌, arith}
use Rattle.core_terms.specs.Types.{Ty}
use Rattle.core_terms.specs.Formats.{Hash}
use Rattle.core_terms.specs.Values.{Values, NoV, AndV}
use Rattle.core_terms.specs.Terms.{Program}
use Rattle.core_terms.specs.Projection.{projections}
use Rattle.ideal_meaning.specs.Run.{local, join}
use Rattle.ideal_meaning.proofs.InHand.{AreHeld}
use Rattle.ideal_meaning.specs.Execution.{Coded, Held, held, tie, popped}
use Rattle.core_terms.specs.Accepted.{push_types}
use Rattle.ideal_meaning.proofs.Parts.{push_all, join_nil}

-- as many values as types
abbrev pub Even : List Ty → Values → Type 0
Even [] NoV = Unit {0}
Even (t ∷ ts) (AndV v vs) = Even ts vs
Even ts vs = ⊥

-- values in front of others, the last of them at the front
abbrev pub push_values : Values → Values → Values
push_values NoV rest = rest
push_values (AndV v vs) rest = push_values vs (AndV v rest)

pub local_tied : (ts : List Ty) (vs : Values) (i : ℕ) (t : Ty) → Even ts vs → slice_get ts i ≡ Some t → slice_get (tie ts vs) i ≡ Some (held t (local vs i))
local_tied (u ∷ ts) (AndV v vs) zero t h e = let s : u ≡ t = cc in ap (λ t. Some (held t v)) s
local_tied (u ∷ ts) (AndV v vs) (suc i) t h e = local_tied ts vs i t h e
local_tied [] NoV i t h e = absurd (cc)
local_tied [] (AndV v vs) i t h e = elim h [ ]
local_tied (u ∷ ts) NoV i t h e = elim h [ ]

pub join_tied : (ts us : List Ty) (vs ws : Values) → Even ts vs → tie ts vs ++ tie us ws ≡ tie (ts ++ us) (join vs ws)
join_tied [] us NoV ws h = refl
join_tied (t ∷ ts) us (AndV v vs) ws h = ap (λ l. held t v ∷ l) (join_tied ts us vs ws h)
join_tied [] us (AndV v vs) ws h = elim h [ ]
join_tied (t ∷ ts) us NoV ws h = elim h [ ]

pub length_tied : (ts : List Ty) (vs : Values) → Even ts vs → length (tie ts vs) ≡ length ts
length_tied [] NoV h = refl
length_tied (t ∷ ts) (AndV v vs) h = ap suc (length_tied ts vs h)
length_tied [] (AndV v vs) h = elim h [ ]
length_tied (t ∷ ts) NoV h = elim h [ ]

pub pushed_tied : (ts under : List Ty) (vs rest : Values) → Even ts vs → tie (push_types ts under) (push_values vs rest) ≡ push_all ts vs (tie under rest)
pushed_tied [] under NoV rest h = refl
pushed_tied (t ∷ ts) under (AndV v vs) rest h = pushed_tied ts (t ∷ under) vs (AndV v rest) h
pushed_tied [] under (AndV v vs) rest h = elim h [ ]
pushed_tied (t ∷ ts) under NoV rest h = elim h [ ]

popped_back : {C W : Type 0} (ts : List Ty) (vs : Values) → Even ts vs → (n : ℕ) (ops : List Held) (acc : Values) (go : Values → List Held → Coded C W)
    → popped (length ts + n) (push_all ts vs ops) acc go ≡ popped n ops (join vs acc) go
popped_back [] NoV h n ops acc go = let e : 0 + n ≡ n = omega arith in ap (λ m. popped m ops acc go) e
popped_back (t ∷ ts) (AndV v vs) h n ops acc go =
    let e : length (t ∷ ts) + n ≡ length ts + suc n = omega arith in
    ap (λ m. popped m (push_all ts vs (held t v ∷ ops)) acc go) e ∙ popped_back ts vs h (suc n) (held t v ∷ ops) acc go
popped_back [] (AndV v vs) h n ops acc go = elim h [ ]
popped_back (t ∷ ts) NoV h n ops acc go = elim h [ ]

pub popped_even : {C W : Type 0} (ts : List Ty) (vs : Values) → Even ts vs → (n : ℕ) (ops : List Held) (go : Values → List Held → Coded C W) → length ts ≡ n
    → popped n (push_all ts vs ops) NoV go ≡ go vs ops
popped_even ts vs a n ops go h =
    let e : n ≡ length ts + 0 = omega (arith, h) in
    ap (λ m. popped m (push_all ts vs ops) NoV go) e ∙ popped_back ts vs a 0 ops NoV go ∙ ap (λ us. go us ops) (join_nil vs)

module _ (P : Program) (Deep : Type 0) where
  pub even_held : (ts : List Ty) (vs : Values) → AreHeld P Deep ts vs → Even ts vs
  even_held [] NoV h = tt
  even_held (t ∷ ts) (AndV v vs) h = even_held ts vs h.1
  even_held [] (AndV v vs) h = elim h [ ]
  even_held (t ∷ ts) NoV h = elim h [ ]

  pub even_projected : (hash : Hash) (ts : List Ty) (vs : Values) → AreHeld P Deep ts vs → Even ts (projections hash P ts vs)
  even_projected hash [] NoV h = tt
  even_projected hash (t ∷ ts) (AndV v vs) h = even_projected hash ts vs h.1
  even_projected hash [] (AndV v vs) h = elim h [ ]
  even_projected hash (t ∷ ts) NoV h = elim h [ ]

  pub pushed_projected : (hash : Hash) (ts under : List Ty) (vs rest : Values) → AreHeld P Deep ts vs
      → projections hash P (push_types ts under) (push_values vs rest) ≡ push_values (projections hash P ts vs) (projections hash P under rest)
  pushed_projected hash [] under NoV rest h = refl
  pushed_projected hash (t ∷ ts) under (AndV v vs) rest h = pushed_projected hash ts (t ∷ under) vs (AndV v rest) h.1
  pushed_projected hash [] under (AndV v vs) rest h = elim h [ ]
  pushed_projected hash (t ∷ ts) under NoV rest h = elim h [ ]

  -- values in hand of two rows of types
  pub held_split : (Q : Values → Type 0) (ts us : List Ty) (vs : Values) → AreHeld P Deep (ts ++ us) vs → ((xs ys : Values) → AreHeld P Deep ts xs → AreHeld P Deep us ys → Q (join xs ys)) → Q vs
  held_split Q [] us vs h f = f NoV vs tt h
  held_split Q (t ∷ ts) us (AndV v vs) h f = held_split (λ vs. Q (AndV v vs)) ts us vs h.1 (λ xs ys a b. f (AndV v xs) ys (h.0, a) b)
  held_split Q (t ∷ ts) us NoV h f = elim h [ ]

  -- and of types pushed on others
  pub held_pushed : (Q : Values → Type 0) (ts under : List Ty) (vs : Values) → AreHeld P Deep (push_types ts under) vs
      → ((xs rest : Values) → AreHeld P Deep ts xs → AreHeld P Deep under rest → Q (push_values xs rest)) → Q vs
  held_pushed Q [] under vs h f = f NoV vs tt h
  held_pushed Q (t ∷ ts) under vs h f = held_pushed Q ts (t ∷ under) vs h (λ xs rest a b. one xs rest a b)
    where
      one : (xs rest : Values) → AreHeld P Deep ts xs → AreHeld P Deep (t ∷ under) rest → Q (push_values xs rest)
      one xs (AndV v rest) a b = f (AndV v xs) rest (b.0, a) b.1
      one xs NoV a b = elim b [ ]
