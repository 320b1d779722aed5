-- A step of a pass that gives a value exactly where a rule holds, and tells a fault exactly where another one does: for one step after another,
-- and for things in a row.
use Rattle.std.proofs.Common.{◌≡◌, Bool, true, false, List, [], ◌∷◌, ◌++◌, ◌⊎◌, inl, inr, refl, sym, ap, ◌∙◌, subst}
use Rattle.std.specs.Bool.{Decides}
use Rattle.lexemes.specs.declared.place.Place.{Place}
use Rattle.declared_types.specs.Checking.{Checking, Sound, FaultAt, then_checked, unless_fault}
use Rattle.auth_types.specs.InOrder.{EachMeets, NoMore, AndMore, OneBreaks, ThisBreaks, LaterBreaks}
use Rattle.declared_types.specs.declared.fault.TypeKind.{TypeKind}
use Rattle.auth_types.proofs.Judging.{Judges, judges_then, judges_unless, judges_more, judged_sound, judged_fault, then_is, then_fault, unless_holds, unless_fails}

pub record Ruled {A : Type 0} (found : Checking A) (P : A → Type 0) (F : TypeKind → Place → Type 0) : Type 0 where
  pub judged : Judges P F found
  pub passes : (a : A) → P a → found ≡ Sound a
  pub tells : (kind : TypeKind) (at : Place) → F kind at → found ≡ FaultAt kind at

-- nothing is found, and nothing is left to judge
abbrev pub fine : Checking (Unit {0})
fine = Sound tt

abbrev pub refused : TypeKind → Place → Checking (Unit {0})
refused kind at = FaultAt kind at

pub nothing_left : Ruled fine (λ _. Unit {0}) (λ kind at. ⊥)
nothing_left = record { judged = tt; passes = λ a h. refl; tells = λ kind at f. absurd f }

-- the same of an equal step, and in other words
pub ruled_same : {A : Type 0} (found other : Checking A) (P : A → Type 0) (F : TypeKind → Place → Type 0) → found ≡ other → Ruled other P F → Ruled found P F
ruled_same found other P F same r = subst (λ c. Ruled c P F) (sym same) r

pub ruled_like : {A : Type 0} (found : Checking A) (P Q : A → Type 0) (F G : TypeKind → Place → Type 0)
    → ((a : A) → P a → Q a) → ((a : A) → Q a → P a) → ((kind : TypeKind) (at : Place) → F kind at → G kind at)
    → ((kind : TypeKind) (at : Place) → G kind at → F kind at) → Ruled found P F → Ruled found Q G
ruled_like found P Q F G forth back faults known r = record {
  judged = judges_more P Q F G found forth faults r.judged;
  passes = λ a q. r.passes a (back a q);
  tells = λ kind at g. r.tells kind at (known kind at g);
}

-- a value
pub ruled_sound : {A : Type 0} (value : A) → Ruled (Sound value) (λ a. value ≡ a) (λ kind at. ⊥)
ruled_sound value = record { judged = refl; passes = λ a is. ap Sound is; tells = λ kind at f. absurd f }

-- one step after another
pub ruled_then : {A B : Type 0} (Q : A → Type 0) (F : TypeKind → Place → Type 0) (R : A → B → Type 0) (G : A → TypeKind → Place → Type 0) (found : Checking A) (go : A → Checking B)
    → Ruled found Q F → ((a : A) → Q a → Ruled (go a) (R a) (G a))
    → Ruled (then_checked found go) (λ b. (a : A) × Q a × R a b) (λ kind at. F kind at ⊎ ((a : A) × Q a × G a kind at))
ruled_then {A = A} {B = B} Q F R G found go r next = record {
  judged =
      judges_then Q F (λ b. (a : A) × Q a × R a b) (λ kind at. F kind at ⊎ ((a : A) × Q a × G a kind at)) found go r.judged (λ kind at f. inl f)
      (λ a q. judges_more (R a) (λ b. (a : A) × Q a × R a b) (G a) (λ kind at. F kind at ⊎ ((a : A) × Q a × G a kind at)) (go a) (λ b h. (a, q, h))
      (λ kind at g. inr (a, q, g)) (next a q).judged);
  passes = λ b (a, q, h). then_is found go a (r.passes a q) ∙ (next a q).passes b h;
  tells = λ kind at f. by kind at f;
}
  where
    by : (kind : TypeKind) (at : Place) → F kind at ⊎ ((a : A) × Q a × G a kind at) → then_checked found go ≡ FaultAt kind at
    by kind at (inl f) = then_fault found go kind at (r.tells kind at f)
    by kind at (inr (a, q, g)) = then_is found go a (r.passes a q) ∙ (next a q).tells kind at g

-- a step behind a test
pub ruled_unless : {B : Type 0} (P : Type 0) (R : B → Type 0) (G : TypeKind → Place → Type 0) (b : Bool) (kind : TypeKind) (at : Place) (rest : Checking B)
    → Decides b P → (P → Ruled rest R G)
    → Ruled (unless_fault b kind at rest) (λ b. P × R b) (λ k p. ((P → ⊥) × (kind ≡ k) × (at ≡ p)) ⊎ (P × G k p))
ruled_unless P R G b kind at rest d next = record {
  judged = judges_unless P (λ b. P × R b) (λ k p. ((P → ⊥) × (kind ≡ k) × (at ≡ p)) ⊎ (P × G k p)) b kind at rest d (λ never. inl (never, refl, refl))
      (λ p. judges_more R (λ b. P × R b) G (λ k q. ((P → ⊥) × (kind ≡ k) × (at ≡ q)) ⊎ (P × G k q)) rest (λ a h. (p, h)) (λ k q g. inr (p, g)) (next p).judged);
  passes = λ a (p, h). unless_holds b kind at rest d p ∙ (next p).passes a h;
  tells = λ k p f. by k p f;
}
  where
    by : (k : TypeKind) (p : Place) → ((P → ⊥) × (kind ≡ k) × (at ≡ p)) ⊎ (P × G k p) → unless_fault b kind at rest ≡ FaultAt k p
    by k p (inl (never, same, here)) = unless_fails b kind at rest d never ∙ ap (λ k. FaultAt k at) same ∙ ap (FaultAt k) here
    by k p (inr (holds, g)) = unless_holds b kind at rest d holds ∙ (next holds).tells k p g

-- what is known of the answer
pub ruled_sound_is : {A : Type 0} (found : Checking A) (P : A → Type 0) (F : TypeKind → Place → Type 0) (a : A) → Ruled found P F → found ≡ Sound a → P a
ruled_sound_is found P F a r is = judged_sound P F found a r.judged is

pub ruled_fault_is : {A : Type 0} (found : Checking A) (P : A → Type 0) (F : TypeKind → Place → Type 0) (kind : TypeKind) (at : Place)
    → Ruled found P F → found ≡ FaultAt kind at → F kind at
ruled_fault_is found P F kind at r is = judged_fault P F found kind at r.judged is

-- steps as they may be grouped
pub then_then : {A B C : Type 0} (found : Checking A) (f : A → Checking B) (g : B → Checking C) → then_checked (then_checked found f) g ≡ then_checked found (λ a. then_checked (f a) g)
then_then (Sound a) f g = refl
then_then (FaultAt kind at) f g = refl

pub then_alike : {A B : Type 0} (found : Checking A) (f g : A → Checking B) → ((a : A) → f a ≡ g a) → then_checked found f ≡ then_checked found g
then_alike (Sound a) f g same = same a
then_alike (FaultAt kind at) f g same = refl

pub unless_then : {A B : Type 0} (b : Bool) (kind : TypeKind) (at : Place) (rest : Checking A) (go : A → Checking B)
    → then_checked (unless_fault b kind at rest) go ≡ unless_fault b kind at (then_checked rest go)
unless_then true kind at rest go = refl
unless_then false kind at rest go = refl

-- a step for each of some things in a row
abbrev pub each_checked : {A : Type 0} → (List A → A → Checking (Unit {0})) → List A → List A → Checking (Unit {0})
each_checked step before [] = Sound tt
each_checked step before (x ∷ rest) = then_checked (step before x) (λ _. each_checked step (before ++ x ∷ []) rest)

module _ {A : Type 0} (Meets : List A → A → Type 0) (Breaks : List A → A → TypeKind → Place → Type 0) where
  first_meets : {before : List A} {x : A} {rest : List A} → EachMeets Meets before (x ∷ rest) → Meets before x × EachMeets Meets (before ++ x ∷ []) rest
  first_meets (AndMore m more) = (m, more)

  none_breaks : {before : List A} {kind : TypeKind} {at : Place} → OneBreaks Meets Breaks before [] kind at → ⊥
  none_breaks b = elim b [ ]

  one_of : {before : List A} {x : A} {rest : List A} {kind : TypeKind} {at : Place} → OneBreaks Meets Breaks before (x ∷ rest) kind at
      → Breaks before x kind at ⊎ (Meets before x × OneBreaks Meets Breaks (before ++ x ∷ []) rest kind at)
  one_of (ThisBreaks b) = inl b
  one_of (LaterBreaks m b) = inr (m, b)

  pub each_ruled : (step : List A → A → Checking (Unit {0})) → ((before : List A) (x : A) → Ruled (step before x) (λ _. Meets before x) (Breaks before x))
      → (before xs : List A) → Ruled (each_checked step before xs) (λ _. EachMeets Meets before xs) (OneBreaks Meets Breaks before xs)
  each_ruled step each before [] = record { judged = NoMore; passes = λ a m. refl; tells = λ kind at b. absurd (none_breaks b) }
  each_ruled step each before (x ∷ rest) =
      ruled_like (each_checked step before (x ∷ rest)) (λ _. (a : Unit {0}) × Meets before x × EachMeets Meets (before ++ x ∷ []) rest) (λ _. EachMeets Meets before (x ∷ rest))
      (λ kind at. Breaks before x kind at ⊎ ((a : Unit {0}) × Meets before x × OneBreaks Meets Breaks (before ++ x ∷ []) rest kind at)) (OneBreaks Meets Breaks before (x ∷ rest))
      (λ _ (a, m, more). AndMore m more) (λ _ h. (tt, (first_meets h).0, (first_meets h).1)) (λ kind at f. later kind at f) (λ kind at b. again kind at (one_of b))
      (ruled_then (λ _. Meets before x) (Breaks before x) (λ _ _. EachMeets Meets (before ++ x ∷ []) rest)
      (λ _. OneBreaks Meets Breaks (before ++ x ∷ []) rest) (step before x) (λ _. each_checked step (before ++ x ∷ []) rest)
      (each before x) (λ _ m. each_ruled step each (before ++ x ∷ []) rest))
    where
      later : (kind : TypeKind) (at : Place)
          → Breaks before x kind at ⊎ ((a : Unit {0}) × Meets before x × OneBreaks Meets Breaks (before ++ x ∷ []) rest kind at) → OneBreaks Meets Breaks before (x ∷ rest) kind at
      later kind at (inl b) = ThisBreaks b
      later kind at (inr (a, m, b)) = LaterBreaks m b

      again : (kind : TypeKind) (at : Place) → Breaks before x kind at ⊎ (Meets before x × OneBreaks Meets Breaks (before ++ x ∷ []) rest kind at)
          → Breaks before x kind at ⊎ ((a : Unit {0}) × Meets before x × OneBreaks Meets Breaks (before ++ x ∷ []) rest kind at)
      again kind at (inl b) = inl b
      again kind at (inr (m, b)) = inr (tt, m, b)
