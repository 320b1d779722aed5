-- What an answer of a step of a pass says, whether a fault is found or none is; and what the steps give where the answers of their parts are known.
use Rattle.std.proofs.Common.{◌≡◌, ℕ, Bool, true, false, refl, ap, ◌∙◌, subst, nat_lt, nat_eq, ◌<◌, lt-ltb, ltb-true, eqb-true, arith}
use Rattle.std.specs.Bool.{Decides}
use Rattle.core_terms.specs.Types.{Ty, same_type}
use Rattle.core_terms.specs.Terms.{Expression}
use Rattle.core_terms.proofs.SameTypes.{same_sound}
use Rattle.core_terms.proofs.TypingComplete.{same_self, same_complete}
use Rattle.lexemes.specs.declared.place.Place.{Place}
use Rattle.declared_types.specs.Checking.{Checking, Sound, FaultAt, then_checked, unless_fault}
use Rattle.auth_types.specs.Bodies.{Typed, wanted}
use Rattle.declared_types.specs.declared.fault.TypeKind.{TypeKind}
use Rattle.declared_types.specs.declared.fault.TypeKind.TheVariants.{WrongType}

-- Q holds of what is found, or F of the fault
abbrev pub Judges : {A : Type 0} → (A → Type 0) → (TypeKind → Place → Type 0) → Checking A → Type 0
Judges Q F (Sound value) = Q value
Judges Q F (FaultAt kind at) = F kind at

-- a step after another
pub judges_then : {A B : Type 0} (Q : A → Type 0) (F : TypeKind → Place → Type 0) (R : B → Type 0) (G : TypeKind → Place → Type 0) (found : Checking A) (go : A → Checking B)
    → Judges Q F found → ((kind : TypeKind) (at : Place) → F kind at → G kind at) → ((a : A) → Q a → Judges R G (go a)) → Judges R G (then_checked found go)
judges_then Q F R G (Sound a) go first faults second = second a first
judges_then Q F R G (FaultAt kind at) go first faults second = faults kind at first

-- a step behind a test
pub judges_unless : {B : Type 0} (P : Type 0) (R : B → Type 0) (G : TypeKind → Place → Type 0) (holds : Bool) (kind : TypeKind) (at : Place) (rest : Checking B)
    → Decides holds P → ((P → ⊥) → G kind at) → (P → Judges R G rest) → Judges R G (unless_fault holds kind at rest)
judges_unless P R G true kind at rest d broken kept = kept (d.0 refl)
judges_unless P R G false kind at rest d broken kept = broken (λ p. let e : false ≡ true = d.1 p in absurd (cc))

-- what follows of each
pub judges_more : {A : Type 0} (Q R : A → Type 0) (F G : TypeKind → Place → Type 0) (found : Checking A)
    → ((a : A) → Q a → R a) → ((kind : TypeKind) (at : Place) → F kind at → G kind at) → Judges Q F found → Judges R G found
judges_more Q R F G (Sound a) more faults h = more a h
judges_more Q R F G (FaultAt kind at) more faults h = faults kind at h

-- what is known of each answer, of this one
pub judged_sound : {A : Type 0} (Q : A → Type 0) (F : TypeKind → Place → Type 0) (found : Checking A) (a : A) → Judges Q F found → found ≡ Sound a → Q a
judged_sound Q F found a h is = subst (Judges Q F) is h

pub judged_fault : {A : Type 0} (Q : A → Type 0) (F : TypeKind → Place → Type 0) (found : Checking A) (kind : TypeKind) (at : Place) → Judges Q F found → found ≡ FaultAt kind at → F kind at
judged_fault Q F found kind at h is = subst (Judges Q F) is h

-- tests
pub below_decides : (a b : ℕ) → Decides (nat_lt a b) (a < b)
below_decides a b = (λ e. ltb-true a b e, λ h. lt-ltb a b h)

pub equal_decides : (a b : ℕ) → Decides (nat_eq a b) (a ≡ b)
equal_decides a b = (λ e. eqb-true a b e, λ h. subst (λ c. nat_eq a c ≡ true) h (eqb_self a))
  where
    eqb_self : (a : ℕ) → nat_eq a a ≡ true
    eqb_self a = grind arith

pub type_decides : (a b : Ty) → Decides (same_type a b) (a ≡ b)
type_decides a b = (λ e. same_sound a b e, λ h. same_complete a b h)

-- a test of what does not hold is false
pub fails : {P : Type 0} (b : Bool) → Decides b P → (P → ⊥) → b ≡ false
fails true d never = absurd (never (d.0 refl))
fails false d never = refl

-- steps, where the answer before is known
pub then_is : {A B : Type 0} (found : Checking A) (go : A → Checking B) (a : A) → found ≡ Sound a → then_checked found go ≡ go a
then_is found go a is = ap (λ f. then_checked f go) is

pub then_fault : {A B : Type 0} (found : Checking A) (go : A → Checking B) (kind : TypeKind) (at : Place) → found ≡ FaultAt kind at → then_checked found go ≡ FaultAt kind at
then_fault found go kind at is = ap (λ f. then_checked f go) is

pub unless_holds : {P B : Type 0} (b : Bool) (kind : TypeKind) (at : Place) (rest : Checking B) → Decides b P → P → unless_fault b kind at rest ≡ rest
unless_holds b kind at rest d p = ap (λ c. unless_fault c kind at rest) (d.1 p)

pub unless_fails : {P B : Type 0} (b : Bool) (kind : TypeKind) (at : Place) (rest : Checking B) → Decides b P → (P → ⊥) → unless_fault b kind at rest ≡ FaultAt kind at
unless_fails b kind at rest d never = ap (λ c. unless_fault c kind at rest) (fails b d never)

-- a part of which a type is wanted
pub wanted_is : (at : Place) (t : Ty) (part : Checking Typed) (x : Expression) → part ≡ Sound (record { expression = x; of_type = t }) → wanted at t part ≡ Sound x
wanted_is at t part x is = ap (wanted at t) is ∙ ap (λ b. unless_fault b WrongType at (Sound x)) (same_self t)

pub wanted_fault : (at : Place) (t : Ty) (part : Checking Typed) (kind : TypeKind) (place : Place) → part ≡ FaultAt kind place → wanted at t part ≡ FaultAt kind place
wanted_fault at t part kind place is = ap (wanted at t) is

pub wanted_other : (at : Place) (t a : Ty) (part : Checking Typed) (x : Expression) → part ≡ Sound (record { expression = x; of_type = a }) → (a ≡ t → ⊥) → wanted at t part ≡ FaultAt WrongType at
wanted_other at t a part x is other = ap (wanted at t) is ∙ ap (λ b. unless_fault b WrongType at (Sound x)) (fails (same_type a t) (type_decides a t) other)
