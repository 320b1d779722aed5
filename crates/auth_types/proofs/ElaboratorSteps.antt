-- Where an elaborator stands, step by step: types stay, and what they stand for.
use Rattle.std.proofs.Common.{◌≡◌, ℕ, ◌<◌, ◌||◌, List, [], ◌∷◌, ◌++◌, length, take, drop, bytes_eq, refl, sym, ap, ◌∙◌, subst}
use Rattle.std.specs.List.{list_any}
use Rattle.std.proofs.lemmas.List.{drop-map, length-map, map-append, take-map}
use Rattle.std.proofs.lemmas.List.Elements.{All-weaker}
use Rattle.core_terms.specs.Types.{Ty}
use Rattle.core_terms.specs.Programs.{types_in}
use Rattle.core_terms.specs.declared.types.TyTable.{TyTable}
use Rattle.auth_syntax.specs.Syntax.{ExpSyntax}
use Rattle.lexemes.specs.declared.place.Place.{Place}
use Rattle.std.proofs.Math.Seq.{take-append_seam}
use Rattle.auth_types.specs.Bodies.{Local, elaborated, wanted}
use Rattle.auth_types.specs.Elaborators.{Keeps, found_at, locals_of, scope_of, types_of}
use Rattle.declared_types.specs.Checking.{is_among}
use Rattle.auth_types.specs.Locals.{AreLocalsWithin, local_meant, locals_meant, names_of}
use Rattle.declared_types.specs.OverTypes.{Grows}
use Rattle.declared_types.specs.Scopes.{IsWithin, scope_meant}
use Rattle.auth_types.specs.declared.bodies.elaborator.Elaborator.{Elaborator}
use Rattle.auth_types.specs.declared.bodies.elaborator.Local.{Local as CodeLocal}
use Rattle.declared_types.proofs.ScopeStays.{map_same, scope_stays, type_stays_at}
use Rattle.declared_types.proofs.TypeNumbers.{grows_on, grows_self}

pub keeps_self : (e : Elaborator) → Keeps e e
keeps_self e = record { grows = grows_self (types_of e); scope = refl; locals = refl }

pub keeps_on : {a b c : Elaborator} → Keeps a b → Keeps b c → Keeps a c
keeps_on {a} {b} {c} h k = record {
  grows = grows_on (types_of a) (types_of b) (types_of c) h.grows k.grows;
  scope = k.scope ∙ h.scope;
  locals = k.locals ∙ h.locals;
}

-- the locals stand for the same over more types
pub locals_stay : (a b : List Ty) (locals : List CodeLocal) → Grows a b → AreLocalsWithin (length a) locals
    → locals_meant b locals ≡ locals_meant a locals
locals_stay a b locals grows within =
    map_same (local_meant b) (local_meant a) locals
    (All-weaker (λ (l : CodeLocal). l.ty.0 < length a) (λ (l : CodeLocal). local_meant b l ≡ local_meant a l)
    (λ (l : CodeLocal) inside. ap (λ t. record { name = l.name.now; of_type = t }) (type_stays_at a b grows l.ty inside)) locals within)

-- more types, the same scope and the same locals
pub keeps_grown : (a b : Elaborator) → b.types.format ≡ a.types.format → Grows (types_of a) (types_of b) → b.scope.now ≡ a.scope.now → b.locals.items ≡ a.locals.items
    → IsWithin (length (types_of a)) a.scope.now → AreLocalsWithin (length (types_of a)) a.locals.items → Keeps a b
unfolding scope_of locals_of
keeps_grown a b format grows scope locals within inside = record {
  grows = grows;
  scope = ap (λ f. scope_meant f (types_of b) b.scope.now) format ∙ ap (scope_meant a.types.format (types_of b)) scope
      ∙ scope_stays (types_of a) (types_of b) grows a.types.format a.scope.now within;
  locals = ap (locals_meant (types_of b)) locals ∙ locals_stay (types_of a) (types_of b) a.locals.items grows inside;
}

-- what is found where an elaborator stands is found where it stood
pub found_kept : (a b : Elaborator) → Keeps a b → (x : ExpSyntax) → found_at b x ≡ found_at a x
found_kept a b k x = ap (λ s. elaborated s (locals_of b) x) k.scope ∙ ap (λ ls. elaborated (scope_of a) ls x) k.locals

pub wanted_kept : (a b : Elaborator) → Keeps a b → (at : Place) (u t : Ty) (x : ExpSyntax) → u ≡ t
    → wanted at u (found_at b x) ≡ wanted at t (found_at a x)
wanted_kept a b k at u t x same = ap (λ found. wanted at u found) (found_kept a b k x) ∙ ap (λ t. wanted at t (found_at a x)) same

-- how many locals there are, the first ones of them, and one more
pub length-locals : (e : Elaborator) → length (locals_of e) ≡ length e.locals.items
unfolding locals_of
length-locals e = length-map e.locals.items (local_meant (types_of e))

pub locals_first : (a b : Elaborator) (n : ℕ) → b.types ≡ a.types → b.locals.items ≡ take n a.locals.items → locals_of b ≡ take n (locals_of a)
unfolding locals_of
locals_first a b n same is = ap (λ (table : TyTable). locals_meant (types_in table) b.locals.items) same ∙ ap (locals_meant (types_of a)) is
    ∙ sym (take-map (local_meant (types_of a)) n a.locals.items)

pub locals_one : (a b : Elaborator) (l : CodeLocal) → b.types ≡ a.types → b.locals.items ≡ a.locals.items ++ l ∷ []
    → locals_of b ≡ locals_of a ++ local_meant (types_of a) l ∷ []
unfolding locals_of
locals_one a b l same is = ap (λ (table : TyTable). locals_meant (types_in table) b.locals.items) same ∙ ap (locals_meant (types_of a)) is
    ∙ map-append (local_meant (types_of a)) a.locals.items (l ∷ [])

pub scope_same : (a b : Elaborator) → b.types ≡ a.types → b.scope.now ≡ a.scope.now → scope_of b ≡ scope_of a
unfolding scope_of
scope_same a b same is = ap (λ (table : TyTable). scope_meant table.format (types_in table) b.scope.now) same ∙ ap (scope_meant a.types.format (types_of a)) is

-- a name among those of the locals behind the first ones
pub among_locals : (e : Elaborator) (n : ℕ) (name : List ℕ) → is_among name (names_of (drop n (locals_of e))) ≡ list_any
    (λ (l : CodeLocal). bytes_eq l.name.now name) (drop n e.locals.items)
unfolding locals_of
among_locals e n name = ap (λ ls. is_among name (names_of ls)) (drop-map (local_meant (types_of e)) n e.locals.items) ∙ by (drop n e.locals.items)
  where
    by : (ls : List CodeLocal) → is_among name (names_of (locals_meant (types_of e) ls)) ≡ list_any (λ (l : CodeLocal). bytes_eq l.name.now name) ls
    by [] = refl
    by (l ∷ ls) = ap (λ b. bytes_eq l.name.now name || b) (by ls)

-- behind names that were bound and what stood behind them, where they are left again
pub keeps_closed : (a inner end closed : Elaborator) (n : ℕ) → Grows (types_of a) (types_of inner) → scope_of inner ≡ scope_of a
    → take (length (locals_of a)) (locals_of inner) ≡ locals_of a → Keeps inner end
    → types_of closed ≡ types_of end → scope_of closed ≡ scope_of end → locals_of closed ≡ take n (locals_of end) → n ≡ length (locals_of a)
    → Keeps a closed
keeps_closed a inner end closed n grows scope outer k types_is scope_is locals_is count = record {
  grows = subst (Grows (types_of a)) (sym types_is) (grows_on (types_of a) (types_of inner) (types_of end) grows k.grows);
  scope = scope_is ∙ k.scope ∙ scope;
  locals = locals_is ∙ ap (λ ls. take n ls) k.locals ∙ ap (λ n. take n (locals_of inner)) count ∙ outer;
}

-- one local more is left again
pub one_outer : (before inner : List Local) (l : Local) → inner ≡ before ++ l ∷ [] → take (length before) inner ≡ before
one_outer before inner l is = ap (take (length before)) is ∙ take-append_seam before (l ∷ [])

-- the scope, in the table's format and over its types
pub scope_is : (e : Elaborator) → scope_of e ≡ scope_meant e.types.format (types_of e) e.scope.now
unfolding scope_of
scope_is e = refl
