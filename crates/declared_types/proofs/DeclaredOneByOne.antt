-- Lemmas of the first pass, one declaration after another.
use Rattle.std.proofs.Common.{◌≡◌, ℕ, suc, ◌+◌, ◌<◌, List, ◌∷◌, length, map, drop, slice_index_or, Result, Err, sym, ap, ◌∙◌, subst, add-one, drop-cons}
use Rattle.auth_syntax.specs.Trees.{declaration_of}
use Rattle.lexemes.specs.declared.place.Place.{Place}
use Rattle.auth_syntax.specs.declared.tree.Declaration.{Declaration}
use Rattle.declared_types.specs.Checking.{Checking, then_checked, unless_fault, Sound}
use Rattle.declared_types.specs.Declarations.{Declared, checked_declaration, checked_declarations, checked_whole, nothing_declared}
use Rattle.declared_types.specs.Findings.{Finds, TypeFault}
use Rattle.declared_types.specs.declared.fault.TypeKind.TheVariants.{NoState}
use Rattle.core_terms.specs.declared.fault.Fault.TheVariants.{At, NoMemory}

-- what is asked behind all declarations
abbrev at_end : Place → Checking Declared → Checking (Unit {0})
at_end end found = then_checked found (λ declared. unless_fault declared.state NoState end (Sound tt))

-- the first declaration with a fault ends the pass
pub declared_fault : {A : Type 0} (ds : List Declaration) (i : ℕ) (d : Declaration) (end : Place) (declared : Declared) (fault : TypeFault)
    (r : Result A TypeFault) → i < length ds → d ≡ slice_index_or ds i d → r ≡ Err fault
    → checked_declarations nothing_declared (map declaration_of ds) ≡ checked_declarations declared (map declaration_of (drop i ds))
    → Finds {A = Unit {0}} (λ _. declared) (checked_declaration declared (declaration_of d)) (Err fault)
    → Finds (λ _. tt) (checked_whole (map declaration_of ds) end) r
declared_fault {A = A} ds i d end declared fault r inside is refused so_far h =
    subst (λ r. Finds (λ _. tt) (checked_whole (map declaration_of ds) end) r) (sym refused) (by fault h)
  where
    next : drop i ds ≡ d ∷ drop (i + 1) ds
    next = rw add-one (drop-cons ds i d inside ∙ ap (λ e. e ∷ drop (suc i) ds) (sym is))

    by : (fault : TypeFault) → Finds {A = Unit {0}} (λ _. declared) (checked_declaration declared (declaration_of d)) (Err fault)
        → Finds {A = A} (λ _. tt) (checked_whole (map declaration_of ds) end) (Err fault)
    by NoMemory h = tt
    by (At kind at) h =
        ap (at_end end) (so_far ∙ ap (λ l. checked_declarations declared (map declaration_of l)) next)
        ∙ ap (λ found. at_end end (then_checked found (λ declared. checked_declarations declared (map declaration_of (drop (i + 1) ds))))) h
