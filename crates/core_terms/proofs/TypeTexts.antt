-- The printed declarations, one after another.
use Rattle.std.proofs.Common.{◌≡◌, ℕ, ◌+◌, ◌<◌, ◌≤◌, List, [], ◌∷◌, ◌++◌, length, map, drop, slice_index_or, refl, sym, ap, ◌∙◌, append_assoc, append-nil}
use Rattle.std.specs.Prelude.{codes}
use Rattle.std.proofs.lemmas.List.{at_drop_more, at_drop_all}
use Rattle.core_terms.specs.Types.{Ty}
use Rattle.core_terms.specs.TypeDeclarations.{constructors_text, declarations_text}
use Rattle.core_terms.specs.TypeNames.{all_constructor_names, type_names}
use Rattle.core_terms.specs.TypeTexts.{named_texts, of_constructors}
use Rattle.core_terms.specs.ProgramTrees.{declared_text, table_of, types_at}
use Rattle.core_terms.specs.declared.term.Constructor.{Constructor}
use Rattle.core_terms.specs.declared.term.NamedType.{NamedType}

module _ (names : List (List ℕ)) (types : List Ty) where
  constructors_same : (mark : List ℕ) (cs : List Constructor)
      → constructors_text names mark (map (λ (c : Constructor). c.name) cs) (map (λ (c : Constructor). types_at types c.fields.items) cs) ≡ of_constructors names types mark cs
  constructors_same mark [] = refl
  constructors_same mark (c ∷ cs) = rw (constructors_same (codes " | ") cs) refl

  declarations_same : (named : List NamedType) → declarations_text names (type_names named) (all_constructor_names named) (table_of types named) ≡ named_texts names types named
  declarations_same [] = refl
  declarations_same (d ∷ ds) = rw (declarations_same ds, constructors_same (codes " = ") d.constructors.items) refl

pub declared_same : (types : List Ty) (named : List NamedType) → declared_text types named ≡ named_texts (type_names named) types named
declared_same types named = declarations_same (type_names named) types named

-- Of what is to be written for a list a front was written: a piece more, and all of it.
pub one_more : {X : Type 0} (F G : List X → List ℕ) (one text new all : List ℕ) (xs : List X) (i : ℕ) (d : X) → i < length xs
    → F (slice_index_or xs i d ∷ drop (i + 1) xs) ≡ one ++ G (drop (i + 1) xs) → text ++ F (drop i xs) ≡ all → new ≡ text ++ one → new ++ G (drop (i + 1) xs) ≡ all
one_more F G one text new all xs i d below first so_far more =
    ap (λ t. t ++ G (drop (i + 1) xs)) more ∙ append_assoc text one (G (drop (i + 1) xs)) ∙ ap (λ t. text ++ t) (sym first ∙ sym (at_drop_more F xs i d below)) ∙ so_far

pub all_written : {X : Type 0} (F : List X → List ℕ) (text all : List ℕ) (xs : List X) (i : ℕ) → length xs ≤ i → F [] ≡ [] → text ++ F (drop i xs) ≡ all → text ≡ all
all_written F text all xs i past none so_far = sym (append-nil text) ∙ ap (λ t. text ++ t) (sym (at_drop_all F xs i past ∙ none)) ∙ so_far

-- the same, where the element is in hand
pub item_more : {X : Type 0} (F G : List X → List ℕ) (one text new all : List ℕ) (xs : List X) (i : ℕ) (x : X) → i < length xs → x ≡ slice_index_or xs i x
    → F (x ∷ drop (i + 1) xs) ≡ one ++ G (drop (i + 1) xs) → text ++ F (drop i xs) ≡ all → new ≡ text ++ one → new ++ G (drop (i + 1) xs) ≡ all
item_more F G one text new all xs i x below is first so_far more =
    one_more F G one text new all xs i x below (ap (λ y. F (y ∷ drop (i + 1) xs)) (sym is) ∙ first) so_far more

pub of_three : (a b c rest : List ℕ) → a ++ (b ++ (c ++ rest)) ≡ (a ++ (b ++ c)) ++ rest
of_three a b c rest = sym (append_assoc a (b ++ c) rest ∙ ap (λ t. a ++ t) (append_assoc b c rest))
