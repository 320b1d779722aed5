use Rattle.std.proofs.Common.{◌≡◌, List, [], ◌∷◌, Bool, ◌||◌, map, refl, ap, rules, tests, ◌∙◌, sym}
use Rattle.std.specs.List.{list_any}
use Rattle.std.proofs.lemmas.Iterator.{YieldsList-from_slice}
use Rattle.std.proofs.lemmas.Iterator.Search.{any_from_yields_List}
use Rattle.command_words.specs.Invocations.{is_refused_word}
use Rattle.command_words.proofs.reading.some_refused.Goals as goal

-- a test of what the elements are mapped to
list_any_mapped : {A B : Type 0} (p : B → Bool) (f : A → B) (xs : List A) → list_any p (map f xs) ≡ list_any (λ x. p (f x)) xs
list_any_mapped p f [] = refl
list_any_mapped p f (x ∷ xs) = ap (λ b. p (f x) || b) (list_any_mapped p f xs)

pub returns : goal.returns
returns c =
    any_from_yields_List (λ word. is_refused_word word.now) _ _ c.any.result c.any.ensures.ran (YieldsList-from_slice c.args.words.now cc) (λ x b q k. search (rules, tests))
    ∙ sym (list_any_mapped is_refused_word (λ word. word.now) c.args.words.now)
