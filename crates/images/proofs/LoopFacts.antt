-- What the steps of the loop say of the node that is walked now.
use Rattle.std.proofs.Common.{◌≡◌, ℕ, ◌<◌, true, List, [], ◌∷◌, ◌++◌, reverse, Option, Some, None, Result, Ok, Err, IsErr, length, slice_get, refl, ap, ◌∙◌}
use Rattle.std.specs.Option.{option_map, option_map_or, option_to_list}
use Rattle.std.specs.Result.{IsErrAnd}
use Rattle.std.proofs.lemmas.List.{reverse-append}
use Rattle.value_store.specs.Nodes.{Form, Node, form_at, refers_below, refs_in}
use Rattle.value_store.specs.declared.node.Ref.{Ref}
use Rattle.images.specs.declared.save.Frame.{Frame}
use Rattle.images.proofs.NodeEntries.{refs_at}
use Rattle.images.proofs.NumberedParts.{none_at, shown_at}
use Rattle.images.proofs.Weights.{below_at}

pub popped : (old rest : List Frame) (top : Option Frame) (f : Frame) → old ≡ rest ++ option_to_list top → top ≡ Some f → old ≡ rest ++ f ∷ []
popped old rest top f h e = h ∙ ap (λ o. rest ++ option_to_list o) e

pub turned : (old rest : List Frame) (f : Frame) → old ≡ rest ++ f ∷ [] → reverse old ≡ f ∷ reverse rest
turned old rest f h = ap reverse h ∙ reverse-append rest (f ∷ [])

pub refs_shown : (nodes : List Node) (r : ℕ) (form : Form) → form_at nodes r ≡ Some form → refs_at nodes r ≡ refs_in form
refs_shown nodes r form at = ap (λ o. option_map_or refs_in o []) at

pub part_shown : (nodes : List Node) (r i : ℕ) (form : Form) (part : Option Ref) (p : Ref) → form_at nodes r ≡ Some form → option_map (λ (r : Ref). r.0) part ≡ slice_get (refs_in form) i
    → part ≡ Some p → slice_get (refs_at nodes r) i ≡ Some p.0
part_shown nodes r i form part p at h e = ap (λ rs. slice_get rs i) (refs_shown nodes r form at) ∙ shown_at (refs_in form) i part p h e

pub none_shown : (nodes : List Node) (r i : ℕ) (form : Form) (part : Option Ref) → form_at nodes r ≡ Some form → option_map (λ (r : Ref). r.0) part ≡ slice_get (refs_in form) i
    → part ≡ None → slice_get (refs_at nodes r) i ≡ None
none_shown nodes r i form part at h e = ap (λ rs. slice_get rs i) (refs_shown nodes r form at) ∙ none_at (refs_in form) i part h e

pub part_below : (r i : ℕ) (form : Form) (part : Option Ref) (p : Ref) → refers_below r form ≡ true
    → option_map (λ (r : Ref). r.0) part ≡ slice_get (refs_in form) i → part ≡ Some p → p.0 < r
part_below r i form part p below h e = below_at r (refs_in form) i p.0 below (shown_at (refs_in form) i part p h e)

-- an error that is handed on
pub same_error : {A E : Type 0} (result : Result A E) (fault : E) → IsErr result × IsErrAnd result (λ found. found ≡ fault) → result ≡ Err fault
same_error (Err found) fault h = ap Err h.1
same_error (Ok a) fault h = absurd (cc)

pub emptied : {A : Type 0} (xs : List A) → length xs ≡ 0 → xs ≡ []
emptied [] h = refl
emptied (x ∷ xs) h = absurd (cc)
