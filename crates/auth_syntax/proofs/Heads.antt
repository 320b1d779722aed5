-- The token at the head, which says what is read.
use Rattle.std.proofs.Common.{◌≡◌, List, [], ◌∷◌, refl, sym, ap, subst, ◌∙◌}
use Rattle.lexemes.specs.declared.place.Place.{Place}
use Rattle.lexemes.specs.Tokens.{Token, Tokens, Next}
use Rattle.auth_syntax.specs.Grammar.{Written, standing}
use Rattle.lexemes.specs.Readings.{Found}
use Rattle.auth_syntax.proofs.Beginnings.{Begin, First, begin-none, begin-next}
use Rattle.auth_syntax.proofs.Readers.{found_thing, found_left}

-- what is known of a thing is known of what is found
pub found_is : {A : Type 0} (written : A → List Written) (within : A → Type 0) (tokens : Tokens) (thing found : A) (rest left : Tokens)
    → Found thing rest ≡ Found found left → Begin tokens (written thing) rest → within thing → Begin tokens (written found) left × within found
found_is written within tokens thing found rest left e begin fits =
    subst (λ a. Begin tokens (written a) left × within a) (found_thing e) (subst (Begin tokens (written thing)) (found_left e) begin, fits)

-- a token that is all
pub one_written : (at : Place) (token : Token) (ws : List Written) (rest : Tokens) → ws ≡ standing at token ∷ [] → Begin (Next at token rest) ws rest
one_written at token ws rest h =
    subst (λ (ws : List Written). Begin (Next at token rest) ws rest) (sym h) (begin-next at token (standing at token) refl refl (begin-none rest))

-- a token that keeps its place
pub head_is : (at : Place) (token : Token) (others : List Written) (tokens left : Tokens) (h : First tokens (standing at token) others left)
    → tokens ≡ Next at token h.rest
head_is at token others tokens left h =
    h.is ∙ (ap (λ t. Next h.at t h.rest) h.stands ∙ ap (λ (at : Place). Next at token h.rest) (sym h.kept))
