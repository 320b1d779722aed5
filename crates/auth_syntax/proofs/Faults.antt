-- How a fault, or want of memory, is handed on.
use Rattle.std.proofs.Common.{◌≡◌, ◌∙◌, Result, Err, ap, subst, sym}
use Rattle.std.specs.Prelude.{IsErrAnd}
use Rattle.std.proofs.lemmas.Result.{err_from_is_err_and}
use Rattle.lexemes.specs.declared.place.Place.{Place}
use Rattle.lexemes.specs.declared.fault.SyntaxKind.{SyntaxKind}
use Rattle.lexemes.specs.Readings.{SyntaxFault, Reading, FaultAt, then_read}
use Rattle.core_terms.specs.declared.fault.Fault.TheVariants.{At, NoMemory}
use Rattle.lexemes.specs.Tokens.{Tokens}
use Rattle.lexemes.specs.Remaining.{Reads}

-- where one reading has a fault, so has another that rests on it
pub Reads-err : {A B A' B' : Type 0} (view : A → B) (view' : A' → B') (reading : Reading B) (reading' : Reading B') (left left' : Tokens)
    (fault : SyntaxFault) → ((kind : SyntaxKind) (at : Place) → reading ≡ FaultAt kind at → reading' ≡ FaultAt kind at)
    → Reads view reading (Err fault) left → Reads view' reading' (Err fault) left'
Reads-err view view' reading reading' left left' (At kind at) f h = f kind at h
Reads-err view view' reading reading' left left' NoMemory f h = tt

-- where a part is refused, or there is no memory for it, so is all
pub refused_part : {A B C D : Type 0} (view : A → B) (view' : C → D) (part : Reading B) (go : B → Tokens → Reading D) (fault : SyntaxFault)
    (left : Tokens) (r : Result C SyntaxFault) → IsErrAnd r (λ e. e ≡ fault) → Reads view part (Err fault) left
    → Reads view' (then_read part go) r left
refused_part {C = C} view view' part go fault left r is h =
    let p = err_from_is_err_and r is in
    subst (λ (r : Result C SyntaxFault). Reads view' (then_read part go) r left) (sym (p.1 ∙ ap Err p.2))
    (Reads-err view view' part (then_read part go) left left fault (λ kind at e. ap (λ part. then_read part go) e) h)
