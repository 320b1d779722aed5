-- The reader of types.
use Rattle.std.proofs.Common.{◌≡◌, ℕ, zero, suc, ◌<◌, List, [], ◌∷◌, ◌++◌, length, refl, sym, ap, subst, ◌∙◌, arith, append_assoc}
use Rattle.lexemes.specs.declared.place.Place.{Place}
use Rattle.lexemes.specs.declared.token.Keyword.TheVariants.{Auth as AuthWord, Unit as UnitWord, Bool as BoolWord, Int as IntWord, Text as TextWord, Vec as VecWord}
use Rattle.lexemes.specs.declared.token.Mark.TheVariants.{LeftParenthesis, RightParenthesis, Comma}
use Rattle.lexemes.specs.Tokens.{Token, KeywordToken, MarkToken, LowerToken, Tokens, Next, End, Faulty}
use Rattle.auth_syntax.specs.Syntax.{TypeSyntax, UnitTypeSyntax, BoolTypeSyntax, IntTypeSyntax, TextTypeSyntax, NamedTypeSyntax, AuthTypeSyntax, PairTypeSyntax, VecTypeSyntax}
use Rattle.auth_syntax.specs.Grammar.{Written, standing, mark, type_tokens, type_levels, IsType}
use Rattle.lexemes.specs.Readings.{Reading, Found}
use Rattle.auth_syntax.specs.Parsing.{read_array_type, type_from, read_type}
use Rattle.auth_syntax.proofs.Beginnings.{Begin, First, begin-next, begin-first, begin-as, none-begin}
use Rattle.auth_syntax.proofs.Readers.{IsClear, IsReader, Reader, Row, Done, ThenMark, Then, Last, read_row, row_sound, row_complete}
use Rattle.auth_syntax.proofs.Heads.{found_is, head_is, one_written}
use Rattle.auth_syntax.proofs.Lengths.{length_row, length_row-is}

pub type_levels-some : (t : TypeSyntax) → 0 < type_levels t
type_levels-some (AuthTypeSyntax at inner) = omega arith
type_levels-some (PairTypeSyntax at first second) = omega arith
type_levels-some (VecTypeSyntax at n item) = omega arith
type_levels-some t = omega arith

pub type_tokens-some : (t : TypeSyntax) → 0 < length (type_tokens t)
type_tokens-some (AuthTypeSyntax at inner) = omega arith
type_tokens-some (PairTypeSyntax at first second) = omega arith
type_tokens-some (VecTypeSyntax at n item) = omega arith
type_tokens-some t = omega arith

abbrev pub AreTypesRead : ℕ → Type 0
AreTypesRead levels = IsReader levels read_type type_tokens IsType

abbrev pub type_reader_of : (levels : ℕ) → AreTypesRead levels → Reader levels
type_reader_of levels parts = record { A = TypeSyntax; read = read_type; written = type_tokens; within = IsType; is = parts }

-- what stands behind the first token of a type
abbrev pub auth_row : (levels : ℕ) → AreTypesRead levels → Place → Row levels TypeSyntax
auth_row levels parts at = Last (type_reader_of levels parts) (λ inner. AuthTypeSyntax at inner)

abbrev pub pair_row : (levels : ℕ) → AreTypesRead levels → Place → Row levels TypeSyntax
pair_row levels parts at =
    Then (type_reader_of levels parts) (λ first. ThenMark Comma
    (Then (type_reader_of levels parts) (λ second. ThenMark RightParenthesis (Done (PairTypeSyntax at first second)))))

abbrev pub array_row : (levels : ℕ) → AreTypesRead levels → Place → Row levels TypeSyntax
array_row levels parts at = length_row (λ n. Last (type_reader_of levels parts) (λ item. VecTypeSyntax at n item))

pub array_row-is : (levels : ℕ) (parts : AreTypesRead levels) (at : Place) (at_most : ℕ) (tokens : Tokens)
    → read_array_type (read_type at_most) at tokens ≡ read_row (array_row levels parts at) at_most tokens
array_row-is levels parts at at_most tokens =
    length_row-is (λ n. Last (type_reader_of levels parts) (λ item. VecTypeSyntax at n item)) at_most tokens

pub pair_written : (at : Place) (first second : TypeSyntax)
    → standing at (MarkToken LeftParenthesis) ∷ (type_tokens first ++ (mark Comma ∷ (type_tokens second ++ (mark RightParenthesis ∷ []))))
    ≡ type_tokens (PairTypeSyntax at first second)
pair_written at first second = simp append_assoc

-- a type that is found behind this token
abbrev IsTypeFrom : ℕ → Place → Token → Tokens → TypeSyntax → Tokens → Type 0
IsTypeFrom levels at token rest found left = Begin (Next at token rest) (type_tokens found) left × IsType (suc levels) found

alone : (levels : ℕ) (at : Place) (token : Token) (rest : Tokens) (thing found : TypeSyntax) (left : Tokens) → Found thing rest ≡ Found found left
    → type_tokens thing ≡ standing at token ∷ [] → IsType (suc levels) thing → IsTypeFrom levels at token rest found left
alone levels at token rest thing found left e h within =
    found_is type_tokens (IsType (suc levels)) (Next at token rest) thing found rest left e (one_written at token (type_tokens thing) rest h) within

type_found : (levels : ℕ) → AreTypesRead levels → (at : Place) (token : Token) (rest : Tokens) (found : TypeSyntax) (left : Tokens)
    → type_from (read_type levels) at token rest ≡ Found found left → IsTypeFrom levels at token rest found left
type_found levels parts at (KeywordToken UnitWord) rest found left e = alone levels at _ rest (UnitTypeSyntax at) found left e refl (tt, omega arith)
type_found levels parts at (KeywordToken BoolWord) rest found left e = alone levels at _ rest (BoolTypeSyntax at) found left e refl (tt, omega arith)
type_found levels parts at (KeywordToken IntWord) rest found left e = alone levels at _ rest (IntTypeSyntax at) found left e refl (tt, omega arith)
type_found levels parts at (KeywordToken TextWord) rest found left e = alone levels at _ rest (TextTypeSyntax at) found left e refl (tt, omega arith)
type_found levels parts at (LowerToken name) rest found left e = alone levels at _ rest (NamedTypeSyntax at name) found left e refl (tt, omega arith)
type_found levels parts at (KeywordToken AuthWord) rest found left e =
    let s = row_sound (auth_row levels parts at) rest found left e in
    subst (λ (t : TypeSyntax). IsTypeFrom levels at (KeywordToken AuthWord) rest t left) s.is
    (begin-next at (KeywordToken AuthWord) (standing at (KeywordToken AuthWord)) refl refl s.begin, (s.fits.0, omega (arith, s.fits.1)))
type_found levels parts at (MarkToken LeftParenthesis) rest found left e =
    let s = row_sound (pair_row levels parts at) rest found left e in
    subst (λ (t : TypeSyntax). IsTypeFrom levels at (MarkToken LeftParenthesis) rest t left) s.is (
      begin-as (pair_written at s.thing.0 s.thing.1.0)
          (begin-next at (MarkToken LeftParenthesis) (standing at (MarkToken LeftParenthesis)) refl refl s.begin),
      ((s.fits.0.0, s.fits.1.0.0), omega (arith, s.fits.0.1, s.fits.1.0.1)),
    )
type_found levels parts at (KeywordToken VecWord) rest found left e =
    let s = row_sound (array_row levels parts at) rest found left (sym (array_row-is levels parts at levels rest) ∙ e) in
    subst (λ (t : TypeSyntax). IsTypeFrom levels at (KeywordToken VecWord) rest t left) s.is
    (begin-next at (KeywordToken VecWord) (standing at (KeywordToken VecWord)) refl refl s.begin, ((s.fits.0, s.fits.1.0), omega (arith, s.fits.1.1)))
type_found levels parts at token rest found left e = absurd (cc)

-- a type that is written is found
from : (levels : ℕ) (at : Place) (token : Token) (others : List Written) (tokens left : Tokens) (result : Reading TypeSyntax)
    (h : First tokens (standing at token) others left)
    → type_from (read_type levels) at token h.rest ≡ result → read_type (suc levels) tokens ≡ result
from levels at token others tokens left result h e = ap (read_type (suc levels)) (head_is at token others tokens left h) ∙ e

type_complete : (levels : ℕ) → AreTypesRead levels → (t : TypeSyntax) (tokens left : Tokens) → Begin tokens (type_tokens t) left
    → IsType (suc levels) t → IsClear left → read_type (suc levels) tokens ≡ Found t left
type_complete levels parts (UnitTypeSyntax at) tokens left begin within clear =
    let f = begin-first begin in from levels at _ _ tokens left _ f (ap (λ ts. Found (UnitTypeSyntax at) ts) (none-begin f.begin))
type_complete levels parts (BoolTypeSyntax at) tokens left begin within clear =
    let f = begin-first begin in from levels at _ _ tokens left _ f (ap (λ ts. Found (BoolTypeSyntax at) ts) (none-begin f.begin))
type_complete levels parts (IntTypeSyntax at) tokens left begin within clear =
    let f = begin-first begin in from levels at _ _ tokens left _ f (ap (λ ts. Found (IntTypeSyntax at) ts) (none-begin f.begin))
type_complete levels parts (TextTypeSyntax at) tokens left begin within clear =
    let f = begin-first begin in from levels at _ _ tokens left _ f (ap (λ ts. Found (TextTypeSyntax at) ts) (none-begin f.begin))
type_complete levels parts (NamedTypeSyntax at name) tokens left begin within clear =
    let f = begin-first begin in from levels at _ _ tokens left _ f (ap (λ ts. Found (NamedTypeSyntax at name) ts) (none-begin f.begin))
type_complete levels parts (AuthTypeSyntax at inner) tokens left begin within clear =
    let f = begin-first begin in
    from levels at _ _ tokens left _ f (row_complete (auth_row levels parts at) tt inner f.rest left f.begin (within.0, omega (arith, within.1)) clear)
type_complete levels parts (PairTypeSyntax at first second) tokens left begin within clear =
    let f = begin-first (begin-as (sym (pair_written at first second)) begin) in
    from levels at _ _ tokens left _ f
    (row_complete (pair_row levels parts at) (λ first. (refl, λ second. (refl, tt))) (first, (second, tt)) f.rest left f.begin
    ((within.0.0, omega (arith, within.1)), ((within.0.1, omega (arith, within.1)), tt)) clear)
type_complete levels parts (VecTypeSyntax at n item) tokens left begin within clear =
    let f = begin-first begin in
    from levels at _ _ tokens left _ f
    (array_row-is levels parts at levels f.rest
    ∙ row_complete (array_row levels parts at) (λ n. (refl, tt)) (n, item) f.rest left f.begin
    (within.0.0, (within.0.1, omega (arith, within.1))) clear)

no_levels : (tokens : Tokens) (found : TypeSyntax) (left : Tokens) → read_type zero tokens ≡ Found found left → ⊥
no_levels (Next at token rest) found left e = cc
no_levels (End at) found left e = cc
no_levels (Faulty at kind) found left e = cc

some_levels : (levels : ℕ) → AreTypesRead levels → (tokens : Tokens) (found : TypeSyntax) (left : Tokens)
    → read_type (suc levels) tokens ≡ Found found left → Begin tokens (type_tokens found) left × IsType (suc levels) found
some_levels levels parts (Next at token rest) found left e = type_found levels parts at token rest found left e
some_levels levels parts (End at) found left e = absurd (cc)
some_levels levels parts (Faulty at kind) found left e = absurd (cc)

pub types_are : (levels : ℕ) → AreTypesRead levels
types_are zero = record {
  sound = λ tokens found left e. absurd (no_levels tokens found left e);
  complete = λ t tokens left begin within clear. absurd (omega (arith, type_levels-some t, within.1));
}
types_are (suc levels) = record { sound = some_levels levels (types_are levels); complete = type_complete levels (types_are levels) }

abbrev pub types : (levels : ℕ) → Reader levels
types levels = record { A = TypeSyntax; read = read_type; written = type_tokens; within = IsType; is = types_are levels }
