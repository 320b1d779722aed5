-- Where the tokens before it can be gone on with within the limit, the first fault is told.
use Rattle.std.proofs.Common.{◌≡◌, ℕ, suc, List, [], ◌∷◌, ◌++◌, Option, refl, sym, ap, ap₂, subst, ◌∙◌}
use Rattle.core_terms.specs.declared.format.Format.{Format}
use Rattle.lexemes.specs.declared.place.Place.{Place}
use Rattle.lexemes.specs.declared.fault.LexicalFault.{LexicalFault}
use Rattle.lexemes.specs.declared.fault.LexicalFault.TheVariants.{NumberRange}
use Rattle.lexemes.specs.declared.fault.SyntaxKind.{SyntaxKind}
use Rattle.lexemes.specs.declared.fault.SyntaxKind.TheVariants.{Lexical, Expected, TooNested}
use Rattle.lexemes.specs.Tokens.{Token, Tokens, Next, End, Faulty}
use Rattle.auth_syntax.specs.Syntax.{DeclarationSyntax}
use Rattle.auth_syntax.specs.ProgramTokens.{text_tokens}
use Rattle.auth_syntax.specs.Grammar.{Written, program_tokens, AreDeclarations, AreWritten}
use Rattle.auth_syntax.specs.Nesting.{nesting_limit}
use Rattle.auth_syntax.specs.Parsing.{Parsed, Tree, FirstFault, parsed}
use Rattle.auth_syntax.specs.FirstFaults.{Placed, placed, joined, AreFirst, CanGoOn, IsRefused, IsFirstFault}
use Rattle.auth_syntax.specs.Laws.{FirstFaultIsTold}
use Rattle.auth_syntax.proofs.Exact.{parsed_is_written}
use Rattle.auth_syntax.proofs.FrontPrograms.{first_fault_is_first}

-- a front of tokens that are written, up to their end, or with the token behind it
whole_first : (front : List Placed) (ws : List Written) (place end : Place) → AreWritten (joined front (End place)) ws end → AreFirst front ws []
whole_first [] [] place end h = refl
whole_first [] (w ∷ ws) place end h = absurd h
whole_first (p ∷ front) [] place end h = absurd h
whole_first (p ∷ front) (w ∷ ws) place end h = (h.0, h.1, whole_first front ws place end h.2)

never_faulty : (front : List Placed) (ws : List Written) (place end : Place) (fault : LexicalFault) → AreWritten (joined front (Faulty place fault)) ws end → ⊥
never_faulty [] ws place end fault h = h
never_faulty (p ∷ front) [] place end fault h = h
never_faulty (p ∷ front) (w ∷ ws) place end fault h = never_faulty front ws place end fault h.2

token_first : (front : List Placed) (ws : List Written) (place end : Place) (token : Token) (rest : Tokens)
    → AreWritten (joined front (Next place token rest)) ws end → (others : List Written) × AreFirst (front ++ placed place token ∷ []) ws others
token_first [] [] place end token rest h = absurd h
token_first [] (w ∷ ws) place end token rest h = (ws, (h.0, h.1, refl))
token_first (p ∷ front) [] place end token rest h = absurd h
token_first (p ∷ front) (w ∷ ws) place end token rest h = let f = token_first front ws place end token rest h.2 in (f.0, (h.0, h.1, f.1))

-- what can be gone on with could be so one token behind a shorter front
shorter : (front : List Placed) (p : Placed) (more : List Placed) (ws others : List Written) → AreFirst (front ++ p ∷ more) ws others
    → (others : List Written) × AreFirst (front ++ p ∷ []) ws others
shorter [] p more [] others h = absurd h
shorter [] p more (w ∷ ws) others h = (ws, (h.0, h.1, refl))
shorter (q ∷ front) p more [] others h = absurd h
shorter (q ∷ front) p more (w ∷ ws) others h = let s = shorter front p more ws others h.2 in (s.0, (h.0, h.1, s.1))

shorter_goes_on : (limit : ℕ) (front : List Placed) (p : Placed) (more : List Placed) → CanGoOn limit (front ++ p ∷ more)
    → CanGoOn limit (front ++ placed p.at p.token ∷ [])
shorter_goes_on limit front p more c =
    let s = shorter front p more (program_tokens c.format c.declarations) c.others c.are_first in
    record { format = c.format; declarations = c.declarations; others = s.0; are_first = s.1; well_formed = c.well_formed }

-- two fronts of the same tokens: they are the same, or one goes on behind the other
data Compared (front : List Placed) (rest : Tokens) (front' : List Placed) (rest' : Tokens) : Type 0 where
  Same : (fronts : front ≡ front') (rests : rest ≡ rest') → Compared front rest front' rest'
  Longer : (p : Placed) (more : List Placed) (is : front' ≡ front ++ p ∷ more) (rest_is : rest ≡ Next p.at p.token (joined more rest')) → Compared front rest front' rest'
  Shorter : (p : Placed) (more : List Placed) (is : front ≡ front' ++ p ∷ more) (rest_is : rest' ≡ Next p.at p.token (joined more rest)) → Compared front rest front' rest'

compared : (front : List Placed) (rest : Tokens) (front' : List Placed) (rest' : Tokens) → joined front rest ≡ joined front' rest'
    → Compared front rest front' rest'
compared [] rest [] rest' e = Same refl e
compared [] rest (p ∷ front') rest' e = Longer p front' refl e
compared (p ∷ front) rest [] rest' e = Shorter p front refl (sym e)
compared (p ∷ front) rest (q ∷ front') rest' e =
    let at : p.at ≡ q.at = cc in let token : p.token ≡ q.token = cc in
    let others : joined front rest ≡ joined front' rest' = cc in
    behind (same_placed p q at token) (compared front rest front' rest' others) where
      same_placed : (p q : Placed) → p.at ≡ q.at → p.token ≡ q.token → p ≡ q
      same_placed p q at token = ap (λ (at : Place). placed at p.token) at ∙ ap (λ (token : Token). placed q.at token) token

      behind : p ≡ q → Compared front rest front' rest' → Compared (p ∷ front) rest (q ∷ front') rest'
      behind same (Same fronts rests) = Same (ap (λ (p : Placed). p ∷ front) same ∙ ap (λ (front : List Placed). q ∷ front) fronts) rests
      behind same (Longer next more is rest_is) =
          Longer next more (ap (λ (front : List Placed). q ∷ front) is ∙ ap (λ (p : Placed). p ∷ (front ++ next ∷ more)) (sym same)) rest_is
      behind same (Shorter next more is rest_is) =
          Shorter next more (ap (λ (front : List Placed). p ∷ front) is ∙ ap (λ (p : Placed). p ∷ (front' ++ next ∷ more)) same) rest_is

-- a token that is refused is not gone on with
not_expected : (front : List Placed) (place : Place) (token : Token) (rest : Tokens) (kind : SyntaxKind) (at : Place)
    → IsRefused front (Next place token rest) kind at → (kind ≡ TooNested → ⊥) → (limit : ℕ) → CanGoOn limit (front ++ placed place token ∷ []) → ⊥
not_expected front place token rest Expected at r not_nested limit c = r.1 limit c
not_expected front place token rest (Lexical NumberRange) at r not_nested limit c = r.3 limit c
not_expected front place token rest TooNested at r not_nested limit c = not_nested refl
not_expected front place token rest (Lexical fault) at r not_nested limit c = r

not_within : (front : List Placed) (place : Place) (token : Token) (rest : Tokens) (kind : SyntaxKind) (at : Place)
    → IsRefused front (Next place token rest) kind at → CanGoOn nesting_limit (front ++ placed place token ∷ []) → ⊥
not_within front place token rest Expected at r c = r.1 nesting_limit c
not_within front place token rest (Lexical NumberRange) at r c = r.3 nesting_limit c
not_within front place token rest TooNested at r c = r.2 c
not_within front place token rest (Lexical fault) at r c = r

-- what is refused is in no tree
not_in_tree : (front : List Placed) (rest : Tokens) (kind : SyntaxKind) (at : Place) (format : Option Format) (declarations : List DeclarationSyntax)
    (end : Place) → AreWritten (joined front rest) (program_tokens format declarations) end → AreDeclarations nesting_limit declarations
    → IsRefused front rest kind at → (kind ≡ TooNested → ⊥) → ⊥
not_in_tree front (Faulty place fault) kind at format declarations end h fit r not_nested =
    never_faulty front (program_tokens format declarations) place end fault h
not_in_tree front (End place) kind at format declarations end h fit r not_nested =
    r.2 format declarations (whole_first front (program_tokens format declarations) place end h) fit
not_in_tree front (Next place token rest) kind at format declarations end h fit r not_nested =
    let t = token_first front (program_tokens format declarations) place end token rest h in
    not_expected front place token rest kind at r not_nested nesting_limit
    (record { format = format; declarations = declarations; others = t.0; are_first = t.1; well_formed = fit })

-- what stands at one place is refused for one reason
one_reason : (front : List Placed) (rest : Tokens) (kind kind' : SyntaxKind) (at at' : Place) → IsRefused front rest kind at
    → IsRefused front rest kind' at' → (kind ≡ TooNested → ⊥) → (kind' ≡ kind) × (at' ≡ at)
one_reason front (Faulty place fault) kind kind' at at' r r' not_nested = (r'.0 ∙ sym r.0, sym r'.1 ∙ r.1)
one_reason front (End place) kind kind' at at' r r' not_nested = (r'.0 ∙ sym r.0, sym r'.1 ∙ r.1)
one_reason front (Next place token rest) Expected Expected at at' r r' not_nested = (refl, sym r'.0 ∙ r.0)
one_reason front (Next place token rest) Expected (Lexical NumberRange) at at' r r' not_nested = absurd (r.2 r'.1 (suc nesting_limit) r'.2)
one_reason front (Next place token rest) Expected TooNested at at' r r' not_nested = absurd (r.1 (suc (suc nesting_limit)) r'.1)
one_reason front (Next place token rest) Expected (Lexical fault) at at' r r' not_nested = absurd r'
one_reason front (Next place token rest) (Lexical NumberRange) Expected at at' r r' not_nested = absurd (r'.2 r.1 (suc nesting_limit) r.2)
one_reason front (Next place token rest) (Lexical NumberRange) (Lexical NumberRange) at at' r r' not_nested = (refl, sym r'.0 ∙ r.0)
one_reason front (Next place token rest) (Lexical NumberRange) TooNested at at' r r' not_nested = absurd (r.3 (suc (suc nesting_limit)) r'.1)
one_reason front (Next place token rest) (Lexical NumberRange) (Lexical fault) at at' r r' not_nested = absurd r'
one_reason front (Next place token rest) TooNested kind' at at' r r' not_nested = absurd (not_nested refl)
one_reason front (Next place token rest) (Lexical fault) kind' at at' r r' not_nested = absurd r

module _ (text : List ℕ) (kind : SyntaxKind) (at : Place) (fault : IsFirstFault (text_tokens text) kind at)
    (within : CanGoOn nesting_limit fault.front) (not_nested : kind ≡ TooNested → ⊥) where
  one_fault : (kind' : SyntaxKind) (at' : Place) (other : IsFirstFault (text_tokens text) kind' at')
      → Compared fault.front fault.rest other.front other.rest → FirstFault kind' at' ≡ FirstFault kind at
  one_fault kind' at' other (Same fronts rests) =
      let r : IsRefused fault.front fault.rest kind' at' =
      subst (λ (front : List Placed). IsRefused front fault.rest kind' at') (sym fronts)
      (subst (λ (rest : Tokens). IsRefused other.front rest kind' at') (sym rests) other.refused) in
      let one = one_reason fault.front fault.rest kind kind' at at' fault.refused r not_nested in
      ap₂ FirstFault one.0 one.1
  one_fault kind' at' other (Longer p more is rest_is) =
      absurd (not_expected fault.front p.at p.token (joined more other.rest) kind at
      (subst (λ (rest : Tokens). IsRefused fault.front rest kind at) rest_is fault.refused) not_nested (suc nesting_limit)
      (shorter_goes_on (suc nesting_limit) fault.front p more (subst (CanGoOn (suc nesting_limit)) is other.can_go_on)))
  one_fault kind' at' other (Shorter p more is rest_is) =
      absurd (not_within other.front p.at p.token (joined more fault.rest) kind' at'
      (subst (λ (rest : Tokens). IsRefused other.front rest kind' at') rest_is other.refused)
      (shorter_goes_on nesting_limit other.front p more (subst (CanGoOn nesting_limit) is within)))

  told : (found : Parsed) → parsed text ≡ found → found ≡ FirstFault kind at
  told (Tree program) e =
      let w = parsed_is_written text program e in
      absurd (not_in_tree fault.front fault.rest kind at program.format program.declarations program.end
      (subst (λ (ts : Tokens). AreWritten ts (program_tokens program.format program.declarations) program.end) fault.begin w.written) w.well_formed fault.refused not_nested)
  told (FirstFault kind' at') e =
      let other = first_fault_is_first text kind' at' e in
      one_fault kind' at' other (compared fault.front fault.rest other.front other.rest (sym fault.begin ∙ other.begin))

pub first_fault_is_told : FirstFaultIsTold
first_fault_is_told text kind at fault within not_nested =
    told text kind at fault within not_nested (parsed text) refl
