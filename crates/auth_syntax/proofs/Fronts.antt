-- What a reader says of tokens that only begin alike: what it finds, and where it fails, hangs on the tokens up to the one behind, and
-- where it fails what it has taken can be gone on with.
use Rattle.std.proofs.Common.{◌≡◌, ℕ, suc, ◌≤◌, ◌⊎◌, inl, inr, List, [], ◌∷◌, ◌++◌, refl, sym, ap, subst, ◌∙◌, arith, append_assoc}
use Rattle.std.specs.Prelude.{ℤ, pos}
use Rattle.lexemes.specs.declared.place.Place.{Place}
use Rattle.lexemes.specs.declared.fault.LexicalFault.{LexicalFault}
use Rattle.lexemes.specs.declared.fault.LexicalFault.TheVariants.{NumberRange}
use Rattle.lexemes.specs.declared.fault.SyntaxKind.{SyntaxKind}
use Rattle.lexemes.specs.declared.fault.SyntaxKind.TheVariants.{Lexical, Expected, TooNested}
use Rattle.lexemes.specs.Tokens.{Token, IntToken, Tokens, Next, End, Faulty}
use Rattle.auth_syntax.specs.Grammar.{Written}
use Rattle.lexemes.specs.Readings.{Reading, Found, FaultAt, then_read}
use Rattle.auth_syntax.specs.FirstFaults.{Placed, placed, joined, AreFirst, IsInt}

-- fronts that are put together
pub joined-append : (front next : List Placed) (rest : Tokens) → joined (front ++ next) rest ≡ joined front (joined next rest)
joined-append [] next rest = refl
joined-append (p ∷ front) next rest = ap (Next p.at p.token) (joined-append front next rest)

pub first-append : (front next : List Placed) (ws vs others : List Written) → AreFirst front ws [] → AreFirst next vs others
    → AreFirst (front ++ next) (ws ++ vs) others
first-append [] next ws vs others h h' = subst (λ (ws : List Written). AreFirst next (ws ++ vs) others) (sym h) h'
first-append (p ∷ front) next [] vs others h h' = absurd h
first-append (p ∷ front) next (w ∷ ws) vs others h h' = (h.0, h.1, first-append front next ws vs others h.2 h')

pub first-longer : (front : List Placed) (ws others vs : List Written) → AreFirst front ws others → AreFirst front (ws ++ vs) (others ++ vs)
first-longer [] ws others vs h = ap (λ (ws : List Written). ws ++ vs) h
first-longer (p ∷ front) [] others vs h = absurd h
first-longer (p ∷ front) (w ∷ ws) others vs h = (h.0, h.1, first-longer front ws others vs h.2)

-- The same token, or an int in its place. An int goes on with nothing that is whole, so what is taken before a token would be before an int.
abbrev pub AreAlike : Token → Token → Type 0
AreAlike token token' = (token ≡ token') ⊎ IsInt token'

alike_holds : (P : Token → Type 0) (token token' : Token) → AreAlike token token' → ((z : ℤ) → P (IntToken z)) → P token → P token'
alike_holds P token token' (inl same) ints h = subst P same h
alike_holds P token (IntToken z) (inr int) ints h = ints z
alike_holds P token token' (inr int) ints h = absurd int

-- tokens whose heads are alike
pub record AlikeHeads (left other : Tokens) : Type 0 where
  pub at : Place
  pub token : Token
  pub token' : Token
  pub rest : Tokens
  pub rest' : Tokens
  pub is : left ≡ Next at token rest
  pub other_is : other ≡ Next at token' rest'
  pub alike : AreAlike token token'

pub alike_heads : (front : List Placed) (at : Place) (token token' : Token) (rest rest' : Tokens) → AreAlike token token'
    → AlikeHeads (joined front (Next at token rest)) (joined front (Next at token' rest'))
alike_heads [] at token token' rest rest' h =
    record { at = at; token = token; token' = token'; rest = rest; rest' = rest'; is = refl; other_is = refl; alike = h }
alike_heads (p ∷ front) at token token' rest rest' h = record {
  at = p.at;
  token = p.token;
  token' = p.token;
  rest = joined front (Next at token rest);
  rest' = joined front (Next at token' rest');
  is = refl;
  other_is = refl;
  alike = inl refl;
}

-- what the token at the head decides, and holds of each int, holds of tokens with an alike head
pub heads_hold : (P : Tokens → Type 0) (left other : Tokens) → AlikeHeads left other → ((at : Place) (z : ℤ) (rest : Tokens) → P (Next at (IntToken z) rest))
    → ((at : Place) (token : Token) (rest rest' : Tokens) → P (Next at token rest) → P (Next at token rest')) → P left → P other
heads_hold P left other h ints decides p =
    subst P (sym h.other_is)
    (alike_holds (λ (token : Token). P (Next h.at token h.rest')) h.token h.token' h.alike (λ z. ints h.at z h.rest')
    (decides h.at h.token h.rest h.rest' (subst P h.is p)))

-- a thing whose tokens begin with these
pub record CanBegin {A : Type 0} (written : A → List Written) (within : ℕ → A → Type 0) (limit : ℕ) (front : List Placed) : Type 0 where
  pub thing : A
  pub others : List Written
  pub are_first : AreFirst front (written thing) others
  pub fits : within limit thing

-- what was taken for a thing, and would be again, with a wider limit too, before tokens with the same head
pub record Taken {A B : Type 0} (limit : ℕ) (read : ℕ → Tokens → Reading B) (make : A → B) (written : A → List Written) (within : ℕ → A → Type 0)
    (before : Tokens) (found : B) (left : Tokens) : Type 0 where
  pub thing : A
  pub makes : make thing ≡ found
  pub front : List Placed
  pub is : before ≡ joined front left
  pub are_all : AreFirst front (written thing) []
  pub fits : within limit thing
  pub again : (wider : ℕ) → limit ≤ wider → (other : Tokens) → AlikeHeads left other → read wider (joined front other) ≡ Found found other

-- an int that can be a length
abbrev pub a_length : Token
a_length = IntToken (pos 64)

-- with this token behind these, reading fails so within a limit and each wider one, whatever stands behind it
abbrev pub FailsAt : ℕ → (ℕ → Tokens → SyntaxKind → Place → Type 0) → List Placed → Place → Token → SyntaxKind → Type 0
FailsAt limit fails front place token kind =
    (wider : ℕ) → limit ≤ wider → (other : Tokens) → fails wider (joined front (Next place token other)) kind place

-- What stands behind what was taken, and is refused, where `fails` says how reading fails; a token is refused whatever stands behind it, as
-- not expected or out of range with a wider limit too. An int is not expected where a length isn't.
abbrev pub BlockedBy : ℕ → (ℕ → Tokens → SyntaxKind → Place → Type 0) → (ℕ → List Placed → Type 0) → List Placed → Tokens → SyntaxKind → Place → Type 0
BlockedBy limit fails begins front (Faulty place fault) kind at = (kind ≡ Lexical fault) × (place ≡ at)
BlockedBy limit fails begins front (End place) kind at = (kind ≡ Expected) × (place ≡ at)
BlockedBy limit fails begins front (Next place token rest) Expected at =
    (place ≡ at) × FailsAt limit fails front place token Expected × (IsInt token → FailsAt limit fails front place a_length Expected)
BlockedBy limit fails begins front (Next place token rest) (Lexical NumberRange) at =
    (place ≡ at) × IsInt token × begins (suc limit) (front ++ placed place a_length ∷ [])
    × FailsAt limit fails front place token (Lexical NumberRange)
BlockedBy limit fails begins front (Next place token rest) TooNested at =
    (place ≡ at) × begins (suc (suc limit)) (front ++ placed place token ∷ [])
    × ((other : Tokens) → fails limit (joined front (Next place token other)) TooNested place)
BlockedBy limit fails begins front (Next place token rest) (Lexical fault) at = ⊥

pub record StuckBy (limit : ℕ) (fails : ℕ → Tokens → SyntaxKind → Place → Type 0) (begins : ℕ → List Placed → Type 0)
    (before : Tokens) (kind : SyntaxKind) (at : Place) : Type 0 where
  pub front : List Placed
  pub rest : Tokens
  pub is : before ≡ joined front rest
  pub can_go_on : begins (suc limit) front
  pub blocked : BlockedBy limit fails begins front rest kind at

-- a reader fails so
abbrev pub Fails : {B : Type 0} → (ℕ → Tokens → Reading B) → ℕ → Tokens → SyntaxKind → Place → Type 0
Fails read wider tokens kind at = read wider tokens ≡ FaultAt kind at

abbrev pub Blocked : {B : Type 0} → ℕ → (ℕ → Tokens → Reading B) → (ℕ → List Placed → Type 0) → List Placed → Tokens → SyntaxKind → Place → Type 0
Blocked limit read begins front rest kind at = BlockedBy limit (Fails read) begins front rest kind at

abbrev pub Stuck : {B : Type 0} → ℕ → (ℕ → Tokens → Reading B) → (ℕ → List Placed → Type 0) → Tokens → SyntaxKind → Place → Type 0
Stuck limit read begins before kind at = StuckBy limit (Fails read) begins before kind at

-- a reader of which all this is true; there is a thing on a single level, and what is within a limit is within a wider one
pub record IsLocal {A : Type 0} (limit : ℕ) (read : ℕ → Tokens → Reading A) (written : A → List Written) (within : ℕ → A → Type 0) : Type 0 where
  pub taken : (before : Tokens) (found : A) (left : Tokens) → read limit before ≡ Found found left
      → Taken limit read (λ thing. thing) written within before found left
  pub stuck : (before : Tokens) (kind : SyntaxKind) (at : Place) → read limit before ≡ FaultAt kind at
      → Stuck limit read (CanBegin written within) before kind at
  pub some : A
  pub some_fits : (n : ℕ) → within (suc n) some
  pub widen : (n wider : ℕ) (thing : A) → n ≤ wider → within n thing → within wider thing

-- where a reader is stuck behind what was taken before, so is the reader of the whole
pub stuck_behind_by : (limit : ℕ) (fails : ℕ → Tokens → SyntaxKind → Place → Type 0) (begins : ℕ → List Placed → Type 0)
    (fails' : ℕ → Tokens → SyntaxKind → Place → Type 0) (begins' : ℕ → List Placed → Type 0) (front : List Placed) (before middle : Tokens)
    (kind : SyntaxKind) (at : Place)
    → before ≡ joined front middle
    → ((n : ℕ) (next : List Placed) → limit ≤ n → begins (suc n) next → begins' (suc n) (front ++ next))
    → ((wider : ℕ) (kind : SyntaxKind) (at : Place) (other : Tokens) → limit ≤ wider → AlikeHeads middle other → fails wider other kind at
    → fails' wider (joined front other) kind at)
    → StuckBy limit fails begins middle kind at → StuckBy limit fails' begins' before kind at
stuck_behind_by limit fails begins fails' begins' front before middle kind at is goes lifts s = record {
  front = front ++ s.front;
  rest = s.rest;
  is = is ∙ (ap (joined front) s.is ∙ sym (joined-append front s.front s.rest));
  can_go_on = goes limit s.front (omega arith) s.can_go_on;
  blocked = lifted s.rest kind at s.is s.blocked;
} where
  heads : (place : Place) (token token' : Token) (rest other : Tokens) → middle ≡ joined s.front (Next place token rest) → AreAlike token token'
      → AlikeHeads middle (joined s.front (Next place token' other))
  heads place token token' rest other e h =
      subst (λ (m : Tokens). AlikeHeads m (joined s.front (Next place token' other))) (sym e) (alike_heads s.front place token token' rest other h)

  whole : (wider : ℕ) (kind : SyntaxKind) (place : Place) (token token' : Token) (rest other : Tokens) → limit ≤ wider
      → middle ≡ joined s.front (Next place token rest) → AreAlike token token' → fails wider (joined s.front (Next place token' other)) kind place
      → fails' wider (joined (front ++ s.front) (Next place token' other)) kind place
  whole wider kind place token token' rest other h e alike f =
      subst (λ (ts : Tokens). fails' wider ts kind place) (sym (joined-append front s.front (Next place token' other)))
      (lifts wider kind place (joined s.front (Next place token' other)) h (heads place token token' rest other e alike) f)

  -- so it does with a token alike
  fails_so : (place : Place) (token token' : Token) (rest : Tokens) (kind : SyntaxKind) → middle ≡ joined s.front (Next place token rest)
      → AreAlike token token' → FailsAt limit fails s.front place token' kind → FailsAt limit fails' (front ++ s.front) place token' kind
  fails_so place token token' rest kind e alike f = λ wider h other. whole wider kind place token token' rest other h e alike (f wider h other)

  further : (n : ℕ) (place : Place) (token : Token) → limit ≤ n → begins (suc n) (s.front ++ placed place token ∷ [])
      → begins' (suc n) ((front ++ s.front) ++ placed place token ∷ [])
  further n place token h b =
      subst (begins' (suc n)) (sym (append_assoc front s.front (placed place token ∷ []))) (goes n (s.front ++ placed place token ∷ []) h b)

  lifted : (rest : Tokens) (kind : SyntaxKind) (at : Place) → middle ≡ joined s.front rest → BlockedBy limit fails begins s.front rest kind at
      → BlockedBy limit fails' begins' (front ++ s.front) rest kind at
  lifted (Faulty place fault) kind at e b = b
  lifted (End place) kind at e b = b
  lifted (Next place token rest) Expected at e b = (
    b.0,
    fails_so place token token rest Expected e (inl refl) b.1,
    λ int. fails_so place token a_length rest Expected e (inr tt) (b.2 int),
  )
  lifted (Next place token rest) (Lexical NumberRange) at e b = (
    b.0,
    b.1,
    further limit place a_length (omega arith) b.2,
    fails_so place token token rest (Lexical NumberRange) e (inl refl) b.3,
  )
  lifted (Next place token rest) TooNested at e b = (
    b.0,
    further (suc limit) place token (omega arith) b.1,
    λ other. whole limit TooNested place token token rest other (omega arith) e (inl refl) (b.2 other),
  )
  lifted (Next place token rest) (Lexical fault) at e b = absurd b

pub stuck_behind : {A B : Type 0} (limit : ℕ) (read : ℕ → Tokens → Reading A) (begins : ℕ → List Placed → Type 0)
    (read' : ℕ → Tokens → Reading B) (begins' : ℕ → List Placed → Type 0) (front : List Placed) (before middle : Tokens) (kind : SyntaxKind) (at : Place)
    → before ≡ joined front middle
    → ((n : ℕ) (next : List Placed) → limit ≤ n → begins (suc n) next → begins' (suc n) (front ++ next))
    → ((wider : ℕ) (kind : SyntaxKind) (at : Place) (other : Tokens) → limit ≤ wider → AlikeHeads middle other → read wider other ≡ FaultAt kind at
    → read' wider (joined front other) ≡ FaultAt kind at)
    → Stuck limit read begins middle kind at → Stuck limit read' begins' before kind at
stuck_behind limit read begins read' begins' = stuck_behind_by limit (Fails read) begins (Fails read') begins'

-- readers of one token that is no length
pub record IsOneToken {A : Type 0} (reads : Tokens → Reading A) : Type 0 where
  pub decided : (at : Place) (token : Token)
      → ((thing : A) × ((rest : Tokens) → reads (Next at token rest) ≡ Found thing rest)) ⊎ ((rest : Tokens) → reads (Next at token rest) ≡ FaultAt Expected at)
  pub at_end : (at : Place) → reads (End at) ≡ FaultAt Expected at
  pub at_fault : (at : Place) (fault : LexicalFault) → reads (Faulty at fault) ≡ FaultAt (Lexical fault) at
  pub no_length : (at : Place) (rest : Tokens) → reads (Next at a_length rest) ≡ FaultAt Expected at

-- a token that is taken
pub record OneTaken {A : Type 0} (reads : Tokens → Reading A) (before : Tokens) (found : A) (left : Tokens) : Type 0 where
  pub at : Place
  pub token : Token
  pub is : before ≡ Next at token left
  pub again : (other : Tokens) → reads (Next at token other) ≡ Found found other

pub kind_is : {A : Type 0} {kind kind' : SyntaxKind} {at at' : Place} → ◌≡◌ {A = Reading A} (FaultAt kind at) (FaultAt kind' at') → kind ≡ kind'
kind_is h = cc

pub place_is : {A : Type 0} {kind kind' : SyntaxKind} {at at' : Place} → ◌≡◌ {A = Reading A} (FaultAt kind at) (FaultAt kind' at') → at ≡ at'
place_is h = cc

pub one_taken : {A : Type 0} (reads : Tokens → Reading A) → IsOneToken reads → (before : Tokens) (found : A) (left : Tokens)
    → reads before ≡ Found found left → OneTaken reads before found left
one_taken reads one (End at) found left e = absurd (let e' = one.at_end at in cc)
one_taken reads one (Faulty at fault) found left e = absurd (let e' = one.at_fault at fault in cc)
one_taken {A} reads one (Next at token rest) found left e = by_token (one.decided at token) where
  by_token : ((thing : A) × ((rest : Tokens) → reads (Next at token rest) ≡ Found thing rest)) ⊎ ((rest : Tokens) → reads (Next at token rest) ≡ FaultAt Expected at)
      → OneTaken reads (Next at token rest) found left
  by_token (inl h) =
      let e' : Found h.0 rest ≡ Found found left = sym (h.1 rest) ∙ e in
      let same : h.0 ≡ found = cc in let same' : rest ≡ left = cc in
      record { at = at; token = token; is = ap (Next at token) same'; again = λ other. h.1 other ∙ ap (λ (thing : A). Found thing other) same }
  by_token (inr h) = absurd (let e' = h rest in cc)

-- a token that is refused
pub one_stuck : {A : Type 0} (limit : ℕ) (reads : Tokens → Reading A) → IsOneToken reads → (begins : ℕ → List Placed → Type 0) → begins (suc limit) []
    → (before : Tokens) (kind : SyntaxKind) (at : Place) → reads before ≡ FaultAt kind at → Stuck limit (λ wider. reads) begins before kind at
one_stuck limit reads one begins some (End place) kind at e =
    let e' = sym e ∙ one.at_end place in
    record { front = []; rest = End place; is = refl; can_go_on = some; blocked = (kind_is e', sym (place_is e')) }
one_stuck limit reads one begins some (Faulty place fault) kind at e =
    let e' = sym e ∙ one.at_fault place fault in
    record { front = []; rest = Faulty place fault; is = refl; can_go_on = some; blocked = (kind_is e', sym (place_is e')) }
one_stuck {A} limit reads one begins some (Next place token rest) kind at e = by_token (one.decided place token) where
  by_token : ((thing : A) × ((rest : Tokens) → reads (Next place token rest) ≡ Found thing rest)) ⊎ ((rest : Tokens) → reads (Next place token rest) ≡ FaultAt Expected place)
      → Stuck limit (λ wider. reads) begins (Next place token rest) kind at
  by_token (inl h) = absurd (let e' = h.1 rest in cc)
  by_token (inr h) =
      let e' = sym e ∙ h rest in
      record {
        front = [];
        rest = Next place token rest;
        is = refl;
        can_go_on = some;
        blocked = subst (λ (kind : SyntaxKind). Blocked limit (λ (wider : ℕ). reads) begins [] (Next place token rest) kind at) (sym (kind_is e'))
            (sym (place_is e'), λ wider h' other. h other, λ int wider h' other. one.no_length place other);
      }

-- heads behind a front
pub front_heads : (front : List Placed) (left other middle : Tokens) → middle ≡ joined front left → AlikeHeads left other
    → AlikeHeads middle (joined front other)
front_heads front left other middle e h =
    subst (λ (m : Tokens). AlikeHeads m (joined front other)) (sym (e ∙ ap (joined front) h.is))
    (subst (λ (o : Tokens). AlikeHeads (joined front (Next h.at h.token h.rest)) (joined front o)) (sym h.other_is)
    (alike_heads front h.at h.token h.token' h.rest h.rest' h.alike))

-- a reading that goes on from another fails in the first or behind it
pub record StuckOn {A B : Type 0} (reading : Reading A) (go : A → Tokens → Reading B) (kind : SyntaxKind) (at : Place) : Type 0 where
  pub thing : A
  pub middle : Tokens
  pub first : reading ≡ Found thing middle
  pub others : go thing middle ≡ FaultAt kind at

pub stuck_on : {A B : Type 0} (reading : Reading A) (go : A → Tokens → Reading B) (kind : SyntaxKind) (at : Place)
    → then_read reading go ≡ FaultAt kind at → (reading ≡ FaultAt kind at) ⊎ StuckOn reading go kind at
stuck_on (Found thing middle) go kind at e = inr (record { thing = thing; middle = middle; first = refl; others = e })
stuck_on {A} (FaultAt kind' at') go kind at e = inl (again (kind_is e) (place_is e)) where
  again : kind' ≡ kind → at' ≡ at → ◌≡◌ {A = Reading A} (FaultAt kind' at') (FaultAt kind at)
  again h h' = cc
