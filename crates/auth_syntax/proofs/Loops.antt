-- Lists and declarations one by one, as the code reads them.
use Rattle.std.proofs.Common.{◌≡◌, ℕ, zero, suc, Bool, true, false, ◌<◌, ◌≤◌, List, [], ◌∷◌, ◌++◌, map, Err, refl, ap, sym, ◌∙◌, arith, append_assoc}
use Rattle.std.proofs.lemmas.List.{map-append}
use Rattle.lexemes.specs.declared.place.Place.{Place}
use Rattle.lexemes.specs.declared.fault.SyntaxKind.{SyntaxKind}
use Rattle.lexemes.specs.Tokens.{Token, Tokens, Next, End, Faulty, count}
use Rattle.lexemes.specs.Readings.{SyntaxFault, Reading, Found, FaultAt, then_read, read_separator}
use Rattle.auth_syntax.specs.Syntax.{ConstructorDeclaration, DeclarationSyntax}
use Rattle.auth_syntax.specs.Parsing.{read_bar, read_arm_separator, read_others, read_list, read_expression, read_arms, read_constructor_declaration, read_constructors, read_declaration, read_declarations}
use Rattle.auth_syntax.specs.Trees.{arms_in_a_row}
use Rattle.auth_syntax.specs.Arms.{read_arm}
use Rattle.lexemes.specs.Remaining.{Reads}
use Rattle.auth_syntax.proofs.Faults.{Reads-err}
use Rattle.auth_syntax.proofs.Lists.{read_separated, read_list-is}
use Rattle.auth_syntax.proofs.Exact.{read_constructors-is}
use Rattle.auth_syntax.proofs.ArmsOneByOne.{arms_are_read}
use Rattle.auth_syntax.proofs.MadeOfTokens.{IsMadeOfTokens, separator_is_token, bar_is_token, arm_separator_is_token, constructor_is_tokens, expression_is_tokens, arm_is_tokens, declaration_is_tokens}

-- these before those that are read
abbrev pub followed : {A : Type 0} → List A → Reading (List A) → Reading (List A)
followed before reading = then_read reading (λ others rest. Found (before ++ others) rest)

followed-nil : {A : Type 0} (reading : Reading (List A)) → reading ≡ followed [] reading
followed-nil (Found others rest) = refl
followed-nil (FaultAt kind at) = refl

pub followed-joined : {A : Type 0} (before : List A) (one : A) (reading : Reading (List A))
    → followed before (then_read reading (λ others ts. Found (one ∷ others) ts)) ≡ followed (before ++ one ∷ []) reading
followed-joined before one (Found others rest) = rw append_assoc
followed-joined before one (FaultAt kind at) = refl

-- How a list is read one by one: the things that begin these tokens are those read so far, and the things of what is left.
pub record IsReadSoFar {A : Type 0} (reads : Tokens → Reading Bool) (one : Tokens → Reading A) (whole : Tokens) (so_far : List A) (rest : Tokens) : Type 0 where
  pub most : ℕ
  pub reading : read_separated reads one (count whole) whole ≡ followed so_far (read_separated reads one most rest)
  pub enough : count rest ≤ most

pub read_so_far-start : {A : Type 0} (reads : Tokens → Reading Bool) (one : Tokens → Reading A) (whole : Tokens) → IsReadSoFar reads one whole [] whole
read_so_far-start reads one whole =
    record { most = count whole; reading = followed-nil (read_separated reads one (count whole) whole); enough = omega arith }

-- a list, where it is seen so
abbrev pub seen : {A B : Type 0} → (List A → B) → Reading (List A) → Reading B
seen see reading = then_read reading (λ things rest. Found (see things) rest)

seen-id : {A : Type 0} (reading : Reading (List A)) → reading ≡ seen (λ things. things) reading
seen-id (Found things rest) = refl
seen-id (FaultAt kind at) = refl

-- What reads the whole list reads one thing after another, with the sign that tells whether another one follows.
pub record IsReadByOne {A B : Type 0} (reads : Tokens → Reading Bool) (one : Tokens → Reading A) (see : List A → B) (all : Tokens → Reading B) : Type 0 where
  pub sign_is_token : IsMadeOfTokens reads
  pub one_is_tokens : IsMadeOfTokens one
  pub all_is : (whole : Tokens) → all whole ≡ seen see (read_separated reads one (count whole) whole)

module _ {A B : Type 0} (reads : Tokens → Reading Bool) (one : Tokens → Reading A) (see : List A → B) (all : Tokens → Reading B)
    (by_one : IsReadByOne reads one see all) (whole : Tokens) (so_far : List A) (rest : Tokens) (h : IsReadSoFar reads one whole so_far rest) where
  -- what is read behind a thing, where this is read as the sign
  abbrev behind : ℕ → A → Reading Bool → Reading (List A)
  behind most thing sign = then_read (read_others sign (read_separated reads one most)) (λ others ts. Found (thing ∷ others) ts)

  -- what is read at the things left, where this is read as the first of them
  abbrev from : ℕ → Reading A → Reading (List A)
  from most reading = then_read reading (λ thing ts. behind most thing (reads ts))

  -- what is read at the things left, where there is one more
  one_more : (most : ℕ) (after : Tokens) (thing : A) → one rest ≡ Found thing after → count rest ≤ most
      → (less : ℕ) × (count after ≤ less) × (read_separated reads one most rest ≡ behind less thing (reads after))
  one_more zero after thing found enough = let fewer = by_one.one_is_tokens.fewer rest after thing found in absurd (omega arith)
  one_more (suc most) after thing found enough =
      let fewer = by_one.one_is_tokens.fewer rest after thing found in (most, omega arith, ap (from most) found)

  -- fewer tokens are left behind a thing and its sign
  pub one_is_shorter : (after behind_sign : Tokens) (thing : A) (follows : Bool) → one rest ≡ Found thing after → reads after ≡ Found follows behind_sign
      → count behind_sign < count rest
  one_is_shorter after behind_sign thing follows found sign =
      omega (arith, by_one.one_is_tokens.fewer rest after thing found, by_one.sign_is_token.fewer after behind_sign follows sign)

  -- a thing and the sign that another one follows
  pub read_so_far-more : (after behind_sign : Tokens) (thing : A) → one rest ≡ Found thing after → reads after ≡ Found true behind_sign
      → IsReadSoFar reads one whole (so_far ++ thing ∷ []) behind_sign
  read_so_far-more after behind_sign thing found sign =
      let more = one_more h.most after thing found h.enough in
      record {
        most = more.0;
        reading = h.reading ∙ (ap (followed so_far) (more.2 ∙ ap (behind more.0 thing) sign)
            ∙ followed-joined so_far thing (read_separated reads one more.0 behind_sign));
        enough = omega (arith, more.1, by_one.sign_is_token.fewer after behind_sign true sign);
      }

  -- a thing and the sign that ends the list
  pub read_so_far-end : (after behind_sign : Tokens) (thing : A) → one rest ≡ Found thing after → reads after ≡ Found false behind_sign
      → all whole ≡ Found (see (so_far ++ thing ∷ [])) behind_sign
  read_so_far-end after behind_sign thing found sign =
      let more = one_more h.most after thing found h.enough in
      by_one.all_is whole ∙ ap (seen see) (h.reading ∙ ap (followed so_far) (more.2 ∙ ap (behind more.0 thing) sign))

  -- a fault stays what it is, whatever is read
  same_fault : (other : SyntaxKind) (there : Place) (kind : SyntaxKind) (at : Place) (reading : Reading A) → reading ≡ FaultAt other there
      → reading ≡ FaultAt kind at → ◌≡◌ {A = Reading (List A)} (FaultAt other there) (FaultAt kind at)
  same_fault other there kind at reading is is' = ap (λ reading. then_read reading (λ thing ts. Found [] ts)) (sym is ∙ is')

  no_more : (most : ℕ) (rest : Tokens) (kind : SyntaxKind) (at : Place) → count rest ≤ most → one rest ≡ FaultAt kind at
      → read_separated reads one most rest ≡ FaultAt kind at
  no_more zero (Next next token rest) kind at enough none = absurd (omega arith)
  no_more zero (End end) kind at enough none = same_fault _ _ kind at _ (by_one.one_is_tokens.at_end end) none
  no_more zero (Faulty next lexical) kind at enough none = same_fault _ _ kind at _ (by_one.one_is_tokens.at_fault next lexical) none
  no_more (suc most) rest kind at enough none = ap (from most) none

  -- no thing
  pub read_so_far-none : {C D : Type 0} (view : C → A) (view_all : D → B) (left left' : Tokens) (fault : SyntaxFault) → Reads view (one rest) (Err fault) left
      → Reads view_all (all whole) (Err fault) left'
  read_so_far-none view view_all left left' fault =
      Reads-err view view_all (one rest) (all whole) left left' fault
      (λ kind at none. by_one.all_is whole ∙ ap (seen see) (h.reading ∙ ap (followed so_far) (no_more h.most rest kind at h.enough none)))

  -- no sign stands behind a thing
  pub read_so_far-other : {D : Type 0} (view_all : D → B) (after : Tokens) (thing : A) → one rest ≡ Found thing after → (left left' : Tokens) (fault : SyntaxFault)
      → Reads (λ follows. follows) (reads after) (Err fault) left → Reads view_all (all whole) (Err fault) left'
  read_so_far-other view_all after thing found left left' fault =
      let more = one_more h.most after thing found h.enough in
      Reads-err (λ follows. follows) view_all (reads after) (all whole) left left' fault
      (λ kind at other. by_one.all_is whole ∙ ap (seen see) (h.reading ∙ ap (followed so_far) (more.2 ∙ ap (behind more.0 thing) other)))

-- the lists of the grammar: with commas, with bars, and arms
pub listed_by_one : {A : Type 0} (one : Tokens → Reading A) → IsMadeOfTokens one
    → IsReadByOne read_separator one (λ things. things) (λ tokens. read_list one (count tokens) tokens)
listed_by_one {A} one is_tokens = record {
  sign_is_token = separator_is_token;
  one_is_tokens = is_tokens;
  all_is = λ whole.
      ap (λ (read : Tokens → Reading (List A)). read whole) (read_list-is one (count whole))
      ∙ seen-id (read_separated read_separator one (count whole) whole);
}

pub constructors_by_one : IsReadByOne read_bar read_constructor_declaration (λ things. things) (λ tokens. read_constructors (count tokens) tokens)
constructors_by_one = record {
  sign_is_token = bar_is_token;
  one_is_tokens = constructor_is_tokens;
  all_is = λ whole.
      ap (λ (read : Tokens → Reading (List ConstructorDeclaration)). read whole) (read_constructors-is (count whole))
      ∙ seen-id (read_separated read_bar read_constructor_declaration (count whole) whole);
}

pub expressions_by_one : (levels : ℕ)
    → IsReadByOne read_separator (read_expression levels) (λ things. things) (λ tokens. read_list (read_expression levels) (count tokens) tokens)
expressions_by_one levels = listed_by_one (read_expression levels) (expression_is_tokens levels)

pub arms_by_one : (levels : ℕ)
    → IsReadByOne read_arm_separator (read_arm (read_expression levels)) arms_in_a_row (λ tokens. read_arms (read_expression levels) (count tokens) tokens)
arms_by_one levels = record {
  sign_is_token = arm_separator_is_token;
  one_is_tokens = arm_is_tokens levels;
  all_is = λ whole. arms_are_read (read_expression levels) (count whole) whole;
}

-- what is pushed stands behind the others
pub pushed : {A B : Type 0} (view : A → B) (before after : List A) (thing : A) → after ≡ before ++ thing ∷ [] → map view after ≡ map view before ++ view thing ∷ []
pushed view before after thing e = ap (map view) e ∙ map-append view before (thing ∷ [])

-- The declarations that these tokens are are those read so far, and the declarations of what is left.
pub record AreDeclaredSoFar (whole : Tokens) (so_far : List DeclarationSyntax) (rest : Tokens) : Type 0 where
  pub most : ℕ
  pub reading : read_declarations (count whole) whole ≡ followed so_far (read_declarations most rest)
  pub enough : count rest ≤ most

module _ (whole : Tokens) where
  pub declared_so_far-start : AreDeclaredSoFar whole [] whole
  declared_so_far-start =
      record { most = count whole; reading = followed-nil (read_declarations (count whole) whole); enough = omega arith }

  -- what is read at the declarations left, where this is read as the first of them
  abbrev from_declaration : ℕ → Reading DeclarationSyntax → Reading (List DeclarationSyntax)
  from_declaration most reading =
      then_read reading (λ declaration ts. then_read (read_declarations most ts) (λ others ts. Found (declaration ∷ others) ts))

  -- one more declaration
  pub declared_so_far-more : (so_far : List DeclarationSyntax) (at : Place) (token : Token) (rest after : Tokens) (declaration : DeclarationSyntax)
      → AreDeclaredSoFar whole so_far (Next at token rest) → read_declaration (Next at token rest) ≡ Found declaration after
      → AreDeclaredSoFar whole (so_far ++ declaration ∷ []) after
  declared_so_far-more so_far at token rest after declaration h found = more h.most h.reading h.enough where
    more : (most : ℕ) → read_declarations (count whole) whole ≡ followed so_far (read_declarations most (Next at token rest))
        → count (Next at token rest) ≤ most → AreDeclaredSoFar whole (so_far ++ declaration ∷ []) after
    more zero reading enough = absurd (omega arith)
    more (suc most) reading enough =
        let fewer = declaration_is_tokens (Next at token rest) after declaration found in
        record {
          most = most;
          reading = reading ∙ (ap (followed so_far) (ap (from_declaration most) found) ∙ followed-joined so_far declaration (read_declarations most after));
          enough = omega arith;
        }
