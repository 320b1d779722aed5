-- Lists with commas in parentheses, and lists that may be lacking, on tokens that only begin alike.
use Rattle.std.proofs.Common.{◌≡◌, ℕ, suc, ◌≤◌, ◌⊎◌, inl, inr, Bool, true, false, List, [], ◌∷◌, ◌++◌, refl, sym, ap, subst, ◌∙◌}
use Rattle.lexemes.specs.declared.place.Place.{Place}
use Rattle.lexemes.specs.declared.fault.SyntaxKind.{SyntaxKind}
use Rattle.lexemes.specs.declared.fault.SyntaxKind.TheVariants.{Expected}
use Rattle.lexemes.specs.declared.token.Keyword.TheVariants.{End as EndWord}
use Rattle.lexemes.specs.declared.token.Mark.TheVariants.{LeftParenthesis, RightParenthesis, Comma, Semicolon, Bar}
use Rattle.lexemes.specs.Tokens.{Token, KeywordToken, MarkToken, Tokens, Next, End, Faulty, count}
use Rattle.auth_syntax.specs.Grammar.{Written, mark, in_parentheses, IsSome}
use Rattle.lexemes.specs.Readings.{Reading, Found, FaultAt, read_separator}
use Rattle.auth_syntax.specs.Parsing.{read_bar, read_arm_separator, read_list, read_optional_list}
use Rattle.auth_syntax.specs.FirstFaults.{placed, joined, AreFirst}
use Rattle.auth_syntax.proofs.Readers.{IsClear, Reader, found_thing, found_left}
use Rattle.auth_syntax.proofs.Lists.{IsListed, commas, read_separated, read_list-is, in_parentheses-some}
use Rattle.auth_syntax.proofs.Fronts.{AlikeHeads, heads_hold, CanBegin, Taken, Stuck, IsLocal, stuck_behind, IsOneToken}
use Rattle.auth_syntax.proofs.FrontLists.{counted_local}

abbrev IsDecided : (Tokens → Reading Bool) → Place → Token → Type 0
IsDecided reads at token =
    ((follows : Bool) × ((rest : Tokens) → reads (Next at token rest) ≡ Found follows rest))
    ⊎ ((rest : Tokens) → reads (Next at token rest) ≡ FaultAt Expected at)

pub comma_one : IsOneToken read_separator
comma_one = record { decided = decided; at_end = λ at. refl; at_fault = λ at fault. refl; no_length = λ at rest. refl } where
  decided : (at : Place) (token : Token) → IsDecided read_separator at token
  decided at (MarkToken Comma) = inl (true, λ rest. refl)
  decided at (MarkToken RightParenthesis) = inl (false, λ rest. refl)
  decided at token = inr (λ rest. refl)

pub bar_one : IsOneToken read_bar
bar_one = record { decided = decided; at_end = λ at. refl; at_fault = λ at fault. refl; no_length = λ at rest. refl } where
  decided : (at : Place) (token : Token) → IsDecided read_bar at token
  decided at (MarkToken Bar) = inl (true, λ rest. refl)
  decided at (MarkToken Semicolon) = inl (false, λ rest. refl)
  decided at token = inr (λ rest. refl)

pub arm_one : IsOneToken read_arm_separator
arm_one = record { decided = decided; at_end = λ at. refl; at_fault = λ at fault. refl; no_length = λ at rest. refl } where
  decided : (at : Place) (token : Token) → IsDecided read_arm_separator at token
  decided at (MarkToken Bar) = inl (true, λ rest. refl)
  decided at (KeywordToken EndWord) = inl (false, λ rest. refl)
  decided at token = inr (λ rest. refl)

-- a reader that reads as another
pub local_along : {A : Type 0} (limit : ℕ) (read read' : ℕ → Tokens → Reading A) (written : A → List Written) (within : ℕ → A → Type 0)
    → ((wider : ℕ) (tokens : Tokens) → read' wider tokens ≡ read wider tokens) → IsLocal limit read written within → IsLocal limit read' written within
local_along limit read read' written within same l = record {
  taken = λ before found left e.
      let t = l.taken before found left (sym (same limit before) ∙ e) in record {
        thing = t.thing;
        makes = t.makes;
        front = t.front;
        is = t.is;
        are_all = t.are_all;
        fits = t.fits;
        again = λ wider h other heads. same wider (joined t.front other) ∙ t.again wider h other heads;
      };
  stuck = λ before kind at e.
      stuck_behind limit read (CanBegin written within) read' (CanBegin written within) [] before before kind at refl (λ n next h b. b)
      (λ wider kind at other h heads x. same wider other ∙ x) (l.stuck before kind at (sym (same limit before) ∙ e));
  some = l.some;
  some_fits = l.some_fits;
  widen = l.widen;
}

-- a parenthesis opens there, or none
pub paren_or_clear : (before : Tokens) → ((at : Place) × (rest : Tokens) × (before ≡ Next at (MarkToken LeftParenthesis) rest)) ⊎ IsClear before
paren_or_clear (Next at (MarkToken LeftParenthesis) rest) = inl (at, rest, refl)
paren_or_clear (Next at token rest) = inr tt
paren_or_clear (End at) = inr tt
paren_or_clear (Faulty at fault) = inr tt

pub clear_same : (left other : Tokens) → AlikeHeads left other → IsClear left → IsClear other
clear_same left other h clear = heads_hold IsClear left other h (λ at z rest. tt) moved clear where
  moved : (at : Place) (token : Token) (rest rest' : Tokens) → IsClear (Next at token rest) → IsClear (Next at token rest')
  moved at (MarkToken LeftParenthesis) rest rest' clear = clear
  moved at token rest rest' clear = tt

module _ (limit : ℕ) (one : Reader limit) (all : List one.A → List Written) (all_within : ℕ → List one.A → Type 0)
    (listed : (n : ℕ) → IsListed n (mark Comma) one.written one.within all all_within)
    (local : IsLocal limit one.read one.written one.within)
    (widen : (n wider : ℕ) (things : List one.A) → n ≤ wider → all_within n things → all_within wider things) where
  abbrev read_all : ℕ → Tokens → Reading (List one.A)
  read_all at_most tokens = read_list (one.read at_most) (count tokens) tokens

  pub list_local : IsLocal limit read_all (λ things. all things ++ mark RightParenthesis ∷ []) (λ at_most things. IsSome things × all_within at_most things)
  list_local =
      local_along limit (λ wider tokens. read_separated read_separator (one.read wider) (count tokens) tokens) read_all _ _
      (λ wider tokens. ap (λ (read : Tokens → Reading (List one.A)). read tokens) (read_list-is (one.read wider) (count tokens)))
      (counted_local limit one (mark Comma) (mark RightParenthesis) all all_within listed read_separator commas local comma_one widen)

  abbrev read_any : ℕ → Tokens → Reading (List one.A)
  read_any wider = read_optional_list (one.read wider)

  abbrev any_written : List one.A → List Written
  any_written things = in_parentheses (all things)

  in_some : (things : List one.A) → IsSome things → any_written things ≡ mark LeftParenthesis ∷ all things ++ mark RightParenthesis ∷ []
  in_some things some = in_parentheses-some limit one all all_within (listed limit) things some

  any_clear : (wider : ℕ) (tokens : Tokens) → IsClear tokens → read_any wider tokens ≡ Found [] tokens
  any_clear wider (Next at (MarkToken LeftParenthesis) rest) clear = absurd clear
  any_clear wider tokens clear = refl

  any_taken : (before : Tokens) (found : List one.A) (left : Tokens) → read_any limit before ≡ Found found left
      → Taken limit read_any (λ things. things) any_written all_within before found left
  any_taken before found left e =
      elim (paren_or_clear before) as (λ _. Taken limit read_any (λ things. things) any_written all_within before found left) [
        | inl p ↦
            let t = list_local.taken p.1 found left (sym (ap (read_any limit) p.2) ∙ e) in
            let some = t.fits.0 in
            record {
              thing = t.thing;
              makes = t.makes;
              front = placed p.0 (MarkToken LeftParenthesis) ∷ t.front;
              is = p.2 ∙ ap (Next p.0 (MarkToken LeftParenthesis)) t.is;
              are_all = subst (λ (ws : List Written). AreFirst (placed p.0 (MarkToken LeftParenthesis) ∷ t.front) ws []) (sym (in_some t.thing some))
                  (refl, tt, t.are_all);
              fits = t.fits.1;
              again = λ wider h other heads. t.again wider h other heads;
            }
        | inr clear ↦
            let e' : Found [] before ≡ Found found left = sym (any_clear limit before clear) ∙ e in
            record {
              thing = [];
              makes = found_thing e';
              front = [];
              is = found_left e';
              are_all = ap in_parentheses (listed limit).none;
              fits = (listed limit).none_within;
              again = λ wider h other heads.
                  any_clear wider other (clear_same left other heads (subst IsClear (found_left e') clear)) ∙ ap (λ things. Found things other) (found_thing e');
            }
      ]

  any_stuck : (before : Tokens) (kind : SyntaxKind) (at : Place) → read_any limit before ≡ FaultAt kind at
      → Stuck limit read_any (CanBegin any_written all_within) before kind at
  any_stuck before kind at e =
      elim (paren_or_clear before) as (λ _. Stuck limit read_any (CanBegin any_written all_within) before kind at) [
        | inl p ↦
            stuck_behind limit read_all (CanBegin (λ (things : List one.A). all things ++ mark RightParenthesis ∷ [])
            (λ (at_most : ℕ) (things : List one.A). IsSome things × all_within at_most things)) read_any (CanBegin any_written all_within)
            (placed p.0 (MarkToken LeftParenthesis) ∷ []) before p.1 kind at p.2
            (λ n next h b. record {
              thing = b.thing;
              others = b.others;
              are_first = subst (λ (ws : List Written). AreFirst (placed p.0 (MarkToken LeftParenthesis) ∷ next) ws b.others) (sym (in_some b.thing b.fits.0))
                  (refl, tt, b.are_first);
              fits = b.fits.1;
            })
            (λ wider kind at other h heads x. x) (list_local.stuck p.1 kind at (sym (ap (read_any limit) p.2) ∙ e))
        | inr clear ↦ absurd (let e' = any_clear limit before clear in cc)
      ]

  pub optional_local : IsLocal limit read_any any_written all_within
  optional_local =
      record { taken = any_taken; stuck = any_stuck; some = []; some_fits = λ n. (listed (suc n)).none_within; widen = widen }
