-- Lines that are printed token by token.
use Rattle.std.proofs.Common.{◌≡◌, ℕ, suc, ◌+◌, ◌<◌, Bool, true, false, ◌||◌, ◌&&◌, not, List, [], ◌∷◌, ◌++◌, length, map, take, Option, Some, None, if◌then◌else◌, codes, refl, sym, ap, ap₂, ◌∙◌, append_assoc, append-nil, get_or, length-append, length-take-le, arith}
use Rattle.std.proofs.lemmas.List.{length-map, take_more, map-append}
use Rattle.std.specs.Prelude.{◌==◌}
use Rattle.lexemes.specs.declared.token.Mark.{Mark}
use Rattle.lexemes.specs.declared.token.Mark.TheVariants.{LeftParenthesis, RightParenthesis}
use Rattle.printed_syntax.specs.declared.printer.TokenKind.{TokenKind}
use Rattle.printed_syntax.specs.declared.printer.TokenKind.TheVariants.{Opening, Bracket, Closing, Applied, Other}
use Rattle.lexemes.specs.Tokens.{Token, MarkToken}
use Rattle.auth_syntax.specs.Grammar.{Written, mark, in_parentheses}
use Rattle.printed_syntax.specs.PrintedPrograms.{token_text, is_opening, is_closing, is_applied, are_apart, blank_before, in_line}
use Rattle.printed_syntax.specs.LineViews.{kind_of_token, kinds_apart, Line, at_line, with_token, with_tokens, separated, with_end}

-- with some tokens, and then others
pub with_tokens_append : (line : Line) (ws vs : List Written) → with_tokens line (ws ++ vs) ≡ with_tokens (with_tokens line ws) vs
with_tokens_append line [] vs = refl
with_tokens_append line (w ∷ ws) vs = with_tokens_append (with_token line w.token) ws vs

-- tokens are apart where their kinds are
abbrev kind_by : Bool → Bool → Bool → TokenKind
kind_by opening closing applied =
    if opening then (if closing then Bracket else Opening) else if closing then Closing else if applied then Applied else Other

apart_is : (o c a o' c' a' : Bool) → (c && a) ≡ false → kinds_apart (kind_by o c a) (kind_by o' c' a') ≡ not (o || c' || (a && o'))
apart_is o true true o' c' a' e = absurd (cc)
apart_is true true false o' c' a' e = refl
apart_is true false a o' c' a' e = refl
apart_is false true false true true a' e = refl
apart_is false true false true false a' e = refl
apart_is false true false false true a' e = refl
apart_is false true false false false true e = refl
apart_is false true false false false false e = refl
apart_is false false true true true a' e = refl
apart_is false false true true false a' e = refl
apart_is false false true false true a' e = refl
apart_is false false true false false true e = refl
apart_is false false true false false false e = refl
apart_is false false false true true a' e = refl
apart_is false false false true false a' e = refl
apart_is false false false false true a' e = refl
apart_is false false false false false true e = refl
apart_is false false false false false false e = refl

closing_not_applied : (token : Token) → (is_closing token && is_applied token) ≡ false
closing_not_applied (MarkToken mark) = neither (is_closing (MarkToken mark)) where
  neither : (b : Bool) → (b && false) ≡ false
  neither true = refl
  neither false = refl
closing_not_applied token = refl

kinds_apart-is : (last next : Token) → kinds_apart (kind_of_token last) (kind_of_token next) ≡ are_apart last next
kinds_apart-is last next =
    apart_is (is_opening last) (is_closing last) (is_applied last) (is_opening next) (is_closing next) (is_applied next)
    (closing_not_applied last)

-- so a line is that of its tokens
abbrev kind_behind : Option Token → TokenKind
kind_behind None = Opening
kind_behind (Some token) = kind_of_token token

blank_is : (last : Option Token) (next : Token) → (if kinds_apart (kind_behind last) (kind_of_token next) then codes " " else []) ≡ blank_before last next
blank_is None next = refl
blank_is (Some last) next = ap (λ test. if test then codes " " else []) (kinds_apart-is last next)

line_text : (ws : List Written) (last : Option Token) (text : List ℕ)
    → (with_tokens (record { text = text; last = kind_behind last }) ws).text ≡ text ++ in_line last ws
line_text [] last text = sym (append-nil text)
line_text (w ∷ ws) last text =
    let blank = blank_before last w.token in
    let others = in_line (Some w.token) ws in
    line_text ws (Some w.token) (text ++ (if kinds_apart (kind_behind last) (kind_of_token w.token) then codes " " else []) ++ token_text w.token)
    ∙ ap (λ blank. (text ++ blank ++ token_text w.token) ++ others) (blank_is last w.token)
    ∙ append_assoc (text ++ blank) (token_text w.token) others
    ∙ append_assoc text blank (token_text w.token ++ others)
    ∙ ap (λ line. text ++ line) (sym (append_assoc blank (token_text w.token) others))

pub line_ended : (text : List ℕ) (ws : List Written) → with_end (with_tokens (at_line text) ws) ≡ at_line (text ++ (in_line None ws ++ codes "\n"))
line_ended text ws = ap at_line (ap (λ line. line ++ codes "\n") (line_text ws None text) ∙ append_assoc text (in_line None ws) (codes "\n"))

-- with a thing more in a row
not_first : (n : ℕ) → suc n == 0 ≡ false
not_first n = grind (arith)

module _ {A : Type 0} (between : Mark) (one : A → List Written) (all : List A → List Written) (none : all [] ≡ [])
    (single : (thing : A) → all (thing ∷ []) ≡ one thing)
    (several : (thing next : A) (rest : List A) → all (thing ∷ next ∷ rest) ≡ one thing ++ mark between ∷ all (next ∷ rest)) where
  behind_some : (line : Line) (first : A) (things : List A) (thing : A)
      → with_tokens line (all (first ∷ things ++ thing ∷ [])) ≡ with_tokens (with_token (with_tokens line (all (first ∷ things))) (MarkToken between)) (one thing)
  behind_some line first [] thing =
      ap (with_tokens line) (several first thing [])
      ∙ with_tokens_append line (one first) (mark between ∷ all (thing ∷ []))
      ∙ ap₂ (λ (before : Line) ws. with_tokens (with_token before (MarkToken between)) ws) (ap (with_tokens line) (sym (single first))) (single thing)
  behind_some line first (next ∷ things) thing =
      ap (with_tokens line) (several first next (things ++ thing ∷ []))
      ∙ with_tokens_append line (one first) (mark between ∷ all (next ∷ things ++ thing ∷ []))
      ∙ behind_some (with_token (with_tokens line (one first)) (MarkToken between)) next things thing
      ∙ ap (λ (before : Line). with_tokens (with_token before (MarkToken between)) (one thing))
      (sym (ap (with_tokens line) (several first next things) ∙ with_tokens_append line (one first) (mark between ∷ all (next ∷ things))))

  behind_all : (line : Line) (things : List A) (thing : A)
      → with_tokens line (all (things ++ thing ∷ [])) ≡ with_tokens (separated (length things) between (with_tokens line (all things))) (one thing)
  behind_all line [] thing = ap (with_tokens line) (single thing) ∙ ap (λ ws. with_tokens (with_tokens line ws) (one thing)) (sym none)
  behind_all line (first ∷ things) thing =
      behind_some line first things thing
      ∙ ap (λ test. with_tokens (if test then with_tokens line (all (first ∷ things)) else with_token (with_tokens line (all (first ∷ things))) (MarkToken between)) (one thing))
      (sym (not_first (length things)))

  pub row_more : {B : Type 0} (view : B → A) (line : Line) (things : List B) (i : ℕ) (thing : B) (before middle after : Line)
      → before ≡ with_tokens line (all (map view (take i things))) → middle ≡ separated i between before → after ≡ with_tokens middle (one (view thing))
      → thing ≡ get_or things i thing → i < length things
      → after ≡ with_tokens line (all (map view (take (i + 1) things)))
  row_more {B} view line things i thing before middle after e e' e'' is h =
      let others = map view (take i things) in
      let count : length others ≡ i = length-map (take i things) view ∙ length-take-le i things (omega arith) in
      e''
      ∙ ap (λ (m : Line). with_tokens m (one (view thing))) (e' ∙ ap (separated i between) e)
      ∙ ap (λ n. with_tokens (separated n between (with_tokens line (all others))) (one (view thing))) (sym count)
      ∙ sym (behind_all line others (view thing))
      ∙ ap (λ (t : B). with_tokens line (all (others ++ view t ∷ []))) is
      ∙ ap (λ ts. with_tokens line (all ts)) (sym (map-append view (take i things) (get_or things i thing ∷ [])))
      ∙ ap (λ (ts : List B). with_tokens line (all (map view ts))) (sym (take_more things i thing h))

-- with things between parentheses, where there are any
parentheses_some : (line : Line) (ws : List Written) → 0 < length ws
    → with_tokens line (in_parentheses ws) ≡ with_token (with_tokens (with_token line (MarkToken LeftParenthesis)) ws) (MarkToken RightParenthesis)
parentheses_some line [] h = absurd (omega arith)
parentheses_some line (w ∷ ws) h = with_tokens_append (with_token line (MarkToken LeftParenthesis)) (w ∷ ws) (mark RightParenthesis ∷ [])

module _ {A : Type 0} (between : Mark) (one : A → List Written) (all : List A → List Written) (some : (thing : A) → 0 < length (one thing))
    (single : (thing : A) → all (thing ∷ []) ≡ one thing)
    (several : (thing next : A) (rest : List A) → all (thing ∷ next ∷ rest) ≡ one thing ++ mark between ∷ all (next ∷ rest)) where
  all_some : (things : List A) → 0 < length things → 0 < length (all things)
  all_some [] h = absurd (omega arith)
  all_some (thing ∷ []) h = omega (arith, some thing, ap length (single thing))
  all_some (thing ∷ next ∷ rest) h =
      omega (arith, some thing, ap length (several thing next rest), length-append (one thing) (mark between ∷ all (next ∷ rest)))

  not_none : (things : List A) → false ≡ (length things == 0) → 0 < length things
  not_none things h = grind (arith)

  pub row_in_parentheses : {B : Type 0} (view : B → A) (line : Line) (things : List B) (opened filled closed : Line) → false ≡ (length things == 0)
      → opened ≡ with_token line (MarkToken LeftParenthesis) → filled ≡ with_tokens opened (all (map view things)) → closed ≡ with_token filled (MarkToken RightParenthesis)
      → closed ≡ with_tokens line (in_parentheses (all (map view things)))
  row_in_parentheses view line things opened filled closed h e e' e'' =
      let some : 0 < length (map view things) = not_none (map view things) (h ∙ ap (λ n. n == 0) (sym (length-map things view))) in
      e''
      ∙ ap (λ (l : Line). with_token l (MarkToken RightParenthesis)) (e' ∙ ap (λ (l : Line). with_tokens l (all (map view things))) e)
      ∙ sym (parentheses_some line (all (map view things)) (all_some (map view things) some))
