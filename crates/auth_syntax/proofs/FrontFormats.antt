-- The reader of a program's format, on tokens that only begin alike.
use Rattle.std.proofs.Common.{◌≡◌, ℕ, Bool, true, false, cond, ◌⊎◌, inl, inr, List, [], ◌∷◌, Option, Some, None, refl, sym, ap, subst, ◌∙◌}
use Rattle.std.proofs.lemmas.Slice.Eq.{bytes_eq-Decides}
use Rattle.std.specs.Prelude.{bytes_eq}
use Rattle.core_terms.specs.declared.format.Format.{Format}
use Rattle.core_terms.specs.declared.format.Format.TheVariants.{First as FirstFormat}
use Rattle.lexemes.specs.declared.place.Place.{Place}
use Rattle.lexemes.specs.declared.fault.SyntaxKind.{SyntaxKind}
use Rattle.lexemes.specs.declared.fault.SyntaxKind.TheVariants.{Expected}
use Rattle.lexemes.specs.Tokens.{Token, IntToken, LowerToken, Tokens, Next}
use Rattle.lexemes.specs.Readings.{Reading, Found, FaultAt, then_read}
use Rattle.auth_syntax.specs.Grammar.{anywhere, format_number, format_tokens}
use Rattle.auth_syntax.specs.ProgramTokens.{format_of, format_word, known_format, read_format, read_format_number}
use Rattle.auth_syntax.specs.FirstFaults.{placed}
use Rattle.auth_syntax.proofs.Readers.{read_row, found_thing, found_left}
use Rattle.auth_syntax.proofs.ToldFormats.{number_written, numbers_are, told_row}
use Rattle.auth_syntax.proofs.Fronts.{AlikeHeads, heads_hold, CanBegin, Taken, Stuck, IsLocal, IsOneToken}
use Rattle.auth_syntax.proofs.Productions.{IsRead, read_taken, read_stuck, one_local}

-- its number
abbrev IsDecided : Place → (Tokens → Reading Format) → Type 0
IsDecided at reads =
    ((format : Format) × ((rest : Tokens) → reads rest ≡ Found format rest)) ⊎ ((rest : Tokens) → reads rest ≡ FaultAt Expected at)

known_decided : (at : Place) (known : Option Format) → IsDecided at (known_format known at)
known_decided at (Some format) = inl (format, λ rest. refl)
known_decided at None = inr (λ rest. refl)

number_decided : (at : Place) (token : Token) → IsDecided at (λ rest. read_format_number (Next at token rest))
number_decided at (IntToken z) = known_decided at (format_of z)
number_decided at token = inr (λ rest. refl)

number_one : IsOneToken read_format_number
number_one = record { decided = number_decided; at_end = λ at. refl; at_fault = λ at fault. refl; no_length = λ at rest. refl }

-- the word doesn't stand there
abbrev IsWordless : Tokens → Type 0
IsWordless (Next at (LowerToken name) rest) = bytes_eq name format_word ≡ false
IsWordless tokens = Unit {0}

wordless_same : (left other : Tokens) → AlikeHeads left other → IsWordless left → IsWordless other
wordless_same left other h clear = heads_hold IsWordless left other h (λ at z rest. tt) moved clear where
  moved : (at : Place) (token : Token) (rest rest' : Tokens) → IsWordless (Next at token rest) → IsWordless (Next at token rest')
  moved at (LowerToken name) rest rest' clear = clear
  moved at token rest rest' clear = tt

-- what stands behind the name at the head is read so
abbrev behind_name : Bool → Place → List ℕ → Tokens → Reading (Option Format)
behind_name stands at name rest =
    then_read (cond stands (Found true rest) (Found false (Next at (LowerToken name) rest)))
    (λ stands tokens. cond stands (read_row (told_row 0) 0 tokens) (Found None tokens))

name_reads : (at : Place) (name : List ℕ) (stands : Bool) → bytes_eq name format_word ≡ stands → (rest : Tokens)
    → read_format (Next at (LowerToken name) rest) ≡ behind_name stands at name rest
name_reads at name stands h rest = ap (λ stands. behind_name stands at name rest) h

wordless_read : (tokens : Tokens) → IsWordless tokens → read_format tokens ≡ Found None tokens
wordless_read (Next at (LowerToken name) rest) h = name_reads at name false h rest
wordless_read tokens h = refl

module _ (limit : ℕ) where
  abbrev read : ℕ → Tokens → Reading (Option Format)
  read at_most = read_format

  abbrev within : ℕ → Option Format → Type 0
  within at_most format = Unit {0}

  abbrev IsTaken : Tokens → Option Format → Tokens → Type 0
  IsTaken before found left = Taken limit read (λ format. format) format_tokens within before found left

  abbrev IsStuckAt : Tokens → SyntaxKind → Place → Type 0
  IsStuckAt before kind place = Stuck limit read (CanBegin format_tokens within) before kind place

  numbers_local : IsLocal limit (λ at_most. read_format_number) number_written (λ at_most format. Unit {0})
  numbers_local =
      one_local limit read_format_number number_one (λ format. anywhere (IntToken (format_number format)))
      (λ tokens left format e. ((numbers_are limit).sound tokens format left e).0) FirstFormat

  -- the word and what stands behind it
  told_read : (at : Place) (name : List ℕ) → bytes_eq name format_word ≡ true → (rest : Tokens)
      → IsRead limit read format_tokens within (placed at (LowerToken name) ∷ []) (anywhere (LowerToken format_word) ∷ []) (told_row limit) rest
  told_read at name h rest = record {
    local = (numbers_local, λ format. tt);
    heads = (ap (λ name. LowerToken name) ((bytes_eq-Decides name format_word).0 h), tt, refl);
    makes = λ n things fits. (refl, tt);
    reads = λ wider other heads. name_reads at name true h other;
  }

  none_taken : (before : Tokens) → IsWordless before → (found : Option Format) (left : Tokens) → read_format before ≡ Found found left
      → IsTaken before found left
  none_taken before clear found left e =
      let e' : Found None before ≡ Found found left = sym (wordless_read before clear) ∙ e in
      record {
        thing = None;
        makes = found_thing e';
        front = [];
        is = found_left e';
        are_all = refl;
        fits = tt;
        again = λ wider h other heads.
            wordless_read other (wordless_same left other heads (subst IsWordless (found_left e') clear)) ∙ ap (λ format. Found format other) (found_thing e');
      }

  name_taken : (at : Place) (name : List ℕ) (stands : Bool) → bytes_eq name format_word ≡ stands → (rest : Tokens) (found : Option Format) (left : Tokens)
      → read_format (Next at (LowerToken name) rest) ≡ Found found left → IsTaken (Next at (LowerToken name) rest) found left
  name_taken at name true h rest found left e =
      read_taken limit read format_tokens within _ _ (told_row limit) rest (told_read at name h rest) found left (sym (name_reads at name true h rest) ∙ e)
  name_taken at name false h rest found left e = none_taken (Next at (LowerToken name) rest) h found left e

  format_taken : (before : Tokens) (found : Option Format) (left : Tokens) → read_format before ≡ Found found left → IsTaken before found left
  format_taken (Next at (LowerToken name) rest) found left e = name_taken at name (bytes_eq name format_word) refl rest found left e
  format_taken before found left e = none_taken before tt found left e

  name_stuck : (at : Place) (name : List ℕ) (stands : Bool) → bytes_eq name format_word ≡ stands → (rest : Tokens) (kind : SyntaxKind) (place : Place)
      → read_format (Next at (LowerToken name) rest) ≡ FaultAt kind place → IsStuckAt (Next at (LowerToken name) rest) kind place
  name_stuck at name true h rest kind place e =
      read_stuck limit read format_tokens within _ _ (told_row limit) rest (told_read at name h rest) kind place (sym (name_reads at name true h rest) ∙ e)
  name_stuck at name false h rest kind place e = absurd (let e' = name_reads at name false h rest in cc)

  format_stuck : (before : Tokens) (kind : SyntaxKind) (place : Place) → read_format before ≡ FaultAt kind place → IsStuckAt before kind place
  format_stuck (Next at (LowerToken name) rest) kind place e = name_stuck at name (bytes_eq name format_word) refl rest kind place e
  format_stuck before kind place e = absurd (cc)

  pub formats_local : IsLocal limit read format_tokens within
  formats_local = record { taken = format_taken; stuck = format_stuck; some = None; some_fits = λ n. tt; widen = λ n wider format h fits. tt }
