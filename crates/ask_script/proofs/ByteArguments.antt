-- The arguments of a script's calls are of bytes: for the law `arguments_are_bytes`.
use Rattle.std.proofs.Common.{◌≡◌, ℕ, ◌<◌, ◌^◌, true, List, [], ◌∷◌, Option, Some, None, option_map, bytes_eq, codes, refl, subst}
use Rattle.std.specs.Str.{is_utf8}
use Rattle.core_terms.specs.Limits.{most_fuel}
use Rattle.core_terms.specs.Spelling.{AreBytes, spelling}
use Rattle.core_terms.specs.Terms.{Program}
use Rattle.core_terms.specs.Types.{Ty, has_tags}
use Rattle.core_terms.specs.Values.{Value}
use Rattle.number_words.specs.Numbers.{number_within}
use Rattle.printed_syntax.specs.Literals.{ConstructorNames, Literal, IsValue, FirstFault, literal_in}
use Rattle.printed_syntax.proofs.LiteralsReadBack.{literals_are_read_back}
use Rattle.session_meaning.specs.Calls.{role_in}
use Rattle.ask_script.specs.Scripts.{HasByteArgument, UserStep, Opens, Calls, Goes, Closes, calls, form_of, lines_of, opens, role_called, session_in, spelled, step_in, text_of, words_of}
use Rattle.ask_script.specs.ScriptLaws.{ArgumentsAreBytes}
use Rattle.ask_script.proofs.FittingSteps.{asked, script_has}
use Rattle.ask_script.proofs.SpelledBytes.{spelled_bytes}

opens_none : (a b : Option ℕ) (step : UserStep) → opens a b ≡ Some step → HasByteArgument step
opens_none (Some a) (Some b) step e = let same : Opens a b ≡ step = cc in subst HasByteArgument same tt
opens_none (Some a) None step e = absurd (cc)
opens_none None b step e = absurd (cc)

closes_none : (a : Option ℕ) (step : UserStep) → option_map Closes a ≡ Some step → HasByteArgument step
closes_none (Some a) step e = let same : Closes a ≡ step = cc in subst HasByteArgument same tt
closes_none None step e = absurd (cc)

goes_none : (step : UserStep) → Some Goes ≡ Some step → HasByteArgument step
goes_none step e = let same : Goes ≡ step = cc in subst HasByteArgument same tt

module _ (P : Program) (fits : P.format.limit < 2 ^ 32) (tags : has_tags P.types ≡ true) (names : ConstructorNames) where
  literal_bytes : (t : Ty) (text : List ℕ) (v : Value) → literal_in P names t text ≡ IsValue v → AreBytes (spelling v)
  literal_bytes t text v is = let h = literals_are_read_back P fits names t text v is in spelled_bytes P.types tags t v h.shallow h.ideal

  calls_bytes : (a b c : Option ℕ) (text : List ℕ) (step : UserStep) → calls P names a b c text ≡ Some step → HasByteArgument step
  calls_bytes (Some a) (Some b) (Some c) text step e = by (literal_in P names (role_in P b).argument text) refl e
    where
      by : (literal : Literal) → literal_in P names (role_in P b).argument text ≡ literal → option_map (Calls a b c) (spelled literal) ≡ Some step → HasByteArgument step
      by (IsValue v) is e =
          let same : Calls a b c (spelling v) ≡ step = cc in
          subst HasByteArgument same (literal_bytes (role_in P b).argument text v is)
      by (FirstFault kind offset) is e = absurd (cc)
  calls_bytes (Some a) (Some b) None text step e = absurd (cc)
  calls_bytes (Some a) None c text step e = absurd (cc)
  calls_bytes None b c text step e = absurd (cc)

  form_bytes : (words : List (List ℕ)) (step : UserStep) → form_of P names words ≡ Some step → HasByteArgument step
  form_bytes [] step e = absurd (cc)
  form_bytes (word ∷ []) step e = goes_none step (asked (bytes_eq word (codes "go")) (Some Goes) step e)
  form_bytes (word ∷ session ∷ []) step e =
      closes_none (session_in session) step (asked (bytes_eq word (codes "close")) (option_map Closes (session_in session)) step e)
  form_bytes (word ∷ session ∷ kept ∷ []) step e =
      opens_none (session_in session) (number_within P.format.most_kept kept) step
      (asked (bytes_eq word (codes "open")) (opens (session_in session) (number_within P.format.most_kept kept)) step e)
  form_bytes (word ∷ session ∷ role ∷ fuel ∷ []) step e = absurd (cc)
  form_bytes (word ∷ session ∷ role ∷ fuel ∷ first ∷ others) step e =
      calls_bytes (session_in session) (role_called P role) (number_within most_fuel fuel) (text_of (first ∷ others)) step
      (asked (bytes_eq word (codes "call"))
      (calls P names (session_in session) (role_called P role) (number_within most_fuel fuel) (text_of (first ∷ others))) step e)

  line_bytes : (line : List ℕ) (step : UserStep) → step_in P names line ≡ Some step → HasByteArgument step
  line_bytes line step e = form_bytes (words_of line) step (asked (is_utf8 line) (form_of P names (words_of line)) step e)

pub arguments_are_bytes : ArgumentsAreBytes
arguments_are_bytes P fits tags names text steps are = script_has P names HasByteArgument (line_bytes P fits tags names) 1 (lines_of text) steps are
