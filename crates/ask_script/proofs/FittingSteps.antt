-- Each step of a script is one that a client takes.
use Rattle.std.proofs.Common.{◌≡◌, ℕ, suc, Bool, true, false, List, [], ◌∷◌, map, Option, Some, None, option_map, bytes_eq, codes, if◌then◌else◌, refl, subst}
use Rattle.std.specs.List.{All}
use Rattle.std.specs.Option.{option_and_then}
use Rattle.std.specs.Str.{is_utf8}
use Rattle.std.proofs.lemmas.List.Elements.{All-cons, All-head, All-nil, All-tail}
use Rattle.core_terms.specs.Terms.{Program}
use Rattle.core_terms.specs.Roles.{Role, program_roles}
use Rattle.core_terms.specs.Limits.{most_fuel}
use Rattle.std.specs.List.{position}
use Rattle.session_meaning.specs.Calls.{reads_state, role_in}
use Rattle.printed_syntax.specs.Literals.{ConstructorNames, literal_in}
use Rattle.number_words.specs.Numbers.{number_within}
use Rattle.number_words.proofs.Numbers.{number_at_most}
use Rattle.ask_script.specs.Scripts.{Fits, UserStep, Opens, Calls, Goes, Closes, Script, Steps, FaultyLine, calls, form_of, is_blank_line, opens, query_or_update, role_called, script_from, session_in, spelled, step_in, text_of, then_script, words_of}
use Rattle.ask_script.proofs.Sessions.{session_fits}

-- what is asked for under a condition, is asked for without one
pub asked : {A : Type 0} (t : Bool) (o : Option A) (x : A) → (if t then o else None) ≡ Some x → o ≡ Some x
asked true o x e = e
asked false o x e = absurd (cc)

-- what holds of the step of each line, holds of all steps of a script
module _ (P : Program) (names : ConstructorNames) (Q : UserStep → Type 0) (each : (line : List ℕ) (step : UserStep) → step_in P names line ≡ Some step → Q step) where
  then_has : (number : ℕ) (o : Option UserStep) (script : Script) (steps : List UserStep) → ((step : UserStep) → o ≡ Some step → Q step)
      → ((later : List UserStep) → script ≡ Steps later → All Q later) → then_script P names number o script ≡ Steps steps → All Q steps
  then_has number None script steps one others e = absurd (cc)
  then_has number (Some step) (FaultyLine later) steps one others e = absurd (cc)
  then_has number (Some step) (Steps later) steps one others e =
      let same : step ∷ later ≡ steps = cc in
      subst (All Q) same (All-cons Q step later (one step refl) (others later refl))

  pub script_has : (number : ℕ) (lines : List (List ℕ)) (steps : List UserStep) → script_from P names number lines ≡ Steps steps → All Q steps
  script_has number [] steps e = let same : [] ≡ steps = cc in subst (All Q) same (All-nil Q)
  script_has number (line ∷ lines) steps e = by (λ later is. script_has (suc number) lines later is) (is_blank_line line) e
    where
      by : ((later : List UserStep) → script_from P names (suc number) lines ≡ Steps later → All Q later) → (t : Bool)
          → (if t then script_from P names (suc number) lines else then_script P names number (step_in P names line) (script_from P names (suc number) lines)) ≡ Steps steps
          → All Q steps
      by others true e = others steps e
      by others false e =
          then_has number (step_in P names line) (script_from P names (suc number) lines) steps (λ step is. each line step is) others e

module _ (P : Program) where
  role_fits : (name : List ℕ) (n : ℕ) → role_called P name ≡ Some n → reads_state (role_in P n).kind ≡ true
  role_fits name n told = by (position (λ (role : Role). bytes_eq role.name name) (program_roles P)) told
    where
      at_number : (k : ℕ) (t : Bool) → reads_state (role_in P k).kind ≡ t → (if t then Some k else None) ≡ Some n → reads_state (role_in P n).kind ≡ true
      at_number k true reads e = let same : k ≡ n = cc in subst (λ i. reads_state (role_in P i).kind ≡ true) same reads
      at_number k false reads e = absurd (cc)

      by : (o : Option ℕ) → option_and_then (query_or_update P) o ≡ Some n → reads_state (role_in P n).kind ≡ true
      by None e = absurd (cc)
      by (Some k) e = at_number k (reads_state (role_in P k).kind) refl e

  opens_fits : (session kept : List ℕ) (a b : Option ℕ) → session_in session ≡ a → number_within P.format.most_kept kept ≡ b
      → (step : UserStep) → opens a b ≡ Some step → Fits P step
  opens_fits session kept (Some a) (Some b) is_a is_b step e =
      let same : Opens a b ≡ step = cc in
      let fits = session_fits session a is_a in
      subst (Fits P) same (fits.0, fits.1, number_at_most P.format.most_kept kept b is_b)
  opens_fits session kept (Some a) None is_a is_b step e = absurd (cc)
  opens_fits session kept None b is_a is_b step e = absurd (cc)

  closes_fits : (session : List ℕ) (a : Option ℕ) → session_in session ≡ a → (step : UserStep) → option_map Closes a ≡ Some step → Fits P step
  closes_fits session (Some a) is_a step e = let same : Closes a ≡ step = cc in subst (Fits P) same (session_fits session a is_a)
  closes_fits session None is_a step e = absurd (cc)

  module _ (names : ConstructorNames) where
    calls_fits : (session role fuel text : List ℕ) (a b c : Option ℕ) → session_in session ≡ a → role_called P role ≡ b → number_within most_fuel fuel ≡ c
        → (step : UserStep) → calls P names a b c text ≡ Some step → Fits P step
    calls_fits session role fuel text (Some a) (Some b) (Some c) is_a is_b is_c step e = by (spelled (literal_in P names (role_in P b).argument text)) e
      where
        by : (o : Option (List ℕ)) → option_map (Calls a b c) o ≡ Some step → Fits P step
        by (Some argument) e =
            let same : Calls a b c argument ≡ step = cc in
            let fits = session_fits session a is_a in
            subst (Fits P) same (fits.0, fits.1, role_fits role b is_b, number_at_most most_fuel fuel c is_c)
        by None e = absurd (cc)
    calls_fits session role fuel text (Some a) (Some b) None is_a is_b is_c step e = absurd (cc)
    calls_fits session role fuel text (Some a) None c is_a is_b is_c step e = absurd (cc)
    calls_fits session role fuel text None b c is_a is_b is_c step e = absurd (cc)

    form_fits : (words : List (List ℕ)) (step : UserStep) → form_of P names words ≡ Some step → Fits P step
    form_fits [] step e = absurd (cc)
    form_fits (word ∷ []) step e = let same : Goes ≡ step = some_same (asked (bytes_eq word (codes "go")) (Some Goes) step e) in subst (Fits P) same tt
      where
        some_same : {A : Type 0} {x y : A} → Some x ≡ Some y → x ≡ y
        some_same same = cc
    form_fits (word ∷ session ∷ []) step e =
        closes_fits session (session_in session) refl step (asked (bytes_eq word (codes "close")) (option_map Closes (session_in session)) step e)
    form_fits (word ∷ session ∷ kept ∷ []) step e =
        opens_fits session kept (session_in session) (number_within P.format.most_kept kept) refl refl step
        (asked (bytes_eq word (codes "open")) (opens (session_in session) (number_within P.format.most_kept kept)) step e)
    form_fits (word ∷ session ∷ role ∷ fuel ∷ []) step e = absurd (cc)
    form_fits (word ∷ session ∷ role ∷ fuel ∷ first ∷ others) step e =
        calls_fits session role fuel (text_of (first ∷ others)) (session_in session) (role_called P role) (number_within most_fuel fuel) refl refl refl step
        (asked (bytes_eq word (codes "call"))
        (calls P names (session_in session) (role_called P role) (number_within most_fuel fuel) (text_of (first ∷ others))) step e)

    line_fits : (line : List ℕ) (step : UserStep) → step_in P names line ≡ Some step → Fits P step
    line_fits line step e = form_fits (words_of line) step (asked (is_utf8 line) (form_of P names (words_of line)) step e)

    pub script_fits : (number : ℕ) (lines : List (List ℕ)) (steps : List UserStep) → script_from P names number lines ≡ Steps steps → All (Fits P) steps
    script_fits = script_has P names (Fits P) line_fits

-- what holds of what all elements give, by the elements
pub of_elements : {A B : Type 0} (Q : B → Type 0) (f : A → B) (xs : List A) → All Q (map f xs) → All (λ x. Q (f x)) xs
of_elements Q f [] all = All-nil (λ x. Q (f x))
of_elements Q f (x ∷ xs) all =
    All-cons (λ x. Q (f x)) x xs (All-head Q (f x) (map f xs) all) (of_elements Q f xs (All-tail Q (f x) (map f xs) all))
