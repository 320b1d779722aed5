-- Reading a script, line by line.
use Rattle.std.proofs.Common.{◌≡◌, ℕ, suc, ◌+◌, ◌<◌, ◌≤◌, Bool, true, false, List, [], ◌∷◌, ◌++◌, length, map, drop, get_or, Some, None, if◌then◌else◌, refl, sym, ap, ◌∙◌, append-nil, arith}
use Rattle.std.proofs.lemmas.List.{append_assoc, drop-map, drop_all, drop_more}
use denote.Ref.{Bor}
use Rattle.core_terms.specs.Terms.{Program}
use Rattle.printed_syntax.specs.Literals.{ConstructorNames}
use Rattle.ask_script.specs.Scripts.{UserStep, Script, Steps, FaultyLine, is_blank_line, script_from, step_in, then_script}

-- steps before what a script asks for
abbrev pub onto : List UserStep → Script → Script
onto before (Steps steps) = Steps (before ++ steps)
onto before (FaultyLine number) = FaultyLine number

onto_none : (script : Script) → onto [] script ≡ script
onto_none (Steps steps) = refl
onto_none (FaultyLine number) = refl

module _ (P : Program) (names : ConstructorNames) where
  -- what the lines from a place on ask for, behind steps
  abbrev pub behind : List UserStep → ℕ → List (List ℕ) → Script
  behind steps above lines = onto steps (script_from P names (suc above) (drop above lines))

  onto_one : (before : List UserStep) (number : ℕ) (step : UserStep) (script : Script)
      → onto before (then_script P names number (Some step) script) ≡ onto (before ++ step ∷ []) script
  onto_one before number step (Steps steps) = ap Steps (sym (append_assoc before (step ∷ []) steps))
  onto_one before number step (FaultyLine later) = refl

  pub begin : (lines : List (List ℕ)) → script_from P names 1 lines ≡ behind [] 0 lines
  begin lines = sym (onto_none (script_from P names 1 lines))

  module _ (lines : List (Bor (List ℕ))) (above : ℕ) (d : Bor (List ℕ)) (within : above < length lines) where
    abbrev line : Bor (List ℕ)
    line = get_or lines above d

    abbrev texts : List (List ℕ)
    texts = map (λ line. line.now) lines

    here : drop above texts ≡ line.now ∷ drop (above + 1) texts
    here =
        drop-map (λ line. line.now) above lines
        ∙ ap (map (λ line. line.now)) (drop_more lines above d within)
        ∙ ap (λ others. line.now ∷ others) (sym (drop-map (λ line. line.now) (above + 1) lines))

    abbrev others : Script
    others = script_from P names (suc (above + 1)) (drop (above + 1) texts)

    numbered : suc (suc above) ≡ suc (above + 1)
    numbered = omega arith

    at_line : (t : Bool) → is_blank_line line.now ≡ t
        → script_from P names (suc above) (drop above texts) ≡ (if t then others else then_script P names (suc above) (step_in P names line.now) others)
    at_line t blank =
        ap (script_from P names (suc above)) here
        ∙ ap (λ number. if is_blank_line line.now then script_from P names number (drop (above + 1) texts)
        else then_script P names (suc above) (step_in P names line.now) (script_from P names number (drop (above + 1) texts))) numbered
        ∙ ap (λ b. if b then others else then_script P names (suc above) (step_in P names line.now) others) blank

    pub blank_line : (steps : List UserStep) → is_blank_line line.now ≡ true → behind steps above texts ≡ behind steps (above + 1) texts
    blank_line steps blank = ap (onto steps) (at_line true blank)

    pub step_line : (steps : List UserStep) (step : UserStep) → is_blank_line line.now ≡ false → step_in P names line.now ≡ Some step
        → behind steps above texts ≡ behind (steps ++ step ∷ []) (above + 1) texts
    step_line steps step full told =
        ap (onto steps) (at_line false full ∙ ap (λ o. then_script P names (suc above) o others) told)
        ∙ onto_one steps (suc above) step others

    pub faulty_line : (steps : List UserStep) → is_blank_line line.now ≡ false → step_in P names line.now ≡ None
        → behind steps above texts ≡ FaultyLine (above + 1)
    faulty_line steps full told =
        ap (onto steps) (at_line false full ∙ ap (λ o. then_script P names (suc above) o others) told)
        ∙ ap FaultyLine (omega arith)

  -- behind the last line there are no more steps
  pub last_line : (steps : List UserStep) (lines : List (List ℕ)) (above : ℕ) → length lines ≤ above → behind steps above lines ≡ Steps steps
  last_line steps lines above end =
      ap (λ rest. onto steps (script_from P names (suc above) rest)) (drop_all above lines end) ∙ ap Steps (append-nil steps)
