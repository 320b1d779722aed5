-- Lines as texts.
use Rattle.std.proofs.Common.{◌≡◌, ◌∙◌, ap, ℕ, Bool, true, false, List, Option, None, Result, Ok, Err, IfOk, IsUtf8, if◌then◌else◌, option_map, refl, sym}
use Rattle.std.specs.Str.{is_utf8}
use Rattle.std.proofs.lemmas.Str.{IsUtf8-from_is_utf8, is_utf8-from_IsUtf8}
use Rattle.core_terms.specs.Terms.{Program}
use Rattle.printed_syntax.specs.Literals.{ConstructorNames}
use Rattle.ask_script.specs.Scripts.{form_of, step_in, words_of}
use Rattle.ask_script.specs.ScriptAnswers.{step_meant}
use Rattle.ask_script.specs.declared.step.Step.{Step}

module _ (P : Program) (names : ConstructorNames) (line : List ℕ) where
  of_text : (t : Bool) → is_utf8 line ≡ t → step_in P names line ≡ (if t then form_of P names (words_of line) else None)
  of_text t is = ap (λ b. if b then form_of P names (words_of line) else None) is

  pub line_told : {E : Type 0} (text : List ℕ) → text ≡ line → IsUtf8 line → (r : Result (Option Step) E)
      → IfOk r (λ step. option_map step_meant step ≡ form_of P names (words_of text)) → IfOk r (λ step. option_map step_meant step ≡ step_in P names line)
  line_told text same utf8 (Ok step) told =
      told ∙ ap (λ bytes. form_of P names (words_of bytes)) same ∙ sym (of_text true (is_utf8-from_IsUtf8 line utf8))
  line_told text same utf8 (Err fault) told = tt

  pub line_refused : (IsUtf8 line → ⊥) → step_in P names line ≡ None
  line_refused broken = by (is_utf8 line) refl
    where
      by : (t : Bool) → is_utf8 line ≡ t → step_in P names line ≡ None
      by true is = absurd (broken (IsUtf8-from_is_utf8 line is))
      by false is = of_text false is
