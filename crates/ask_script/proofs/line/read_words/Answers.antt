use Rattle.std.proofs.Common.{List, ℕ, ◌∷◌, ◌∙◌, ap, sym}
use Rattle.core_terms.specs.Programs.{constructor_names, meaning}
use Rattle.ask_script.specs.Scripts.{form_of, words_of}
use Rattle.ask_script.proofs.Forms.{other_form}
use Rattle.ask_script.proofs.line.read_words.Goals as goal

pub returns-in_default : goal.returns-in_default
returns-in_default c =
    let P = meaning c.args.program.now in
    let names = constructor_names c.args.program.now.types.named.items in
    c.read_go.ensures P names ∙ ap (form_of P names) (sym (c.in_default.ensures.whole (cc)))

pub returns-in-open : goal.returns-in-open
returns-in-open c =
    let P = meaning c.args.program.now in
    let names = constructor_names c.args.program.now.types.named.items in
    c.read_open.ensures names
    ∙ sym (ap (form_of P names) (c.in-Some.ensures.cut ∙ ap (λ (word : List ℕ). word ∷ words_of c.in-Some.behind.now) c.in-open.is))

pub returns-in_default-word : goal.returns-in_default-word
returns-in_default-word c =
    sym (other_form (meaning c.args.program.now) (constructor_names c.args.program.now.types.named.items) c.args.line.now c.in-Some.word.now c.in-Some.behind.now
    c.in-Some.ensures.cut c.in_default-word.not-open c.in_default-word.not-call c.in_default-word.not-close)
