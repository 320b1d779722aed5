use Rattle.std.proofs.Common.{◌≡◌, ◌<◌, ◌≤◌, ℕ, zero, suc, arith, ltb-false, ltb-true, List, [], ◌∷◌, length, get_or, slice_get, is_some, IfSome, nat_lt, option_copied, Option, Some, None, option_map, unwrap_or, refl, sym, ap, ◌∙◌, subst}
use Rattle.std.specs.Borrow.{Bor}
use Rattle.std.specs.Option.{ForSome}
use Rattle.std.proofs.lemmas.Result.{IfOk-weaker}
use Rattle.command_words.specs.Commands.{texts}
use Rattle.command_words.specs.declared.command.Command.TheVariants.{Verify}
use Rattle.lam_outside.specs.Told.{Contents, Names}
use Rattle.command_parts.specs.Answer.{answer_with, judged_answer}
use Rattle.command_parts.specs.AnswerForms.{Answer}
use Rattle.command_parts.specs.Ending.{EndsAs}
use Rattle.command_parts.specs.Outsides.{Outside}
use Rattle.command_parts.specs.Reaching.{IsReached}
use Rattle.call_commands.specs.AnswersBehind.{name_of}
use Rattle.command_parts.specs.Storing.{FindsOutput}
use Rattle.command_parts.specs.declared.status.Status.{Status}
use Rattle.command_parts.proofs.EndsStored.{ends_judged}
use Rattle.command_parts.proofs.Possible.{judged_output_possible, outcome_possible, stored_possible}
use Rattle.command_parts.proofs.Reached.{stored_reached}
use Rattle.command_parts.proofs.Words.{seventh, text_at, verify_apart}
use Rattle.call_commands.proofs.verify_call.verify_command.Goals as goal

-- the name that is stored under, as the code holds it
name_is : (o : Option (Bor (List ℕ))) (none : Bor (List ℕ)) → none.now ≡ [] → name_of (option_map (λ name. name.now) o) ≡ (unwrap_or o none).now
name_is None none e = sym e
name_is (Some name) none e = refl

-- the seventh word, as the code looks it up
found_seventh : (words : List (Bor (List ℕ))) (found : Option (Bor (Bor (List ℕ)))) (name : Option (Bor (List ℕ))) → name ≡ option_copied found → is_some found ≡ nat_lt 6 (length words)
    → IfSome found (λ x. x.now ≡ get_or words 6 x.now) → option_map (λ name. name.now) name ≡ seventh words
found_seventh words found name is there value = ap (option_map (λ (b : Bor (List ℕ)). b.now)) is ∙ by found there value
  where
    past : (ws : List (Bor (List ℕ))) (n : ℕ) → length ws ≤ n → None ≡ option_map (λ (w : Bor (List ℕ)). w.now) (slice_get ws n)
    past [] n most = refl
    past (w ∷ ws) zero most = absurd (omega (arith, most))
    past (w ∷ ws) (suc n) most = past ws n (omega (arith, most))

    at : (ws : List (Bor (List ℕ))) (n : ℕ) (x : Bor (List ℕ)) → n < length ws → x ≡ get_or ws n x → Some x.now ≡ option_map (λ (w : Bor (List ℕ)). w.now) (slice_get ws n)
    at [] n x inside is = absurd (omega (arith, inside))
    at (w ∷ ws) zero x inside is = ap (λ (b : Bor (List ℕ)). Some b.now) is
    at (w ∷ ws) (suc n) x inside is = at ws n x (omega (arith, inside)) is

    by : (found : Option (Bor (Bor (List ℕ)))) → is_some found ≡ nat_lt 6 (length words) → IfSome found (λ x. x.now ≡ get_or words 6 x.now)
        → option_map (λ (b : Bor (List ℕ)). b.now) (option_copied found) ≡ seventh words
    by None there value = past words 6 (ltb-false 6 (length words) (sym there))
    by (Some x) there value = at words 6 x.now (ltb-true 6 (length words) (sym there)) value

-- the answer to the words that were taken apart
abbrev judged : List (Bor (List ℕ)) → Option (Bor (List ℕ)) → Contents → Option Answer
judged words name = judged_answer (text_at words 0) (text_at words 1) (text_at words 2) (text_at words 3) (text_at words 4) (text_at words 5) (option_map (λ name. name.now) name)

apart : (words : List (Bor (List ℕ))) (name : Option (Bor (List ℕ))) → option_map (λ name. name.now) name ≡ seventh words
    → answer_with Verify (texts words) ≡ judged_answer (text_at words 0) (text_at words 1) (text_at words 2) (text_at words 3) (text_at words 4) (text_at words 5) (seventh words)
    → answer_with Verify (texts words) ≡ judged words name
apart words name same is =
    is ∙ ap (judged_answer (text_at words 0) (text_at words 1) (text_at words 2) (text_at words 3) (text_at words 4) (text_at words 5)) (sym same)

-- a run on them ends, and what it says of a read fault is so, as by the texts of the words
ends_apart : (words : List (Bor (List ℕ))) (name : Option (Bor (List ℕ))) (old new : Outside) (status : Status) → answer_with Verify (texts words) ≡ judged words name
    → EndsAs (judged words name) old new status → EndsAs (answer_with Verify (texts words)) old new status
ends_apart words name old new status same ends = subst (λ answer. EndsAs answer old new status) (sym same) ends

reached_apart : (words : List (Bor (List ℕ))) (name : Option (Bor (List ℕ))) (contents : Option Contents) (asked later : Option Names) → answer_with Verify (texts words) ≡ judged words name
    → later ≡ asked → IsReached (judged words name) contents asked → IsReached (answer_with Verify (texts words)) contents later
reached_apart words name contents asked later same is reached =
    subst (λ answer. IsReached answer contents later) (sym same) (subst (λ names. IsReached (judged words name) contents names) (sym is) reached)

name_held : (o : Option (Bor (List ℕ))) (none r : Bor (List ℕ)) → r ≡ unwrap_or o none → none.now ≡ [] → name_of (option_map (λ name. name.now) o) ≡ r.now
name_held o none r is empty = name_is o none empty ∙ ap (λ (b : Bor (List ℕ)). b.now) (sym is)

pub returns-clause-ends : goal.returns-clause-ends
returns-clause-ends g c =
    let words = c.args.words.now in
    let name = c.copied-name.result in
    let found = c.find_verdict-found in
    let is = apart words name (found_seventh words c.get.result name c.copied-name.ensures c.get.ensures.lookup.0 c.get.ensures.lookup.1) (verify_apart words c.requires.least c.requires.most) in
    let finds = subst (λ n. ForSome (g.F.Files.contents c.args.files.now) (λ told. FindsOutput n (judged words name told) found.result)) (name_held name _ c.unwrap_or.result c.unwrap_or.ensures refl) found.ensures.finds in
    ends_apart words name _ _ c.store_and_tell.result is
    (ends_judged (judged words name) _ _ _ found.result c.store_and_tell.result _ _ _ finds found.ensures.cause found.ensures.stores found.ensures.store_faults c.store_and_tell.ensures.faults c.store_and_tell.ensures.ends)

pub returns-clause-possible : goal.returns-clause-possible
returns-clause-possible g c =
    let found = c.find_verdict-found in
    stored_possible Verify _ found.result c.store_and_tell.result _ _ _ _ _ _ _ _ c.store_and_tell.ensures.ends
    (judged_output_possible Verify tt tt tt _ _ found.result found.ensures.cause (IfOk-weaker found.result _ _ (λ output is. outcome_possible Verify tt _ is) found.ensures.ending))

pub returns-clause-reached : goal.returns-clause-reached
returns-clause-reached g c = λ is.
    let words = c.args.words.now in
    let name = c.copied-name.result in
    let found = c.find_verdict-found in
    let same = apart words name (found_seventh words c.get.result name c.copied-name.ensures c.get.ensures.lookup.0 c.get.ensures.lookup.1) (verify_apart words c.requires.least c.requires.most) in
    reached_apart words name _ _ _ same c.store_and_tell.ensures.asked
    (stored_reached (judged words name) _ _ _ found.result c.store_and_tell.result _ _ _ _ _ _ _ _ c.store_and_tell.ensures.ends found.ensures.reached is)
