-- The words behind a command, taken apart by their places.
use Rattle.std.proofs.Common.{◌≡◌, ◌≤◌, ◌+◌, ℕ, zero, suc, List, [], ◌∷◌, length, Option, option_map, slice_get, drop, get_or, ap, sym, ◌∙◌, subst, refl, inl, inr, arith, drop-cons, drop_of_length-le}
use Rattle.std.specs.Borrow.{Bor}
use Rattle.std.proofs.lemmas.List.{length-map}
use Rattle.command_words.specs.Commands.{IsOfCommand, texts}
use Rattle.command_words.specs.declared.command.Command.{Command}
use Rattle.command_words.specs.declared.command.Command.TheVariants.{Check, Init, Ideal, Step, Shallow, Migrate, Prove, Verify, Audit, Library, Gen, Serve, Ask, Pieces, Fetch, Mirror, Draw, Found, Host, Replay, Emit}
use Rattle.command_parts.specs.Answer.{answer_with, judged_answer}
use Rattle.lam_outside.specs.Told.{Contents, Names}
use Rattle.command_parts.specs.Ending.{EndsAs}
use Rattle.command_parts.specs.EndingInCode.{EndsOnSink, with_sink}
use Rattle.command_parts.specs.Outsides.{Outside}
use Rattle.command_parts.specs.Reaching.{IsReached}
use Rattle.command_parts.specs.declared.status.Status.{Status}

abbrev no_word : Bor (List ℕ)
no_word = record { ref_ptr = (0, 0); now = [] }

-- the text of the i-th word, and those of n words from the i-th on
abbrev pub text_at : List (Bor (List ℕ)) → ℕ → List ℕ
text_at words i = (get_or words i no_word).now

abbrev pub texts_from : List (Bor (List ℕ)) → ℕ → ℕ → List (List ℕ)
texts_from words zero i = []
texts_from words (suc n) i = text_at words i ∷ texts_from words n (suc i)

apart_from : (words : List (Bor (List ℕ))) (n i : ℕ) → length words ≡ i + n → texts (drop i words) ≡ texts_from words n i
apart_from words zero i is = ap texts (drop_of_length-le words (omega arith))
apart_from words (suc n) i is = ap texts (drop-cons words i no_word (omega arith)) ∙ ap (λ ts. text_at words i ∷ ts) (apart_from words n (suc i) (omega arith))

pub apart : (words : List (Bor (List ℕ))) (n : ℕ) → length words ≡ n → texts words ≡ texts_from words n 0
apart words n is = apart_from words n 0 (is ∙ omega arith)

-- a run on them ends as one on the texts of the words
pub ends_apart : (command : Command) (words : List (Bor (List ℕ))) (n : ℕ) (old new : Outside) (status : Status) → length words ≡ n
    → EndsAs (answer_with command (texts_from words n 0)) old new status → EndsAs (answer_with command (texts words)) old new status
ends_apart command words n old new status is ends = subst (λ ts. EndsAs (answer_with command ts) old new status) (sym (apart words n is)) ends

-- and what it says of a read fault is so of the texts of the words
pub reached_apart : (command : Command) (words : List (Bor (List ℕ))) (n : ℕ) (contents : Option Contents) (asked later : Option Names) → length words ≡ n → later ≡ asked
    → IsReached (answer_with command (texts_from words n 0)) contents asked → IsReached (answer_with command (texts words)) contents later
reached_apart command words n contents asked later is same reached =
    subst (λ names. IsReached (answer_with command (texts words)) contents names) (sym same) (subst (λ ts. IsReached (answer_with command ts) contents asked) (sym (apart words n is)) reached)

-- the same of a run that leaves the files alone
pub sink_apart : (command : Command) (words : List (Bor (List ℕ))) (n : ℕ) (old new : Option (List ℕ)) (before now : ℕ) (status : Status) → length words ≡ n
    → EndsOnSink (answer_with command (texts_from words n 0)) old new before now status → EndsOnSink (answer_with command (texts words)) old new before now status
sink_apart command words n old new before now status is ends = λ seen. ends_apart command words n (with_sink seen old before) (with_sink seen new now) status is (ends seen)

-- a run of a command that is known
pub ends_known : (command known : Command) (ts : List (List ℕ)) (old new : Outside) (status : Status) → command ≡ known → EndsAs (answer_with known ts) old new status → EndsAs (answer_with command ts) old new status
ends_known command known ts old new status is ends = subst (λ c. EndsAs (answer_with c ts) old new status) (sym is) ends

pub reached_known : (command known : Command) (ts : List (List ℕ)) (contents : Option Contents) (asked : Option Names) → command ≡ known → IsReached (answer_with known ts) contents asked
    → IsReached (answer_with command ts) contents asked
reached_known command known ts contents asked is reached = subst (λ c. IsReached (answer_with c ts) contents asked) (sym is) reached

-- how many words each command has at least, and at most
abbrev pub least_of : Command → ℕ
least_of Check = 1
least_of Init = 5
least_of Ideal = 5
least_of Step = 6
least_of Shallow = 3
least_of Migrate = 4
least_of Prove = 7
least_of Verify = 6
least_of Audit = 6
least_of Library = 1
least_of Gen = 4
least_of Serve = 6
least_of Ask = 5
least_of Pieces = 3
least_of Fetch = 6
least_of Mirror = 3
least_of Draw = 6
least_of Found = 3
least_of Host = 5
least_of Replay = 3
least_of Emit = 2

abbrev pub most_of : Command → ℕ
most_of Verify = 7
most_of command = least_of command

abbrev AreSoMany : ℕ → Command → Type 0
AreSoMany n command = (least_of command ≤ n) × (n ≤ most_of command)

pub within : (command : Command) (words : List (Bor (List ℕ))) → IsOfCommand command (texts words) → (least_of command ≤ length words) × (length words ≤ most_of command)
within command words of = subst (λ n. AreSoMany n command) (length-map words (λ word. word.now)) (by of)
  where
    n : ℕ
    n = length (texts words)

    by : IsOfCommand command (texts words) → AreSoMany n command
    by (inl (is, (least, most))) = subst (AreSoMany n) is (least, most)
    by (inr (inl (is, (least, most)))) = subst (AreSoMany n) is (least, most)
    by (inr (inr (inl (is, (least, most))))) = subst (AreSoMany n) is (least, most)
    by (inr (inr (inr (inl (is, (least, most)))))) = subst (AreSoMany n) is (least, most)
    by (inr (inr (inr (inr (inl (is, (least, most))))))) = subst (AreSoMany n) is (least, most)
    by (inr (inr (inr (inr (inr (inl (is, (least, most)))))))) = subst (AreSoMany n) is (least, most)
    by (inr (inr (inr (inr (inr (inr (inl (is, (least, most))))))))) = subst (AreSoMany n) is (least, most)
    by (inr (inr (inr (inr (inr (inr (inr (inl (is, (least, most)))))))))) = subst (AreSoMany n) is (least, most)
    by (inr (inr (inr (inr (inr (inr (inr (inr (inl (is, (least, most))))))))))) = subst (AreSoMany n) is (least, most)
    by (inr (inr (inr (inr (inr (inr (inr (inr (inr (inl (is, (least, most)))))))))))) = subst (AreSoMany n) is (least, most)
    by (inr (inr (inr (inr (inr (inr (inr (inr (inr (inr (inl (is, (least, most))))))))))))) = subst (AreSoMany n) is (least, most)
    by (inr (inr (inr (inr (inr (inr (inr (inr (inr (inr (inr (inl (is, (least, most)))))))))))))) = subst (AreSoMany n) is (least, most)
    by (inr (inr (inr (inr (inr (inr (inr (inr (inr (inr (inr (inr (inl (is, (least, most))))))))))))))) = subst (AreSoMany n) is (least, most)
    by (inr (inr (inr (inr (inr (inr (inr (inr (inr (inr (inr (inr (inr (inl (is, (least, most)))))))))))))))) = subst (AreSoMany n) is (least, most)
    by (inr (inr (inr (inr (inr (inr (inr (inr (inr (inr (inr (inr (inr (inr (inl (is, (least, most))))))))))))))))) = subst (AreSoMany n) is (least, most)
    by (inr (inr (inr (inr (inr (inr (inr (inr (inr (inr (inr (inr (inr (inr (inr (inl (is, (least, most)))))))))))))))))) = subst (AreSoMany n) is (least, most)
    by (inr (inr (inr (inr (inr (inr (inr (inr (inr (inr (inr (inr (inr (inr (inr (inr (inl (is, (least, most))))))))))))))))))) = subst (AreSoMany n) is (least, most)
    by (inr (inr (inr (inr (inr (inr (inr (inr (inr (inr (inr (inr (inr (inr (inr (inr (inr (inl (is, (least, most)))))))))))))))))))) = subst (AreSoMany n) is (least, most)
    by (inr (inr (inr (inr (inr (inr (inr (inr (inr (inr (inr (inr (inr (inr (inr (inr (inr (inr (inl (is, (least, most))))))))))))))))))))) = subst (AreSoMany n) is (least, most)
    by (inr (inr (inr (inr (inr (inr (inr (inr (inr (inr (inr (inr (inr (inr (inr (inr (inr (inr (inr (inl (is, (least, most)))))))))))))))))))))) = subst (AreSoMany n) is (least, most)
    by (inr (inr (inr (inr (inr (inr (inr (inr (inr (inr (inr (inr (inr (inr (inr (inr (inr (inr (inr (inr (inl (is, (least, most))))))))))))))))))))))) = subst (AreSoMany n) is (least, most)
    by (inr (inr (inr (inr (inr (inr (inr (inr (inr (inr (inr (inr (inr (inr (inr (inr (inr (inr (inr (inr (inr is))))))))))))))))))))) = absurd is

pub counted : (command : Command) (words : List (Bor (List ℕ))) → most_of command ≡ least_of command → IsOfCommand command (texts words) → length words ≡ least_of command
counted command words same of = let so_many = within command words of in let low = so_many.0 in let high = so_many.1 in omega (arith, low, high, same)

-- ---- the words of `verify`

-- the text of the seventh word, where there is one
abbrev pub seventh : List (Bor (List ℕ)) → Option (List ℕ)
seventh words = option_map (λ word. word.now) (slice_get words 6)

pub verify_apart : (words : List (Bor (List ℕ))) → 6 ≤ length words → length words ≤ 7
    → answer_with Verify (texts words) ≡ judged_answer (text_at words 0) (text_at words 1) (text_at words 2) (text_at words 3) (text_at words 4) (text_at words 5) (seventh words)
verify_apart (a ∷ b ∷ c ∷ d ∷ e ∷ f ∷ []) least most = refl
verify_apart (a ∷ b ∷ c ∷ d ∷ e ∷ f ∷ g ∷ []) least most = refl
verify_apart (a ∷ b ∷ c ∷ d ∷ e ∷ f ∷ g ∷ h ∷ ws) least most = absurd (omega (arith, most))
verify_apart (a ∷ b ∷ c ∷ d ∷ e ∷ []) least most = absurd (omega (arith, least))
verify_apart (a ∷ b ∷ c ∷ d ∷ []) least most = absurd (omega (arith, least))
verify_apart (a ∷ b ∷ c ∷ []) least most = absurd (omega (arith, least))
verify_apart (a ∷ b ∷ []) least most = absurd (omega (arith, least))
verify_apart (a ∷ []) least most = absurd (omega (arith, least))
verify_apart [] least most = absurd (omega (arith, least))
