-- Rows for what a mirror does on links: what each word takes, and what it refuses.
use Rattle.std.specs.Prelude.{◌≡◌, ◌⊎◌, ◌<◌, ◌≤◌, ℕ, zero, suc, true, false, List, [], ◌∷◌, ◌++◌, length, Some, bytes_eq, if◌then◌else◌, refl}
use Rattle.std.proofs.Common.{inl, inr, arith, sym, ap, subst, ◌∙◌, append-nil}
use Rattle.lam_outside.specs.Causes.{Rose}
use Rattle.lam_outside.specs.Links.{Linked}
use Rattle.ideal_meaning.specs.Fetched.{Got, IsPiece, IsLack}
use Rattle.session_meaning.specs.FetchMessages.{answers_sent, fetch_bytes, fetches_limit}
use Rattle.link_ends.specs.MoreLinks.{but_last}
use Rattle.link_ends.specs.declared.end.ConnectionEnd.TheVariants.{Over, LinkFault, Stopped}
use Rattle.mirror_links.specs.Answered.{IsAnswered}
use Rattle.mirror_links.specs.AnsweredLinks.{AreAnswered, AreAnsweredInPart, AreCounted, IsAnsweredOn}
use Rattle.mirror_links.specs.Prompt.{IsPrompt}

-- MESSAGES
abbrev eight : ℕ → List ℕ
eight n = n ∷ n ∷ n ∷ n ∷ n ∷ n ∷ n ∷ n ∷ []

abbrev digest : ℕ → List ℕ
digest n = eight n ++ (eight n ++ (eight n ++ eight n))

-- one digest has a piece
abbrev get : List ℕ → Got
get d = if bytes_eq d (digest 1) then IsPiece (9 ∷ 8 ∷ []) else IsLack

abbrev found : List ℕ
found = 0 ∷ 0 ∷ 0 ∷ 5 ∷ 0x86 ∷ 0 ∷ 0 ∷ 9 ∷ 8 ∷ []

abbrev missing : List ℕ
missing = 0 ∷ 0 ∷ 0 ∷ 3 ∷ 0x87 ∷ 0 ∷ 0 ∷ []

-- a piece that is found is asked for, and then one that is missing
abbrev both : List ℕ
both = fetch_bytes (digest 1) ++ fetch_bytes (digest 2)

pub each_is_answered : answers_sent fetches_limit get both ≡ found ++ missing
each_is_answered = refl

-- nothing is answered behind another message
pub up_to_another : answers_sent fetches_limit get (fetch_bytes (digest 2) ++ (missing ++ fetch_bytes (digest 1))) ≡ missing
up_to_another = refl

pub none_asked : answers_sent fetches_limit get [] ≡ []
none_asked = refl

pub all_but_last : (but_last {A = ℕ} [] ≡ []) × (but_last {A = ℕ} (1 ∷ []) ≡ []) × (but_last {A = ℕ} (1 ∷ 2 ∷ 3 ∷ []) ≡ 1 ∷ 2 ∷ [])
all_but_last = (refl, refl, refl)

-- CONNECTIONS
pub over : IsAnswered get both both (found ++ missing) Over
over = refl

-- at a fault three of the seven bytes of the last answer had been sent
pub front_of_the_last : IsAnswered get both both (found ++ (0 ∷ 0 ∷ 0 ∷ [])) LinkFault
front_of_the_last = let least : 9 ≤ 12 = omega arith in let most : 12 ≤ 16 = omega arith in (12, least, most, refl)

-- or all of it, or nothing
pub whole_last : IsAnswered get both both (found ++ missing) LinkFault
whole_last = let least : 9 ≤ 16 = omega arith in let most : 16 ≤ 16 = omega arith in (16, least, most, refl)

pub none_of_the_last : IsAnswered get both both found Stopped
none_of_the_last = let least : 9 ≤ 9 = omega arith in let most : 9 ≤ 16 = omega arith in (9, least, most, refl)

-- the answer before the last is never sent in part
pub first_is_whole : IsAnswered get both both [] LinkFault → ⊥
first_is_whole (zero, least, most, is) = let short : 9 ≤ 0 = least in omega (arith, short)
first_is_whole (suc n, least, most, is) = cc (is)

-- an answer is not another digest's
pub others_answer : (IsAnswered get both both (missing ++ found) Over → ⊥) × (IsAnswered get both both (missing ++ missing) Over → ⊥)
others_answer = ((λ is. let clash : missing ++ found ≡ found ++ missing = is in cc), (λ is. let clash : missing ++ missing ≡ found ++ missing = is in cc))

-- AT A READ
some_owed : (x : ℕ) (xs : List ℕ) → Some [] ≡ Some (x ∷ xs) → ⊥
some_owed x xs e = cc (e)

-- behind a message its answer had been sent
pub no_answer_is_owed : IsPrompt get both (Some []) (record { left = Some []; sent = Some [] }) → ⊥
no_answer_is_owed (taken, (rest, all, left), sent) =
    let none : rest ≡ [] = let e : Some [] ≡ Some rest = left in cc in
    let same : taken ≡ both = sym (all ∙ ap (λ r. taken ++ r) none ∙ append-nil taken) in
    let Owes : List ℕ → Type 0 = λ taken. Some [] ≡ Some (answers_sent fetches_limit get taken) in
    some_owed 0 (0 ∷ 0 ∷ 5 ∷ 0x86 ∷ 0 ∷ 0 ∷ 9 ∷ 8 ∷ missing) (subst Owes same sent)

pub answer_was_sent : IsPrompt get both (Some []) (record { left = Some (fetch_bytes (digest 2)); sent = Some found })
answer_was_sent = (fetch_bytes (digest 1), (fetch_bytes (digest 2), refl, refl), refl)

-- and none before its message has come whole
pub none_ahead : IsPrompt get both (Some []) (record { left = Some both; sent = Some [] })
none_ahead = ([], (both, refl, refl), refl)

-- LINKS
-- on one link all was answered, each before the next read; another one was stopped behind the first answer
abbrev whole : Linked
whole = record {
  port = 7;
  given = both;
  left = [];
  sent = found ++ missing;
  reads = record { left = Some both; sent = Some [] } ∷ record { left = Some (fetch_bytes (digest 2)); sent = Some found } ∷ [];
}

abbrev broken : Linked
broken = record { port = 7; given = both; left = []; sent = found; reads = record { left = Some both; sent = Some [] } ∷ [] }

pub is_whole : IsAnsweredOn get whole Over
is_whole = record { answered = refl; prompt = (none_ahead, (answer_was_sent, tt)) }

pub is_broken : IsAnsweredOn get broken Stopped
is_broken = record { answered = none_of_the_last; prompt = (none_ahead, tt) }

pub one_answered : AreAnswered get (whole ∷ []) false
one_answered = (false, false, record { end = Over; answered = is_whole; unstopped = λ same. cc (same); fault = refl }, refl, refl)

pub two_in_part : AreAnsweredInPart get (whole ∷ broken ∷ [])
two_in_part = record { before = whole ∷ []; last = broken; all = refl; faulted = false; answered = one_answered; broken = is_broken }

-- no links are without a fault
pub none_faulted : AreAnswered get [] true → ⊥
none_faulted is = let clash : true ≡ false = is in cc

-- one link is as many as there were to be, or one less since an accept failed, which is told as a fault
pub one_of_one : AreCounted get 7 (Some []) (whole ∷ []) 1 false 0 0
one_of_one = record {
  faulted = false;
  count = 1;
  answered = record { more = whole ∷ []; are = record { before = []; told = refl; all = refl; at_port = (refl, tt) }; number = refl; answered = one_answered };
  number = inl (refl, refl);
}

pub one_of_two : AreCounted get 7 (Some []) (whole ∷ []) 2 true 0 1
one_of_two = record {
  faulted = false;
  count = 1;
  answered = record { more = whole ∷ []; are = record { before = []; told = refl; all = refl; at_port = (refl, tt) }; number = refl; answered = one_answered };
  number = inr (omega arith, refl, omega arith);
}

-- none is missing without a fault
pub none_missing : (accepts accepts' : ℕ) → AreCounted get 7 (Some []) [] 1 false accepts accepts' → ⊥
none_missing accepts accepts' counted = by counted.answered.more counted.answered.are.all counted.answered.number counted.number
  where
    nothing : (before more : List Linked) → [] ≡ before ++ more → length more ≡ 0
    nothing [] more is = ap length (sym is)
    nothing (link ∷ before) more is = absurd (cc (is))

    by : (more : List Linked) → [] ≡ counted.answered.are.before ++ more → length more ≡ counted.count
        → ((counted.count ≡ 1) × (false ≡ counted.faulted)) ⊎ ((counted.count < 1) × (false ≡ true) × Rose accepts accepts') → ⊥
    by more all number (inl same) = omega (arith, nothing counted.answered.are.before more all, number, same.0)
    by more all number (inr fewer) = let clash : false ≡ true = fewer.1 in cc
