-- Rows for what is said of served links: what each word takes, and what it refuses.
use Rattle.std.specs.Prelude.{◌≡◌, ◌+◌, ℕ, zero, suc, true, false, List, [], ◌∷◌, ◌++◌, map, Some, Ok, refl}
use Rattle.std.proofs.Common.{arith, sym, ap, subst, ◌∙◌, append-nil}
use Rattle.core_terms.specs.Values.{UnitV}
use Rattle.ideal_meaning.specs.Examples.{toy, unit_program}
use Rattle.session_meaning.specs.Connections.{bytes_sent}
use Rattle.session_meaning.specs.Messages.{Request, Hello, Bye}
use Rattle.session_meaning.specs.MessageRows.{hello_bytes, text_digest}
use Rattle.session_meaning.specs.Server.{Server, Hears, HearsBad, HearsEnd, last_turn, new_server}
use Rattle.link_ends.specs.MoreLinks.{but_last}
use Rattle.serve_links.specs.Connections.{AnyKept, IsSentPart}
use Rattle.serve_links.specs.Messages.{CountsMessage, asks}
use Rattle.serve_links.specs.Prompt.{IsPrompt}
use Rattle.serve_links.specs.ServedLinks.{AreServed}

pub asking : (r : Request) → map asks (Hears r ∷ HearsBad ∷ HearsEnd ∷ []) ≡ true ∷ false ∷ false ∷ []
asking r = refl

pub all_but_last : (but_last {A = ℕ} [] ≡ []) × (but_last {A = ℕ} (1 ∷ []) ≡ []) × (but_last {A = ℕ} (1 ∷ 2 ∷ 3 ∷ []) ≡ 1 ∷ 2 ∷ [])
all_but_last = (refl, refl, refl)

-- of two replies the first is sent whole
pub not_none_sent : IsSentPart toy unit_program text_digest (last_turn 1) (new_server UnitV) (Hears (Hello 1 text_digest 0 (toy [])) ∷ Hears (Bye 1) ∷ []) [] → ⊥
not_none_sent (zero, least, most, is) = omega (arith, least)
not_none_sent (suc n, least, most, is) = cc (is)

-- no links were served by a server that stays, and without a fault
pub none_served : (server : Server) → AreServed toy unit_program text_digest (last_turn 1) AnyKept server [] false server
    × (AreServed toy unit_program text_digest (last_turn 1) AnyKept server [] true server → ⊥)
none_served server = ((refl, refl), (λ s. let clash : true ≡ false = s.0 in cc))

pub counted : (before now : ℕ) → CountsMessage before now (Ok true) → now ≡ before + 1
counted before now c = c.0

-- AT A READ
some_owed : (x : ℕ) (xs : List ℕ) → Some [] ≡ Some (x ∷ xs) → ⊥
some_owed x xs e = cc (e)

-- behind a greeting its reply had been sent
pub no_reply_is_owed : IsPrompt toy unit_program text_digest (last_turn 1) (new_server UnitV) hello_bytes (Some []) (record { left = Some []; sent = Some [] }) → ⊥
no_reply_is_owed (taken, (rest, all, left), sent) =
    let none : rest ≡ [] = let e : Some [] ≡ Some rest = left in cc in
    let same : taken ≡ hello_bytes = sym (all ∙ ap (λ r. taken ++ r) none ∙ append-nil taken) in
    let Owes : List ℕ → Type 0 = λ taken. Some [] ≡ Some (bytes_sent toy unit_program text_digest (last_turn 1) (new_server UnitV) taken) in
    some_owed 0 (0 ∷ 0 ∷ 3 ∷ 0x81 ∷ 0 ∷ 1 ∷ []) (subst Owes same sent)

pub reply_was_sent : IsPrompt toy unit_program text_digest (last_turn 1) (new_server UnitV) hello_bytes (Some [])
    (record { left = Some []; sent = Some (0 ∷ 0 ∷ 0 ∷ 3 ∷ 0x81 ∷ 0 ∷ 1 ∷ []) })
reply_was_sent = (hello_bytes, ([], sym (append-nil hello_bytes), refl), refl)

-- and none before it has come whole
pub none_ahead : IsPrompt toy unit_program text_digest (last_turn 1) (new_server UnitV) hello_bytes (Some []) (record { left = Some hello_bytes; sent = Some [] })
none_ahead = ([], (hello_bytes, refl, refl), refl)
