-- Bytes of which none could be left out: for the clauses `halts`.
use Rattle.std.proofs.Common.{inl, inr, ◌≡◌, ◌⊎◌, ℕ, List, [], ◌∷◌, ◌++◌, refl, sym, ap, ap₂, ◌∙◌}
use Rattle.std.proofs.lemmas.List.{append-nil, append_assoc}
use Rattle.session_meaning.specs.Messages.{Got, Messages, NoMore, Read, Reply, Stop, Stops, messages, reply_of}
use Rattle.session_meaning.specs.MessageFields.{read_reply}
use Rattle.session_meaning.proofs.WholeMessages.{message_read, replies_stop}
use Rattle.script_play.specs.HaltingInCode.{IsWhole}

-- a string with a last byte is not empty
pub no_last : (before : List ℕ) (last : ℕ) → [] ≡ before ++ last ∷ [] → ⊥
no_last [] last e = cc
no_last (x ∷ before) last e = cc

none_behind : (a b : List ℕ) → a ++ b ≡ [] → b ≡ []
none_behind [] b e = e
none_behind (x ∷ a) b e = absurd (cc)

-- the last byte of two strings is one of the second, or that one is empty
pub last_of : (a b before : List ℕ) (last : ℕ) → a ++ b ≡ before ++ last ∷ [] → (b ≡ []) ⊎ ((front : List ℕ) × (b ≡ front ++ last ∷ []) × (before ≡ a ++ front))
last_of [] b before last e = inr (before, e, refl)
last_of (x ∷ a) b [] last e = let rest : a ++ b ≡ [] = cc in inl (none_behind a b rest)
last_of (x ∷ a) b (y ∷ before) last e =
    let rest : a ++ b ≡ before ++ last ∷ [] = cc in
    let same : y ≡ x = cc in
    by same (last_of a b before last rest)
  where
    by : y ≡ x → (b ≡ []) ⊎ ((front : List ℕ) × (b ≡ front ++ last ∷ []) × (before ≡ a ++ front)) → (b ≡ []) ⊎ ((front : List ℕ) × (b ≡ front ++ last ∷ []) × (y ∷ before ≡ (x ∷ a) ++ front))
    by same (inl none) = inl none
    by same (inr (front, is, behind)) = inr (front, is, ap₂ (λ z zs. z ∷ zs) same behind)

-- what was read takes all of the bytes
abbrev TakesAll : Read Reply → Type 0
TakesAll (Got reply rest) = rest ≡ []
TakesAll (Stops stop) = Unit {0}

-- Of bytes that are read whole, or of which none is read, none is read without the last one.
pub whole_read : (taken : List ℕ) (found : Read Reply) → read_reply taken ≡ found → TakesAll found → IsWhole taken
whole_read taken found read all before last is = by (read_reply before) refl
  where
    clash : (found : Read Reply) (reply : Reply) (left : List ℕ) → Got reply (left ++ last ∷ []) ≡ found → TakesAll found → ⊥
    clash (Got other rest) reply left e all = let same : rest ≡ left ++ last ∷ [] = cc in no_last left last (sym all ∙ same)
    clash (Stops stop) reply left e all = cc

    by : (q : Read Reply) → read_reply before ≡ q → (stop : Stop) × (messages reply_of before ≡ NoMore stop)
    by (Stops stop) e = (stop, replies_stop before stop e)
    by (Got reply left) e =
        let first = message_read reply_of before reply left e in
        let bytes : taken ≡ first.0 ++ (left ++ last ∷ []) = is ∙ ap (λ b. b ++ last ∷ []) first.1 ∙ append_assoc first.0 left (last ∷ []) in
        absurd (clash found reply left (sym (first.2 (left ++ last ∷ [])) ∙ sym (ap read_reply bytes) ∙ read) all)
