-- Bytes of a message that were sent: for write_message and write_request.
use Rattle.std.proofs.Common.{◌≡◌, ◌+◌, ◌<◌, ℕ, List, ◌∷◌, ◌++◌, length, take, drop, Option, Result, Ok, Err, IsErrAnd, refl, sym, ap, subst, ◌∙◌, arith, append_assoc}
use Rattle.std.proofs.Math.Seq.{take-append-add}
use Rattle.std.proofs.lemmas.List.{append-nil, length-append, take-append-drop, take-append-le}
use Rattle.std.specs.Int.{w16, w32, w64, to_be_bytes}
use Rattle.std.specs.Io.KnownBytes.{append_known}
use Rattle.lam_outside.proofs.Moved.{append_twice}
use Rattle.session_meaning.specs.Messages as meant
use Rattle.wire_form.specs.WrittenMessages.{Sends, request_fields, request_tail}
use Rattle.wire_form.specs.declared.message.WriteStop.{WriteStop}

-- a message is its length and its fields, and its tail behind them
pub head_and_tail : (fields tail head : List ℕ) → head ≡ to_be_bytes w32 (length fields + length tail) ++ fields → meant.message (fields ++ tail) ≡ head ++ tail
head_and_tail fields tail head is =
    rw (is, length-append fields tail) (sym (append_assoc (to_be_bytes w32 (length fields + length tail)) fields tail))

-- the same with the first bytes of the tail put to the head
pub front_and_rest : (fields tail front : List ℕ) (n : ℕ) → front ≡ (to_be_bytes w32 (length fields + length tail) ++ fields) ++ take n tail
    → meant.message (fields ++ tail) ≡ front ++ drop n tail
front_and_rest fields tail front n is =
    let head = to_be_bytes w32 (length fields + length tail) ++ fields in
    head_and_tail fields tail head refl ∙ ap (λ t. head ++ t) (sym (take-append-drop n tail)) ∙ sym (append_assoc head (take n tail) (drop n tail))
    ∙ ap (λ f. f ++ drop n tail) (sym is)

-- a front of the head was sent
pub part_of_head : (whole head tail : List ℕ) (sent sent' : Option (List ℕ)) (result : Result (Unit {0}) WriteStop) (stop : WriteStop) → IsErrAnd result (λ e. e ≡ stop)
    → whole ≡ head ++ tail → (n : ℕ) × (n < length head) × (sent' ≡ append_known sent (take n head)) → Sends whole sent sent' result
part_of_head whole head tail sent sent' (Ok done) stop handed is part = absurd handed
part_of_head whole head tail sent sent' (Err e) stop handed is part =
    (part.0, rw (is, length-append head tail) (omega (arith, part.1)), part.2 ∙ ap (append_known sent) (sym (ap (take part.0) is ∙ take-append-le part.0 head tail (omega (arith, part.1)))))

-- the head was sent, and a front of the tail
pub part_of_tail : (whole head tail : List ℕ) (sent sent1 sent' : Option (List ℕ)) (result : Result (Unit {0}) WriteStop) (stop : WriteStop) → IsErrAnd result (λ e. e ≡ stop)
    → whole ≡ head ++ tail → sent1 ≡ append_known sent head → (n : ℕ) × (n < length tail) × (sent' ≡ append_known sent1 (take n tail)) → Sends whole sent sent' result
part_of_tail whole head tail sent sent1 sent' (Ok done) stop handed is first part = absurd handed
part_of_tail whole head tail sent sent1 sent' (Err e) stop handed is first part = (
  length head + part.0,
  rw (is, length-append head tail) (omega (arith, part.1)),
  part.2 ∙ ap (λ w. append_known w (take part.0 tail)) first ∙ append_twice sent head (take part.0 tail)
      ∙ ap (append_known sent) (sym (ap (take (length head + part.0)) is ∙ take-append-add head tail part.0)),
)

-- the body of a request
body_of : (r : meant.Request) → request_fields r ++ request_tail r ≡ meant.request_body r
body_of (meant.Hello session program n state) =
    ap (λ rest. 1 ∷ rest) (append_assoc (to_be_bytes w16 session) (program ++ to_be_bytes w16 n) state ∙ ap (λ rest. to_be_bytes w16 session ++ rest) (append_assoc program (to_be_bytes w16 n) state))
body_of (meant.Call session role fuel argument) =
    ap (λ rest. 2 ∷ rest) (append_assoc (to_be_bytes w16 session) (to_be_bytes w16 role ++ to_be_bytes w64 fuel) argument
    ∙ ap (λ rest. to_be_bytes w16 session ++ rest) (append_assoc (to_be_bytes w16 role) (to_be_bytes w64 fuel) argument))
body_of (meant.Go rounds) = append-nil (3 ∷ (to_be_bytes w16 0 ++ to_be_bytes w32 rounds))
body_of (meant.Bye session) = append-nil (4 ∷ to_be_bytes w16 session)

pub request_is_sent : (r : meant.Request) (fields tail : List ℕ) (sent sent' : Option (List ℕ)) (result : Result (Unit {0}) WriteStop)
    → fields ≡ request_fields r → tail ≡ request_tail r → Sends (meant.message (fields ++ tail)) sent sent' result → Sends (meant.request_bytes r) sent sent' result
request_is_sent r fields tail sent sent' result first last sends =
    let P : List ℕ → Type 0 = λ body. Sends (meant.message body) sent sent' result in
    let body : fields ++ tail ≡ meant.request_body r = rw (first, last) (body_of r) in
    subst P body sends
