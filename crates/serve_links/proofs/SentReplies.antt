-- Replies that are sent one behind another: for send_replies.
use Rattle.std.proofs.Common.{◌≡◌, ℕ, zero, suc, ◌+◌, ◌<◌, List, [], ◌∷◌, ◌++◌, length, take, drop, get_or, map, Option, Result, Ok, Err, IsErrAnd, refl, sym, ap, subst, ◌∙◌, arith, append_assoc, length-append}
use Rattle.std.proofs.Math.Seq.{take-append-add}
use Rattle.std.proofs.lemmas.List.{take-append-le}
use Rattle.std.specs.List.{AllByRecursion}
use Rattle.std.specs.Io.KnownBytes.{append_known}
use Rattle.lam_outside.proofs.Moved.{append_twice}
use Rattle.session_meaning.specs.Messages.{reply_bytes}
use Rattle.session_meaning.specs.MessageFields.{IsReply}
use Rattle.wire_form.specs.MessageViews.{reply_meant}
use Rattle.wire_form.specs.WrittenMessages.{Sends}
use Rattle.wire_form.specs.declared.message.Reply.{Reply}
use Rattle.wire_form.specs.declared.message.WriteStop.{WriteStop}
use Rattle.serve_links.specs.Connections.{bytes_of}

-- the bytes of replies of the code
abbrev pub bytes_in : List Reply → List ℕ
bytes_in replies = bytes_of (map reply_meant replies)

-- each of them is a message
all_at : (xs : List Reply) (i : ℕ) (d : Reply) → AllByRecursion IsReply (map reply_meant xs) → i < length xs → IsReply (reply_meant (get_or xs i d))
all_at [] i d all within = absurd (omega arith)
all_at (x ∷ xs) zero d all within = all.0
all_at (x ∷ xs) (suc i) d all within = all_at xs i d all.1 (omega arith)

pub reply_at : (xs : List Reply) (i : ℕ) (x : Reply) → x ≡ get_or xs i x → AllByRecursion IsReply (map reply_meant xs) → i < length xs → IsReply (reply_meant x)
reply_at xs i x is all within = subst (λ r. IsReply (reply_meant r)) (sym is) (all_at xs i x all within)

-- a list of replies, at one of them
split_at : (xs : List Reply) (i : ℕ) (d : Reply) → i < length xs → bytes_in xs ≡ bytes_in (take i xs) ++ (reply_bytes (reply_meant (get_or xs i d)) ++ bytes_in (drop (suc i) xs))
split_at [] i d within = absurd (omega arith)
split_at (x ∷ xs) zero d within = refl
split_at (x ∷ xs) (suc i) d within =
    let first = reply_bytes (reply_meant x) in
    ap (λ l. first ++ l) (split_at xs i d (omega arith))
    ∙ sym (append_assoc first (bytes_in (take i xs)) (reply_bytes (reply_meant (get_or xs i d)) ++ bytes_in (drop (suc i) xs)))

-- a front of one more was sent
pub sent_part : (xs : List Reply) (i : ℕ) (x : Reply) (w0 w1 w2 : Option (List ℕ)) (result : Result (Unit {0}) WriteStop) (stop : WriteStop)
    → IsErrAnd result (λ e. e ≡ stop) → x ≡ get_or xs i x → i < length xs → w1 ≡ append_known w0 (bytes_in (take i xs))
    → (let next = reply_bytes (reply_meant x) in (n : ℕ) × (n < length next) × (w2 ≡ append_known w1 (take n next)))
    → Sends (bytes_in xs) w0 w2 result
sent_part xs i x w0 w1 w2 (Ok done) stop handed is within before part = absurd handed
sent_part xs i x w0 w1 w2 (Err e) stop handed is within before part =
    let next = reply_bytes (reply_meant x) in
    let front = bytes_in (take i xs) in
    let behind = bytes_in (drop (suc i) xs) in
    let whole : bytes_in xs ≡ front ++ (next ++ behind) = split_at xs i x within ∙ ap (λ r. front ++ (reply_bytes (reply_meant r) ++ behind)) (sym is) in
    let taken : take (length front + part.0) (bytes_in xs) ≡ front ++ take part.0 next =
    ap (take (length front + part.0)) whole ∙ take-append-add front (next ++ behind) part.0 ∙ ap (λ l. front ++ l) (take-append-le part.0 next behind (omega (arith, part.1))) in
    let size : length (bytes_in xs) ≡ length front + (length next + length behind) =
    ap length whole ∙ length-append front (next ++ behind) ∙ ap (λ k. length front + k) (length-append next behind) in (
      length front + part.0,
      omega (arith, part.1, size),
      part.2 ∙ ap (λ w. append_known w (take part.0 next)) before ∙ append_twice w0 front (take part.0 next) ∙ ap (append_known w0) (sym taken),
    )
