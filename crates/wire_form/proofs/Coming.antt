-- Bytes of a message that came: for read_body, read_request and read_reply.
use Rattle.std.proofs.Common.{inl, inr, ◌⊎◌, ◌≡◌, ◌+◌, ◌≤◌, ◌<◌, ℕ, List, [], ◌∷◌, ◌++◌, length, take, drop, Option, Some, None, Result, Ok, Err, Vec, IsErrAnd, nat_lt, true, false, refl, sym, ap, subst, ◌∙◌, arith}
use Rattle.std.proofs.Math.Seq.{drop-append_seam, drop-append-add}
use Rattle.std.proofs.lemmas.Grind.{common_steps}
use Rattle.std.proofs.lemmas.List.{drop-drop, take-take}
use Rattle.std.specs.Io.KnownBytes.{prepend_known}
use Rattle.std.specs.declared.alloc.Global.{Global}
use Rattle.session_meaning.specs.Messages as meant
use Rattle.session_meaning.specs.Messages.{message_limit, u32_in}
use Rattle.lam_outside.specs.Told.{TookAtMost}
use Rattle.wire_form.specs.Incoming.{BodyCame, IsCutOff, TookLess, TookUnfinished, WholeCame, length_field}
use Rattle.wire_form.specs.ReadMessages.{ReadsMessage, SaysWhole, StopsShort}
use Rattle.wire_form.specs.declared.message.ReadStop.{ReadStop}
use Rattle.wire_form.specs.declared.message.ReadStop.TheVariants.{BadMessage, TooLong, End, Cut, LinkFault, NoMemory}

-- two pieces came
pub took_two : (len : ℕ) (bytes body more : List ℕ) (left0 left1 left2 : Option (List ℕ)) → left0 ≡ Some bytes → left0 ≡ prepend_known body left1
    → left1 ≡ prepend_known more left2 → length body + length more ≤ len → TookAtMost len bytes left2
took_two len bytes body more left0 None left2 told first second fits = absurd (let clash : Some bytes ≡ None = sym told ∙ first in cc)
took_two len bytes body more left0 (Some rest) None told first second fits = absurd (let clash : Some rest ≡ None = second in cc)
took_two len bytes body more left0 (Some rest) (Some left) told first second fits =
    let inner : rest ≡ more ++ left = cc in
    let same : Some bytes ≡ Some (body ++ rest) = sym told ∙ first in
    let whole : bytes ≡ body ++ (more ++ left) = let e : bytes ≡ body ++ rest = cc in e ∙ ap (λ r. body ++ r) inner in
    (length body + length more, fits, ap Some (sym (ap (drop (length body + length more)) whole ∙ drop-append-add body (more ++ left) (length more) ∙ drop-append_seam more left)))

-- these came, and no more
pub took_one : (len : ℕ) (bytes body : List ℕ) (left0 left : Option (List ℕ)) → left0 ≡ Some bytes → left0 ≡ prepend_known body left → length body < len → TookLess len bytes left
took_one len bytes body left0 None told first fewer = absurd (let clash : Some bytes ≡ None = sym told ∙ first in cc)
took_one len bytes body left0 (Some rest) told first fewer =
    let same : Some bytes ≡ Some (body ++ rest) = sym told ∙ first in
    let whole : bytes ≡ body ++ rest = cc in
    (length body, fewer, ap Some (sym (ap (drop (length body)) whole ∙ drop-append_seam body rest)))

-- the link failed behind what had come
pub failing_link : (len : ℕ) (bytes : List ℕ) (left : Option (List ℕ)) (result : Result (Vec ℕ Global) ReadStop)
    → IsErrAnd result (λ e. e ≡ LinkFault) → TookLess len bytes left → BodyCame len bytes left result
failing_link len bytes left (Ok body) failing took = absurd failing
failing_link len bytes left (Err e) failing took = let P : ReadStop → Type 0 = λ e. BodyCame len bytes left (Err e) in subst P (sym failing) took

-- memory was wanting for what came last
pub lacking_memory : (len : ℕ) (bytes : List ℕ) (left : Option (List ℕ)) (result : Result (Vec ℕ Global) ReadStop)
    → IsErrAnd result (λ e. e ≡ NoMemory) → TookAtMost len bytes left → BodyCame len bytes left result
lacking_memory len bytes left (Ok body) lacking took = absurd lacking
lacking_memory len bytes left (Err e) lacking took = let P : ReadStop → Type 0 = λ e. BodyCame len bytes left (Err e) in subst P (sym lacking) took

-- a length that is not below, or not above
not_below : (m n : ℕ) → n ≤ m → nat_lt m n ≡ false
not_below m n h = grind (arith, common_steps)

below : (m n : ℕ) → m < n → nat_lt m n ≡ true
below m n h = grind (arith, common_steps)

-- what was taken ends inside of the body
pub body_unfinished : (bytes : List ℕ) (left : Option (List ℕ)) → 4 ≤ length bytes → length_field bytes ≤ message_limit → TookLess (length_field bytes) (drop 4 bytes) left
    → TookUnfinished bytes left
body_unfinished bytes left four fits took =
    let n = took.0 in
    let t = take (4 + n) bytes in
    let front : take 4 t ≡ take 4 bytes = take-take 4 (4 + n) bytes (omega arith) in
    let field : length_field t ≡ length_field bytes = ap u32_in front in
    record {
      taken = 4 + n;
      left = took.2 ∙ ap Some (drop-drop n 4 bytes);
      unfinished = inr (
        grind (arith, common_steps),
        inr (grind (arith, common_steps), subst (λ k. k ≤ message_limit) (sym field) fits, subst (λ k. length (drop 4 t) < k) (sym field) (grind (arith, common_steps))),
      );
    }

-- the body of a message, behind its length field
pub whole_came : (bytes : List ℕ) (left : Option (List ℕ)) (result : Result (Vec ℕ Global) ReadStop) → 4 ≤ length bytes → length_field bytes ≤ message_limit
    → BodyCame (length_field bytes) (drop 4 bytes) left result → WholeCame bytes left result
whole_came bytes left (Ok body) four fits came = (four, fits, came.0, came.1, came.2)
whole_came bytes left (Err Cut) four fits came = ((grind (arith, common_steps), inr (four, fits, came.0)), came.1)
whole_came bytes left (Err LinkFault) four fits came = body_unfinished bytes left four fits came
whole_came bytes left (Err NoMemory) four fits came =
    (4 + came.0, omega (arith, came.1), came.2 ∙ ap Some (drop-drop came.0 4 bytes))
whole_came bytes left (Err End) four fits came = absurd came
whole_came bytes left (Err (TooLong len)) four fits came = absurd came
whole_came bytes left (Err (BadMessage kind offset)) four fits came = absurd came

-- which the definitions read
pub whole_read : {A : Type 0} (of : ℕ → List ℕ → meant.Body A) (bytes : List ℕ) → 4 ≤ length bytes → length_field bytes ≤ message_limit
    → length_field bytes ≤ length (drop 4 bytes)
    → meant.read_message of bytes ≡ meant.read_body of (take (length_field bytes) (drop 4 bytes)) (drop (length_field bytes) (drop 4 bytes))
whole_read of [] four fits there = absurd (omega (arith, four))
whole_read of (b ∷ bytes) four fits there =
    rw (
      not_below (length (b ∷ bytes)) 4 four,
      not_below message_limit (length_field (b ∷ bytes)) fits,
      not_below (length (drop 4 (b ∷ bytes))) (length_field (b ∷ bytes)) there,
    ) refl

-- what a read answers, by what the body says
answers : {A M : Type 0} (meaning : M → A) (of : ℕ → List ℕ → meant.Body A) (bytes : List ℕ) (left : Option (List ℕ)) (result : Result M ReadStop)
    → meant.read_message of bytes ≡ meant.read_body of (take (length_field bytes) (drop 4 bytes)) (drop (length_field bytes) (drop 4 bytes))
    → SaysWhole meaning of (take (length_field bytes) (drop 4 bytes)) result → left ≡ Some (drop (length_field bytes) (drop 4 bytes))
    → length_field bytes ≤ length (drop 4 bytes) → ReadsMessage meaning (meant.read_message of) bytes left result
answers meaning of bytes left (Ok message) read says is there = (drop (length_field bytes) (drop 4 bytes), read ∙ says _, is)
answers meaning of bytes left (Err (BadMessage kind offset)) read says is there =
    (read ∙ says _, is ∙ ap Some (drop-drop (length_field bytes) 4 bytes))
answers meaning of bytes left (Err NoMemory) read says is there =
    (4 + length_field bytes, omega arith, is ∙ ap Some (drop-drop (length_field bytes) 4 bytes))
answers meaning of bytes left (Err End) read says is there = absurd says
answers meaning of bytes left (Err Cut) read says is there = absurd says
answers meaning of bytes left (Err LinkFault) read says is there = absurd says
answers meaning of bytes left (Err (TooLong len)) read says is there = absurd says

-- what a read answers whose message came whole
pub reads_whole : {A M : Type 0} (meaning : M → A) (of : ℕ → List ℕ → meant.Body A) (bytes body shown : List ℕ) (left : Option (List ℕ)) (result : Result M ReadStop)
    → shown ≡ body → (4 ≤ length bytes) × (length_field bytes ≤ message_limit) × (length_field bytes ≤ length (drop 4 bytes))
    × (body ≡ take (length_field bytes) (drop 4 bytes)) × (left ≡ Some (drop (length_field bytes) (drop 4 bytes)))
    → SaysWhole meaning of shown result → ReadsMessage meaning (meant.read_message of) bytes left result
reads_whole meaning of bytes body shown left result same came says =
    let P : List ℕ → Type 0 = λ b. SaysWhole meaning of b result in
    let says' = subst P (same ∙ came.3) says in
    answers meaning of bytes left result (whole_read of bytes came.0 came.1 came.2) says' came.4 came.2

-- nothing is read of bytes that are none, or cut
cut_read : {A : Type 0} (of : ℕ → List ℕ → meant.Body A) (bytes : List ℕ) → IsCutOff bytes → meant.read_message of bytes ≡ meant.Stops meant.IsCut
cut_read of [] cut = absurd (omega (arith, cut.0))
cut_read of (b ∷ bytes) (some, inl short) = rw (below (length (b ∷ bytes)) 4 short) refl
cut_read of (b ∷ bytes) (some, inr (four, fits, short)) =
    rw (
      not_below (length (b ∷ bytes)) 4 four,
      not_below message_limit (length_field (b ∷ bytes)) fits,
      below (length (drop 4 (b ∷ bytes))) (length_field (b ∷ bytes)) short,
    ) refl

pub short_read : {A : Type 0} (of : ℕ → List ℕ → meant.Body A) (bytes : List ℕ) → (bytes ≡ []) ⊎ IsCutOff bytes → StopsShort (meant.read_message of bytes)
short_read of bytes (inl none) = inl (ap (meant.read_message of) none)
short_read of bytes (inr cut) = inr (cut_read of bytes cut)

-- what a read answers whose message didn't come whole
pub reads_short : {A M : Type 0} (meaning : M → A) (of : ℕ → List ℕ → meant.Body A) (bytes : List ℕ) (left : Option (List ℕ)) (result : Result M ReadStop) (stop : ReadStop)
    → IsErrAnd result (λ e. e ≡ stop) → WholeCame bytes left (Err stop) → ReadsMessage meaning (meant.read_message of) bytes left result
reads_short meaning of bytes left (Ok message) stop halted came = absurd halted
reads_short {M = M} meaning of bytes left (Err e) stop halted came =
    let P : ReadStop → Type 0 = λ e. ReadsMessage meaning (meant.read_message of) bytes left (Err e) in subst P (sym halted) (by stop came)
  where
    by : (stop : ReadStop) → WholeCame bytes left (Err stop) → ReadsMessage {M = M} meaning (meant.read_message of) bytes left (Err stop)
    by End came = (ap (meant.read_message of) came.0, came.1)
    by Cut came = (cut_read of bytes came.0, came.1)
    by (TooLong len) came = (too_long bytes len came.0 came.1 came.2, came.3)
      where
        too_long : (bytes : List ℕ) (len : ℕ) → 4 ≤ length bytes → len ≡ length_field bytes → message_limit < len → meant.read_message of bytes ≡ meant.Stops (meant.TooLong len)
        too_long [] len four is long = absurd (omega (arith, four))
        too_long (b ∷ bytes) len four is long =
            rw (is, not_below (length (b ∷ bytes)) 4 four, below message_limit (length_field (b ∷ bytes)) (subst (λ k. message_limit < k) is long)) refl
    by LinkFault came = (came.taken, came.left, short_read of (take came.taken bytes) came.unfinished)
    by NoMemory came = came
    by (BadMessage kind offset) came = absurd came
