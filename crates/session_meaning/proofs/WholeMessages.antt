-- A message that was read is read so whatever stands behind it.
use Rattle.std.proofs.Common.{◌≡◌, ◌≤◌, ℕ, Bool, true, false, List, [], ◌∷◌, ◌++◌, length, take, drop, nat_lt, if◌then◌else◌, refl, sym, ap, ap₂, ◌∙◌, subst, arith, append_assoc, ltb-false}
use Rattle.std.proofs.Math.Seq.{drop-append_seam, take-append_seam}
use Rattle.std.proofs.lemmas.Grind.{common_steps}
use Rattle.std.proofs.lemmas.List.{length-take-le, take-append-drop}
use Rattle.core_terms.specs.Formats.{message_limit}
use Rattle.session_meaning.specs.Messages.{Body, FaultAt, Got, NoMore, Read, Reply, Request, Says, Stop, Stops, Then, AtEnd, BadMessage, IsCut, TooLong, goes_on, left_by, messages, read_body, read_message, reply_of, request_of, said, u32_in}
use Rattle.session_meaning.proofs.OnlyMessages.{messages_go_on}

not_below : (m n : ℕ) → n ≤ m → nat_lt m n ≡ false
not_below m n h = grind (arith, common_steps)

module _ {A : Type 0} (of : ℕ → List ℕ → Body A) where
  -- a length field, the body that it tells the length of, and what stands behind
  whole_body : (head body : List ℕ) → length head ≡ 4 → u32_in head ≡ length body → length body ≤ message_limit → (x : List ℕ)
      → read_message of ((head ++ body) ++ x) ≡ read_body of body x
  whole_body head body four field fits x = at_bytes ((head ++ body) ++ x) front behind
    where
      front : take 4 ((head ++ body) ++ x) ≡ head
      front = ap (take 4) (append_assoc head body x) ∙ subst (λ n. take n (head ++ (body ++ x)) ≡ head) four (take-append_seam head (body ++ x))

      behind : drop 4 ((head ++ body) ++ x) ≡ body ++ x
      behind = ap (drop 4) (append_assoc head body x) ∙ subst (λ n. drop n (head ++ (body ++ x)) ≡ body ++ x) four (drop-append_seam head (body ++ x))

      at_bytes : (bytes : List ℕ) → take 4 bytes ≡ head → drop 4 bytes ≡ body ++ x → read_message of bytes ≡ read_body of body x
      at_bytes [] front behind = absurd (let clash : 0 ≡ 4 = ap length front ∙ four in omega (arith, clash))
      at_bytes (b ∷ bytes) front behind =
          let len : u32_in (take 4 (b ∷ bytes)) ≡ length body = ap u32_in front ∙ field in
          let long : 4 ≤ length (b ∷ bytes) = let e : length (take 4 (b ∷ bytes)) ≡ 4 = ap length front ∙ four in grind (arith, common_steps) in
          let there : length body ≤ length (drop 4 (b ∷ bytes)) = subst (λ r. length body ≤ length r) (sym behind) (grind (arith, common_steps)) in
          rw (not_below (length (b ∷ bytes)) 4 long)
          (subst
          (λ n. (if nat_lt message_limit n then Stops (TooLong n)
          else (if nat_lt (length (drop 4 (b ∷ bytes))) n then Stops IsCut else read_body of (take n (drop 4 (b ∷ bytes))) (drop n (drop 4 (b ∷ bytes))))) ≡ read_body of body x)
          (sym len)
          (rw (not_below message_limit (length body) fits, not_below (length (drop 4 (b ∷ bytes))) (length body) there)
          (ap₂ (read_body of) (ap (take (length body)) behind ∙ take-append_seam body x) (ap (drop (length body)) behind ∙ drop-append_seam body x))))

  -- What is read of a string of bytes in which a body stands whole: the body says it, and the same bytes say it before all others.
  record IsRead (bytes : List ℕ) (found : Read A) : Type 0 where
    head : List ℕ
    body : List ℕ
    rest : List ℕ
    parts : bytes ≡ (head ++ body) ++ rest
    four : length head ≡ 4
    field : u32_in head ≡ length body
    fits : length body ≤ message_limit
    says : read_body of body rest ≡ found

  read_whole : (bytes : List ℕ) (found : Read A) → read_message of bytes ≡ found → (found ≡ Stops AtEnd → ⊥) → (found ≡ Stops IsCut → ⊥)
      → ((len : ℕ) → found ≡ Stops (TooLong len) → ⊥) → IsRead bytes found
  read_whole [] found e end cut long = absurd (end (sym e))
  read_whole (b ∷ bs) found e end cut long =
      by (nat_lt (length (b ∷ bs)) 4) (nat_lt message_limit len) (nat_lt (length (drop 4 (b ∷ bs))) len) refl refl refl e
    where
      len : ℕ
      len = u32_in (take 4 (b ∷ bs))

      by : (x y z : Bool) → nat_lt (length (b ∷ bs)) 4 ≡ x → nat_lt message_limit len ≡ y → nat_lt (length (drop 4 (b ∷ bs))) len ≡ z
          → (if x then Stops IsCut else (if y then Stops (TooLong len) else (if z then Stops IsCut else read_body of (take len (drop 4 (b ∷ bs))) (drop len (drop 4 (b ∷ bs))))))
          ≡ found → IsRead (b ∷ bs) found
      by true y z f g h e = absurd (cut (sym e))
      by false true z f g h e = absurd (long len (sym e))
      by false false true f g h e = absurd (cut (sym e))
      by false false false f g h e =
          let four : 4 ≤ length (b ∷ bs) = ltb-false _ _ f in
          let there : len ≤ length (drop 4 (b ∷ bs)) = ltb-false _ _ h in
          let size : length (take len (drop 4 (b ∷ bs))) ≡ len = length-take-le len (drop 4 (b ∷ bs)) there in
          record {
            head = take 4 (b ∷ bs);
            body = take len (drop 4 (b ∷ bs));
            rest = drop len (drop 4 (b ∷ bs));
            parts = sym (append_assoc (take 4 (b ∷ bs)) (take len (drop 4 (b ∷ bs))) (drop len (drop 4 (b ∷ bs)))
                ∙ ap (λ r. take 4 (b ∷ bs) ++ r) (take-append-drop len (drop 4 (b ∷ bs))) ∙ take-append-drop 4 (b ∷ bs));
            four = length-take-le 4 (b ∷ bs) four;
            field = sym size;
            fits = subst (λ n. n ≤ message_limit) (sym size) (ltb-false _ _ g);
            says = e;
          }

  -- what a body says, whatever stands behind it
  says_alike : (body rest : List ℕ) (a : A) (left : List ℕ) → read_body of body rest ≡ Got a left → (left ≡ rest) × ((x : List ℕ) → read_body of body x ≡ Got a x)
  says_alike [] rest a left e = absurd (cc (e))
  says_alike (kind ∷ body) rest a left e = by (of kind body) e
    where
      by : (q : Body A) → said q kind rest ≡ Got a left → (left ≡ rest) × ((x : List ℕ) → said q kind x ≡ Got a x)
      by (Says v) e = let same : v ≡ a = cc in (cc, λ x. ap (λ v. let y : Read A = Got v x in y) same)
      by (FaultAt offset) e = absurd (cc (e))

  -- A message that was read: its bytes, and that these are read as it whatever stands behind.
  pub message_read : (bytes : List ℕ) (a : A) (left : List ℕ) → read_message of bytes ≡ Got a left
      → (t : List ℕ) × (bytes ≡ t ++ left) × ((x : List ℕ) → read_message of (t ++ x) ≡ Got a x)
  message_read bytes a left e =
      let read = read_whole bytes (Got a left) e (λ c. cc) (λ c. cc) (λ len c. cc) in
      let says = says_alike read.body read.rest a left read.says in (
        read.head ++ read.body,
        read.parts ∙ ap (λ r. (read.head ++ read.body) ++ r) (sym says.0),
        λ x. whole_body read.head read.body read.four read.field read.fits x ∙ says.1 x,
      )

  stops_alike : (body rest : List ℕ) (stop : Stop) → read_body of body rest ≡ Stops stop → (x : List ℕ) → read_body of body x ≡ Stops stop
  stops_alike [] rest stop e x = e
  stops_alike (kind ∷ body) rest stop e x = by (of kind body) e
    where
      by : (q : Body A) → said q kind rest ≡ Stops stop → said q kind x ≡ Stops stop
      by (Says v) e = absurd (cc (e))
      by (FaultAt offset) e = e

  -- The same of a body that is none, which is taken whole.
  pub message_refused : (bytes : List ℕ) (kind offset : ℕ) → read_message of bytes ≡ Stops (BadMessage kind offset)
      → (t : List ℕ) × (bytes ≡ t ++ left_by (BadMessage kind offset) bytes) × ((x : List ℕ) → read_message of (t ++ x) ≡ Stops (BadMessage kind offset))
  message_refused bytes kind offset e =
      let read = read_whole bytes (Stops (BadMessage kind offset)) e (λ c. cc) (λ c. cc) (λ len c. cc) in
      let len = u32_in (take 4 bytes) in
      let t = read.head ++ read.body in
      let front : take 4 bytes ≡ read.head =
      ap (take 4) (read.parts ∙ append_assoc read.head read.body read.rest) ∙ subst (λ n. take n (read.head ++ (read.body ++ read.rest)) ≡ read.head) read.four (take-append_seam read.head (read.body ++ read.rest)) in
      let behind : drop 4 bytes ≡ read.body ++ read.rest =
      ap (drop 4) (read.parts ∙ append_assoc read.head read.body read.rest)
      ∙ subst (λ n. drop n (read.head ++ (read.body ++ read.rest)) ≡ read.body ++ read.rest) read.four (drop-append_seam read.head (read.body ++ read.rest)) in
      let size : len ≡ length read.body = ap u32_in front ∙ read.field in
      let left : drop len (drop 4 bytes) ≡ read.rest = ap₂ drop size behind ∙ drop-append_seam read.body read.rest in (
        t,
        read.parts ∙ ap (λ r. t ++ r) (sym left),
        λ x. whole_body read.head read.body read.four read.field read.fits x ∙ stops_alike read.body read.rest (BadMessage kind offset) read.says x,
      )

  -- The same of a length that is too great, of which its field is taken.
  pub message_long : (bytes : List ℕ) (len : ℕ) → read_message of bytes ≡ Stops (TooLong len) → (x : List ℕ) → read_message of (take 4 bytes ++ x) ≡ Stops (TooLong len)
  message_long [] len e x = absurd (cc (e))
  message_long (b ∷ bs) len e x = by (nat_lt (length (b ∷ bs)) 4) (nat_lt message_limit field) refl refl e
    where
      field : ℕ
      field = u32_in (take 4 (b ∷ bs))

      by : (u v : Bool) → nat_lt (length (b ∷ bs)) 4 ≡ u → nat_lt message_limit field ≡ v
          → (if u then Stops IsCut else (if v then Stops (TooLong field) else (if nat_lt (length (drop 4 (b ∷ bs))) field then Stops IsCut else read_body of (take field (drop 4 (b ∷ bs))) (drop field (drop 4 (b ∷ bs))))))
          ≡ Stops (TooLong len) → read_message of (take 4 (b ∷ bs) ++ x) ≡ Stops (TooLong len)
      by true v f g e = absurd (cc (e))
      by false false f g e = absurd (never (nat_lt (length (drop 4 (b ∷ bs))) field) (take field (drop 4 (b ∷ bs))) e)
        where
          never : (z : Bool) (body : List ℕ) → (if z then Stops IsCut else read_body of body (drop field (drop 4 (b ∷ bs)))) ≡ Stops (TooLong len) → ⊥
          never true body e = cc
          never false [] e = cc
          never false (kind ∷ body) e = said_not (of kind body) e
            where
              said_not : (q : Body A) → said q kind (drop field (drop 4 (b ∷ bs))) ≡ Stops (TooLong len) → ⊥
              said_not (Says v) e = cc
              said_not (FaultAt offset) e = cc
      by false true f g e =
          let four : length (take 4 (b ∷ bs)) ≡ 4 = length-take-le 4 (b ∷ bs) (ltb-false _ _ f) in
          at_bytes (take 4 (b ∷ bs) ++ x)
          (subst (λ n. take n (take 4 (b ∷ bs) ++ x) ≡ take 4 (b ∷ bs)) four (take-append_seam (take 4 (b ∷ bs)) x))
          (grind (arith, common_steps))
        where
          same : field ≡ len
          same = cc

          at_bytes : (bytes : List ℕ) → take 4 bytes ≡ take 4 (b ∷ bs) → 4 ≤ length bytes → read_message of bytes ≡ Stops (TooLong len)
          at_bytes [] front long = absurd (omega (arith, long))
          at_bytes (c ∷ cs) front long =
              rw (not_below (length (c ∷ cs)) 4 long)
              (subst
              (λ n. (if nat_lt message_limit n then Stops (TooLong n)
              else (if nat_lt (length (drop 4 (c ∷ cs))) n then Stops IsCut else read_body of (take n (drop 4 (c ∷ cs))) (drop n (drop 4 (c ∷ cs))))) ≡ Stops (TooLong len))
              (sym (ap u32_in front)) (rw g (ap (λ n. let y : Read A = Stops (TooLong n) in y) same)))

-- the messages of bytes that begin with one that was read, whatever stands behind it
pub request_goes_on : (bytes : List ℕ) (r : Request) (left : List ℕ) → read_message request_of bytes ≡ Got r left
    → (t : List ℕ) × (bytes ≡ t ++ left) × ((x : List ℕ) → messages request_of (t ++ x) ≡ Then r (messages request_of x))
request_goes_on bytes r left e =
    let read = message_read request_of bytes r left e in
    (read.0, read.1, λ x. (messages_go_on (read.0 ++ x)).0 ∙ ap (λ (q : Read Request). goes_on q (messages request_of)) (read.2 x))

-- and of bytes of which none is read
pub replies_stop : (bytes : List ℕ) (stop : Stop) → read_message reply_of bytes ≡ Stops stop → messages reply_of bytes ≡ NoMore stop
replies_stop bytes stop e = (messages_go_on bytes).1 ∙ ap (λ (q : Read Reply). goes_on q (messages reply_of)) e

pub requests_stop : (bytes : List ℕ) (stop : Stop) → read_message request_of bytes ≡ Stops stop → messages request_of bytes ≡ NoMore stop
requests_stop bytes stop e = (messages_go_on bytes).0 ∙ ap (λ (q : Read Request). goes_on q (messages request_of)) e
