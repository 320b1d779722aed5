-- A journal that is read, record by record.
use Rattle.std.specs.Prelude.{IsErrAnd}
use Rattle.std.specs.Int.{w16, w32, w64, to_be_bytes}
use Rattle.std.specs.List.{AllByRecursion}
use Rattle.std.proofs.Common.{⊎_elim, ◌≡◌, ℕ, zero, suc, ◌+◌, ◌-◌, ◌<◌, ◌≤◌, ◌^◌, List, [], ◌∷◌, ◌++◌, length, Option, Some, None, Result, Ok, Err, refl, sym, ap, ◌∙◌, subst, arith, append_assoc, length-append}
use Rattle.std.proofs.lemmas.List.{append-nil}
use Rattle.core_terms.specs.Formats.{Hash}
use Rattle.core_terms.specs.Spelling.{spelling}
use Rattle.core_terms.specs.Terms.{Program}
use Rattle.core_terms.specs.Values.{Value}
use Rattle.images.specs.Images as image
use Rattle.images.specs.Images.{Image, Root, Refused, image_of}
use Rattle.images.specs.Loads.{TellsFault}
use Rattle.images.specs.declared.fault.ImageFault.{ImageFault}
use Rattle.images.specs.declared.fault.ImageFault.TheVariants as coded
use Rattle.session_meaning.specs.Calls.{RoleCall}
use Rattle.session_meaning.specs.Server as meant
use Rattle.session_meaning.specs.Server.{version_at}
use Rattle.session_meaning.specs.Within.{IsCallWithin}
use Rattle.session_meaning.proofs.FineServer.{all_more}
use Rattle.session_turns.specs.Sharing.{Shares}
use Rattle.session_turns.specs.declared.shared.Shared.{Shared}
use Rattle.version_journal.specs.JournalParts.{IsAtGate, IsHead, TellsPart, front_bytes}
use Rattle.version_journal.specs.Journals.{BadRecord, Cut, Faulty, Holds, Journal, Magic, NoImage, call_read, gate_at, headed, journal_front, journal_head, journal_of, judged, made_by, record_at, record_bytes, records_from, records_limit, with_image}
use Rattle.version_journal.specs.JournalLaws.{AreWritable, IsWritable}
use Rattle.version_journal.specs.Openings.{IsFirst, IsOpening, Opens, Refuses, RefusesSo, TellsImage, TellsJournal}
use Rattle.version_journal.specs.Replays.{IsReplayed}
use Rattle.version_journal.specs.declared.fault.JournalFault.{JournalFault}
use Rattle.version_journal.specs.declared.fault.JournalFault.TheVariants as told
use Rattle.version_journal.specs.declared.opening.Opening.{Opening}
use Rattle.version_journal.specs.declared.parts.Head.{Head}
use Rattle.version_journal.specs.declared.parts.RecordFront.{RecordFront}
use Rattle.version_journal.specs.declared.replaying.ReplayFault.TheVariants.{NotMade}
use Rattle.version_journal.proofs.Survival.{front_more, writable_more}

-- FAULTS
pub tells_part : (j : Journal) (fault : JournalFault) → TellsPart j fault → TellsJournal j fault
tells_part j told.Magic h = h
tells_part j (told.Cut bytes) h = h
tells_part j told.OtherProgram h = h
tells_part j fault h = elim h [ ]

tells_weaker : (A B : image.ImageFault → Type 0) → ((f : image.ImageFault) → A f → B f) → (fault : ImageFault) → TellsImage A fault → TellsImage B fault
tells_weaker A B w coded.Magic h = w image.Magic h
tells_weaker A B w (coded.Cut n) h = w (image.Cut n) h
tells_weaker A B w coded.OtherProgram h = w image.OtherProgram h
tells_weaker A B w (coded.BadRecord n) h = w (image.BadRecord n) h
tells_weaker A B w (coded.TooBig n) h = w (image.TooBig n) h
tells_weaker A B w (coded.TooDeep n) h = w (image.TooDeep n) h
tells_weaker A B w coded.RootType h = w image.RootType h
tells_weaker A B w (coded.Leftover n) h = w (image.Leftover n) h
tells_weaker A B w coded.NoMemory h = elim h [ ]

-- any other fault than the want of memory is told as it is
pub refuses_other : (fault : ImageFault) → (fault ≡ coded.NoMemory → ⊥) → Refuses fault (told.Image fault)
refuses_other coded.NoMemory other = absurd (other refl)
refuses_other fault other = refl

refuses_this : (A : image.ImageFault → Type 0) (fault : ImageFault) → TellsImage A fault → (answer : JournalFault) → answer ≡ told.Image fault → RefusesSo A answer
refuses_this A fault h answer is = subst (RefusesSo A) (sym is) h

pub refuses_so : (A : image.ImageFault → Type 0) (fault : ImageFault) (answer : JournalFault) → TellsFault A fault → Refuses fault answer → RefusesSo A answer
refuses_so A coded.NoMemory answer h is = subst (RefusesSo A) (sym is) tt
refuses_so A fault answer h is = refuses_this A fault h answer is

pub refused : (hash : Hash) (P : Program) (own bytes : List ℕ) (fault : JournalFault) (result : Result Opening JournalFault) → IsErrAnd result (λ e. e ≡ fault)
    → TellsJournal (journal_of P own bytes) fault → IsOpening hash P own bytes result
refused hash P own bytes fault (Ok opening) err h = elim err [ ]
refused hash P own bytes fault (Err e) err h = subst (TellsJournal (journal_of P own bytes)) (sym err) h

-- THE HEAD
module _ (P : Program) (own bytes : List ℕ) where
  abbrev up_to : ℕ → Value → List ℕ → Journal
  up_to limit v rest = records_from P (length bytes) limit (v ∷ []) [] rest

  headed_by : (go : Value → List ℕ → Journal) (head : Head) (i : Image) → IsHead own bytes (Ok head) → image_of P own head.image.now ≡ i
      → headed P (length bytes) own bytes go ≡ with_image P (length bytes) i (λ v. go v head.records.now)
  headed_by go head i h is = h.1 P go ∙ ap (λ i. with_image P (length bytes) i (λ v. go v head.records.now)) is

  starts : (limit : ℕ) (head : Head) (v : Value) → IsHead own bytes (Ok head) → image_of P own head.image.now ≡ Root v → (more : ℕ) → more ≡ limit
      → records_from P (length bytes) more (v ∷ []) [] head.records.now ≡ headed P (length bytes) own bytes (up_to limit)
  starts limit head v h is more e = ap (λ n. up_to n v head.records.now) e ∙ sym (headed_by (up_to limit) head (Root v) h is)

  no_image : (limit : ℕ) (head : Head) (f : image.ImageFault) → IsHead own bytes (Ok head) → image_of P own head.image.now ≡ Refused f
      → headed P (length bytes) own bytes (up_to limit) ≡ Faulty (NoImage f)
  no_image limit head f h is = headed_by (up_to limit) head (Refused f) h is

  pub head_refused : (fault : JournalFault) → IsHead own bytes (Err fault) → TellsJournal (journal_of P own bytes) fault
  head_refused fault h = tells_part (journal_of P own bytes) fault (h P (up_to records_limit))

  pub first_refused : (hash : Hash) (head : Head) (fault : JournalFault) → IsHead own bytes (Ok head) → IsFirst hash P own head.image.now (Err fault) → TellsJournal (journal_of P own bytes) fault
  first_refused hash head (told.Image f) h is =
      tells_weaker (λ f. image_of P own head.image.now ≡ Refused f) (λ f. journal_of P own bytes ≡ Faulty (NoImage f)) (λ f is. no_image records_limit head f h is) f is
  first_refused hash head told.NoMemory h is = tt
  first_refused hash head fault h is = elim is [ ]

-- RECORDS
module _ (P : Program) (size : ℕ) where
  made_judged : (number : ℕ) (v : Value) (found : Option RoleCall) (call : RoleCall) (w : Value) (go : RoleCall → Value → Journal) → found ≡ Some call → made_by P v call ≡ Some w
      → judged P size number v found go ≡ go call w
  made_judged number v found call w go is makes = rw (is, makes) refl

  none_judged : (number : ℕ) (v : Value) (found : Option RoleCall) (go : RoleCall → Value → Journal) → found ≡ None → judged P size number v found go ≡ Faulty (BadRecord number)
  none_judged number v found go is = rw is refl

  not_judged : (number : ℕ) (v : Value) (found : Option RoleCall) (call : RoleCall) (go : RoleCall → Value → Journal) → found ≡ Some call → made_by P v call ≡ None
      → judged P size number v found go ≡ Faulty (BadRecord number)
  not_judged number v found call go is makes = rw (is, makes) refl

  -- the record at an open gate is judged
  one_judged : (more : ℕ) (versions : List Value) (commits : List RoleCall) (rest : List ℕ) (front : RecordFront) → IsAtGate size rest (Ok (Some front))
      → records_from P size (suc more) versions commits rest
      ≡ judged P size (length commits) (version_at versions (length commits)) (call_read P front.role front.fuel front.argument.now)
      (λ call w. records_from P size more (versions ++ w ∷ []) (commits ++ call ∷ []) front.rest.now)
  one_judged more versions commits rest front at =
      at.1 P (Holds versions commits) (λ role fuel argument bytes. judged P size (length commits) (version_at versions (length commits)) (call_read P role fuel argument)
      (λ call w. records_from P size more (versions ++ w ∷ []) (commits ++ call ∷ []) bytes))

  one_over : (versions : List Value) (commits : List RoleCall) (rest : List ℕ) (front : RecordFront) → IsAtGate size rest (Ok (Some front))
      → records_from P size zero versions commits rest ≡ Faulty (BadRecord (length commits))
  one_over versions commits rest front at = at.1 P (Holds versions commits) (λ role fuel argument bytes. Faulty (BadRecord (length commits)))

  closed_holds : (more : ℕ) (versions : List Value) (commits : List RoleCall) (rest : List ℕ) → IsAtGate size rest (Ok None) → records_from P size more versions commits rest ≡ Holds versions commits
  closed_holds zero versions commits rest at = at P (Holds versions commits) (λ bytes. record_at P size bytes (λ role fuel argument bytes. Faulty (BadRecord (length commits))))
  closed_holds (suc more) versions commits rest at =
      at P (Holds versions commits) (λ bytes. record_at P size bytes (λ role fuel argument bytes. judged P size (length commits) (version_at versions (length commits)) (call_read P role fuel argument)
      (λ call w. records_from P size more (versions ++ w ∷ []) (commits ++ call ∷ []) bytes)))

  one_cut : (more : ℕ) (versions : List Value) (commits : List RoleCall) (rest : List ℕ) (fault : JournalFault) → IsAtGate size rest (Err fault)
      → TellsPart (records_from P size more versions commits rest) fault
  one_cut zero versions commits rest fault at = at P (Holds versions commits) (λ role fuel argument bytes. Faulty (BadRecord (length commits)))
  one_cut (suc more) versions commits rest fault at =
      at P (Holds versions commits) (λ role fuel argument bytes. judged P size (length commits) (version_at versions (length commits)) (call_read P role fuel argument)
      (λ call w. records_from P size more (versions ++ w ∷ []) (commits ++ call ∷ []) bytes))

  -- a gate that ends the records is there, and closed
  closed_there : (rest : List ℕ) → IsAtGate size rest (Ok None) → (gate : ℕ) × (tail : List ℕ) × (rest ≡ gate ∷ tail) × (gate ≡ 1 → ⊥)
  closed_there [] at = absurd (let e : Faulty (Cut size) ≡ Holds [] [] = at P (Holds [] []) (λ bytes. Faulty Magic) in cc (e))
  closed_there (gate ∷ tail) at = (
    gate,
    tail,
    refl,
    λ one.
        (let e : gate_at P size (gate ∷ tail) (Holds [] []) (λ bytes. Faulty Magic) ≡ Holds [] [] = at P (Holds [] []) (λ bytes. Faulty Magic) in
        let f : gate_at P size (gate ∷ tail) (Holds [] []) (λ bytes. Faulty Magic) ≡ Faulty Magic = rw one refl in
        let clash : Faulty Magic ≡ Holds [] [] = sym f ∙ e in elim_clash clash),
  )
    where
      elim_clash : Faulty Magic ≡ Holds [] [] → ⊥
      elim_clash e = absurd (cc (e))

module _ (hash : Hash) (P : Program) (own bytes : List ℕ) where
  -- when n records are read, and their calls are made again: these bytes are left
  pub record SoFar (n : ℕ) (shared : Shared) (rest : List ℕ) : Type 0 where
    pub image : List ℕ
    pub first : Value
    pub same : meant.Shared
    pub made : List Value
    pub image_fits : length image < 2 ^ 32
    pub versions : same.versions ≡ first ∷ made
    pub written : AreWritable P first same.commits made
    pub asked : AllByRecursion (IsCallWithin P) same.commits
    pub is_image : image_of P own image ≡ Root first
    pub shares : Shares hash P shared same
    pub counted : length same.versions ≡ suc (length same.commits)
    pub number : length same.commits ≡ n
    pub goes_on : (more : ℕ) → more + n ≡ records_limit → records_from P (length bytes) more same.versions same.commits rest ≡ journal_of P own bytes
    pub behind : bytes ≡ journal_front own image same.commits ++ rest

  front_none : (image : List ℕ) → journal_head own image ≡ journal_front own image []
  unfolding journal_front
  front_none image = sym (append-nil (journal_head own image))

  pub begins : (head : Head) (shared : Shared) → IsHead own bytes (Ok head) → IsFirst hash P own head.image.now (Ok shared) → SoFar 0 shared head.records.now
  begins head shared h is = record {
    image = head.image.now;
    first = is.0;
    same = (meant.new_server is.0).shared;
    made = [];
    image_fits = h.2;
    versions = refl;
    written = tt;
    asked = tt;
    is_image = is.1;
    shares = is.2;
    counted = refl;
    number = refl;
    goes_on = λ more e. starts P own bytes records_limit head is.0 h is.1 more (omega (arith, e));
    behind = h.0 ∙ ap (λ (l : List ℕ). l ++ head.records.now) (front_none head.image.now);
  }

  module _ (n : ℕ) (shared : Shared) (rest : List ℕ) (h : SoFar n shared rest) where
    same_front : (front : RecordFront) (call : RoleCall) → call.role ≡ front.role → call.fuel ≡ front.fuel → spelling call.argument ≡ front.argument.now → record_bytes call ≡ front_bytes front
    same_front front call role fuel argument =
        ap (λ r. to_be_bytes w16 r ++ (to_be_bytes w64 call.fuel ++ (to_be_bytes w32 (length (spelling call.argument)) ++ spelling call.argument))) role
        ∙ ap (λ f. to_be_bytes w16 front.role ++ (to_be_bytes w64 f ++ (to_be_bytes w32 (length (spelling call.argument)) ++ spelling call.argument))) fuel
        ∙ ap (λ (l : List ℕ). to_be_bytes w16 front.role ++ (to_be_bytes w64 front.fuel ++ (to_be_bytes w32 (length l) ++ l))) argument

    pub one_more : (front : RecordFront) (new : Shared) → IsAtGate (length bytes) rest (Ok (Some front))
        → IsReplayed hash P new h.same front.role front.fuel front.argument.now (Ok tt) → SoFar (n + 1) new front.rest.now
    one_more front new at r =
        let call = r.0 in
        let w = r.1 in
        let same = h.same in
        let F = journal_front own h.image same.commits in
        let record_is = same_front front call r.4.role_is r.4.fuel_is r.4.argument_is in
        let versions = length-append same.versions (w ∷ []) in
        let commits = length-append same.commits (call ∷ []) in
        record {
          image = h.image;
          first = h.first;
          same = meant.with_commit call w same;
          made = h.made ++ w ∷ [];
          image_fits = h.image_fits;
          versions = ap (λ (l : List Value). l ++ w ∷ []) h.versions;
          written =
              writable_more P h.first same.commits h.made call w h.written
              (subst (λ (l : List Value). IsWritable P (version_at l (length same.commits)) call w) h.versions r.3);
          asked = all_more (IsCallWithin P) same.commits (call ∷ []) h.asked (r.5, tt);
          is_image = h.is_image;
          shares = r.6;
          counted = omega (arith, versions, commits, h.counted);
          number = omega (arith, commits, h.number);
          goes_on = λ more e.
              sym (one_judged P (length bytes) more same.versions same.commits rest front at
              ∙ made_judged P (length bytes) (length same.commits) (version_at same.versions (length same.commits)) (call_read P front.role front.fuel front.argument.now) call w
              (λ call w. records_from P (length bytes) more (same.versions ++ w ∷ []) (same.commits ++ call ∷ []) front.rest.now) r.2 r.3.makes)
              ∙ h.goes_on (suc more) (omega (arith, e));
          behind =
              h.behind ∙ ap (λ (l : List ℕ). F ++ l) (at.0 ∙ ap (λ (l : List ℕ). 1 ∷ (l ++ front.rest.now)) (sym record_is))
              ∙ sym (append_assoc F (1 ∷ record_bytes call) front.rest.now)
              ∙ ap (λ (l : List ℕ). l ++ front.rest.now) (sym (front_more own h.image same.commits call));
        }

    pub ends : IsAtGate (length bytes) rest (Ok None) → n ≤ records_limit → (k gate : ℕ) → k ≡ n → gate ≡ length bytes - length rest
        → Opens hash P own bytes (record { shared = shared; records = k; gate = gate })
    ends at few k gate is place =
        let there = closed_there P (length bytes) rest at in
        let F = journal_front own h.image h.same.commits in
        let long = ap length h.behind ∙ length-append F rest in
        record {
          image = h.image;
          first = h.first;
          same = h.same;
          made = h.made;
          image_fits = h.image_fits;
          versions = h.versions;
          written = h.written;
          asked = h.asked;
          is_image = h.is_image;
          holds = sym (h.goes_on (records_limit - n) (omega (arith, few))) ∙ closed_holds P (length bytes) (records_limit - n) h.same.versions h.same.commits rest at;
          shares = h.shares;
          spells = record { gate = there.0; tail = there.1; all = h.behind ∙ ap (λ (l : List ℕ). F ++ l) there.2; closed = there.3 };
          gate = omega (arith, place, long);
          records = omega (arith, is, h.number);
        }

    pub not_made : (front : RecordFront) (new : Shared) → n < records_limit → IsAtGate (length bytes) rest (Ok (Some front))
        → IsReplayed hash P new h.same front.role front.fuel front.argument.now (Err NotMade) → journal_of P own bytes ≡ Faulty (BadRecord n)
    not_made front new few at r =
        let same = h.same in
        let more = records_limit - suc n in
        let go : RoleCall → Value → Journal = λ call w. records_from P (length bytes) more (same.versions ++ w ∷ []) (same.commits ++ call ∷ []) front.rest.now in
        let found = call_read P front.role front.fuel front.argument.now in
        let v = version_at same.versions (length same.commits) in
        let is : judged P (length bytes) (length same.commits) v found go ≡ Faulty (BadRecord (length same.commits)) =
        ⊎_elim (λ none. none_judged P (length bytes) (length same.commits) v found go none) (λ none. not_judged P (length bytes) (length same.commits) v found none.0 go none.1 none.2) r in
        sym (h.goes_on (suc more) (omega (arith, few))) ∙ one_judged P (length bytes) more same.versions same.commits rest front at ∙ is ∙ ap (λ k. Faulty (BadRecord k)) h.number

    pub too_many : (front : RecordFront) → n ≡ records_limit → IsAtGate (length bytes) rest (Ok (Some front)) → journal_of P own bytes ≡ Faulty (BadRecord n)
    too_many front most at =
        sym (h.goes_on 0 (omega (arith, most))) ∙ one_over P (length bytes) h.same.versions h.same.commits rest front at ∙ ap (λ k. Faulty (BadRecord k)) h.number

    pub cut : (fault : JournalFault) → n ≤ records_limit → IsAtGate (length bytes) rest (Err fault) → TellsJournal (journal_of P own bytes) fault
    cut fault few at =
        let more = records_limit - n in
        tells_part (journal_of P own bytes) fault
        (subst (λ j. TellsPart j fault) (h.goes_on more (omega (arith, few))) (one_cut P (length bytes) more h.same.versions h.same.commits rest fault at))
