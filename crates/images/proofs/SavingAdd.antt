-- A node whose parts have their records gets its own.
use Rattle.std.proofs.Common.{◌≡◌, ◌⊎◌, inl, inr, ℕ, ◌≤◌, Bool, true, false, List, [], ◌∷◌, ◌++◌, length, map, Option, Some, None, IsSome, slice_get, nat_eq, unwrap_or, if◌then◌else◌, true≢false, refl, sym, ap, ap₂, ◌∙◌, subst, arith}
use Rattle.std.proofs.lemmas.Bool.{eqb-true}
use Rattle.core_terms.specs.Types.{Table}
use Rattle.core_terms.specs.Values.{IsIdeal}
use Rattle.images.specs.Images.{Entry}
use Rattle.images.specs.Parts.{HasLength}
use Rattle.images.specs.SavedImages.{distinct, is_entry_of, number_among, walk}
use Rattle.value_store.specs.Nodes.{Form, Node, form_at, refs_in}
use Rattle.value_store.specs.Standing.{IdealNodes}
use Rattle.value_store.proofs.TypedNodes.{ideal_refers, ideal_stands}
use Rattle.images.specs.FormRecords.{bytes_of}
use Rattle.images.specs.SavedRecords.{HaveRecords, IsAdded, IsAmongOld, IsBehindOld, IsNew, node_numbers, number_at, number_or_first, record_for, records_in}
use Rattle.images.specs.declared.save.records.Records.{Records}
use Rattle.images.specs.KeptNodes.{AllHave}
use Rattle.images.proofs.AmongEntries.{IsAmong, AreAmong, among_at, among_behind, among_here, among_later, among_split, are_append, are_more}
use Rattle.images.proofs.DistinctEntries.{distinct_new, distinct_there}
use Rattle.images.proofs.EntryParts.{among_parts, among_walks, parts, walks, walk_parts}
use Rattle.images.proofs.NodeEntries.{HaveNumbers, StandsAs, StandAs, length_stands, parts_stand, record_stands, refs_at}
use Rattle.images.proofs.NumberedEntries.{entry_numbered, once_more}
use Rattle.images.proofs.RecordBytes.{record_more}
use Rattle.images.proofs.RecordReading.{one_record, record_of}
use Rattle.images.proofs.Saving.{AreNumbered, IsPlaced}
use Rattle.images.proofs.SavingLists.{at_map, at_more, length-map, map_at, map_push}
use Rattle.images.proofs.SavingWalk.{known_walk}

few_of : (records : Records) (done : List Entry) (f : Entry → List ℕ) → records_in records ≡ map f done → length done ≤ 4294967296
few_of records done f keys =
    let same = ap length keys ∙ length-map f done in
    let all = length-map bytes_of records.records.keys in
    omega (arith, same, all, records.few)

module _ (types : Table) (few_types : length types ≤ 65536) (nodes : List Node) where
  -- the parts have the numbers of what they stand for, and all that walks over them meet is there
  have_numbers : (done : List Entry) (records : Records) (rs : List ℕ) (es : List Entry) → AreNumbered types nodes done records → HaveRecords records rs → StandAs types nodes rs es
      → HaveNumbers (number_or_first records) done rs es × AreAmong done (walks types es)
  have_numbers done records [] [] numbered h stand = (tt, tt)
  have_numbers done records [] (e ∷ es) numbered h stand = elim stand [ ]
  have_numbers done records (r ∷ rs) [] numbered h stand = elim stand [ ]
  have_numbers done records (r ∷ rs) (e ∷ es) numbered h stand = by (number_at records r) refl h.0 (have_numbers done records rs es numbered h.1 stand.1)
    where
      by : (o : Option ℕ) → number_at records r ≡ o → IsSome o → HaveNumbers (number_or_first records) done rs es × AreAmong done (walks types es)
          → HaveNumbers (number_or_first records) done (r ∷ rs) (e ∷ es) × AreAmong done (walks types (e ∷ es))
      by None at some rest = absurd (true≢false (sym some))
      by (Some n) at some rest =
          let known = known_walk types nodes done records r n e numbered at stand.0 in
          ((ap (λ o. unwrap_or o 0) at ∙ sym (numbered.once n e known.0), rest.0), are_append done (walk types e.of_type e.value) (walks types es) known.1.walked rest.1)

  records_more : (done more xs : List Entry) → ((x : Entry) → IsAmong xs x → AreAmong done (parts types x.of_type x.value))
      → map (record_of types (done ++ more)) xs ≡ map (record_of types done) xs
  records_more done more [] h = refl
  records_more done more (x ∷ xs) h =
      ap₂ (λ (s : List ℕ) (ss : List (List ℕ)). s ∷ ss) (record_more types done more x (h x (among_here x xs))) (records_more done more xs (λ y g. h y (among_later y x xs g)))

  -- the entry with a number has the record with the number
  entry_found : (done : List Entry) (e : Entry) (n : ℕ) → length done ≤ 4294967296 → ((x : Entry) → IsAmong done x → IsPlaced types done x)
      → HasLength e.of_type → IsIdeal types e.of_type e.value → AreAmong done (parts types e.of_type e.value) → slice_get (map (record_of types done) done) n ≡ Some (record_of types done e)
      → slice_get done n ≡ Some e
  entry_found done e n few placed long ideal inside at =
      let found = at_map (record_of types done) done n (record_of types done e) at in
      let x : Entry = found.0 in
      let place = placed x (among_at x done n found.1) in
      found.1 ∙ ap Some (one_record done few types few_types x e place.has_length place.ideal (among_parts types done x place.walked) long ideal inside found.2)

  -- a node that waits with all its parts known: what it stands for, and its record
  pub record Whole (done : List Entry) (records : Records) (r : ℕ) (form : Form) (e : Entry) : Type 0 where
    pub stands : StandsAs types nodes r e
    pub ideal : IsIdeal types e.of_type e.value
    pub has_length : HasLength e.of_type
    pub walked : AreAmong done (walks types (parts types e.of_type e.value))
    pub inside : AreAmong done (parts types e.of_type e.value)
    pub found : record_for records form ≡ record_of types done e
    pub have : HaveRecords records (refs_at nodes r)

  pub whole : (done : List Entry) (records : Records) (r : ℕ) (form : Form) (e : Entry) → AreNumbered types nodes done records → StandsAs types nodes r e
      → form_at nodes r ≡ Some form → HaveRecords records (refs_in form) → Whole done records r form e
  whole done records r form e numbered stands at h =
      let es = parts types e.of_type e.value in
      let refs : refs_at nodes r ≡ refs_in form = ap (λ o. Rattle.std.specs.Option.option_map_or refs_in o []) at in
      let stand : StandAs types nodes (refs_in form) es = subst (λ rs. StandAs types nodes rs es) refs (parts_stand types nodes r e.of_type e.value stands) in
      let have = have_numbers done records (refs_in form) es numbered h stand in
      record {
        stands = stands;
        ideal = ideal_stands IdealNodes types (ideal_refers types) nodes e.of_type e.value r stands;
        has_length = length_stands types nodes r e.of_type e.value stands;
        walked = have.1;
        inside = among_walks types done es have.1;
        found = record_stands types nodes (number_or_first records) done r form e at stands have.0;
        have = subst (HaveRecords records) (sym refs) h;
      }

  -- a node that has a record keeps one, where another node gets one
  some_more : (old new : Records) (r n : ℕ) → ((s : ℕ) → number_at new s ≡ (if nat_eq r s then Some n else number_at old s)) → (s : ℕ) → IsSome (number_at old s) → IsSome (number_at new s)
  some_more old new r n now s h = by (nat_eq r s) refl
    where
      by : (b : Bool) → nat_eq r s ≡ b → IsSome (number_at new s)
      by true is = subst (λ o. IsSome o) (sym (now s ∙ ap (λ b. if b then Some n else number_at old s) is)) refl
      by false is = subst (λ o. IsSome o) (sym (now s ∙ ap (λ b. if b then Some n else number_at old s) is)) h

  have_more : (old new : Records) (r n : ℕ) → ((s : ℕ) → number_at new s ≡ (if nat_eq r s then Some n else number_at old s)) → (rs : List ℕ) → HaveRecords old rs → HaveRecords new rs
  have_more old new r n now [] h = tt
  have_more old new r n now (s ∷ rs) h = (some_more old new r n now s h.0, have_more old new r n now rs h.1)

  all_more : (old new : Records) (r n : ℕ) → ((s : ℕ) → number_at new s ≡ (if nat_eq r s then Some n else number_at old s)) → (rs : List ℕ) → AllHave types nodes old rs → AllHave types nodes new rs
  all_more old new r n now [] h = tt
  all_more old new r n now (s ∷ rs) h = (have_more old new r n now (refs_at nodes s) h.0, all_more old new r n now rs h.1)

  all_push : (new : Records) (rs : List ℕ) (r : ℕ) → AllHave types nodes new rs → HaveRecords new (refs_at nodes r) → AllHave types nodes new (rs ++ r ∷ [])
  all_push new [] r h last = (last, tt)
  all_push new (s ∷ rs) r h last = (h.0, all_push new rs r h.1 last)

  -- the entries with the one that is added, if it wasn't there
  pub record Extended (done : List Entry) (new : Records) (e : Entry) : Type 0 where
    pub all : List Entry
    pub numbered : AreNumbered types nodes all new
    pub met : (ys : List Entry) → distinct done (e ∷ ys) ≡ distinct all ys

  numbers_new : (done : List Entry) (old new : Records) (r n : ℕ) (e : Entry) → StandsAs types nodes r e → slice_get done n ≡ Some e
      → ((s m : ℕ) → number_at old s ≡ Some m → (x : Entry) × StandsAs types nodes s x × (slice_get done m ≡ Some x))
      → ((s : ℕ) → number_at new s ≡ (if nat_eq r s then Some n else number_at old s))
      → (s m : ℕ) → number_at new s ≡ Some m → (x : Entry) × StandsAs types nodes s x × (slice_get done m ≡ Some x)
  numbers_new done old new r n e stands at before now s m h = by (nat_eq r s) refl (sym (now s) ∙ h)
    where
      by : (b : Bool) → nat_eq r s ≡ b → (if b then Some n else number_at old s) ≡ Some m → (x : Entry) × StandsAs types nodes s x × (slice_get done m ≡ Some x)
      by true is g =
          let same : n ≡ m = cc in
          (e, subst (λ r. StandsAs types nodes r e) (eqb-true r s is) stands, subst (λ n. slice_get done n ≡ Some e) same at)
      by false is g = before s m g

  -- the record was there
  extended_old : (done : List Entry) (old new : Records) (r n : ℕ) (form : Form) (e : Entry) → AreNumbered types nodes done old → Whole done old r form e
      → slice_get (records_in new) n ≡ Some (record_for old form) → IsAmongOld old new → ((s : ℕ) → number_at new s ≡ (if nat_eq r s then Some n else number_at old s))
      → Extended done new e
  extended_old done old new r n form e numbered is at there now =
      let keys = there.0 ∙ numbered.keys in
      let found = entry_found done e n (few_of new done (record_of types done) keys) numbered.placed is.has_length is.ideal is.inside (ap (λ ks. slice_get ks n) (sym keys) ∙ at ∙ ap Some is.found) in
      record {
        all = done;
        numbered = record {
          keys = keys;
          placed = numbered.placed;
          once = numbered.once;
          have = λ keeps. (let kept = there.1 keeps in subst (λ rs. AllHave types nodes new rs) (sym kept.1) (all_more old new r n now (node_numbers old) (numbered.have kept.0)));
          stand = λ keeps. (let kept = there.1 keeps in subst (λ rs. StandAs types nodes rs done) (sym kept.1) (numbered.stand kept.0));
          numbers = numbers_new done old new r n e is.stands found numbered.numbers now;
        };
        met = λ ys. distinct_there done e ys (among_at e done n found);
      }

  -- a new record is of an entry that isn't there
  pub not_there : (done : List Entry) (old : Records) (found : List ℕ) (e : Entry) → records_in old ≡ map (record_of types done) done
      → found ≡ record_of types done e → IsNew found old → is_entry_of e done ≡ false
  not_there done old found e keys is new = by (is_entry_of e done) refl
    where
      by : (b : Bool) → is_entry_of e done ≡ b → b ≡ false
      by true h =
          absurd (new (number_among done e) (ap (λ ks. slice_get ks (number_among done e)) keys
          ∙ map_at (record_of types done) done (number_among done e) e (entry_numbered e done h) ∙ ap Some (sym is)))
      by false h = refl

  placed_more : (done : List Entry) (e : Entry) → ((x : Entry) → IsAmong done x → IsPlaced types done x) → HasLength e.of_type → IsIdeal types e.of_type e.value
      → AreAmong done (walks types (parts types e.of_type e.value)) → (x : Entry) → IsAmong (done ++ e ∷ []) x → IsPlaced types (done ++ e ∷ []) x
  placed_more done e placed long ideal walked x h = by (among_split done e x h)
    where
      own : IsPlaced types (done ++ e ∷ []) e
      own =
          let es = walks types (parts types e.of_type e.value) in
          let met = are_append (done ++ e ∷ []) es (e ∷ []) (are_more done (e ∷ []) es walked) (among_behind e done (e ∷ []) (among_here e []), tt) in
          record { ideal = ideal; has_length = long; walked = subst (λ xs. AreAmong (done ++ e ∷ []) xs) (sym (walk_parts types e.of_type e.value)) met }

      by : IsAmong done x ⊎ (e ≡ x) → IsPlaced types (done ++ e ∷ []) x
      by (inl g) = let place = placed x g in record { ideal = place.ideal; has_length = place.has_length; walked = are_more done (e ∷ []) (walk types x.of_type x.value) place.walked }
      by (inr s) = subst (λ x. IsPlaced types (done ++ e ∷ []) x) s own

  stand_more : (rs : List ℕ) (es : List Entry) (r : ℕ) (e : Entry) → StandAs types nodes rs es → StandsAs types nodes r e
      → StandAs types nodes (rs ++ r ∷ []) (es ++ e ∷ [])
  stand_more [] [] r e h last = (last, tt)
  stand_more [] (x ∷ es) r e h last = elim h [ ]
  stand_more (s ∷ rs) [] r e h last = elim h [ ]
  stand_more (s ∷ rs) (x ∷ es) r e h last = (h.0, stand_more rs es r e h.1 last)

  -- the record is new
  extended_new : (done : List Entry) (old new : Records) (r n : ℕ) (form : Form) (e : Entry) → AreNumbered types nodes done old → Whole done old r form e
      → slice_get (records_in new) n ≡ Some (record_for old form) → IsBehindOld r (record_for old form) old new
      → ((s : ℕ) → number_at new s ≡ (if nat_eq r s then Some n else number_at old s)) → Extended done new e
  extended_new done old new r n form e numbered is at behind now =
      let fresh = not_there done old (record_for old form) e numbered.keys is.found behind.0 in
      let all : List Entry = done ++ e ∷ [] in
      let inside = λ (x : Entry) (h : IsAmong done x). among_parts types done x (numbered.placed x h).walked in
      let own = record_more types done (e ∷ []) e is.inside in
      let keys : records_in new ≡ map (record_of types all) all =
      behind.1 ∙ ap (λ ks. ks ++ record_for old form ∷ []) (numbered.keys ∙ sym (records_more done (e ∷ []) done inside))
      ∙ ap (λ s. map (record_of types all) done ++ s ∷ []) (is.found ∙ sym own) ∙ sym (map_push (record_of types all) done e) in
      let placed = placed_more done e numbered.placed is.has_length is.ideal is.walked in
      let found = entry_found all e n (few_of new all (record_of types all) keys) placed is.has_length is.ideal (are_more done (e ∷ []) (parts types e.of_type e.value) is.inside)
      (ap (λ ks. slice_get ks n) (sym keys) ∙ at ∙ ap Some (is.found ∙ sym own)) in
      let before = λ (s m : ℕ) (h : number_at old s ≡ Some m). (let known = numbered.numbers s m h in moved all done s m known.0 known.1 (at_more done (e ∷ []) m known.0 known.2)) in
      record {
        all = all;
        numbered = record {
          keys = keys;
          placed = placed;
          once = once_more done e numbered.once fresh;
          have = λ keeps. (let kept = behind.2 keeps in subst (λ rs. AllHave types nodes new rs) (sym kept.1)
              (all_push new (node_numbers old) r (all_more old new r n now (node_numbers old) (numbered.have kept.0)) (have_more old new r n now (refs_at nodes r) is.have)));
          stand = λ keeps. (let kept = behind.2 keeps in subst (λ rs. StandAs types nodes rs all) (sym kept.1)
              (stand_more (node_numbers old) done r e (numbered.stand kept.0) is.stands));
          numbers = numbers_new all old new r n e is.stands found before now;
        };
        met = λ ys. distinct_new done e ys fresh;
      }
    where
      moved : (all done : List Entry) (s m : ℕ) (x : Entry) → StandsAs types nodes s x → slice_get all m ≡ Some x → (x : Entry) × StandsAs types nodes s x × (slice_get all m ≡ Some x)
      moved all done s m x h at = (x, h, at)

  pub extended : (done : List Entry) (old new : Records) (r : ℕ) (form : Form) (e : Entry) → AreNumbered types nodes done old → Whole done old r form e
      → IsAdded r form old new → Extended done new e
  extended done old new r form e numbered is added = by added.1.1
    where
      by : IsAmongOld old new ⊎ IsBehindOld r (record_for old form) old new → Extended done new e
      by (inl there) = extended_old done old new r added.0 form e numbered is added.1.0 there added.2
      by (inr behind) = extended_new done old new r added.0 form e numbered is added.1.0 behind added.2
