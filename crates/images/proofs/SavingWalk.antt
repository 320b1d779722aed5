-- The walk over nodes: its beginning, a part that has its record, a part that has none, and the end.
use Rattle.std.proofs.Common.{◌≡◌, ℕ, zero, suc, ◌+◌, ◌≤◌, List, [], ◌∷◌, ◌++◌, length, drop, Option, Some, None, Ok, slice_get, true≢false, refl, sym, ap, ap₂, ◌∙◌, subst, append_assoc}
use Rattle.core_terms.specs.Types.{Table}
use Rattle.images.specs.Images.{Entry, entry}
use Rattle.images.specs.SavedImages.{distinct, records_bytes, walk}
use Rattle.value_store.specs.Nodes.{Node}
use Rattle.value_store.specs.declared.node.Ref.{Ref}
use Rattle.images.specs.Frames.{frame_of}
use Rattle.images.specs.SavedRecords.{AreSaved, KeepsNodes, bytes_in, node_numbers, number_at, records_in}
use Rattle.images.specs.KeptNodes.{AllHave, AreKeptFor}
use Rattle.images.specs.declared.save.Frame.{Frame}
use Rattle.images.specs.declared.save.records.Records.{Records}
use Rattle.images.proofs.AmongEntries.{among_at}
use Rattle.images.proofs.DistinctEntries.{distinct_known}
use Rattle.images.proofs.EntryParts.{parts, walks, walk_parts}
use Rattle.images.proofs.NodeEntries.{StandsAs, StandAs, parts_stand, refs_at}
use Rattle.images.proofs.NumberedParts.{drop_next}
use Rattle.images.proofs.OneEntry.{one_entry}
use Rattle.images.proofs.RecordReading.{record_of}
use Rattle.images.proofs.SavingLists.{length-map}
use Rattle.images.proofs.Saving.{AreLeft, AreNumbered, IsPlaced, Saving, bytes_numbered}
use Rattle.images.proofs.Weights.{drop_zero}

nothing_at : (i : ℕ) (x : Entry) → slice_get [] i ≡ Some x → ⊥
nothing_at i x h = cc

none_some : (o : Option ℕ) (n : ℕ) → o ≡ None → o ≡ Some n → ⊥
none_some o n h j = cc

module _ (types : Table) (nodes : List Node) where
  -- the entry of the part with a number
  pub stand_at : (rs : List ℕ) (es : List Entry) (i p : ℕ) → StandAs types nodes rs es → slice_get rs i ≡ Some p → (q : Entry) × (slice_get es i ≡ Some q) × StandsAs types nodes p q
  stand_at [] es i p h at = absurd (cc)
  stand_at (r ∷ rs) [] i p h at = elim h [ ]
  stand_at (r ∷ rs) (e ∷ es) zero p h at = let same : r ≡ p = cc in (e, refl, subst (λ p. StandsAs types nodes p e) same h.0)
  stand_at (r ∷ rs) (e ∷ es) (suc i) p h at = stand_at rs es i p h.1 at

  pub same_entries : (r : ℕ) (e q : Entry) → StandsAs types nodes r e → StandsAs types nodes r q → e ≡ q
  same_entries r e q h j = let one = one_entry types nodes e.of_type q.of_type e.value q.value r h j in ap₂ entry one.0 one.1

  -- the first part that is left, and what is left behind it
  record PartLeft (frame : Frame) (fs : List Frame) (p : ℕ) (left : List Entry) : Type 0 where
    part : Entry
    part_stands : StandsAs types nodes p part
    rest : List Entry
    left_is : left ≡ walk types part.of_type part.value ++ rest
    rest_left : AreLeft types nodes (frame_of frame.node (frame.next + 1) ∷ fs) rest

  part_left : (f : Frame) (fs : List Frame) (p : ℕ) (left : List Entry) → slice_get (refs_at nodes f.node.0) f.next ≡ Some p
      → AreLeft types nodes (f ∷ fs) left → PartLeft f fs p left
  part_left f fs p left at h =
      let e : Entry = h.0 in
      let es = parts types e.of_type e.value in
      let stand = stand_at (refs_at nodes f.node.0) es f.next p (parts_stand types nodes f.node.0 e.of_type e.value h.2) at in
      let q : Entry = stand.0 in
      let split : drop f.next es ≡ q ∷ drop (f.next + 1) es = drop_next es f.next (f.next + 1) q refl stand.1 in
      let rest : List Entry = walks types (drop (f.next + 1) es) ++ (e ∷ h.1) in
      record {
        part = q;
        part_stands = stand.2;
        rest = rest;
        left_is = h.3 ∙ ap (λ es. walks types es ++ (e ∷ h.1)) split ∙ append_assoc (walk types q.of_type q.value) (walks types (drop (f.next + 1) es)) (e ∷ h.1);
        rest_left = (e, h.1, h.2, refl, h.4);
      }

  -- what a node with a number stands for is there, with all that a walk over it meets
  pub known_walk : (done : List Entry) (records : Records) (p n : ℕ) (q : Entry) → AreNumbered types nodes done records → number_at records p ≡ Some n
      → StandsAs types nodes p q → (slice_get done n ≡ Some q) × IsPlaced types done q
  known_walk done records p n q numbered at stands =
      let known = numbered.numbers p n at in
      let same : known.0 ≡ q = same_entries p known.0 q known.1 stands in
      let found : slice_get done n ≡ Some q = known.2 ∙ ap Some same in
      (found, numbered.placed q (among_at q done n found))

  module _ (wanted : List Entry) (records : Records) where
    -- a part that has its record is passed
    pub saving_next : (f : Frame) (fs : List Frame) (p n : ℕ) → slice_get (refs_at nodes f.node.0) f.next ≡ Some p → number_at records p ≡ Some n
        → Saving types nodes wanted records (f ∷ fs) → Saving types nodes wanted records (frame_of f.node (f.next + 1) ∷ fs)
    saving_next f fs p n at number h =
        let left = part_left f fs p h.left at h.are_left in
        let known = known_walk h.done records p n left.part h.numbered number left.part_stands in
        record {
          done = h.done;
          numbered = h.numbered;
          left = left.rest;
          are_left = left.rest_left;
          met = sym (distinct_known h.done (walk types left.part.of_type left.part.value) left.rest known.1.walked) ∙ ap (distinct h.done) (sym left.left_is) ∙ h.met;
        }

    -- a part that has none is walked first
    pub saving_part : (f : Frame) (fs : List Frame) (p : Ref) → slice_get (refs_at nodes f.node.0) f.next ≡ Some p.0
        → Saving types nodes wanted records (f ∷ fs) → Saving types nodes wanted records (frame_of p 0 ∷ frame_of f.node (f.next + 1) ∷ fs)
    saving_part f fs p at h =
        let left = part_left f fs p.0 h.left at h.are_left in
        let q : Entry = left.part in
        let es = parts types q.of_type q.value in
        let whole : walk types q.of_type q.value ++ left.rest ≡ walks types (drop 0 es) ++ (q ∷ left.rest) =
        ap (λ xs. xs ++ left.rest) (walk_parts types q.of_type q.value) ∙ append_assoc (walks types es) (q ∷ []) left.rest
        ∙ ap (λ es. walks types es ++ (q ∷ left.rest)) (sym (drop_zero es)) in
        record {
          done = h.done;
          numbered = h.numbered;
          left = h.left;
          are_left = (q, left.rest, left.part_stands, left.left_is ∙ whole, left.rest_left);
          met = h.met;
        }

  -- the beginning: nothing is saved
  pub saving_first : (records : Records) (root : Ref) (e : Entry) → StandsAs types nodes root.0 e → records_in records ≡ []
      → node_numbers records ≡ [] → ((r : ℕ) → number_at records r ≡ None) → Saving types nodes (distinct [] (walk types e.of_type e.value)) records (frame_of root 0 ∷ [])
  saving_first records root e stands keys none_stand none =
      let es = parts types e.of_type e.value in
      record {
        done = [];
        numbered = record {
          keys = keys;
          placed = λ x h. absurd (true≢false (sym h));
          once = λ i x h. absurd (nothing_at i x h);
          have = λ keeps. subst (λ rs. AllHave types nodes records rs) (sym none_stand) tt;
          stand = λ keeps. subst (λ rs. StandAs types nodes rs []) (sym none_stand) tt;
          numbers = λ r n h. absurd (none_some (number_at records r) n (none r) h);
        };
        left = walk types e.of_type e.value;
        are_left = (e, [], stands, walk_parts types e.of_type e.value ∙ ap (λ es. walks types es ++ (e ∷ [])) (sym (drop_zero es)), refl);
        met = refl;
      }

  -- the end: all that is wanted is saved
  pub saving_last : (most : ℕ) (wanted : List Entry) (records : Records) → length (bytes_in records) ≤ most → Saving types nodes wanted records [] → AreSaved most types wanted (Ok records)
  saving_last most wanted records short h =
      let same : h.done ≡ wanted = ap (distinct h.done) (sym h.are_left) ∙ h.met in
      (ap length h.numbered.keys ∙ length-map (record_of types h.done) h.done ∙ ap length same, bytes_numbered types nodes h.done records h.numbered ∙ ap (λ es. records_bytes types es es) same, short)

  pub saving_kept : (wanted : List Entry) (records : Records) → KeepsNodes records → Saving types nodes wanted records [] → AreKeptFor types nodes wanted records
  saving_kept wanted records keeps h =
      let same : h.done ≡ wanted = ap (distinct h.done) (sym h.are_left) ∙ h.met in
      let P : List Entry → Type 0 = λ es. AreKeptFor types nodes es records in
      subst P same (record { stand = h.numbered.stand keeps; have = h.numbered.have keeps; once = h.numbered.once; numbers = h.numbered.numbers })
