-- The walk over nodes, as the code goes on: the list of nodes that wait has the one that is walked now at its end.
use Rattle.std.proofs.Common.{◌≡◌, ◌⊎◌, inl, inr, ℕ, zero, suc, true, false, Bool, List, [], ◌∷◌, ◌++◌, length, ◌≤◌, Some, None, Err, IsSome, slice_get, nat_eq, if◌then◌else◌, refl, sym, ap, ◌∙◌, subst, length-append, arith, eq-eqb}
use Rattle.std.proofs.lemmas.List.{append-nil}
use Rattle.core_terms.specs.Types.{Table}
use Rattle.images.specs.Images.{Entry}
use Rattle.images.specs.SavedImages.{distinct, record_bytes, records_bytes}
use Rattle.images.specs.declared.fault.SaveFault.{SaveFault}
use Rattle.images.specs.declared.fault.SaveFault.TheVariants.{TooLong, NoMemory}
use Rattle.value_store.specs.Nodes.{Form, Node, form_at, refs_in}
use Rattle.images.specs.SavedRecords.{AreSaved, HaveRecords, IsAdded, IsTooMuch, number_at, record_for}
use Rattle.images.specs.declared.save.Frame.{Frame}
use Rattle.images.specs.declared.save.records.Records.{Records}
use Rattle.images.proofs.DistinctEntries.{distinct_grows, distinct_new}
use Rattle.images.proofs.EntryParts.{parts, walks}
use Rattle.images.proofs.NodeEntries.{StandAs, parts_stand, refs_at}
use Rattle.images.proofs.NumberedParts.{drop_all}
use Rattle.images.proofs.RecordBytes.{length-records, records_append}
use Rattle.images.proofs.Saving.{Saving, bytes_numbered}
use Rattle.images.proofs.SavingAdd.{extended, not_there, whole}
use Rattle.images.proofs.WaitingFrames.{HasRecord}

module _ (types : Table) (nodes : List Node) where
  stand_none : (rs : List ℕ) (es : List Entry) (i : ℕ) → StandAs types nodes rs es → slice_get rs i ≡ None → slice_get es i ≡ None
  stand_none [] [] zero h at = refl
  stand_none [] [] (suc i) h at = refl
  stand_none [] (e ∷ es) i h at = elim h [ ]
  stand_none (r ∷ rs) [] i h at = elim h [ ]
  stand_none (r ∷ rs) (e ∷ es) zero h at = absurd (cc)
  stand_none (r ∷ rs) (e ∷ es) (suc i) h at = stand_none rs es i h.1 at

  module _ (few_types : length types ≤ 65536) (wanted : List Entry) (records : Records) (form : Form) (f : Frame) (fs : List Frame) (form_is : form_at nodes f.node.0 ≡ Some form)
      (over : slice_get (refs_at nodes f.node.0) f.next ≡ None) (have : HaveRecords records (refs_in form)) (saving : Saving types nodes wanted records (f ∷ fs)) where
    -- where all parts are passed, the whole is left
    whole_left : saving.left ≡ saving.are_left.0 ∷ saving.are_left.1
    whole_left =
        let e : Entry = saving.are_left.0 in
        let es = parts types e.of_type e.value in
        let none = stand_none (refs_at nodes f.node.0) es f.next (parts_stand types nodes f.node.0 e.of_type e.value saving.are_left.2) over in
        saving.are_left.3 ∙ ap (λ es. walks types es ++ (e ∷ saving.are_left.1)) (drop_all es f.next none)

    -- its record is added
    pub saving_add : (new : Records) → IsAdded f.node.0 form records new → Saving types nodes wanted new fs
    saving_add new added =
        let e : Entry = saving.are_left.0 in
        let is = whole types few_types nodes saving.done records f.node.0 form e saving.numbered saving.are_left.2 form_is have in
        let more = extended types few_types nodes saving.done records new f.node.0 form e saving.numbered is added in
        record {
          done = more.all;
          numbered = more.numbered;
          left = saving.are_left.1;
          are_left = saving.are_left.4;
          met = sym (more.met saving.are_left.1) ∙ ap (distinct saving.done) (sym whole_left) ∙ saving.met;
        }

    -- or it is too long, and then so is the image
    pub saving_refused : (fault : SaveFault) → IsTooMuch (record_for records form) records fault → AreSaved records.most types wanted (Err fault)
    saving_refused NoMemory h = h
    saving_refused TooLong h =
        let e : Entry = saving.are_left.0 in
        let done = saving.done in
        let is = whole types few_types nodes done records f.node.0 form e saving.numbered saving.are_left.2 form_is have in
        let fresh = not_there types few_types nodes done records (record_for records form) e saving.numbered.keys is.found h.0 in
        let grown = distinct_grows (done ++ e ∷ []) saving.are_left.1 in
        let same : (done ++ e ∷ []) ++ grown.0 ≡ wanted =
        sym grown.1 ∙ sym (distinct_new done e saving.are_left.1 fresh) ∙ ap (distinct done) (sym whole_left) ∙ saving.met in
        let all = ap (λ es. length (records_bytes types es es)) same in
        let parted =
        ap length (records_append types ((done ++ e ∷ []) ++ grown.0) (done ++ e ∷ []) grown.0)
        ∙ length-append (records_bytes types ((done ++ e ∷ []) ++ grown.0) (done ++ e ∷ [])) _ in
        let front = length-records types ((done ++ e ∷ []) ++ grown.0) done (done ++ e ∷ []) in
        let last = ap length (records_append types done done (e ∷ [])) ∙ length-append (records_bytes types done done) (records_bytes types done (e ∷ [])) in
        let own = ap length (append-nil (record_bytes types done e.of_type e.value)) in
        let bytes = ap length (bytes_numbered types nodes done records saving.numbered) in
        let found = ap length is.found in
        omega (arith, all, parted, front, last, own, bytes, found, h.1)

-- a node with a number has its record, as those before
pub has_more : (form : Form) (f : Frame) (old new : Records) → IsAdded f.node.0 form old new → (r : ℕ) → HasRecord old r ⊎ (r ≡ f.node.0) → HasRecord new r
has_more form f old new added r (inr e) =
    subst (λ o. IsSome o) (sym (added.2 r ∙ ap (λ b. if b then Some added.0 else number_at old r) (eq-eqb f.node.0 r (sym e)))) refl
has_more form f old new added r (inl h) = by (nat_eq f.node.0 r) refl
  where
    by : (b : Bool) → nat_eq f.node.0 r ≡ b → IsSome (number_at new r)
    by true is = subst (λ o. IsSome o) (sym (added.2 r ∙ ap (λ b. if b then Some added.0 else number_at old r) is)) refl
    by false is = subst (λ o. IsSome o) (sym (added.2 r ∙ ap (λ b. if b then Some added.0 else number_at old r) is)) h
