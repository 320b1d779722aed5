-- Records that are loaded, as a list beside that of the entries that they stand for.
use Rattle.std.proofs.Common.{◌≡◌, ℕ, zero, suc, List, [], ◌∷◌, ◌++◌, length, Some, None, slice_get, refl, ap, subst}
use Rattle.std.proofs.lemmas.Option.{same_Some}
use Rattle.core_terms.specs.Types.{Ty}
use Rattle.core_terms.specs.Terms.{Program}
use Rattle.images.specs.Images.{Entry}
use Rattle.value_store.specs.Markings.{Marking, kind_of, seen_as}
use Rattle.value_store.specs.Nodes.{Node}
use Rattle.value_store.specs.Standing.{Keeps}
use Rattle.images.specs.StoredRecords.{AreStored, IsStored}
use Rattle.images.specs.declared.stored.StoredRecord.{StoredRecord}

module _ (marking : Marking) (P : Program) (types : List Ty) where
  module _ (nodes : List Node) where
    pub same_length : (loaded : List StoredRecord) (entries : List Entry) → AreStored marking P types nodes loaded entries → length loaded ≡ length entries
    same_length [] [] h = refl
    same_length (r ∷ rs) (e ∷ es) h = ap suc (same_length rs es h.1)
    same_length rs es h = elim h [ ]

    -- a record that is there, and its entry
    pub stored_there : (loaded : List StoredRecord) (entries : List Entry) → AreStored marking P types nodes loaded entries
        → (n : ℕ) (r : StoredRecord) → slice_get loaded n ≡ Some r → (e : Entry) × (slice_get entries n ≡ Some e) × IsStored marking P types nodes r e
    stored_there [] [] h n r there = absurd (cc)
    stored_there (r ∷ rs) (e ∷ es) h zero s there = (e, refl, subst (λ r. IsStored marking P types nodes r e) (same_Some r s there) h.0)
    stored_there (r ∷ rs) (e ∷ es) h (suc n) s there = stored_there rs es h.1 n s there
    stored_there rs es h n r there = elim h [ ]

    -- and one that isn't
    pub none_there : (loaded : List StoredRecord) (entries : List Entry) → AreStored marking P types nodes loaded entries
        → (n : ℕ) → slice_get loaded n ≡ None → slice_get entries n ≡ None
    none_there [] [] h n there = refl
    none_there (r ∷ rs) (e ∷ es) h zero there = absurd (cc)
    none_there (r ∷ rs) (e ∷ es) h (suc n) there = none_there rs es h.1 n there
    none_there rs es h n there = elim h [ ]

    -- one more
    pub stored_more : (loaded : List StoredRecord) (entries : List Entry) → AreStored marking P types nodes loaded entries
        → (r : StoredRecord) (e : Entry) → IsStored marking P types nodes r e → AreStored marking P types nodes (loaded ++ r ∷ []) (entries ++ e ∷ [])
    stored_more [] [] h r e is = (is, tt)
    stored_more (r ∷ rs) (e ∷ es) h s f is = (h.0, stored_more rs es h.1 s f is)
    stored_more rs es h r e is = elim h [ ]

  -- nodes behind the others change nothing
  pub stored_kept : (old new : List Node) → Keeps old new → (loaded : List StoredRecord) (entries : List Entry)
      → AreStored marking P types old loaded entries → AreStored marking P types new loaded entries
  stored_kept old new keeps [] [] h = tt
  stored_kept old new keeps (r ∷ rs) (e ∷ es) h =
      (record { of_type = h.0.of_type; stands = keeps (kind_of marking P) P.types r.value.0 e.of_type (seen_as marking P e.of_type e.value) h.0.stands }, stored_kept old new keeps rs es h.1)
  stored_kept old new keeps rs es h = elim h [ ]
