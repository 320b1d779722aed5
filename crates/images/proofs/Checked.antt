-- What a record stands for, judged: by its type, its size and its depth.
use Rattle.std.proofs.Common.{◌≡◌, ℕ, ◌<◌, ◌≤◌, List, true, false, Some, slice_get, Ok, refl, sym, ◌∙◌, subst, le-ltb, lt-ltb, [], arith}
use Rattle.core_terms.proofs.CodePrograms.{every_format}
use Rattle.core_terms.specs.Types.{Ty}
use Rattle.core_terms.specs.Values.{Value, size, depth}
use Rattle.core_terms.specs.ProgramTypes.{types_by_number, types_meaning}
use Rattle.core_terms.specs.declared.program_types.Types.{Types}
use Rattle.images.specs.Images.{Entry, entry, Loading, FaultyImage, BadRecord, TooBig, TooDeep, within_limits}
use Rattle.images.specs.Parts.{is_part}
use Rattle.value_store.specs.Markings.{Marking, kind_of, seen_as}
use Rattle.value_store.specs.Nodes.{Node}
use Rattle.value_store.specs.Standing.{StandsFor}
use Rattle.images.specs.StoredRecords.{IsLoaded}
use Rattle.images.specs.declared.stored.StoredRecord.{StoredRecord}

-- the limit of the program's format, which is no less than 65,536
abbrev pub limit_in : Types → ℕ
limit_in p = (types_meaning p).format.limit

pub small_fits : (p : Types) (n : ℕ) → n ≤ 65536 → n ≤ limit_in p
small_fits p n h = let least = (every_format p []).limit_holds in omega (arith, least, h)

module _ (p : Types) (file_size i : ℕ) (t : Ty) (v : Value) (loading : (Entry → Loading) → Loading)
    (is : (go : Entry → Loading) → loading go ≡ within_limits (types_meaning p) file_size i (entry t v) (go (entry t v))) where
  pub no_part : is_part (types_meaning p).types t (types_meaning p).state ≡ false → (go : Entry → Loading) → loading go ≡ FaultyImage (BadRecord i)
  no_part none go = is go ∙ rw none refl

  module _ (part : is_part (types_meaning p).types t (types_meaning p).state ≡ true) where
    pub too_big : (limit_in p) < size (types_meaning p).types t v → (go : Entry → Loading) → loading go ≡ FaultyImage (TooBig i)
    too_big big go = is go ∙ rw (part, lt-ltb (limit_in p) (size (types_meaning p).types t v) big) refl

    module _ (small : size (types_meaning p).types t v ≤ (limit_in p)) where
      pub too_deep : 512 < depth (types_meaning p).types t v → (go : Entry → Loading) → loading go ≡ FaultyImage (TooDeep i)
      too_deep deep go = is go ∙ rw (part, le-ltb (limit_in p) (size (types_meaning p).types t v) small, lt-ltb 512 (depth (types_meaning p).types t v) deep) refl

      -- a node that stands for it is what is loaded
      pub loaded : depth (types_meaning p).types t v ≤ 512 → (marking : Marking) (nodes : List Node) (stored : StoredRecord) (seen : Value)
          → slice_get (types_by_number p) stored.ty.0 ≡ Some t → seen_as marking (types_meaning p) t v ≡ seen
          → StandsFor (kind_of marking (types_meaning p)) (types_meaning p).types nodes stored.value.0 t seen
          → IsLoaded marking (types_meaning p) (types_by_number p) nodes loading (Ok stored)
      loaded shallow marking nodes stored seen of_type same stands = (
        entry t v,
        record {
          of_type = of_type;
          stands = subst (λ w. StandsFor (kind_of marking (types_meaning p)) (types_meaning p).types nodes stored.value.0 t w) (sym same) stands;
        },
        λ go. is go ∙ rw (part, le-ltb (limit_in p) (size (types_meaning p).types t v) small, le-ltb 512 (depth (types_meaning p).types t v) shallow) refl,
      )
