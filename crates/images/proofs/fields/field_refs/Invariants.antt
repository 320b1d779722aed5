use Rattle.std.proofs.Common.{◌≡◌, ◌*◌, ◌++◌, drop, length, option_map}
use Rattle.images.specs.Records.{numbers_of}
use Rattle.images.specs.StoredRecords.{refs_from}
use Rattle.images.proofs.fields.field_refs.Given as goal

-- those that were found so far, and what the rest gives
abbrev pub invariant-loop-ty : goal.invariant-loop-ty
invariant-loop-ty l = record {
  left : length l.rest ≡ 4 * length (drop l.ty-index l.fn.types);
  found : option_map (λ more. l.refs.items ++ more) (refs_from l.fn.loaded (numbers_of (length (drop l.ty-index l.fn.types)) l.rest) (drop l.ty-index l.fn.types))
      ≡ refs_from l.fn.loaded (numbers_of (length l.fn.types) l.fn.numbers) l.fn.types;
}
