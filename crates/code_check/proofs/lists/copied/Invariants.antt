use Rattle.std.proofs.Common.{◌≡◌, take}
use Rattle.core_terms.specs.Programs.{types_in}
use Rattle.core_terms.specs.declared.format.Format.TheVariants.{Second}
use Rattle.code_check.proofs.lists.copied.Given as goal

-- the types so far are copied
abbrev pub invariant-loop-number : goal.invariant-loop-number
invariant-loop-number l = record {
  types : types_in l.lists.types ≡ take l.number (types_in l.types);
  format : l.lists.types.format ≡ Second;
}
