-- Digests, projections, limits and readings by the types of a program alone are those of the program.
use Rattle.std.proofs.Common.{◌≡◌, ℕ, List, refl}
use Rattle.core_terms.specs.Types.{Ty}
use Rattle.core_terms.specs.Formats.{Hash}
use Rattle.core_terms.specs.Values.{Value}
use Rattle.core_terms.specs.Projection.{Fits, digest_at, projection, read_at}
use Rattle.core_terms.specs.ProgramTypes.{types_meaning}
use Rattle.core_terms.specs.Programs.{meaning}
use Rattle.core_terms.specs.declared.program.Program.{Program}

module _ (p : Program) where
  pub same_digest : (hash : Hash) (t : Ty) (bytes : List ℕ) → digest_at hash (types_meaning p.types) t bytes ≡ digest_at hash (meaning p) t bytes
  same_digest hash t bytes = refl

  pub same_projection : (hash : Hash) (t : Ty) (v : Value) → projection hash (types_meaning p.types) t v ≡ projection hash (meaning p) t v
  same_projection hash t v = refl

  pub same_limits : (t : Ty) (v : Value) → Fits (types_meaning p.types) t v ≡ Fits (meaning p) t v
  same_limits t v = refl

  pub same_reading : (t : Ty) (bytes : List ℕ) → read_at (types_meaning p.types) t bytes ≡ read_at (meaning p) t bytes
  same_reading t bytes = refl
