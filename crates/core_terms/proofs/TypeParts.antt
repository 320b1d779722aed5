-- What holds of the parts of a program's types holds of the types that are made of them.
use Rattle.std.proofs.Common.{◌≡◌, Vec, sym, subst}
use Rattle.std.specs.declared.alloc.Global.{Global}
use Rattle.core_terms.specs.declared.program_types.Types.{Types}
use Rattle.core_terms.specs.declared.term.NamedType.{NamedType}
use Rattle.core_terms.specs.declared.types.TyId.{TyId}
use Rattle.core_terms.specs.declared.types.TyTable.{TyTable}

pub carried : (Q : TyTable → Vec NamedType Global → TyId → Type 0) (t : Types) (table : TyTable) (named : Vec NamedType Global) (state : TyId)
    → t.table ≡ table → t.named ≡ named → t.state ≡ state → Q table named state → Q t.table t.named t.state
carried Q t table named state a b c h =
    subst (λ table. Q table t.named t.state) (sym a) (subst (λ named. Q table named t.state) (sym b) (subst (λ state. Q table named state) (sym c) h))
