use Rattle.std.specs.Prelude.{Option, Ok}
use Rattle.std.proofs.Common.{arith, refl, ◌∙◌, subst}
use Rattle.lam_outside.specs.Disks.{Moments}
use Rattle.lam_outside.specs.declared.traits.Failed.{Failed}
use Rattle.version_journal.specs.Through.{WroteThrough}
use Rattle.version_journal.proofs.Recasting.{first_gate, made, not_empty, size_none}
use Rattle.version_journal.proofs.making.make_of.Goals as goal

pub returns-in-Ok-clause-makes : goal.returns-in-Ok-clause-makes
returns-in-Ok-clause-makes g c =
    not_empty c.args.digest.now.0 c.args.image.now (g.D.Disk.moments c.args.disk.now) (g.D.Disk.moments c.len.new.self) c.in-Ok.field-0 c.len.ensures.moments c.in-Ok.field-0-test.1
    c.in-Ok.ensures.size

pub invariant_of-result : goal.invariant_of-result
invariant_of-result g c = record { few = omega arith; fits = omega (arith, c.len-2.ensures, c.in_ok-bytes.ensures.fits.1, c.in_ok-bytes.bytes.ok.0) }

pub returns-clause-makes : goal.returns-clause-makes
returns-clause-makes g c =
    let old = g.D.Disk.moments c.args.disk.now in
    let new = g.D.Disk.moments c.write_through.new.disk in
    let wrote = subst (λ (m : Option Moments). WroteThrough {T = Unit {0}} {E = Failed} m 0 c.deref.result.now new (Ok c.in_ok-write_through.field-0)) c.len.ensures.moments c.in_ok-write_through.ensures.wrote in
    made c.args.digest.now.0 c.args.image.now old new c.deref.result.now c.in_ok-write_through.field-0 (size_none old _ c.in-Ok-eq0.field-0-test c.in-Ok-eq0.ensures.size)
    (c.deref.ensures.value ∙ c.in_ok-bytes.ensures.bytes) wrote

pub returns-clause-at : goal.returns-clause-at
returns-clause-at g c =
    let place = first_gate c.args.digest.now.0 c.args.image.now c.in_ok-bytes.bytes.items c.in_ok-bytes.ensures.bytes in
    record { gate = omega (arith, c.len-2.ensures, place, c.in_ok-bytes.bytes.ok.0); records = refl }
