use Rattle.std.proofs.Common.{◌≡◌, true, sym, ap, ◌∙◌, subst}
use Rattle.core_terms.specs.ProgramSizes.{IsWithinLimits}
use Rattle.core_terms.specs.Typing.{is_shaped, is_typed}
use Rattle.code_check.specs.ObjectParts.{parts_program}
use Rattle.code_check.specs.declared.parts.Parts.{Parts}
use Rattle.code_check.proofs.ReadObjects.{is_sound, is_within, is_accepted}
use Rattle.code_check.proofs.acceptance.accept.Goals as goal

pub compiled-requires : goal.compiled-requires
compiled-requires c =
    let bytes = c.args.bytes.now in
    let parts = c.in_ok-parts.parts.value in
    let listed = c.in_ok-parts.ensures.parts in
    let passed = c.in_ok-judge.ensures listed.object (ap parts_program c.deref.ensures ∙ listed.program) in
    let sound = is_sound bytes parts listed passed in
    let same = sym c.into_inner.ensures in
    record {
      typed = subst (λ (parts : Parts). is_typed (parts_program parts) ≡ true) same sound.passes;
      shaped = subst (λ (parts : Parts). is_shaped (parts_program parts) ≡ true) same sound.shaped;
      limits = subst (λ (parts : Parts). IsWithinLimits (parts_program parts)) same (is_within bytes parts listed passed c.requires.fits);
    }

pub returns-clause-accepts : goal.returns-clause-accepts
returns-clause-accepts c =
    let listed = c.in_ok-parts.ensures.parts in
    let passed = c.in_ok-judge.ensures listed.object (ap parts_program c.deref.ensures ∙ listed.program) in
    is_accepted c.args.bytes.now c.in_ok-parts.parts.value listed passed c.in_ok-compiled.field-0
    (c.in_ok-compiled.ensures.meaning ∙ ap parts_program c.into_inner.ensures)
    (c.in_ok-compiled.ensures.named ∙ ap (λ (parts : Parts). parts.named.items) c.into_inner.ensures)
