-- Lines of audits, of objects, of mirrors, of journals, of states that are moved and of rejections. Each equation holds by computing both sides.
use Rattle.std.specs.Prelude.{◌≡◌, [], ◌∷◌, Some, None, codes, map, refl}
use Rattle.std.specs.Fmt.{digits}
use Rattle.hex.specs.Hex.{encode_with}
use Rattle.ideal_meaning.specs.Checked.{Missing, Broken}
use Rattle.ideal_meaning.specs.Wire.{AtEnd, IsCut, TooLong, BadMessage}
use Rattle.printed_lines.specs.Lines.{agrees_line, collision_line, pieces_line, refusal_line, rejected_line}
use Rattle.printed_lines.specs.OutcomeLines.{out_line}
use Rattle.printed_lines.specs.declared.refusal.Argument.TheVariants as argument
use Rattle.printed_lines.specs.declared.refusal.ImageKind.TheVariants.{BadRecord as BadImageRecord}
use Rattle.printed_lines.specs.declared.refusal.InputFault.TheVariants.{Journal, Migration, Mirror, ObjectFormat, TooLong as LongFile}
use Rattle.printed_lines.specs.declared.refusal.JournalKind.TheVariants as journal
use Rattle.printed_lines.specs.declared.refusal.JournalKind.TheVariants.{BadRecord, NotEmpty}
use Rattle.printed_lines.specs.declared.refusal.MigrationKind.TheVariants.{Format, Types}
use Rattle.printed_lines.specs.declared.refusal.MirrorKind.TheVariants.{Cut, BadField, Leftover}
use Rattle.printed_lines.specs.declared.refusal.ObjectKind.TheVariants as object
use Rattle.printed_lines.specs.declared.refusal.Refusal.TheVariants.{Input, Object, Proof}
use Rattle.printed_lines.specs.declared.refusal.Rejection.TheVariants as rejection
use Rattle.wire_form.specs.declared.got.Wire.TheVariants as wire

-- a piece that differs, and one without bytes
pub both_pieces_are_told : collision_line 0 (0 ∷ 0 ∷ 0 ∷ 0 ∷ 0 ∷ 0 ∷ 2 ∷ 1 ∷ []) (0 ∷ 0 ∷ 0 ∷ 0 ∷ 0 ∷ 0 ∷ 1 ∷ 2 ∷ []) None ≡ codes "collision 0 0000000000000201 0000000000000102\n"
unfolding encode_with digits
both_pieces_are_told = refl

pub empty_piece_is_a_dash : collision_line 12 (0xAF ∷ []) [] None ≡ codes "collision 12 af -\n"
unfolding encode_with digits
empty_piece_is_a_dash = refl

-- the fingerprint of a type, where digests tell it
pub print_is_told_last : collision_line 1 [] (0xAF ∷ []) (Some (0x0B ∷ 0x1C ∷ [])) ≡ codes "collision 1 - af 0b1c\n"
unfolding encode_with digits
print_is_told_last = refl

-- agreement is told before the line of the outcome
pub agreement_is_told : agrees_line out_line ≡ codes "agrees out of fuel\n"
agreement_is_told = refl

-- a piece that isn't there is told by its digest, and an answer that isn't read as a reply that isn't
pub missing_is_told : rejected_line (Missing 12 (0xAF ∷ [])) ≡ codes "rejected missing 12 af\n"
unfolding encode_with digits
missing_is_told = refl

pub end_is_told : rejected_line (Broken 2 [] AtEnd) ≡ codes "reply ended\n"
end_is_told = refl

pub cut_is_told : rejected_line (Broken 2 [] IsCut) ≡ codes "reply cut\n"
cut_is_told = refl

pub length_is_told : rejected_line (Broken 2 [] (TooLong 16777217)) ≡ codes "message too long 16777217\n"
unfolding digits
length_is_told = refl

pub bad_message_is_told : rejected_line (Broken 2 [] (BadMessage 134 1)) ≡ codes "bad message 134 1\n"
unfolding digits
bad_message_is_told = refl

-- the number of pieces of a mirror, and why bytes are none
pub pieces_are_told : pieces_line 2 ≡ codes "pieces 2\n"
unfolding digits
pieces_are_told = refl

pub mirror_faults_are_told : map refusal_line (Input (Mirror (Cut 5)) ∷ Input (Mirror (BadField 8)) ∷ Input (Mirror (Leftover 2)) ∷ Input (LongFile argument.Mirror) ∷ [])
    ≡ codes "input refused: mirror cut 5\n" ∷ codes "input refused: mirror field 8\n" ∷ codes "input refused: mirror leftover 2\n" ∷ codes "input refused: too long MIRROR\n" ∷ []
unfolding digits
mirror_faults_are_told = refl

-- why bytes are no object that is accepted, and that no object is written
pub object_faults_are_told : map refusal_line (Object (object.Cut 51) ∷ Object (object.BadField 8) ∷ Object (object.Leftover 2) ∷ Object (object.Shape 3) ∷ Object (object.Kind 0 1) ∷ Input ObjectFormat ∷ [])
    ≡ codes "program refused: object cut 51\n" ∷ codes "program refused: object field 8\n" ∷ codes "program refused: object leftover 2\n" ∷ codes "program refused: object shape 3\n"
    ∷ codes "program refused: object kind 0 1\n" ∷ codes "input refused: object format\n" ∷ []
unfolding digits
object_faults_are_told = refl

-- why a state is not moved
pub migration_faults_are_told : map refusal_line (Input (Migration Format) ∷ Input (Migration Types) ∷ Input (LongFile argument.Other) ∷ [])
    ≡ codes "input refused: migrate format\n" ∷ codes "input refused: migrate types\n" ∷ codes "input refused: too long Q\n" ∷ []
migration_faults_are_told = refl

-- why a journal is refused
pub journal_faults_are_told : map refusal_line (Input (Journal NotEmpty) ∷ Input (Journal journal.Magic) ∷ Input (Journal (journal.Cut 100)) ∷ Input (Journal journal.OtherProgram)
    ∷ Input (Journal (BadRecord 3)) ∷ Input (Journal (journal.Image (BadImageRecord 1))) ∷ [])
    ≡ codes "input refused: journal not empty\n" ∷ codes "input refused: journal magic\n" ∷ codes "input refused: journal cut 100\n" ∷ codes "input refused: journal program\n"
    ∷ codes "input refused: journal record 3\n" ∷ codes "input refused: journal image record 1\n" ∷ []
unfolding digits
journal_faults_are_told = refl

-- the code's rejections have these lines too
pub rejections_are_told : map refusal_line (Proof (rejection.Missing 12 (record { 0 = 0xAF ∷ [] })) ∷ Proof (rejection.Broken wire.End) ∷ Proof (rejection.Broken (wire.TooLong 16777217)) ∷ [])
    ≡ codes "rejected missing 12 af\n" ∷ codes "reply ended\n" ∷ codes "message too long 16777217\n" ∷ []
unfolding encode_with digits
rejections_are_told = refl
