use Rattle.auth_cli.specs.NetRows.{use_no_net}
use Rattle.auth_cli.proofs.AskTruths.{asked_truth}
use Rattle.std.proofs.Common.{None, refl, sym, subst}
use Rattle.command_words.specs.Commands.{IsOfCommand, texts}
use Rattle.command_words.specs.declared.command.Command.TheVariants.{Check, Init, Ideal, Step, Shallow, Migrate, Prove, Verify, Audit, Library, Gen, Pieces, Fetch, Emit}
use Rattle.command_parts.specs.Statuses.{MayAnswer}
use Rattle.command_parts.proofs.Words.{counted, ends_known, reached_known, within}
use Rattle.auth_cli.proofs.carrying_out.carry_out_offline.Goals as goal

pub check_command-requires : goal.check_command-requires
check_command-requires g c = counted Check c.args.words.now refl (subst (λ command. IsOfCommand command (texts c.args.words.now)) c.in-Check.is c.requires.command)

pub returns-in-Check-clause-ends : goal.returns-in-Check-clause-ends
returns-in-Check-clause-ends g c = ends_known c.args.command Check (texts c.args.words.now) _ _ c.check_command.result c.in-Check.is c.check_command.ensures.ends

pub returns-in-Check-clause-possible : goal.returns-in-Check-clause-possible
returns-in-Check-clause-possible g c = subst (λ command. MayAnswer command c.check_command.result) (sym c.in-Check.is) c.check_command.ensures.possible

pub init_command-requires : goal.init_command-requires
init_command-requires g c = counted Init c.args.words.now refl (subst (λ command. IsOfCommand command (texts c.args.words.now)) c.in-Init.is c.requires.command)

pub returns-in-Init-clause-ends : goal.returns-in-Init-clause-ends
returns-in-Init-clause-ends g c = ends_known c.args.command Init (texts c.args.words.now) _ _ c.init_command.result c.in-Init.is c.init_command.ensures.ends

pub returns-in-Init-clause-possible : goal.returns-in-Init-clause-possible
returns-in-Init-clause-possible g c = subst (λ command. MayAnswer command c.init_command.result) (sym c.in-Init.is) c.init_command.ensures.possible

pub ideal_command-requires : goal.ideal_command-requires
ideal_command-requires g c = counted Ideal c.args.words.now refl (subst (λ command. IsOfCommand command (texts c.args.words.now)) c.in-Ideal.is c.requires.command)

pub returns-in-Ideal-clause-ends : goal.returns-in-Ideal-clause-ends
returns-in-Ideal-clause-ends g c = ends_known c.args.command Ideal (texts c.args.words.now) _ _ c.ideal_command.result c.in-Ideal.is c.ideal_command.ensures.ends

pub returns-in-Ideal-clause-possible : goal.returns-in-Ideal-clause-possible
returns-in-Ideal-clause-possible g c = subst (λ command. MayAnswer command c.ideal_command.result) (sym c.in-Ideal.is) c.ideal_command.ensures.possible

pub step_command-requires : goal.step_command-requires
step_command-requires g c = counted Step c.args.words.now refl (subst (λ command. IsOfCommand command (texts c.args.words.now)) c.in-Step.is c.requires.command)

pub returns-in-Step-clause-ends : goal.returns-in-Step-clause-ends
returns-in-Step-clause-ends g c = ends_known c.args.command Step (texts c.args.words.now) _ _ c.step_command.result c.in-Step.is c.step_command.ensures.ends

pub returns-in-Step-clause-possible : goal.returns-in-Step-clause-possible
returns-in-Step-clause-possible g c = subst (λ command. MayAnswer command c.step_command.result) (sym c.in-Step.is) c.step_command.ensures.possible

pub shallow_command-requires : goal.shallow_command-requires
shallow_command-requires g c = counted Shallow c.args.words.now refl (subst (λ command. IsOfCommand command (texts c.args.words.now)) c.in-Shallow.is c.requires.command)

pub returns-in-Shallow-clause-ends : goal.returns-in-Shallow-clause-ends
returns-in-Shallow-clause-ends g c = ends_known c.args.command Shallow (texts c.args.words.now) _ _ c.shallow_command.result c.in-Shallow.is c.shallow_command.ensures.ends

pub returns-in-Shallow-clause-possible : goal.returns-in-Shallow-clause-possible
returns-in-Shallow-clause-possible g c = subst (λ command. MayAnswer command c.shallow_command.result) (sym c.in-Shallow.is) c.shallow_command.ensures.possible

pub migrate_command-requires : goal.migrate_command-requires
migrate_command-requires g c = counted Migrate c.args.words.now refl (subst (λ command. IsOfCommand command (texts c.args.words.now)) c.in-Migrate.is c.requires.command)

pub returns-in-Migrate-clause-ends : goal.returns-in-Migrate-clause-ends
returns-in-Migrate-clause-ends g c = ends_known c.args.command Migrate (texts c.args.words.now) _ _ c.migrate_command.result c.in-Migrate.is c.migrate_command.ensures.ends

pub returns-in-Migrate-clause-possible : goal.returns-in-Migrate-clause-possible
returns-in-Migrate-clause-possible g c = subst (λ command. MayAnswer command c.migrate_command.result) (sym c.in-Migrate.is) c.migrate_command.ensures.possible

pub prove_command-requires : goal.prove_command-requires
prove_command-requires g c = counted Prove c.args.words.now refl (subst (λ command. IsOfCommand command (texts c.args.words.now)) c.in-Prove.is c.requires.command)

pub returns-in-Prove-clause-ends : goal.returns-in-Prove-clause-ends
returns-in-Prove-clause-ends g c = ends_known c.args.command Prove (texts c.args.words.now) _ _ c.prove_command.result c.in-Prove.is c.prove_command.ensures.ends

pub returns-in-Prove-clause-possible : goal.returns-in-Prove-clause-possible
returns-in-Prove-clause-possible g c = subst (λ command. MayAnswer command c.prove_command.result) (sym c.in-Prove.is) c.prove_command.ensures.possible

pub verify_command-requires-clause-least : goal.verify_command-requires-clause-least
verify_command-requires-clause-least g c = (within Verify c.args.words.now (subst (λ command. IsOfCommand command (texts c.args.words.now)) c.in-Verify.is c.requires.command)).0

pub verify_command-requires-clause-most : goal.verify_command-requires-clause-most
verify_command-requires-clause-most g c = (within Verify c.args.words.now (subst (λ command. IsOfCommand command (texts c.args.words.now)) c.in-Verify.is c.requires.command)).1

pub returns-in-Verify-clause-ends : goal.returns-in-Verify-clause-ends
returns-in-Verify-clause-ends g c = ends_known c.args.command Verify (texts c.args.words.now) _ _ c.verify_command.result c.in-Verify.is c.verify_command.ensures.ends

pub returns-in-Verify-clause-possible : goal.returns-in-Verify-clause-possible
returns-in-Verify-clause-possible g c = subst (λ command. MayAnswer command c.verify_command.result) (sym c.in-Verify.is) c.verify_command.ensures.possible

pub audit_command-requires : goal.audit_command-requires
audit_command-requires g c = counted Audit c.args.words.now refl (subst (λ command. IsOfCommand command (texts c.args.words.now)) c.in-Audit.is c.requires.command)

pub returns-in-Audit-clause-ends : goal.returns-in-Audit-clause-ends
returns-in-Audit-clause-ends g c = ends_known c.args.command Audit (texts c.args.words.now) _ _ c.audit_command.result c.in-Audit.is c.audit_command.ensures.ends

pub returns-in-Audit-clause-possible : goal.returns-in-Audit-clause-possible
returns-in-Audit-clause-possible g c = subst (λ command. MayAnswer command c.audit_command.result) (sym c.in-Audit.is) c.audit_command.ensures.possible

pub returns-in-Check-clause-reached : goal.returns-in-Check-clause-reached
returns-in-Check-clause-reached g c = λ is. reached_known c.args.command Check (texts c.args.words.now) _ _ c.in-Check.is (c.check_command.ensures.reached is)

pub returns-in-Init-clause-reached : goal.returns-in-Init-clause-reached
returns-in-Init-clause-reached g c = λ is. reached_known c.args.command Init (texts c.args.words.now) _ _ c.in-Init.is (c.init_command.ensures.reached is)

pub returns-in-Ideal-clause-reached : goal.returns-in-Ideal-clause-reached
returns-in-Ideal-clause-reached g c = λ is. reached_known c.args.command Ideal (texts c.args.words.now) _ _ c.in-Ideal.is (c.ideal_command.ensures.reached is)

pub returns-in-Step-clause-reached : goal.returns-in-Step-clause-reached
returns-in-Step-clause-reached g c = λ is. reached_known c.args.command Step (texts c.args.words.now) _ _ c.in-Step.is (c.step_command.ensures.reached is)

pub returns-in-Shallow-clause-reached : goal.returns-in-Shallow-clause-reached
returns-in-Shallow-clause-reached g c = λ is. reached_known c.args.command Shallow (texts c.args.words.now) _ _ c.in-Shallow.is (c.shallow_command.ensures.reached is)

pub returns-in-Migrate-clause-reached : goal.returns-in-Migrate-clause-reached
returns-in-Migrate-clause-reached g c = λ is. reached_known c.args.command Migrate (texts c.args.words.now) _ _ c.in-Migrate.is (c.migrate_command.ensures.reached is)

pub returns-in-Prove-clause-reached : goal.returns-in-Prove-clause-reached
returns-in-Prove-clause-reached g c = λ is. reached_known c.args.command Prove (texts c.args.words.now) _ _ c.in-Prove.is (c.prove_command.ensures.reached is)

pub returns-in-Verify-clause-reached : goal.returns-in-Verify-clause-reached
returns-in-Verify-clause-reached g c = λ is. reached_known c.args.command Verify (texts c.args.words.now) _ _ c.in-Verify.is (c.verify_command.ensures.reached is)

pub returns-in-Audit-clause-reached : goal.returns-in-Audit-clause-reached
returns-in-Audit-clause-reached g c = λ is. reached_known c.args.command Audit (texts c.args.words.now) _ _ c.in-Audit.is (c.audit_command.ensures.reached is)

pub library_command-requires : goal.library_command-requires
library_command-requires g c = counted Library c.args.words.now refl (subst (λ command. IsOfCommand command (texts c.args.words.now)) c.in-Library.is c.requires.command)

pub returns-in-Library-clause-ends : goal.returns-in-Library-clause-ends
returns-in-Library-clause-ends g c = ends_known c.args.command Library (texts c.args.words.now) _ _ c.library_command.result c.in-Library.is (c.library_command.ensures.ends (record { contents = _; stores = _; written = None; read_faults = _; store_faults = _; write_faults = 0 }))

pub returns-in-Library-clause-possible : goal.returns-in-Library-clause-possible
returns-in-Library-clause-possible g c = subst (λ command. MayAnswer command c.library_command.result) (sym c.in-Library.is) c.library_command.ensures.possible

pub returns-in-Library-clause-reached : goal.returns-in-Library-clause-reached
returns-in-Library-clause-reached g c = λ is. absurd (subst (MayAnswer Library) is c.library_command.ensures.possible)

pub gen_command-requires : goal.gen_command-requires
gen_command-requires g c = counted Gen c.args.words.now refl (subst (λ command. IsOfCommand command (texts c.args.words.now)) c.in-Gen.is c.requires.command)

pub returns-in-Gen-clause-ends : goal.returns-in-Gen-clause-ends
returns-in-Gen-clause-ends g c = ends_known c.args.command Gen (texts c.args.words.now) _ _ c.gen_command.result c.in-Gen.is (c.gen_command.ensures.ends (record { contents = _; stores = _; written = None; read_faults = _; store_faults = _; write_faults = 0 }))

pub returns-in-Gen-clause-possible : goal.returns-in-Gen-clause-possible
returns-in-Gen-clause-possible g c = subst (λ command. MayAnswer command c.gen_command.result) (sym c.in-Gen.is) c.gen_command.ensures.possible

pub returns-in-Gen-clause-reached : goal.returns-in-Gen-clause-reached
returns-in-Gen-clause-reached g c = λ is. absurd (subst (MayAnswer Gen) is c.gen_command.ensures.possible)

pub pieces_command-requires : goal.pieces_command-requires
pieces_command-requires g c = counted Pieces c.args.words.now refl (subst (λ command. IsOfCommand command (texts c.args.words.now)) c.in-Pieces.is c.requires.command)

pub returns-in-Pieces-clause-ends : goal.returns-in-Pieces-clause-ends
returns-in-Pieces-clause-ends g c = ends_known c.args.command Pieces (texts c.args.words.now) _ _ c.pieces_command.result c.in-Pieces.is c.pieces_command.ensures.ends

pub returns-in-Pieces-clause-possible : goal.returns-in-Pieces-clause-possible
returns-in-Pieces-clause-possible g c = subst (λ command. MayAnswer command c.pieces_command.result) (sym c.in-Pieces.is) c.pieces_command.ensures.possible

pub returns-in-Pieces-clause-reached : goal.returns-in-Pieces-clause-reached
returns-in-Pieces-clause-reached g c = λ is. reached_known c.args.command Pieces (texts c.args.words.now) _ _ c.in-Pieces.is (c.pieces_command.ensures.reached is)

pub fetch_command-requires : goal.fetch_command-requires
fetch_command-requires g c = counted Fetch c.args.words.now refl (subst (λ command. IsOfCommand command (texts c.args.words.now)) c.in-Fetch.is c.requires.command)

pub returns-in-Fetch-clause-ends : goal.returns-in-Fetch-clause-ends
returns-in-Fetch-clause-ends g c = ends_known c.args.command Fetch (texts c.args.words.now) _ _ c.fetch_command.result c.in-Fetch.is c.fetch_command.ensures.ends

pub returns-in-Fetch-clause-possible : goal.returns-in-Fetch-clause-possible
returns-in-Fetch-clause-possible g c = subst (λ command. MayAnswer command c.fetch_command.result) (sym c.in-Fetch.is) c.fetch_command.ensures.possible

pub returns-in-Fetch-clause-reached : goal.returns-in-Fetch-clause-reached
returns-in-Fetch-clause-reached g c = λ is. reached_known c.args.command Fetch (texts c.args.words.now) _ _ c.in-Fetch.is (c.fetch_command.ensures.reached is)

pub emit_command-requires : goal.emit_command-requires
emit_command-requires g c = counted Emit c.args.words.now refl (subst (λ command. IsOfCommand command (texts c.args.words.now)) c.in-Emit.is c.requires.command)

pub returns-in-Emit-clause-ends : goal.returns-in-Emit-clause-ends
returns-in-Emit-clause-ends g c = ends_known c.args.command Emit (texts c.args.words.now) _ _ c.emit_command.result c.in-Emit.is c.emit_command.ensures.ends

pub returns-in-Emit-clause-possible : goal.returns-in-Emit-clause-possible
returns-in-Emit-clause-possible g c = subst (λ command. MayAnswer command c.emit_command.result) (sym c.in-Emit.is) c.emit_command.ensures.possible

pub returns-in-Emit-clause-reached : goal.returns-in-Emit-clause-reached
returns-in-Emit-clause-reached g c = λ is. reached_known c.args.command Emit (texts c.args.words.now) _ _ c.in-Emit.is (c.emit_command.ensures.reached is)
