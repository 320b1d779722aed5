use Rattle.std.proofs.Common.{◌≡◌, Option, Some, None, ◌∙◌, ap, bytes_eq, find, option_map, refl, rules, tests}
use Rattle.std.specs.Borrow.{Bor}
use Rattle.std.proofs.lemmas.Iterator.{YieldsList-from_slice}
use Rattle.std.proofs.lemmas.Iterator.Search.{find_from_yields_List}
use Rattle.clap.proofs.WalkLemmas.{find-map}
use Rattle.command_words.specs.Commands.{row_named}
use Rattle.command_words.specs.Rows.{row_of}
use Rattle.command_words.specs.declared.command.Row.{Row}
use Rattle.command_words.proofs.command.row_named.Goals as goal

read_out : (found : Option (Bor Row)) → option_map (λ row. row_of row.now) found ≡ option_map row_of (option_map (λ row. row.now) found)
read_out None = refl
read_out (Some row) = refl

pub returns : goal.returns
unfolding row_named
returns c =
    read_out c.find.result
    ∙ ap (option_map row_of)
    (find_from_yields_List (λ row. bytes_eq row.name.now c.args.name.now) _ _ c.find.result c.find.ensures.ran (YieldsList-from_slice c.commands.result.now cc)
    (λ x b q k. search (rules, tests)))
    ∙ find-map (λ row. bytes_eq row.name c.args.name.now) row_of c.commands.result.now
    ∙ ap (find (λ row. bytes_eq row.name c.args.name.now)) c.commands.ensures
