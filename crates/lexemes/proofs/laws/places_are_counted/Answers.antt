use Rattle.lexemes.proofs.Counted.{places_are_counted}
use Rattle.lexemes.proofs.laws.places_are_counted.Goals as goal

pub returns : goal.returns
returns c = places_are_counted
