use Rattle.ideal_meaning.proofs.Headline.{headline_of_frames, headline}
use Rattle.ideal_meaning.proofs.laws.headline.Goals as goal

pub returns : goal.returns
returns c = record { frames = headline_of_frames; file = headline }
