use Rattle.grid_core.proofs.Tokens.{filled}
use Rattle.grid_core.proofs.token.padded.Goals as goal

pub returns : goal.returns
returns c = filled c.args.value c.args.count c.requires.count c.requires.fits
