use Rattle.stored_farm.proofs.NumberForms.{number_fits}
use Rattle.stored_farm.proofs.depend_forms.fits.Goals as goal

pub returns : goal.returns
returns c = number_fits c.args.number c.ranges.number
