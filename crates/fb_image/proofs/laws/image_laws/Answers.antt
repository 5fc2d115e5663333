use Rattle.fb_image.proofs.Readings.{found, again, one, extra}
use Rattle.fb_image.proofs.Cut.{is_cut}
use Rattle.fb_image.proofs.laws.image_laws.Goals as goal

pub returns-clause-found : goal.returns-clause-found
returns-clause-found c = found

pub returns-clause-again : goal.returns-clause-again
returns-clause-again c = again

pub returns-clause-one : goal.returns-clause-one
returns-clause-one c = one

pub returns-clause-cut : goal.returns-clause-cut
returns-clause-cut c = is_cut

pub returns-clause-extra : goal.returns-clause-extra
returns-clause-extra c = extra
