-- An owner is stray if it is the number of ranks or above. Assumes nothing.
use Rattle.links.specs.Owners.{stray_owner}
use Rattle.links.proofs.owners.stray_owner.Goals as goal

pub returns : goal.returns
unfolding stray_owner
returns c = c.any_from.ensures
