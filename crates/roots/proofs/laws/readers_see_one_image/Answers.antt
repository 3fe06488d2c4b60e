use Rattle.roots.proofs.OneImage.{one_image}
use Rattle.roots.proofs.laws.readers_see_one_image.Goals as goal

pub returns : goal.returns
returns c = one_image
