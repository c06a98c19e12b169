use Rattle.hub.proofs.Numbered.{catalog_numbered}
use Rattle.hub.proofs.center.Hub.new.Goals as goal

pub new-requires : goal.new-requires
new-requires c = catalog_numbered c.catalog.result.now c.catalog.ensures.few c.catalog.ensures.sound
