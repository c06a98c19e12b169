use Rattle.hub.proofs.Readings.{says_said}
use Rattle.hub.proofs.reading.Said.read.Goals as goal

pub returns : goal.returns
returns c =
    let parts = c.in_ok-parts.parts in
    says_said c.args.text.now parts.msg parts.selection c.in_ok-parts.ensures.meant c.in_ok-parts.ensures.read
