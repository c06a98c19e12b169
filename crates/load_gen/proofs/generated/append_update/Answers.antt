use Rattle.std.proofs.Common.{ap, refl, codes, decimal}
use Rattle.std.proofs.lemmas.Result.{IfOk-weaker}
use Rattle.wire_model.specs.Generated.{changed}
use Rattle.load_gen.proofs.Scripts.{five_behind}
use Rattle.load_gen.proofs.generated.append_update.Goals as goal

pub returns : goal.returns
returns c =
    IfOk-weaker c.append_line.result _ _
    (λ x last. five_behind c.args.out.now.items (codes "commit [{\"update\":\"user\",\"key\":{\"id\":")
    (decimal c.changed.result) (decimal (changed c.args.n c.args.round)) (codes "},\"set\":{\"name\":\"r")
    (decimal c.args.round) (decimal c.args.round) (codes "\"}}]") c.append.new.out.items
    c.append_number.new.out.items c.append-2.new.out.items c.append_number-2.new.out.items c.append_line.new.out.items
    (ap decimal c.changed.ensures) refl c.in_ok-append.ensures c.in_ok-append_number.ensures c.in_ok-append-2.ensures
    c.in_ok-append_number-2.ensures last) c.append_line.ensures
