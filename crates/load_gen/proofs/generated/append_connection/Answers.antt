use Rattle.std.proofs.Common.{◌++◌, codes, decimal}
use Rattle.std.proofs.lemmas.Result.{IfOk-weaker}
use Rattle.wire_model.specs.Generated.{ended, subscribe_line}
use Rattle.load_gen.proofs.Scripts.{three_behind}
use Rattle.load_gen.proofs.generated.append_connection.Goals as goal

pub returns : goal.returns
returns c =
    IfOk-weaker c.append_subscribe.result _ _
    (λ x last. three_behind c.args.out.now.items (ended (codes "open " ++ decimal c.args.conn))
    (ended (codes "recv " ++ decimal c.args.conn ++ codes " {\"type\":\"connection_init\"}"))
    (ended (subscribe_line c.args.n c.args.conn)) c.append_open.new.out.items c.append_init.new.out.items
    c.append_subscribe.new.out.items c.in_ok-append_open.ensures c.in_ok-append_init.ensures last)
    c.append_subscribe.ensures
