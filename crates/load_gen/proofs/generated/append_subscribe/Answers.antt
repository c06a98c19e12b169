use Rattle.std.proofs.Common.{ap, refl, codes, decimal}
use Rattle.std.proofs.lemmas.Result.{IfOk-weaker}
use Rattle.wire_model.specs.Generated.{asked}
use Rattle.load_gen.proofs.Scripts.{five_behind}
use Rattle.load_gen.proofs.generated.append_subscribe.Goals as goal

pub returns : goal.returns
returns c =
    IfOk-weaker c.append_line.result _ _
    (λ x last. five_behind c.args.out.now.items (codes "recv ") (decimal c.args.conn) (decimal c.args.conn)
    (codes " {\"type\":\"subscribe\",\"id\":\"s\",\"payload\":{\"query\":\"subscription($i: Int!) { user_by_pk(id: $i) { id name } }\",\"variables\":{\"i\":")
    (decimal c.asked.result) (decimal (asked c.args.n c.args.conn)) (codes "}}}") c.append.new.out.items
    c.append_number.new.out.items c.append-2.new.out.items c.append_number-2.new.out.items c.append_line.new.out.items
    refl (ap decimal c.asked.ensures) c.in_ok-append.ensures c.in_ok-append_number.ensures c.in_ok-append-2.ensures
    c.in_ok-append_number-2.ensures last) c.append_line.ensures
