use Rattle.std.proofs.Common.{◌++◌, codes}
use Rattle.std.proofs.lemmas.Result.{on_ok_weaker}
use Rattle.json.specs.Print.{quoted}
use Rattle.ws_message.proofs.Appends.{one_more, two_more}
use Rattle.ws_message.proofs.server.write_error.Goals as goal

pub returns : goal.returns
returns c =
    let out = c.args.out.now.items in
    let first = codes "{\"type\":\"error\",\"id\":" ++ quoted c.args.id.now in
    let second = first ++ codes ",\"payload\":[{\"message\":" ++ quoted c.args.message.now in
    let third = second ++ codes ",\"extensions\":{\"code\":" ++ quoted c.args.code.now in
    let two = two_more out first (codes ",\"payload\":[{\"message\":") (quoted c.args.message.now) c.append_quoted.new.out.items c.append_quoted-2.new.out.items c.in_ok-append_quoted.ensures c.in_ok-append_quoted-2.ensures in
    let three = two_more out second (codes ",\"extensions\":{\"code\":") (quoted c.args.code.now) c.append_quoted-2.new.out.items c.append_quoted-3.new.out.items two c.in_ok-append_quoted-3.ensures in
    on_ok_weaker c.append.result (one_more out third (codes "}}]}") c.append_quoted-3.new.out.items c.append.new.out.items three) c.append.ensures
