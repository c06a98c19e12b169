use Rattle.std.proofs.Common.{◌++◌, codes}
use Rattle.std.proofs.lemmas.Result.{on_ok_weaker}
use Rattle.json.specs.Print.{quoted}
use Rattle.ws_message.proofs.Appends.{one_more}
use Rattle.ws_message.proofs.server.write_complete.Goals as goal

pub returns : goal.returns
returns c =
    on_ok_weaker c.append.result
    (one_more c.args.out.now.items (codes "{\"type\":\"complete\",\"id\":" ++ quoted c.args.id.now) (codes "}") c.append_quoted.new.out.items c.append.new.out.items c.in_ok-append_quoted.ensures)
    c.append.ensures
