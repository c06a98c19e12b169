use Rattle.std.proofs.Common.{◌≡◌, List, ℕ, not, ◌==◌, refl, ap, rules}
use Rattle.std.specs.List.{filter}
use Rattle.std.proofs.lemmas.Fn.{filter_same}
use Rattle.connection_table.specs.declared.connection.Connection.{Connection}
use Rattle.connection_table.specs.Connected.{Connected}
use Rattle.connection_table.proofs.connection.Connection.forget.Goals as goal

with_numbers : ℕ → Connection → List ℕ → Connected
with_numbers n c live = record { number = n; phase = c.phase; queue = c.queue.texts; live = live }

pub returns : goal.returns
unfolding with_numbers
returns c =
    let left : c.retain.new.self.items ≡ filter (λ n. not (n == c.args.number)) c.args.self.now.live.items =
    filter_same _ _ _ (λ x b f' k. search rules) _ _ c.retain.ensures.filtered in
    record {
      is = λ n. ap (with_numbers n c.args.self.now) left;
      promises = refl;
      room = λ room. room;
    }
