use Rattle.std.proofs.Common.{◌≡◌, map, drop, is_some}
use Rattle.std.specs.List.{list_any}
use Rattle.std.specs.Str.{bytes_eq}
use Rattle.query_model.specs.Names.{argument, pair_name}
use Rattle.selection_check.proofs.pairs.has_name.Given as goal

abbrev pub invariant-loop-pair : goal.invariant-loop-pair
invariant-loop-pair l =
    let rest = drop l.pair-index l.pairs in
    record {
      among : list_any (bytes_eq l.name) (map pair_name rest) ≡ list_any (bytes_eq l.name) (map pair_name l.pairs);
      found : is_some (argument l.name rest) ≡ is_some (argument l.name l.pairs);
    }
