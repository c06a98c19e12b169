use Rattle.std.proofs.Common.{◌≡◌, ◌++◌, map, drop}
use Rattle.role_model.specs.MetadataMeaning.{link_def}
use Rattle.metadata_read.proofs.meaning.push_links.Given as goal

-- what is there, before what is left
abbrev pub invariant-loop-link : goal.invariant-loop-link
invariant-loop-link l =
    let f = link_def l.tables l.table l.many in
    l.found ++ map f (drop l.link-index l.links) ≡ l.fn.found ++ map f l.links
