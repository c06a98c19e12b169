use Rattle.std.proofs.Common.{◌≡◌, ◌∙◌, ℕ, List, true, sym, subst}
use Rattle.std.specs.Prelude.{codes}
use Rattle.std.specs.Str.{bytes_eq}
use Rattle.role_model.specs.MetadataMeaning.{metadata_of}
use Rattle.machine.specs.Script.{Heading}
use Rattle.subs_run.specs.declared.progress.Progress.{Progress}
use Rattle.subs_run.specs.declared.progress.Progress.TheVariants as progress
use Rattle.subs_run.specs.Progress.{StandsAt, Begins}
use Rattle.subs_run.proofs.Advances.{running_advances, begins, begins_stands}
use Rattle.subs_run.proofs.progress.advance.Goals as goal

pub returns-in-Running-clause-advances : goal.returns-in-Running-clause-advances
returns-in-Running-clause-advances g c meant reading st says =
    running_advances meant c.run_line.result c.args.progress.now c.in-Running.runner c.run_line.new.runner
    c.args.line.now reading c.args.out.now.items c.run_line.new.out.items c.in-Running.is st says
    (c.run_line.ensures.ran meant)

pub returns-in-Ok-clause-advances : goal.returns-in-Ok-clause-advances
returns-in-Ok-clause-advances g c meant reading st says =
    let here : reading ≡ Heading c.in-Heading.metadata.items =
    subst (λ (p : Progress). StandsAt p reading) c.in-Heading.is st in
    let same : bytes_eq c.args.line.now (codes "---") ≡ true =
    sym c.ends_metadata.ensures ∙ c.if-not-ends_metadata.false in
    begins meant reading c.in-Heading.metadata.items c.args.line.now
    (record { hub = c.in-Ok.hub; jobs = c.new.result }) c.args.out.now.items here same
    (subst (λ (xs : List ℕ). Begins (metadata_of xs) c.in-Ok.hub) c.deref.ensures.value c.in-Ok.ensures.began)
    c.new.ensures.items

pub returns-in-Ok-clause-stays : goal.returns-in-Ok-clause-stays
returns-in-Ok-clause-stays g c n few stand =
    begins_stands c.in-Heading.metadata.items (record { hub = c.in-Ok.hub; jobs = c.new.result }) n
    (subst (λ (xs : List ℕ). Begins (metadata_of xs) c.in-Ok.hub) c.deref.ensures.value c.in-Ok.ensures.began)
    c.new.ensures.items
