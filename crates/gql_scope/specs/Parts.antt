-- What stands in one selection.
use Rattle.std.specs.Prelude.{List}
use Rattle.request_model.specs.declared.document.Directive.{Directive}
use Rattle.request_model.specs.declared.document.Selection.{Selection}
use Rattle.request_model.specs.declared.document.Selection.TheFolds.{fold-Selection}
use Rattle.request_model.specs.Strings.{Text}
use Rattle.request_model.specs.Selection.{spreads_step, directives_step}

abbrev pub spreads_of : Selection → List Text
spreads_of = fold-Selection (List Text) spreads_step

abbrev pub directives_of : Selection → List Directive
directives_of = fold-Selection (List Directive) directives_step
