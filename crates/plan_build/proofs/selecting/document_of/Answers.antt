use Rattle.std.proofs.Common.{◌≡◌, ◌∙◌, ap, Result, Err}
use Rattle.request_model.specs.declared.document.Document.{Document}
use Rattle.query_model.specs.declared.fault.AdmitFault.{AdmitFault}
use Rattle.plan_build.proofs.SelectRules.{unread_so}
use Rattle.plan_build.proofs.selecting.document_of.Goals as goal

same : (x y : AdmitFault) → ◌≡◌ {A = Result Document AdmitFault} (Err x) (Err y) → x ≡ y
same x y e = cc

pub returns-in-Err-Syntax-clause-refused : goal.returns-in-Err-Syntax-clause-refused
returns-in-Err-Syntax-clause-refused c fault e operation values =
    unread_so _ operation values c.in-Err-Syntax.at fault (c.syntax_fault.ensures fault (same _ _ e))
    (c.parse.ensures.first _ (c.in-Err-Syntax.is ∙ ap Err c.in-Err-Syntax.field-0-is))
