-- Messages that speak of a name.
use Rattle.std.proofs.Common.{◌≡◌, ◌++◌, ◌∙◌, Result, OnOk, ap, sym}
use Rattle.std.proofs.lemmas.Result.{on_ok_weaker}
use Rattle.request_model.specs.Strings.{Text}
use Rattle.query_model.specs.declared.fault.FaultKind.{FaultKind}
use Rattle.query_model.specs.declared.fault.QueryFault.{QueryFault}
use Rattle.query_model.specs.Refusals.{naming, message_by, message_of}

-- what was put is the message, where the message of the kind is these words with the name
pub named : {E : Type 0} (r : Result (Unit {0}) E) (out old words name : Text) (k : FaultKind) (f : QueryFault) →
    message_by k f.at f.name ≡ naming words f.name → f.kind ≡ k → name ≡ f.name →
    OnOk r (out ≡ old ++ naming words name) → OnOk r (out ≡ old ++ message_of f)
named r out old words name k f m is n =
    on_ok_weaker r (λ e. e ∙ ap (λ x. old ++ naming words x) n ∙ ap (λ x. old ++ x) (sym (ap (λ x. message_by x f.at f.name) is ∙ m)))
