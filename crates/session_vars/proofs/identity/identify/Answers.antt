use Rattle.std.proofs.Common.{[], sym, ◌∙◌, ap, option_map}
use Rattle.std.proofs.lemmas.Result.{IfOk-weaker}
use Rattle.serde_json.specs.View.{view}
use Rattle.role_model.specs.Sessions.{is_trusted, lowered, headers_of}
use Rattle.session_vars.proofs.Identities.{trusted_by, trusted_is}
use Rattle.session_vars.proofs.identity.identify.Goals as goal

pub returns-then-is_trusted : goal.returns-then-is_trusted
returns-then-is_trusted c =
    let found = lowered (headers_of (option_map (λ v. view v.now) c.args.payload)) [] in
    let trusted = ap (λ s. is_trusted s found) (sym c.secret.ensures) ∙ sym (c.is_trusted.ensures found c.in_ok-headers.ensures) ∙ c.if-is_trusted.true in
    IfOk-weaker c.trusted.result _ _ (λ identity told. told ∙ ap trusted_by c.in_ok-headers.ensures ∙ trusted_is c.args.meta.now found trusted) c.trusted.ensures
