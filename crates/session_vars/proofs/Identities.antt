-- An identity from what is kept of the headers.
use Rattle.std.proofs.Common.{◌≡◌, true, unwrap_or, codes, refl}
use Rattle.role_model.specs.Sessions.{is_trusted, identity_by, role_header}
use Rattle.role_model.specs.Texts.{Texts, value_of}
use Rattle.role_model.specs.declared.metadata.Metadata.{Metadata}
use Rattle.role_model.specs.declared.session.Identity.{Identity}
use Rattle.role_model.specs.declared.session.Identity.TheVariants.{Allowed}
use Rattle.session_vars.specs.Kept.{kept_of}
use Rattle.session_vars.specs.declared.headers.Headers.{Headers}
use Rattle.session_vars.proofs.Reading.{role_kept}

abbrev pub trusted_by : Headers → Identity
trusted_by headers = Allowed (record { role = unwrap_or (value_of role_header headers.vars) (codes "admin"); vars = headers.vars })

pub trusted_is : (m : Metadata) (found : Texts) → is_trusted m.secret found ≡ true → trusted_by (kept_of found) ≡ identity_by m found
trusted_is m found trusted = rw (trusted, role_kept found) refl
