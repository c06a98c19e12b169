-- Values of the session that are read slot by slot.
use Rattle.std.proofs.Common.{◌≡◌, List, [], ◌∷◌, ◌++◌, append_assoc, Result, Ok, Err, refl, ap}
use Rattle.query_model.specs.declared.fault.QueryFault.{QueryFault}
use Rattle.query_model.specs.declared.session.SessionValue.{SessionValue}
use Rattle.query_model.specs.Admission.{with_slot}

-- what was read, before what is left
abbrev pub after_values : List SessionValue → Result (List SessionValue) QueryFault → Result (List SessionValue) QueryFault
after_values done (Ok xs) = Ok (done ++ xs)
after_values done (Err e) = Err e

pub no_values_yet : (rest : Result (List SessionValue) QueryFault) → after_values [] rest ≡ rest
no_values_yet (Ok xs) = refl
no_values_yet (Err e) = refl

pub one_more_value : (done : List SessionValue) (x : SessionValue) (rest : Result (List SessionValue) QueryFault) →
    after_values done (with_slot (Ok x) rest) ≡ after_values (done ++ x ∷ []) rest
one_more_value done x (Ok xs) = ap Ok (simp append_assoc)
one_more_value done x (Err e) = refl
