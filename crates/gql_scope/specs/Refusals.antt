-- What refuses an operation before its fields are collected.
use Rattle.std.specs.Prelude.{◌⊎◌, List, [], ◌∷◌, IsTrue}
use Rattle.std.specs.List.{list_any}
use Rattle.request_model.specs.declared.document.VarDef.{VarDef}
use Rattle.request_model.specs.declared.flat.FlatFault.{FlatFault}
use Rattle.request_model.specs.declared.flat.FlatFault.TheVariants as fault
use Rattle.request_model.specs.Selection.{Fragment, Operation, Scope, IsReached, InReach, has_some}
use Rattle.gql_scope.specs.declared.walks.Check.{Check}
use Rattle.gql_scope.specs.declared.walks.Check.TheVariants as check
use Rattle.gql_scope.specs.Walks.{fails}

-- the check refuses the operation, or a fragment that it reaches
abbrev pub InReachFails : Check → Scope → Operation → Type 0
InReachFails c s o = InReach s.fragments o (fails c s)

abbrev pub HasStray : Scope → Operation → Type 0
HasStray s o = IsTrue (list_any (λ (v : VarDef). has_some v.directives) o.vars) ⊎ InReachFails check.Served s o

-- a fragment that the operation reaches reaches itself
abbrev pub HasFragmentCycle : Scope → Operation → Type 0
HasFragmentCycle s o = (f : Fragment) × IsReached s.fragments o.select f × IsReached s.fragments f.select f

abbrev pub Refuses : Scope → Operation → FlatFault → Type 0
Refuses s o fault.UnknownFragment = InReachFails check.Fragments s o
Refuses s o fault.FragmentCycle = HasFragmentCycle s o
Refuses s o fault.NoDirective = HasStray s o
Refuses s o fault.NotBoolean = InReachFails check.Booleans s o
Refuses s o _ = ⊥

abbrev pub refusals : List FlatFault
refusals = fault.UnknownFragment ∷ fault.FragmentCycle ∷ fault.NoDirective ∷ fault.NotBoolean ∷ []
