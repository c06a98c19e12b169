mod BareResults
mod SharedResults
mod SameTruths
mod SamePermissions
mod PlannedWanted
mod PlannedSelects
mod PlannedResults
