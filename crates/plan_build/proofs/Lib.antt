pub mod Named
pub mod SelectRules
pub mod AdmitRules
pub mod BoundRules
pub mod MadeRules
pub mod RunRules
