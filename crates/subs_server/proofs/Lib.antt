pub mod Porting
pub mod Reading
pub mod Starting
pub mod Serving
pub mod Working
