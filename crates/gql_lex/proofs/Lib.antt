pub mod StringLemmas
pub mod RunLemmas
pub mod SpanLemmas
