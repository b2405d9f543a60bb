pub mod DealtLemmas
