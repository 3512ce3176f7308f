pub mod BarrierLemmas
