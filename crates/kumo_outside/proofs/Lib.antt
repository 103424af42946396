pub mod ContentLemmas
mod SearchLemmas
