pub mod Benches
pub mod BenchProofs
pub mod XorProofs
