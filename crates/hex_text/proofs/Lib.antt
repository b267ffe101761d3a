pub mod RoundTrips
pub mod DecodeSteps
