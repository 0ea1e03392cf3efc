-- The law of what the decode call makes of what the encode call reports.
pub mod RoundTrip
