pub mod FarmFlags
pub mod UnitsFollow
pub mod Cases
