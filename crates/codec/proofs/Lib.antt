-- Laws of loading, saving and telling, and that each public function has one outcome.
pub mod MoveLaws
pub mod TakeLaws
pub mod SaveLaws
pub mod TellLaws
pub mod Outcomes
pub mod RoundTrip
