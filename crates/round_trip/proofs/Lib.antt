pub mod Numbers
pub mod FileBack
pub mod RoadBack
pub mod RoundTrip
