pub mod Mirroring
pub mod LaneComingBack
