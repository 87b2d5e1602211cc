pub mod ExactSight
