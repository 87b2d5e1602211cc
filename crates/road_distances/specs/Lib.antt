pub mod RoadDistances
