pub mod RoadExports
