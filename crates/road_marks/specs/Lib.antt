pub mod RoadMarks
