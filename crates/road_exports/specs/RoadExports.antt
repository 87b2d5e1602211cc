-- What the exported functions say of a file's road: the distance that it needs for a purpose, and whether the lister, the preview and the
-- van's marking take it.
use Rattle.std.specs.Prelude.{ℕ, ◌+◌, Bool, List, Ok}
use Rattle.terms.specs.Answers.{unless, Answer}
use Rattle.directions.specs.Directions.{driven_grade}
use Rattle.distance.specs.Distance.{required_distance}
use Rattle.road_distances.specs.RoadDistances.{road_grade}
use Rattle.file.specs.File.{road_in}
use Rattle.file.specs.Reading.{read_verdict, short_read_verdict}

-- the distance for a purpose in a direction, at the road's own speed and on the grade that it is marked with: refused as reading, then as
-- the required distance
unfoldable pub file_distance : List ℕ → Bool → ℕ → Answer
file_distance file back purpose =
    let r = road_in file in unless (read_verdict file) (required_distance r.speed purpose (driven_grade back (road_grade r back)))

-- the number of stations, refused as reading where no road over 8,000 m is taken
unfoldable pub short_stations : List ℕ → Answer
short_stations file = unless (short_read_verdict file) (Ok ((road_in file).length + 1))
